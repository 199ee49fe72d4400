-- Replies in their memory. Assumes nothing.
--     framed      a header, a head and a text after one another are the frame of head and text
--     reply_fits  the longest reply has 86 bytes
--     onto_front  what is written onto the front of a memory is written onto the memory
use Rattle.std.proofs.Common.{◌≡◌, ℕ, ◌+◌, ◌/◌, ◌%◌, ◌≤◌, List, ◌∷◌, ◌++◌, length, take, drop, Ok, Err, Result, sym, refl, ap, ◌∙◌, subst, arith, append_assoc, length-append}
use Rattle.std.proofs.lemmas.List.{drop-drop, drop-append-le, length-take-le, take-append-drop}
use Rattle.line.specs.declared.fault.LineFault.{LineFault}
use Rattle.line.specs.declared.replies.Reply.{Reply}
use Rattle.line.specs.Replies.{Written, frame_of, onto}
use Rattle.line.specs.Serving.{reply_in, size_of}

pub framed : (out h t : List ℕ) → length h + length t ≤ 83 → Written (h ++ t) out (3 + (length h + length t)) (1 ∷ ((length h + length t) / 256) % 256 ∷ (length h + length t) % 256 ∷ (h ++ (t ++ drop (length t) (drop (length h) (drop 3 out)))))
framed out h t k =
    let l : length (h ++ t) ≡ length h + length t = length-append h t in
    let n : 3 + (length h + length t) ≡ length (frame_of (h ++ t)) = omega arith in
    let z : ((length h + length t) / 256) % 256 ≡ (length h + length t) / 256 = omega arith in
    let d : drop (length t) (drop (length h) (drop 3 out)) ≡ drop (3 + (length h + length t)) out = rw (drop-drop, drop-drop) refl in
    record { size = n; bytes = subst (λ (m : ℕ). 1 ∷ ((length h + length t) / 256) % 256 ∷ (length h + length t) % 256 ∷ (h ++ (t ++ drop (length t) (drop (length h) (drop 3 out)))) ≡ frame_of (h ++ t) ++ drop m out) n (simp (l, z, d, append_assoc)) }

pub onto_front : (m : ℕ) (bs out room : List ℕ) → m ≤ length out → length bs ≤ m → room ≡ onto bs (take m out) → room ++ drop m out ≡ onto bs out
onto_front m bs out room h k e =
    let j = length-take-le m out h in
    let l : length bs ≤ length (take m out) = omega arith in
    rw e (rw append_assoc (ap (λ x. bs ++ x) (sym (drop-append-le (length bs) (take m out) (drop m out) l) ∙ ap (drop (length bs)) (take-append-drop m out))))

-- no reply is longer than its memory
pub reply_fits : (k : ℕ) (r : Result Reply LineFault) → size_of r ≤ 81 → length (frame_of (reply_in k r)) ≤ 86
reply_fits k (Ok r) h = omega arith
reply_fits k (Err f) h = omega arith

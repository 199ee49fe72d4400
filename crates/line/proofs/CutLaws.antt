-- The turns over a part of an input are the beginning of the whole session. Assumes nothing.
--     still-within  what is written stays inside the reply memory
--     cuts          whatever bytes come after the part
use Rattle.std.proofs.Common.{◌≡◌, ℕ, zero, suc, ◌+◌, ◌≤◌, Bool, true, false, not, ◌&&◌, List, [], ◌++◌, length, take, drop, Some, None, Ok, Err, Option, Result, sym, refl, ap, ◌∙◌, arith}
use Rattle.std.proofs.lemmas.List.{append_assoc, append-nil, drop-drop, length-append, length-take-le, take-append-drop, take_at}
use Rattle.lock.specs.States.{BoxState}
use Rattle.line.specs.declared.fault.LineFault.{LineFault}
use Rattle.line.specs.declared.stream.Pause.{Pause}
use Rattle.line.specs.Messages.{Request}
use Rattle.line.specs.Reader.{next_of, place_of, size_in}
use Rattle.line.specs.Serving.{served}
use Rattle.line.specs.Sessions.{reply_to, refusal_to}
use Rattle.line.specs.Streams.{Turn, Turns, answer_at, goes_on, streamed, turn_of, turned, turned_by, waits_for}
use Rattle.line.specs.Courses.{Course, Cuts, behind, course, course_by, course_rest}
use Rattle.line.proofs.CourseLaws.{course-next, next_more, placed, size_kept}
use Rattle.line.proofs.StreamLaws.{answered_cases, same_turn, turn_by, turned_cases, written_in}

take-two : (out ys zs : List ℕ) (w : ℕ) → w ≤ length out → take (w + length ys) (take w out ++ (ys ++ zs)) ≡ take w out ++ ys
take-two out ys zs w h =
    let l = length-append (take w out) ys ∙ ap (λ n. n + length ys) (length-take-le w out h) in
    ap (take (w + length ys)) (sym (append_assoc (take w out) ys zs)) ∙ take_at (take w out ++ ys) zs (w + length ys) l

-- after an input that has ended nothing comes, and before that a rest that waits is left
found_more : (e : Bool) (rest xs : List ℕ) → (e ≡ true → xs ≡ []) → (not e && waits_for rest) ≡ false → next_of (rest ++ xs) ≡ next_of rest
found_more true rest xs k h = ap (λ y. next_of (rest ++ y)) (k refl) ∙ ap next_of (append-nil rest)
found_more false rest xs k h = next_more rest xs h

-- what a turn leaves of the session
abbrev leaves : List ℕ → List ℕ → Turn → Course
leaves bs xs t =
    behind (take t.written t.memory) (course_rest t.pause t.box (drop t.place bs ++ xs))

-- what there was to do before it
abbrev finds : List ℕ → List ℕ → Turn → Course
finds bs xs t = behind (take t.written t.memory) (course t.box (drop t.place bs ++ xs))

module _ (bs xs : List ℕ) (t : Turn) (h : t.written ≤ length t.memory) where
  abbrev rest : List ℕ
  rest = drop t.place bs

  same_front : take t.written t.memory ≡ take t.written (take t.written t.memory ++ drop t.written t.memory)
  same_front = ap (take t.written) (sym (take-append-drop t.written t.memory))

  by_next : (x : Result (Option Request) LineFault) → next_of (rest ++ xs) ≡ x → course t.box (rest ++ xs) ≡ course_by x t.box (λ b. course b (drop (3 + size_in (rest ++ xs)) (rest ++ xs)))
  by_next x e =
      course-next t.box (rest ++ xs)
      ∙ ap (λ y. course_by y t.box (λ b. course b (drop (3 + size_in (rest ++ xs)) (rest ++ xs)))) e

  found : (x : Result (Option Request) LineFault) → next_of rest ≡ x → next_of (rest ++ xs) ≡ x → finds bs xs t ≡ leaves bs xs (turn_by bs t x)
  found (Ok None) e k =
      let p : place_of t.place rest ≡ t.place = placed t.place rest _ e in
      ap (λ f. behind f (course t.box (rest ++ xs))) same_front
      ∙ ap (λ y. behind (take t.written (take t.written t.memory ++ drop t.written t.memory)) (course t.box (drop y bs ++ xs))) (sym p)
  found (Ok (Some q)) e k =
      let ys : List ℕ = reply_to t.box q in
      let b : BoxState = (served t.box q).after in
      let p : place_of t.place rest ≡ t.place + 3 + size_in rest = placed t.place rest _ e in
      let s : t.place + (3 + size_in rest) ≡ place_of t.place rest = omega (arith, p) in
      let d : drop (3 + size_in rest) rest ≡ drop (place_of t.place rest) bs = drop-drop (3 + size_in rest) t.place bs ∙ ap (λ n. drop n bs) s in
      let f = take-two t.memory ys (drop (length ys) (drop t.written t.memory)) t.written h in
      let c : Course = course b (drop (place_of t.place rest) bs ++ xs) in
      ap (behind (take t.written t.memory)) (by_next (Ok (Some q)) k)
      ∙ (ap (λ l. behind (take t.written t.memory) (behind ys (course b l))) (size_kept rest xs q e ∙ ap (λ l. l ++ xs) d)
      ∙ (ap (λ l. record { replies = l; box = c.box }) (sym (append_assoc (take t.written t.memory) ys c.replies))
      ∙ ap (λ l. behind l c) (sym f)))
  found (Err x) e k =
      let ys : List ℕ = refusal_to x in
      let f = take-two t.memory ys (drop (length ys) (drop t.written t.memory)) t.written h in
      ap (behind (take t.written t.memory)) (by_next (Err x) k)
      ∙ (ap (λ l. record { replies = l; box = t.box }) (sym (append-nil (take t.written t.memory ++ ys)))
      ∙ ap (λ l. behind l (record { replies = []; box = t.box })) (sym f))

  module _ (e : Bool) (k : e ≡ true → xs ≡ []) where
    answering : (not e && waits_for rest) ≡ false → finds bs xs t ≡ leaves bs xs (turned_by (answer_at bs t).answer (answer_at bs t) t)
    answering z =
        answered_cases t.box t.place bs (drop t.written t.memory) (λ o. finds bs xs t ≡ leaves bs xs (turned_by o.answer o t))
        (λ _. ap (λ f. behind f (course t.box (rest ++ xs))) same_front)
        (found (next_of rest) refl (found_more e rest xs k z))

    one-turn : finds bs xs t ≡ leaves bs xs (turned e bs t)
    one-turn = turned_cases e bs t (λ u. finds bs xs t ≡ leaves bs xs u) (λ _. refl) answering

pub still-within : (e : Bool) (bs : List ℕ) (t : Turn) → t.written ≤ length t.memory → (turned e bs t).written ≤ length (turned e bs t).memory
still-within e bs t h =
    let i = written_in t.box t.place t.written bs (drop t.written t.memory) in
    let j = length-append (take t.written t.memory) (answer_at bs t).memory in
    let l = length-take-le t.written t.memory h in
    turned_cases e bs t (λ u. u.written ≤ length u.memory) (λ _. h) (λ _. omega arith)

onward : (bs xs : List ℕ) (t : Turn) (next : Turn → Turn) (p : Option Pause) → t.pause ≡ p → finds bs xs t ≡ leaves bs xs (next t) → leaves bs xs t ≡ leaves bs xs (goes_on p t next)
onward bs xs t next None e ih =
    ap (λ p. behind (take t.written t.memory) (course_rest p t.box (drop t.place bs ++ xs))) e ∙ ih
onward bs xs t next (Some p) e ih = refl

turns_leave : (n : ℕ) (e : Bool) (bs xs : List ℕ) (t : Turn) → (e ≡ true → xs ≡ []) → t.written ≤ length t.memory → finds bs xs t ≡ leaves bs xs (streamed n e bs t)
turns_leave zero e bs xs t k h = refl
turns_leave (suc n) e bs xs t k h =
    one-turn bs xs t h e k
    ∙ onward bs xs (turned e bs t) (streamed n e bs) (turned e bs t).pause refl
    (turns_leave n e bs xs (turned e bs t) k (still-within e bs t h))

pub cuts : (e : Bool) (bs : List ℕ) (b : BoxState) (at : ℕ) (out : List ℕ) (p : Pause) (w : ℕ) (b' : BoxState) (at' : ℕ) (out' : List ℕ) → Turns (streamed (suc (length bs)) e bs (turn_of 0 b at out)) (Some p) w b' at' out' → Cuts e bs b at p w b' at' out'
cuts e bs b at out p w b' at' out' s =
    let t : Turn = turn_of 0 b at out in
    let n : ℕ = suc (length bs) in
    record { whole = λ xs k. turns_leave n e bs xs t k (omega arith) ∙ sym (ap (leaves bs xs) (same_turn (streamed n e bs t) (Some p) w b' at' out' s)) }

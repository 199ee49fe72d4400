-- The loop over the turns of an input. Assumes nothing.
--     stops          a loop that stops with a turn
--     nearer         a turn that goes on brings the place nearer to the end of the input
--     goes_on_still  a loop that goes on after a turn
--     goes_on_lem    the same of a loop whose turns are counted
use Rattle.std.proofs.Common.{◌≡◌, ℕ, zero, suc, ◌+◌, ◌-◌, ◌<◌, ◌≤◌, Bool, List, length, drop, None, Some, Option, sym, refl, ap, ◌∙◌, subst, arith}
use Rattle.std.proofs.lemmas.List.{length-drop}
use Rattle.lock.specs.States.{BoxState}
use Rattle.line.specs.declared.stream.Pause.{Pause}
use Rattle.line.specs.Streams.{Turn, Turns, goes_on, streamed, turn_of, turned}
use Rattle.line.proofs.CutLaws.{still-within}
use Rattle.line.proofs.PauseLaws.{Reason, turn_goes}
use Rattle.line.proofs.StreamLaws.{same_turn}

goes_same : (p : Option Pause) (u : Turn) (f g : Turn → Turn) → (p ≡ None → f u ≡ g u) → goes_on p u f ≡ goes_on p u g
goes_same None u f g h = h refl
goes_same (Some p) u f g h = refl

module _ (e : Bool) (bs : List ℕ) where
  shortens : (t : Turn) → t.written ≤ length t.memory → (turned e bs t).pause ≡ None → length (drop (turned e bs t).place bs) < length (drop t.place bs)
  shortens t h k =
      subst (λ (x : Option Pause). Reason e bs t h x (turned e bs t)) k (turn_goes e bs t h).0

  -- as many turns as there are bytes, and one more, are enough
  enough : (n : ℕ) (t : Turn) → t.written ≤ length t.memory → length (drop t.place bs) < n → streamed (suc n) e bs t ≡ streamed n e bs t
  enough zero t h l = absurd (omega arith)
  enough (suc n) t h l =
      goes_same (turned e bs t).pause (turned e bs t) (streamed (suc n) e bs) (streamed n e bs)
      (λ k. let m = shortens t h k in enough n (turned e bs t) (still-within e bs t h) (omega arith))

  -- of a loop that began with t₀ and has come to t
  module _ (t t₀ : Turn) (h : t.written ≤ length t.memory) (inv : streamed (suc (length bs)) e bs t ≡ streamed (suc (length bs)) e bs t₀) (w : ℕ) (b : BoxState) (at : ℕ) (out : List ℕ) where
    pub stops : (p : Pause) → Turns (turned e bs t) (Some p) w b at out → Turns (streamed (suc (length bs)) e bs t₀) (Some p) w b at out
    stops p s =
        let j = ap (λ x. goes_on x (turned e bs t) (streamed (length bs) e bs)) s.pause in
        subst (λ (o : Turn). Turns o (Some p) w b at out) (j ∙ inv) s

    module _ (s : Turns (turned e bs t) None w b at out) where
      pub nearer : length (drop at bs) < length (drop t.place bs)
      nearer = let m = shortens t h (sym s.pause) in rw s.place m

      pub goes_on_still : streamed (suc (length bs)) e bs (turn_of w b at out) ≡ streamed (suc (length bs)) e bs t₀
      goes_on_still =
          let m = shortens t h (sym s.pause) in
          let l = length-drop t.place bs in
          ap (streamed (suc (length bs)) e bs) (same_turn (turned e bs t) None w b at out s)
          ∙ (enough (length bs) (turned e bs t) (still-within e bs t h) (omega arith)
          ∙ (ap (λ x. goes_on x (turned e bs t) (streamed (length bs) e bs)) s.pause ∙ inv))

-- of a loop that began with t₀ and has come to t, with i turns done of one more than the input has bytes
module _ (i : ℕ) (e : Bool) (bs : List ℕ) (t t₀ : Turn) (inv : streamed (suc (length bs) - i) e bs t ≡ streamed (suc (length bs)) e bs t₀) where
  module _ (h : i < length bs + 1) (q : Option Pause) (w : ℕ) (b : BoxState) (at : ℕ) (out : List ℕ) (s : Turns (turned e bs t) q w b at out) where
    more : streamed (suc (suc (length bs) - (i + 1))) e bs t ≡ streamed (suc (length bs)) e bs t₀
    more = let z : suc (suc (length bs) - (i + 1)) ≡ suc (length bs) - i = omega arith in ap (λ n. streamed n e bs t) z ∙ inv

    pub goes_on_lem : q ≡ None → streamed (suc (length bs) - (i + 1)) e bs (turn_of w b at out) ≡ streamed (suc (length bs)) e bs t₀
    goes_on_lem k =
        let n : ℕ = suc (length bs) - (i + 1) in
        let j = subst (λ (x : Option Pause). Turns (turned e bs t) x w b at out) k s in
        ap (streamed n e bs) (same_turn (turned e bs t) None w b at out j)
        ∙ (ap (λ x. goes_on x (turned e bs t) (streamed n e bs)) j.pause ∙ more)

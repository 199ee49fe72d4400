-- What holds when the turns over an input stop. Assumes nothing.
--     Reason, Goes  what a turn comes to; turn_goes says that each does
--     stops_left    what holds after turns that are as many as the bytes, and one more
use Rattle.std.proofs.Common.{◌≡◌, ℕ, zero, suc, ◌+◌, ◌<◌, ◌≤◌, Bool, true, false, cond, not, ◌&&◌, eqb, List, length, get_or, take, drop, Some, None, Ok, Err, Option, Result, sym, refl, ap, ◌∙◌, subst, arith}
use Rattle.std.proofs.lemmas.Bool.Decides.{nat_tests}
use Rattle.std.proofs.lemmas.List.{length-drop, take-append-drop}
use Rattle.lock.specs.States.{BoxState}
use Rattle.line.specs.declared.fault.LineFault.{LineFault}
use Rattle.line.specs.declared.stream.Pause.{Pause}
use Rattle.line.specs.declared.stream.Pause.TheVariants.{Room}
use Rattle.line.specs.Messages.{Request, message_of}
use Rattle.line.specs.Reader.{after_header, header_of, next_of, place_of, read_body, size_in}
use Rattle.line.specs.Streams.{Turn, Turns, goes_on, streamed, turn_of, turned, turned_by, waits_for}
use Rattle.line.specs.Pauses.{Awaits, Left, left_by}
use Rattle.line.proofs.CourseLaws.{next_fits, placed, waits_by}
use Rattle.line.proofs.CutLaws.{still-within}
use Rattle.line.proofs.StreamLaws.{answered_cases, same_turn, turn_by, turned_cases}

few_wait : (v l s : ℕ) → waits_by v l s ≡ true → l ≤ 86
few_wait v l s h = grind (arith, nat_tests)

none_waits : (v l s : ℕ) → l ≡ 0 → waits_by v l s ≡ true
none_waits v l s h = grind (arith, nat_tests)

body_some : (x : Result Request LineFault) → read_body x ≡ Ok None → ⊥
body_some (Ok q) k = cc
body_some (Err f) k = cc

after_some : (rest : List ℕ) (y : Result ℕ LineFault) → after_header rest y ≡ Ok None → ⊥
after_some rest (Ok n) k = body_some (message_of (take n (drop 3 rest))) k
after_some rest (Err f) k = cc

end_by : (rest : List ℕ) (z : Bool) → eqb (length rest) 0 ≡ z → cond z (Ok None) (after_header rest (header_of rest)) ≡ Ok None → length rest ≡ 0
end_by rest true e k = grind (arith, nat_tests)
end_by rest false e k = absurd (after_some rest (header_of rest) k)

-- the end is where no bytes are left
end_empty : (rest : List ℕ) → next_of rest ≡ Ok None → length rest ≡ 0
unfolding next_of
end_empty rest k = end_by rest (eqb (length rest) 0) refl k

awaits_open : (e : Bool) (rest : List ℕ) → (not e && waits_for rest) ≡ true → Awaits e rest
awaits_open true rest h = cc
awaits_open false rest h =
    record {
      waiting = λ _. h;
      spent = λ k. cc;
      few = few_wait (get_or rest 0 0) (length rest) (size_in rest) h;
    }

awaits_end : (e : Bool) (rest : List ℕ) → length rest ≡ 0 → Awaits e rest
awaits_end e rest h =
    record { waiting = λ _. none_waits (get_or rest 0 0) (length rest) (size_in rest) h; spent = λ _. h; few = omega arith }

module _ (e : Bool) (bs : List ℕ) (t : Turn) (h : t.written ≤ length t.memory) where
  -- a turn goes on with fewer bytes, or stops for its reason
  abbrev pub Reason : Option Pause → Turn → Type 0
  Reason None u = length (drop u.place bs) < length (drop t.place bs)
  Reason (Some p) u = left_by p e (drop u.place bs) (drop u.written u.memory)

  -- its place goes no way back, and it stops for want of room only where there is none
  abbrev pub Goes : Turn → Type 0
  Goes u =
      Reason u.pause u
      × (t.place ≤ length bs → u.place ≤ length bs)
      × (t.place ≤ u.place)
      × (u.pause ≡ Some Room → length (drop t.written t.memory) < 86)

  found : (x : Result (Option Request) LineFault) → next_of (drop t.place bs) ≡ x → Goes (turn_by bs t x)
  found (Ok None) k =
      let p : place_of t.place (drop t.place bs) ≡ t.place = placed t.place (drop t.place bs) _ k in
      let l : length (drop (place_of t.place (drop t.place bs)) bs) ≡ 0 = ap (λ n. length (drop n bs)) p ∙ end_empty (drop t.place bs) k in
      (awaits_end e (drop (place_of t.place (drop t.place bs)) bs) l, λ i. omega (arith, p), omega (arith, p), λ i. cc)
  found (Ok (Some q)) k =
      let p : place_of t.place (drop t.place bs) ≡ t.place + 3 + size_in (drop t.place bs) = placed t.place (drop t.place bs) _ k in
      let f = next_fits (drop t.place bs) q k in
      let l = length-drop t.place bs in
      let m = length-drop (place_of t.place (drop t.place bs)) bs in
      (omega arith, λ i. omega arith, omega arith, λ i. cc)
  found (Err x) k =
      let p : place_of t.place (drop t.place bs) ≡ t.place = placed t.place (drop t.place bs) _ k in
      (tt, λ i. omega (arith, p), omega (arith, p), λ i. cc)

  pub turn_goes : Goes (turned e bs t)
  turn_goes =
      turned_cases e bs t Goes (λ z. (awaits_open e (drop t.place bs) z, λ i. i, omega arith, λ i. cc))
      (λ z. answered_cases t.box t.place bs (drop t.written t.memory) (λ o. Goes (turned_by o.answer o t))
      (λ l. let m = ap (λ x. length (drop t.written x)) (take-append-drop t.written t.memory) in (omega arith, λ i. i, omega arith, λ i. l))
      (found (next_of (drop t.place bs)) refl))

-- what holds at a stop, of a turn after t
abbrev Stops : Bool → List ℕ → Turn → Turn → Type 0
Stops e bs t u =
    (u.written ≤ length u.memory)
    × (t.place ≤ length bs → u.place ≤ length bs)
    × ((p : Pause) → u.pause ≡ Some p → left_by p e (drop u.place bs) (drop u.written u.memory))
    × (t.place ≤ u.place)
    × (u.pause ≡ Some Room → 86 ≤ length (drop t.written t.memory) → t.place < u.place)

module _ (e : Bool) (bs : List ℕ) (t u : Turn) (h : t.written ≤ length t.memory) (n : ℕ) (l : length (drop t.place bs) < suc n) (s : u.written ≤ length u.memory) (g : Goes e bs t h u) (next : Turn → Turn) where
  onward : (p : Option Pause) → u.pause ≡ p → (length (drop u.place bs) < n → Stops e bs u (next u)) → Stops e bs t (goes_on p u next)
  onward None k ih =
      let r = subst (λ (x : Option Pause). Reason e bs t h x u) k g.0 in
      let i = ih (omega arith) in
      let a = length-drop t.place bs in
      let b = length-drop u.place bs in
      let m : t.place < (next u).place = omega (arith, i.3) in
      (i.0, λ j. i.1 (g.1 j), i.2, omega arith, λ j r'. m)
  onward (Some p) k ih =
      (s, g.1, λ q j. subst (λ (x : Option Pause). Reason e bs t h x u) j g.0, g.2, λ j r. let m = g.3 j in absurd (omega arith))

turns_stop : (n : ℕ) (e : Bool) (bs : List ℕ) (t : Turn) → t.written ≤ length t.memory → length (drop t.place bs) < n → Stops e bs t (streamed n e bs t)
turns_stop zero e bs t h l = absurd (omega arith)
turns_stop (suc n) e bs t h l =
    let s = still-within e bs t h in
    onward e bs t (turned e bs t) h n l s (turn_goes e bs t h) (streamed n e bs) (turned e bs t).pause refl
    (λ m. turns_stop n e bs (turned e bs t) s m)

pub stops_left : (e : Bool) (bs : List ℕ) (b : BoxState) (at : ℕ) (out : List ℕ) (p : Pause) (w : ℕ) (b' : BoxState) (at' : ℕ) (out' : List ℕ) → Turns (streamed (suc (length bs)) e bs (turn_of 0 b at out)) (Some p) w b' at' out' → Left e bs at out p w at' out'
stops_left e bs b at out p w b' at' out' s =
    let t : Turn = turn_of 0 b at out in
    let n : ℕ = suc (length bs) in
    let l : length (drop at bs) < n = simp length-drop (omega arith) in
    let i = turns_stop n e bs t (omega arith) l in
    let q = same_turn (streamed n e bs t) (Some p) w b' at' out' s in
    let j = subst (λ (u : Turn). Stops e bs t u) (sym q) i in
    record { within = j.0; inside = j.1; reason = j.2 p refl; moves = λ r l. j.4 (ap Some r) l }

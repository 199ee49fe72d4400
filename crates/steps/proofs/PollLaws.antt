-- What the questions of a poll say of the seat. Assumes nothing.
--     ready_from_ranged           the numbers are such that every step can be taken; low_from_ranged, the height is 1 at least
--     step_refused, poll_refused  what is refused changes nothing
--     does_poll                   a step that was due does what the poll does
use Rattle.std.proofs.Common.{◌≡◌, ℕ, ◌≤◌, true, List, length, Some, None, Ok, Err, Option, Result, sym, refl, ap, ◌∙◌, arith}
use Rattle.std.proofs.lemmas.Bool.Decides.{nat_tests}
use Rattle.layout.specs.declared.fault.Refusal.{Refusal}
use Rattle.layout.specs.declared.path.Meeting.{Meeting}
use Rattle.layout.specs.Meetings.{meeting}
use Rattle.seats.specs.declared.place.Place.{Place}
use Rattle.seats.specs.declared.seat.Seat.{Seat}
use Rattle.seats.specs.Lawful.{ranged}
use Rattle.steps.specs.declared.codes.Coin.{Coin}
use Rattle.steps.specs.Outcomes.{Outcome, Does, Ready}
use Rattle.steps.specs.Polls.{Due, coin_of, step_of, stepped, state_answered, state_told, poll_after, poll_refusal, polled_seat}

pub ready_from_ranged : (w : ℕ) (s : Seat) → ranged w s ≡ true → Ready w s
ready_from_ranged w s l =
    record {
      passage = grind (arith, nat_tests);
      height = grind (arith, nat_tests);
      aim = grind (arith, nat_tests);
      scan = grind (arith, nat_tests);
      noted = record { first = grind (arith, nat_tests); second = grind (arith, nat_tests); third = grind (arith, nat_tests); fourth = grind (arith, nat_tests) };
      kept = grind (arith, nat_tests);
    }

pub low_from_ranged : (w : ℕ) (s : Seat) → ranged w s ≡ true → 1 ≤ s.height
low_from_ranged w s l = grind (arith, nat_tests)

-- a step that was due does what the poll does
pub does_poll : (w p n k : ℕ) (s : Seat) (ws : List ℕ) (size : ℕ) (m : Meeting) (c : Coin) (r : Result (Unit {0}) Refusal) (vs : List ℕ) (t : Seat) → size ≡ length ws → Due w p n k s size m c → Does (step_of s.place c m s ws) r vs t → Does (polled_seat w p n k s ws) (state_answered r t) vs t
unfolding stepped polled_seat
does_poll w p n k s ws size m c r vs t e u d =
    let o : Outcome (Unit {0}) = step_of s.place c m s ws in
    let q : polled_seat w p n k s ws ≡ state_told o =
    ap (λ x. poll_after (poll_refusal w p n k s x) w p k s ws) (sym e)
    ∙ (ap (λ x. poll_after x w p k s ws) u.accepted
    ∙ (ap (λ x. state_told (step_of s.place x (meeting w p s.height) s ws)) (sym u.coin)
    ∙ ap (λ x. state_told (step_of s.place c x s ws)) (sym u.meets))) in
    record {
      answer = ap (λ x. state_answered x t) d.answer ∙ (ap (λ x. state_answered o.answer x) d.seat ∙ sym (ap (λ x. x.answer) q));
      cells = d.cells ∙ sym (ap (λ x. x.cells) q);
      seat = d.seat ∙ sym (ap (λ x. x.seat) q);
    }

-- a refused step leaves the cells and the seat as it found them
pub step_refused : (x : Place) (c : Coin) (m : Meeting) (s : Seat) (ws : List ℕ) (f : Refusal) → (step_of x c m s ws).answer ≡ Err f → ((step_of x c m s ws).cells ≡ ws) × ((step_of x c m s ws).seat ≡ s)
step_refused x c m s ws f e = (grind arith, grind arith)

module _ (w p k : ℕ) (s : Seat) (ws : List ℕ) (f : Refusal) where
  unstated : (a : Result (Unit {0}) Refusal) (t : Seat) → state_answered a t ≡ Err f → a ≡ Err f
  unstated (Ok u) t e = let z : ◌≡◌ {A = ℕ} 0 1 = cc in absurd (omega arith)
  unstated (Err g) t e = cc

  after_refused : (o : Option Refusal) → (poll_after o w p k s ws).answer ≡ Err f → ((poll_after o w p k s ws).cells ≡ ws) × ((poll_after o w p k s ws).seat ≡ s)
  unfolding stepped
  after_refused (Some g) e = (refl, refl)
  after_refused None e =
      let o : Outcome (Unit {0}) = step_of s.place (coin_of k) (meeting w p s.height) s ws in
      step_refused s.place (coin_of k) (meeting w p s.height) s ws f (unstated o.answer o.seat e)

-- a refused poll leaves the cells and the seat as it found them
pub poll_refused : (w p n k : ℕ) (s : Seat) (ws : List ℕ) (f : Refusal) → (polled_seat w p n k s ws).answer ≡ Err f → ((polled_seat w p n k s ws).cells ≡ ws) × ((polled_seat w p n k s ws).seat ≡ s)
unfolding polled_seat
poll_refused w p n k s ws f e = after_refused w p k s ws f (poll_refusal w p n k s (length ws)) e

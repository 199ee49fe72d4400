-- Known values of the definitions that the contracts cite. Assumes nothing.
--     alone_after w p k  the state of seat p, alone in a box of w ways, after its application and k polls with coin 0
--     Known              the values
use Rattle.std.specs.Prelude.{◌≡◌, ℕ, zero, suc, List, [], ◌∷◌, map, replicate, Some, None, Ok}
use Rattle.std.specs.List.{range_with_len}
use Rattle.layout.specs.Gates.{gate_of, way_of, cell_of, apply_cell, seats_of, gates_of, cells_of}
use Rattle.seats.specs.declared.place.Place.TheVariants.{ClaimApply}
use Rattle.seats.specs.declared.seat.Seat.{Seat}
use Rattle.seats.specs.Places.{state_number}
use Rattle.seats.specs.Seats.{away}
use Rattle.steps.specs.Codes.{reg}
use Rattle.steps.specs.Pawns.{with_lane, collect_word, abort_of, promote_word, promote_of}
use Rattle.lock.specs.States.{BoxState, seat_at}
use Rattle.lock.specs.Calls.{cleared, applied, polled, given_up, gave_up_outcome}

-- a box that has just been opened, and that box after the application of seat p
abbrev pub fresh : ℕ → BoxState
fresh w = cleared w (replicate (seats_of w) away) (replicate (cells_of w) 0)

abbrev pub alone : (w p : ℕ) → BoxState
alone w p = (applied (fresh w) p).after

abbrev pub polled_alone : (p k : ℕ) → BoxState → BoxState
polled_alone p zero b = b
polled_alone p (suc k) b = polled_alone p k (polled b p 1 0).after

abbrev pub alone_after : (w p k : ℕ) → ℕ
alone_after w p k = state_number (seat_at (polled_alone p k (alone w p)) p).state

-- of every seat of a box of three ways
abbrev pub all_after : ℕ → List ℕ
all_after k = map (λ p. alone_after 3 p k) (range_with_len 0 9)

pub record Known : Type 0 where
  pub seats : map seats_of (2 ∷ 3 ∷ 4 ∷ []) ≡ 2 ∷ 9 ∷ 64 ∷ []
  pub gates : map gates_of (2 ∷ 3 ∷ 4 ∷ []) ≡ 1 ∷ 4 ∷ 21 ∷ []
  pub cells : map cells_of (2 ∷ 3 ∷ 4 ∷ []) ≡ 8 ∷ 40 ∷ 252 ∷ []
  pub gates27 : map (gate_of 4 27) (1 ∷ 2 ∷ 3 ∷ []) ≡ 6 ∷ 17 ∷ 20 ∷ []
  pub ways27 : map (way_of 4 27) (1 ∷ 2 ∷ 3 ∷ []) ≡ 3 ∷ 2 ∷ 1 ∷ []
  pub apply210 : cell_of 4 17 (apply_cell 2) ≡ 210
  pub reg5 : reg 5 ≡ 21
  pub reg5_way1 : with_lane 0 1 (reg 5) ≡ 1376256
  pub promoted : promote_of 1376271 4 ≡ Some (record { 0 = 1 }, record { 0 = 5 })
  pub promotes : promote_word 1376271 4 ≡ 1441807
  pub nobody : promote_of 1441807 4 ≡ None
  pub nobody_word : promote_word 1441807 4 ≡ 1441807
  pub abort_late : abort_of 1441807 1 5 ≡ None
  pub aborts : abort_of 1441807 0 7 ≡ Some 1441823
  pub collects : collect_word 15 4 (9 ∷ 0 ∷ 4 ∷ 0 ∷ []) ≡ 73014444047
  pub gives_up : (s : Seat) → s.place ≡ ClaimApply → s.top ≡ 0 → given_up s ≡ away
  pub gives_up_call : (gave_up_outcome (alone 4 5) 5 1).answer ≡ Ok 0
  pub gives_up_seat : seat_at (gave_up_outcome (alone 4 5) 5 1).after 5 ≡ away
  pub fifth : all_after 5 ≡ replicate 9 1
  pub sixth : all_after 6 ≡ replicate 9 2

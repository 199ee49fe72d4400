-- Seat records: the away seat, the changes that steps make, and the gates that a seat keeps. Fields not named stay.
-- Assumes nothing.
--     away              the seat that takes no part: every field is 0
--     goes_to s p       the seat at another place
--     moved s x p h t   the seat in state x, at place p and height h, with top t
--     aims s a          the seat with another aim
--     scans s j         the seat that reads the Apply of way j next
--     notes s ns        the seat with other noted numbers
--     keeps_for s j n   the seat with another kept way and kept number
--     marked s          the seat that has given up
--     hands_over s      the seat that has handed over
--     backed_out s      the seat that gives back what it won: leaving from height 1, or away if it won nothing
--     keeps_height s k  it keeps the gate that it meets at height k
use Rattle.std.specs.Prelude.{ℕ, Bool, true, false, cond, not, ◌&&◌, List, [], ◌∷◌, ◌==◌, nat_le, nat_lt}
use Rattle.seats.specs.declared.seat.Seat.{Seat}
use Rattle.seats.specs.declared.state.State.{State}
use Rattle.seats.specs.declared.state.State.TheVariants.{Away, Climbing, Holding, Leaving}
use Rattle.seats.specs.declared.place.Place.{Place}
use Rattle.seats.specs.declared.place.Place.TheVariants.{Rest, ReadRole}
use Rattle.seats.specs.Places.{within}

abbrev pub away : Seat
away =
    record { state = Away; place = Rest; height = 0; top = 0; aim = 0; passage = record { 0 = 0 }; gave_up = false; handed = false; scan = record { 0 = 0 }; noted = 0 ∷ 0 ∷ 0 ∷ 0 ∷ []; kept_way = record { 0 = 0 }; kept_number = record { 0 = 0 } }

abbrev pub moved : Seat → State → Place → ℕ → ℕ → Seat
moved s x p h t =
    record { state = x; place = p; height = h; top = t; aim = s.aim; passage = s.passage; gave_up = s.gave_up; handed = s.handed; scan = s.scan; noted = s.noted; kept_way = s.kept_way; kept_number = s.kept_number }

abbrev pub goes_to : Seat → Place → Seat
goes_to s p = moved s s.state p s.height s.top

abbrev pub aims : Seat → ℕ → Seat
aims s a =
    record { state = s.state; place = s.place; height = s.height; top = s.top; aim = a; passage = s.passage; gave_up = s.gave_up; handed = s.handed; scan = s.scan; noted = s.noted; kept_way = s.kept_way; kept_number = s.kept_number }

abbrev pub with_marks : Seat → Bool → Bool → Seat
with_marks s g d =
    record { state = s.state; place = s.place; height = s.height; top = s.top; aim = s.aim; passage = s.passage; gave_up = g; handed = d; scan = s.scan; noted = s.noted; kept_way = s.kept_way; kept_number = s.kept_number }

abbrev pub marked : Seat → Seat
marked s = with_marks s true s.handed

abbrev pub hands_over : Seat → Seat
hands_over s = with_marks s s.gave_up true

abbrev pub with_notes : Seat → ℕ → List ℕ → Seat
with_notes s j ns =
    record { state = s.state; place = s.place; height = s.height; top = s.top; aim = s.aim; passage = s.passage; gave_up = s.gave_up; handed = s.handed; scan = record { 0 = j }; noted = ns; kept_way = s.kept_way; kept_number = s.kept_number }

abbrev pub scans : Seat → ℕ → Seat
scans s j = with_notes s j s.noted

abbrev pub notes : Seat → List ℕ → Seat
notes s ns = with_notes s s.scan.0 ns

abbrev pub keeps_for : Seat → ℕ → ℕ → Seat
keeps_for s j n =
    record { state = s.state; place = s.place; height = s.height; top = s.top; aim = s.aim; passage = s.passage; gave_up = s.gave_up; handed = s.handed; scan = s.scan; noted = s.noted; kept_way = record { 0 = j }; kept_number = record { 0 = n } }

abbrev pub backed_out : Seat → Seat
backed_out s = cond (s.top == 0) away (moved s Leaving ReadRole 1 s.top)

-- by state: what it has won while climbing and holding, and what it has yet to give back while leaving
abbrev pub keeps_in : State → Seat → ℕ → Bool
keeps_in Away s k = false
keeps_in Climbing s k = within 1 s.top k
keeps_in Holding s k = within 1 s.top k
keeps_in Leaving s k = not s.handed && (nat_lt s.height k && nat_le k s.top)

abbrev pub keeps_height : Seat → ℕ → Bool
keeps_height s k = keeps_in s.state s k

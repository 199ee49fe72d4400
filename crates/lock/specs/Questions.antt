-- The questions that a call asks in turn: each gives the refusal of the first that is answered by no. Assumes nothing.
--     open_refusal w n k     1 to 3, for an opening with w ways over n seats and k cells
--     reach_refusal w n k p  2 to 4: the store has all the cells, the table all the seats, and p is one of them
--     enter_refusal b p      2 to 5: the record of seat p is lawful too
--     own_refusal b p n      2 to 6: the seat takes part, and n is its passage
--     apply_refusal, give_up_refusal, holder_refusal   all those of an application, a give-up, and a leave or a publish
--     Entered f b p r        the questions of refusal f were asked about seat p: r has its record, which is in the table, or f
use Rattle.std.specs.Prelude.{◌≡◌, ℕ, ◌<◌, Bool, not, ◌&&◌, length, Some, None, Option, MatchResult, Result, ◌==◌, nat_le, nat_lt}
use Rattle.layout.specs.declared.fault.Refusal.{Refusal}
use Rattle.layout.specs.declared.fault.BoxFault.{BoxFault}
use Rattle.layout.specs.Boxes.{ways_refusal}
use Rattle.layout.specs.Gates.{cells_of, seats_of}
use Rattle.layout.specs.Refusals.{refusal, refusal_of}
use Rattle.seats.specs.declared.seat.Seat.{Seat}
use Rattle.seats.specs.Lawful.{lawful}
use Rattle.seats.specs.Places.{state_number}
use Rattle.steps.specs.Polls.{ask, takes_part}
use Rattle.lock.specs.States.{BoxState, seat_at}

-- a first refusal, or what is asked next
abbrev pub or_else : Option Refusal → Option Refusal → Option Refusal
or_else None next = next
or_else (Some f) next = Some f

abbrev pub open_refusal : (w n k : ℕ) → Option Refusal
open_refusal w n k =
    or_else (ways_refusal w) (ask (nat_le (cells_of w) k) (refusal 2 0) (ask (nat_le (seats_of w) n) (refusal 3 0) None))

abbrev pub reach_refusal : (w n k p : ℕ) → Option Refusal
reach_refusal w n k p =
    ask (nat_le (cells_of w) k) (refusal 2 p)
    (ask (nat_le (seats_of w) n) (refusal 3 p) (ask (nat_lt p (seats_of w)) (refusal 4 p) None))

unfoldable pub enter_refusal : BoxState → ℕ → Option Refusal
enter_refusal b p =
    or_else (reach_refusal b.ways (length b.seats) (length b.cells) p)
    (ask (lawful b.ways (seat_at b p)) (refusal 5 p) None)

abbrev pub own_refusal : BoxState → (p n : ℕ) → Option Refusal
own_refusal b p n = or_else (enter_refusal b p) (ask (takes_part n (seat_at b p)) (refusal 6 p) None)

-- the state of a seat is the one of that number
abbrev pub is_in : ℕ → Seat → Bool
is_in x s = state_number s.state == x

abbrev pub apply_refusal : BoxState → ℕ → Option Refusal
apply_refusal b p =
    or_else (enter_refusal b p)
    (ask (is_in 0 (seat_at b p)) (refusal 7 p) (ask (nat_le b.next 16383) (refusal 8 p) None))

abbrev pub give_up_refusal : BoxState → (p n : ℕ) → Option Refusal
give_up_refusal b p n =
    or_else (own_refusal b p n) (ask (is_in 1 (seat_at b p) && not (seat_at b p).gave_up) (refusal 7 p) None)

abbrev pub holder_refusal : BoxState → (p n : ℕ) → Option Refusal
holder_refusal b p n = or_else (own_refusal b p n) (ask (is_in 2 (seat_at b p)) (refusal 7 p) None)

abbrev pub Entered : Option Refusal → BoxState → ℕ → Result Seat BoxFault → Type 0
Entered f b p r =
    MatchResult r (λ s. (f ≡ None) × (s ≡ seat_at b p) × (p < length b.seats)) (λ e. f ≡ Some (refusal_of e))

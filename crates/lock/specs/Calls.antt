-- What each call does to a box, for every state and every argument. Assumes nothing.
--     cleared w ts ws                   the box after an opening of w ways over a table and a store; Opens and Unopened, its two ends
--     applied b p                       an application of seat p; it answers the passage
--     polled b p n k                    a poll of seat p with passage n and coin k; it answers the state afterwards
--     gave_up_outcome, left, published  a give-up, a leave and a publish of seat p with passage n; they answer the state
--     looked b p                        a look at seat p: its state and its top
use Rattle.std.specs.Prelude.{◌≡◌, ℕ, ◌+◌, cond, List, ◌++◌, length, drop, replicate, Some, None, Ok, Err, Option, Result, ◌==◌, slice_set}
use Rattle.layout.specs.declared.fault.Refusal.{Refusal}
use Rattle.layout.specs.declared.record.BoxRecord.{BoxRecord}
use Rattle.layout.specs.Gates.{cells_of, seats_of}
use Rattle.seats.specs.declared.seat.Seat.{Seat}
use Rattle.seats.specs.declared.state.State.TheVariants.{Climbing, Leaving}
use Rattle.seats.specs.declared.place.Place.TheVariants.{ClaimApply, CloseApply, ReadRole}
use Rattle.seats.specs.Places.{state_number, place_number, within}
use Rattle.seats.specs.Seats.{away, moved, goes_to, marked, backed_out}
use Rattle.steps.specs.Outcomes.{Outcome}
use Rattle.steps.specs.Polls.{polled_seat}
use Rattle.lock.specs.States.{BoxState, CallOutcome, seat_at, with_seat, reseat, settled}
use Rattle.lock.specs.Questions.{open_refusal, reach_refusal, enter_refusal, apply_refusal, give_up_refusal, holder_refusal}

-- the box's cells are 0 and its seats away; later cells and seats stay, whatever they hold
abbrev pub cleared : ℕ → List Seat → List ℕ → BoxState
cleared w ts ws =
    record { ways = w; next = 1; seats = replicate (seats_of w) away ++ drop (seats_of w) ts; cells = replicate (cells_of w) 0 ++ drop (cells_of w) ws }

-- an opening over the table ts and the words ws made the record b, and left the table us and the words vs
pub record Opens (w : ℕ) (ts : List Seat) (ws : List ℕ) (b : BoxRecord) (us : List Seat) (vs : List ℕ) : Type 0 where
  pub accepted : open_refusal w (length ts) (length ws) ≡ None
  pub ways : b.ways.number ≡ (cleared w ts ws).ways
  pub next : b.next ≡ (cleared w ts ws).next
  pub seats : us ≡ (cleared w ts ws).seats
  pub cells : vs ≡ (cleared w ts ws).cells

-- it was refused with f, and changed nothing
pub record Unopened (w : ℕ) (ts : List Seat) (ws : List ℕ) (f : Refusal) (us : List Seat) (vs : List ℕ) : Type 0 where
  pub refused : open_refusal w (length ts) (length ws) ≡ Some f
  pub seats : us ≡ ts
  pub cells : vs ≡ ws

-- passage n begins: at place 2 of height 1, and all else is 0
abbrev pub climber : ℕ → Seat
climber n =
    record { state = Climbing; place = ClaimApply; height = 1; top = 0; aim = 0; passage = record { 0 = n }; gave_up = away.gave_up; handed = away.handed; scan = away.scan; noted = away.noted; kept_way = away.kept_way; kept_number = away.kept_number }

abbrev pub applied : BoxState → ℕ → CallOutcome ℕ
applied b p =
    settled b (apply_refusal b p) b.next
    (record { ways = b.ways; next = b.next + 1; seats = slice_set b.seats p (climber b.next); cells = b.cells })

-- a seat that is refused is put back as it was found
abbrev pub seat_settled : BoxState → ℕ → Result ℕ Refusal → Outcome ℕ → CallOutcome ℕ
seat_settled b p (Ok x) o = record { answer = Ok x; after = with_seat b p o.seat o.cells }
seat_settled b p (Err f) o = record { answer = Err f; after = b }

abbrev pub poll_settled : Option Refusal → BoxState → ℕ → Outcome ℕ → CallOutcome ℕ
poll_settled None b p o = seat_settled b p o.answer o
poll_settled (Some f) b p o = record { answer = Err f; after = b }

abbrev pub polled : BoxState → (p n k : ℕ) → CallOutcome ℕ
polled b p n k =
    poll_settled (reach_refusal b.ways (length b.seats) (length b.cells) p) b p
    (polled_seat b.ways p n k (seat_at b p) b.cells)

-- at place 2 the seat has nothing to withdraw; at 5 to 14 it aborts; at 16 the gate is its own already
abbrev pub given_up : Seat → Seat
given_up s =
    cond (place_number s.place == 2) (backed_out (marked s))
    (cond (within 5 14 (place_number s.place)) (goes_to (marked s) CloseApply) (marked s))

abbrev pub gave_up_outcome : BoxState → (p n : ℕ) → CallOutcome ℕ
gave_up_outcome b p n =
    settled b (give_up_refusal b p n) (state_number (given_up (seat_at b p)).state) (reseat b p (given_up (seat_at b p)))

abbrev pub departing : Seat → Seat
departing s = moved s Leaving ReadRole 1 s.top

abbrev pub left : BoxState → (p n : ℕ) → CallOutcome ℕ
left b p n = settled b (holder_refusal b p n) 3 (reseat b p (departing (seat_at b p)))

abbrev pub published : BoxState → (p n : ℕ) → CallOutcome ℕ
published b p n = settled b (holder_refusal b p n) 2 b

abbrev pub looked : BoxState → ℕ → CallOutcome (ℕ × ℕ)
looked b p = settled b (enter_refusal b p) (state_number (seat_at b p).state, (seat_at b p).top) b

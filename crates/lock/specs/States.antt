-- A box: its record, its seats and its cells; and what a call does to it. Assumes nothing.
--     BoxState         the ways, the next number, the seat table and the words of the store
--     state_of         the state of a box record, a table and a store's words
--     seat_at b p      the record of seat p
--     CallOutcome      what a call answers, and the state afterwards
--     Settles          a function answered and left what an outcome says
--     settled b f x a  a call on b: refused with f, if there is such an f, and then nothing changes; else x, leaving a
use Rattle.std.specs.Prelude.{◌≡◌, ℕ, List, Some, None, Ok, Err, Option, Result, slice_index_or, slice_set}
use Rattle.layout.specs.declared.fault.Refusal.{Refusal}
use Rattle.layout.specs.declared.record.BoxRecord.{BoxRecord}
use Rattle.seats.specs.declared.seat.Seat.{Seat}
use Rattle.seats.specs.Seats.{away}

pub record BoxState : Type 0 where
  pub ways : ℕ
  pub next : ℕ
  pub seats : List Seat
  pub cells : List ℕ

abbrev pub state_of : BoxRecord → List Seat → List ℕ → BoxState
state_of b ts ws = record { ways = b.ways.number; next = b.next; seats = ts; cells = ws }

abbrev pub seat_at : BoxState → ℕ → Seat
seat_at b p = slice_index_or b.seats p away

-- the box with another record for seat p, and with other cells
abbrev pub with_seat : BoxState → ℕ → Seat → List ℕ → BoxState
with_seat b p s ws = record { ways = b.ways; next = b.next; seats = slice_set b.seats p s; cells = ws }

abbrev pub reseat : BoxState → ℕ → Seat → BoxState
reseat b p s = with_seat b p s b.cells

pub record CallOutcome (A : Type 0) : Type 0 where
  pub answer : Result A Refusal
  pub after : BoxState

pub record Settles {A : Type 0} (o : CallOutcome A) (r : Result A Refusal) (b : BoxState) : Type 0 where
  pub answer : r ≡ o.answer
  pub ways : b.ways ≡ o.after.ways
  pub next : b.next ≡ o.after.next
  pub seats : b.seats ≡ o.after.seats
  pub cells : b.cells ≡ o.after.cells

abbrev pub settled : {A : Type 0} → BoxState → Option Refusal → A → BoxState → CallOutcome A
settled b None x a = record { answer = Ok x; after = a }
settled b (Some f) x a = record { answer = Err f; after = b }

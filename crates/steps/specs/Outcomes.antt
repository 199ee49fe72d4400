-- What a step gives, and the words that the places are written in. A step is taken at a meeting m by the seat s over the
-- cells ws. Assumes nothing.
--     Outcome             the answer, and the cells and the seat afterwards
--     Does                a function answered and left what an outcome says
--     Room                the store has the cells of the meeting's gate
--     Ready               the seat's numbers are such that every step can be taken
--     did, unfit_at       a step that was done; one that is refused since the word in a cell is unfit
--     word ws m c         the word in a cell of the gate; holds ws m c x says that it is x
--     put ws m c x        the cells with x in a cell of the gate
--     swapped ws m c x y  the cells with y in a cell of the gate if it held x
--     pair_promoted       the cells with the pair of a passage at a way promoted, if it waits there
--     clears, strikes     a cell is set to 0, or a way struck out of the pawns, and the seat goes to another place
--     closes s            the place at which the seat withdraws its application: 48 when leaving, 32 when climbing
--     captured m s        the seat that has won the gates up to its aim
use Rattle.std.specs.Prelude.{◌≡◌, ℕ, ◌+◌, ◌<◌, ◌≤◌, Bool, cond, List, Ok, Err, Result, ◌==◌, slice_set}
use Rattle.store.specs.Words.{held}
use Rattle.layout.specs.declared.fault.Refusal.{Refusal}
use Rattle.layout.specs.declared.ids.WayId.{WayId}
use Rattle.layout.specs.declared.path.Meeting.{Meeting}
use Rattle.layout.specs.Gates.{gate_cells, heights_of}
use Rattle.layout.specs.Refusals.{unfit}
use Rattle.seats.specs.declared.seat.Seat.{Seat}
use Rattle.seats.specs.declared.state.State.{State}
use Rattle.seats.specs.declared.state.State.TheVariants.{Away, Climbing, Holding, Leaving}
use Rattle.seats.specs.declared.place.Place.{Place}
use Rattle.seats.specs.declared.place.Place.TheVariants.{Rest, ClaimApply, WithdrawApply, ReadApply}
use Rattle.seats.specs.Seats.{moved, goes_to, backed_out}
use Rattle.steps.specs.declared.cells.Cell.{Cell}
use Rattle.steps.specs.declared.cells.Cell.TheVariants.{Pawns, Apply}
use Rattle.steps.specs.Codes.{cell_at, reg, pro}
use Rattle.steps.specs.Pawns.{Notable, remove_word}

pub record Outcome (A : Type 0) : Type 0 where
  pub answer : Result A Refusal
  pub cells : List ℕ
  pub seat : Seat

pub record Does {A : Type 0} (o : Outcome A) (r : Result A Refusal) (ws : List ℕ) (s : Seat) : Type 0 where
  pub answer : r ≡ o.answer
  pub cells : ws ≡ o.cells
  pub seat : s ≡ o.seat

pub record Room (m : Meeting) (n : ℕ) : Type 0 where
  pub few : 2 ≤ m.ways
  pub most : m.ways ≤ 4
  pub cells : m.base + gate_cells m.ways ≤ n
  pub small : m.base + gate_cells m.ways ≤ 252
  pub way : m.way.0 < m.ways

-- the numbers of a lawful seat that takes part, as far as the steps need them
pub record Ready (w : ℕ) (s : Seat) : Type 0 where
  pub passage : s.passage.0 ≤ 16383
  pub height : s.height ≤ heights_of w
  pub aim : s.aim ≤ heights_of w
  pub scan : s.scan.0 < w
  pub noted : Notable s.noted
  pub kept : s.kept_way.0 < w

abbrev pub did : List ℕ → Seat → Outcome (Unit {0})
did ws s = record { answer = Ok tt; cells = ws; seat = s }

abbrev pub unfit_at : Meeting → Cell → List ℕ → Seat → Outcome (Unit {0})
unfit_at m c ws s = record { answer = Err (unfit m.seat.0 m.height (cell_at m c)); cells = ws; seat = s }

abbrev pub word : List ℕ → Meeting → Cell → ℕ
word ws m c = held ws (cell_at m c)

abbrev pub holds : List ℕ → Meeting → Cell → ℕ → Bool
holds ws m c x = word ws m c == x

abbrev pub put : List ℕ → Meeting → Cell → ℕ → List ℕ
put ws m c x = slice_set ws (cell_at m c) x

abbrev pub swapped : List ℕ → Meeting → Cell → ℕ → ℕ → List ℕ
swapped ws m c x y = cond (holds ws m c x) (put ws m c y) ws

-- the pair of passage n at way j promoted, if it is there and waits
abbrev pub pair_promoted : List ℕ → Meeting → WayId → ℕ → List ℕ
pair_promoted ws m j n = swapped ws m (Apply j) (reg n) (pro n)

-- a cell set to 0, and then another place
abbrev pub clears : Cell → Place → Meeting → Seat → List ℕ → Outcome (Unit {0})
clears c p m s ws = did (put ws m c 0) (goes_to s p)

-- a way struck out of the pawns, and then another place
abbrev pub strikes : ℕ → Place → Meeting → Seat → List ℕ → Outcome (Unit {0})
strikes j p m s ws = did (put ws m Pawns (remove_word (word ws m Pawns) j)) (goes_to s p)

abbrev pub closes_in : State → Place
closes_in Away = WithdrawApply
closes_in Climbing = WithdrawApply
closes_in Holding = ReadApply
closes_in Leaving = ReadApply

abbrev pub closes : Seat → Place
closes s = closes_in s.state

-- the last height gives the right; below it a seat that has given up backs out, and any other climbs on
abbrev pub captured : Meeting → Seat → Seat
captured m s =
    cond (s.aim == heights_of m.ways) (moved s Holding Rest s.aim s.aim)
    (cond s.gave_up (backed_out (moved s s.state s.place s.height s.aim))
    (moved s Climbing ClaimApply (s.aim + 1) s.aim))

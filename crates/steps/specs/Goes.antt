-- A step taken at a gate in a store. Assumes nothing.
--     HasCell x c          the store has cell c of the gate
--     SameGate x y         y is the gate x, in the store that was lent to x
--     Goes step x s r y t  the gate x and the seat s did the step and answered r, and are y and t now
use Rattle.std.specs.Prelude.{◌≡◌, ℕ, ◌<◌, List, length, Result}
use Rattle.store.specs.declared.words.Store.{Ghosts}
use Rattle.layout.specs.declared.fault.BoxFault.{BoxFault}
use Rattle.layout.specs.declared.path.Meeting.{Meeting}
use Rattle.layout.specs.Refusals.{told}
use Rattle.seats.specs.declared.seat.Seat.{Seat}
use Rattle.steps.specs.declared.gate.Gate.{Gate}
use Rattle.steps.specs.declared.cells.Cell.{Cell}
use Rattle.steps.specs.Codes.{cell_at}
use Rattle.steps.specs.Outcomes.{Outcome, Does}

abbrev pub HasCell : {S : Type 0} {g : Ghosts S} → Gate S g → Cell → Type 0
HasCell {g = g} x c = cell_at x.at c < length (g.words x.store.now)

-- a loan is known by its ghost name: with it a caller knows what its own store holds afterwards
pub record SameGate {S : Type 0} {g : Ghosts S} (x y : Gate S g) : Type 0 where
  pub same_store : y.store.ghost_name ≡ x.store.ghost_name
  pub same_at : y.at ≡ x.at

pub record Goes {S : Type 0} {g : Ghosts S} (step : Meeting → Seat → List ℕ → Outcome (Unit {0})) (x : Gate S g) (s : Seat) (r : Result (Unit {0}) BoxFault) (y : Gate S g) (t : Seat) : Type 0 where
  pub does : Does (step x.at s (g.words x.store.now)) (told r) (g.words y.store.now) t
  pub gate : SameGate x y

-- A step changes only cells of the gate at which it is taken. Assumes nothing.
--     step_length   it keeps the number of cells
--     step_outside  it leaves every cell before and after those of the gate
--     gate_apart    the cells of one gate lie before or after those of another
use Rattle.std.proofs.Common.{◌≡◌, ℕ, ◌+◌, ◌<◌, ◌≤◌, ◌≢◌, ◌⊎◌, List, length, get_or, inl, inr, ⊎_elim, mul-le-mul_right, arith, rules}
use Rattle.std.proofs.lemmas.List.{length-set, get_or-set_other}
use Rattle.std.proofs.lemmas.Bool.{cases_lt}
use Rattle.layout.specs.declared.path.Meeting.{Meeting}
use Rattle.layout.specs.Gates.{gate_cells, cell_of}
use Rattle.seats.specs.declared.seat.Seat.{Seat}
use Rattle.seats.specs.declared.place.Place.{Place}
use Rattle.steps.specs.declared.codes.Coin.{Coin}
use Rattle.steps.specs.Polls.{step_of}

pub step_length : (x : Place) (c : Coin) (m : Meeting) (s : Seat) (ws : List ℕ) → length (step_of x c m s ws).cells ≡ length ws
step_length x c m s ws = search (rules, length-set)

pub step_outside : (x : Place) (c : Coin) (m : Meeting) (s : Seat) (ws : List ℕ) (k : ℕ) → m.way.0 < m.ways → s.kept_way.0 < m.ways → (k < m.base) ⊎ (m.base + gate_cells m.ways ≤ k) → get_or (step_of x c m s ws).cells k 0 ≡ get_or ws k 0
step_outside x c m s ws k a b o = grind (arith, get_or-set_other)

pub gate_apart : (w g h i : ℕ) → g ≢ h → i < gate_cells w → (cell_of w g 0 + i < cell_of w h 0) ⊎ (cell_of w h 0 + gate_cells w ≤ cell_of w g 0 + i)
gate_apart w g h i ne l =
    ⊎_elim (λ (o : g < h). let m = mul-le-mul_right (gate_cells w) o in inl (omega (arith, m)))
    (λ (o : h ≤ g). let v : h < g = omega arith in let m = mul-le-mul_right (gate_cells w) v in inr (omega (arith, m))) (cases_lt g h)

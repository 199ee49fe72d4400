-- The gate that a seat meets at a height. Assumes nothing.
--     meeting w p h     the gate that seat p meets at height h, by its first cell, with the seat's way
--     meeting_of w p h  the same, if there is such a height
--     Inside m          the gate's cells lie among the box's, and the way is one of the gate's
use Rattle.std.specs.Prelude.{ℕ, ◌+◌, ◌<◌, ◌≤◌, cond, ◌&&◌, Some, None, Option, nat_le, nat_lt}
use Rattle.layout.specs.declared.path.Meeting.{Meeting}
use Rattle.layout.specs.Gates.{gate_of, way_of, gate_cells, cells_of, cell_of}

abbrev pub meeting : ℕ → ℕ → ℕ → Meeting
meeting w p h =
    record { seat = record { 0 = p }; height = h; base = cell_of w (gate_of w p h) 0; ways = w; way = record { 0 = way_of w p h } }

abbrev pub meeting_of : ℕ → ℕ → ℕ → Option Meeting
meeting_of w p h = cond (nat_le 1 h && nat_lt h w) (Some (meeting w p h)) None

pub record Inside (m : Meeting) : Type 0 where
  pub few : 2 ≤ m.ways
  pub most : m.ways ≤ 4
  pub cells : m.base + gate_cells m.ways ≤ cells_of m.ways
  pub small : m.base + gate_cells m.ways ≤ 252
  pub way : m.way.0 < m.ways

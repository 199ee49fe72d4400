-- Seats, ways, gates and cells of a box of w ways, all by their numbers. The gates form a tree of w - 1 heights: seat p
-- meets one gate at each height, by one of its w ways. Assumes nothing; meant for w of 2, 3 and 4.
--     heights_of w, seats_of w, gates_of w, cells_of w   how many there are
--     gates_below w h  how many gates the heights below h have: the number of the first gate of height h
--     gate_of w p h    the gate that seat p meets at height h
--     way_of w p h     the way by which it meets that gate
--     cell_of w g k    cell k of gate g; count_cell, sync_one, sync_two, pawns_cell, apply_cell j and role_cell w j are such k
use Rattle.std.specs.Prelude.{ℕ, zero, suc, ◌+◌, ◌-◌, ◌*◌, ◌/◌, ◌%◌, ◌^◌}

abbrev pub heights_of : ℕ → ℕ
heights_of w = w - 1

abbrev pub seats_of : ℕ → ℕ
seats_of w = w ^ heights_of w

-- height k has one gate for each w ^ k seats
abbrev pub gates_below : ℕ → ℕ → ℕ
gates_below w zero = 0
gates_below w (suc zero) = 0
gates_below w (suc (suc k)) = gates_below w (suc k) + w ^ (heights_of w - suc k)

abbrev pub gates_of : ℕ → ℕ
gates_of w = gates_below w (suc (heights_of w))

abbrev pub gate_of : ℕ → ℕ → ℕ → ℕ
gate_of w p h = gates_below w h + p / w ^ h

abbrev pub way_of : ℕ → ℕ → ℕ → ℕ
way_of w p h = p / w ^ (h - 1) % w

-- Count, Sync1, Sync2, the pawn word, then Apply of each way, then Role of each way
abbrev pub gate_cells : ℕ → ℕ
gate_cells w = 4 + 2 * w

abbrev pub cells_of : ℕ → ℕ
cells_of w = gates_of w * gate_cells w

abbrev pub cell_of : ℕ → ℕ → ℕ → ℕ
cell_of w g k = g * gate_cells w + k

abbrev pub count_cell : ℕ
count_cell = 0

abbrev pub sync_one : ℕ
sync_one = 1

abbrev pub sync_two : ℕ
sync_two = 2

abbrev pub pawns_cell : ℕ
pawns_cell = 3

abbrev pub apply_cell : ℕ → ℕ
apply_cell j = 4 + j

abbrev pub role_cell : ℕ → ℕ → ℕ
role_cell w j = 4 + w + j

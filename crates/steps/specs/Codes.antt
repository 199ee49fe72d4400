-- The numbers that the cells hold. Assumes nothing.
--     mark_number x   the state in a pair as a number: empty 0, REG 1, PRO 2, ABORT 3
--     mark_of x       the state in the pair x
--     pair n x        the word of passage n in state x; reg n and pro n are two such words
--     taken_number t  the word in Count: taken by nobody 0, by a king 1, by king and queen 2
--     role_number r   the word in Role: none 0, king 1, queen 2, pawn 3, promoted pawn 4
--     role_of x       the role that a word means, if it means one
--     cell_at m c     where a cell of the gate of a meeting lies in the store
use Rattle.std.specs.Prelude.{ℕ, ◌+◌, ◌*◌, ◌%◌, cond, Some, None, Option, ◌==◌}
use Rattle.layout.specs.declared.path.Meeting.{Meeting}
use Rattle.layout.specs.Gates.{count_cell, sync_one, sync_two, pawns_cell, apply_cell, role_cell}
use Rattle.steps.specs.declared.codes.Mark.{Mark}
use Rattle.steps.specs.declared.codes.Mark.TheVariants.{Empty, Reg, Pro, Abort}
use Rattle.steps.specs.declared.codes.Taken.{Taken}
use Rattle.steps.specs.declared.codes.Taken.TheVariants.{ByNobody, ByKing, ByBoth}
use Rattle.steps.specs.declared.codes.Role.{Role}
use Rattle.steps.specs.declared.codes.Role.TheVariants.{Nobody, King, Queen, Pawn, PromotedPawn}
use Rattle.steps.specs.declared.cells.Cell.{Cell}
use Rattle.steps.specs.declared.cells.Cell.TheVariants.{Count, SyncOne, SyncTwo, Pawns, Apply, Role as RoleOf}

abbrev pub mark_number : Mark → ℕ
mark_number Empty = 0
mark_number Reg = 1
mark_number Pro = 2
mark_number Abort = 3

abbrev pub mark_of : ℕ → Mark
mark_of x = cond (x % 4 == 0) Empty (cond (x % 4 == 1) Reg (cond (x % 4 == 2) Pro Abort))

abbrev pub pair : ℕ → ℕ → ℕ
pair n x = 4 * n + x

abbrev pub reg : ℕ → ℕ
reg n = pair n 1

abbrev pub pro : ℕ → ℕ
pro n = pair n 2

abbrev pub taken_number : Taken → ℕ
taken_number ByNobody = 0
taken_number ByKing = 1
taken_number ByBoth = 2

abbrev pub role_number : Role → ℕ
role_number Nobody = 0
role_number King = 1
role_number Queen = 2
role_number Pawn = 3
role_number PromotedPawn = 4

abbrev pub role_of : ℕ → Option Role
role_of x =
    cond (x == 0) (Some Nobody)
    (cond (x == 1) (Some King)
    (cond (x == 2) (Some Queen) (cond (x == 3) (Some Pawn) (cond (x == 4) (Some PromotedPawn) None))))

abbrev pub cell_at : Meeting → Cell → ℕ
cell_at m Count = m.base + count_cell
cell_at m SyncOne = m.base + sync_one
cell_at m SyncTwo = m.base + sync_two
cell_at m Pawns = m.base + pawns_cell
cell_at m (Apply j) = m.base + apply_cell j.0
cell_at m (RoleOf j) = m.base + role_cell m.ways j.0

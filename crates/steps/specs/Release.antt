-- The places of a seat that gives a gate back. Assumes nothing.
--     read_role_step 35    go on as king, queen or promoted pawn
--     open_alone_step 36   a king with no queen opens the gate
--     hand_over_step 37    a king gives the queen his gates from here up to top, unless she has gone
--     read_apply_step 48   keep the number in one's Apply
--     clear_apply_step 49  leave one's way; then the next height, or away after the last
use Rattle.std.specs.Prelude.{ℕ, ◌+◌, ◌/◌, ◌%◌, cond, ◌||◌, List, ◌==◌}
use Rattle.layout.specs.declared.path.Meeting.{Meeting}
use Rattle.seats.specs.declared.seat.Seat.{Seat}
use Rattle.seats.specs.declared.place.Place.TheVariants.{ReadRole, OpenAlone, HandOver, ReadApply, ClearApply, ScanApply, RaceToClose, StrikeSelf}
use Rattle.seats.specs.Seats.{away, goes_to, moved, scans, hands_over, keeps_for}
use Rattle.steps.specs.declared.cells.Cell.TheVariants.{Count, SyncOne, Apply, Role}
use Rattle.steps.specs.Codes.{pro}
use Rattle.steps.specs.Outcomes.{Outcome, did, unfit_at, word, holds, put, swapped}

abbrev pub read_role_step : Meeting → Seat → List ℕ → Outcome (Unit {0})
read_role_step m s ws =
    cond (holds ws m (Role m.way) 1) (did ws (goes_to s OpenAlone))
    (cond (holds ws m (Role m.way) 2) (did ws (goes_to s RaceToClose))
    (cond (holds ws m (Role m.way) 4) (did ws (goes_to s StrikeSelf)) (unfit_at m (Role m.way) ws s)))

abbrev pub open_alone_step : Meeting → Seat → List ℕ → Outcome (Unit {0})
open_alone_step m s ws =
    cond (holds ws m Count 1) (did (put ws m Count 0) (goes_to s ReadApply)) (did ws (goes_to s HandOver))

abbrev pub hand_over_step : Meeting → Seat → List ℕ → Outcome (Unit {0})
hand_over_step m s ws =
    cond (holds ws m SyncOne 0) (did (put ws m SyncOne s.top) (goes_to (scans (hands_over s) 0) ScanApply))
    (did ws (goes_to s RaceToClose))

abbrev pub read_apply_step : Meeting → Seat → List ℕ → Outcome (Unit {0})
read_apply_step m s ws =
    did ws (goes_to (keeps_for s s.kept_way.0 (word ws m (Apply m.way) / 4 % 16384)) ClearApply)

abbrev pub clear_apply_step : Meeting → Seat → List ℕ → Outcome (Unit {0})
clear_apply_step m s ws =
    did (swapped ws m (Apply m.way) (pro s.kept_number.0) 0)
    (cond (s.handed || s.height == s.top) away (moved s s.state ReadRole (s.height + 1) s.top))

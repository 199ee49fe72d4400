-- The places at which king and queen meet: the second to come frees the gate. Assumes nothing.
--     race_to_close_step 56  the first to put its way into Sync2 is done with the gate
--     clear_sync_one_step 58, read_sync_two_step 59, clear_sync_two_step 60   the second clears both, and keeps the way of the first
--     strike_out_step 61     the first is struck out of the pawn word, where a collect may have put it
use Rattle.std.specs.Prelude.{ℕ, ◌+◌, ◌-◌, cond, List}
use Rattle.layout.specs.declared.path.Meeting.{Meeting}
use Rattle.seats.specs.declared.seat.Seat.{Seat}
use Rattle.seats.specs.declared.place.Place.TheVariants.{ClearSyncOne, ReadSyncTwo, ClearSyncTwo, StrikeOut, StrikeSelf}
use Rattle.seats.specs.Places.{within}
use Rattle.seats.specs.Seats.{goes_to, keeps_for}
use Rattle.steps.specs.declared.cells.Cell.TheVariants.{SyncOne, SyncTwo}
use Rattle.steps.specs.Outcomes.{Outcome, did, unfit_at, word, holds, put, clears, strikes, closes}

abbrev pub race_to_close_step : Meeting → Seat → List ℕ → Outcome (Unit {0})
race_to_close_step m s ws =
    cond (holds ws m SyncTwo 0) (did (put ws m SyncTwo (m.way.0 + 1)) (goes_to s (closes s)))
    (did ws (goes_to s ClearSyncOne))

abbrev pub clear_sync_one_step : Meeting → Seat → List ℕ → Outcome (Unit {0})
clear_sync_one_step m s ws = clears SyncOne ReadSyncTwo m s ws

abbrev pub read_sync_two_step : Meeting → Seat → List ℕ → Outcome (Unit {0})
read_sync_two_step m s ws =
    cond (within 1 m.ways (word ws m SyncTwo))
    (did ws (goes_to (keeps_for s (word ws m SyncTwo - 1) s.kept_number.0) ClearSyncTwo))
    (unfit_at m SyncTwo ws s)

abbrev pub clear_sync_two_step : Meeting → Seat → List ℕ → Outcome (Unit {0})
clear_sync_two_step m s ws = clears SyncTwo StrikeOut m s ws

abbrev pub strike_out_step : Meeting → Seat → List ℕ → Outcome (Unit {0})
strike_out_step m s ws = strikes s.kept_way.0 StrikeSelf m s ws

-- The places of a seat that gives up at a gate. Assumes nothing.
--     close_apply_step 19     promotion is no longer waited for; a queen goes on to 26, any other to 21
--     abort_pawn_step 21      out of the pawn set, unless it is promoted already: then the gate is won
--     abort_queen_step 26     tell the king that the queen is gone, unless he has handed over already
--     accept_gate_step 27     the gate was handed over: it is won
--     withdraw_apply_step 32  leave one's way, and back out
use Rattle.std.specs.Prelude.{ℕ, cond, List, Some, None, Option}
use Rattle.layout.specs.declared.path.Meeting.{Meeting}
use Rattle.layout.specs.Gates.{heights_of}
use Rattle.seats.specs.declared.seat.Seat.{Seat}
use Rattle.seats.specs.declared.place.Place.TheVariants.{AbortPawn, AbortQueen, AcceptGate, WithdrawApply, ScanApply}
use Rattle.seats.specs.Places.{within}
use Rattle.seats.specs.Seats.{goes_to, aims, scans, backed_out}
use Rattle.steps.specs.declared.cells.Cell.TheVariants.{SyncOne, Pawns, Apply, Role}
use Rattle.steps.specs.Codes.{pro}
use Rattle.steps.specs.Pawns.{abort_of}
use Rattle.steps.specs.Outcomes.{Outcome, did, unfit_at, word, holds, put, swapped, pair_promoted, captured}

abbrev pub close_apply_step : Meeting → Seat → List ℕ → Outcome (Unit {0})
close_apply_step m s ws =
    did (pair_promoted ws m m.way s.passage.0)
    (goes_to s (cond (holds ws m (Role m.way) 2) AbortQueen AbortPawn))

abbrev pub aborted_by : Option ℕ → Meeting → Seat → List ℕ → Outcome (Unit {0})
aborted_by (Some x) m s ws = did (put ws m Pawns x) (goes_to s WithdrawApply)
aborted_by None m s ws = did (put ws m (Role m.way) 4) (captured m (aims s s.height))

abbrev pub abort_pawn_step : Meeting → Seat → List ℕ → Outcome (Unit {0})
abort_pawn_step m s ws = aborted_by (abort_of (word ws m Pawns) m.way.0 s.passage.0) m s ws

abbrev pub abort_queen_step : Meeting → Seat → List ℕ → Outcome (Unit {0})
abort_queen_step m s ws =
    cond (holds ws m SyncOne 0) (did (put ws m SyncOne 15) (goes_to (scans s 0) ScanApply)) (did ws (goes_to s AcceptGate))

abbrev pub accept_gate_step : Meeting → Seat → List ℕ → Outcome (Unit {0})
accept_gate_step m s ws =
    cond (within s.height (heights_of m.ways) (word ws m SyncOne)) (did ws (captured m (aims s (word ws m SyncOne))))
    (unfit_at m SyncOne ws s)

abbrev pub withdraw_apply_step : Meeting → Seat → List ℕ → Outcome (Unit {0})
withdraw_apply_step m s ws = did (swapped ws m (Apply m.way) (pro s.passage.0) 0) (backed_out s)

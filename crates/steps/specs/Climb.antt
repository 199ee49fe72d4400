-- The places of a seat that tries to win a gate. Assumes nothing.
--     claim_apply_step 2      enter one's way: Apply from 0 to (passage, REG)
--     race_for_role_step 5    become king, queen or pawn, as the coin says
--     await_promotion_step 7  a pawn looks whether it has been promoted
--     recheck_count_step 8    a pawn looks whether the gate is still taken
--     await_king_step 14      the queen waits for the king's word in Sync1
--     mark_apply_step 16      the gate is won
use Rattle.std.specs.Prelude.{ℕ, cond, List}
use Rattle.layout.specs.declared.path.Meeting.{Meeting}
use Rattle.layout.specs.Gates.{heights_of}
use Rattle.seats.specs.declared.seat.Seat.{Seat}
use Rattle.seats.specs.declared.place.Place.TheVariants.{RaceForRole, AwaitPromotion, RecheckCount, AwaitKing, MarkApply}
use Rattle.seats.specs.Places.{within}
use Rattle.seats.specs.Seats.{goes_to, aims}
use Rattle.steps.specs.declared.codes.Coin.{Coin}
use Rattle.steps.specs.declared.codes.Coin.TheVariants.{TryKing, TryQueen, TryPawn}
use Rattle.steps.specs.declared.cells.Cell.TheVariants.{Count, SyncOne, Apply, Role}
use Rattle.steps.specs.Codes.{reg, pro}
use Rattle.steps.specs.Outcomes.{Outcome, did, unfit_at, word, holds, put, pair_promoted, captured}

abbrev pub claim_apply_step : Meeting → Seat → List ℕ → Outcome (Unit {0})
claim_apply_step m s ws =
    cond (holds ws m (Apply m.way) 0)
    (did (put (put ws m (Apply m.way) (reg s.passage.0)) m (Role m.way) 0) (goes_to s RaceForRole))
    (did ws s)

abbrev pub race_for_role_step : Coin → Meeting → Seat → List ℕ → Outcome (Unit {0})
race_for_role_step TryKing m s ws =
    cond (holds ws m Count 0)
    (did (put (put ws m Count 1) m (Role m.way) 1) (goes_to (aims s s.height) MarkApply))
    (did ws s)
race_for_role_step TryQueen m s ws =
    cond (holds ws m Count 1) (did (put (put ws m Count 2) m (Role m.way) 2) (goes_to s AwaitKing)) (did ws s)
race_for_role_step TryPawn m s ws =
    cond (holds ws m Count 2) (did (put ws m (Role m.way) 3) (goes_to s AwaitPromotion)) (did ws s)

abbrev pub await_promotion_step : Meeting → Seat → List ℕ → Outcome (Unit {0})
await_promotion_step m s ws =
    cond (holds ws m (Apply m.way) (pro s.passage.0))
    (did (put ws m (Role m.way) 4) (goes_to (aims s s.height) MarkApply))
    (did ws (goes_to s RecheckCount))

abbrev pub recheck_count_step : Meeting → Seat → List ℕ → Outcome (Unit {0})
recheck_count_step m s ws = did ws (goes_to s (cond (holds ws m Count 2) AwaitPromotion RaceForRole))

abbrev pub await_king_step : Meeting → Seat → List ℕ → Outcome (Unit {0})
await_king_step m s ws =
    cond (holds ws m SyncOne 0) (did ws s)
    (cond (within s.height (heights_of m.ways) (word ws m SyncOne))
    (did ws (goes_to (aims s (word ws m SyncOne)) MarkApply))
    (unfit_at m SyncOne ws s))

abbrev pub mark_apply_step : Meeting → Seat → List ℕ → Outcome (Unit {0})
mark_apply_step m s ws = did (pair_promoted ws m m.way s.passage.0) (captured m s)

-- The places at which the pawns that wait are registered. Assumes nothing.
--     scan_apply_step 52     note the passage that waits at one way after the other
--     collect_pawns_step 55  register the noted passages in the pawn word
use Rattle.std.specs.Prelude.{ℕ, ◌+◌, ◌/◌, ◌%◌, cond, ◌&&◌, List, ◌==◌, slice_set}
use Rattle.layout.specs.declared.path.Meeting.{Meeting}
use Rattle.seats.specs.declared.seat.Seat.{Seat}
use Rattle.seats.specs.declared.place.Place.TheVariants.{CollectPawns, RaceToClose}
use Rattle.seats.specs.Places.{within}
use Rattle.seats.specs.Seats.{goes_to, scans, notes}
use Rattle.steps.specs.declared.cells.Cell.TheVariants.{Pawns, Apply}
use Rattle.steps.specs.Pawns.{collect_word}
use Rattle.steps.specs.Outcomes.{Outcome, did, word, put}

-- the number in an Apply word that is REG, and 0 for any other word
abbrev pub waiting : ℕ → ℕ
waiting x = cond (within 5 65535 x && x % 4 == 1) (x / 4) 0

abbrev pub scan_apply_step : Meeting → Seat → List ℕ → Outcome (Unit {0})
scan_apply_step m s ws =
    let noted = notes s (slice_set s.noted s.scan.0 (waiting (word ws m (Apply s.scan)))) in
    cond (s.scan.0 + 1 == m.ways) (did ws (goes_to (scans noted 0) CollectPawns))
    (did ws (scans noted (s.scan.0 + 1)))

abbrev pub collect_pawns_step : Meeting → Seat → List ℕ → Outcome (Unit {0})
collect_pawns_step m s ws =
    did (put ws m Pawns (collect_word (word ws m Pawns) m.ways s.noted)) (goes_to s RaceToClose)

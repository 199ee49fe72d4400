-- The places at which a freed gate passes to a pawn, or opens. Assumes nothing.
--     strike_self_step 64    oneself out of the pawn word
--     promote_pawn_step 65   the lowest way that is REG becomes PRO
--     reset_pawns_step 67, open_gate_step 68   nobody waits: the gate opens
--     mark_promoted_step 70  tell the promoted pawn, if its Apply still has that very passage
use Rattle.std.specs.Prelude.{ℕ, List, Some, None, Option}
use Rattle.layout.specs.declared.path.Meeting.{Meeting}
use Rattle.layout.specs.declared.ids.WayId.{WayId}
use Rattle.layout.specs.declared.ids.Passage.{Passage}
use Rattle.seats.specs.declared.seat.Seat.{Seat}
use Rattle.seats.specs.declared.place.Place.TheVariants.{PromotePawn, ResetPawns, OpenGate, MarkPromoted}
use Rattle.seats.specs.Seats.{goes_to, keeps_for}
use Rattle.steps.specs.declared.cells.Cell.TheVariants.{Count, Pawns}
use Rattle.steps.specs.Pawns.{promote_word, promote_of}
use Rattle.steps.specs.Outcomes.{Outcome, did, word, put, swapped, pair_promoted, clears, strikes, closes}

abbrev pub strike_self_step : Meeting → Seat → List ℕ → Outcome (Unit {0})
strike_self_step m s ws = strikes m.way.0 PromotePawn m s ws

abbrev pub promotes : Option (WayId × Passage) → Seat → Seat
promotes (Some (j, n)) s = goes_to (keeps_for s j.0 n.0) MarkPromoted
promotes None s = goes_to s ResetPawns

abbrev pub promote_pawn_step : Meeting → Seat → List ℕ → Outcome (Unit {0})
promote_pawn_step m s ws =
    did (put ws m Pawns (promote_word (word ws m Pawns) m.ways)) (promotes (promote_of (word ws m Pawns) m.ways) s)

abbrev pub reset_pawns_step : Meeting → Seat → List ℕ → Outcome (Unit {0})
reset_pawns_step m s ws = clears Pawns OpenGate m s ws

abbrev pub open_gate_step : Meeting → Seat → List ℕ → Outcome (Unit {0})
open_gate_step m s ws = did (swapped ws m Count 2 0) (goes_to s (closes s))

abbrev pub mark_promoted_step : Meeting → Seat → List ℕ → Outcome (Unit {0})
mark_promoted_step m s ws = did (pair_promoted ws m s.kept_way s.kept_number.0) (goes_to s (closes s))

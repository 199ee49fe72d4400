-- The seat records that a box of w ways accepts. Assumes nothing.
--     blank s         every field of an away seat is 0
--     ranged w s      the numbers of a seat that takes part lie in their ranges
--     place_fits w s  the heights and the place fit the state
--     mark_fits s     the give-up mark fits the place, and at place 16 the aim is no lower than the height
--     lawful w s      all of this
use Rattle.std.specs.Prelude.{ℕ, ◌+◌, Bool, true, false, cond, not, ◌&&◌, ◌||◌, ◌==◌, nat_le, nat_lt, slice_index}
use Rattle.layout.specs.Gates.{heights_of}
use Rattle.seats.specs.declared.seat.Seat.{Seat}
use Rattle.seats.specs.declared.state.State.{State}
use Rattle.seats.specs.declared.state.State.TheVariants.{Away, Climbing, Holding, Leaving}
use Rattle.seats.specs.Places.{state_number, place_number, within}

abbrev pub has_blank_marks : Seat → Bool
has_blank_marks s = not s.gave_up && (not s.handed && s.scan.0 == 0)

abbrev pub has_blank_notes : Seat → Bool
has_blank_notes s =
    (slice_index s.noted 0 == 0)
    && (slice_index s.noted 1 == 0
    && (slice_index s.noted 2 == 0
    && (slice_index s.noted 3 == 0 && (s.kept_way.0 == 0 && s.kept_number.0 == 0))))

abbrev pub blank : Seat → Bool
blank s =
    (place_number s.place == 0)
    && (s.height == 0
    && (s.top == 0 && (s.aim == 0 && (s.passage.0 == 0 && (has_blank_marks s && has_blank_notes s)))))

abbrev pub ranged_notes : ℕ → Seat → Bool
ranged_notes w s =
    nat_le (slice_index s.noted 0) 16383
    && (nat_le (slice_index s.noted 1) 16383
    && (nat_le (slice_index s.noted 2) 16383
    && (nat_le (slice_index s.noted 3) 16383 && (nat_lt s.kept_way.0 w && nat_le s.kept_number.0 16383))))

abbrev pub ranged : ℕ → Seat → Bool
ranged w s =
    within 1 16383 s.passage.0
    && (within 1 (heights_of w) s.height
    && (nat_le s.top (heights_of w)
    && (nat_le s.aim (heights_of w) && (nat_lt s.scan.0 w && ranged_notes w s))))

-- by state: a climbing seat stands one above what it has won, a holder has all, a leaving seat is on its way up again
abbrev pub place_fits_in : State → ℕ → ℕ → ℕ → ℕ → Bool
place_fits_in Away w h t n = false
place_fits_in Climbing w h t n = h == t + 1 && (within 2 32 n || within 52 70 n)
place_fits_in Holding w h t n = h == heights_of w && (h == t && n == 0)
place_fits_in Leaving w h t n = nat_le h t && within 35 70 n

abbrev pub place_fits : ℕ → Seat → Bool
place_fits w s = place_fits_in s.state w s.height s.top (place_number s.place)

abbrev pub climbs : Seat → Bool
climbs s = state_number s.state == 1

-- up to place 14 nobody has given up; who aborts has, and who collects, frees and promotes while climbing has too
abbrev pub mark_fits_at : ℕ → Seat → Bool
mark_fits_at n s =
    cond (within 2 14 n) (not s.gave_up)
    (cond (n == 16) (nat_le s.height s.aim)
    (cond (within 19 32 n || (within 52 70 n && climbs s)) s.gave_up true))

abbrev pub mark_fits : Seat → Bool
mark_fits s = mark_fits_at (place_number s.place) s

abbrev pub lawful_in : State → ℕ → Seat → Bool
lawful_in Away w s = blank s
lawful_in Climbing w s = ranged w s && (place_fits w s && mark_fits s)
lawful_in Holding w s = ranged w s && (place_fits w s && mark_fits s)
lawful_in Leaving w s = ranged w s && (place_fits w s && mark_fits s)

abbrev pub lawful_open : ℕ → Seat → Bool
lawful_open w s = lawful_in s.state w s

-- the same, shut, for those who build on it
unfoldable pub lawful : ℕ → Seat → Bool
lawful w s = lawful_open w s

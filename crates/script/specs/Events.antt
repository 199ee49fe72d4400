-- What polls make of seats. Assumes nothing.
--     event_of a b  what an accepted poll made of a seat that it took from the place a to the place b
use Rattle.std.specs.Prelude.{ℕ, cond, Some, None, Option, ◌==◌}
use Rattle.seats.specs.declared.place.Place.{Place}
use Rattle.seats.specs.Places.{place_number}
use Rattle.script.specs.declared.event.Event.{Event}
use Rattle.script.specs.declared.event.Event.TheVariants.{King, Queen, Pawn, Promoted, HandedOver, QueenGaveUp}

-- by the numbers of the places
abbrev pub event_at : ℕ → ℕ → Option Event
event_at a b =
    cond (a == 5) (cond (b == 16) (Some King) (cond (b == 14) (Some Queen) (cond (b == 7) (Some Pawn) None)))
    (cond (a == 7) (cond (b == 16) (Some Promoted) None)
    (cond (a == 21) (cond (b == 32) None (Some Promoted))
    (cond (a == 37) (cond (b == 52) (Some HandedOver) None)
    (cond (a == 26) (cond (b == 52) (Some QueenGaveUp) None) None))))

abbrev pub event_of : Place → Place → Option Event
event_of a b = event_at (place_number a) (place_number b)

-- What a lawful seat record says of its numbers, and what it means to equal the away seat. Assumes nothing.
--     ranged-from_lawful  a lawful seat that is not away has its numbers in their ranges
--     rests, unset, empty_notes  how `==` compares the places, the marks and the notes with those of the away seat
use Rattle.std.proofs.Common.{◌≡◌, ℕ, Bool, true, false, not, ◌&&◌, ◌==◌, List, [], ◌∷◌, length, slice_index, arith, rules}
use Rattle.std.proofs.lemmas.Bool.Decides.{nat_tests}
use Rattle.std.proofs.lemmas.Grind.{common_steps}
use denote.Enum.Declared.{tag_of}
use lib.Dec.{eqb}
use lib.Pointwise.{pointwise}
use mathlib.Core.Bool.{beq}
use Rattle.std.proofs.lemmas.Bool.{and_parts}
use Rattle.seats.specs.declared.seat.Seat.{Seat}
use Rattle.seats.specs.declared.state.State.{State}
use Rattle.seats.specs.declared.state.State.TheVariants.{Away, Climbing, Holding, Leaving}
use Rattle.seats.specs.contracts.place.Place.{the_type}
use Rattle.seats.specs.declared.place.Place.{Place}
use Rattle.seats.specs.Places.{state_number, place_number}
use Rattle.seats.specs.Lawful.{lawful, lawful_in, ranged, place_fits, mark_fits}

ranged-in : (x : State) (w : ℕ) (s : Seat) → lawful_in x w s ≡ true → (state_number x ≡ 0 → ⊥) → ranged w s ≡ true
ranged-in Away w s l a = absurd (a (omega arith))
ranged-in Climbing w s l a = (and_parts (ranged w s) (place_fits w s && mark_fits s) l).0
ranged-in Holding w s l a = (and_parts (ranged w s) (place_fits w s && mark_fits s) l).0
ranged-in Leaving w s l a = (and_parts (ranged w s) (place_fits w s && mark_fits s) l).0

pub ranged-from_lawful : (w : ℕ) (s : Seat) → lawful w s ≡ true → (state_number s.state ≡ 0 → ⊥) → ranged w s ≡ true
unfolding lawful
ranged-from_lawful w s l a = ranged-in s.state w s l a

pub rests : (p : Place) → eqb (tag_of the_type p) 0 ≡ (place_number p == 0)
rests p = search rules

pub unset : (b : Bool) → beq b false ≡ not b
unset b = search rules

pub empty_notes : (ns : List ℕ) → length ns ≡ 4 → (r : Bool) → (pointwise eqb ns (0 ∷ 0 ∷ 0 ∷ 0 ∷ []) && r) ≡ ((slice_index ns 0 == 0) && ((slice_index ns 1 == 0) && ((slice_index ns 2 == 0) && ((slice_index ns 3 == 0) && r))))
empty_notes ns h r = grind (arith, common_steps, nat_tests)

pub ruleset away_steps = (rests, unset, empty_notes)

-- What a lawful record says of a seat that takes part. Assumes nothing.
--     LawfulParts, parts_from_lawful  its three conditions
--     leaves_at, quits_at, fresh_at   a seat that leaves; one that climbs and has given up; one that has not
--     holding_top                     a holder has won every height
use Rattle.std.proofs.Common.{◌≡◌, ℕ, ◌+◌, ◌<◌, ◌≤◌, true, false, ◌&&◌, ◌⊎◌, refl, arith}
use Rattle.std.proofs.lemmas.Bool.{and_parts}
use Rattle.std.proofs.lemmas.Bool.Decides.{nat_tests}
use Rattle.layout.specs.Gates.{heights_of}
use Rattle.seats.specs.declared.seat.Seat.{Seat}
use Rattle.seats.specs.declared.place.Place.{Place}
use Rattle.seats.specs.declared.state.State.{State}
use Rattle.seats.specs.declared.state.State.TheVariants.{Away, Climbing, Holding, Leaving}
use Rattle.seats.specs.Places.{state_number, place_number}
use Rattle.seats.specs.Lawful.{lawful, lawful_in, ranged, place_fits, place_fits_in, mark_fits, mark_fits_at}
use Rattle.relation.proofs.RankLaws.{LeavesAt, QuitsAt}

pub record LawfulParts (w : ℕ) (s : Seat) : Type 0 where
  pub numbers : ranged w s ≡ true
  pub place : place_fits w s ≡ true
  pub mark : mark_fits s ≡ true

parts_in : (x : State) (w : ℕ) (s : Seat) → lawful_in x w s ≡ true → (state_number x ≡ 0 → ⊥) → LawfulParts w s
parts_in Away w s l a = absurd (a refl)
parts_in Climbing w s l a =
    let p = and_parts (ranged w s) (place_fits w s && mark_fits s) l in
    let q = and_parts (place_fits w s) (mark_fits s) p.1 in record { numbers = p.0; place = q.0; mark = q.1 }
parts_in Holding w s l a =
    let p = and_parts (ranged w s) (place_fits w s && mark_fits s) l in
    let q = and_parts (place_fits w s) (mark_fits s) p.1 in record { numbers = p.0; place = q.0; mark = q.1 }
parts_in Leaving w s l a =
    let p = and_parts (ranged w s) (place_fits w s && mark_fits s) l in
    let q = and_parts (place_fits w s) (mark_fits s) p.1 in record { numbers = p.0; place = q.0; mark = q.1 }

pub parts_from_lawful : (w : ℕ) (s : Seat) → lawful w s ≡ true → (state_number s.state ≡ 0 → ⊥) → LawfulParts w s
unfolding lawful
parts_from_lawful w s l a = parts_in s.state w s l a

module _ (w h t n : ℕ) where
  leaving_fits : (x : State) → place_fits_in x w h t n ≡ true → x ≡ Leaving → (35 ≤ n) × (h ≤ t)
  leaving_fits x e q = (grind (arith, nat_tests), grind (arith, nat_tests))

  climbing_fits : (x : State) → place_fits_in x w h t n ≡ true → x ≡ Climbing → (h ≡ t + 1) × (2 ≤ n) × ((n ≤ 32) ⊎ (52 ≤ n))
  climbing_fits x e q = (grind (arith, nat_tests), grind (arith, nat_tests), grind (arith, nat_tests))

ranged-facts : (w : ℕ) (s : Seat) → ranged w s ≡ true → (s.height ≤ heights_of w) × (s.top ≤ heights_of w) × (s.aim ≤ heights_of w) × (s.scan.0 < w)
ranged-facts w s e = (grind (arith, nat_tests), grind (arith, nat_tests), grind (arith, nat_tests), grind (arith, nat_tests))

marked_from : (x : Place) (s : Seat) → mark_fits_at (place_number x) s ≡ true → 2 ≤ place_number x → s.gave_up ≡ true → 16 ≤ place_number x
marked_from x s e l g = grind (arith, nat_tests)

won_from : (n : ℕ) (s : Seat) → mark_fits_at n s ≡ true → n ≡ 16 → s.height ≤ s.aim
won_from n s e q = grind (arith, nat_tests)

pub leaves_at : (w : ℕ) (s : Seat) → 2 ≤ w → LawfulParts w s → s.state ≡ Leaving → LeavesAt w s.place s
leaves_at w s few p e =
    let f = leaving_fits w s.height s.top (place_number s.place) s.state p.place e in
    let r = ranged-facts w s p.numbers in
    record { state = e; place = refl; from = f.0; height = f.1; top = r.1; scan = r.3; few = few }

pub quits_at : (w : ℕ) (s : Seat) → 2 ≤ w → LawfulParts w s → s.state ≡ Climbing → s.gave_up ≡ true → QuitsAt w s.place s
quits_at w s few p e g =
    let n = place_number s.place in
    let f = climbing_fits w s.height s.top n s.state p.place e in
    let r = ranged-facts w s p.numbers in
    record { state = e; place = refl; mark = g; from = marked_from s.place s p.mark f.1 g; off = f.2; won = won_from n s p.mark; low = f.0; height = r.0; aim = r.2; scan = r.3; few = few }

fresh-place : (x : Place) (s : Seat) → mark_fits_at (place_number x) s ≡ true → s.state ≡ Climbing → s.gave_up ≡ false → (place_number x ≤ 32) ⊎ (52 ≤ place_number x) → place_number x ≤ 16
fresh-place x s e c g o = grind (arith, nat_tests)

-- a climbing seat that has not given up
pub record FreshAt (w : ℕ) (s : Seat) : Type 0 where
  pub state : s.state ≡ Climbing
  pub low : s.height ≡ s.top + 1
  pub height : s.height ≤ heights_of w
  pub aim : s.aim ≤ heights_of w
  pub from : 2 ≤ place_number s.place
  pub upto : place_number s.place ≤ 16
  pub won : place_number s.place ≡ 16 → s.height ≤ s.aim

pub fresh_at : (w : ℕ) (s : Seat) → LawfulParts w s → s.state ≡ Climbing → s.gave_up ≡ false → FreshAt w s
fresh_at w s p e g =
    let n = place_number s.place in
    let f = climbing_fits w s.height s.top n s.state p.place e in
    let r = ranged-facts w s p.numbers in
    record { state = e; low = f.0; height = r.0; aim = r.2; from = f.1; upto = fresh-place s.place s p.mark e g f.2; won = won_from n s p.mark }

holding_fits : (w h t n : ℕ) (x : State) → place_fits_in x w h t n ≡ true → state_number x ≡ 2 → t ≡ heights_of w
holding_fits w h t n x e q = grind (arith, nat_tests)

pub holding_top : (w : ℕ) (s : Seat) → LawfulParts w s → state_number s.state ≡ 2 → s.top ≡ heights_of w
holding_top w s p e = holding_fits w s.height s.top (place_number s.place) s.state p.place e

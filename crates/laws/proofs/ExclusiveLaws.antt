-- No two seats keep a gate in common, in a related box. Assumes nothing.
--     kept_inside        a seat occupies each height that it keeps, and stands elsewhere
--     Has                seat p is inside the gate g of height k
--     exclusive_related  what the law of runs says of it
use Rattle.std.proofs.Common.{◌≡◌, ℕ, ◌+◌, ◌-◌, ◌<◌, ◌≤◌, true, ◌≢◌, sym, refl, ap, ◌∙◌, subst, arith}
use Rattle.std.proofs.lemmas.Bool.Decides.{nat_tests}
use Rattle.layout.specs.Gates.{heights_of, seats_of, gate_of, way_of}
use Rattle.seats.specs.declared.seat.Seat.{Seat}
use Rattle.seats.specs.declared.state.State.{State}
use Rattle.seats.specs.declared.state.State.TheVariants.{Away, Climbing, Holding, Leaving}
use Rattle.seats.specs.Lawful.{lawful_open}
use Rattle.seats.specs.Places.{state_number, place_number}
use Rattle.seats.specs.Seats.{keeps_in, keeps_height}
use Rattle.lock.specs.States.{BoxState, seat_at}
use Rattle.gate.proofs.Phases.{two_inside}
use Rattle.gate.proofs.Gates.{still}
use Rattle.relation.proofs.Geometry.{gate_inside, height_apart}
use Rattle.relation.proofs.Views.{cells_at, marks_at, Ghost, stands_at, stand_at, low_of, reach_of, high_in, high_of}
use Rattle.relation.proofs.Relation.{GateAt, Related}
use Rattle.relation.proofs.Links.{shown-inside}
use Rattle.laws.specs.Law.{Keeps, Exclusive}

-- a climbing seat stands one above what it has won, and has more in sight
climbing_above : (w : ℕ) (s : Seat) → lawful_open w s ≡ true → state_number s.state ≡ 1 → (s.height ≡ s.top + 1) × (place_number s.place ≡ 16 → s.height ≤ s.aim)
climbing_above w s l e = (grind (arith, nat_tests), λ d. grind (arith, nat_tests))

reach_above : (w n r t : ℕ) (s : Seat) → s.height ≡ s.top + 1 → (n ≡ 16 → s.height ≤ s.aim) → s.top ≤ reach_of w n r t s
reach_above w n r t s e d = grind (arith, nat_tests)

kept_high : (x : State) (w r t k : ℕ) (s : Seat) → (state_number x ≡ 1 → s.top ≤ reach_of w (place_number s.place) r t s) → keeps_in x s k ≡ true → k ≤ high_in x w r t s
kept_high Away w r t k s m e = grind (arith, nat_tests)
kept_high Climbing w r t k s m e = let a : k ≤ s.top = grind (arith, nat_tests) in let b = m refl in omega arith
kept_high Holding w r t k s m e = grind (arith, nat_tests)
kept_high Leaving w r t k s m e = grind (arith, nat_tests)

kept_inside : (w r t k : ℕ) (s : Seat) → lawful_open w s ≡ true → keeps_height s k ≡ true → (low_of s ≤ k) × (k ≤ high_of w r t s) × (stands_at s ≢ k)
kept_inside w r t k s l e = (
  grind (arith, nat_tests),
  kept_high s.state w r t k s (λ c. let a = climbing_above w s l c in reach_above w (place_number s.place) r t s a.0 a.1) e,
  λ d. grind (arith, nat_tests),
)

-- seat p is inside the gate g, which it meets at height k
record Has (b : BoxState) (G : Ghost) (p k g : ℕ) : Type 0 where
  high : k < b.ways
  way : way_of b.ways p k < b.ways
  owner : G.owner g (way_of b.ways p k) ≡ p + 1
  inside : (stand_at b G k g (way_of b.ways p k)).stage ≡ 2

module _ (b : BoxState) (G : Ghost) (R : Related b G) where
  has_kept : (p g : ℕ) → p < seats_of b.ways → (h : Keeps b p g) → Has b G p h.height g
  has_kept p g l h =
      let z = R.sound.sized in
      let k = h.height in
      let high : k < b.ways = omega (arith, h.high, h.low) in
      let i = way_of b.ways p k in
      let c = kept_inside b.ways _ _ k (seat_at b p) (R.sound.law p l) h.keeps in
      let o : G.owner g i ≡ p + 1 = subst (λ (x : ℕ). G.owner x i ≡ p + 1) h.meets (R.linked.owned p k l h.low high (c.0, c.1)) in
      let d : G.owner g i - 1 ≡ p = omega arith in
      let e : stand_at b G k g i ≡ still 2 =
      shown-inside (G.owner g i) k (seat_at b (G.owner g i - 1)) (λ x. omega arith) (λ x. c.2 (sym (ap (λ q. stands_at (seat_at b q)) d) ∙ x)) in
      record {
        high = high;
        way = (gate_inside b.ways k z.few z.most h.low high p l).1;
        owner = o;
        inside = ap (λ v. v.stage) e;
      }

  same_occupant : (p q k n g : ℕ) → p < seats_of b.ways → 1 ≤ k → gate_of b.ways p k ≡ g → k ≡ n → Has b G p k g → Has b G q n g → p ≡ q
  same_occupant p q k n g l low m e x y =
      let z = R.sound.sized in
      let y' : Has b G q k g = subst (λ (i : ℕ). Has b G q i g) (sym e) y in
      let gate = (subst (λ (a : ℕ). GateAt b G k a) m (R.gates p k l low x.high)).gate in
      let i = way_of b.ways p k in
      let j = way_of b.ways q k in
      let high = x.high in
      let same : i ≡ j =
      two_inside b.ways k (heights_of b.ways) (G.phase g) (cells_at b g) i j _ _ (marks_at b g i) (marks_at b g j) low (omega arith) (omega (arith, z.most)) gate.cells (gate.ways i x.way) (gate.ways j y'.way) x.inside y'.inside in
      let a : G.owner g j ≡ p + 1 = subst (λ (v : ℕ). G.owner g v ≡ p + 1) same x.owner in
      let c = y'.owner in
      omega arith

pub exclusive_related : (b : BoxState) (G : Ghost) → Related b G → Exclusive b
exclusive_related b G R p q g l m n x y =
    let z = R.sound.sized in
    let u = has_kept b G R p g l x in
    let v = has_kept b G R q g m y in
    let e = height_apart b.ways x.height z.few z.most x.low u.high y.height p q y.low v.high l m (x.meets ∙ sym y.meets) in
    n (same_occupant b G R p q x.height y.height g l x.low x.meets e u v)

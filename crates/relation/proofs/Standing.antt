-- Who stands at a way of a gate, and what the phase of a gate says of who acts at it. Assumes nothing.
--     Stander    the seat that stands at way j of a gate of height k
--     stander    somebody does, where the way shows a place
--     next_same  a box that is as it was
--     empty_way  a way with an empty Apply has nobody
--     queen_waits, queen_accepts, role_released, first_closed   what is read at 14, 27, 35 and 59
use Rattle.std.proofs.Common.{◌≡◌, ℕ, ◌+◌, ◌-◌, ◌<◌, ◌≤◌, ◌≢◌, ◌⊎◌, sym, ap, ◌∙◌, subst, arith}
use native.Mathlib.Decide.{ℕ_discrete}
use Rattle.std.proofs.lemmas.List.{set-get_or}
use Rattle.layout.specs.Gates.{seats_of, gate_of, way_of}
use Rattle.seats.specs.declared.seat.Seat.{Seat}
use Rattle.seats.specs.declared.state.State.TheVariants.{Climbing, Leaving}
use Rattle.seats.specs.Places.{place_number}
use Rattle.seats.specs.Seats.{away}
use Rattle.lock.specs.States.{BoxState, seat_at, with_seat}
use Rattle.gate.proofs.Phases.{Phase, Stand, Marks, Cells, WayOk, CellsOk}
use Rattle.relation.proofs.Views.{Ghost, stands_at, stand_of, stand_at}
use Rattle.relation.proofs.Relation.{Related}
use Rattle.relation.proofs.Links.{shown-nobody, shown-here, shown-inside}
use Rattle.relation.proofs.Polls.{Next}

pub stands_climbing : (s : Seat) → s.state ≡ Climbing → place_number s.place ≢ 2 → 1 ≤ s.height → stands_at s ≢ 0
stands_climbing s e n l d = grind arith

pub stands_leaving : (s : Seat) → s.state ≡ Leaving → place_number s.place ≢ 35 → 1 ≤ s.height → stands_at s ≢ 0
stands_leaving s e n l d = grind arith

stands_height : (s : Seat) → stands_at s ≢ 0 → stands_at s ≡ s.height
stands_height s n = grind arith

stage_standing : (s : Seat) → stands_at s ≢ 0 → (stand_of s).stage ≢ 0
stage_standing s n e = grind arith

pub next_same : (b : BoxState) (G : Ghost) (p : ℕ) → Related b G → Next b p (seat_at b p) b.cells
next_same b G p R =
    let e : with_seat b p (seat_at b p) b.cells ≡ b =
    λ k. record { ways = b.ways; next = b.next; seats = set-get_or b.seats p away k; cells = b.cells } in
    (G, subst (λ (a : BoxState). Related a G) (sym e) R)

-- seat q stands at way j of a gate of height k
pub record Stander (b : BoxState) (G : Ghost) (k g j q : ℕ) : Type 0 where
  pub inside : q < seats_of b.ways
  pub owner : G.owner g j ≡ q + 1
  pub gate : gate_of b.ways q k ≡ g
  pub way : way_of b.ways q k ≡ j
  pub height : (seat_at b q).height ≡ k
  pub stands : stands_at (seat_at b q) ≢ 0
  pub shows : stand_at b G k g j ≡ stand_of (seat_at b q)

module _ (b : BoxState) (G : Ghost) (R : Related b G) (p k : ℕ) (pl : p < seats_of b.ways) (low : 1 ≤ k) (high : k < b.ways) where
  abbrev g : ℕ
  g = gate_of b.ways p k

  pub stander : (j : ℕ) → j < b.ways → (stand_at b G k g j).place ≢ 0 → (q : ℕ) × Stander b G k g j q
  stander j l n =
      let o = G.owner g j in
      let t = seat_at b (o - 1) in
      let some : o ≢ 0 = λ e. n (ap (λ v. v.place) (shown-nobody o k t e)) in
      let at : stands_at t ≡ k = elim (ℕ_discrete (stands_at t) k) [ yes e ↦ e | no e ↦ absurd (n (ap (λ v. v.place) (shown-inside o k t some e))) ] in
      let stands : stands_at t ≢ 0 = λ e. omega arith in
      let c = R.linked.belongs p k j (o - 1) pl low high l (omega arith) in (
        o - 1,
        record {
          inside = c.0;
          owner = omega arith;
          gate = c.1;
          way = c.2;
          height = sym (stands_height t stands) ∙ at;
          stands = stands;
          shows = shown-here o k t some at;
        },
      )

  pub nobody_there : (j : ℕ) → j < b.ways → (stand_at b G k g j).stage ≡ 0 → G.owner g j ≡ 0
  nobody_there j l e =
      let o = G.owner g j in
      let t = seat_at b (o - 1) in
      elim (ℕ_discrete o 0) [
        | yes d ↦ d
        | no d ↦ elim (ℕ_discrete (stands_at t) k) [
          | yes c ↦ absurd (stage_standing t (λ q. omega arith) (sym (ap (λ v. v.stage) (shown-here o k t d c)) ∙ e))
          | no c ↦ absurd (let q : ◌≡◌ {A = ℕ} 2 0 = sym (ap (λ v. v.stage) (shown-inside o k t d c)) ∙ e in omega arith)
        ]
      ]

module _ (w h H : ℕ) (f : Phase) (c : Cells) (i : ℕ) (v : Stand) (x : Marks) (low : 1 ≤ h) (high : h ≤ H) (most : H ≤ 3) (co : CellsOk w h H f c) (wo : WayOk h H f c i v x) where
  pub empty_way : x.applied ≡ 0 → v.stage ≡ 0
  empty_way e = grind arith

  pub queen_waits : v.stage ≡ 1 → v.place ≡ 14 → (x.role ≡ 2) × ((c.sync_one ≡ 0) ⊎ ((h ≤ c.sync_one) × (c.sync_one ≤ H)))
  queen_waits e d = (grind arith, grind arith)

  pub queen_accepts : v.stage ≡ 1 → v.place ≡ 27 → (x.role ≡ 2) × (h ≤ c.sync_one) × (c.sync_one ≤ H)
  queen_accepts e d = (grind arith, grind arith, grind arith)

  pub role_released : v.stage ≡ 2 → (x.role ≡ 1) ⊎ ((x.role ≡ 2) ⊎ (x.role ≡ 4))
  role_released e = grind arith

  pub first_closed : (v.stage ≡ 1) ⊎ (v.stage ≡ 3) → v.place ≡ 59 → (1 ≤ c.sync_two) × (c.sync_two ≤ w)
  first_closed e d = (grind arith, grind arith)

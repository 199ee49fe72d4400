-- A step of one seat at the gate that it meets at its height, after which no way but its own has another occupant. Assumes
-- nothing.
--     shown-nobody, shown-here, shown-inside   what an occupant shows
--     turned_ghost  another phase for one gate, and another occupant for one of its ways
--     OwnStep       what such a step has to show
--     own_related   the relation holds afterwards
use Rattle.std.proofs.Common.{◌≡◌, ℕ, ◌+◌, ◌-◌, ◌<◌, ◌≤◌, Bool, cond, eqb, ◌≢◌, ◌⊎◌, List, length, sym, refl, ap, ◌∙◌, subst, inl, inr, arith}
use native.Mathlib.Decide.{ℕ_discrete}
use Rattle.std.proofs.lemmas.Bool.{eq-eqb, ne_eqb}
use Rattle.layout.specs.Gates.{seats_of, gate_of, way_of, gate_cells, cell_of}
use Rattle.seats.specs.declared.seat.Seat.{Seat}
use Rattle.seats.specs.declared.state.State.{State}
use Rattle.seats.specs.Places.{place_number}
use Rattle.store.specs.Words.{held}
use Rattle.lock.specs.States.{BoxState, seat_at, with_seat}
use Rattle.gate.proofs.Phases.{Phase}
use Rattle.gate.proofs.Gates.{still}
use Rattle.relation.proofs.Geometry.{height_apart}
use Rattle.relation.proofs.Views.{Ghost, stands_in, stands_at, stand_of, shown, low_of, high_at, Occupies}
use Rattle.relation.proofs.Relation.{Sized, Linked, GateAt, Related}
use Rattle.relation.proofs.Frame.{SeatChange, seat_own, seat_else, sound-change, same_words, Elsewhere, gates_change}

module _ (o k : ℕ) (s : Seat) where
  pub shown-nobody : o ≡ 0 → shown o k s ≡ still 0
  shown-nobody e = ap (λ (t : Bool). cond t (still 0) (cond (eqb (stands_at s) k) (stand_of s) (still 2))) (eq-eqb o 0 e)

  occupied : o ≢ 0 → shown o k s ≡ cond (eqb (stands_at s) k) (stand_of s) (still 2)
  occupied n = ap (λ (t : Bool). cond t (still 0) (cond (eqb (stands_at s) k) (stand_of s) (still 2))) (ne_eqb o 0 n)

  pub shown-here : o ≢ 0 → stands_at s ≡ k → shown o k s ≡ stand_of s
  shown-here n e = occupied n ∙ ap (λ (t : Bool). cond t (stand_of s) (still 2)) (eq-eqb (stands_at s) k e)

  pub shown-inside : o ≢ 0 → stands_at s ≢ k → shown o k s ≡ still 2
  shown-inside n e = occupied n ∙ ap (λ (t : Bool). cond t (stand_of s) (still 2)) (ne_eqb (stands_at s) k e)

abbrev pub turned_ghost : Ghost → (g i : ℕ) → Phase → ℕ → Ghost
turned_ghost G g i f o =
    record { phase = λ x. cond (eqb x g) f (G.phase x); owner = λ x j. cond (eqb x g) (cond (eqb j i) o (G.owner x j)) (G.owner x j) }

stands_in_lem : (x : State) (n h : ℕ) → (stands_in x n h ≡ 0) ⊎ (stands_in x n h ≡ h)
stands_in_lem x n h = grind arith

-- seat p gets the record t, and the gate that it meets at height h gets other cells, the phase f, and the occupant o of its way
pub record OwnStep (b : BoxState) (G : Ghost) (p h : ℕ) (t : Seat) (ws : List ℕ) (f : Phase) (o : ℕ) : Type 0 where
  pub low : 1 ≤ h
  pub high : h < b.ways
  pub height : (seat_at b p).height ≡ h
  pub size : length ws ≡ length b.cells
  pub outside : (x k : ℕ) → x ≢ gate_of b.ways p h → k < gate_cells b.ways → held ws (cell_of b.ways x 0 + k) ≡ held b.cells (cell_of b.ways x 0 + k)
  pub seat : SeatChange b p t
  pub stands : (stands_at t ≡ 0) ⊎ (stands_at t ≡ h)
  pub before : (G.owner (gate_of b.ways p h) (way_of b.ways p h) ≡ 0) ⊎ (G.owner (gate_of b.ways p h) (way_of b.ways p h) ≡ p + 1)
  pub after : (o ≡ 0) ⊎ (o ≡ p + 1)
  pub range : (k : ℕ) → 1 ≤ k → k < b.ways → k ≢ h → Occupies b p k → Occupies (with_seat b p t ws) p k
  pub range_back : (k : ℕ) → 1 ≤ k → k < b.ways → k ≢ h → Occupies (with_seat b p t ws) p k → Occupies b p k
  pub range_own : Occupies (with_seat b p t ws) p h → o ≡ p + 1
  pub own_range : o ≡ p + 1 → Occupies (with_seat b p t ws) p h
  pub others : (q : ℕ) → q < seats_of b.ways → q ≢ p → high_at (with_seat b p t ws) q ≡ high_at b q
  pub gate : GateAt (with_seat b p t ws) (turned_ghost G (gate_of b.ways p h) (way_of b.ways p h) f o) h (gate_of b.ways p h)

module _ (b : BoxState) (G : Ghost) (R : Related b G) (p h : ℕ) (pl : p < seats_of b.ways) (t : Seat) (ws : List ℕ) (f : Phase) (o : ℕ) (s : OwnStep b G p h t ws f o) where
  abbrev w : ℕ
  w = b.ways

  abbrev g : ℕ
  g = gate_of w p h

  abbrev i : ℕ
  i = way_of w p h

  abbrev a : BoxState
  a = with_seat b p t ws

  abbrev G' : Ghost
  G' = turned_ghost G g i f o

  z : Sized b
  z = R.sound.sized

  owner_own : G'.owner g i ≡ o
  owner_own = rw (eq-eqb g g refl, eq-eqb i i refl)

  -- it is the way of the step, or it has the occupant that it had
  own_or_same : (x j : ℕ) → ((x ≡ g) × (j ≡ i)) ⊎ (G'.owner x j ≡ G.owner x j)
  own_or_same x j =
      elim (ℕ_discrete x g) [
        | yes e ↦ elim (ℕ_discrete j i) [ yes d ↦ inl (e, d) | no d ↦ inr (rw (eq-eqb x g e, ne_eqb j i d)) ]
        | no e ↦ inr (rw (ne_eqb x g e))
      ]

  owner_at : (x j : ℕ) → x ≡ g → j ≡ i → G'.owner x j ≡ o
  owner_at x j e d = rw (eq-eqb x g e, eq-eqb j i d)

  -- the gates that the seat meets at other heights are others
  apart : (k : ℕ) → 1 ≤ k → k < w → k ≢ h → gate_of w p k ≢ g
  apart k l m n e = n (height_apart w k z.few z.most l m h p p s.low s.high pl pl e)

  same_range : (q k : ℕ) → q < seats_of w → q ≢ p → Occupies a q k → Occupies b q k
  same_range q k l n c =
      let e = seat_else b p t ws pl z q n in
      (subst (λ (v : Seat). low_of v ≤ k) e c.0, subst (λ (m : ℕ). k ≤ m) (s.others q l n) c.1)

  same_range_back : (q k : ℕ) → q < seats_of w → q ≢ p → Occupies b q k → Occupies a q k
  same_range_back q k l n c =
      let e = seat_else b p t ws pl z q n in
      (subst (λ (v : Seat). low_of v ≤ k) (sym e) c.0, subst (λ (m : ℕ). k ≤ m) (sym (s.others q l n)) c.1)

  not_own : (q : ℕ) → q ≢ p → G.owner g i ≡ q + 1 → ⊥
  not_own q n e = elim s.before [ inl d ↦ omega arith | inr d ↦ n (omega arith) ]

  not_after : (q : ℕ) → q ≢ p → o ≡ q + 1 → ⊥
  not_after q n e = elim s.after [ inl d ↦ omega arith | inr d ↦ n (omega arith) ]

  owned_own : (k : ℕ) → 1 ≤ k → k < w → Occupies a p k → G'.owner (gate_of w p k) (way_of w p k) ≡ p + 1
  owned_own k l m c =
      elim (ℕ_discrete k h) [
        | yes e ↦
            let d : Occupies a p h = subst (λ (x : ℕ). Occupies a p x) e c in
            owner_at (gate_of w p k) (way_of w p k) (ap (λ x. gate_of w p x) e) (ap (λ x. way_of w p x) e) ∙ s.range_own d
        | no e ↦ rw (ne_eqb (gate_of w p k) g (apart k l m e)) (R.linked.owned p k pl l m (s.range_back k l m e c))
      ]

  owned_else : (q k : ℕ) → q ≢ p → q < seats_of w → 1 ≤ k → k < w → Occupies a q k → G'.owner (gate_of w q k) (way_of w q k) ≡ q + 1
  owned_else q k n ql l m c =
      let e = R.linked.owned q k ql l m (same_range q k ql n c) in
      elim (own_or_same (gate_of w q k) (way_of w q k)) [
        | inl d ↦ absurd (not_own q n (subst (λ (x : ℕ). G.owner g x ≡ q + 1) d.1 (subst (λ (x : ℕ). G.owner x (way_of w q k) ≡ q + 1) d.0 e)))
        | inr d ↦ d ∙ e
      ]

  owns_own : (k : ℕ) → 1 ≤ k → k < w → G'.owner (gate_of w p k) (way_of w p k) ≡ p + 1 → Occupies a p k
  owns_own k l m c =
      elim (ℕ_discrete k h) [
        | yes e ↦
            let d : o ≡ p + 1 = sym (owner_at (gate_of w p k) (way_of w p k) (ap (λ x. gate_of w p x) e) (ap (λ x. way_of w p x) e)) ∙ c in
            subst (λ (x : ℕ). Occupies a p x) (sym e) (s.own_range d)
        | no e ↦ s.range k l m e (R.linked.owns p k pl l m (rw (ne_eqb (gate_of w p k) g (apart k l m e)) at c))
      ]

  owns_else : (q k : ℕ) → q ≢ p → q < seats_of w → 1 ≤ k → k < w → G'.owner (gate_of w q k) (way_of w q k) ≡ q + 1 → Occupies a q k
  owns_else q k n ql l m c =
      elim (own_or_same (gate_of w q k) (way_of w q k)) [
        | inl d ↦ absurd (not_after q n (sym (owner_at (gate_of w q k) (way_of w q k) d.0 d.1) ∙ c))
        | inr d ↦ same_range_back q k ql n (R.linked.owns q k ql l m (sym d ∙ c))
      ]

  linked : Linked a G'
  linked =
      record {
        owned = λ q k ql l m c. elim (ℕ_discrete q p) [
          | yes e ↦ subst (λ (x : ℕ). G'.owner (gate_of w x k) (way_of w x k) ≡ x + 1) (sym e) (owned_own k l m (subst (λ (x : ℕ). Occupies a x k) e c))
          | no e ↦ owned_else q k e ql l m c
        ];
        owns = λ q k ql l m c. elim (ℕ_discrete q p) [
          | yes e ↦ subst (λ (x : ℕ). Occupies a x k) (sym e) (owns_own k l m (subst (λ (x : ℕ). G'.owner (gate_of w x k) (way_of w x k) ≡ x + 1) e c))
          | no e ↦ owns_else q k e ql l m c
        ];
        belongs = λ q k j r ql l m jl c. elim (own_or_same (gate_of w q k) j) [
          | inl d ↦
              let e : o ≡ r + 1 = sym (owner_at (gate_of w q k) j d.0 d.1) ∙ c in
              let n : r ≡ p = elim s.after [ inl x ↦ absurd (omega arith) | inr x ↦ omega arith ] in
              let k=h : k ≡ h = height_apart w k z.few z.most l m h q p s.low s.high ql pl d.0 in
              subst (λ (x : ℕ). (x < seats_of w) × (gate_of w x k ≡ gate_of w q k) × (way_of w x k ≡ j)) (sym n)
              (pl, ap (λ x. gate_of w p x) k=h ∙ sym d.0, ap (λ x. way_of w p x) k=h ∙ sym d.1)
          | inr d ↦ R.linked.belongs q k j r ql l m jl (sym d ∙ c)
        ];
      }

  -- at another gate an occupant shows the same
  same_shown : (q k j n : ℕ) → q < seats_of w → 1 ≤ k → k < w → j < w → gate_of w q k ≢ g → G.owner (gate_of w q k) j ≡ n → shown n k (seat_at a (n - 1)) ≡ shown n k (seat_at b (n - 1))
  same_shown q k j n ql l m jl ne e =
      elim (ℕ_discrete n 0) [
        | yes d ↦ shown-nobody n k (seat_at a (n - 1)) d ∙ sym (shown-nobody n k (seat_at b (n - 1)) d)
        | no d ↦ elim (ℕ_discrete (n - 1) p) [
          | yes r ↦
              let c = R.linked.belongs q k j p ql l m jl (e ∙ omega arith) in
              let k≠h : k ≢ h = λ x. ne (sym c.1 ∙ ap (λ y. gate_of w p y) x) in
              let v : seat_at a (n - 1) ≡ t = ap (λ x. seat_at a x) r ∙ seat_own b p t ws pl z in
              let u : seat_at b (n - 1) ≡ seat_at b p = ap (λ x. seat_at b x) r in
              let new : stands_at (seat_at a (n - 1)) ≢ k = λ x. let y : stands_at t ≡ k = sym (ap stands_at v) ∙ x in k≠h (elim s.stands [ inl y₀ ↦ absurd (omega arith) | inr y₀ ↦ omega arith ]) in
              let old : stands_at (seat_at b (n - 1)) ≢ k = λ x. let y : stands_at (seat_at b p) ≡ k = sym (ap stands_at u) ∙ x in let hh = s.height in k≠h (elim (stands_in_lem (seat_at b p).state (place_number (seat_at b p).place) (seat_at b p).height) [ inl y₀ ↦ absurd (omega arith) | inr y₀ ↦ omega arith ]) in
              shown-inside n k (seat_at a (n - 1)) d new ∙ sym (shown-inside n k (seat_at b (n - 1)) d old)
          | no r ↦ ap (λ v. shown n k v) (seat_else b p t ws pl z (n - 1) r)
        ]
      ]

  elsewhere : Elsewhere b a G G' p h
  elsewhere =
      record {
        words = λ q k ql l m ne. same_words b p t ws (gate_of w q k) (λ c d. s.outside (gate_of w q k) c ne d);
        phase = λ x ne. rw (ne_eqb x g ne);
        stands = λ q k j ql l m jl ne. rw (ne_eqb (gate_of w q k) g ne) (same_shown q k j (G.owner (gate_of w q k) j) ql l m jl ne refl);
      }

  pub own_related : Related a G'
  own_related =
      record {
        sound = sound-change b p t ws pl z R.sound s.seat s.size;
        linked = linked;
        gates = gates_change b G G' p h t ws R pl s.low s.high elsewhere s.gate;
      }

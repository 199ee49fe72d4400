-- The hand-over: a king keeps the gate at which he stands, and the queen has his gates above it. Assumes nothing.
--     Queen, queen   who tries to hand over has a queen
--     Shift          what the two seats occupy before and after
--     handed_ghost   the occupants afterwards
--     HandOver       what such a step has to show
--     handed_related the relation holds afterwards
use Rattle.std.proofs.Common.{◌≡◌, ℕ, zero, suc, ◌+◌, ◌-◌, ◌<◌, ◌≤◌, cond, eqb, ◌≢◌, ◌⊎◌, List, length, sym, refl, ap, ◌∙◌, subst, inl, inr, arith}
use native.Mathlib.Decide.{ℕ_discrete}
use Rattle.std.proofs.lemmas.Bool.{eq-eqb, ne_eqb, cases_lt}
use Rattle.layout.specs.Gates.{seats_of, gate_of, way_of, gate_cells, cell_of}
use Rattle.seats.specs.declared.seat.Seat.{Seat}
use Rattle.store.specs.Words.{held}
use Rattle.lock.specs.States.{BoxState, seat_at, with_seat}
use Rattle.gate.proofs.Phases.{Stand, Marks, Cells, Phase, idle, solo, pair, clean, free, drain, prom, WayOk, CellsOk}
use Rattle.relation.proofs.Geometry.{gate_inside, above, height_apart}
use Rattle.relation.proofs.Views.{Ghost, stands_at, shown, stand_at, Occupies}
use Rattle.relation.proofs.Relation.{Sized, Linked, GateAt, Related}
use Rattle.relation.proofs.Frame.{SeatChange, seat_else, sound-change, same_words, gates_change}
use Rattle.relation.proofs.Links.{shown-nobody, shown-inside}
use Rattle.relation.proofs.Acting.{Queenly}

-- who gives a gate back as a king with no word in Sync1 has a queen at way q, and nobody else waits there as one
pub record Queen (w h H : ℕ) (f : Phase) (c : Cells) (i q : ℕ) : Type 0 where
  pub inside : q < w
  pub apart : q ≢ i
  pub hopes : (u : Stand) (y : Marks) → WayOk h H f c q u y → (y.role ≡ 2) × (u.stage ≡ 1) × ((u.place ≡ 14) ⊎ ((u.place ≡ 19) ⊎ (u.place ≡ 26)))
  pub alone : (j : ℕ) (u : Stand) (y : Marks) → j ≢ i → j ≢ q → WayOk h H f c j u y → Queenly u y → ⊥

module _ (w h H : ℕ) (low : 1 ≤ h) (c : Cells) (i : ℕ) (v : Stand) (x : Marks) (leaves : v.stage ≡ 3) (last : v.place ≡ 37) (none : c.sync_one ≡ 0) where
  pub queen : (f : Phase) → CellsOk w h H f c → WayOk h H f c i v x → (q : ℕ) × Queen w h H f c i q
  queen idle co wo = absurd (grind arith)
  queen (solo k) co wo = absurd (grind arith)
  queen (pair k q) co wo =
      let e : i ≡ k = grind arith in
      (q, record { inside = grind arith; apart = grind arith; hopes = λ u y d. (grind arith, grind arith, grind arith); alone = λ j u y n₀ n₁ d g. grind arith })
  queen (clean r a) co wo = absurd (grind arith)
  queen (free r) co wo = absurd (grind arith)
  queen (drain r) co wo = absurd (grind arith)
  queen (prom p) co wo = absurd (grind arith)

module _ (w p r h : ℕ) (few : 2 ≤ w) (most : w ≤ 4) (low : 1 ≤ h) (meets : gate_of w p h ≡ gate_of w r h) where
  -- seats that share a gate share those above
  share : (d : ℕ) → h + d < w → gate_of w p (h + d) ≡ gate_of w r (h + d)
  share zero l = let e : h + 0 ≡ h = omega arith in subst (λ (k : ℕ). gate_of w p k ≡ gate_of w r k) (sym e) meets
  share (suc d) l =
      let e : h + d + 1 ≡ h + suc d = omega arith in
      subst (λ (k : ℕ). gate_of w p k ≡ gate_of w r k) e (above w (h + d) few most (omega arith) (omega arith) p r (share d (omega arith))).0

  share_above : (k : ℕ) → h < k → k < w → (gate_of w p k ≡ gate_of w r k) × (way_of w p k ≡ way_of w r k)
  share_above k l u =
      let e : h + (k - 1 - h) + 1 ≡ k = omega arith in
      subst (λ (n : ℕ). (gate_of w p n ≡ gate_of w r n) × (way_of w p n ≡ way_of w r n)) e
      (above w (h + (k - 1 - h)) few most (omega arith) (omega arith) p r (share (k - 1 - h) (omega arith)))

-- seat p, which occupied the heights from h to top, keeps the gate at h, and seat r has those above it
pub record Shift (b : BoxState) (p r h top : ℕ) (t : Seat) (ws : List ℕ) : Type 0 where
  pub inside : p < seats_of b.ways
  pub queen : r < seats_of b.ways
  pub apart : r ≢ p
  pub low : 1 ≤ h
  pub high : h < b.ways
  pub meets : gate_of b.ways p h ≡ gate_of b.ways r h
  pub reach : h ≤ top
  pub king_had : (k : ℕ) → Occupies b p k → (h ≤ k) × (k ≤ top)
  pub had_king : (k : ℕ) → h ≤ k → k ≤ top → Occupies b p k
  pub king_has : (k : ℕ) → Occupies (with_seat b p t ws) p k → k ≡ h
  pub has_king : Occupies (with_seat b p t ws) p h
  pub queen_had : (k : ℕ) → Occupies b r k → k ≤ h
  pub had_queen : (k : ℕ) → 1 ≤ k → k ≤ h → Occupies b r k
  pub queen_has : (k : ℕ) → Occupies (with_seat b p t ws) r k → k ≤ top
  pub has_queen : (k : ℕ) → 1 ≤ k → k ≤ top → Occupies (with_seat b p t ws) r k
  pub others : (q k : ℕ) → q < seats_of b.ways → q ≢ p → q ≢ r → Occupies (with_seat b p t ws) q k → Occupies b q k
  pub others_back : (q k : ℕ) → q < seats_of b.ways → q ≢ p → q ≢ r → Occupies b q k → Occupies (with_seat b p t ws) q k

-- the ways of seat p go over to seat r, but for those of gate g
abbrev pub handed_ghost : Ghost → (g p r : ℕ) → Ghost
handed_ghost G g p r =
    record { phase = G.phase; owner = λ x j. cond (eqb x g) (G.owner x j) (cond (eqb (G.owner x j) (p + 1)) (r + 1) (G.owner x j)) }

module _ (b : BoxState) (G : Ghost) (R : Related b G) (p r h top : ℕ) (t : Seat) (ws : List ℕ) (s : Shift b p r h top t ws) where
  abbrev w : ℕ
  w = b.ways

  abbrev g : ℕ
  g = gate_of w p h

  abbrev a : BoxState
  a = with_seat b p t ws

  abbrev G' : Ghost
  G' = handed_ghost G g p r

  z : Sized b
  z = R.sound.sized

  -- which ways go over
  over : (x j : ℕ) → ((x ≢ g) × (G.owner x j ≡ p + 1) × (G'.owner x j ≡ r + 1)) ⊎ ((G'.owner x j ≡ G.owner x j) × ((x ≡ g) ⊎ (G.owner x j ≢ p + 1)))
  over x j =
      elim (ℕ_discrete x g) [
        | yes e ↦ inr (rw (eq-eqb x g e), inl e)
        | no e ↦ elim (ℕ_discrete (G.owner x j) (p + 1)) [
          | yes d ↦ inl (e, d, rw (ne_eqb x g e, eq-eqb (G.owner x j) (p + 1) d))
          | no d ↦ inr (rw (ne_eqb x g e, ne_eqb (G.owner x j) (p + 1) d), inr d)
        ]
      ]

  at_height : (q k : ℕ) → q < seats_of w → 1 ≤ k → k < w → gate_of w q k ≡ g → k ≡ h
  at_height q k l m n e = height_apart w k z.few z.most m n h q p s.low s.high l s.inside e

  above_apart : (k : ℕ) → 1 ≤ k → k < w → k ≢ h → gate_of w p k ≢ g
  above_apart k l m n e = n (at_height p k s.inside l m e)

  meets_above : (k : ℕ) → h < k → k < w → (gate_of w p k ≡ gate_of w r k) × (way_of w p k ≡ way_of w r k)
  meets_above k l m = share_above w p r h z.few z.most s.low s.meets k l m

  -- a way that goes over lies above
  over_above : (q k j : ℕ) → q < seats_of w → 1 ≤ k → k < w → j < w → gate_of w q k ≢ g → G.owner (gate_of w q k) j ≡ p + 1 → (h < k) × (k ≤ top) × (gate_of w p k ≡ gate_of w q k) × (way_of w p k ≡ j)
  over_above q k j ql l m jl n e =
      let c = R.linked.belongs q k j p ql l m jl e in
      let d : G.owner (gate_of w p k) (way_of w p k) ≡ p + 1 = subst (λ (y : ℕ). G.owner (gate_of w p k) y ≡ p + 1) (sym c.2) (subst (λ (x : ℕ). G.owner x j ≡ p + 1) (sym c.1) e) in
      let o = s.king_had k (R.linked.owns p k s.inside l m d) in
      let o₀ = o.0 in
      let ne : k ≢ h = λ y. n (sym c.1 ∙ ap (λ x. gate_of w p x) y) in
      (omega arith, o.1, c.1, c.2)

  owned_king : (k : ℕ) → 1 ≤ k → k < w → Occupies a p k → G'.owner (gate_of w p k) (way_of w p k) ≡ p + 1
  owned_king k l m c =
      let e = s.king_has k c in
      let d = R.linked.owned p k s.inside l m (s.had_king k (omega arith) (let q = s.reach in omega arith)) in
      elim (over (gate_of w p k) (way_of w p k)) [
        | inl o ↦ absurd (o.0 (ap (λ x. gate_of w p x) e))
        | inr o ↦ o.0 ∙ d
      ]

  -- before, the ways above belonged to seat p
  was_king : (k : ℕ) → h < k → k < w → k ≤ top → (gate_of w r k ≢ g) × (G.owner (gate_of w r k) (way_of w r k) ≡ p + 1)
  was_king k l m n =
      let e = meets_above k l m in
      let k₀ = s.low in
      let d = R.linked.owned p k s.inside (omega arith) m (s.had_king k (omega arith) n) in (
        λ y. above_apart k (omega arith) m (omega arith) (e.0 ∙ y),
        subst (λ (j : ℕ). G.owner (gate_of w r k) j ≡ p + 1) e.1 (subst (λ (x : ℕ). G.owner x (way_of w p k) ≡ p + 1) e.0 d),
      )

  owned_queen : (k : ℕ) → 1 ≤ k → k < w → Occupies a r k → G'.owner (gate_of w r k) (way_of w r k) ≡ r + 1
  owned_queen k l m c =
      elim (over (gate_of w r k) (way_of w r k)) [
        | inl o ↦ o.2
        | inr o ↦ elim (cases_lt h k) [
          | inl y ↦
              let d = was_king k y m (s.queen_has k c) in
              absurd (elim o.1 [ inl v ↦ d.0 v | inr v ↦ v d.1 ])
          | inr y ↦ o.0 ∙ R.linked.owned r k s.queen l m (s.had_queen k l y)
        ]
      ]

  owned_else : (q k : ℕ) → q ≢ p → q ≢ r → q < seats_of w → 1 ≤ k → k < w → Occupies a q k → G'.owner (gate_of w q k) (way_of w q k) ≡ q + 1
  owned_else q k n n' ql l m c =
      let d = R.linked.owned q k ql l m (s.others q k ql n n' c) in
      elim (over (gate_of w q k) (way_of w q k)) [ inl o ↦ absurd (n (let o₁ = o.1 in omega arith)) | inr o ↦ o.0 ∙ d ]

  owns_king : (k : ℕ) → 1 ≤ k → k < w → G'.owner (gate_of w p k) (way_of w p k) ≡ p + 1 → Occupies a p k
  owns_king k l m c =
      let ne = s.apart in
      elim (over (gate_of w p k) (way_of w p k)) [
        | inl o ↦ absurd (ne (let o₂ = o.2 in omega arith))
        | inr o ↦
            let d : G.owner (gate_of w p k) (way_of w p k) ≡ p + 1 = sym o.0 ∙ c in
            elim o.1 [
              | inl y ↦ subst (λ (x : ℕ). Occupies a p x) (sym (at_height p k s.inside l m y)) s.has_king
              | inr y ↦ absurd (y d)
            ]
      ]

  owns_queen : (k : ℕ) → 1 ≤ k → k < w → G'.owner (gate_of w r k) (way_of w r k) ≡ r + 1 → Occupies a r k
  owns_queen k l m c =
      elim (over (gate_of w r k) (way_of w r k)) [
        | inl o ↦
            let jl : way_of w r k < w = (gate_inside w k z.few z.most l m r s.queen).1 in
            s.has_queen k l (over_above r k (way_of w r k) s.queen l m jl o.0 o.1).1
        | inr o ↦
            let d = s.queen_had k (R.linked.owns r k s.queen l m (sym o.0 ∙ c)) in
            s.has_queen k l (let y = s.reach in omega arith)
      ]

  owns_else : (q k : ℕ) → q ≢ p → q ≢ r → q < seats_of w → 1 ≤ k → k < w → G'.owner (gate_of w q k) (way_of w q k) ≡ q + 1 → Occupies a q k
  owns_else q k n n' ql l m c =
      elim (over (gate_of w q k) (way_of w q k)) [
        | inl o ↦ absurd (n' (let o₂ = o.2 in omega arith))
        | inr o ↦ s.others_back q k ql n n' (R.linked.owns q k ql l m (sym o.0 ∙ c))
      ]

  shift_linked : Linked a G'
  shift_linked =
      record {
        owned = λ q k ql l m c. elim (ℕ_discrete q p) [
          | yes e ↦ subst (λ (x : ℕ). G'.owner (gate_of w x k) (way_of w x k) ≡ x + 1) (sym e) (owned_king k l m (subst (λ (x : ℕ). Occupies a x k) e c))
          | no e ↦ elim (ℕ_discrete q r) [
            | yes d ↦ subst (λ (x : ℕ). G'.owner (gate_of w x k) (way_of w x k) ≡ x + 1) (sym d) (owned_queen k l m (subst (λ (x : ℕ). Occupies a x k) d c))
            | no d ↦ owned_else q k e d ql l m c
          ]
        ];
        owns = λ q k ql l m c. elim (ℕ_discrete q p) [
          | yes e ↦ subst (λ (x : ℕ). Occupies a x k) (sym e) (owns_king k l m (subst (λ (x : ℕ). G'.owner (gate_of w x k) (way_of w x k) ≡ x + 1) e c))
          | no e ↦ elim (ℕ_discrete q r) [
            | yes d ↦ subst (λ (x : ℕ). Occupies a x k) (sym d) (owns_queen k l m (subst (λ (x : ℕ). G'.owner (gate_of w x k) (way_of w x k) ≡ x + 1) d c))
            | no d ↦ owns_else q k e d ql l m c
          ]
        ];
        belongs = λ q k j c ql l m jl e. elim (over (gate_of w q k) j) [
          | inl o ↦
              let d = over_above q k j ql l m jl o.0 o.1 in
              let y = meets_above k d.0 m in
              let n : c ≡ r = (let o₂ = o.2 in omega arith) in
              subst (λ (x : ℕ). (x < seats_of w) × (gate_of w x k ≡ gate_of w q k) × (way_of w x k ≡ j)) (sym n)
              (s.queen, sym y.0 ∙ d.2, sym y.1 ∙ d.3)
          | inr o ↦ R.linked.belongs q k j c ql l m jl (sym o.0 ∙ e)
        ];
      }

  -- the queen's seat, and seat p, stand at g alone
  shift_shown : (q k j : ℕ) → q < seats_of w → 1 ≤ k → k < w → j < w → gate_of w q k ≢ g → (stands_at (seat_at b p) ≡ h) → (stands_at (seat_at b r) ≡ h) → stand_at a G' k (gate_of w q k) j ≡ stand_at b G k (gate_of w q k) j
  shift_shown q k j ql l m jl n here there =
      let o = G.owner (gate_of w q k) j in
      elim (over (gate_of w q k) j) [
        | inl c ↦
            let d = (over_above q k j ql l m jl c.0 c.1).0 in
            let c₁ = c.1 in
            let old : stands_at (seat_at b (o - 1)) ≢ k = λ y. let v : o - 1 ≡ p = omega arith in let u : stands_at (seat_at b (o - 1)) ≡ stands_at (seat_at b p) = ap (λ x. stands_at (seat_at b x)) v in omega arith in
            let new : stands_at (seat_at a (r + 1 - 1)) ≢ k = λ y. let v : r + 1 - 1 ≡ r = omega arith in let u : stands_at (seat_at a (r + 1 - 1)) ≡ stands_at (seat_at b r) = ap (λ x. stands_at (seat_at a x)) v ∙ ap stands_at (seat_else b p t ws s.inside z r s.apart) in omega arith in
            ap (λ x. shown x k (seat_at a (x - 1))) c.2
            ∙ shown-inside (r + 1) k (seat_at a (r + 1 - 1)) (λ y. omega arith) new
            ∙ sym (shown-inside o k (seat_at b (o - 1)) (λ y. omega arith) old)
        | inr c ↦
            ap (λ x. shown x k (seat_at a (x - 1))) c.0
            ∙ elim (ℕ_discrete o 0) [
              | yes d ↦ shown-nobody o k (seat_at a (o - 1)) d ∙ sym (shown-nobody o k (seat_at b (o - 1)) d)
              | no d ↦ ap (λ v. shown o k v) (seat_else b p t ws s.inside z (o - 1) (elim c.1 [ inl y ↦ absurd (n y) | inr y ↦ λ v. y (omega arith) ]))
            ]
      ]

-- seat p gets the record t, and the gate at h other cells
pub record HandOver (b : BoxState) (G : Ghost) (p r h top : ℕ) (t : Seat) (ws : List ℕ) : Type 0 where
  pub shift : Shift b p r h top t ws
  pub king : stands_at (seat_at b p) ≡ h
  pub queen : stands_at (seat_at b r) ≡ h
  pub size : length ws ≡ length b.cells
  pub outside : (x k : ℕ) → x ≢ gate_of b.ways p h → k < gate_cells b.ways → held ws (cell_of b.ways x 0 + k) ≡ held b.cells (cell_of b.ways x 0 + k)
  pub seat : SeatChange b p t
  pub gate : GateAt (with_seat b p t ws) (handed_ghost G (gate_of b.ways p h) p r) h (gate_of b.ways p h)

pub handed_related : (b : BoxState) (G : Ghost) (p r h top : ℕ) (t : Seat) (ws : List ℕ) → Related b G → HandOver b G p r h top t ws → Related (with_seat b p t ws) (handed_ghost G (gate_of b.ways p h) p r)
handed_related b G p r h top t ws R o =
    let s = o.shift in
    let w = b.ways in
    let G' = handed_ghost G (gate_of b.ways p h) p r in
    record {
      sound = sound-change b p t ws s.inside R.sound.sized R.sound o.seat o.size;
      linked = shift_linked b G R p r h top t ws s;
      gates = gates_change b G G' p h t ws R s.inside s.low s.high
          (record {
            words = λ q k ql l m ne. same_words b p t ws (gate_of w q k) (λ c d. o.outside (gate_of w q k) c ne d);
            phase = λ x ne. refl;
            stands = λ q k j ql l m jl ne. shift_shown b G R p r h top t ws s q k j ql l m jl ne o.king o.queen;
          }) o.gate;
    }

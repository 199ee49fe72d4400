-- A seat that acts at a gate: the words it finds there, what it writes, and what the gate's phase says of it. Assumes nothing.
--     Writing         the store after some writes to the gate, with what they make of its cells and marks
--     writes_nothing, writes-count, and so on   one write more
--     go, high_plain  a step that leaves the seat standing at the gate
use Rattle.std.proofs.Common.{◌≡◌, ℕ, ◌+◌, ◌/◌, ◌%◌, ◌^◌, ◌<◌, ◌≤◌, cond, eqb, ◌≢◌, ◌⊎◌, List, length, sym, refl, ap, ◌∙◌, subst, inl, inr, mul-le-mul_right, arith}
use Rattle.std.proofs.lemmas.Bool.Decides.{nat_tests}
use Rattle.layout.specs.declared.path.Meeting.{Meeting}
use Rattle.layout.specs.Gates.{heights_of, gate_of, way_of, gate_cells}
use Rattle.layout.specs.Meetings.{meeting}
use Rattle.seats.specs.declared.seat.Seat.{Seat}
use Rattle.seats.specs.declared.state.State.{State}
use Rattle.seats.specs.declared.state.State.TheVariants.{Away, Climbing, Holding, Leaving}
use Rattle.seats.specs.Places.{place_number}
use Rattle.steps.specs.declared.cells.Cell.TheVariants.{Count, SyncOne, SyncTwo, Pawns, Apply, Role}
use Rattle.steps.specs.Outcomes.{put}
use Rattle.steps.specs.Pawns.{lane}
use Rattle.lock.specs.States.{BoxState, seat_at}
use Rattle.gate.proofs.Phases.{Phase, Stand, Marks, Cells, WayOk, CellsOk}
use Rattle.gate.proofs.Gates.{Height, Calm, turn_from_calm, Nothing, still, counts, syncs_one, syncs_two, applies, plays, lists}
use Rattle.relation.proofs.Geometry.{gate_inside}
use Rattle.relation.proofs.Views.{cells_at, marks_at, Ghost, stands_at, stand_of, low_of, reach_of, high_in, high_of, high_at}
use Rattle.relation.proofs.Relation.{Late, Sized, GateAt}
use Rattle.relation.proofs.GateWords.{Words, written, words_of, marks_in, Wrote, wrote, wrote_nothing}
use Rattle.relation.proofs.Alters.{Alters, alters_nothing, alters-count, alters-sync-one, alters-sync-two, alters-role, alters-apply, alters-pawns, alters-told, alters-as}
use Rattle.relation.proofs.Acting.{Acts, way_inside}
use Rattle.relation.proofs.Polls.{Next, Goes, Rests, SyncKept, Known, MoveOf, stand_was, stays, rests-inside}

-- what a seat occupies where it does not wait as a queen, and has not just won
reach_plain : (w n r v : ℕ) (t : Seat) → n ≢ 2 → (n < 14) ⊎ (27 < n) → reach_of w n r v t ≡ t.height
reach_plain w n r v t a o = elim o [ inl e ↦ grind (arith, nat_tests) | inr e ↦ grind (arith, nat_tests) ]

high_in_lem : (x : State) (w r v r' v' : ℕ) (s t : Seat) → t.height ≡ s.height → t.top ≡ s.top → t.handed ≡ s.handed → place_number s.place ≢ 2 → (place_number s.place < 14) ⊎ (27 < place_number s.place) → place_number t.place ≢ 2 → (place_number t.place < 14) ⊎ (27 < place_number t.place) → high_in x w r v t ≡ high_in x w r' v' s
high_in_lem Away w r v r' v' s t a c d n o m q = refl
high_in_lem Climbing w r v r' v' s t a c d n o m q =
    reach_plain w (place_number t.place) r v t m q ∙ (a ∙ sym (reach_plain w (place_number s.place) r' v' s n o))
high_in_lem Holding w r v r' v' s t a c d n o m q = c
high_in_lem Leaving w r v r' v' s t a c d n o m q = λ k. cond (d k) (a k) (c k)

pub high_plain : (w r v r' v' : ℕ) (s t : Seat) → Goes w s t → t.top ≡ s.top → place_number s.place ≢ 2 → (place_number s.place < 14) ⊎ (27 < place_number s.place) → (place_number t.place < 14) ⊎ (27 < place_number t.place) → high_of w r v t ≡ high_of w r' v' s
high_plain w r v r' v' s t d e n o q =
    ap (λ x. high_in x w r v t) d.state ∙ high_in_lem s.state w r v r' v' s t d.height e d.handed n o d.within q

module _ {b : BoxState} {G : Ghost} {p : ℕ} (A : Acts b G p (seat_at b p).height) where
  abbrev w : ℕ
  w = b.ways

  abbrev s : Seat
  s = seat_at b p

  abbrev h : ℕ
  h = s.height

  abbrev H : ℕ
  H = heights_of w

  abbrev g : ℕ
  g = gate_of w p h

  abbrev i : ℕ
  i = way_of w p h

  abbrev pub m : Meeting
  m = meeting w p h

  abbrev pub c₀ : Cells
  c₀ = cells_at b g

  abbrev pub x₀ : Marks
  x₀ = marks_at b g i

  z : Sized b
  z = A.related.sound.sized

  room : m.base + gate_cells w ≤ length b.cells
  room =
      let l = (gate_inside w h z.few z.most A.low A.high p A.inside).0 in
      let e = mul-le-mul_right (gate_cells w) l in
      omega (arith, z.cells)

  pub at-gate : GateAt b G h g
  at-gate = A.related.gates p h A.inside A.low A.high

  pub here : Height w h H i
  here = let q = z.most in let l = A.high in record { low = A.low; high = omega arith; most = omega arith; way = way_inside b G p h A }

  pub cells_ok : CellsOk w h H (G.phase g) c₀
  cells_ok = at-gate.gate.cells

  pub way_ok : stands_at s ≢ 0 → WayOk h H (G.phase g) c₀ i (stand_of s) x₀
  way_ok n = subst (λ (v : Stand). WayOk h H (G.phase g) c₀ i v x₀) (stand_was A n) (at-gate.gate.ways i (way_inside b G p h A))

  pub record Writing (ws : List ℕ) (x : Words) (c : Cells) (y : Marks) (alter : ℕ → Marks → Marks) : Type 0 where
    pub store : Wrote b.cells ws m x
    pub marks : Alters w i (words_of b.cells m) x c y alter

  pub writes_nothing : Writing b.cells (words_of b.cells m) c₀ x₀ (λ j y. y)
  writes_nothing =
      record { store = wrote_nothing b.cells m; marks = alters_nothing w i (words_of b.cells m) at-gate.pawns at-gate.applies }

  module _ {ws : List ℕ} {x : Words} {c : Cells} {y : Marks} {alter : ℕ → Marks → Marks} (u : Writing ws x c y alter) where
    pub writes-count : (n : ℕ) → Writing (put ws m Count n) (written Count n x) (counts n c) y alter
    writes-count n =
        record { store = wrote b.cells ws m x Count n room tt u.store; marks = alters-count w i (words_of b.cells m) x c y alter u.marks n }

    pub writes-sync-one : (n : ℕ) → Writing (put ws m SyncOne n) (written SyncOne n x) (syncs_one n c) y alter
    writes-sync-one n =
        record { store = wrote b.cells ws m x SyncOne n room tt u.store; marks = alters-sync-one w i (words_of b.cells m) x c y alter u.marks n }

    pub writes-sync-two : (n : ℕ) → Writing (put ws m SyncTwo n) (written SyncTwo n x) (syncs_two n c) y alter
    writes-sync-two n =
        record { store = wrote b.cells ws m x SyncTwo n room tt u.store; marks = alters-sync-two w i (words_of b.cells m) x c y alter u.marks n }

    pub writes-role : (n : ℕ) → Writing (put ws m (Role m.way) n) (written (Role m.way) n x) c (plays n y) alter
    writes-role n =
        record { store = wrote b.cells ws m x (Role m.way) n room (way_inside b G p h A) u.store; marks = alters-role w i (words_of b.cells m) x c y alter u.marks n }

    pub writes-apply : (n : ℕ) → n < 65536 → Writing (put ws m (Apply m.way) n) (written (Apply m.way) n x) c (applies (n % 4) (n / 4) y) alter
    writes-apply n f =
        record { store = wrote b.cells ws m x (Apply m.way) n room (way_inside b G p h A) u.store; marks = alters-apply w i (words_of b.cells m) x c y alter u.marks n f }

    pub writes-pawns : (n : ℕ) → n < 2 ^ 64 → Writing (put ws m Pawns n) (written Pawns n x) c (lists (lane n i % 4) (lane n i / 4) y) (λ j k. lists (lane n j % 4) (lane n j / 4) (alter j k))
    writes-pawns n f =
        record { store = wrote b.cells ws m x Pawns n room tt u.store; marks = alters-pawns w i (words_of b.cells m) x c y alter u.marks n f }

    pub writes-told : (k n : ℕ) → k < w → k ≢ i → n < 65536 → Writing (put ws m (Apply (record { 0 = k })) n) (written (Apply (record { 0 = k })) n x) c y (λ j q. cond (eqb j k) (applies (n % 4) (n / 4) (alter j q)) (alter j q))
    writes-told k n l d f =
        record { store = wrote b.cells ws m x (Apply (record { 0 = k })) n room l u.store; marks = alters-told w i (words_of b.cells m) x c y alter u.marks k n d f }

    -- the same marks, said otherwise
    pub writes_as : (y' : Marks) (alter' : ℕ → Marks → Marks) → y ≡ y' → ((j : ℕ) → j < w → j ≢ i → alter j (marks_in (words_of b.cells m) j) ≡ alter' j (marks_in (words_of b.cells m) j)) → Writing ws x c y' alter'
    writes_as y' alter' e d =
        record { store = u.store; marks = alters-as w i (words_of b.cells m) x c y alter u.marks c y' alter' refl e d }

    pub go : (t : Seat) (f : Phase) (E : ℕ → Stand → Marks → Type 0) → SyncKept A x → Known A E → stands_at s ≢ 0 → Goes w s t → high_of w (x.role i) x.sync_one t ≡ high_at b p → (place_number t.place ≡ 70 → Late b p t) → MoveOf A f (stand_of s) (stand_of t) c y E alter → Next b p t ws
    go t f E sync known n d e late k = stays A t ws f x u.store c y E alter u.marks sync known n d e late k

    pub turn_in : (t : Seat) (hi : ℕ) (f : Phase) (E : ℕ → Stand → Marks → Type 0) → SyncKept A x → Known A E → stands_at s ≢ 0 → Rests w s t (low_of s) hi → high_at b p ≡ hi → MoveOf A f (stand_of s) (still 2) c y E alter → Next b p t ws
    turn_in t hi f E sync known n d e k = rests-inside A t ws f x u.store c y E alter u.marks sync known hi n d e k

  -- a calm move
  pub calmly : (c : Cells) (v v' : Stand) (y : Marks) → Calm w h H (G.phase g) c₀ i v x₀ c v' y → MoveOf A (G.phase g) v v' c y Nothing (λ j k. k)
  calmly c v v' y k = turn_from_calm w h H (G.phase g) c₀ i v x₀ c v' y k

-- A step of a seat at the gate that it meets at its height: from a move of that gate to the relation. Assumes nothing.
--     Queenly     a queen who waits for the king, or has been handed gates and does not know it yet
--     high_same   what a seat occupies depends on the gate's cells for such a queen alone
--     Acts        a seat that takes part, in a related box
--     moved-gate  the gate after a move
--     high-else   the other seats occupy what they occupied
use Rattle.std.proofs.Common.{◌≡◌, ℕ, ◌+◌, ◌-◌, ◌^◌, ◌<◌, ◌≤◌, Bool, true, cond, ◌≢◌, ◌⊎◌, List, sym, refl, ap, ◌∙◌, subst, inl, inr, arith}
use native.Mathlib.Decide.{ℕ_discrete}
use Rattle.std.proofs.lemmas.Bool.{eq-eqb, ne_eqb}
use Rattle.std.proofs.lemmas.Bool.Decides.{nat_tests}
use Rattle.layout.specs.Gates.{heights_of, seats_of, gate_of, way_of, gate_cells, cell_of}
use Rattle.layout.specs.Meetings.{meeting}
use Rattle.seats.specs.declared.seat.Seat.{Seat}
use Rattle.seats.specs.Lawful.{lawful_open}
use Rattle.seats.specs.Places.{state_number, place_number}
use Rattle.store.specs.Words.{held}
use Rattle.steps.specs.declared.cells.Cell.TheVariants.{SyncOne, Role}
use Rattle.steps.specs.Pawns.{lane}
use Rattle.lock.specs.States.{BoxState, seat_at, with_seat}
use Rattle.gate.proofs.Phases.{Phase, Stand, Marks, Cells}
use Rattle.gate.proofs.Gates.{Gate, Turn, still, at, turned, gate_same}
use Rattle.relation.proofs.Geometry.{gate_inside, height_apart}
use Rattle.relation.proofs.Frames.{gate_apart}
use Rattle.relation.proofs.Views.{word_of, cells_at, marks_of, marks_at, Ghost, stands_at, stand_of, shown, stand_at, low_of, high_of, high_at}
use Rattle.relation.proofs.Relation.{GateAt, Related}
use Rattle.relation.proofs.Frame.{seat_own, seat_else, same_words}
use Rattle.relation.proofs.Links.{shown-nobody, shown-here, shown-inside, turned_ghost}
use Rattle.relation.proofs.GateWords.{Words, Wrote, cells_in, marks_in}

abbrev pub Queenly : Stand → Marks → Type 0
Queenly v x = (v.stage ≡ 1) × (14 ≤ v.place) × (v.place ≤ 27) × (v.place ≢ 16) × (x.role ≡ 2)

abbrev pub Waits : Seat → Type 0
Waits s = (state_number s.state ≡ 1) × (14 ≤ place_number s.place) × (place_number s.place ≤ 27) × (place_number s.place ≢ 16)

pub high_same : (w r t r' t' : ℕ) (s : Seat) → (Waits s → (r' ≡ r) × (r ≡ 2 → t' ≡ t)) → high_of w r' t' s ≡ high_of w r t s
high_same w r t r' t' s f = grind (arith, nat_tests)

-- a seat that stands at a gate is lawful only with a height of the box, and occupies that gate
pub occupies_own : (w r t : ℕ) (s : Seat) → lawful_open w s ≡ true → stands_at s ≢ 0 → (stands_at s ≡ s.height) × (1 ≤ s.height) × (s.height ≤ heights_of w) × (low_of s ≤ s.height) × (s.height ≤ high_of w r t s)
occupies_own w r t s l n = (grind (arith, nat_tests), grind (arith, nat_tests), grind (arith, nat_tests), grind (arith, nat_tests), grind (arith, nat_tests))

waits-stands : (w : ℕ) (s : Seat) → lawful_open w s ≡ true → Waits s → stands_at s ≢ 0
waits-stands w s l f e = grind (arith, nat_tests)

queenly : (s : Seat) (x : Marks) → Waits s → x.role ≡ 2 → Queenly (stand_of s) x
queenly s x f e = grind arith

-- seat p of a related box, which stands at the height h or has it before it
pub record Acts (b : BoxState) (G : Ghost) (p h : ℕ) : Type 0 where
  pub related : Related b G
  pub inside : p < seats_of b.ways
  pub height : (seat_at b p).height ≡ h
  pub low : 1 ≤ h
  pub high : h < b.ways
  pub occupant : (G.owner (gate_of b.ways p h) (way_of b.ways p h) ≡ 0) ⊎ (G.owner (gate_of b.ways p h) (way_of b.ways p h) ≡ p + 1)

module _ (b : BoxState) (G : Ghost) (p h : ℕ) (A : Acts b G p h) where
  abbrev pub w : ℕ
  w = b.ways

  abbrev pub g : ℕ
  g = gate_of w p h

  abbrev pub i : ℕ
  i = way_of w p h

  pub way_inside : i < w
  way_inside = let z = A.related.sound.sized in (gate_inside w h z.few z.most A.low A.high p A.inside).1

  -- another way of the gate has another occupant
  else_occupant : (j : ℕ) → j < w → j ≢ i → G.owner g j - 1 ≡ p → G.owner g j ≡ 0
  else_occupant j l n e =
      elim (ℕ_discrete (G.owner g j) 0) [
        | yes d ↦ d
        | no d ↦ absurd (n (sym (A.related.linked.belongs p h j p A.inside A.low A.high l (omega arith)).2))
      ]

  module _ (t : Seat) (ws : List ℕ) (f' : Phase) (o : ℕ) where
    abbrev pub a : BoxState
    a = with_seat b p t ws

    abbrev pub G' : Ghost
    G' = turned_ghost G g i f' o

    own-owner : G'.owner g i ≡ o
    own-owner = rw (eq-eqb g g refl, eq-eqb i i refl)

    own-seat : o ≡ p + 1 → seat_at a (G'.owner g i - 1) ≡ t
    own-seat e =
        let d : G'.owner g i - 1 ≡ p = let c = own-owner in omega arith in
        ap (λ x. seat_at a x) d ∙ seat_own b p t ws A.inside A.related.sound.sized

    pub stand-gone : o ≡ 0 → stand_at a G' h g i ≡ still 0
    stand-gone e = shown-nobody (G'.owner g i) h (seat_at a (G'.owner g i - 1)) (own-owner ∙ e)

    pub stand-here : o ≡ p + 1 → stands_at t ≡ h → stand_at a G' h g i ≡ stand_of t
    stand-here e d =
        let c = own-seat e in
        shown-here (G'.owner g i) h (seat_at a (G'.owner g i - 1)) (λ z. let y = own-owner in omega arith) (ap stands_at c ∙ d) ∙ ap stand_of c

    pub stand-inside : o ≡ p + 1 → stands_at t ≡ 0 → stand_at a G' h g i ≡ still 2
    stand-inside e d =
        let c : stands_at (seat_at a (G'.owner g i - 1)) ≡ 0 = ap stands_at (own-seat e) ∙ d in
        shown-inside (G'.owner g i) h (seat_at a (G'.owner g i - 1)) (λ z. let y = own-owner in omega arith) (λ z. let l = A.low in omega arith)

    stand-else : (j : ℕ) → j < w → j ≢ i → stand_at a G' h g j ≡ stand_at b G h g j
    stand-else j l n =
        rw (eq-eqb g g refl, ne_eqb j i n)
        (elim (ℕ_discrete (G.owner g j - 1) p) [
          | yes e ↦
              let z = else_occupant j l n e in
              shown-nobody (G.owner g j) h (seat_at a (G.owner g j - 1)) z ∙ sym (shown-nobody (G.owner g j) h (seat_at b (G.owner g j - 1)) z)
          | no e ↦ ap (λ s. shown (G.owner g j) h s) (seat_else b p t ws A.inside A.related.sound.sized (G.owner g j - 1) e)
        ])

    -- the new words of the gate, with the cells c' and the marks x' of the own way, and those of the others altered
    module _ (x : Words) (wr : Wrote b.cells ws (meeting w p h) x) where
      marks-now : (j : ℕ) → j < w → marks_at a g j ≡ marks_in x j
      marks-now j l = λ n. marks_of (wr.shows.apply j l n) (wr.shows.role j l n) (lane (wr.shows.pawns n) j)

      cells-now : cells_at a g ≡ cells_in x
      cells-now = λ n. record { count = wr.shows.count n; sync_one = wr.shows.sync_one n; sync_two = wr.shows.sync_two n }

      pub moved-gate : (c' : Cells) (v' : Stand) (x' : Marks) (E : ℕ → Stand → Marks → Type 0) (alter : ℕ → Marks → Marks) → stand_at a G' h g i ≡ v' → cells_in x ≡ c' → marks_in x i ≡ x' → ((j : ℕ) → j < w → j ≢ i → marks_in x j ≡ alter j (marks_at b g j)) → ((j : ℕ) → j < w → j ≢ i → E j (stand_at b G h g j) (marks_at b g j)) → x.pawns < 2 ^ 64 → ((j : ℕ) → j < w → x.apply j < 65536) → Turn w h (heights_of w) (G.phase g) (cells_at b g) i (stand_at b G h g i) (marks_at b g i) f' c' v' x' E alter → GateAt a G' h g
      moved-gate c' v' x' E alter es ec em ee known fits few m =
          let H = heights_of w in
          let u = stand_at b G h g in
          let y = marks_at b g in
          let new = turned w h H (G.phase g) (cells_at b g) u y i f' c' v' x' E alter (A.related.gates p h A.inside A.low A.high).gate way_inside known m in
          let stands : (j : ℕ) → j < w → stand_at a G' h g j ≡ at u i v' j = λ j l. elim (ℕ_discrete j i) [
            | yes e ↦ ap (λ k. stand_at a G' h g k) e ∙ es ∙ sym (ap (λ (q : Bool). cond q v' (u j)) (eq-eqb j i e))
            | no e ↦ stand-else j l e ∙ sym (ap (λ (q : Bool). cond q v' (u j)) (ne_eqb j i e))
          ] in
          let marks : (j : ℕ) → j < w → marks_at a g j ≡ at (λ k. alter k (y k)) i x' j = λ j l. marks-now j l ∙ elim (ℕ_discrete j i) [
            | yes e ↦ ap (λ k. marks_in x k) e ∙ em ∙ sym (ap (λ (q : Bool). cond q x' (alter j (y j))) (eq-eqb j i e))
            | no e ↦ ee j l e ∙ sym (ap (λ (q : Bool). cond q x' (alter j (y j))) (ne_eqb j i e))
          ] in
          record {
            gate = subst (λ (k : Phase). Gate w h H k (cells_at a g) (stand_at a G' h g) (marks_at a g)) (sym (ap (λ (q : Bool). cond q f' (G.phase g)) (eq-eqb g g refl)))
                (subst (λ (d : Cells). Gate w h H f' d (stand_at a G' h g) (marks_at a g)) (sym (cells-now ∙ ec))
                (gate_same w h H f' c' (at u i v') (stand_at a G' h g) (at (λ k. alter k (y k)) i x') (marks_at a g) new stands marks));
            pawns = subst (λ (n : ℕ). n < 2 ^ 64) (sym wr.shows.pawns) fits;
            applies = λ j l. subst (λ (n : ℕ). n < 65536) (sym (wr.shows.apply j l)) (few j l);
          }

      pub outside-words : (y k : ℕ) → y ≢ g → k < gate_cells w → held ws (cell_of w y 0 + k) ≡ held b.cells (cell_of w y 0 + k)
      outside-words y k n l = wr.outside (cell_of w y 0 + k) (gate_apart w y g k n l)

      -- the words on which it depends what a waiting seat occupies
      SameReach : ℕ → Type 0
      SameReach q = (word_of a (gate_of w q (seat_at b q).height) (Role (record { 0 = way_of w q (seat_at b q).height })) ≡ word_of b (gate_of w q (seat_at b q).height) (Role (record { 0 = way_of w q (seat_at b q).height }))) × (word_of b (gate_of w q (seat_at b q).height) (Role (record { 0 = way_of w q (seat_at b q).height })) ≡ 2 → word_of a (gate_of w q (seat_at b q).height) SyncOne ≡ word_of b (gate_of w q (seat_at b q).height) SyncOne)

      module _ (roles : (j : ℕ) → j < w → j ≢ i → x.role j ≡ word_of b g (Role (record { 0 = j }))) (sync : (j : ℕ) → j < w → j ≢ i → Queenly (stand_at b G h g j) (marks_at b g j) → x.sync_one ≡ word_of b g SyncOne) where
        reach_here : (q : ℕ) → q < seats_of w → q ≢ p → Waits (seat_at b q) → gate_of w q (seat_at b q).height ≡ g → (seat_at b q).height ≡ h → SameReach q
        unfolding SameReach
        reach_here q l n wt e d =
            let s = seat_at b q in
            let z = A.related.sound.sized in
            let j = way_of w q s.height in
            let st = waits-stands w s (A.related.sound.law q l) wt in
            let oc = occupies_own w (word_of b (gate_of w q s.height) (Role (record { 0 = j }))) (word_of b (gate_of w q s.height) SyncOne) s (A.related.sound.law q l) st in
            let hw : s.height < w = let hh = A.high in omega arith in
            let jl : j < w = (gate_inside w s.height z.few z.most oc.1 hw q l).1 in
            let ow : G.owner g j ≡ q + 1 = subst (λ (y : ℕ). G.owner y j ≡ q + 1) e (A.related.linked.owned q s.height l oc.1 hw (oc.3, oc.4)) in
            let ne : j ≢ i = λ y. let v : G.owner g i ≡ q + 1 = subst (λ (k : ℕ). G.owner g k ≡ q + 1) y ow in elim A.occupant [ inl c ↦ omega arith | inr c ↦ n (omega arith) ] in
            let here : stand_at b G h g j ≡ stand_of s = (
            let k : G.owner g j - 1 ≡ q = omega arith in
            shown-here (G.owner g j) h (seat_at b (G.owner g j - 1)) (λ y. omega arith) (ap (λ v. stands_at (seat_at b v)) k ∙ (oc.0 ∙ d)) ∙ ap (λ v. stand_of (seat_at b v)) k) in
            subst (λ (y : ℕ). (word_of a y (Role (record { 0 = j })) ≡ word_of b y (Role (record { 0 = j }))) × (word_of b y (Role (record { 0 = j })) ≡ 2 → word_of a y SyncOne ≡ word_of b y SyncOne)) (sym e)
            (wr.shows.role j jl ∙ roles j jl ne, λ r. wr.shows.sync_one ∙ sync j jl ne (subst (λ (v : Stand). Queenly v (marks_at b g j)) (sym here) (queenly s (marks_at b g j) wt r)))

        reach-same : (q : ℕ) → q < seats_of w → q ≢ p → Waits (seat_at b q) → SameReach q
        unfolding SameReach
        reach-same q l n wt =
            let s = seat_at b q in
            let z = A.related.sound.sized in
            let st = waits-stands w s (A.related.sound.law q l) wt in
            let oc = occupies_own w 0 0 s (A.related.sound.law q l) st in
            let hw : s.height < w = let hh = A.high in omega arith in
            elim (ℕ_discrete (gate_of w q s.height) g) [
              | yes e ↦ reach_here q l n wt e (height_apart w s.height z.few z.most oc.1 hw h q p A.low A.high l A.inside e)
              | no e ↦
                  let same = same_words b p t ws (gate_of w q s.height) (λ k d. outside-words (gate_of w q s.height) k e d) in
                  (same.role (way_of w q s.height) (gate_inside w s.height z.few z.most oc.1 hw q l).1, λ r. same.sync_one)
            ]

        pub high-else : (q : ℕ) → q < seats_of w → q ≢ p → high_at a q ≡ high_at b q
        unfolding SameReach
        high-else q l n =
            ap (λ s. high_of w (word_of a (gate_of w q s.height) (Role (record { 0 = way_of w q s.height }))) (word_of a (gate_of w q s.height) SyncOne) s) (seat_else b p t ws A.inside A.related.sound.sized q n)
            ∙ high_same w _ _ _ _ (seat_at b q) (reach-same q l n)

-- The steps of a seat that gives a gate back keep the relation: places 35, 36, 37, 48 and 49. Assumes nothing.
--     keeps_read_role    place 35
--     keeps_open_alone   place 36
--     keeps_hand_over    place 37
--     keeps_read_apply   place 48
--     keeps_clear_apply  place 49
use Rattle.std.proofs.Common.{◌≡◌, ℕ, ◌+◌, ◌-◌, ◌/◌, ◌%◌, ◌<◌, ◌≤◌, Bool, true, false, cond, ◌||◌, ◌==◌, ◌≢◌, ◌⊎◌, List, sym, refl, ap, ◌∙◌, subst, inr, arith}
use native.Mathlib.Decide.{ℕ_discrete}
use Rattle.std.proofs.lemmas.Bool.{cond_both, eqb-true, eqb-false, eq-eqb, ne_eqb}
use Rattle.std.proofs.lemmas.Bool.Decides.{nat_tests}
use Rattle.layout.specs.Gates.{heights_of, seats_of, gate_of, way_of}
use Rattle.seats.specs.declared.seat.Seat.{Seat}
use Rattle.seats.specs.declared.state.State.{State}
use Rattle.seats.specs.declared.state.State.TheVariants.{Away, Climbing, Holding, Leaving}
use Rattle.seats.specs.declared.place.Place.{Place}
use Rattle.seats.specs.declared.place.Place.TheVariants.{ReadRole, OpenAlone, HandOver, ReadApply, ClearApply, ScanApply, RaceToClose, StrikeSelf}
use Rattle.seats.specs.Lawful.{lawful_open}
use Rattle.seats.specs.Places.{state_number, place_number, within}
use Rattle.seats.specs.Seats.{away, moved, goes_to, scans, hands_over, keeps_for}
use Rattle.steps.specs.declared.cells.Cell.TheVariants.{Count, SyncOne, Apply, Role}
use Rattle.steps.specs.Outcomes.{Outcome, did, unfit_at, put, holds, swapped}
use Rattle.steps.specs.Codes.{pro}
use Rattle.steps.specs.Release.{read_role_step, open_alone_step, hand_over_step, read_apply_step, clear_apply_step}
use Rattle.lock.specs.States.{BoxState, seat_at, with_seat}
use Rattle.gate.proofs.Phases.{Stand, Marks, Cells, Phase, idle, solo, pair, clean, free, drain, prom, WayOk}
use Rattle.gate.proofs.Gates.{to, keeping, still, applies, syncs_one, Gate, gate_same, Nothing}
use Rattle.gate.proofs.Moves.{release_king, release_queen, release_pawn, has_queen, hand_over, no_hand_over, read_apply, clear_apply}
use Rattle.gate.proofs.Turns.{open_alone}
use Rattle.relation.proofs.Geometry.{gate_inside, height_apart}
use Rattle.relation.proofs.Views.{word_of, cells_at, marks_at, Ghost, stands_at, stand_of, stage_in, shown, stand_at, low_of, high_of, high_at}
use Rattle.relation.proofs.Relation.{Sized, GateAt}
use Rattle.relation.proofs.Frame.{seat_own, seat_else, same_words}
use Rattle.relation.proofs.Links.{turned_ghost, shown-here, shown-inside}
use Rattle.relation.proofs.GateWords.{Words, written, words_of}
use Rattle.relation.proofs.Acting.{Queenly, Waits, high_same, occupies_own, Acts, way_inside, moved-gate, outside-words, stand-here}
use Rattle.relation.proofs.Polls.{Next, Ranges, Goes, Rests, MoveOf, own_occupant, stand_was, rests-gone, begins}
use Rattle.relation.proofs.Writings.{m, c₀, x₀, at-gate, here, cells_ok, way_ok, writes_nothing, Writing, writes-count, writes-sync-one, writes-apply, go, calmly, high_plain}
use Rattle.relation.proofs.Standing.{stands_leaving, Stander, stander}
use Rattle.relation.proofs.HandingOver.{Queen, queen, Shift, handed_ghost, handed_related}
use Rattle.relation.proofs.ClimbSteps.{Keeps}

state_leaving : (x : State) → state_number x ≡ 3 → x ≡ Leaving
state_leaving Away e = absurd (omega arith)
state_leaving Climbing e = absurd (omega arith)
state_leaving Holding e = absurd (omega arith)
state_leaving Leaving e = refl

not_true : (x : Bool) → (x ≡ true → ⊥) → x ≡ false
not_true true n = absurd (n refl)
not_true false n = refl

-- at these places a lawful seat leaves
leaves : (w : ℕ) (s : Seat) → lawful_open w s ≡ true → 35 ≤ place_number s.place → place_number s.place ≤ 49 → s.state ≡ Leaving
leaves w s l a b = state_leaving s.state (grind (arith, nat_tests))

module _ (h H : ℕ) (c : Cells) (i : ℕ) (v : Stand) (x : Marks) (leaves : v.stage ≡ 3) (last : v.place ≡ 49) where
  -- at place 49 one's application is the kept one
  closing_reads : (f : Phase) → WayOk h H f c i v x → (x.applied ≡ 2) × (x.number ≡ v.kept_number)
  closing_reads idle wo = (grind arith, grind arith)
  closing_reads (solo k) wo = (grind arith, grind arith)
  closing_reads (pair k q) wo = (grind arith, grind arith)
  closing_reads (clean r a) wo = (grind arith, grind arith)
  closing_reads (free r) wo = (grind arith, grind arith)
  closing_reads (drain r) wo = (grind arith, grind arith)
  closing_reads (prom p) wo = (grind arith, grind arith)

-- what a seat occupies while it leaves, and while it hopes as a queen
leave_range : (w r v : ℕ) (u : Seat) → u.state ≡ Leaving → (low_of u ≡ u.height) × (high_of w r v u ≡ cond u.handed u.height u.top)
leave_range w r v u e = (grind arith, grind arith)

hope_range : (w r v h : ℕ) (u : Seat) → u.height ≡ h → state_number u.state ≡ 1 → (place_number u.place ≡ 14) ⊎ ((place_number u.place ≡ 19) ⊎ (place_number u.place ≡ 26)) → r ≡ 2 → (low_of u ≡ 1) × (high_of w r v u ≡ cond (within h (heights_of w) v) v h)
hope_range w r v h u d e o q = (grind arith, grind (arith, nat_tests))

hope_none : (h H v : ℕ) → 1 ≤ h → v ≡ 0 → cond (within h H v) v h ≡ h
hope_none h H v l e = grind (arith, nat_tests)

hope_given : (h H v t : ℕ) → h ≤ t → t ≤ H → v ≡ t → cond (within h H v) v h ≡ t
hope_given h H v t l k e = grind (arith, nat_tests)

high_met : (b : BoxState) (r h g q : ℕ) → (seat_at b r).height ≡ h → gate_of b.ways r h ≡ g → way_of b.ways r h ≡ q → high_at b r ≡ high_of b.ways (word_of b g (Role (record { 0 = q }))) (word_of b g SyncOne) (seat_at b r)
high_met b r h g q d e k =
    let x : gate_of b.ways r (seat_at b r).height ≡ g = ap (λ y. gate_of b.ways r y) d ∙ e in
    let y : way_of b.ways r (seat_at b r).height ≡ q = ap (λ y. way_of b.ways r y) d ∙ k in
    λ n. high_of b.ways (word_of b (x n) (Role (record { 0 = y n }))) (word_of b (x n) SyncOne) (seat_at b r)

waits_stands : (w : ℕ) (u : Seat) → lawful_open w u ≡ true → Waits u → stands_at u ≢ 0
waits_stands w u l f e = grind (arith, nat_tests)

waits_queenly : (u : Seat) (x : Marks) → Waits u → x.role ≡ 2 → Queenly (stand_of u) x
waits_queenly u x f e = grind arith

module _ {b : BoxState} {G : Ghost} {p : ℕ} (A : Acts b G p (seat_at b p).height) where
  abbrev s : Seat
  s = seat_at b p

  abbrev h : ℕ
  h = s.height

  abbrev w : ℕ
  w = b.ways

  abbrev g : ℕ
  g = gate_of w p h

  abbrev f : Phase
  f = G.phase g

  abbrev H : ℕ
  H = heights_of w

  abbrev i : ℕ
  i = way_of w p h

  module _ (from : 35 ≤ place_number s.place) (upto : place_number s.place ≤ 49) where
    leaving : s.state ≡ Leaving
    leaving = leaves w s (A.related.sound.law p A.inside) from upto

    stage : (stand_of s).stage ≡ 3
    stage = ap stage_in leaving

    stands : place_number s.place ≢ 35 → stands_at s ≢ 0
    stands d = stands_leaving s leaving d A.low

  pub keeps_read_apply : s.place ≡ ReadApply → Keeps b p (read_apply_step (m A) s b.cells)
  keeps_read_apply e law ok =
      let q : place_number s.place ≡ 48 = ap place_number e in
      let n = stands (omega arith) (omega arith) (omega arith) in
      let st = stage (omega arith) (omega arith) in
      let few = (at-gate A).applies i (way_inside b G p h A) in
      let small : word_of b g (Apply (record { 0 = i })) / 4 % 16384 ≡ word_of b g (Apply (record { 0 = i })) / 4 = omega arith in
      let t = goes_to (keeps_for s s.kept_way.0 (word_of b g (Apply (record { 0 = i })) / 4 % 16384)) ClearApply in
      let k = read_apply w h H f (c₀ A) i (here A) (stand_of s) (x₀ A) (cells_ok A) (way_ok A n) st q in
      let gs : Goes w s t = record { law = law; state = refl; height = refl; handed = refl; passage = refl; within = omega arith; begun = omega arith; later = λ r. omega arith } in
      go A (writes_nothing A) t f Nothing (λ j l o r. refl) (λ j l o. tt) n gs
      (high_plain w _ _ _ _ s t gs refl (omega arith) (inr (omega arith)) (inr (omega arith)))
      (λ r. absurd (omega arith))
      (subst (λ (y : ℕ). MoveOf A f (stand_of s) (to 49 (keeping s.kept_way.0 y (stand_of s))) (c₀ A) (x₀ A) Nothing (λ j x. x)) (sym small)
      (calmly A (c₀ A) (stand_of s) (to 49 (keeping s.kept_way.0 (x₀ A).number (stand_of s))) (x₀ A) k))

  pub keeps_open_alone : s.place ≡ OpenAlone → Keeps b p (open_alone_step (m A) s b.cells)
  keeps_open_alone e =
      let q : place_number s.place ≡ 36 = ap place_number e in
      let n = stands (omega arith) (omega arith) (omega arith) in
      let st = stage (omega arith) (omega arith) in
      cond_both (holds b.cells (m A) Count 1) _ _ (Keeps b p)
      (λ d law ok.
      let k = open_alone w h H f (c₀ A) i (stand_of s) (x₀ A) (here A) (cells_ok A) (way_ok A n) st q (eqb-true _ _ d) in
      let gs : Goes w s (goes_to s ReadApply) = record { law = law; state = refl; height = refl; handed = refl; passage = refl; within = omega arith; begun = omega arith; later = λ r. omega arith } in
      go A (writes-count A (writes_nothing A) 0) (goes_to s ReadApply) k.0 Nothing (λ j l o r. refl) (λ j l o. tt) n gs
      (high_plain w _ _ _ _ s (goes_to s ReadApply) gs refl (omega arith) (inr (omega arith)) (inr (omega arith)))
      (λ r. absurd (omega arith)) k.1)
      (λ d law ok.
      let k = has_queen w h H f (c₀ A) i (here A) (stand_of s) (x₀ A) (cells_ok A) (way_ok A n) st q (eqb-false _ _ d) in
      let gs : Goes w s (goes_to s HandOver) = record { law = law; state = refl; height = refl; handed = refl; passage = refl; within = omega arith; begun = omega arith; later = λ r. omega arith } in
      go A (writes_nothing A) (goes_to s HandOver) f Nothing (λ j l o r. refl) (λ j l o. tt) n gs
      (high_plain w _ _ _ _ s (goes_to s HandOver) gs refl (omega arith) (inr (omega arith)) (inr (omega arith)))
      (λ r. absurd (omega arith)) (calmly A (c₀ A) (stand_of s) (to 37 (stand_of s)) (x₀ A) k))

  module _ (e : s.place ≡ ReadRole) where
    q : place_number s.place ≡ 35
    q = ap place_number e

    state : s.state ≡ Leaving
    state = leaving (let q₀ = q in omega arith) (let q₀ = q in omega arith)

    unhanded : s.handed ≡ false
    unhanded = not_true s.handed (λ d. let c = A.related.sound.handed p A.inside d in let q₀ = q in omega arith)

    range : (low_of s ≡ h) × (high_at b p ≡ s.top) × (h ≤ s.top)
    range = let u = unhanded in let y = state in let q₀ = q in let l = A.related.sound.law p A.inside in (grind arith, grind arith, grind (arith, nat_tests))

    owner : G.owner g i ≡ p + 1
    owner = let r = range in A.related.linked.owned p h A.inside A.low A.high (omega arith, omega arith)

    inside_was : stand_at b G h g i ≡ still 2
    inside_was =
        let o = owner in
        let d : G.owner g i - 1 ≡ p = omega arith in
        let u : stands_at s ≡ 0 = (let y = state in let q₀ = q in grind arith) in
        let c : stands_at (seat_at b (G.owner g i - 1)) ≡ 0 = ap (λ v. stands_at (seat_at b v)) d ∙ u in
        shown-inside (G.owner g i) h (seat_at b (G.owner g i - 1)) (λ z. omega arith) (λ z. let l = A.low in omega arith)

    way_inside_ok : WayOk h H f (c₀ A) i (still 2) (x₀ A)
    way_inside_ok = subst (λ (v : Stand). WayOk h H f (c₀ A) i v (x₀ A)) inside_was ((at-gate A).gate.ways i (way_inside b G p h A))

    begins_at : (x : Place) (n : ℕ) → place_number x ≡ n → 36 ≤ n → n ≢ 70 → MoveOf A f (still 2) (to n (stand_of s)) (c₀ A) (x₀ A) Nothing (λ j y. y) → Keeps b p (did b.cells (goes_to s x))
    begins_at x n d l o k law ok =
        let t = goes_to s x in
        let y = state in
        let u = unhanded in
        let r = range in
        let r₀ = r.0 in
        let r₁ = r.1 in
        let gone : t.handed ≡ true → ⊥ = λ v. let c : ◌≡◌ {A = ℕ} 0 1 = cc in omega arith in
        let number : state_number s.state ≡ 3 = ap state_number y in
        let stands : stands_at t ≡ h = grind arith in
        let high : high_of w (word_of b g (Role (record { 0 = i }))) (word_of b g SyncOne) t ≡ s.top = grind arith in
        let u₀ = writes_nothing A in
        begins A t b.cells f (words_of b.cells (m A)) u₀.store (c₀ A) (x₀ A) Nothing (λ j y. y) u₀.marks (λ j l o r. refl) (λ j l o. tt) s.top (still 2) inside_was
        (record {
          law = law;
          handed = λ v. absurd (gone v);
          passage = λ v. (v, refl);
          given = A.related.sound.given p A.inside;
          yet = λ j v. absurd (let v₀ = v.0 in omega arith);
          late = λ v. absurd (o (sym d ∙ v));
        })
        stands high refl
        (record {
          same = λ j l k' ne a₀ a₁. (a₀, omega arith);
          back = λ j l k' ne a₀ a₁. (a₀, omega arith);
          own = λ a₀ a₁. refl;
          own_back = λ c. (omega arith, omega (arith, range));
        })
        (subst (λ (j : ℕ). MoveOf A f (still 2) (to j (stand_of s)) (c₀ A) (x₀ A) Nothing (λ j y. y)) (sym d) k)

  abbrev as_pawn : Outcome (Unit {0})
  as_pawn =
      cond (holds b.cells (m A) (Role (m A).way) 4) (did b.cells (goes_to s StrikeSelf)) (unfit_at (m A) (Role (m A).way) b.cells s)

  abbrev as_queen : Outcome (Unit {0})
  as_queen = cond (holds b.cells (m A) (Role (m A).way) 2) (did b.cells (goes_to s RaceToClose)) as_pawn

  pub keeps_read_role : s.place ≡ ReadRole → Keeps b p (read_role_step (m A) s b.cells)
  keeps_read_role e =
      let st : (stand_of s).stage ≡ 3 = ap stage_in (state e) in
      let wo = way_inside_ok e in
      cond_both (holds b.cells (m A) (Role (m A).way) 1) (did b.cells (goes_to s OpenAlone)) as_queen (Keeps b p)
      (λ d.
      begins_at e OpenAlone 36 refl (omega arith) (omega arith)
      (calmly A (c₀ A) (still 2) (to 36 (stand_of s)) (x₀ A)
      (release_king w h H f (c₀ A) i (here A) (still 2) (x₀ A) (cells_ok A) wo (stand_of s) refl (eqb-true _ _ d) st)))
      (λ d₁.
      cond_both (holds b.cells (m A) (Role (m A).way) 2) (did b.cells (goes_to s RaceToClose)) as_pawn (Keeps b p)
      (λ d.
      begins_at e RaceToClose 56 refl (omega arith) (omega arith)
      (calmly A (c₀ A) (still 2) (to 56 (stand_of s)) (x₀ A)
      (release_queen w h H f (c₀ A) i (here A) (still 2) (x₀ A) (cells_ok A) wo (stand_of s) refl (eqb-true _ _ d) st)))
      (λ d₂.
      cond_both (holds b.cells (m A) (Role (m A).way) 4) (did b.cells (goes_to s StrikeSelf)) (unfit_at (m A) (Role (m A).way) b.cells s) (Keeps b p)
      (λ d.
      begins_at e StrikeSelf 64 refl (omega arith) (omega arith)
      (calmly A (c₀ A) (still 2) (to 64 (stand_of s)) (x₀ A)
      (release_pawn w h H f (c₀ A) i (here A) (still 2) (x₀ A) (cells_ok A) wo (stand_of s) refl (eqb-true _ _ d) st)))
      (λ d₃ law ok. absurd (let z : ◌≡◌ {A = ℕ} 0 1 = cc in omega arith))))

  module _ (e : s.place ≡ ClearApply) where
    nine : place_number s.place ≡ 49
    nine = ap place_number e

    n₉ : stands_at s ≢ 0
    n₉ = let q = nine in stands (omega arith) (omega arith) (omega arith)

    st₉ : (stand_of s).stage ≡ 3
    st₉ = let q = nine in stage (omega arith) (omega arith)

    ranges₉ : (low_of s ≡ h) × (high_at b p ≡ cond s.handed h s.top)
    ranges₉ = let q = nine in let y : s.state ≡ Leaving = leaving (omega arith) (omega arith) in (grind arith, grind arith)

    clears₉ : word_of b g (Apply (record { 0 = i })) ≡ pro s.kept_number.0
    clears₉ = let c = closing_reads h H (c₀ A) i (stand_of s) (x₀ A) st₉ nine f (way_ok A n₉) in let c₀ = c.0 in let c₁ = c.1 in omega arith

    gone : MoveOf A f (stand_of s) (still 0) (c₀ A) (applies 0 0 (x₀ A)) Nothing (λ j y. y)
    gone =
        calmly A (c₀ A) (stand_of s) (still 0) (applies 0 0 (x₀ A))
        (clear_apply w h H f (c₀ A) i (here A) (stand_of s) (x₀ A) (cells_ok A) (way_ok A n₉) st₉ nine)

    rests_at : (t : Seat) (lo hi : ℕ) → Rests w s t lo hi → Ranges w h (low_of s) (high_at b p) lo hi p 0 → Next b p t (put b.cells (m A) (Apply (m A).way) 0)
    rests_at t lo hi d r =
        let u = writes-apply A (writes_nothing A) 0 (omega arith) in
        rests-gone A t (put b.cells (m A) (Apply (m A).way) 0) f _ u.store (c₀ A) (applies 0 0 (x₀ A)) Nothing (λ j y. y) u.marks (λ j l o r. refl) (λ j l o. tt) lo hi n₉ d r gone

    leave_box : (s.handed || s.height == s.top) ≡ true → Next b p away (put b.cells (m A) (Apply (m A).way) 0)
    leave_box d =
        let r = ranges₉ in
        let r₀ = r.0 in
        let r₁ : high_at b p ≡ h = grind (arith, nat_tests) in
        rests_at away 1 0
        (record {
          law = refl;
          nowhere = refl;
          handed = refl;
          passage = λ v. absurd (v refl);
          given = omega arith;
          yet = λ k y. absurd (let y₀ = y.0 in omega arith);
          place = omega arith;
          low = refl;
          high = λ r v. refl;
        })
        (record {
          same = λ k l k' ne a₀ a₁. absurd (omega arith);
          back = λ k l k' ne a₀ a₁. absurd (omega arith);
          own = λ a₀ a₁. absurd (omega arith);
          own_back = λ c. absurd (omega arith);
        })

    next_height : (s.handed || s.height == s.top) ≡ false → lawful_open w (moved s s.state ReadRole (h + 1) s.top) ≡ true → Next b p (moved s s.state ReadRole (h + 1) s.top) (put b.cells (m A) (Apply (m A).way) 0)
    next_height d law =
        let q = nine in
        let y : s.state ≡ Leaving = leaving (omega arith) (omega arith) in
        let y₁ : state_number s.state ≡ 3 = ap state_number y in
        let t = moved s s.state ReadRole (h + 1) s.top in
        let r = ranges₉ in
        let r₀ = r.0 in
        let u : s.handed ≡ false = grind (arith, nat_tests) in
        let r₁ : high_at b p ≡ s.top = grind arith in
        rests_at t (h + 1) s.top
        (record {
          law = law;
          nowhere = grind arith;
          handed = u;
          passage = λ v. refl;
          given = omega arith;
          yet = λ k y. absurd (let y₀ = y.0 in omega arith);
          place = omega arith;
          low = grind arith;
          high = λ r v. grind arith;
        })
        (record {
          same = λ k l k' ne a₀ a₁. (omega arith, omega arith);
          back = λ k l k' ne a₀ a₁. (omega arith, omega arith);
          own = λ a₀ a₁. absurd (omega arith);
          own_back = λ c. absurd (omega arith);
        })

  pub keeps_clear_apply : s.place ≡ ClearApply → Keeps b p (clear_apply_step (m A) s b.cells)
  keeps_clear_apply e =
      let c = clears₉ e in
      let d : swapped b.cells (m A) (Apply (m A).way) (pro s.kept_number.0) 0 ≡ put b.cells (m A) (Apply (m A).way) 0 =
      ap (λ (t : Bool). cond t (put b.cells (m A) (Apply (m A).way) 0) b.cells) (eq-eqb _ _ c) in
      subst (λ (ws : List ℕ). Keeps b p (did ws (cond (s.handed || s.height == s.top) away (moved s s.state ReadRole (h + 1) s.top)))) (sym d)
      (cond_both (s.handed || s.height == s.top) away (moved s s.state ReadRole (h + 1) s.top) (λ (t : Seat). Keeps b p (did (put b.cells (m A) (Apply (m A).way) 0) t))
      (λ k law ok. leave_box e k) (λ k law ok. next_height e k law))

  module _ (e : s.place ≡ HandOver) where
    q₇ : place_number s.place ≡ 37
    q₇ = ap place_number e

    leaving₇ : s.state ≡ Leaving
    leaving₇ = let q = q₇ in leaving (omega arith) (omega arith)

    n₇ : stands_at s ≢ 0
    n₇ = let q = q₇ in stands (omega arith) (omega arith) (omega arith)

    st₇ : (stand_of s).stage ≡ 3
    st₇ = let q = q₇ in stage (omega arith) (omega arith)

    no_hand : word_of b g SyncOne ≢ 0 → Keeps b p (did b.cells (goes_to s RaceToClose))
    no_hand d law ok =
        let q = q₇ in
        let k = no_hand_over w h H f (c₀ A) i (here A) (stand_of s) (x₀ A) (cells_ok A) (way_ok A n₇) st₇ q d in
        let t = goes_to s RaceToClose in
        let gs : Goes w s t = record { law = law; state = refl; height = refl; handed = refl; passage = refl; within = omega arith; begun = omega arith; later = λ r. omega arith } in
        go A (writes_nothing A) t f Nothing (λ j l o r. refl) (λ j l o. tt) n₇ gs
        (high_plain w _ _ _ _ s t gs refl (omega arith) (inr (omega arith)) (inr (omega arith)))
        (λ r. absurd (omega arith)) (calmly A (c₀ A) (stand_of s) (to 56 (stand_of s)) (x₀ A) k)

    unhanded₇ : s.handed ≡ false
    unhanded₇ = not_true s.handed (λ d. let c = A.related.sound.handed p A.inside d in let q₀ = q₇ in omega arith)

    range₇ : (low_of s ≡ h) × (high_at b p ≡ s.top) × (h ≤ s.top) × (s.top ≤ H)
    range₇ =
        let u = unhanded₇ in
        let y = leaving₇ in
        let q₀ = q₇ in let l = A.related.sound.law p A.inside in (grind arith, grind arith, grind (arith, nat_tests), grind (arith, nat_tests))

    module _ (none : word_of b g SyncOne ≡ 0) (law : lawful_open w (goes_to (scans (hands_over s) 0) ScanApply) ≡ true) (r q : ℕ) (Q : Queen w h H f (c₀ A) i q) (S : Stander b G h g q r) where
      abbrev t : Seat
      t = goes_to (scans (hands_over s) 0) ScanApply

      abbrev ws : List ℕ
      ws = put b.cells (m A) SyncOne s.top

      abbrev a : BoxState
      a = with_seat b p t ws

      abbrev x : Words
      x = written SyncOne s.top (words_of b.cells (m A))

      z : Sized b
      z = A.related.sound.sized

      wrote_it : Writing A ws x (syncs_one s.top (c₀ A)) (x₀ A) (λ j y. y)
      wrote_it = writes-sync-one A (writes_nothing A) s.top

      apart : r ≢ p
      apart d =
          let o = own_occupant A n₇ in
          let c = S.way in
          Q.apart (sym c ∙ ap (λ y. way_of w y h) d)

      says : (word_of b g (Role (record { 0 = q })) ≡ 2) × (state_number (seat_at b r).state ≡ 1) × ((place_number (seat_at b r).place ≡ 14) ⊎ ((place_number (seat_at b r).place ≡ 19) ⊎ (place_number (seat_at b r).place ≡ 26)))
      says =
          let k = Q.hopes (stand_of (seat_at b r)) (marks_at b g q) (subst (λ (v : Stand). WayOk h H f (c₀ A) q v (marks_at b g q)) S.shows ((at-gate A).gate.ways q Q.inside)) in
          (k.0, grind arith, k.2)

      queen_was : (low_of (seat_at b r) ≡ 1) × (high_at b r ≡ h)
      queen_was =
          let k = says in
          let c = hope_range w (word_of b g (Role (record { 0 = q }))) (word_of b g SyncOne) h (seat_at b r) S.height k.1 k.2 k.0 in
          (c.0, high_met b r h g q S.height S.gate S.way ∙ c.1 ∙ hope_none h H (word_of b g SyncOne) A.low none)

      queen_seat : seat_at a r ≡ seat_at b r
      queen_seat = seat_else b p t ws A.inside z r apart

      queen_now : (low_of (seat_at a r) ≡ 1) × (high_at a r ≡ s.top)
      queen_now =
          let k = says in
          let y = queen_seat in
          let role : word_of a g (Role (record { 0 = q })) ≡ 2 = wrote_it.store.shows.role q Q.inside ∙ k.0 in
          let c = hope_range w (word_of a g (Role (record { 0 = q }))) (word_of a g SyncOne) h (seat_at a r) (ap (λ u. u.height) y ∙ S.height) (ap (λ u. state_number u.state) y ∙ k.1) (subst (λ (u : Seat). (place_number u.place ≡ 14) ⊎ ((place_number u.place ≡ 19) ⊎ (place_number u.place ≡ 26))) (sym y) k.2) role in
          let l = range₇ in
          (c.0, high_met a r h g q (ap (λ u. u.height) y ∙ S.height) S.gate S.way ∙ c.1 ∙ hope_given h H (word_of a g SyncOne) s.top l.2 l.3 wrote_it.store.shows.sync_one)

      king_now : (low_of (seat_at a p) ≡ h) × (high_at a p ≡ h)
      king_now =
          let y : seat_at a p ≡ t = seat_own b p t ws A.inside z in
          let c = leave_range w (word_of a (gate_of w p (seat_at a p).height) (Role (record { 0 = way_of w p (seat_at a p).height }))) (word_of a (gate_of w p (seat_at a p).height) SyncOne) (seat_at a p) (ap (λ u. u.state) y ∙ leaving₇) in
          (c.0 ∙ ap (λ u. u.height) y, c.1 ∙ ap (λ u. cond u.handed u.height u.top) y)

      abbrev gate_met : ℕ → ℕ
      gate_met q' = gate_of w q' (seat_at b q').height

      abbrev way_met : ℕ → ℕ
      way_met q' = way_of w q' (seat_at b q').height

      -- another seat that waits has the same words before it
      same_reach : (q' : ℕ) → q' < seats_of w → q' ≢ p → q' ≢ r → Waits (seat_at b q') → (word_of a (gate_met q') (Role (record { 0 = way_met q' })) ≡ word_of b (gate_met q') (Role (record { 0 = way_met q' }))) × (word_of b (gate_met q') (Role (record { 0 = way_met q' })) ≡ 2 → word_of a (gate_met q') SyncOne ≡ word_of b (gate_met q') SyncOne)
      same_reach q' l n n' wt =
          let u = seat_at b q' in
          let law' = A.related.sound.law q' l in
          let st = waits_stands w u law' wt in
          let j = way_met q' in
          let oc = occupies_own w (word_of b (gate_met q') (Role (record { 0 = j }))) (word_of b (gate_met q') SyncOne) u law' st in
          let hw : u.height < w = (let hh = A.high in let o₂ = oc.2 in omega arith) in
          let jl : j < w = (gate_inside w u.height z.few z.most oc.1 hw q' l).1 in
          elim (ℕ_discrete (gate_met q') g) [
            | yes e ↦
                let d : u.height ≡ h = height_apart w u.height z.few z.most oc.1 hw h q' p A.low A.high l A.inside e in
                let ow : G.owner g j ≡ q' + 1 = subst (λ (y : ℕ). G.owner y j ≡ q' + 1) e (A.related.linked.owned q' u.height l oc.1 hw (oc.3, oc.4)) in
                let ni : j ≢ i = λ y. let v : G.owner g i ≡ q' + 1 = subst (λ (k : ℕ). G.owner g k ≡ q' + 1) y ow in let o = own_occupant A n₇ in n (omega arith) in
                let nq : j ≢ q = λ y. let v : G.owner g q ≡ q' + 1 = subst (λ (k : ℕ). G.owner g k ≡ q' + 1) y ow in let o = S.owner in n' (omega arith) in
                let there : stand_at b G h g j ≡ stand_of u = (
                let k : G.owner g j - 1 ≡ q' = omega arith in
                shown-here (G.owner g j) h (seat_at b (G.owner g j - 1)) (λ y. omega arith) (ap (λ v. stands_at (seat_at b v)) k ∙ (oc.0 ∙ d)) ∙ ap (λ v. stand_of (seat_at b v)) k) in
                let wo : WayOk h H f (c₀ A) j (stand_of u) (marks_at b g j) = subst (λ (v : Stand). WayOk h H f (c₀ A) j v (marks_at b g j)) there ((at-gate A).gate.ways j jl) in
                subst (λ (y : ℕ). (word_of a y (Role (record { 0 = j })) ≡ word_of b y (Role (record { 0 = j }))) × (word_of b y (Role (record { 0 = j })) ≡ 2 → word_of a y SyncOne ≡ word_of b y SyncOne)) (sym e)
                (wrote_it.store.shows.role j jl, λ v. absurd (Q.alone j (stand_of u) (marks_at b g j) ni nq wo (waits_queenly u (marks_at b g j) wt v)))
            | no e ↦
                let same = same_words b p t ws (gate_met q') (λ k d. outside-words b G p h A t ws f (p + 1) x wrote_it.store (gate_met q') k e d) in
                (same.role j jl, λ v. same.sync_one)
          ]

      others_high : (q' : ℕ) → q' < seats_of w → q' ≢ p → q' ≢ r → high_at a q' ≡ high_at b q'
      others_high q' l n n' =
          ap (λ u. high_of w (word_of a (gate_of w q' u.height) (Role (record { 0 = way_of w q' u.height }))) (word_of a (gate_of w q' u.height) SyncOne) u) (seat_else b p t ws A.inside z q' n)
          ∙ high_same w (word_of b (gate_met q') (Role (record { 0 = way_met q' }))) (word_of b (gate_met q') SyncOne) (word_of a (gate_met q') (Role (record { 0 = way_met q' }))) (word_of a (gate_met q') SyncOne) (seat_at b q') (same_reach q' l n n')

      shift : Shift b p r h s.top t ws
      shift =
          let r₇ = range₇ in
          let kn = king_now in
          let qw = queen_was in
          let qn = queen_now in
          record {
            inside = A.inside;
            queen = S.inside;
            apart = apart;
            low = A.low;
            high = A.high;
            meets = sym S.gate;
            reach = r₇.2;
            king_had = λ k c. (subst (λ (y : ℕ). y ≤ k) r₇.0 c.0, subst (λ (y : ℕ). k ≤ y) r₇.1 c.1);
            had_king = λ k c d. (subst (λ (y : ℕ). y ≤ k) (sym r₇.0) c, subst (λ (y : ℕ). k ≤ y) (sym r₇.1) d);
            king_has = λ k c. let c₀ : h ≤ k = subst (λ (y : ℕ). y ≤ k) kn.0 c.0 in let c₁ : k ≤ h = subst (λ (y : ℕ). k ≤ y) kn.1 c.1 in omega arith;
            has_king = (subst (λ (y : ℕ). y ≤ h) (sym kn.0) (omega arith), subst (λ (y : ℕ). h ≤ y) (sym kn.1) (omega arith));
            queen_had = λ k c. subst (λ (y : ℕ). k ≤ y) qw.1 c.1;
            had_queen = λ k c d. (subst (λ (y : ℕ). y ≤ k) (sym qw.0) c, subst (λ (y : ℕ). k ≤ y) (sym qw.1) d);
            queen_has = λ k c. subst (λ (y : ℕ). k ≤ y) qn.1 c.1;
            has_queen = λ k c d. (subst (λ (y : ℕ). y ≤ k) (sym qn.0) c, subst (λ (y : ℕ). k ≤ y) (sym qn.1) d);
            others = λ q' k l n n' c. (subst (λ (u : Seat). low_of u ≤ k) (seat_else b p t ws A.inside z q' n) c.0, subst (λ (y : ℕ). k ≤ y) (others_high q' l n n') c.1);
            others_back = λ q' k l n n' c. (subst (λ (u : Seat). low_of u ≤ k) (sym (seat_else b p t ws A.inside z q' n)) c.0, subst (λ (y : ℕ). k ≤ y) (sym (others_high q' l n n')) c.1);
          }

      abbrev T : Ghost
      T = turned_ghost G g i f (p + 1)

      gate_turned : GateAt a T h g
      gate_turned =
          let r₇ = range₇ in
          let al = wrote_it.marks in
          let c = syncs_one s.top (c₀ A) in
          let k = calmly A c (stand_of s) (stand_of t) (x₀ A) (hand_over w h H f (c₀ A) i (here A) (stand_of s) (x₀ A) (cells_ok A) (way_ok A n₇) s.top st₇ q₇ none r₇.2 r₇.3) in
          let standing : stands_at t ≡ h = (let y = leaving₇ in grind arith) in
          moved-gate b G p h A t ws f (p + 1) x wrote_it.store c (stand_of t) (x₀ A) Nothing (λ j y. y) (stand-here b G p h A t ws f (p + 1) refl standing) al.cells al.own al.else (λ j l o. tt) al.pawns al.applies
          (subst (λ (u : Stand). MoveOf A f u (stand_of t) c (x₀ A) Nothing (λ j y. y)) (sym (stand_was A n₇)) k)

      owner_same : (j : ℕ) → (handed_ghost G g p r).owner g j ≡ T.owner g j
      owner_same j =
          rw (eq-eqb g g refl)
          (elim (ℕ_discrete j i) [
            | yes d ↦ rw (eq-eqb j i d) (ap (λ y. G.owner g y) d ∙ own_occupant A n₇)
            | no d ↦ rw (ne_eqb j i d) refl
          ])

      gate_handed : GateAt a (handed_ghost G g p r) h g
      gate_handed =
          let k = gate_turned in
          record {
            gate = subst (λ (y : Phase). Gate w h H y (cells_at a g) (stand_at a (handed_ghost G g p r) h g) (marks_at a g)) (ap (λ (y : Bool). cond y f (G.phase g)) (eq-eqb g g refl))
                (gate_same w h H (T.phase g) (cells_at a g) (stand_at a T h g) (stand_at a (handed_ghost G g p r) h g) (marks_at a g) (marks_at a g) k.gate (λ j l. ap (λ y. shown y h (seat_at a (y - 1))) (owner_same j)) (λ j l. refl));
            pawns = k.pawns;
            applies = k.applies;
          }

      hands : Next b p t ws
      hands =
          let q₀ = q₇ in
          let number : state_number s.state ≡ 3 = ap state_number leaving₇ in (
            handed_ghost G g p r,
            handed_related b G p r h s.top t ws A.related (record {
              shift = shift;
              king = (occupies_own w 0 0 s (A.related.sound.law p A.inside) n₇).0;
              queen = (occupies_own w 0 0 (seat_at b r) (A.related.sound.law r S.inside) S.stands).0 ∙ S.height;
              size = wrote_it.store.size;
              outside = λ y k d l. outside-words b G p h A t ws f (p + 1) x wrote_it.store y k d l;
              seat = record {
                law = law;
                handed = λ v. (number, omega arith);
                passage = λ v. (v, refl);
                given = A.related.sound.given p A.inside;
                yet = λ j v. absurd (let v₀ = v.0 in omega arith);
                late = λ v. absurd (omega arith);
              };
              gate = gate_handed;
            }),
          )

  pub keeps_hand_over : s.place ≡ HandOver → Keeps b p (hand_over_step (m A) s b.cells)
  keeps_hand_over e =
      cond_both (holds b.cells (m A) SyncOne 0) _ _ (Keeps b p)
      (λ d law ok.
      let none : word_of b g SyncOne ≡ 0 = eqb-true _ _ d in
      let Q = queen w h H A.low (c₀ A) i (stand_of s) (x₀ A) (st₇ e) (q₇ e) none f (cells_ok A) (way_ok A (n₇ e)) in
      let o = Q.1.hopes (stand_at b G h g Q.0) (marks_at b g Q.0) ((at-gate A).gate.ways Q.0 Q.1.inside) in
      let S = stander b G A.related p h A.inside A.low A.high Q.0 Q.1.inside (λ v. let o₂ = o.2 in omega arith) in
      hands e none law S.0 Q.0 Q.1 S.1)
      (λ d. no_hand e (eqb-false _ _ d))

-- The steps of a seat that tries to win a gate keep the relation. Assumes nothing.
--     Keeps      a step that was done leaves a related box, given that its seat is lawful
--     won_rests  who has won the gates up to a height stands at none, however the capture ends
--     keeps_claim_apply, keeps_race_for_role, keeps_await_promotion, keeps_recheck_count, keeps_await_king, keeps_mark_apply
--                the places 2, 5, 7, 8, 14 and 16
use Rattle.std.proofs.Common.{◌≡◌, ℕ, ◌<◌, ◌≤◌, ◌+◌, ◌%◌, ◌/◌, Bool, true, false, eqb, ◌≢◌, ◌⊎◌, List, Ok, sym, refl, ap, ◌∙◌, inl, inr, arith}
use Rattle.std.proofs.lemmas.Bool.{cond_both, eqb-true, eqb-false}
use Rattle.std.proofs.lemmas.Bool.Decides.{nat_tests}
use Rattle.layout.specs.declared.path.Meeting.{Meeting}
use Rattle.layout.specs.Gates.{heights_of, gate_of, way_of}
use Rattle.seats.specs.declared.seat.Seat.{Seat}
use Rattle.seats.specs.declared.state.State.TheVariants.{Climbing, Holding, Leaving}
use Rattle.seats.specs.declared.place.Place.{Place}
use Rattle.seats.specs.declared.place.Place.TheVariants.{Rest, ClaimApply, ReadRole, RaceForRole, AwaitPromotion, RecheckCount, AwaitKing, MarkApply}
use Rattle.seats.specs.Lawful.{lawful_open}
use Rattle.seats.specs.Places.{state_number, place_number, within}
use Rattle.seats.specs.Seats.{goes_to, aims, moved}
use Rattle.steps.specs.declared.codes.Coin.{Coin}
use Rattle.steps.specs.declared.codes.Coin.TheVariants.{TryKing, TryQueen, TryPawn}
use Rattle.steps.specs.declared.cells.Cell.TheVariants.{Count, SyncOne, Apply, Role}
use Rattle.steps.specs.Codes.{reg, pro}
use Rattle.steps.specs.Outcomes.{Outcome, did, unfit_at, put, pair_promoted, captured}
use Rattle.steps.specs.Climb.{claim_apply_step, race_for_role_step, await_promotion_step, recheck_count_step, await_king_step, mark_apply_step}
use Rattle.lock.specs.States.{BoxState, seat_at}
use Rattle.gate.proofs.Phases.{Phase, Stand, Marks, Cells, WayOk, CellsOk}
use Rattle.gate.proofs.Gates.{still, applies, plays, Nothing}
use Rattle.gate.proofs.Moves.{become_pawn, see_promotion, not_promoted, still_taken, race_again, read_hand_over, capture}
use Rattle.gate.proofs.Turns.{become_king, become_queen, claim_apply}
use Rattle.relation.proofs.Views.{word_of, Ghost, stands_at, stage_in, stand_of, stand_at, low_of, high_at}
use Rattle.relation.proofs.Relation.{Late}
use Rattle.relation.proofs.GateWords.{Words}
use Rattle.relation.proofs.Acting.{Acts}
use Rattle.relation.proofs.Polls.{Next, Goes, Rests, begins}
use Rattle.relation.proofs.Writings.{Writing, m, at-gate, c₀, x₀, here, cells_ok, way_ok, writes_nothing, writes-count, writes-role, writes-apply, writes_as, go, turn_in, calmly}
use Rattle.relation.proofs.Standing.{stands_climbing, next_same, stander, queen_waits}

abbrev pub Keeps : BoxState → ℕ → Outcome (Unit {0}) → Type 0
Keeps b p o = lawful_open b.ways o.seat ≡ true → o.answer ≡ Ok tt → Next b p o.seat o.cells

-- a king alone has handed over nothing
alone_unhanded : (w h H : ℕ) (f : Phase) (c : Cells) → CellsOk w h H f c → c.count ≡ 1 → c.sync_one ≡ 0
alone_unhanded w h H f c co e = grind arith

-- a pawn's application is its own, and waits or is promoted
pawn_applies : (h H : ℕ) (f : Phase) (c : Cells) (i : ℕ) (v : Stand) (x : Marks) → WayOk h H f c i v x → v.stage ≡ 1 → v.place ≡ 7 → (x.number ≡ v.passage) × ((x.applied ≡ 1) ⊎ (x.applied ≡ 2))
pawn_applies h H f c i v x wo e d = (grind arith, grind arith)

-- who has won has its own number in its application, which waits or is promoted
winner_applies : (h H : ℕ) (f : Phase) (c : Cells) (i : ℕ) (v : Stand) (x : Marks) → WayOk h H f c i v x → v.stage ≡ 1 → v.place ≡ 16 → (x.number ≡ v.passage) × ((x.applied ≡ 1) ⊎ (x.applied ≡ 2))
winner_applies h H f c i v x wo e d = (grind arith, grind arith)

-- what a lawful record says of its numbers
climber_numbers : (w : ℕ) (s : Seat) → lawful_open w s ≡ true → s.state ≡ Climbing → (s.passage.0 ≤ 16383) × (s.height ≡ s.top + 1)
climber_numbers w s law climbs = (grind (arith, nat_tests), grind (arith, nat_tests))

won_far : (w : ℕ) (s : Seat) → lawful_open w s ≡ true → s.state ≡ Climbing → place_number s.place ≡ 16 → s.height ≤ s.aim
won_far w s law climbs e = grind (arith, nat_tests)

-- who has won gates up to a holds, climbs on or leaves
module _ (o : Meeting) (s : Seat) (a : ℕ) (climbs : s.state ≡ Climbing) (kept : s.handed ≡ false) (low : 1 ≤ s.height) (high : s.height ≤ a) where
  Won : Seat → Type 0
  Won t = lawful_open o.ways t ≡ true → Rests o.ways s t (low_of s) a

  won_holding : Won (moved (aims s a) Holding Rest a a)
  unfolding Won
  won_holding law =
      record { law = law; nowhere = refl; handed = kept; passage = λ e. refl; given = omega arith; yet = λ k y. absurd (let q = y.0 in omega arith); place = λ e. omega arith; low = grind arith; high = λ r v. refl }

  won_climbing : Won (moved (aims s a) Climbing ClaimApply (a + 1) a)
  unfolding Won
  won_climbing law =
      record { law = law; nowhere = refl; handed = kept; passage = λ e. refl; given = omega arith; yet = λ k y. (ap state_number climbs, inl (elim y.1 [ inl q ↦ omega arith | inr q ↦ let r = q.0 in omega arith ])); place = λ e. omega arith; low = grind arith; high = λ r v. grind arith }

  won_leaving : Won (moved (aims s a) Leaving ReadRole 1 a)
  unfolding Won
  won_leaving law =
      record { law = law; nowhere = refl; handed = kept; passage = λ e. refl; given = omega arith; yet = λ k y. absurd (let q = y.0 in omega arith); place = λ e. omega arith; low = grind arith; high = λ r v. grind arith }

  pub won_rests : lawful_open o.ways (captured o (aims s a)) ≡ true → Rests o.ways s (captured o (aims s a)) (low_of s) a
  unfolding Won
  won_rests =
      cond_both (eqb a (heights_of o.ways)) _ _ Won (λ e. won_holding)
      (λ e. cond_both s.gave_up _ _ Won (λ g. cond_both (eqb a 0) _ _ Won (λ z. absurd (let q = eqb-true _ _ z in omega arith)) (λ z. won_leaving)) (λ g. won_climbing))

module _ {b : BoxState} {G : Ghost} {p : ℕ} (A : Acts b G p (seat_at b p).height) (climbs : (seat_at b p).state ≡ Climbing) where
  abbrev s : Seat
  s = seat_at b p

  abbrev h : ℕ
  h = s.height

  abbrev g : ℕ
  g = gate_of b.ways p h

  abbrev f : Phase
  f = G.phase g

  abbrev w : ℕ
  w = b.ways

  abbrev H : ℕ
  H = heights_of w

  abbrev i : ℕ
  i = way_of w p h

  stage : (stand_of s).stage ≡ 1
  stage = ap stage_in climbs

  own_law : lawful_open w s ≡ true
  own_law = A.related.sound.law p A.inside

  small : s.passage.0 ≤ 16383
  small = (climber_numbers w s own_law climbs).0

  -- who climbs has not handed over
  kept : s.handed ≡ false
  kept =
      let stands : s.handed ≡ true → ⊥ = λ e. let q = (A.related.sound.handed p A.inside e).0 in let r = ap state_number climbs in omega arith in
      grind arith

  stands : (k : ℕ) → place_number s.place ≡ k → 5 ≤ k → stands_at s ≢ 0
  stands k d l = stands_climbing s climbs (λ r. omega arith) A.low

  -- a step that changes nothing
  idles : Keeps b p (did b.cells s)
  idles law ok = next_same b G p A.related

  -- it stays at the gate, at another place
  along : (x : Place) (a : ℕ) → lawful_open w (goes_to (aims s a) x) ≡ true → place_number s.place ≤ 16 → place_number x ≢ 2 → place_number x ≢ 35 → Goes w s (goes_to (aims s a) x)
  along x a law l n k =
      record { law = law; state = refl; height = refl; handed = refl; passage = refl; within = n; begun = k; later = λ r. absurd (omega arith) }

  module _ (e : s.place ≡ RaceForRole) where
    five : place_number s.place ≡ 5
    five = ap place_number e

    king : word_of b g Count ≡ 0 → Keeps b p (did (put (put b.cells (m A) Count 1) (m A) (Role (m A).way) 1) (goes_to (aims s h) MarkApply))
    king d law ok =
        let n = stands 5 five (omega arith) in
        let k = become_king w h H f (c₀ A) i (stand_of s) (x₀ A) (here A) (cells_ok A) (way_ok A n) stage five d in
        let q = five in
        go A (writes-role A (writes-count A (writes_nothing A) 1) 1) (goes_to (aims s h) MarkApply) k.0 Nothing (λ j l o r. refl) (λ j l o. tt) n
        (along MarkApply h law (omega arith) (omega arith) (omega arith))
        (grind (arith, nat_tests)) (λ r. absurd (omega arith)) k.1

    queen : word_of b g Count ≡ 1 → Keeps b p (did (put (put b.cells (m A) Count 2) (m A) (Role (m A).way) 2) (goes_to s AwaitKing))
    queen d law ok =
        let n = stands 5 five (omega arith) in
        let k = become_queen w h H f (c₀ A) i (stand_of s) (x₀ A) (here A) (cells_ok A) (way_ok A n) stage five d in
        let q = five in
        let low = A.low in
        let z = alone_unhanded w h H f (c₀ A) (cells_ok A) d in
        go A (writes-role A (writes-count A (writes_nothing A) 2) 2) (goes_to s AwaitKing) k.0 Nothing (λ j l o r. refl) (λ j l o. tt) n
        (along AwaitKing s.aim law (omega arith) (omega arith) (omega arith))
        (grind (arith, nat_tests)) (λ r. absurd (omega arith)) k.1

    pawn : word_of b g Count ≡ 2 → Keeps b p (did (put b.cells (m A) (Role (m A).way) 3) (goes_to s AwaitPromotion))
    pawn d law ok =
        let n = stands 5 five (omega arith) in
        let k = become_pawn w h H f (c₀ A) i (here A) (stand_of s) (x₀ A) (cells_ok A) (way_ok A n) stage five d in
        let q = five in
        go A (writes-role A (writes_nothing A) 3) (goes_to s AwaitPromotion) f Nothing (λ j l o r. refl) (λ j l o. tt) n
        (along AwaitPromotion s.aim law (omega arith) (omega arith) (omega arith))
        (grind (arith, nat_tests)) (λ r. absurd (omega arith)) (calmly A (c₀ A) (stand_of s) (stand_of (goes_to s AwaitPromotion)) _ k)

    pub keeps_race_for_role : (c : Coin) → Keeps b p (race_for_role_step c (m A) s b.cells)
    keeps_race_for_role TryKing = cond_both _ _ _ (Keeps b p) (λ d. king (eqb-true _ _ d)) (λ d. idles)
    keeps_race_for_role TryQueen = cond_both _ _ _ (Keeps b p) (λ d. queen (eqb-true _ _ d)) (λ d. idles)
    keeps_race_for_role TryPawn = cond_both _ _ _ (Keeps b p) (λ d. pawn (eqb-true _ _ d)) (λ d. idles)

  module _ (e : s.place ≡ RecheckCount) where
    eight : place_number s.place ≡ 8
    eight = ap place_number e

    taken : word_of b g Count ≡ 2 → Keeps b p (did b.cells (goes_to s AwaitPromotion))
    taken d law ok =
        let n = stands 8 eight (omega arith) in
        let q = eight in
        let k = still_taken w h H f (c₀ A) i (here A) (stand_of s) (x₀ A) (cells_ok A) (way_ok A n) stage eight d in
        go A (writes_nothing A) (goes_to s AwaitPromotion) f Nothing (λ j l o r. refl) (λ j l o. tt) n
        (along AwaitPromotion s.aim law (omega arith) (omega arith) (omega arith))
        (grind (arith, nat_tests)) (λ r. absurd (omega arith)) (calmly A (c₀ A) (stand_of s) (stand_of (goes_to s AwaitPromotion)) _ k)

    untaken : word_of b g Count ≢ 2 → Keeps b p (did b.cells (goes_to s RaceForRole))
    untaken d law ok =
        let n = stands 8 eight (omega arith) in
        let q = eight in
        let k = race_again w h H f (c₀ A) i (here A) (stand_of s) (x₀ A) (cells_ok A) (way_ok A n) stage eight d in
        go A (writes_nothing A) (goes_to s RaceForRole) f Nothing (λ j l o r. refl) (λ j l o. tt) n
        (along RaceForRole s.aim law (omega arith) (omega arith) (omega arith))
        (grind (arith, nat_tests)) (λ r. absurd (omega arith)) (calmly A (c₀ A) (stand_of s) (stand_of (goes_to s RaceForRole)) _ k)

    pub keeps_recheck_count : Keeps b p (recheck_count_step (m A) s b.cells)
    keeps_recheck_count =
        cond_both _ _ _ (λ (x : Place). Keeps b p (did b.cells (goes_to s x))) (λ d. taken (eqb-true _ _ d)) (λ d. untaken (eqb-false _ _ d))

  module _ (e : s.place ≡ AwaitPromotion) where
    seven : place_number s.place ≡ 7
    seven = ap place_number e

    promoted : word_of b g (Apply (record { 0 = i })) ≡ pro s.passage.0 → Keeps b p (did (put b.cells (m A) (Role (m A).way) 4) (goes_to (aims s h) MarkApply))
    promoted d law ok =
        let n = stands 7 seven (omega arith) in
        let q = seven in
        let k = see_promotion w h H f (c₀ A) i (here A) (stand_of s) (x₀ A) (cells_ok A) (way_ok A n) stage seven (omega arith) in
        go A (writes-role A (writes_nothing A) 4) (goes_to (aims s h) MarkApply) f Nothing (λ j l o r. refl) (λ j l o. tt) n
        (along MarkApply h law (omega arith) (omega arith) (omega arith))
        (grind (arith, nat_tests)) (λ r. absurd (omega arith)) (calmly A (c₀ A) (stand_of s) (stand_of (goes_to (aims s h) MarkApply)) _ k)

    unpromoted : word_of b g (Apply (record { 0 = i })) ≢ pro s.passage.0 → Keeps b p (did b.cells (goes_to s RecheckCount))
    unpromoted d law ok =
        let n = stands 7 seven (omega arith) in
        let q = seven in
        let y = pawn_applies h H f (c₀ A) i (stand_of s) (x₀ A) (way_ok A n) stage seven in
        let y₀ = y.0 in
        let waits : (x₀ A).applied ≡ 1 = elim y.1 [ inl r ↦ r | inr r ↦ absurd (d (omega arith)) ] in
        let k = not_promoted w h H f (c₀ A) i (here A) (stand_of s) (x₀ A) (cells_ok A) (way_ok A n) stage seven waits in
        go A (writes_nothing A) (goes_to s RecheckCount) f Nothing (λ j l o r. refl) (λ j l o. tt) n
        (along RecheckCount s.aim law (omega arith) (omega arith) (omega arith))
        (grind (arith, nat_tests)) (λ r. absurd (omega arith)) (calmly A (c₀ A) (stand_of s) (stand_of (goes_to s RecheckCount)) _ k)

    pub keeps_await_promotion : Keeps b p (await_promotion_step (m A) s b.cells)
    keeps_await_promotion = cond_both _ _ _ (Keeps b p) (λ d. promoted (eqb-true _ _ d)) (λ d. unpromoted (eqb-false _ _ d))

  module _ (e : s.place ≡ AwaitKing) where
    fourteen : place_number s.place ≡ 14
    fourteen = ap place_number e

    given : word_of b g SyncOne ≢ 0 → within h H (word_of b g SyncOne) ≡ true → Keeps b p (did b.cells (goes_to (aims s (word_of b g SyncOne)) MarkApply))
    given d r law ok =
        let n = stands 14 fourteen (omega arith) in
        let q = fourteen in
        let a = word_of b g SyncOne in
        let y = queen_waits w h H f (c₀ A) i (stand_of s) (x₀ A) (here A).low (here A).high (here A).most (cells_ok A) (way_ok A n) stage fourteen in
        let y₀ = y.0 in
        let k = read_hand_over w h H f (c₀ A) i (here A) (stand_of s) (x₀ A) (cells_ok A) (way_ok A n) stage fourteen d in
        go A (writes_nothing A) (goes_to (aims s a) MarkApply) f Nothing (λ j l o r. refl) (λ j l o. tt) n
        (along MarkApply a law (omega arith) (omega arith) (omega arith))
        (grind (arith, nat_tests)) (λ r. absurd (omega arith)) (calmly A (c₀ A) (stand_of s) (stand_of (goes_to (aims s a) MarkApply)) _ k)

    unfit : Keeps b p (unfit_at (m A) SyncOne b.cells s)
    unfit law ok = absurd (let z : ◌≡◌ {A = ℕ} 0 1 = cc in omega arith)

    pub keeps_await_king : Keeps b p (await_king_step (m A) s b.cells)
    keeps_await_king =
        cond_both _ _ _ (Keeps b p) (λ d. idles)
        (λ d. cond_both _ _ _ (Keeps b p) (λ r. given (eqb-false _ _ d) r) (λ r. unfit))

  module _ (e : s.place ≡ MarkApply) where
    sixteen : place_number s.place ≡ 16
    sixteen = ap place_number e

    wins : (t : Seat) (ws : List ℕ) (x : Words) → Writing A ws x (c₀ A) (applies 2 (x₀ A).number (x₀ A)) (λ j y. y) → x.sync_one ≡ word_of b g SyncOne → Rests w s t (low_of s) s.aim → Next b p t ws
    wins t ws x u y r =
        let n = stands 16 sixteen (omega arith) in
        let q = sixteen in
        let k = capture w h H f (c₀ A) i (here A) (stand_of s) (x₀ A) (cells_ok A) (way_ok A n) stage sixteen in
        turn_in A u t s.aim f Nothing (λ j l o d. y) (λ j l o. tt) n r (grind (arith, nat_tests)) (calmly A (c₀ A) (stand_of s) (still 2) _ k)

    rests : lawful_open w (captured (m A) s) ≡ true → Rests w s (captured (m A) s) (low_of s) s.aim
    rests law = won_rests (m A) s s.aim climbs kept A.low (won_far w s own_law climbs sixteen) law

    same_marks : (n a : ℕ) → n ≡ (x₀ A).number → a ≡ 2 → applies a n (x₀ A) ≡ applies 2 (x₀ A).number (x₀ A)
    same_marks n a d k = λ j. applies (k j) (d j) (x₀ A)

    reached : lawful_open w (captured (m A) s) ≡ true → Next b p (captured (m A) s) (pair_promoted b.cells (m A) (m A).way s.passage.0)
    reached law =
        let n = stands 16 sixteen (omega arith) in
        let y = winner_applies h H f (c₀ A) i (stand_of s) (x₀ A) (way_ok A n) stage sixteen in
        let own = y.0 in
        let number = s.passage.0 in
        let apply = word_of b g (Apply (record { 0 = i })) in
        cond_both _ _ _ (λ (ws : List ℕ). Next b p (captured (m A) s) ws)
        (λ d.
        let q : apply ≡ reg number = eqb-true _ _ d in
        wins (captured (m A) s) _ _ (writes_as A (writes-apply A (writes_nothing A) (pro number) (let l = small in omega arith)) _ _ (same_marks (pro number / 4) (pro number % 4) (omega arith) (omega arith)) (λ j l o. refl)) refl (rests law))
        (λ d.
        let q : apply ≢ reg number = eqb-false _ _ d in
        wins (captured (m A) s) _ _ (writes_as A (writes_nothing A) _ _ (same_marks (x₀ A).number (x₀ A).applied refl (elim y.1 [ inl r ↦ absurd (q (omega arith)) | inr r ↦ r ])) (λ j l o. refl)) refl (rests law))

    pub keeps_mark_apply : Keeps b p (mark_apply_step (m A) s b.cells)
    keeps_mark_apply law ok = reached law

  module _ (e : s.place ≡ ClaimApply) where
    two : place_number s.place ≡ 2
    two = ap place_number e

    -- nobody who promotes keeps the number of this passage for this way
    unkept : (j : ℕ) → j < w → j ≢ i → (stand_at b G h g j).place ≡ 70 → (stand_at b G h g j).kept_way ≡ i → s.passage.0 ≢ (stand_at b G h g j).kept_number
    unkept j l o d k =
        let t = stander b G A.related p h A.inside A.low A.high j l (λ r. omega arith) in
        let q = t.0 in
        let S = t.1 in
        let late : Late b q (seat_at b q) = A.related.sound.late q S.inside (sym (ap (λ v. v.place) S.shows) ∙ d) in
        let at : (seat_at b q).height ≡ h = S.height in
        let way : (seat_at b q).kept_way.0 ≡ i = sym (ap (λ v. v.kept_way) S.shows) ∙ k in
        let number : (stand_at b G h g j).kept_number ≡ (seat_at b q).kept_number.0 = ap (λ v. v.kept_number) S.shows in
        λ c.
        late.apart p A.inside (ap state_number climbs, inr (sym at, two)) (ap (λ y. gate_of w p y) at ∙ (sym S.gate ∙ ap (λ y. gate_of w q y) (sym at)))
        (ap (λ y. way_of w p y) at ∙ sym way) (c ∙ number)

    enters : word_of b g (Apply (record { 0 = i })) ≡ 0 → Keeps b p (did (put (put b.cells (m A) (Apply (m A).way) (reg s.passage.0)) (m A) (Role (m A).way) 0) (goes_to s RaceForRole))
    enters d law ok =
        let q = two in
        let l = small in
        let t = goes_to s RaceForRole in
        let n = s.passage.0 in
        let high = (climber_numbers w s own_law climbs).1 in
        let v = stand_at b G h g i in
        let E : ℕ → Stand → Marks → Type 0 = λ j u y. u.place ≡ 70 → u.kept_way ≡ i → n ≢ u.kept_number in
        let wo : WayOk h H f (c₀ A) i v (x₀ A) = (at-gate A).gate.ways i (here A).way in
        let k = claim_apply w h H f (c₀ A) i v (x₀ A) (stand_of t) (here A) (cells_ok A) wo (omega arith) stage refl in
        let u = writes_as A (writes-role A (writes-apply A (writes_nothing A) (reg n) (omega arith)) 0) (plays 0 (applies 1 n (x₀ A))) (λ j y. y)
        (let r : reg n % 4 ≡ 1 = omega arith in let r' : reg n / 4 ≡ n = omega arith in λ j. plays 0 (applies (r j) (r' j) (x₀ A))) (λ j l o. refl) in
        let was : high_at b p ≡ s.top = grind (arith, nat_tests) in
        let lo : low_of s ≡ 1 = grind arith in
        let lo' : low_of t ≡ 1 = grind arith in
        let low = A.low in
        begins A t _ f _ u.store (c₀ A) (plays 0 (applies 1 n (x₀ A))) E (λ j y. y) u.marks (λ j l o r. refl) unkept h v refl
        (record {
          law = law;
          handed = λ r. absurd (let z : ◌≡◌ {A = Bool} true false = (let v' = kept in cc) in grind arith);
          passage = λ r. (r, refl);
          given = A.related.sound.given p A.inside;
          yet = λ j y. (y.0, elim y.1 [ inl r ↦ inl r | inr r ↦ absurd (let r₁ = r.1 in omega arith) ]);
          late = λ r. absurd (omega arith);
        })
        (grind arith) (grind (arith, nat_tests)) refl
        (record {
          same = λ j a₀ a₁ a₂ a₃ a₄. (omega arith, omega arith);
          back = λ j a₀ a₁ a₂ a₃ a₄. (omega arith, omega arith);
          own = λ a₀ a₁. refl;
          own_back = λ a₀. (omega arith, omega arith);
        }) k

    pub keeps_claim_apply : Keeps b p (claim_apply_step (m A) s b.cells)
    keeps_claim_apply = cond_both _ _ _ (Keeps b p) (λ d. enters (eqb-true _ _ d)) (λ d. idles)

-- The steps of a seat that gives up at a gate keep the relation: places 19, 21, 26, 27 and 32. Assumes nothing.
--     captured_rests                         a seat that has won gates stands at none
--     keeps_close_apply, keeps_abort_queen, keeps_withdraw_apply, keeps_abort_pawn, keeps_accept_gate
--                                            the step of each place
use Rattle.std.proofs.Common.{◌≡◌, ℕ, ◌+◌, ◌/◌, ◌%◌, ◌<◌, ◌≤◌, cond, eqb, true, false, ◌≢◌, ◌⊎◌, List, Some, None, sym, refl, ap, ◌∙◌, inl, inr, arith}
use Rattle.std.proofs.lemmas.Bool.{cond_both, eqb-true, eqb-false, false_from_ne_true}
use Rattle.std.proofs.lemmas.Bool.Decides.{nat_tests}
use Rattle.layout.specs.declared.path.Meeting.{Meeting}
use Rattle.layout.specs.Gates.{heights_of, gate_of, way_of}
use Rattle.seats.specs.declared.seat.Seat.{Seat}
use Rattle.seats.specs.declared.state.State.TheVariants.{Climbing, Holding, Leaving}
use Rattle.seats.specs.declared.place.Place.TheVariants.{Rest, ReadRole, ClaimApply, CloseApply, AbortPawn, AbortQueen, AcceptGate, WithdrawApply, ScanApply}
use Rattle.seats.specs.Lawful.{lawful_open}
use Rattle.seats.specs.Places.{state_number, place_number, within}
use Rattle.seats.specs.Seats.{away, moved, goes_to, scans, aims, backed_out}
use Rattle.steps.specs.declared.cells.Cell.TheVariants.{SyncOne, Pawns, Apply, Role}
use Rattle.steps.specs.Codes.{pair, reg, pro}
use Rattle.steps.specs.Pawns.{lane, with_lane}
use Rattle.steps.specs.Outcomes.{did, put, holds, captured}
use Rattle.steps.specs.Abort.{close_apply_step, aborted_by, abort_pawn_step, abort_queen_step, accept_gate_step, withdraw_apply_step}
use Rattle.lock.specs.States.{BoxState, seat_at}
use Rattle.gate.proofs.Phases.{Phase, Stand, Marks, Cells, WayOk, CellsOk}
use Rattle.gate.proofs.Gates.{Nothing, still, to, applies, plays, lists, scanning, syncs_one}
use Rattle.gate.proofs.Moves.{close_queen, close_pawn, abort_pawn, abort_late, abort_queen, already_handed, accept_gate, withdraw_apply}
use Rattle.relation.proofs.PawnLaws.{lane-same, lane-other, with_fits}
use Rattle.relation.proofs.Views.{word_of, Ghost, stage_in, stands_at, stand_of, marks_of, low_in, low_of, reach_of, high_in, high_of, high_at}
use Rattle.relation.proofs.Acting.{Acts, Queenly}
use Rattle.relation.proofs.Polls.{Rests, rests-gone}
use Rattle.relation.proofs.GateWords.{Words}
use Rattle.relation.proofs.Writings.{m, c₀, x₀, here, at-gate, cells_ok, way_ok, Writing, writes_nothing, writes-apply, writes-role, writes-pawns, writes-sync-one, writes_as, go, turn_in, calmly}
use Rattle.relation.proofs.Standing.{stands_climbing, queen_accepts}
use Rattle.relation.proofs.ClimbSteps.{Keeps}

-- of a place that only climbing seats have
climbs-at : (w : ℕ) (s : Seat) → lawful_open w s ≡ true → (state_number s.state ≡ 1) ⊎ (state_number s.state ≡ 3) → place_number s.place ≤ 32 → s.state ≡ Climbing
climbs-at w s law y l = grind (arith, nat_tests)

climber-facts : (w : ℕ) (s : Seat) → lawful_open w s ≡ true → s.state ≡ Climbing → (s.passage.0 ≤ 16383) × (s.height ≡ s.top + 1)
climber-facts w s law state = (grind (arith, nat_tests), grind (arith, nat_tests))

-- what a seat that gives up occupies
reach_given : (w n r t : ℕ) (s : Seat) → n ≡ 27 → r ≡ 2 → within s.height (heights_of w) t ≡ true → reach_of w n r t s ≡ t
reach_given w n r t s e d q = grind (arith, nat_tests)

reach_alone : (w n r t : ℕ) (s : Seat) → (n ≡ 32) ⊎ ((n ≡ 21) × (r ≢ 2)) → reach_of w n r t s ≡ s.height
reach_alone w n r t s d = elim d [ inl e ↦ grind (arith, nat_tests) | inr e ↦ grind (arith, nat_tests) ]

high_climbing : (w r t a : ℕ) (s : Seat) → s.state ≡ Climbing → reach_of w (place_number s.place) r t s ≡ a → high_of w r t s ≡ a
high_climbing w r t a s e d = ap (λ x. high_in x w r t s) e ∙ d

-- a seat that has won the gates up to a height a, in each of the three ways that a capture can end
module _ (m : Meeting) (s : Seat) (a : ℕ) (state : s.state ≡ Climbing) (kept : s.handed ≡ false) (low : 1 ≤ a) (high : s.height ≤ a) where
  abbrev RestsAs : Seat → Type 0
  RestsAs t = lawful_open m.ways t ≡ true → Rests m.ways s t (low_of s) a

  lowest : 1 ≡ low_of s
  lowest = sym (ap (λ x. low_in x s.height) state)

  rests_holding : RestsAs (moved (aims s a) Holding Rest a a)
  rests_holding law =
      record { law = law; nowhere = refl; handed = kept; passage = λ d. refl; given = omega arith; yet = λ k y. absurd (omega arith); place = λ d. omega arith; low = lowest; high = λ r v. refl }

  rests_leaving : RestsAs (moved (aims s a) Leaving ReadRole 1 a)
  rests_leaving law =
      record { law = law; nowhere = refl; handed = kept; passage = λ d. refl; given = omega arith; yet = λ k y. absurd (omega arith); place = λ d. omega arith; low = lowest; high = λ r v. ap (λ x. cond x 1 a) kept }

  rests_climbing : RestsAs (moved (aims s a) Climbing ClaimApply (a + 1) a)
  rests_climbing law =
      record { law = law; nowhere = refl; handed = kept; passage = λ d. refl; given = omega arith; yet = λ k y. (ap state_number state, inl (elim y.1 [ inl q ↦ omega arith | inr q ↦ let e = q.0 in omega arith ])); place = λ d. omega arith; low = lowest; high = λ r v. refl }

  pub captured_rests : RestsAs (captured m (aims s a))
  captured_rests =
      cond_both (eqb a (heights_of m.ways)) _ _ RestsAs (λ e. rests_holding)
      (λ e.
      cond_both s.gave_up _ _ RestsAs
      (λ d. cond_both (eqb a 0) away (moved (aims s a) Leaving ReadRole 1 a) RestsAs (λ z law. absurd (let q = eqb-true a 0 z in omega arith)) (λ z. rests_leaving))
      (λ d. rests_climbing))

-- what a way shows whose seat gives up
module _ (w h H : ℕ) (f : Phase) (c : Cells) (i : ℕ) (v : Stand) (x : Marks) (co : CellsOk w h H f c) (wo : WayOk h H f c i v x) (climbing : v.stage ≡ 1) where
  shows_closing : v.place ≡ 19 → (x.number ≡ v.passage) × ((x.applied ≡ 1) ⊎ (x.applied ≡ 2))
  shows_closing e = (grind arith, grind arith)

  shows_withdrawing : v.place ≡ 32 → (x.number ≡ v.passage) × (x.applied ≡ 2)
  shows_withdrawing e = (grind arith, grind arith)

  no_queen : v.place ≡ 21 → x.role ≢ 2
  no_queen e d = grind arith

  -- no other way has a queen
  sole_queen : v.place ≡ 26 → (j : ℕ) (u : Stand) (y : Marks) → WayOk h H f c j u y → j ≢ i → Queenly u y → ⊥
  sole_queen e j u y wj n q = grind arith

module _ {b : BoxState} {G : Ghost} {p : ℕ} (A : Acts b G p (seat_at b p).height) (moves : (state_number (seat_at b p).state ≡ 1) ⊎ (state_number (seat_at b p).state ≡ 3)) where
  abbrev s : Seat
  s = seat_at b p

  abbrev h : ℕ
  h = s.height

  abbrev g : ℕ
  g = gate_of b.ways p h

  abbrev f : Phase
  f = G.phase g

  abbrev w : ℕ
  w = b.ways

  abbrev H : ℕ
  H = heights_of w

  abbrev i : ℕ
  i = way_of w p h

  climbs : place_number s.place ≤ 32 → s.state ≡ Climbing
  climbs l = climbs-at w s (A.related.sound.law p A.inside) moves l

  abbrev RestsBack : Seat → Type 0
  RestsBack t = lawful_open w t ≡ true → Rests w s t 1 s.top

  kept : s.state ≡ Climbing → s.handed ≡ false
  kept d =
      false_from_ne_true s.handed
      (λ e. let q = (A.related.sound.handed p A.inside e).0 in let r = ap state_number d in omega arith)

  module _ (upto : place_number s.place ≤ 32) (past : place_number s.place ≢ 2) where
    state : s.state ≡ Climbing
    state = climbs upto

    stage : (stand_of s).stage ≡ 1
    stage = ap stage_in state

    n : stands_at s ≢ 0
    n = stands_climbing s state past A.low

    module _ (q : place_number s.place ≡ 19) (ws : List ℕ) (v : Words) (r : v.role i ≡ word_of b g (Role (m A).way)) (y : v.sync_one ≡ word_of b g SyncOne) (u : Writing A ws v (c₀ A) (applies 2 (x₀ A).number (x₀ A)) (λ j y. y)) where
      to_queen : word_of b g (Role (m A).way) ≡ 2 → Keeps b p (did ws (goes_to s AbortQueen))
      to_queen d law ok =
          let k = close_queen w h H f (c₀ A) i (here A) (stand_of s) (x₀ A) (cells_ok A) (way_ok A n) stage q d in
          go A u (goes_to s AbortQueen) f Nothing (λ j l o z. y) (λ j l o. tt) n
          (record { law = law; state = refl; height = refl; handed = refl; passage = refl; within = omega arith; begun = omega arith; later = λ r. omega arith })
          (rw (r, y) (grind (arith, nat_tests))) (λ r. absurd (omega arith)) (calmly A (c₀ A) (stand_of s) (to 26 (stand_of s)) (applies 2 (x₀ A).number (x₀ A)) k)

      to_pawn : word_of b g (Role (m A).way) ≢ 2 → Keeps b p (did ws (goes_to s AbortPawn))
      to_pawn d law ok =
          let k = close_pawn w h H f (c₀ A) i (here A) (stand_of s) (x₀ A) (cells_ok A) (way_ok A n) stage q d in
          go A u (goes_to s AbortPawn) f Nothing (λ j l o z. y) (λ j l o. tt) n
          (record { law = law; state = refl; height = refl; handed = refl; passage = refl; within = omega arith; begun = omega arith; later = λ r. omega arith })
          (rw (r, y) (grind (arith, nat_tests))) (λ r. absurd (omega arith)) (calmly A (c₀ A) (stand_of s) (to 21 (stand_of s)) (applies 2 (x₀ A).number (x₀ A)) k)

      closes_to : Keeps b p (did ws (goes_to s (cond (holds b.cells (m A) (Role (m A).way) 2) AbortQueen AbortPawn)))
      closes_to =
          cond_both (holds b.cells (m A) (Role (m A).way) 2) AbortQueen AbortPawn (λ x. Keeps b p (did ws (goes_to s x)))
          (λ d. to_queen (eqb-true _ _ d)) (λ d. to_pawn (eqb-false _ _ d))

    gone : place_number s.place ≡ 26 → word_of b g SyncOne ≡ 0 → Keeps b p (did (put b.cells (m A) SyncOne 15) (goes_to (scans s 0) ScanApply))
    gone q d law ok =
        let k = abort_queen w h H f (c₀ A) i (here A) (stand_of s) (x₀ A) (cells_ok A) (way_ok A n) stage q d in
        go A (writes-sync-one A (writes_nothing A) 15) (goes_to (scans s 0) ScanApply) f Nothing
        (λ j l o r. absurd (sole_queen w h H f (c₀ A) i (stand_of s) (x₀ A) (cells_ok A) (way_ok A n) stage q j _ _ ((at-gate A).gate.ways j l) o r))
        (λ j l o. tt) n
        (record { law = law; state = refl; height = refl; handed = refl; passage = refl; within = omega arith; begun = omega arith; later = λ r. omega arith })
        (grind (arith, nat_tests)) (λ r. absurd (omega arith)) (calmly A (syncs_one 15 (c₀ A)) (stand_of s) (to 52 (scanning 0 (stand_of s).noted (stand_of s))) (x₀ A) k)

    handed : place_number s.place ≡ 26 → word_of b g SyncOne ≢ 0 → Keeps b p (did b.cells (goes_to s AcceptGate))
    handed q d law ok =
        let k = already_handed w h H f (c₀ A) i (here A) (stand_of s) (x₀ A) (cells_ok A) (way_ok A n) stage q d in
        go A (writes_nothing A) (goes_to s AcceptGate) f Nothing (λ j l o r. refl) (λ j l o. tt) n
        (record { law = law; state = refl; height = refl; handed = refl; passage = refl; within = omega arith; begun = omega arith; later = λ r. omega arith })
        (grind (arith, nat_tests)) (λ r. absurd (omega arith)) (calmly A (c₀ A) (stand_of s) (to 27 (stand_of s)) (x₀ A) k)

    rests_away : s.top ≡ 0 → RestsBack away
    rests_away d law =
        record { law = law; nowhere = refl; handed = refl; passage = λ x. absurd (x refl); given = omega arith; yet = λ k y. absurd (let x = y.0 in omega arith); place = λ x. omega arith; low = refl; high = λ r v. sym d }

    rests_back : RestsBack (moved s Leaving ReadRole 1 s.top)
    rests_back law =
        record { law = law; nowhere = refl; handed = kept state; passage = λ x. refl; given = omega arith; yet = λ k y. absurd (let x = y.0 in omega arith); place = λ x. omega arith; low = refl; high = λ r v. ap (λ x. cond x 1 s.top) (kept state) }

    backed_rests : RestsBack (backed_out s)
    backed_rests =
        cond_both (eqb s.top 0) away (moved s Leaving ReadRole 1 s.top) RestsBack (λ d. rests_away (eqb-true _ _ d)) (λ d. rests_back)

    withdrawn : place_number s.place ≡ 32 → word_of b g (Apply (m A).way) ≡ pro s.passage.0 → Keeps b p (did (put b.cells (m A) (Apply (m A).way) 0) (backed_out s))
    withdrawn q d law ok =
        let k = withdraw_apply w h H f (c₀ A) i (here A) (stand_of s) (x₀ A) (cells_ok A) (way_ok A n) stage q in
        let u = writes-apply A (writes_nothing A) 0 (omega arith) in
        let low : low_of s ≡ 1 = ap (λ x. low_in x h) state in
        let high : high_at b p ≡ h = high_climbing w (x₀ A).role (c₀ A).sync_one h s state (reach_alone w (place_number s.place) (x₀ A).role (c₀ A).sync_one s (inl q)) in
        let above : h ≡ s.top + 1 = (climber-facts w s (A.related.sound.law p A.inside) state).1 in
        rests-gone A (backed_out s) _ f _ u.store (c₀ A) (applies 0 0 (x₀ A)) Nothing (λ j y. y) u.marks (λ j l o r. refl) (λ j l o. tt)
        1 s.top n (backed_rests law)
        (record {
          same = λ x a₀ a₁ a₂ a₃ a₄. (a₀, omega arith);
          back = λ x a₀ a₁ a₂ a₃ a₄. (omega arith, omega arith);
          own = λ a₀ a₁. absurd (omega arith);
          own_back = λ a₀. absurd (omega arith);
        })
        (calmly A (c₀ A) (stand_of s) (still 0) (applies 0 0 (x₀ A)) k)

    struck : place_number s.place ≡ 21 → lane (word_of b g Pawns) i % 4 ≢ 2 → Keeps b p (did (put b.cells (m A) Pawns (with_lane (word_of b g Pawns) i (pair s.passage.0 3))) (goes_to s WithdrawApply))
    struck q d law ok =
        let k = abort_pawn w h H f (c₀ A) i (here A) (stand_of s) (x₀ A) (cells_ok A) (way_ok A n) stage q d in
        let z = A.related.sound.sized in
        let few = (climber-facts w s (A.related.sound.law p A.inside) state).0 in
        let x = pair s.passage.0 3 in
        let fits : x < 65536 = omega arith in
        let il : i < 4 = let a = (here A).way in let c = z.most in omega arith in
        let v = word_of b g Pawns in
        let own = lane-same v i x il fits in
        let three : lane (with_lane v i x) i % 4 ≡ 3 = omega arith in
        let number : lane (with_lane v i x) i / 4 ≡ s.passage.0 = omega arith in
        let u = writes_as A (writes-pawns A (writes_nothing A) (with_lane v i x) (with_fits v i x (at-gate A).pawns il fits))
        (lists 3 s.passage.0 (x₀ A)) (λ j y. y) (λ t. lists (three t) (number t) (x₀ A))
        (λ j l o. λ t. marks_of (word_of b g (Apply (record { 0 = j }))) (word_of b g (Role (record { 0 = j }))) (lane-other v i j x il fits o t)) in
        go A u (goes_to s WithdrawApply) f Nothing (λ j l o r. refl) (λ j l o. tt) n
        (record { law = law; state = refl; height = refl; handed = refl; passage = refl; within = omega arith; begun = omega arith; later = λ r. omega arith })
        (high_climbing w (x₀ A).role (c₀ A).sync_one h (goes_to s WithdrawApply) state (reach_alone w 32 (x₀ A).role (c₀ A).sync_one s (inl refl))
        ∙ sym (high_climbing w (x₀ A).role (c₀ A).sync_one h s state (reach_alone w (place_number s.place) (x₀ A).role (c₀ A).sync_one s (inr (q, no_queen w h H f (c₀ A) i (stand_of s) (x₀ A) (cells_ok A) (way_ok A n) stage q)))))
        (λ r. absurd (omega arith)) (calmly A (c₀ A) (stand_of s) (to 32 (stand_of s)) (lists 3 s.passage.0 (x₀ A)) k)

    late : place_number s.place ≡ 21 → lane (word_of b g Pawns) i % 4 ≡ 2 → Keeps b p (did (put b.cells (m A) (Role (m A).way) 4) (captured (m A) (aims s h)))
    late q d law ok =
        let k = abort_late w h H f (c₀ A) i (here A) (stand_of s) (x₀ A) (cells_ok A) (way_ok A n) stage q d in
        turn_in A (writes-role A (writes_nothing A) 4) (captured (m A) (aims s h)) h f Nothing (λ j l o r. refl) (λ j l o. tt) n
        (captured_rests (m A) s h state (kept state) A.low (omega arith) law)
        (high_climbing w (x₀ A).role (c₀ A).sync_one h s state (reach_alone w (place_number s.place) (x₀ A).role (c₀ A).sync_one s (inr (q, no_queen w h H f (c₀ A) i (stand_of s) (x₀ A) (cells_ok A) (way_ok A n) stage q))))
        (calmly A (c₀ A) (stand_of s) (still 2) (plays 4 (x₀ A)) k)

    taken : place_number s.place ≡ 27 → within h H (word_of b g SyncOne) ≡ true → Keeps b p (did b.cells (captured (m A) (aims s (word_of b g SyncOne))))
    taken q d law ok =
        let k = accept_gate w h H f (c₀ A) i (here A) (stand_of s) (x₀ A) (cells_ok A) (way_ok A n) stage q in
        let l = here A in
        let r = queen_accepts w h H f (c₀ A) i (stand_of s) (x₀ A) l.low l.high l.most (cells_ok A) (way_ok A n) stage q in
        let t = word_of b g SyncOne in
        let low = l.low in
        let up : h ≤ t = r.1 in
        turn_in A (writes_nothing A) (captured (m A) (aims s t)) t f Nothing (λ j l o r. refl) (λ j l o. tt) n
        (captured_rests (m A) s t state (kept state) (omega arith) up law)
        (high_climbing w (x₀ A).role t t s state (reach_given w (place_number s.place) (x₀ A).role t s q r.0 d))
        (calmly A (c₀ A) (stand_of s) (still 2) (x₀ A) k)

  pub keeps_close_apply : s.place ≡ CloseApply → Keeps b p (close_apply_step (m A) s b.cells)
  keeps_close_apply e =
      let q : place_number s.place ≡ 19 = ap place_number e in
      let l : place_number s.place ≤ 32 = omega arith in
      let past : place_number s.place ≢ 2 = λ d. omega arith in
      let x = shows_closing w h H f (c₀ A) i (stand_of s) (x₀ A) (cells_ok A) (way_ok A (n l past)) (stage l past) q in
      let small = (climber-facts w s (A.related.sound.law p A.inside) (state l past)).0 in
      let v = word_of b g (Apply (m A).way) in
      let number : v / 4 ≡ s.passage.0 = x.0 in
      let y = x₀ A in
      cond_both (holds b.cells (m A) (Apply (m A).way) (reg s.passage.0)) _ _
      (λ ws. Keeps b p (did ws (goes_to s (cond (holds b.cells (m A) (Role (m A).way) 2) AbortQueen AbortPawn))))
      (λ d.
      let two : pro s.passage.0 % 4 ≡ 2 = omega arith in
      let same : pro s.passage.0 / 4 ≡ v / 4 = omega arith in
      closes_to l past q _ _ refl refl (writes_as A (writes-apply A (writes_nothing A) (pro s.passage.0) (omega arith)) (applies 2 y.number y) (λ j z. z) (λ k. applies (two k) (same k) y) (λ j a c. refl)))
      (λ d.
      let other : v ≢ reg s.passage.0 = eqb-false _ _ d in
      let two : v % 4 ≡ 2 = elim x.1 [ inl c ↦ absurd (other (omega arith)) | inr c ↦ c ] in
      closes_to l past q _ _ refl refl (writes_as A (writes_nothing A) (applies 2 y.number y) (λ j z. z) (λ k. applies (two k) y.number y) (λ j a c. refl)))

  pub keeps_abort_queen : s.place ≡ AbortQueen → Keeps b p (abort_queen_step (m A) s b.cells)
  keeps_abort_queen e =
      let q : place_number s.place ≡ 26 = ap place_number e in
      let l : place_number s.place ≤ 32 = omega arith in
      let past : place_number s.place ≢ 2 = λ d. omega arith in
      cond_both (eqb (word_of b g SyncOne) 0) _ _ (Keeps b p) (λ d. gone l past q (eqb-true _ _ d)) (λ d. handed l past q (eqb-false _ _ d))

  pub keeps_withdraw_apply : s.place ≡ WithdrawApply → Keeps b p (withdraw_apply_step (m A) s b.cells)
  keeps_withdraw_apply e =
      let q : place_number s.place ≡ 32 = ap place_number e in
      let l : place_number s.place ≤ 32 = omega arith in
      let past : place_number s.place ≢ 2 = λ d. omega arith in
      let x = shows_withdrawing w h H f (c₀ A) i (stand_of s) (x₀ A) (cells_ok A) (way_ok A (n l past)) (stage l past) q in
      let v = word_of b g (Apply (m A).way) in
      let number : v / 4 ≡ s.passage.0 = x.0 in
      let two : v % 4 ≡ 2 = x.1 in
      cond_both (holds b.cells (m A) (Apply (m A).way) (pro s.passage.0)) _ _ (λ ws. Keeps b p (did ws (backed_out s)))
      (λ d. withdrawn l past q (eqb-true _ _ d))
      (λ d. absurd (eqb-false _ _ d (omega arith)))

  pub keeps_abort_pawn : s.place ≡ AbortPawn → Keeps b p (abort_pawn_step (m A) s b.cells)
  keeps_abort_pawn e =
      let q : place_number s.place ≡ 21 = ap place_number e in
      let l : place_number s.place ≤ 32 = omega arith in
      let past : place_number s.place ≢ 2 = λ d. omega arith in
      cond_both (eqb (lane (word_of b g Pawns) i % 4) 2) None (Some (with_lane (word_of b g Pawns) i (pair s.passage.0 3))) (λ o. Keeps b p (aborted_by o (m A) s b.cells))
      (λ d. late l past q (eqb-true _ _ d)) (λ d. struck l past q (eqb-false _ _ d))

  pub keeps_accept_gate : s.place ≡ AcceptGate → Keeps b p (accept_gate_step (m A) s b.cells)
  keeps_accept_gate e =
      let q : place_number s.place ≡ 27 = ap place_number e in
      let l : place_number s.place ≤ 32 = omega arith in
      let past : place_number s.place ≢ 2 = λ d. omega arith in
      cond_both (within h H (word_of b g SyncOne)) _ _ (Keeps b p) (taken l past q)
      (λ d law ok. absurd (let z : ◌≡◌ {A = ℕ} 0 1 = cc in omega arith))

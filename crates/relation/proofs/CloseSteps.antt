-- The steps at which king and queen meet keep the relation: places 56 and 58. Assumes nothing.
--     climbs_or_leaves, stages, standing   what a poll's acceptance says of the seat's state
--     high_past                            past place 27 a seat occupies what it occupied
--     closes_gate                          a step after which the seat withdraws its application
--     keeps_race_to_close, keeps_clear_sync_one   the step of each place
use Rattle.std.proofs.Common.{◌≡◌, ℕ, ◌+◌, ◌<◌, ◌≤◌, cond, eqb, true, ◌≢◌, ◌⊎◌, List, sym, refl, ap, ◌∙◌, subst, inl, inr, arith}
use Rattle.std.proofs.lemmas.Bool.{cond_both, eqb-true, eqb-false}
use Rattle.std.proofs.lemmas.Bool.Decides.{nat_tests}
use Rattle.layout.specs.Gates.{heights_of, gate_of, way_of}
use Rattle.seats.specs.declared.seat.Seat.{Seat}
use Rattle.seats.specs.declared.state.State.{State}
use Rattle.seats.specs.declared.state.State.TheVariants.{Away, Climbing, Holding, Leaving}
use Rattle.seats.specs.declared.place.Place.{Place}
use Rattle.seats.specs.declared.place.Place.TheVariants.{RaceToClose, ClearSyncOne, ReadSyncTwo}
use Rattle.seats.specs.Lawful.{lawful_open}
use Rattle.seats.specs.Places.{state_number, place_number}
use Rattle.seats.specs.Seats.{goes_to}
use Rattle.steps.specs.declared.cells.Cell.TheVariants.{SyncTwo}
use Rattle.steps.specs.Outcomes.{did, put, closes_in, closes}
use Rattle.steps.specs.HelpRelease.{race_to_close_step, clear_sync_one_step}
use Rattle.lock.specs.States.{BoxState, seat_at}
use Rattle.gate.proofs.Phases.{Phase, idle, solo, pair, clean, free, drain, prom, Stand, Marks, Cells, WayOk, CellsOk}
use Rattle.gate.proofs.Gates.{Nothing, closing, to, syncs_two}
use Rattle.gate.proofs.Moves.{close_first, come_second}
use Rattle.gate.proofs.Turns.{clear_sync_one}
use Rattle.relation.proofs.Views.{word_of, Ghost, stage_in, stands_in, stands_at, low_of, stand_of, reach_of, high_in, high_at}
use Rattle.relation.proofs.Acting.{Acts, Queenly, occupies_own}
use Rattle.relation.proofs.Polls.{Next, live_standing, SyncKept, Known, MoveOf, stand_was, begins}
use Rattle.relation.proofs.GateWords.{Words}
use Rattle.relation.proofs.Writings.{m, c₀, x₀, here, at-gate, cells_ok, way_ok, Writing, writes_nothing, writes-sync-one, writes-sync-two, go, calmly}
use Rattle.relation.proofs.Standing.{stands_climbing, stands_leaving}
use Rattle.relation.proofs.ClimbSteps.{Keeps}

pub climbs_or_leaves : (x : State) → (state_number x ≡ 1) ⊎ (state_number x ≡ 3) → (x ≡ Climbing) ⊎ (x ≡ Leaving)
climbs_or_leaves Away d = absurd (elim d [ inl e ↦ omega arith | inr e ↦ omega arith ])
climbs_or_leaves Climbing d = inl refl
climbs_or_leaves Holding d = absurd (elim d [ inl e ↦ omega arith | inr e ↦ omega arith ])
climbs_or_leaves Leaving d = inr refl

pub stages : (x : State) → (state_number x ≡ 1) ⊎ (state_number x ≡ 3) → (stage_in x ≡ 1) ⊎ (stage_in x ≡ 3)
stages Away d = d
stages Climbing d = d
stages Holding d = d
stages Leaving d = d

pub standing : (s : Seat) → (state_number s.state ≡ 1) ⊎ (state_number s.state ≡ 3) → 48 ≤ place_number s.place → 1 ≤ s.height → stands_at s ≢ 0
standing s d l low =
    elim (climbs_or_leaves s.state d) [
      | inl e ↦ stands_climbing s e (λ q. omega arith) low
      | inr e ↦ stands_leaving s e (λ q. omega arith) low
    ]

reach_past : (w n r v : ℕ) (s : Seat) → 27 < n → reach_of w n r v s ≡ s.height
reach_past w n r v s l = grind (arith, nat_tests)

pub high_past : (x : State) (w r v r' v' : ℕ) (s : Seat) (y : Place) → 27 < place_number s.place → 27 < place_number y → high_in x w r v (goes_to s y) ≡ high_in x w r' v' s
high_past Away w r v r' v' s y l k = refl
high_past Climbing w r v r' v' s y l k =
    reach_past w (place_number y) r v (goes_to s y) k ∙ sym (reach_past w (place_number s.place) r' v' s l)
high_past Holding w r v r' v' s y l k = refl
high_past Leaving w r v r' v' s y l k = refl

closing_place : (x : State) → (x ≡ Climbing) ⊎ (x ≡ Leaving) → place_number (closes_in x) ≡ cond (eqb (stage_in x) 1) 32 48
closing_place Away d = absurd (elim d [ inl e ↦ let q = ap state_number e in omega arith | inr e ↦ let q = ap state_number e in omega arith ])
closing_place Climbing d = refl
closing_place Holding d = absurd (elim d [ inl e ↦ let q = ap state_number e in omega arith | inr e ↦ let q = ap state_number e in omega arith ])
closing_place Leaving d = refl

stands_closing : (x : State) (n h : ℕ) → ((x ≡ Climbing) × (n ≡ 32)) ⊎ ((x ≡ Leaving) × (n ≡ 48)) → stands_in x n h ≡ h
stands_closing x n h d = grind arith

-- who stands at 58 is king or queen, and the other one has closed
second-there : (w h H k q : ℕ) (c : Cells) (i : ℕ) (v : Stand) (x : Marks) → CellsOk w h H (pair k q) c → WayOk h H (pair k q) c i v x → (v.stage ≡ 1) ⊎ (v.stage ≡ 3) → v.place ≡ 58 → ((i ≡ k) × (c.sync_two ≡ q + 1)) ⊎ ((i ≡ q) × (c.sync_two ≡ k + 1))
second-there w h H k q c i v x co wo a p = grind arith

-- so no other way has a queen who waits
queen_closed : (w h H k q : ℕ) (c : Cells) (j : ℕ) (u : Stand) (y : Marks) → CellsOk w h H (pair k q) c → WayOk h H (pair k q) c j u y → ((j ≢ k) × (c.sync_two ≡ q + 1)) ⊎ ((j ≢ q) × (c.sync_two ≡ k + 1)) → Queenly u y → ⊥
queen_closed w h H k q c j u y co wj d z = grind arith

no_other_queen : (w h H : ℕ) (f : Phase) (c : Cells) (i : ℕ) (v : Stand) (x : Marks) → CellsOk w h H f c → WayOk h H f c i v x → (v.stage ≡ 1) ⊎ (v.stage ≡ 3) → v.place ≡ 58 → (j : ℕ) (u : Stand) (y : Marks) → WayOk h H f c j u y → j ≢ i → Queenly u y → ⊥
no_other_queen w h H idle c i v x co wo a e j u y wj n z = grind arith
no_other_queen w h H (solo k) c i v x co wo a e j u y wj n z = grind arith
no_other_queen w h H (pair k q) c i v x co wo a e j u y wj n z =
    elim (second-there w h H k q c i v x co wo a e) [
      | inl d ↦ queen_closed w h H k q c j u y co wj (inl (λ r. n (r ∙ sym d.0), d.1)) z
      | inr d ↦ queen_closed w h H k q c j u y co wj (inr (λ r. n (r ∙ sym d.0), d.1)) z
    ]
no_other_queen w h H (clean r k) c i v x co wo a e j u y wj n z = grind arith
no_other_queen w h H (free r) c i v x co wo a e j u y wj n z = grind arith
no_other_queen w h H (drain r) c i v x co wo a e j u y wj n z = grind arith
no_other_queen w h H (prom r) c i v x co wo a e j u y wj n z = grind arith

module _ {b : BoxState} {G : Ghost} {p : ℕ} (A : Acts b G p (seat_at b p).height) (moves : (state_number (seat_at b p).state ≡ 1) ⊎ (state_number (seat_at b p).state ≡ 3)) where
  abbrev s : Seat
  s = seat_at b p

  abbrev h : ℕ
  h = s.height

  abbrev g : ℕ
  g = gate_of b.ways p h

  abbrev f : Phase
  f = G.phase g

  abbrev w : ℕ
  w = b.ways

  abbrev H : ℕ
  H = heights_of w

  abbrev i : ℕ
  i = way_of w p h

  stage : ((stand_of s).stage ≡ 1) ⊎ ((stand_of s).stage ≡ 3)
  stage = stages s.state moves

  module _ {ws : List ℕ} {x : Words} {c : Cells} {y : Marks} {alter : ℕ → Marks → Marks} (u : Writing A ws x c y alter) (f' : Phase) (E : ℕ → Stand → Marks → Type 0) (sync : SyncKept A x) (known : Known A E) (from : 48 ≤ place_number s.place) (move : MoveOf A f' (stand_of s) (to (closing (stand_of s)) (stand_of s)) c y E alter) where
    n : stands_at s ≢ 0
    n = standing s moves from A.low

    closes_at : (d : Place) → place_number d ≡ closing (stand_of s) → ((s.state ≡ Climbing) × (place_number d ≡ 32)) ⊎ ((s.state ≡ Leaving) × (place_number d ≡ 48)) → lawful_open w (goes_to s d) ≡ true → Next b p (goes_to s d) ws
    closes_at d e q law =
        let oc = occupies_own w (x₀ A).role (c₀ A).sync_one s (A.related.sound.law p A.inside) n in
        let low : low_of s ≤ h = oc.3 in
        let high : h ≤ high_at b p = oc.4 in
        let place : (place_number d ≡ 32) ⊎ (place_number d ≡ 48) = elim q [ inl k ↦ inl k.1 | inr k ↦ inr k.1 ] in
        begins A (goes_to s d) ws f' x u.store c y E alter u.marks sync known (high_at b p) (stand_of s) (stand_was A n)
        (record {
          law = law;
          handed = λ k.
              let r = (A.related.sound.handed p A.inside k).0 in
              (r, elim q [ inl o ↦ absurd (let v = ap state_number o.0 in omega arith) | inr o ↦ let v = o.1 in omega arith ]);
          passage = λ k. (live_standing s n, refl);
          given = A.related.sound.given p A.inside;
          yet = λ k r. (r.0, inl (elim r.1 [ inl o ↦ o | inr o ↦ absurd (let v = o.1 in omega arith) ]));
          late = λ k. absurd (omega arith);
        })
        (stands_closing s.state (place_number d) h q)
        (high_past s.state w (x.role i) x.sync_one (x₀ A).role (c₀ A).sync_one s d (omega arith) (omega arith)) refl
        (record {
          same = λ k a₀ a₁ a₂ a₃ a₄. (a₃, a₄);
          back = λ k a₀ a₁ a₂ a₃ a₄. (a₃, a₄);
          own = λ a₀ a₁. refl;
          own_back = λ a₀. (low, high);
        })
        (subst (λ (k : ℕ). MoveOf A f' (stand_of s) (to k (stand_of s)) c y E alter) (sym e) move)

    pub closes_gate : lawful_open w (goes_to s (closes s)) ≡ true → Next b p (goes_to s (closes s)) ws
    closes_gate =
        elim (climbs_or_leaves s.state moves) [
          | inl d ↦ closes_at (closes s) (closing_place s.state (inl d)) (inl (d, ap (λ k. place_number (closes_in k)) d))
          | inr d ↦ closes_at (closes s) (closing_place s.state (inr d)) (inr (d, ap (λ k. place_number (closes_in k)) d))
        ]

  module _ (q : place_number s.place ≡ 56) where
    at_56 : stands_at s ≢ 0
    at_56 = standing s moves (omega arith) A.low

    first : word_of b g SyncTwo ≡ 0 → Keeps b p (did (put b.cells (m A) SyncTwo ((m A).way.0 + 1)) (goes_to s (closes s)))
    first d law ok =
        let k = close_first w h H f (c₀ A) i (here A) (stand_of s) (x₀ A) (cells_ok A) (way_ok A at_56) stage q d in
        closes_gate (writes-sync-two A (writes_nothing A) (i + 1)) f Nothing (λ j l o r. refl) (λ j l o. tt) (omega arith)
        (calmly A (syncs_two (i + 1) (c₀ A)) (stand_of s) (to (closing (stand_of s)) (stand_of s)) (x₀ A) k) law

    second : word_of b g SyncTwo ≢ 0 → Keeps b p (did b.cells (goes_to s ClearSyncOne))
    second d law ok =
        let k = come_second w h H f (c₀ A) i (here A) (stand_of s) (x₀ A) (cells_ok A) (way_ok A at_56) stage q d in
        go A (writes_nothing A) (goes_to s ClearSyncOne) f Nothing (λ j l o r. refl) (λ j l o. tt) at_56
        (record { law = law; state = refl; height = refl; handed = refl; passage = refl; within = λ r. omega arith; begun = λ r. omega arith; later = λ r. omega arith })
        (high_past s.state w (x₀ A).role (c₀ A).sync_one (x₀ A).role (c₀ A).sync_one s ClearSyncOne (omega arith) (omega arith)) (λ r. absurd (omega arith))
        (calmly A (c₀ A) (stand_of s) (to 58 (stand_of s)) (x₀ A) k)

  pub keeps_race_to_close : s.place ≡ RaceToClose → Keeps b p (race_to_close_step (m A) s b.cells)
  keeps_race_to_close e =
      let q : place_number s.place ≡ 56 = ap place_number e in
      cond_both (eqb (word_of b g SyncTwo) 0) _ _ (Keeps b p) (λ d. first q (eqb-true _ _ d)) (λ d. second q (eqb-false _ _ d))

  pub keeps_clear_sync_one : s.place ≡ ClearSyncOne → Keeps b p (clear_sync_one_step (m A) s b.cells)
  keeps_clear_sync_one e law ok =
      let q : place_number s.place ≡ 58 = ap place_number e in
      let n = standing s moves (omega arith) A.low in
      let k = clear_sync_one w h H f (c₀ A) i (stand_of s) (x₀ A) (here A) (cells_ok A) (way_ok A n) stage q in
      go A (writes-sync-one A (writes_nothing A) 0) (goes_to s ReadSyncTwo) k.0 Nothing
      (λ j l o r. absurd (no_other_queen w h H f (c₀ A) i (stand_of s) (x₀ A) (cells_ok A) (way_ok A n) stage q j _ _ ((at-gate A).gate.ways j l) o r))
      (λ j l o. tt) n
      (record { law = law; state = refl; height = refl; handed = refl; passage = refl; within = λ r. omega arith; begun = λ r. omega arith; later = λ r. omega arith })
      (high_past s.state w (x₀ A).role 0 (x₀ A).role (c₀ A).sync_one s ReadSyncTwo (omega arith) (omega arith)) (λ r. absurd (omega arith)) k.1

-- Every step of a lawful seat leaves a lawful seat. Assumes nothing.
--     lawful-step  for every place, over a pawn word of 64 bits
use Rattle.std.proofs.Common.{◌≡◌, ℕ, zero, suc, ◌+◌, ◌/◌, ◌%◌, ◌^◌, ◌<◌, ◌≤◌, true, false, cond, eqb, ltb, leb, ◌≢◌, ◌⊎◌, List, length, get_or, set, Some, None, Ok, Option, refl, ap, ◌∙◌, inl, inr, ⊎_elim, arith}
use Rattle.std.proofs.lemmas.List.{get_or-set_same, get_or-set_other, set_past}
use Rattle.std.proofs.lemmas.Bool.{cases_eq, cases_lt, cond_both, and_parts, leb-true, ltb-true, eqb-true, eqb-false}
use Rattle.std.proofs.lemmas.Bool.Decides.{nat_tests}
use Rattle.layout.specs.declared.ids.WayId.{WayId}
use Rattle.layout.specs.declared.ids.Passage.{Passage}
use Rattle.layout.specs.declared.path.Meeting.{Meeting}
use Rattle.layout.specs.Gates.{heights_of}
use Rattle.seats.specs.declared.seat.Seat.{Seat}
use Rattle.seats.specs.declared.place.Place.{Place}
use Rattle.seats.specs.declared.place.Place.TheVariants.{Rest, ClaimApply, RaceForRole, AwaitPromotion, RecheckCount, AwaitKing, MarkApply, CloseApply, AbortPawn, AbortQueen, AcceptGate, WithdrawApply, ReadRole, OpenAlone, HandOver, ReadApply, ClearApply, ScanApply, CollectPawns, RaceToClose, ClearSyncOne, ReadSyncTwo, ClearSyncTwo, StrikeOut, StrikeSelf, PromotePawn, ResetPawns, OpenGate, MarkPromoted}
use Rattle.seats.specs.declared.state.State.TheVariants.{Climbing, Holding, Leaving}
use Rattle.seats.specs.Lawful.{lawful_open}
use Rattle.seats.specs.Places.{state_number, place_number, within}
use Rattle.seats.specs.Seats.{moved, goes_to, backed_out, aims, away, scans, notes}
use Rattle.steps.specs.declared.cells.Cell.TheVariants.{Pawns, SyncOne, Apply}
use Rattle.steps.specs.declared.codes.Coin.{Coin}
use Rattle.steps.specs.Outcomes.{Outcome, word, captured}
use Rattle.steps.specs.Pawns.{abort_of, lane, waits, promoted_lane, promote_of}
use Rattle.steps.specs.Abort.{aborted_by, accept_gate_step}
use Rattle.steps.specs.Collect.{waiting, scan_apply_step}
use Rattle.steps.specs.Promote.{promotes}
use Rattle.steps.specs.Polls.{step_of}

-- what a step starts from
pub record Steps (m : Meeting) (x : Place) (s : Seat) (ws : List ℕ) : Type 0 where
  pub few : 2 ≤ m.ways
  pub most : m.ways ≤ 4
  pub place : s.place ≡ x
  pub moves : (state_number s.state ≡ 1) ⊎ (state_number s.state ≡ 3)
  pub law : lawful_open m.ways s ≡ true
  pub fits : word ws m Pawns < 2 ^ 64

-- a seat that has won up to a height a, in each of the three ways that a capture can end
module _ (w : ℕ) (s : Seat) (few : 2 ≤ w) (law : lawful_open w s ≡ true) (state : s.state ≡ Climbing) (low : 1 ≤ s.aim) (high : s.aim ≤ heights_of w) where
  won_holding : s.aim ≡ heights_of w → lawful_open w (moved s Holding Rest s.aim s.aim) ≡ true
  won_holding e = grind (arith, nat_tests)

  won_climbing : s.aim ≢ heights_of w → s.gave_up ≡ false → lawful_open w (moved s Climbing ClaimApply (s.aim + 1) s.aim) ≡ true
  won_climbing e g = grind (arith, nat_tests)

  won_leaving : lawful_open w (moved s Leaving ReadRole 1 s.aim) ≡ true
  won_leaving = grind (arith, nat_tests)

  won_lawful : lawful_open w (cond (eqb s.aim (heights_of w)) (moved s Holding Rest s.aim s.aim) (cond s.gave_up (backed_out (moved s s.state s.place s.height s.aim)) (moved s Climbing ClaimApply (s.aim + 1) s.aim))) ≡ true
  won_lawful =
      let P : Seat → Type 0 = λ t. lawful_open w t ≡ true in
      cond_both (eqb s.aim (heights_of w)) _ _ P (λ e. won_holding (eqb-true _ _ e))
      (λ e.
      cond_both s.gave_up _ _ P
      (λ g. cond_both (eqb s.aim 0) away (moved s Leaving ReadRole 1 s.aim) P (λ z. refl) (λ z. won_leaving))
      (λ g. won_climbing (eqb-false _ _ e) g))

pub lawful-captured : (m : Meeting) (s : Seat) → 2 ≤ m.ways → lawful_open m.ways s ≡ true → s.state ≡ Climbing → 1 ≤ s.aim → s.aim ≤ heights_of m.ways → lawful_open m.ways (captured m s) ≡ true
lawful-captured m s few law state low high = won_lawful m.ways s few law state low high

-- away from place 16 the aim may be any height
aims-lawful : (w a : ℕ) (s : Seat) → lawful_open w s ≡ true → s.state ≡ Climbing → a ≤ heights_of w → place_number s.place ≢ 16 → lawful_open w (aims s a) ≡ true
aims-lawful w a s law state l p = grind (arith, nat_tests)

climber-facts : (w : ℕ) (s : Seat) → lawful_open w s ≡ true → s.state ≡ Climbing → (1 ≤ s.height) × (s.height ≤ heights_of w) × (s.aim ≤ heights_of w) × (place_number s.place ≡ 16 → s.height ≤ s.aim)
climber-facts w s law state = (grind (arith, nat_tests), grind (arith, nat_tests), grind (arith, nat_tests), grind (arith, nat_tests))

-- of a place that only climbing seats have
climbs-at : (w : ℕ) (s : Seat) → lawful_open w s ≡ true → (state_number s.state ≡ 1) ⊎ (state_number s.state ≡ 3) → place_number s.place ≤ 32 → s.state ≡ Climbing
climbs-at w s law y l = grind (arith, nat_tests)

backed_lawful : (w : ℕ) (s : Seat) → lawful_open w s ≡ true → s.state ≡ Climbing → s.top ≢ 0 → lawful_open w (moved s Leaving ReadRole 1 s.top) ≡ true
backed_lawful w s law state z = grind (arith, nat_tests)

pub lawful-backed : (w : ℕ) (s : Seat) → lawful_open w s ≡ true → s.state ≡ Climbing → lawful_open w (backed_out s) ≡ true
lawful-backed w s law state =
    cond_both (eqb s.top 0) away (moved s Leaving ReadRole 1 s.top) (λ t. lawful_open w t ≡ true) (λ z. refl) (λ z. backed_lawful w s law state (eqb-false _ _ z))

set-bound : (xs : List ℕ) (j n k b : ℕ) → n ≤ b → get_or xs k 0 ≤ b → get_or (set xs j n) k 0 ≤ b
set-bound xs j n k b l h =
    ⊎_elim
    (λ (e : k ≡ j).
    ⊎_elim (λ (i : j < length xs). let q = get_or-set_same xs j n 0 i in let r : get_or (set xs j n) k 0 ≡ n = ap (λ a. get_or (set xs j n) a 0) e ∙ q in omega (arith, r))
    (λ (i : length xs ≤ j). let q : get_or (set xs j n) k 0 ≡ get_or xs k 0 = ap (λ ys. get_or ys k 0) (set_past xs j n i) in omega (arith, q)) (cases_lt j (length xs)))
    (λ (ne : k ≡ j → ⊥). let q = get_or-set_other xs j k n 0 ne in omega (arith, q)) (cases_eq k j)

waiting-bound : (x : ℕ) → waiting x ≤ 16383
waiting-bound x = grind (arith, nat_tests)

notes-bound : (w : ℕ) (s : Seat) → lawful_open w s ≡ true → state_number s.state ≢ 0 → (get_or s.noted 0 0 ≤ 16383) × (get_or s.noted 1 0 ≤ 16383) × (get_or s.noted 2 0 ≤ 16383) × (get_or s.noted 3 0 ≤ 16383)
notes-bound w s law z = (grind (arith, nat_tests), grind (arith, nat_tests), grind (arith, nat_tests), grind (arith, nat_tests))

noted_lawful : (w j : ℕ) (s : Seat) (ns : List ℕ) → lawful_open w s ≡ true → (state_number s.state ≡ 1) ⊎ (state_number s.state ≡ 3) → j < w → get_or ns 0 0 ≤ 16383 → get_or ns 1 0 ≤ 16383 → get_or ns 2 0 ≤ 16383 → get_or ns 3 0 ≤ 16383 → lawful_open w (scans (notes s ns) j) ≡ true
noted_lawful w j s ns law y l a b c d = elim y [ inl e ↦ grind (arith, nat_tests) | inr e ↦ grind (arith, nat_tests) ]

collect_lawful : (w : ℕ) (s : Seat) → lawful_open w s ≡ true → state_number s.state ≢ 0 → s.place ≡ ScanApply → lawful_open w (goes_to s CollectPawns) ≡ true
collect_lawful w s law z p = grind (arith, nat_tests)

-- who is promoted is one of the ways, with a number that fits
Bounded : ℕ → Option (WayId × Passage) → Type 0
Bounded ways None = Unit {0}
Bounded ways (Some (j, n)) = (j.0 < ways) × (n.0 ≤ 16383)

lane_bound : (x i : ℕ) → x < 2 ^ 64 → lane x i / 4 ≤ 16383
lane_bound x zero l = omega arith
lane_bound x (suc zero) l = omega arith
lane_bound x (suc (suc zero)) l = omega arith
lane_bound x (suc (suc (suc zero))) l = omega arith
lane_bound x (suc (suc (suc (suc i)))) l = omega arith

promoted_bound : (x ways : ℕ) → x < 2 ^ 64 → Bounded ways (promote_of x ways)
unfolding Bounded
promoted_bound x ways l =
    let P : Option ℕ → Type 0 = λ o. Bounded ways (promoted_lane x o) in
    let at : (i : ℕ) → waits x ways i ≡ true → Bounded ways (promoted_lane x (Some i)) =
    λ i e. (ltb-true i ways (and_parts (ltb i ways) (eqb (lane x i % 4) 1) e).0, lane_bound x i l) in
    cond_both (waits x ways 0) _ _ P (at 0)
    (λ _. cond_both (waits x ways 1) _ _ P (at 1) (λ _. cond_both (waits x ways 2) _ _ P (at 2) (λ _. cond_both (waits x ways 3) _ _ P (at 3) (λ _. tt))))

promotes-lawful : (w : ℕ) (s : Seat) (o : Option (WayId × Passage)) → lawful_open w s ≡ true → state_number s.state ≢ 0 → s.place ≡ PromotePawn → Bounded w o → lawful_open w (promotes o s) ≡ true
unfolding Bounded
promotes-lawful w s None law z p b = grind (arith, nat_tests)
promotes-lawful w s (Some (j, n)) law z p b = grind (arith, nat_tests)

scan_bound : (w : ℕ) (s : Seat) → lawful_open w s ≡ true → state_number s.state ≢ 0 → s.scan.0 < w
scan_bound w s law z = grind (arith, nat_tests)

-- the places that capture, back out, scan and promote
aborted_lawful : (o : Option ℕ) (m : Meeting) (s : Seat) (ws : List ℕ) → Steps m AbortPawn s ws → s.state ≡ Climbing → lawful_open m.ways (aborted_by o m s ws).seat ≡ true
aborted_lawful None m s ws f e =
    let q = climber-facts m.ways s f.law e in
    let p : place_number s.place ≢ 16 = λ z. let r = f.place in grind arith in
    lawful-captured m (aims s s.height) f.few (aims-lawful m.ways s.height s f.law e q.1 p) e q.0 q.1
aborted_lawful (Some x) m s ws f e = let r = f.place in grind (arith, nat_tests)

accepted_lawful : (m : Meeting) (s : Seat) (ws : List ℕ) → Steps m AcceptGate s ws → s.state ≡ Climbing → (accept_gate_step m s ws).answer ≡ Ok tt → lawful_open m.ways (accept_gate_step m s ws).seat ≡ true
accepted_lawful m s ws f e =
    let q = climber-facts m.ways s f.law e in
    let p : place_number s.place ≢ 16 = λ z. let r = f.place in grind arith in
    let v = word ws m SyncOne in
    cond_both (within s.height (heights_of m.ways) v) _ _ (λ (o : Outcome (Unit {0})). o.answer ≡ Ok tt → lawful_open m.ways o.seat ≡ true)
    (λ i k.
    let b = and_parts (leb s.height v) (leb v (heights_of m.ways)) i in
    let l : v ≤ heights_of m.ways = leb-true _ _ b.1 in
    let h : s.height ≤ v = leb-true _ _ b.0 in
    lawful-captured m (aims s v) f.few (aims-lawful m.ways v s f.law e l p) e (omega (arith, q.0, h)) l)
    (λ i k. let z : ◌≡◌ {A = ℕ} 0 1 = cc in absurd (omega arith))

scanned_lawful : (m : Meeting) (s : Seat) (ws : List ℕ) → Steps m ScanApply s ws → lawful_open m.ways (scan_apply_step m s ws).seat ≡ true
scanned_lawful m s ws f =
    let w = m.ways in
    let z : state_number s.state ≢ 0 = λ e. let y = f.moves in grind arith in
    let b = notes-bound w s f.law z in
    let n = waiting (word ws m (Apply s.scan)) in
    let l = waiting-bound (word ws m (Apply s.scan)) in
    let ns : List ℕ = set s.noted s.scan.0 n in
    let at : (j : ℕ) → j < w → lawful_open w (scans (notes s ns) j) ≡ true =
    λ j h. noted_lawful w j s ns f.law f.moves h (set-bound s.noted s.scan.0 n 0 16383 l b.0) (set-bound s.noted s.scan.0 n 1 16383 l b.1) (set-bound s.noted s.scan.0 n 2 16383 l b.2) (set-bound s.noted s.scan.0 n 3 16383 l b.3) in
    let below : s.scan.0 < w = scan_bound w s f.law z in
    cond_both (eqb (s.scan.0 + 1) w) _ _ (λ (o : Outcome (Unit {0})). lawful_open w o.seat ≡ true)
    (λ e. collect_lawful w (scans (notes s ns) 0) (at 0 (omega (arith, f.few))) z f.place)
    (λ e. let ne = eqb-false _ _ e in at (s.scan.0 + 1) (omega (arith, below, ne)))

step-Rest : (c : Coin) (m : Meeting) (s : Seat) (ws : List ℕ) → Steps m Rest s ws → (step_of Rest c m s ws).answer ≡ Ok tt → lawful_open m.ways (step_of Rest c m s ws).seat ≡ true
step-Rest c m s ws f k = elim f.moves [ inl e ↦ grind (arith, nat_tests) | inr e ↦ grind (arith, nat_tests) ]

step-ClaimApply : (c : Coin) (m : Meeting) (s : Seat) (ws : List ℕ) → Steps m ClaimApply s ws → (step_of ClaimApply c m s ws).answer ≡ Ok tt → lawful_open m.ways (step_of ClaimApply c m s ws).seat ≡ true
step-ClaimApply c m s ws f k = elim f.moves [ inl e ↦ grind (arith, nat_tests) | inr e ↦ grind (arith, nat_tests) ]

step-RaceForRole : (c : Coin) (m : Meeting) (s : Seat) (ws : List ℕ) → Steps m RaceForRole s ws → (step_of RaceForRole c m s ws).answer ≡ Ok tt → lawful_open m.ways (step_of RaceForRole c m s ws).seat ≡ true
step-RaceForRole c m s ws f k = elim f.moves [ inl e ↦ grind (arith, nat_tests) | inr e ↦ grind (arith, nat_tests) ]

step-AwaitPromotion : (c : Coin) (m : Meeting) (s : Seat) (ws : List ℕ) → Steps m AwaitPromotion s ws → (step_of AwaitPromotion c m s ws).answer ≡ Ok tt → lawful_open m.ways (step_of AwaitPromotion c m s ws).seat ≡ true
step-AwaitPromotion c m s ws f k = elim f.moves [ inl e ↦ grind (arith, nat_tests) | inr e ↦ grind (arith, nat_tests) ]

step-RecheckCount : (c : Coin) (m : Meeting) (s : Seat) (ws : List ℕ) → Steps m RecheckCount s ws → (step_of RecheckCount c m s ws).answer ≡ Ok tt → lawful_open m.ways (step_of RecheckCount c m s ws).seat ≡ true
step-RecheckCount c m s ws f k = elim f.moves [ inl e ↦ grind (arith, nat_tests) | inr e ↦ grind (arith, nat_tests) ]

step-AwaitKing : (c : Coin) (m : Meeting) (s : Seat) (ws : List ℕ) → Steps m AwaitKing s ws → (step_of AwaitKing c m s ws).answer ≡ Ok tt → lawful_open m.ways (step_of AwaitKing c m s ws).seat ≡ true
step-AwaitKing c m s ws f k = elim f.moves [ inl e ↦ grind (arith, nat_tests) | inr e ↦ grind (arith, nat_tests) ]

step-MarkApply : (c : Coin) (m : Meeting) (s : Seat) (ws : List ℕ) → Steps m MarkApply s ws → (step_of MarkApply c m s ws).answer ≡ Ok tt → lawful_open m.ways (step_of MarkApply c m s ws).seat ≡ true
step-MarkApply c m s ws f k =
    let e = climbs-at m.ways s f.law f.moves (let r = f.place in grind arith) in
    let q = climber-facts m.ways s f.law e in
    let p : place_number s.place ≡ 16 = (let r = f.place in grind arith) in
    lawful-captured m s f.few f.law e (omega (arith, q.0, q.3 p)) q.2

step-CloseApply : (c : Coin) (m : Meeting) (s : Seat) (ws : List ℕ) → Steps m CloseApply s ws → (step_of CloseApply c m s ws).answer ≡ Ok tt → lawful_open m.ways (step_of CloseApply c m s ws).seat ≡ true
step-CloseApply c m s ws f k = elim f.moves [ inl e ↦ grind (arith, nat_tests) | inr e ↦ grind (arith, nat_tests) ]

step-AbortPawn : (c : Coin) (m : Meeting) (s : Seat) (ws : List ℕ) → Steps m AbortPawn s ws → (step_of AbortPawn c m s ws).answer ≡ Ok tt → lawful_open m.ways (step_of AbortPawn c m s ws).seat ≡ true
step-AbortPawn c m s ws f k =
    let e = climbs-at m.ways s f.law f.moves (let r = f.place in grind arith) in
    aborted_lawful (abort_of (word ws m Pawns) m.way.0 s.passage.0) m s ws f e

step-AbortQueen : (c : Coin) (m : Meeting) (s : Seat) (ws : List ℕ) → Steps m AbortQueen s ws → (step_of AbortQueen c m s ws).answer ≡ Ok tt → lawful_open m.ways (step_of AbortQueen c m s ws).seat ≡ true
step-AbortQueen c m s ws f k = elim f.moves [ inl e ↦ grind (arith, nat_tests) | inr e ↦ grind (arith, nat_tests) ]

step-AcceptGate : (c : Coin) (m : Meeting) (s : Seat) (ws : List ℕ) → Steps m AcceptGate s ws → (step_of AcceptGate c m s ws).answer ≡ Ok tt → lawful_open m.ways (step_of AcceptGate c m s ws).seat ≡ true
step-AcceptGate c m s ws f k =
    let e = climbs-at m.ways s f.law f.moves (let r = f.place in grind arith) in accepted_lawful m s ws f e k

step-WithdrawApply : (c : Coin) (m : Meeting) (s : Seat) (ws : List ℕ) → Steps m WithdrawApply s ws → (step_of WithdrawApply c m s ws).answer ≡ Ok tt → lawful_open m.ways (step_of WithdrawApply c m s ws).seat ≡ true
step-WithdrawApply c m s ws f k =
    let e = climbs-at m.ways s f.law f.moves (let r = f.place in grind arith) in lawful-backed m.ways s f.law e

step-ReadRole : (c : Coin) (m : Meeting) (s : Seat) (ws : List ℕ) → Steps m ReadRole s ws → (step_of ReadRole c m s ws).answer ≡ Ok tt → lawful_open m.ways (step_of ReadRole c m s ws).seat ≡ true
step-ReadRole c m s ws f k = elim f.moves [ inl e ↦ grind (arith, nat_tests) | inr e ↦ grind (arith, nat_tests) ]

step-OpenAlone : (c : Coin) (m : Meeting) (s : Seat) (ws : List ℕ) → Steps m OpenAlone s ws → (step_of OpenAlone c m s ws).answer ≡ Ok tt → lawful_open m.ways (step_of OpenAlone c m s ws).seat ≡ true
step-OpenAlone c m s ws f k = elim f.moves [ inl e ↦ grind (arith, nat_tests) | inr e ↦ grind (arith, nat_tests) ]

step-HandOver : (c : Coin) (m : Meeting) (s : Seat) (ws : List ℕ) → Steps m HandOver s ws → (step_of HandOver c m s ws).answer ≡ Ok tt → lawful_open m.ways (step_of HandOver c m s ws).seat ≡ true
step-HandOver c m s ws f k = elim f.moves [ inl e ↦ grind (arith, nat_tests) | inr e ↦ grind (arith, nat_tests) ]

step-ReadApply : (c : Coin) (m : Meeting) (s : Seat) (ws : List ℕ) → Steps m ReadApply s ws → (step_of ReadApply c m s ws).answer ≡ Ok tt → lawful_open m.ways (step_of ReadApply c m s ws).seat ≡ true
step-ReadApply c m s ws f k = elim f.moves [ inl e ↦ grind (arith, nat_tests) | inr e ↦ grind (arith, nat_tests) ]

step-ClearApply : (c : Coin) (m : Meeting) (s : Seat) (ws : List ℕ) → Steps m ClearApply s ws → (step_of ClearApply c m s ws).answer ≡ Ok tt → lawful_open m.ways (step_of ClearApply c m s ws).seat ≡ true
step-ClearApply c m s ws f k = elim f.moves [ inl e ↦ grind (arith, nat_tests) | inr e ↦ grind (arith, nat_tests) ]

step-ScanApply : (c : Coin) (m : Meeting) (s : Seat) (ws : List ℕ) → Steps m ScanApply s ws → (step_of ScanApply c m s ws).answer ≡ Ok tt → lawful_open m.ways (step_of ScanApply c m s ws).seat ≡ true
step-ScanApply c m s ws f k = scanned_lawful m s ws f

step-CollectPawns : (c : Coin) (m : Meeting) (s : Seat) (ws : List ℕ) → Steps m CollectPawns s ws → (step_of CollectPawns c m s ws).answer ≡ Ok tt → lawful_open m.ways (step_of CollectPawns c m s ws).seat ≡ true
step-CollectPawns c m s ws f k = elim f.moves [ inl e ↦ grind (arith, nat_tests) | inr e ↦ grind (arith, nat_tests) ]

step-RaceToClose : (c : Coin) (m : Meeting) (s : Seat) (ws : List ℕ) → Steps m RaceToClose s ws → (step_of RaceToClose c m s ws).answer ≡ Ok tt → lawful_open m.ways (step_of RaceToClose c m s ws).seat ≡ true
step-RaceToClose c m s ws f k = elim f.moves [ inl e ↦ grind (arith, nat_tests) | inr e ↦ grind (arith, nat_tests) ]

step-ClearSyncOne : (c : Coin) (m : Meeting) (s : Seat) (ws : List ℕ) → Steps m ClearSyncOne s ws → (step_of ClearSyncOne c m s ws).answer ≡ Ok tt → lawful_open m.ways (step_of ClearSyncOne c m s ws).seat ≡ true
step-ClearSyncOne c m s ws f k = elim f.moves [ inl e ↦ grind (arith, nat_tests) | inr e ↦ grind (arith, nat_tests) ]

step-ReadSyncTwo : (c : Coin) (m : Meeting) (s : Seat) (ws : List ℕ) → Steps m ReadSyncTwo s ws → (step_of ReadSyncTwo c m s ws).answer ≡ Ok tt → lawful_open m.ways (step_of ReadSyncTwo c m s ws).seat ≡ true
step-ReadSyncTwo c m s ws f k = elim f.moves [ inl e ↦ grind (arith, nat_tests) | inr e ↦ grind (arith, nat_tests) ]

step-ClearSyncTwo : (c : Coin) (m : Meeting) (s : Seat) (ws : List ℕ) → Steps m ClearSyncTwo s ws → (step_of ClearSyncTwo c m s ws).answer ≡ Ok tt → lawful_open m.ways (step_of ClearSyncTwo c m s ws).seat ≡ true
step-ClearSyncTwo c m s ws f k = elim f.moves [ inl e ↦ grind (arith, nat_tests) | inr e ↦ grind (arith, nat_tests) ]

step-StrikeOut : (c : Coin) (m : Meeting) (s : Seat) (ws : List ℕ) → Steps m StrikeOut s ws → (step_of StrikeOut c m s ws).answer ≡ Ok tt → lawful_open m.ways (step_of StrikeOut c m s ws).seat ≡ true
step-StrikeOut c m s ws f k = elim f.moves [ inl e ↦ grind (arith, nat_tests) | inr e ↦ grind (arith, nat_tests) ]

step-StrikeSelf : (c : Coin) (m : Meeting) (s : Seat) (ws : List ℕ) → Steps m StrikeSelf s ws → (step_of StrikeSelf c m s ws).answer ≡ Ok tt → lawful_open m.ways (step_of StrikeSelf c m s ws).seat ≡ true
step-StrikeSelf c m s ws f k = elim f.moves [ inl e ↦ grind (arith, nat_tests) | inr e ↦ grind (arith, nat_tests) ]

step-PromotePawn : (c : Coin) (m : Meeting) (s : Seat) (ws : List ℕ) → Steps m PromotePawn s ws → (step_of PromotePawn c m s ws).answer ≡ Ok tt → lawful_open m.ways (step_of PromotePawn c m s ws).seat ≡ true
step-PromotePawn c m s ws f k =
    promotes-lawful m.ways s (promote_of (word ws m Pawns) m.ways) f.law (λ e. let y = f.moves in grind arith) f.place (promoted_bound (word ws m Pawns) m.ways f.fits)

step-ResetPawns : (c : Coin) (m : Meeting) (s : Seat) (ws : List ℕ) → Steps m ResetPawns s ws → (step_of ResetPawns c m s ws).answer ≡ Ok tt → lawful_open m.ways (step_of ResetPawns c m s ws).seat ≡ true
step-ResetPawns c m s ws f k = elim f.moves [ inl e ↦ grind (arith, nat_tests) | inr e ↦ grind (arith, nat_tests) ]

step-OpenGate : (c : Coin) (m : Meeting) (s : Seat) (ws : List ℕ) → Steps m OpenGate s ws → (step_of OpenGate c m s ws).answer ≡ Ok tt → lawful_open m.ways (step_of OpenGate c m s ws).seat ≡ true
step-OpenGate c m s ws f k = elim f.moves [ inl e ↦ grind (arith, nat_tests) | inr e ↦ grind (arith, nat_tests) ]

step-MarkPromoted : (c : Coin) (m : Meeting) (s : Seat) (ws : List ℕ) → Steps m MarkPromoted s ws → (step_of MarkPromoted c m s ws).answer ≡ Ok tt → lawful_open m.ways (step_of MarkPromoted c m s ws).seat ≡ true
step-MarkPromoted c m s ws f k = elim f.moves [ inl e ↦ grind (arith, nat_tests) | inr e ↦ grind (arith, nat_tests) ]

pub lawful-step : (x : Place) (c : Coin) (m : Meeting) (s : Seat) (ws : List ℕ) → Steps m x s ws → (step_of x c m s ws).answer ≡ Ok tt → lawful_open m.ways (step_of x c m s ws).seat ≡ true
lawful-step Rest c m s ws f k = step-Rest c m s ws f k
lawful-step ClaimApply c m s ws f k = step-ClaimApply c m s ws f k
lawful-step RaceForRole c m s ws f k = step-RaceForRole c m s ws f k
lawful-step AwaitPromotion c m s ws f k = step-AwaitPromotion c m s ws f k
lawful-step RecheckCount c m s ws f k = step-RecheckCount c m s ws f k
lawful-step AwaitKing c m s ws f k = step-AwaitKing c m s ws f k
lawful-step MarkApply c m s ws f k = step-MarkApply c m s ws f k
lawful-step CloseApply c m s ws f k = step-CloseApply c m s ws f k
lawful-step AbortPawn c m s ws f k = step-AbortPawn c m s ws f k
lawful-step AbortQueen c m s ws f k = step-AbortQueen c m s ws f k
lawful-step AcceptGate c m s ws f k = step-AcceptGate c m s ws f k
lawful-step WithdrawApply c m s ws f k = step-WithdrawApply c m s ws f k
lawful-step ReadRole c m s ws f k = step-ReadRole c m s ws f k
lawful-step OpenAlone c m s ws f k = step-OpenAlone c m s ws f k
lawful-step HandOver c m s ws f k = step-HandOver c m s ws f k
lawful-step ReadApply c m s ws f k = step-ReadApply c m s ws f k
lawful-step ClearApply c m s ws f k = step-ClearApply c m s ws f k
lawful-step ScanApply c m s ws f k = step-ScanApply c m s ws f k
lawful-step CollectPawns c m s ws f k = step-CollectPawns c m s ws f k
lawful-step RaceToClose c m s ws f k = step-RaceToClose c m s ws f k
lawful-step ClearSyncOne c m s ws f k = step-ClearSyncOne c m s ws f k
lawful-step ReadSyncTwo c m s ws f k = step-ReadSyncTwo c m s ws f k
lawful-step ClearSyncTwo c m s ws f k = step-ClearSyncTwo c m s ws f k
lawful-step StrikeOut c m s ws f k = step-StrikeOut c m s ws f k
lawful-step StrikeSelf c m s ws f k = step-StrikeSelf c m s ws f k
lawful-step PromotePawn c m s ws f k = step-PromotePawn c m s ws f k
lawful-step ResetPawns c m s ws f k = step-ResetPawns c m s ws f k
lawful-step OpenGate c m s ws f k = step-OpenGate c m s ws f k
lawful-step MarkPromoted c m s ws f k = step-MarkPromoted c m s ws f k

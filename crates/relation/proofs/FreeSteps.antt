-- The steps of a seat that collects, frees a gate, and promotes keep the relation. Assumes nothing.
--     Walks, walk             a seat past the race for a gate goes to another place of it
--     relisted                the pawn word with another state for one way
--     remove_marks, raise_marks, collect_marks   what a strike-out, a promotion and a collect make of the marks
--     late                    the number that a promoter keeps is that of nobody who has yet to enter the way
--     closes_walk             a seat that is done with the gate goes on to withdraw its application
--     keeps_scan_apply        place 52; keeps_collect_pawns 55
--     keeps_read_sync_two     59; keeps_clear_sync_two 60; keeps_strike_out 61
--     keeps_strike_self       64; keeps_promote_pawn 65; keeps_reset_pawns 67; keeps_open_gate 68; keeps_mark_promoted 70
use Rattle.std.proofs.Common.{◌≡◌, ℕ, zero, suc, ◌+◌, ◌-◌, ◌*◌, ◌/◌, ◌%◌, ◌^◌, ◌<◌, ◌≤◌, Bool, true, false, cond, eqb, ltb, ◌≢◌, ◌⊎◌, List, length, get_or, set, Some, None, Option, sym, refl, ap, ◌∙◌, subst, inl, inr, arith}
use native.Mathlib.Decide.{ℕ_discrete}
use Rattle.std.proofs.lemmas.List.{get_or-set_same, get_or-set_other, set_past, get_or_past}
use Rattle.std.proofs.lemmas.Bool.{cond_both, eq-eqb, ne_eqb, eqb-true, eqb-false, ltb-true, ltb-false, and_parts, cases_lt}
use Rattle.std.proofs.lemmas.Bool.Decides.{nat_tests}
use Rattle.layout.specs.Gates.{heights_of, gate_of, way_of}
use Rattle.seats.specs.declared.seat.Seat.{Seat}
use Rattle.seats.specs.declared.place.Place.{Place}
use Rattle.seats.specs.declared.place.Place.TheVariants.{ReadSyncTwo, ClearSyncTwo, StrikeOut, StrikeSelf, PromotePawn, ResetPawns, OpenGate, MarkPromoted, ScanApply, CollectPawns, RaceToClose}
use Rattle.seats.specs.Lawful.{lawful_open}
use Rattle.seats.specs.Places.{state_number, place_number, within}
use Rattle.seats.specs.Seats.{goes_to, keeps_for, scans, notes}
use Rattle.steps.specs.declared.cells.Cell.TheVariants.{Count, SyncOne, SyncTwo, Pawns, Apply, Role}
use Rattle.steps.specs.Outcomes.{Outcome, did, word, put, closes}
use Rattle.steps.specs.Collect.{waiting, scan_apply_step, collect_pawns_step}
use Rattle.steps.specs.HelpRelease.{read_sync_two_step, clear_sync_two_step, strike_out_step}
use Rattle.steps.specs.Promote.{strike_self_step, promotes, promote_pawn_step, reset_pawns_step, open_gate_step, mark_promoted_step}
use Rattle.steps.specs.Codes.{pair as word_pair, reg, pro}
use Rattle.steps.specs.Pawns.{lane, with_lane, waits, first_waiting_way, promote_lane, promoted_lane, remove_word, collect_lane, collect_at, collect_word, Notable}
use Rattle.lock.specs.States.{BoxState, seat_at}
use Rattle.gate.proofs.Phases.{Phase, idle, solo, pair, clean, free, drain, prom, Stand, Marks, Cells, Plain, WayOk, CellsOk}
use Rattle.gate.proofs.Gates.{Nothing, to, applies, lists, counts, scanning, closing}
use Rattle.gate.proofs.Turns.{struck, raised, told, promote_nobody, promote_pawn, collected, collect_pawns, scan_apply, strike_out, strike_self, reset_pawns, open_gate, mark_promoted}
use Rattle.gate.proofs.Moves.{read_sync_two, clear_sync_two}
use Rattle.relation.proofs.PawnLaws.{lane-fits, lane-same, lane-other, with_fits, lanes-collect, collect_fits}
use Rattle.relation.proofs.Views.{word_of, marks_at, Ghost, stands_at, stand_of, stand_at, low_of, high_of, high_at}
use Rattle.relation.proofs.Relation.{YetAt, Late}
use Rattle.relation.proofs.GateWords.{Words, words_of, marks_in}
use Rattle.relation.proofs.Acting.{Acts, way_inside, stand-here, occupies_own}
use Rattle.relation.proofs.Polls.{Next, SyncKept, Known, MoveOf, stand_was, live_standing, after-move}
use Rattle.relation.proofs.Writings.{m, c₀, x₀, here, cells_ok, way_ok, Writing, writes_nothing, writes-count, writes-sync-two, writes-pawns, writes-told, writes_as, at-gate, calmly}
use Rattle.relation.proofs.Standing.{stander}
use Rattle.relation.proofs.ClimbSteps.{Keeps}

-- the pairs of a pawn word: those of 0 are 0, and one way struck out or promoted leaves the others
lane_zero : (i : ℕ) → lane 0 i ≡ 0
lane_zero zero = refl
lane_zero (suc zero) = refl
lane_zero (suc (suc zero)) = refl
lane_zero (suc (suc (suc zero))) = refl
lane_zero (suc (suc (suc (suc i)))) = refl

lists-same : (a a' n n' : ℕ) (y : Marks) → a ≡ a' → n ≡ n' → lists a n y ≡ lists a' n' y
lists-same a a' n n' y e d = λ z. lists (e z) (d z) y

-- another state for the pair of way k
relisted : (n k x a : ℕ) → k < 4 → x < 65536 → x % 4 ≡ a → x / 4 ≡ lane n k / 4 → (j : ℕ) (y : Marks) → y.listed ≡ lane n j % 4 → y.listing ≡ lane n j / 4 → lists (lane (with_lane n k x) j % 4) (lane (with_lane n k x) j / 4) y ≡ cond (eqb j k) (lists a y.listing y) y
relisted n k x a e f state number j y c d =
    elim (ℕ_discrete j k) [
      | yes q ↦
          let r : lane (with_lane n k x) j ≡ x = ap (λ z. lane (with_lane n k x) z) q ∙ lane-same n k x e f in
          let o : lane n j / 4 ≡ lane n k / 4 = ap (λ z. lane n z / 4) q in
          rw (eq-eqb j k q) (lists-same _ a _ y.listing y (ap (λ z. z % 4) r ∙ state) (ap (λ z. z / 4) r ∙ (number ∙ sym (d ∙ o))))
      | no q ↦
          let r : lane (with_lane n k x) j ≡ lane n j = lane-other n k j x e f q in
          rw (ne_eqb j k q) (lists-same _ y.listed _ y.listing y (ap (λ z. z % 4) r ∙ sym c) (ap (λ z. z / 4) r ∙ sym d))
    ]

module _ (n k : ℕ) (l : n < 2 ^ 64) (e : k < 4) where
  struck-small : 4 * (lane n k / 4) + 3 < 65536
  struck-small = let f = lane-fits n k l in omega arith

  remove_fits : remove_word n k < 2 ^ 64
  remove_fits = with_fits n k (word_pair (lane n k / 4) 3) l e struck-small

  remove_marks : (j : ℕ) (y : Marks) → y.listed ≡ lane n j % 4 → y.listing ≡ lane n j / 4 → lists (lane (remove_word n k) j % 4) (lane (remove_word n k) j / 4) y ≡ struck k j y
  remove_marks = relisted n k (word_pair (lane n k / 4) 3) 3 e struck-small (omega arith) (omega arith)

-- the first way that waits, or none waits
abbrev First : ℕ → ℕ → Option ℕ → Type 0
First n w None = (j : ℕ) → j < w → lane n j % 4 ≢ 1
First n w (Some k) = (k < w) × (lane n k % 4 ≡ 1)

not-waiting : (n w j : ℕ) → waits n w j ≡ false → j < w → lane n j % 4 ≢ 1
not-waiting n w j e l d = grind (arith, nat_tests)

none_waits : (n w : ℕ) → w ≤ 4 → waits n w 0 ≡ false → waits n w 1 ≡ false → waits n w 2 ≡ false → waits n w 3 ≡ false → (j : ℕ) → j < w → lane n j % 4 ≢ 1
none_waits n w m a b c d zero l = not-waiting n w 0 a l
none_waits n w m a b c d (suc zero) l = not-waiting n w 1 b l
none_waits n w m a b c d (suc (suc zero)) l = not-waiting n w 2 c l
none_waits n w m a b c d (suc (suc (suc zero))) l = not-waiting n w 3 d l
none_waits n w m a b c d (suc (suc (suc (suc j)))) l = absurd (omega arith)

first-waits : (n w : ℕ) → w ≤ 4 → First n w (first_waiting_way n w)
first-waits n w m =
    let P : Option ℕ → Type 0 = λ o. First n w o in
    let at : (j : ℕ) → waits n w j ≡ true → First n w (Some j) =
    λ j e. (let r = and_parts (ltb j w) (eqb (lane n j % 4) 1) e in (ltb-true j w r.0, eqb-true _ _ r.1)) in
    cond_both (waits n w 0) _ _ P (at 0)
    (λ a. cond_both (waits n w 1) _ _ P (at 1)
    (λ b. cond_both (waits n w 2) _ _ P (at 2) (λ c. cond_both (waits n w 3) _ _ P (at 3) (λ d. none_waits n w m a b c d))))

module _ (n k : ℕ) (l : n < 2 ^ 64) (e : k < 4) (one : lane n k % 4 ≡ 1) where
  raise-small : lane n k + 1 < 65536
  raise-small = let f = lane-fits n k l in omega arith

  raise_fits : with_lane n k (lane n k + 1) < 2 ^ 64
  raise_fits = with_fits n k (lane n k + 1) l e raise-small

  raise_marks : (j : ℕ) (y : Marks) → y.listed ≡ lane n j % 4 → y.listing ≡ lane n j / 4 → lists (lane (with_lane n k (lane n k + 1)) j % 4) (lane (with_lane n k (lane n k + 1)) j / 4) y ≡ raised k j y
  raise_marks = relisted n k (lane n k + 1) 2 e raise-small (omega arith) (omega arith)

-- the word after a collect, way by way
collected_at : (n w : ℕ) (ns : List ℕ) (j : ℕ) → j < w → collect_at n w ns j ≡ collect_lane (lane n j) (get_or ns j 0)
collected_at n w ns j l =
    cond_both (ltb j w) (collect_lane (lane n j) (get_or ns j 0)) (lane n j) (λ (a : ℕ). a ≡ collect_lane (lane n j) (get_or ns j 0)) (λ e. refl) (λ e. absurd (let d = ltb-false j w e in omega arith))

collected-lane : (n w : ℕ) (ns : List ℕ) → n < 2 ^ 64 → Notable ns → w ≤ 4 → (j : ℕ) → j < w → lane (collect_word n w ns) j ≡ collect_lane (lane n j) (get_or ns j 0)
collected-lane n w ns f o m zero l = ap (λ xs. get_or xs 0 0) (lanes-collect n w ns f o) ∙ collected_at n w ns 0 l
collected-lane n w ns f o m (suc zero) l = ap (λ xs. get_or xs 1 0) (lanes-collect n w ns f o) ∙ collected_at n w ns 1 l
collected-lane n w ns f o m (suc (suc zero)) l = ap (λ xs. get_or xs 2 0) (lanes-collect n w ns f o) ∙ collected_at n w ns 2 l
collected-lane n w ns f o m (suc (suc (suc zero))) l = ap (λ xs. get_or xs 3 0) (lanes-collect n w ns f o) ∙ collected_at n w ns 3 l
collected-lane n w ns f o m (suc (suc (suc (suc j)))) l = absurd (omega arith)

pair-stays : (x n : ℕ) → (n ≡ 0) ⊎ (x % 4 ≡ 3) → collect_lane x n ≡ x
pair-stays x n e = grind (arith, nat_tests)

pair-new : (x n : ℕ) → n ≢ 0 → x % 4 ≢ 3 → collect_lane x n ≡ 4 * n + 1
pair-new x n e d = grind (arith, nat_tests)

collected-pair : (x n l : ℕ) (y : Marks) → y.listed ≡ x % 4 → y.listing ≡ x / 4 → l ≡ collect_lane x n → lists (l % 4) (l / 4) y ≡ collected n y
collected-pair x n l y a d e =
    elim (ℕ_discrete n 0) [
      | yes q ↦
          let r : l ≡ x = e ∙ pair-stays x n (inl q) in
          rw (eq-eqb n 0 q) (lists-same _ y.listed _ y.listing y (ap (λ a. a % 4) r ∙ sym a) (ap (λ a. a / 4) r ∙ sym d))
      | no q ↦ elim (ℕ_discrete y.listed 3) [
        | yes k ↦
            let r : l ≡ x = e ∙ pair-stays x n (inr (sym a ∙ k)) in
            rw (ne_eqb n 0 q, eq-eqb y.listed 3 k) (lists-same _ y.listed _ y.listing y (ap (λ a. a % 4) r ∙ sym a) (ap (λ a. a / 4) r ∙ sym d))
        | no k ↦
            let r : l ≡ 4 * n + 1 = e ∙ pair-new x n q (λ z. k (a ∙ z)) in
            rw (ne_eqb n 0 q, ne_eqb y.listed 3 k) (lists-same _ 1 _ n y (omega arith) (omega arith))
      ]
    ]

collect_marks : (n w : ℕ) (ns : List ℕ) → n < 2 ^ 64 → Notable ns → w ≤ 4 → (j : ℕ) (y : Marks) → j < w → y.listed ≡ lane n j % 4 → y.listing ≡ lane n j / 4 → lists (lane (collect_word n w ns) j % 4) (lane (collect_word n w ns) j / 4) y ≡ collected (get_or ns j 0) y
collect_marks n w ns f o m j y l a d = collected-pair (lane n j) (get_or ns j 0) (lane (collect_word n w ns) j) y a d (collected-lane n w ns f o m j l)

-- a seat that goes from one place past the race for a gate to another
pub record Walks (w : ℕ) (s t : Seat) : Type 0 where
  pub law : lawful_open w t ≡ true
  pub state : t.state ≡ s.state
  pub height : t.height ≡ s.height
  pub top : t.top ≡ s.top
  pub handed : t.handed ≡ s.handed
  pub passage : t.passage.0 ≡ s.passage.0
  pub to : 28 ≤ place_number t.place
  pub begun : place_number t.place ≢ 35
  pub later : t.handed ≡ true → 48 ≤ place_number t.place

walks_stands : (w : ℕ) (s t : Seat) → Walks w s t → stands_at s ≢ 0 → (stands_at t ≡ t.height) × (low_of t ≡ low_of s)
walks_stands w s t d n = (grind arith, grind arith)

walks-high : (w r v r' v' : ℕ) (s t : Seat) → Walks w s t → stands_at s ≢ 0 → 28 ≤ place_number s.place → high_of w r v t ≡ high_of w r' v' s
walks-high w r v r' v' s t d n l = grind (arith, nat_tests)

kept-facts : (w : ℕ) (s : Seat) → lawful_open w s ≡ true → state_number s.state ≢ 0 → (s.kept_way.0 < w) × (s.kept_number.0 ≤ 16383)
kept-facts w s l n = (grind (arith, nat_tests), grind (arith, nat_tests))

notes_fit : (w : ℕ) (s : Seat) → lawful_open w s ≡ true → state_number s.state ≢ 0 → Notable s.noted
notes_fit w s l n = record { first = grind (arith, nat_tests); second = grind (arith, nat_tests); third = grind (arith, nat_tests); fourth = grind (arith, nat_tests) }

-- what is noted of a way that waits, and of another word
noted_waiting : (a : ℕ) → a < 65536 → (waiting a ≡ 0) ⊎ ((a % 4 ≡ 1) × (a / 4 ≡ waiting a))
noted_waiting a l = grind (arith, nat_tests)

noted-own : (xs : List ℕ) (k n : ℕ) → (get_or (set xs k n) k 0 ≡ 0) ⊎ (get_or (set xs k n) k 0 ≡ n)
noted-own xs k n =
    elim (cases_lt k (length xs)) [
      | inl l ↦ inr (get_or-set_same xs k n 0 l)
      | inr l ↦ inl (ap (λ ys. get_or ys k 0) (set_past xs k n l) ∙ get_or_past xs k 0 l)
    ]

pub closes-place : (s : Seat) → (state_number s.state ≡ 1) ⊎ (state_number s.state ≡ 3) → place_number (closes s) ≡ closing (stand_of s)
closes-place s e = grind (arith, nat_tests)

pub closes-range : (s : Seat) → (state_number s.state ≡ 1) ⊎ (state_number s.state ≡ 3) → (28 ≤ place_number (closes s)) × (place_number (closes s) ≤ 48) × (place_number (closes s) ≢ 35) × (state_number s.state ≡ 3 → 48 ≤ place_number (closes s))
closes-range s e = (grind arith, grind arith, grind arith, grind arith)

-- the gate is still taken by king and queen
count_open : (w h H : ℕ) (f : Phase) (c : Cells) (i : ℕ) (v : Stand) (x : Marks) → CellsOk w h H f c → WayOk h H f c i v x → ((v.stage ≡ 1) ⊎ (v.stage ≡ 3)) → v.place ≡ 68 → c.count ≡ 2
count_open w h H f c i v x co wo k0 k1 = grind arith

-- who promotes has marked its own application
marked_own : (h H : ℕ) (f : Phase) (c : Cells) (i : ℕ) (v : Stand) (x : Marks) → WayOk h H f c i v x → ((v.stage ≡ 1) ⊎ (v.stage ≡ 3)) → v.place ≡ 70 → x.applied ≡ 2
marked_own h H f c i v x wo k0 k1 = grind arith

-- at place 65 the own way is struck out, and who is registered waits with that very passage
struck_own : (h H : ℕ) (f : Phase) (c : Cells) (i : ℕ) (v : Stand) (x : Marks) → WayOk h H f c i v x → ((v.stage ≡ 1) ⊎ (v.stage ≡ 3)) → v.place ≡ 65 → x.listed ≡ 3
struck_own h H f c i v x wo k0 k1 = grind arith

free_plain : (h H : ℕ) (f : Phase) (c : Cells) (i k : ℕ) (v u : Stand) (x y : Marks) → WayOk h H f c i v x → ((v.stage ≡ 1) ⊎ (v.stage ≡ 3)) → v.place ≡ 65 → WayOk h H f c k u y → k ≢ i → Plain u y
free_plain h H idle c i k v u x y wo k0 k1 uo ne = absurd (grind arith)
free_plain h H (solo a) c i k v u x y wo k0 k1 uo ne = absurd (grind arith)
free_plain h H (pair a q) c i k v u x y wo k0 k1 uo ne = absurd (grind arith)
free_plain h H (clean r a) c i k v u x y wo k0 k1 uo ne = absurd (grind arith)
free_plain h H (free r) c i k v u x y wo k0 k1 uo ne =
    elim (ℕ_discrete i r) [ yes e ↦ uo.1 (λ d. ne (d ∙ sym e)) | no e ↦ absurd (let z = wo.1 e in grind arith) ]
free_plain h H (drain r) c i k v u x y wo k0 k1 uo ne = absurd (grind arith)
free_plain h H (prom a) c i k v u x y wo k0 k1 uo ne = absurd (grind arith)

registered_waits : (u : Stand) (y : Marks) → Plain u y → y.listed ≡ 1 → (u.stage ≡ 1) × (5 ≤ u.place) × (y.listing ≡ u.passage)
registered_waits u y uo e = (grind arith, grind arith, grind arith)

-- the marks of a way told, where the kept passage still waits at the kept way, and where it does not
told-hits : (v : Stand) (j : ℕ) (y : Marks) → (j ≡ v.kept_way → (y.applied ≡ 1) × (y.number ≡ v.kept_number)) → cond (eqb j v.kept_way) (applies (pro v.kept_number % 4) (pro v.kept_number / 4) y) y ≡ told v j y
told-hits v j y f =
    elim (ℕ_discrete j v.kept_way) [
      | yes q ↦
          let a = f q in
          let c : pro v.kept_number % 4 ≡ 2 = omega arith in
          let d : pro v.kept_number / 4 ≡ y.number = (let n = a.1 in omega arith) in
          rw (eq-eqb j v.kept_way q, eq-eqb y.applied 1 a.0, eq-eqb y.number v.kept_number a.1) (λ z. applies (c z) (d z) y)
      | no q ↦ rw (ne_eqb j v.kept_way q) refl
    ]

told-misses : (v : Stand) (j : ℕ) (y : Marks) → (j ≡ v.kept_way → y.applied ≡ 1 → y.number ≢ v.kept_number) → y ≡ told v j y
told-misses v j y f =
    cond_both (eqb j v.kept_way) _ y (λ (x : Marks). y ≡ x)
    (λ a. cond_both (eqb y.applied 1) _ y (λ (x : Marks). y ≡ x)
    (λ d. cond_both (eqb y.number v.kept_number) (applies 2 y.number y) y (λ (x : Marks). y ≡ x) (λ e. absurd (f (eqb-true _ _ a) (eqb-true _ _ d) (eqb-true _ _ e))) (λ e. refl)) (λ d. refl)) (λ a. refl)

module _ {b : BoxState} {G : Ghost} {p : ℕ} (A : Acts b G p (seat_at b p).height) where
  abbrev s : Seat
  s = seat_at b p

  abbrev h : ℕ
  h = s.height

  abbrev w : ℕ
  w = b.ways

  abbrev g : ℕ
  g = gate_of w p h

  abbrev f : Phase
  f = G.phase g

  abbrev H : ℕ
  H = heights_of w

  abbrev i : ℕ
  i = way_of w p h

  module _ {ws : List ℕ} {x : Words} {c : Cells} {y : Marks} {alter : ℕ → Marks → Marks} (u : Writing A ws x c y alter) where
    -- a seat that frees, collects or promotes, and goes on standing at the gate
    pub walk : (t : Seat) (f' : Phase) (E : ℕ → Stand → Marks → Type 0) → SyncKept A x → Known A E → stands_at s ≢ 0 → 28 ≤ place_number s.place → Walks w s t → (place_number t.place ≡ 70 → Late b p t) → MoveOf A f' (stand_of s) (stand_of t) c y E alter → Next b p t ws
    walk t f' E sync known n l d late k =
        let q = walks_stands w s t d n in
        let oc = occupies_own w (word_of b g (Role (record { 0 = i }))) (word_of b g SyncOne) s (A.related.sound.law p A.inside) n in
        let here : stands_at t ≡ h = q.0 ∙ d.height in
        let lo = q.1 in
        let live : state_number s.state ≢ 0 = live_standing s n in
        after-move A t ws f' (p + 1) x u.store (high_at b p) (stand_of s) (stand_of t) c y E alter (stand_was A n)
        (stand-here b G p h A t ws f' (p + 1) refl here)
        (record {
          law = d.law;
          handed = λ e. (ap state_number d.state ∙ (A.related.sound.handed p A.inside (sym d.handed ∙ e)).0, d.later e);
          passage = λ e. (live, d.passage);
          given = let r = A.related.sound.given p A.inside in let e = d.passage in omega arith;
          yet = λ k y. (sym (ap state_number d.state) ∙ y.0, inl (let e = d.height in let r = d.to in elim y.1 [ inl z ↦ omega arith | inr z ↦ absurd (omega arith) ]));
          late = late;
        }) (inr here) (inr refl)
        (λ r v e. walks-high w r v _ _ s t d n l)
        (record {
          same = λ k l k' ne a₀ a₁. (omega arith, a₁);
          back = λ k l k' ne a₀ a₁. (omega arith, a₁);
          own = λ a₀ a₁. refl;
          own_back = λ e. (let o₃ = oc.3 in omega arith, oc.4);
        }) u.marks sync known k

  module _ (moves : (state_number s.state ≡ 1) ⊎ (state_number s.state ≡ 3)) where
    stage : ((stand_of s).stage ≡ 1) ⊎ ((stand_of s).stage ≡ 3)
    stage = grind arith

    stands : 36 ≤ place_number s.place → stands_at s ≢ 0
    stands l e = let a = A.low in grind arith

    on : (P : Place) → 48 ≤ place_number P → lawful_open w (goes_to s P) ≡ true → Walks w s (goes_to s P)
    on P l law =
        record { law = law; state = refl; height = refl; top = refl; handed = refl; passage = refl; to = omega arith; begun = omega arith; later = λ r. l }

    module _ (e : s.place ≡ ReadSyncTwo) where
      at₅₉ : place_number s.place ≡ 59
      at₅₉ = ap place_number e

      pub keeps_read_sync_two : Keeps b p (read_sync_two_step (m A) s b.cells)
      keeps_read_sync_two =
          let q = at₅₉ in
          let n = stands (omega arith) in
          let v = word b.cells (m A) SyncTwo in
          cond_both (within 1 w v) _ _ (λ (o : Outcome (Unit {0})). Keeps b p o)
          (λ _ law ok.
          walk (writes_nothing A) (goes_to (keeps_for s (v - 1) s.kept_number.0) ClearSyncTwo) f Nothing (λ j l o r. refl) (λ j l o. tt) n (omega arith)
          (record { law = law; state = refl; height = refl; top = refl; handed = refl; passage = refl; to = omega arith; begun = omega arith; later = λ r. omega arith })
          (λ r. absurd (omega arith))
          (calmly A _ _ _ _ (read_sync_two w h H f (c₀ A) i (here A) (stand_of s) (x₀ A) (cells_ok A) (way_ok A n) stage at₅₉)))
          (λ _ law ok. let z : ◌≡◌ {A = ℕ} 0 1 = cc in absurd (omega arith))

    module _ (e : s.place ≡ ClearSyncTwo) where
      at₆₀ : place_number s.place ≡ 60
      at₆₀ = ap place_number e

      pub keeps_clear_sync_two : Keeps b p (clear_sync_two_step (m A) s b.cells)
      keeps_clear_sync_two law ok =
          let q = at₆₀ in
          let n = stands (omega arith) in
          walk (writes-sync-two A (writes_nothing A) 0) (goes_to s StrikeOut) f Nothing (λ j l o r. refl) (λ j l o. tt) n (omega arith)
          (on StrikeOut (omega arith) law)
          (λ r. absurd (omega arith))
          (calmly A _ _ _ _ (clear_sync_two w h H f (c₀ A) i (here A) (stand_of s) (x₀ A) (cells_ok A) (way_ok A n) stage at₆₀))

    kept : (s.kept_way.0 < w) × (s.kept_number.0 ≤ 16383)
    kept = kept-facts w s (A.related.sound.law p A.inside) (λ e. omega arith)

    abbrev pawn_word : ℕ
    pawn_word = word b.cells (m A) Pawns

    module _ (e : s.place ≡ StrikeOut) where
      at₆₁ : place_number s.place ≡ 61
      at₆₁ = ap place_number e

      pub keeps_strike_out : Keeps b p (strike_out_step (m A) s b.cells)
      keeps_strike_out law ok =
          let q = at₆₁ in
          let n = stands (omega arith) in
          let k = s.kept_way.0 in
          let l : k < 4 = let r = kept.0 in let z = A.related.sound.sized.most in omega arith in
          let v = words_of b.cells (m A) in
          let fits = (at-gate A).pawns in
          let turn = strike_out w h H f (c₀ A) i (stand_of s) (x₀ A) (here A) (cells_ok A) (way_ok A n) stage at₆₁ in
          walk (writes_as A (writes-pawns A (writes_nothing A) (remove_word v.pawns k) (remove_fits v.pawns k fits l)) (struck k i (x₀ A)) (λ j y. struck k j y)
          (remove_marks v.pawns k fits l i (x₀ A) refl refl) (λ j jl ne. remove_marks v.pawns k fits l j (marks_in v j) refl refl))
          (goes_to s StrikeSelf) turn.0 Nothing (λ j l o r. refl) (λ j l o. tt) n (omega arith)
          (on StrikeSelf (omega arith) law)
          (λ r. absurd (omega arith)) turn.1

    module _ (e : s.place ≡ StrikeSelf) where
      at₆₄ : place_number s.place ≡ 64
      at₆₄ = ap place_number e

      pub keeps_strike_self : Keeps b p (strike_self_step (m A) s b.cells)
      keeps_strike_self law ok =
          let q = at₆₄ in
          let n = stands (omega arith) in
          let il = way_inside b G p h A in
          let l : i < 4 = let z = A.related.sound.sized.most in omega arith in
          let v = words_of b.cells (m A) in
          let fits = (at-gate A).pawns in
          let turn = strike_self w h H f (c₀ A) i (stand_of s) (x₀ A) (here A) (cells_ok A) (way_ok A n) stage at₆₄ in
          walk (writes_as A (writes-pawns A (writes_nothing A) (remove_word v.pawns i) (remove_fits v.pawns i fits l)) (lists 3 (x₀ A).listing (x₀ A)) (λ j y. y)
          (remove_marks v.pawns i fits l i (x₀ A) refl refl ∙ ap (λ (t : Bool). cond t (lists 3 (x₀ A).listing (x₀ A)) (x₀ A)) (eq-eqb i i refl))
          (λ j jl ne. remove_marks v.pawns i fits l j (marks_in v j) refl refl ∙ ap (λ (t : Bool). cond t (lists 3 (marks_in v j).listing (marks_in v j)) (marks_in v j)) (ne_eqb j i ne)))
          (goes_to s PromotePawn) turn.0 Nothing (λ j l o r. refl) (λ j l o. tt) n (omega arith)
          (on PromotePawn (omega arith) law)
          (λ r. absurd (omega arith)) turn.1

    module _ (e : s.place ≡ ResetPawns) where
      at₆₇ : place_number s.place ≡ 67
      at₆₇ = ap place_number e

      pub keeps_reset_pawns : Keeps b p (reset_pawns_step (m A) s b.cells)
      keeps_reset_pawns law ok =
          let q = at₆₇ in
          let n = stands (omega arith) in
          let v = words_of b.cells (m A) in
          let none = λ (j : ℕ) (y : Marks). lists-same (lane 0 j % 4) 0 (lane 0 j / 4) 0 y (ap (λ a. a % 4) (lane_zero j)) (ap (λ a. a / 4) (lane_zero j)) in
          let turn = reset_pawns w h H f (c₀ A) i (stand_of s) (x₀ A) (here A) (cells_ok A) (way_ok A n) stage at₆₇ in
          walk (writes_as A (writes-pawns A (writes_nothing A) 0 (omega arith)) (lists 0 0 (x₀ A)) (λ j y. lists 0 0 y) (none i (x₀ A)) (λ j jl ne. none j (marks_in v j)))
          (goes_to s OpenGate) turn.0 Nothing (λ j l o r. refl) (λ j l o. tt) n (omega arith)
          (on OpenGate (omega arith) law)
          (λ r. absurd (omega arith)) turn.1

    pub closes_walk : lawful_open w (goes_to s (closes s)) ≡ true → Walks w s (goes_to s (closes s))
    closes_walk law =
        let r = closes-range s moves in
        record { law = law; state = refl; height = refl; top = refl; handed = refl; passage = refl; to = r.0; begun = r.2; later = λ d. r.3 (A.related.sound.handed p A.inside d).0 }

    module _ (e : s.place ≡ OpenGate) where
      at₆₈ : place_number s.place ≡ 68
      at₆₈ = ap place_number e

      pub keeps_open_gate : Keeps b p (open_gate_step (m A) s b.cells)
      keeps_open_gate law ok =
          let q = at₆₈ in
          let n = stands (omega arith) in
          let r = closes-range s moves in
          let two = count_open w h H f (c₀ A) i (stand_of s) (x₀ A) (cells_ok A) (way_ok A n) stage at₆₈ in
          let turn = open_gate w h H f (c₀ A) i (stand_of s) (x₀ A) (here A) (cells_ok A) (way_ok A n) stage at₆₈ in
          subst (λ (t : Bool). Next b p (goes_to s (closes s)) (cond t (put b.cells (m A) Count 0) b.cells)) (sym (eq-eqb (word b.cells (m A) Count) 2 two))
          (walk (writes-count A (writes_nothing A) 0) (goes_to s (closes s)) turn.0 Nothing (λ j l o r. refl) (λ j l o. tt) n (omega arith)
          (closes_walk law)
          (λ d. absurd (let k = r.1 in omega arith))
          (subst (λ (k : ℕ). MoveOf A turn.0 (stand_of s) (to k (stand_of s)) (counts 0 (c₀ A)) (x₀ A) Nothing (λ j y. y)) (sym (closes-place s moves)) turn.1))

    module _ (e : s.place ≡ MarkPromoted) where
      at₇₀ : place_number s.place ≡ 70
      at₇₀ = ap place_number e

      abbrev the_number : ℕ
      the_number = s.kept_number.0

      tell : {ws : List ℕ} {x : Words} (u : Writing A ws x (c₀ A) (x₀ A) (λ j y. told (stand_of s) j y)) → x.sync_one ≡ word_of b g SyncOne → Keeps b p (did ws (goes_to s (closes s)))
      tell u sync law ok =
          let q = at₇₀ in
          let n = stands (omega arith) in
          let r = closes-range s moves in
          walk u (goes_to s (closes s)) f Nothing (λ j l o d. sync) (λ j l o. tt) n (omega arith) (closes_walk law)
          (λ d. absurd (let k = r.1 in omega arith))
          (subst (λ (k : ℕ). MoveOf A f (stand_of s) (to k (stand_of s)) (c₀ A) (x₀ A) Nothing (λ j y. told (stand_of s) j y)) (sym (closes-place s moves))
          (mark_promoted w h H f (c₀ A) i (stand_of s) (x₀ A) (here A) (cells_ok A) (way_ok A n) stage at₇₀))

      pub keeps_mark_promoted : Keeps b p (mark_promoted_step (m A) s b.cells)
      keeps_mark_promoted =
          let q = at₇₀ in
          let n = stands (omega arith) in
          let k = s.kept_way.0 in
          let v = words_of b.cells (m A) in
          let own = marked_own h H f (c₀ A) i (stand_of s) (x₀ A) (way_ok A n) stage at₇₀ in
          cond_both (eqb (v.apply k) (reg the_number)) _ _ (λ (ws : List ℕ). Keeps b p (did ws (goes_to s (closes s))))
          (λ hit.
          let a : v.apply k ≡ 4 * the_number + 1 = eqb-true _ _ hit in
          let ne : k ≢ i = λ d. let c : v.apply k ≡ v.apply i = ap v.apply d in let o : v.apply i % 4 ≡ 2 = own in omega arith in
          let fits : pro the_number < 65536 = (let r = kept.1 in omega arith) in
          tell (writes_as A (writes-told A (writes_nothing A) k (pro the_number) kept.0 ne fits) (x₀ A) (λ j y. told (stand_of s) j y) refl
          (λ j jl nj. told-hits (stand_of s) j (marks_in v j) (λ d. let c : v.apply j ≡ v.apply k = ap v.apply d in (omega arith, omega arith)))) refl)
          (λ miss.
          let a : v.apply k ≢ 4 * the_number + 1 = eqb-false _ _ miss in
          tell (writes_as A (writes_nothing A) (x₀ A) (λ j y. told (stand_of s) j y) refl
          (λ j jl nj. told-misses (stand_of s) j (marks_in v j) (λ d o r. let c : v.apply j ≡ v.apply k = ap v.apply d in a (omega arith)))) refl)

    module _ (e : s.place ≡ PromotePawn) where
      at₆₅ : place_number s.place ≡ 65
      at₆₅ = ap place_number e

      -- the seat that waits at a way k is the only one with its passage
      late : (k : ℕ) → k < w → k ≢ i → lane pawn_word k % 4 ≡ 1 → Late b p (goes_to (keeps_for s k (lane pawn_word k / 4)) MarkPromoted)
      late k l ne one =
          let q = at₆₅ in
          let n = stands (omega arith) in
          let u = stand_at b G h g k in
          let plain = free_plain h H f (c₀ A) i k (stand_of s) u (x₀ A) (marks_at b g k) (way_ok A n) stage at₆₅ ((at-gate A).gate.ways k l) ne in
          let there = registered_waits u (marks_at b g k) plain one in
          let who = stander b G A.related p h A.inside A.low A.high k l (λ z. let r = there.1 in omega arith) in
          let r = who.0 in
          let t = seat_at b r in
          let shows : u ≡ stand_of t = who.1.shows in
          let passage : t.passage.0 ≡ lane pawn_word k / 4 = sym (ap (λ v. v.passage) shows) ∙ sym there.2 in
          let past : 5 ≤ place_number t.place = subst (λ (v : Stand). 5 ≤ v.place) shows there.1 in
          record {
            given = let c = A.related.sound.given r who.1.inside in omega arith;
            apart = λ x xl yet ge we pe.
                let same = A.related.sound.apart x r xl who.1.inside (λ z. let y = yet.0 in omega arith) (live_standing t who.1.stands) (pe ∙ sym passage) in
                let d : YetAt t h = subst (λ (y : ℕ). YetAt (seat_at b y) h) same yet in
                let high = who.1.height in
                elim d.1 [ inl a ↦ omega arith | inr a ↦ omega arith ];
          }

      promote : (o : Option ℕ) → First pawn_word w o → Keeps b p (did (put b.cells (m A) Pawns (promote_lane pawn_word o)) (promotes (promoted_lane pawn_word o) s))
      promote None none law ok =
          let q = at₆₅ in
          let n = stands (omega arith) in
          let v = words_of b.cells (m A) in
          let turn = promote_nobody w h H f (c₀ A) i (stand_of s) (x₀ A) (here A) (cells_ok A) (way_ok A n) stage at₆₅ in
          walk (writes_as A (writes-pawns A (writes_nothing A) v.pawns (at-gate A).pawns) (x₀ A) (λ j y. y) refl (λ j jl ne. refl))
          (goes_to s ResetPawns) turn.0 (λ j u y. y.listed ≢ 1) (λ j l o r. refl) (λ j l o. none j l) n (omega arith)
          (on ResetPawns (omega arith) law)
          (λ r. absurd (omega arith)) turn.1
      promote (Some k) one law ok =
          let q = at₆₅ in
          let n = stands (omega arith) in
          let v = words_of b.cells (m A) in
          let fits = (at-gate A).pawns in
          let l : k < 4 = let r = one.0 in let z = A.related.sound.sized.most in omega arith in
          let ne : k ≢ i = λ d.
          (let own : lane pawn_word i % 4 ≡ 3 = struck_own h H f (c₀ A) i (stand_of s) (x₀ A) (way_ok A n) stage at₆₅ in
          let waits : lane pawn_word i % 4 ≡ 1 = subst (λ (j : ℕ). lane pawn_word j % 4 ≡ 1) d one.1 in omega arith) in
          let turn = promote_pawn w h H f (c₀ A) i (stand_of s) (x₀ A) k (lane pawn_word k / 4) (here A) (cells_ok A) (way_ok A n) stage at₆₅ ne one.0 in
          walk (writes_as A (writes-pawns A (writes_nothing A) (with_lane v.pawns k (lane v.pawns k + 1)) (raise_fits v.pawns k fits l one.1)) (x₀ A) (λ j y. raised k j y)
          (raise_marks v.pawns k fits l one.1 i (x₀ A) refl refl ∙ ap (λ (t : Bool). cond t (lists 2 (x₀ A).listing (x₀ A)) (x₀ A)) (ne_eqb i k (λ d. ne (sym d))))
          (λ j jl nj. raise_marks v.pawns k fits l one.1 j (marks_in v j) refl refl))
          (goes_to (keeps_for s k (lane pawn_word k / 4)) MarkPromoted) turn.0 (λ j u y. j ≡ k → y.listed ≡ 1) (λ j l o r. refl)
          (λ j jl o d. subst (λ (j : ℕ). lane pawn_word j % 4 ≡ 1) (sym d) one.1) n (omega arith)
          (record { law = law; state = refl; height = refl; top = refl; handed = refl; passage = refl; to = omega arith; begun = omega arith; later = λ r. omega arith })
          (λ r. late k one.0 ne one.1) turn.1

      pub keeps_promote_pawn : Keeps b p (promote_pawn_step (m A) s b.cells)
      keeps_promote_pawn = promote (first_waiting_way pawn_word w) (first-waits pawn_word w A.related.sound.sized.most)

    module _ (e : s.place ≡ CollectPawns) where
      at₅₅ : place_number s.place ≡ 55
      at₅₅ = ap place_number e

      pub keeps_collect_pawns : Keeps b p (collect_pawns_step (m A) s b.cells)
      keeps_collect_pawns law ok =
          let q = at₅₅ in
          let n = stands (omega arith) in
          let v = words_of b.cells (m A) in
          let fits = (at-gate A).pawns in
          let z = A.related.sound.sized.most in
          let ns : Notable s.noted = notes_fit w s (A.related.sound.law p A.inside) (λ e. omega arith) in
          let turn = collect_pawns w h H f (c₀ A) i (stand_of s) (x₀ A) (here A) (cells_ok A) (way_ok A n) stage at₅₅ in
          walk (writes_as A (writes-pawns A (writes_nothing A) (collect_word v.pawns w s.noted) (collect_fits v.pawns w s.noted fits ns)) (collected (get_or s.noted i 0) (x₀ A)) (λ j y. collected (get_or s.noted j 0) y)
          (collect_marks v.pawns w s.noted fits ns z i (x₀ A) (way_inside b G p h A) refl refl) (λ j jl ne. collect_marks v.pawns w s.noted fits ns z j (marks_in v j) jl refl refl))
          (goes_to s RaceToClose) turn.0 Nothing (λ j l o r. refl) (λ j l o. tt) n (omega arith)
          (on RaceToClose (omega arith) law)
          (λ r. absurd (omega arith)) turn.1

    module _ (e : s.place ≡ ScanApply) where
      at₅₂ : place_number s.place ≡ 52
      at₅₂ = ap place_number e

      abbrev reading : ℕ
      reading = waiting (word b.cells (m A) (Apply s.scan))

      abbrev now : List ℕ
      now = set s.noted s.scan.0 reading

      abbrev Reads : ℕ → Stand → Marks → Type 0
      Reads j u y = (j ≡ s.scan.0 → (get_or now j 0 ≡ 0) ⊎ ((y.applied ≡ 1) × (y.number ≡ get_or now j 0))) × (j ≢ s.scan.0 → get_or now j 0 ≡ get_or s.noted j 0)

      reads : Known A Reads
      reads j l o =
          let v = words_of b.cells (m A) in (
            λ d.
                (let c : get_or now j 0 ≡ get_or now s.scan.0 0 = ap (λ k. get_or now k 0) d in
                let a : waiting (v.apply j) ≡ reading = ap (λ k. waiting (v.apply k)) d in
                elim (noted-own s.noted s.scan.0 reading) [
                  | inl z ↦ inl (c ∙ z)
                  | inr z ↦ elim (noted_waiting (v.apply j) ((at-gate A).applies j l)) [
                    | inl y ↦ inl (c ∙ (z ∙ (sym a ∙ y)))
                    | inr y ↦ inr (y.0, y.1 ∙ (a ∙ sym (c ∙ z)))
                  ]
                ]),
            λ d. get_or-set_other s.noted s.scan.0 j reading 0 d,
          )

      scan : (t : Seat) (c d : ℕ) → ((c ≡ 52) × (d ≡ s.scan.0 + 1)) ⊎ ((c ≡ 55) × (s.scan.0 + 1 ≡ w)) → Walks w s t → place_number t.place ≡ c → stand_of t ≡ to c (scanning d (λ j. get_or now j 0) (stand_of s)) → Next b p t b.cells
      scan t c d k law o r =
          let q = at₅₂ in
          let n = stands (omega arith) in
          let turn = scan_apply w h H f (c₀ A) i (stand_of s) (x₀ A) c d (λ j. get_or now j 0) (here A) (cells_ok A) (way_ok A n) stage at₅₂ k in
          walk (writes_nothing A) t turn.0 Reads (λ j l o r. refl) reads n (omega arith) law
          (λ r. absurd (elim k [ inl z ↦ omega arith | inr z ↦ omega arith ]))
          (subst (λ (v : Stand). MoveOf A turn.0 (stand_of s) v (c₀ A) (x₀ A) Reads (λ j y. y)) (sym r) turn.1)

      pub keeps_scan_apply : Keeps b p (scan_apply_step (m A) s b.cells)
      keeps_scan_apply =
          let q = at₅₂ in
          cond_both (eqb (s.scan.0 + 1) w) _ _ (λ (o : Outcome (Unit {0})). Keeps b p o)
          (λ last law ok. scan (goes_to (scans (notes s now) 0) CollectPawns) 55 0 (inr (refl, eqb-true _ _ last))
          (record { law = law; state = refl; height = refl; top = refl; handed = refl; passage = refl; to = omega arith; begun = omega arith; later = λ r. omega arith }) refl refl)
          (λ more law ok. scan (scans (notes s now) (s.scan.0 + 1)) 52 (s.scan.0 + 1) (inl (refl, refl))
          (record { law = law; state = refl; height = refl; top = refl; handed = refl; passage = refl; to = omega arith; begun = omega arith; later = λ r. omega arith }) at₅₂ (ap (λ k. to k (scanning (s.scan.0 + 1) (λ j. get_or now j 0) (stand_of s))) at₅₂))

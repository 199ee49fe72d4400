-- The kinds of steps that a seat takes, each from a move of its gate to the relation. Assumes nothing.
--     Next          the box after the step is related to some ghost
--     related-step  a step that keeps the occupants of all ways but its own
--     Goes, stays   a seat that stands at the gate, and goes on standing there
--     Rests, rests  a seat that stands at the gate, and stands at none afterwards
--     begins        a seat that begins to stand at the gate
use Rattle.std.proofs.Common.{◌≡◌, ℕ, ◌+◌, ◌-◌, ◌<◌, ◌≤◌, true, false, ◌≢◌, ◌⊎◌, List, sym, refl, ap, ◌∙◌, subst, inl, inr, arith}
use Rattle.layout.specs.Gates.{heights_of, gate_of, way_of}
use Rattle.layout.specs.Meetings.{meeting}
use Rattle.seats.specs.declared.seat.Seat.{Seat}
use Rattle.seats.specs.Lawful.{lawful_open}
use Rattle.seats.specs.Places.{state_number, place_number}
use Rattle.steps.specs.declared.cells.Cell.TheVariants.{SyncOne, Role}
use Rattle.lock.specs.States.{BoxState, seat_at, with_seat}
use Rattle.gate.proofs.Phases.{Phase, Stand, Marks, Cells}
use Rattle.gate.proofs.Gates.{Turn, still}
use Rattle.relation.proofs.Views.{word_of, cells_at, marks_at, Ghost, stands_at, stand_of, stand_at, low_of, high_of, high_at, Occupies}
use Rattle.relation.proofs.Relation.{YetAt, Late, Sized, GateAt, Related}
use Rattle.relation.proofs.Frame.{SeatChange, seat_own}
use Rattle.relation.proofs.Links.{turned_ghost, own_related, shown-here}
use Rattle.relation.proofs.GateWords.{Words, Wrote, words_of}
use Rattle.relation.proofs.Alters.{Alters}
use Rattle.relation.proofs.Acting.{Queenly, Acts, way_inside, moved-gate, outside-words, high-else, stand-here, stand-inside, stand-gone, occupies_own}

abbrev pub Next : BoxState → ℕ → Seat → List ℕ → Type 0
Next b p t ws = (G : Ghost) × Related (with_seat b p t ws) G

-- the heights that the seat occupies before the step, lo to hi, and after it, lo' to hi'; h is that of the step
pub record Ranges (w h lo hi lo' hi' p o : ℕ) : Type 0 where
  pub same : (k : ℕ) → 1 ≤ k → k < w → k ≢ h → lo ≤ k → k ≤ hi → (lo' ≤ k) × (k ≤ hi')
  pub back : (k : ℕ) → 1 ≤ k → k < w → k ≢ h → lo' ≤ k → k ≤ hi' → (lo ≤ k) × (k ≤ hi)
  pub own : lo' ≤ h → h ≤ hi' → o ≡ p + 1
  pub own_back : o ≡ p + 1 → (lo' ≤ h) × (h ≤ hi')

-- a seat at another place of the same gate
pub record Goes (w : ℕ) (s t : Seat) : Type 0 where
  pub law : lawful_open w t ≡ true
  pub state : t.state ≡ s.state
  pub height : t.height ≡ s.height
  pub handed : t.handed ≡ s.handed
  pub passage : t.passage.0 ≡ s.passage.0
  pub within : place_number t.place ≢ 2
  pub begun : place_number t.place ≢ 35
  pub later : 48 ≤ place_number s.place → 48 ≤ place_number t.place

goes_stands : (w : ℕ) (s t : Seat) → Goes w s t → stands_at s ≢ 0 → (stands_at t ≡ t.height) × (low_of t ≡ low_of s)
goes_stands w s t d n = (grind arith, grind arith)

pub live_standing : (s : Seat) → stands_at s ≢ 0 → state_number s.state ≢ 0
live_standing s n e = grind arith

-- a seat that stands at no gate, and occupies the heights lo to hi; at a gate it was s
pub record Rests (w : ℕ) (s t : Seat) (lo hi : ℕ) : Type 0 where
  pub law : lawful_open w t ≡ true
  pub nowhere : stands_at t ≡ 0
  pub handed : t.handed ≡ false
  pub passage : state_number t.state ≢ 0 → t.passage.0 ≡ s.passage.0
  pub given : t.passage.0 ≤ s.passage.0
  pub yet : (k : ℕ) → YetAt t k → YetAt s k
  pub place : place_number t.place ≢ 70
  pub low : low_of t ≡ lo
  pub high : (r v : ℕ) → high_of w r v t ≡ hi

module _ {b : BoxState} {G : Ghost} {p : ℕ} (A : Acts b G p (seat_at b p).height) where
  abbrev w : ℕ
  w = b.ways

  abbrev s : Seat
  s = seat_at b p

  abbrev h : ℕ
  h = s.height

  abbrev g : ℕ
  g = gate_of w p h

  abbrev i : ℕ
  i = way_of w p h

  z : Sized b
  z = A.related.sound.sized

  -- the record t, the words x of the gate, its phase f and the occupant o of the way afterwards
  module _ (t : Seat) (ws : List ℕ) (f : Phase) (o : ℕ) (x : Words) (wr : Wrote b.cells ws (meeting w p h) x) where
    abbrev a : BoxState
    a = with_seat b p t ws

    high-own : (n : ℕ) → ((r v : ℕ) → (t.height ≡ h → (r ≡ x.role i) × (v ≡ x.sync_one)) → high_of w r v t ≡ n) → high_at a p ≡ n
    high-own n e =
        ap (λ v. high_of w (word_of a (gate_of w p v.height) (Role (record { 0 = way_of w p v.height }))) (word_of a (gate_of w p v.height) SyncOne) v) (seat_own b p t ws A.inside z)
        ∙ e (word_of a (gate_of w p t.height) (Role (record { 0 = way_of w p t.height }))) (word_of a (gate_of w p t.height) SyncOne)
        (λ d.
        subst (λ (k : ℕ). (word_of a (gate_of w p k) (Role (record { 0 = way_of w p k })) ≡ x.role i) × (word_of a (gate_of w p k) SyncOne ≡ x.sync_one)) (sym d)
        (wr.shows.role i (way_inside b G p h A), wr.shows.sync_one))

    occupies-now : (n k : ℕ) → high_at a p ≡ n → Occupies a p k → (low_of t ≤ k) × (k ≤ n)
    occupies-now n k e c =
        (subst (λ (v : Seat). low_of v ≤ k) (seat_own b p t ws A.inside z) c.0, subst (λ (m : ℕ). k ≤ m) e c.1)

    occupies-then : (n k : ℕ) → high_at a p ≡ n → (low_of t ≤ k) × (k ≤ n) → Occupies a p k
    occupies-then n k e c =
        (subst (λ (v : Seat). low_of v ≤ k) (sym (seat_own b p t ws A.inside z)) c.0, subst (λ (m : ℕ). k ≤ m) (sym e) c.1)

    pub related-step : (n : ℕ) → SeatChange b p t → (stands_at t ≡ 0) ⊎ (stands_at t ≡ h) → (o ≡ 0) ⊎ (o ≡ p + 1) → ((r v : ℕ) → (t.height ≡ h → (r ≡ x.role i) × (v ≡ x.sync_one)) → high_of w r v t ≡ n) → Ranges w h (low_of s) (high_at b p) (low_of t) n p o → ((j : ℕ) → j < w → j ≢ i → x.role j ≡ word_of b g (Role (record { 0 = j }))) → ((j : ℕ) → j < w → j ≢ i → Queenly (stand_at b G h g j) (marks_at b g j) → x.sync_one ≡ word_of b g SyncOne) → GateAt a (turned_ghost G g i f o) h g → Next b p t ws
    related-step n c st oc e r roles sync gate =
        let hi = high-own n e in (
          turned_ghost G g i f o,
          own_related b G A.related p h A.inside t ws f o (record {
            low = A.low;
            high = A.high;
            height = refl;
            size = wr.size;
            outside = λ y k d l. outside-words b G p h A t ws f o x wr y k d l;
            seat = c;
            stands = st;
            before = A.occupant;
            after = oc;
            range = λ k l m d q. occupies-then n k hi (r.same k l m d q.0 q.1);
            range_back = λ k l m d q. let v = occupies-now n k hi q in r.back k l m d v.0 v.1;
            range_own = λ q. let v = occupies-now n h hi q in r.own v.0 v.1;
            own_range = λ q. occupies-then n h hi (r.own_back q);
            others = high-else b G p h A t ws f o x wr roles sync;
            gate = gate;
          }),
        )

    pub after-move : (n : ℕ) (v v' : Stand) (c : Cells) (y : Marks) (E : ℕ → Stand → Marks → Type 0) (alter : ℕ → Marks → Marks) → stand_at b G h g i ≡ v → stand_at a (turned_ghost G g i f o) h g i ≡ v' → SeatChange b p t → (stands_at t ≡ 0) ⊎ (stands_at t ≡ h) → (o ≡ 0) ⊎ (o ≡ p + 1) → ((r v : ℕ) → (t.height ≡ h → (r ≡ x.role i) × (v ≡ x.sync_one)) → high_of w r v t ≡ n) → Ranges w h (low_of s) (high_at b p) (low_of t) n p o → Alters w i (words_of b.cells (meeting w p h)) x c y alter → ((j : ℕ) → j < w → j ≢ i → Queenly (stand_at b G h g j) (marks_at b g j) → x.sync_one ≡ word_of b g SyncOne) → ((j : ℕ) → j < w → j ≢ i → E j (stand_at b G h g j) (marks_at b g j)) → Turn w h (heights_of w) (G.phase g) (cells_at b g) i v (marks_at b g i) f c v' y E alter → Next b p t ws
    after-move n v v' c y E alter was is ch st oc hi r al sync known m =
        related-step n ch st oc hi r al.roles sync
        (moved-gate b G p h A t ws f o x wr c v' y E alter is al.cells al.own al.else known al.pawns al.applies
        (subst (λ (u : Stand). Turn w h (heights_of w) (G.phase g) (cells_at b g) i u (marks_at b g i) f c v' y E alter) (sym was) m))

  lawful-own : lawful_open w s ≡ true
  lawful-own = A.related.sound.law p A.inside

  pub own_occupant : stands_at s ≢ 0 → G.owner g i ≡ p + 1
  own_occupant n =
      let c = occupies_own w (word_of b g (Role (record { 0 = i }))) (word_of b g SyncOne) s lawful-own n in
      A.related.linked.owned p h A.inside A.low A.high (c.3, c.4)

  pub stand_was : stands_at s ≢ 0 → stand_at b G h g i ≡ stand_of s
  stand_was n =
      let e = own_occupant n in
      let d : G.owner g i - 1 ≡ p = omega arith in
      let c = occupies_own w 0 0 s lawful-own n in
      shown-here (G.owner g i) h (seat_at b (G.owner g i - 1)) (λ q. omega arith) (ap (λ v. stands_at (seat_at b v)) d ∙ c.0) ∙ ap (λ v. stand_of (seat_at b v)) d

  -- no other way has a queen for whom another word in Sync1 matters
  abbrev pub SyncKept : Words → Type 0
  SyncKept x = (j : ℕ) → j < w → j ≢ i → Queenly (stand_at b G h g j) (marks_at b g j) → x.sync_one ≡ word_of b g SyncOne

  abbrev pub Known : (ℕ → Stand → Marks → Type 0) → Type 0
  Known E = (j : ℕ) → j < w → j ≢ i → E j (stand_at b G h g j) (marks_at b g j)

  -- a move of the gate from the stand v to v'
  abbrev pub MoveOf : Phase → Stand → Stand → Cells → Marks → (ℕ → Stand → Marks → Type 0) → (ℕ → Marks → Marks) → Type 0
  MoveOf f v v' c y E alter = Turn w h (heights_of w) (G.phase g) (cells_at b g) i v (marks_at b g i) f c v' y E alter

  goes_change : (t : Seat) → Goes w s t → stands_at s ≢ 0 → (place_number t.place ≡ 70 → Late b p t) → SeatChange b p t
  goes_change t d n late =
      let live : state_number s.state ≢ 0 = live_standing s n in
      record {
        law = d.law;
        handed = λ e. let q = A.related.sound.handed p A.inside (sym d.handed ∙ e) in (ap state_number d.state ∙ q.0, d.later q.1);
        passage = λ e. (live, d.passage);
        given = let q = A.related.sound.given p A.inside in let e = d.passage in omega arith;
        yet = λ k y. (sym (ap state_number d.state) ∙ y.0, inl (let e = d.height in let u = d.within in elim y.1 [ inl q ↦ omega arith | inr q ↦ absurd (u q.1) ]));
        late = late;
      }

  rests_change : (t : Seat) (lo hi : ℕ) → Rests w s t lo hi → state_number s.state ≢ 0 → SeatChange b p t
  rests_change t lo hi d n =
      record {
        law = d.law;
        handed = λ e. absurd (let q : ◌≡◌ {A = ℕ} 0 1 = (let u = d.handed in cc) in omega arith);
        passage = λ e. (n, d.passage e);
        given = let q = A.related.sound.given p A.inside in let e = d.given in omega arith;
        yet = d.yet;
        late = λ e. absurd (d.place e);
      }

  module _ (t : Seat) (ws : List ℕ) (f : Phase) (x : Words) (wr : Wrote b.cells ws (meeting w p h) x) (c : Cells) (y : Marks) (E : ℕ → Stand → Marks → Type 0) (alter : ℕ → Marks → Marks) (al : Alters w i (words_of b.cells (meeting w p h)) x c y alter) (sync : SyncKept x) (known : Known E) where
    pub stays : stands_at s ≢ 0 → Goes w s t → high_of w (x.role i) x.sync_one t ≡ high_at b p → (place_number t.place ≡ 70 → Late b p t) → MoveOf f (stand_of s) (stand_of t) c y E alter → Next b p t ws
    stays n d hi late m =
        let q = goes_stands w s t d n in
        let oc = occupies_own w (word_of b g (Role (record { 0 = i }))) (word_of b g SyncOne) s lawful-own n in
        let here : stands_at t ≡ h = q.0 ∙ d.height in
        let lo = q.1 in
        after-move t ws f (p + 1) x wr (high_at b p) (stand_of s) (stand_of t) c y E alter (stand_was n)
        (stand-here b G p h A t ws f (p + 1) refl here) (goes_change t d n late) (inr here) (inr refl)
        (λ r v e. let u = e d.height in rw (u.0, u.1) hi)
        (record {
          same = λ k l k' ne a₀ a₁. (omega arith, a₁);
          back = λ k l k' ne a₀ a₁. (omega arith, a₁);
          own = λ a₀ a₁. refl;
          own_back = λ e. (let o₃ = oc.3 in omega arith, oc.4);
        }) al sync known m

    pub rests-inside : (hi : ℕ) → stands_at s ≢ 0 → Rests w s t (low_of s) hi → high_at b p ≡ hi → MoveOf f (stand_of s) (still 2) c y E alter → Next b p t ws
    rests-inside hi n d e m =
        let oc = occupies_own w (word_of b g (Role (record { 0 = i }))) (word_of b g SyncOne) s lawful-own n in
        let lo = d.low in
        let oc₃ = oc.3 in
        let oc₄ : h ≤ high_at b p = oc.4 in
        after-move t ws f (p + 1) x wr hi (stand_of s) (still 2) c y E alter (stand_was n)
        (stand-inside b G p h A t ws f (p + 1) refl d.nowhere) (rests_change t (low_of s) hi d (live_standing s n)) (inl d.nowhere) (inr refl)
        (λ r v u. d.high r v)
        (record {
          same = λ k l k' ne a₀ a₁. (omega arith, omega arith);
          back = λ k l k' ne a₀ a₁. (omega arith, omega arith);
          own = λ a₀ a₁. refl;
          own_back = λ q. (omega arith, omega arith);
        }) al sync known m

    pub rests-gone : (lo hi : ℕ) → stands_at s ≢ 0 → Rests w s t lo hi → Ranges w h (low_of s) (high_at b p) lo hi p 0 → MoveOf f (stand_of s) (still 0) c y E alter → Next b p t ws
    rests-gone lo hi n d r m =
        after-move t ws f 0 x wr hi (stand_of s) (still 0) c y E alter (stand_was n)
        (stand-gone b G p h A t ws f 0 refl) (rests_change t lo hi d (live_standing s n)) (inl d.nowhere) (inl refl)
        (λ q v u. d.high q v) (subst (λ (k : ℕ). Ranges w h (low_of s) (high_at b p) k hi p 0) (sym d.low) r) al sync known m

    pub begins : (hi : ℕ) (v : Stand) → stand_at b G h g i ≡ v → SeatChange b p t → stands_at t ≡ h → high_of w (x.role i) x.sync_one t ≡ hi → t.height ≡ h → Ranges w h (low_of s) (high_at b p) (low_of t) hi p (p + 1) → MoveOf f v (stand_of t) c y E alter → Next b p t ws
    begins hi v was ch here e d r m =
        after-move t ws f (p + 1) x wr hi v (stand_of t) c y E alter was (stand-here b G p h A t ws f (p + 1) refl here) ch (inr here) (inr refl)
        (λ q u k. let l = k d in rw (l.0, l.1) e) r al sync known m

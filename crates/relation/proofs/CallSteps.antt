-- The calls that are no poll keep the relation. Assumes nothing.
--     renewed        a box with another record for one seat, and another next number
--     Alike          the record shows what the old one showed, and occupies the same gates
--     still_related  then the box is related to the same ghost, if it is sound
--     acts_at        who stands at a gate occupies its way there
--     keeps_apply, keeps_give_up, keeps_leave, keeps_publish   each call, where it is not refused
use Rattle.std.proofs.Common.{◌≡◌, ℕ, ◌+◌, ◌-◌, ◌<◌, ◌≤◌, cond, eqb, true, false, ◌≢◌, ◌⊎◌, Ok, sym, refl, ap, ◌∙◌, subst, inl, inr, arith}
use native.Mathlib.Decide.{ℕ_discrete}
use Rattle.std.proofs.lemmas.Bool.{cond_both, eqb-true, eqb-false, false_from_ne_true}
use Rattle.std.proofs.lemmas.Bool.Decides.{nat_tests}
use Rattle.layout.specs.Gates.{heights_of, seats_of, gate_of, way_of}
use Rattle.seats.specs.declared.seat.Seat.{Seat}
use Rattle.seats.specs.declared.state.State.TheVariants.{Climbing, Holding, Leaving}
use Rattle.seats.specs.declared.place.Place.{Place}
use Rattle.seats.specs.declared.place.Place.TheVariants.{ReadRole, CloseApply}
use Rattle.seats.specs.Lawful.{lawful_open}
use Rattle.seats.specs.Places.{state_number, place_number, within}
use Rattle.seats.specs.Seats.{away, moved, goes_to, marked, backed_out}
use Rattle.steps.specs.declared.cells.Cell.TheVariants.{SyncOne, Role}
use Rattle.lock.specs.States.{BoxState, seat_at, with_seat}
use Rattle.lock.specs.Calls.{applied, gave_up_outcome, left, published, climber, given_up, departing}
use Rattle.gate.proofs.Phases.{Phase, Stand, Marks, Cells, WayOk}
use Rattle.gate.proofs.Gates.{Nothing, to, gate_same}
use Rattle.gate.proofs.Moves.{give_up_queen, give_up_pawn}
use Rattle.relation.proofs.LawfulLaws.{parts_from_lawful, FreshAt, fresh_at}
use Rattle.relation.proofs.Accepted.{apply_accepted, give_up_accepted, leave_accepted, publish_accepted}
use Rattle.relation.proofs.Views.{word_of, cells_at, marks_at, Ghost, stage_in, stands_at, stand_of, shown, stand_at, low_of, high_of, high_at, Occupies}
use Rattle.relation.proofs.Relation.{YetAt, Late, Sized, HandedFits, Sound, Related}
use Rattle.relation.proofs.Frame.{SeatChange, by_seat, sized-change, sound-change}
use Rattle.relation.proofs.Links.{shown-nobody, shown-inside}
use Rattle.relation.proofs.Acting.{Acts, occupies_own}
use Rattle.relation.proofs.Polls.{Next}
use Rattle.relation.proofs.Writings.{c₀, x₀, here, cells_ok, way_ok, writes_nothing, go, calmly}
use Rattle.relation.proofs.Standing.{stands_climbing}

-- a record t in the place of s: it shows the same at every gate, and occupies the same gates, whatever the cells hold
pub record Alike (w : ℕ) (s t : Seat) : Type 0 where
  pub low : low_of t ≡ low_of s
  pub high : (r v r' v' : ℕ) → high_of w r v t ≡ high_of w r' v' s
  pub shows : (o k : ℕ) → o ≢ 0 → 1 ≤ k → shown o k t ≡ shown o k s

-- a seat that stood at no gate, and stands at none
shows_nothing : (s t : Seat) → stands_at s ≡ 0 → stands_at t ≡ 0 → (o k : ℕ) → o ≢ 0 → 1 ≤ k → shown o k t ≡ shown o k s
shows_nothing s t d e o k n l = shown-inside o k t n (λ q. omega arith) ∙ sym (shown-inside o k s n (λ q. omega arith))

module _ (b : BoxState) (p : ℕ) (t : Seat) (n : ℕ) where
  abbrev pub renewed : BoxState
  renewed = record { ways = b.ways; next = n; seats = (with_seat b p t b.cells).seats; cells = b.cells }

  module _ (G : Ghost) (R : Related b G) (pl : p < seats_of b.ways) (c : Alike b.ways (seat_at b p) t) where
    abbrev w : ℕ
    w = b.ways

    z : Sized b
    z = R.sound.sized

    low_same : (q : ℕ) → low_of (seat_at renewed q) ≡ low_of (seat_at b q)
    low_same = by_seat b p t b.cells pl z (λ q v. low_of v ≡ low_of (seat_at b q)) c.low (λ q m. refl)

    high-same : (q : ℕ) → high_at renewed q ≡ high_at b q
    high-same =
        by_seat b p t b.cells pl z (λ q v. high_of w (word_of b (gate_of w q v.height) (Role (record { 0 = way_of w q v.height }))) (word_of b (gate_of w q v.height) SyncOne) v ≡ high_at b q)
        (c.high _ _ _ _) (λ q m. refl)

    shows_same : (q o k : ℕ) → o ≢ 0 → 1 ≤ k → shown o k (seat_at renewed q) ≡ shown o k (seat_at b q)
    shows_same =
        by_seat b p t b.cells pl z (λ q v. (o k : ℕ) → o ≢ 0 → 1 ≤ k → shown o k v ≡ shown o k (seat_at b q)) c.shows (λ q m o k d l. refl)

    stands_same : (k g j : ℕ) → 1 ≤ k → stand_at renewed G k g j ≡ stand_at b G k g j
    stands_same k g j l =
        let o = G.owner g j in
        elim (ℕ_discrete o 0) [
          | yes e ↦ shown-nobody o k (seat_at renewed (o - 1)) e ∙ sym (shown-nobody o k (seat_at b (o - 1)) e)
          | no e ↦ shows_same (o - 1) o k e l
        ]

    occupies_then : (q k : ℕ) → Occupies renewed q k → Occupies b q k
    occupies_then q k e =
        (subst (λ (m : ℕ). m ≤ k) (low_same q) e.0, subst (λ (m : ℕ). k ≤ m) (high-same q) e.1)

    occupies_now : (q k : ℕ) → Occupies b q k → Occupies renewed q k
    occupies_now q k e =
        (subst (λ (m : ℕ). m ≤ k) (sym (low_same q)) e.0, subst (λ (m : ℕ). k ≤ m) (sym (high-same q)) e.1)

    pub still_related : Sound renewed → Related renewed G
    still_related s =
        record {
          sound = s;
          linked = record {
            owned = λ q k l m d e. R.linked.owned q k l m d (occupies_then q k e);
            owns = λ q k l m d e. occupies_now q k (R.linked.owns q k l m d e);
            belongs = λ q k j r l m d e f. R.linked.belongs q k j r l m d e f;
          };
          gates = λ q k l m d.
              let g = gate_of w q k in
              let y = R.gates q k l m d in
              record {
                gate = gate_same w k (heights_of w) (G.phase g) (cells_at b g) (stand_at b G k g) (stand_at renewed G k g) (marks_at b g) (marks_at b g) y.gate (λ j e. stands_same k g j m) (λ j e. refl);
                pawns = y.pawns;
                applies = y.applies;
              };
        }

-- a change of one record, with the same next number
changes : (b : BoxState) (G : Ghost) (p : ℕ) (t : Seat) → Related b G → p < seats_of b.ways → Alike b.ways (seat_at b p) t → SeatChange b p t → Next b p t b.cells
changes b G p t R pl q c =
    (G, still_related b p t b.next G R pl q (sound-change b p t b.cells pl R.sound.sized R.sound c refl))

-- an application
module _ (b : BoxState) (p : ℕ) (s : Sound b) (pl : p < seats_of b.ways) (few : b.next ≤ 16383) where
  abbrev fresh : Seat
  fresh = climber b.next

  abbrev entered : BoxState
  entered = renewed b p fresh (b.next + 1)

  climber-lawful : lawful_open b.ways fresh ≡ true
  climber-lawful = let l = s.next in let q = s.sized.few in grind (arith, nat_tests)

  -- nobody had this number
  new_number : (q : ℕ) → q < seats_of b.ways → (seat_at b q).passage.0 ≢ b.next
  new_number q l e = let g = s.given q l in omega arith

  applied-sound : Sound entered
  applied-sound =
      let by : (P : ℕ → Seat → Type 0) → P p fresh → ((q : ℕ) → q ≢ p → P q (seat_at b q)) → (q : ℕ) → P q (seat_at entered q) = by_seat b p fresh b.cells pl s.sized in
      let z = sized-change b p fresh b.cells pl s.sized refl in
      record {
        sized = record { few = z.few; most = z.most; cells = z.cells; seats = z.seats };
        next = omega arith;
        law = by (λ q v. q < seats_of b.ways → lawful_open b.ways v ≡ true) (λ l. climber-lawful) (λ q n l. s.law q l);
        handed = by (λ q v. q < seats_of b.ways → HandedFits v) (λ l e. absurd (let y : ◌≡◌ {A = ℕ} 0 1 = cc in omega arith)) (λ q n l. s.handed q l);
        apart = λ x y.
            by (λ q v. q < seats_of b.ways → y < seats_of b.ways → state_number v.state ≢ 0 → state_number (seat_at entered y).state ≢ 0 → v.passage.0 ≡ (seat_at entered y).passage.0 → q ≡ y)
            (by (λ q v. p < seats_of b.ways → q < seats_of b.ways → state_number fresh.state ≢ 0 → state_number v.state ≢ 0 → fresh.passage.0 ≡ v.passage.0 → p ≡ q)
            (λ l m d e f. refl)
            (λ q n l m d e f. absurd (new_number q m (sym f))) y)
            (λ q n.
            by (λ r v. q < seats_of b.ways → r < seats_of b.ways → state_number (seat_at b q).state ≢ 0 → state_number v.state ≢ 0 → (seat_at b q).passage.0 ≡ v.passage.0 → q ≡ r)
            (λ l m d e f. absurd (new_number q l f))
            (λ r o l m d e f. s.apart q r l m d e f) y)
            x;
        given = by (λ q v. q < seats_of b.ways → v.passage.0 < b.next + 1) (λ l. omega arith) (λ q n l. let g = s.given q l in omega arith);
        late = by (λ q v. q < seats_of b.ways → place_number v.place ≡ 70 → Late entered q v)
            (λ l e. absurd (omega arith))
            (λ q n l e.
            let y = s.late q l e in
            let k = seat_at b q in
            record {
              given = let g = y.given in omega arith;
              apart = by (λ r v. r < seats_of b.ways → YetAt v k.height → gate_of b.ways r k.height ≡ gate_of b.ways q k.height → way_of b.ways r k.height ≡ k.kept_way.0 → v.passage.0 ≢ k.kept_number.0)
                  (λ m o d f x. let g = y.given in omega arith)
                  (λ r o m d f g x. y.apart r m d f g x);
            });
      }

away_alike : (w n : ℕ) (s : Seat) → lawful_open w s ≡ true → state_number s.state ≡ 0 → Alike w s (climber n)
away_alike w n s law e =
    record {
      low = grind arith;
      high = λ r v r' v'. grind arith;
      shows = shows_nothing s (climber n) (grind arith) refl;
    }

pub keeps_apply : (b : BoxState) (G : Ghost) (p x : ℕ) → Related b G → (applied b p).answer ≡ Ok x → (G' : Ghost) × Related (applied b p).after G'
keeps_apply b G p x R e =
    let A = apply_accepted b p x e in
    let pl = A.enters.reach.inside in (
      G,
      subst (λ (a : BoxState). Related a G) (sym A.after)
          (still_related b p (climber b.next) (b.next + 1) G R pl (away_alike b.ways b.next (seat_at b p) (R.sound.law p pl) A.away) (applied-sound b p R.sound pl A.number)),
    )

-- a holder or a climber has not handed over
unhanded : (b : BoxState) (p : ℕ) → Sound b → p < seats_of b.ways → state_number (seat_at b p).state ≢ 3 → (seat_at b p).handed ≡ false
unhanded b p s pl n = false_from_ne_true (seat_at b p).handed (λ e. n (s.handed p pl e).0)

-- a seat that goes to give back all that it has won, from height 1 on, and may have been marked
module _ (b : BoxState) (G : Ghost) (p : ℕ) (R : Related b G) (pl : p < seats_of b.ways) (s : Seat) (same : s.passage.0 ≡ (seat_at b p).passage.0) (kept : s.handed ≡ (seat_at b p).handed) (tops : s.top ≡ (seat_at b p).top) where
  abbrev s₀ : Seat
  s₀ = seat_at b p

  abbrev gone : Seat
  gone = moved s Leaving ReadRole 1 s.top

  leaves_all : lawful_open b.ways gone ≡ true → (state_number s₀.state ≡ 1) ⊎ (state_number s₀.state ≡ 2) → stands_at s₀ ≡ 0 → low_of s₀ ≡ 1 → ((r v : ℕ) → high_of b.ways r v s₀ ≡ s₀.top) → Next b p gone b.cells
  leaves_all law live nowhere low high =
      let u : s.handed ≡ false = kept ∙ unhanded b p R.sound pl (λ e. elim live [ inl d ↦ omega arith | inr d ↦ omega arith ]) in
      let some : state_number s₀.state ≢ 0 = λ e. elim live [ inl d ↦ omega arith | inr d ↦ omega arith ] in
      let g = R.sound.given p pl in
      changes b G p gone R pl
      (record {
        low = sym low;
        high = λ r v r' v'. ap (λ x. cond x 1 s.top) u ∙ tops ∙ sym (high r' v');
        shows = shows_nothing s₀ gone nowhere refl;
      })
      (record {
        law = law;
        handed = λ e. absurd (let y : ◌≡◌ {A = ℕ} 0 1 = cc in omega arith);
        passage = λ e. (some, same);
        given = omega arith;
        yet = λ k y. absurd (let q = y.0 in omega arith);
        late = λ e. absurd (omega arith);
      })

holds_is : (s : Seat) → state_number s.state ≡ 2 → s.state ≡ Holding
holds_is s e = grind arith

departing-lawful : (w : ℕ) (s : Seat) → 2 ≤ w → lawful_open w s ≡ true → state_number s.state ≡ 2 → lawful_open w (departing s) ≡ true
departing-lawful w s few law e = let d = holds_is s e in grind (arith, nat_tests)

pub keeps_leave : (b : BoxState) (G : Ghost) (p n x : ℕ) → Related b G → (left b p n).answer ≡ Ok x → (G' : Ghost) × Related (left b p n).after G'
keeps_leave b G p n x R e =
    let A = leave_accepted b p n x e in
    let pl = A.enters.reach.inside in
    let s = seat_at b p in
    let h = A.holds in
    let y = leaves_all b G p R pl s refl refl refl (departing-lawful b.ways s R.sound.sized.few (R.sound.law p pl) h) (inr h) (grind arith) (grind arith) (λ r v. grind arith) in
    (y.0, subst (λ (a : BoxState). Related a y.0) (sym A.left_after) y.1)

-- who stands at a gate occupies its way there
pub acts_at : (b : BoxState) (G : Ghost) (p : ℕ) → Related b G → p < seats_of b.ways → stands_at (seat_at b p) ≢ 0 → Acts b G p (seat_at b p).height
acts_at b G p R pl n =
    let s = seat_at b p in
    let few = R.sound.sized.few in
    let c = occupies_own b.ways (word_of b (gate_of b.ways p s.height) (Role (record { 0 = way_of b.ways p s.height }))) (word_of b (gate_of b.ways p s.height) SyncOne) s (R.sound.law p pl) n in
    let below : s.height < b.ways = let d = c.2 in omega arith in
    record { related = R; inside = pl; height = refl; low = c.1; high = below; occupant = inr (R.linked.owned p s.height pl c.1 below (c.3, c.4)) }

-- who waits as a pawn, or is new at a gate, is no queen
no_queen : (h H : ℕ) (f : Phase) (c : Cells) (i : ℕ) (v : Stand) (x : Marks) → v.stage ≡ 1 → 5 ≤ v.place → v.place ≤ 8 → WayOk h H f c i v x → x.role ≢ 2
no_queen h H f c i v x a b d wo e = grind arith

-- the places of a seat that has not given up, but 2
climbs_past : (x : Place) → place_number x ≤ 16 → 2 ≤ place_number x → place_number x ≢ 2 → (place_number x ≡ 16) ⊎ ((place_number x ≡ 14) ⊎ ((5 ≤ place_number x) × (place_number x ≤ 8)))
climbs_past x l m n = grind arith

closing-lawful : (w : ℕ) (s : Seat) → lawful_open w s ≡ true → s.state ≡ Climbing → lawful_open w (goes_to (marked s) CloseApply) ≡ true
closing-lawful w s law e = grind (arith, nat_tests)

marked-lawful : (w : ℕ) (s : Seat) → lawful_open w s ≡ true → s.state ≡ Climbing → place_number s.place ≡ 16 → lawful_open w (marked s) ≡ true
marked-lawful w s law e d = grind (arith, nat_tests)

backed_lawful : (w : ℕ) (s : Seat) → lawful_open w s ≡ true → s.state ≡ Climbing → s.top ≢ 0 → lawful_open w (moved (marked s) Leaving ReadRole 1 s.top) ≡ true
backed_lawful w s law e d = grind (arith, nat_tests)

high_won : (w r v r' v' : ℕ) (s : Seat) → s.state ≡ Climbing → place_number s.place ≡ 16 → high_of w r v (marked s) ≡ high_of w r' v' s
high_won w r v r' v' s e d = grind (arith, nat_tests)

high_pawn : (w r v : ℕ) (s : Seat) → s.state ≡ Climbing → 5 ≤ place_number s.place → place_number s.place ≤ 8 → r ≢ 2 → high_of w r v (goes_to (marked s) CloseApply) ≡ high_of w r v s
high_pawn w r v s e l m d = grind (arith, nat_tests)

high_queen : (w r v : ℕ) (s : Seat) → s.state ≡ Climbing → place_number s.place ≡ 14 → high_of w r v (goes_to (marked s) CloseApply) ≡ high_of w r v s
high_queen w r v s e d = grind (arith, nat_tests)

is_within : (n : ℕ) → within 5 14 n ≡ true → n ≢ 16
is_within n e d = grind (arith, nat_tests)

not_within : (n : ℕ) → within 5 14 n ≡ false → (n ≡ 14) ⊎ ((5 ≤ n) × (n ≤ 8)) → ⊥
not_within n e d = grind (arith, nat_tests)

climbs_is : (s : Seat) → state_number s.state ≡ 1 → s.state ≡ Climbing
climbs_is s e = grind arith

module _ (b : BoxState) (G : Ghost) (p : ℕ) (R : Related b G) (pl : p < seats_of b.ways) (F : FreshAt b.ways (seat_at b p)) where
  abbrev own : Seat
  own = seat_at b p

  abbrev Gives : Seat → Type 0
  Gives r = Next b p r b.cells

  own_law : lawful_open b.ways own ≡ true
  own_law = R.sound.law p pl

  state : own.state ≡ Climbing
  state = F.state

  climbing : state_number own.state ≡ 1
  climbing = ap state_number state

  -- it has yet to enter a gate: it has nothing to withdraw
  backs_away : place_number own.place ≡ 2 → own.top ≡ 0 → Gives away
  backs_away d e =
      let one = R.sound.next in
      changes b G p away R pl
      (record {
        low = grind arith;
        high = λ r v r' v'. grind (arith, nat_tests);
        shows = shows_nothing own away (grind arith) refl;
      })
      (record {
        law = refl;
        handed = λ q. absurd (let y : ◌≡◌ {A = ℕ} 0 1 = cc in omega arith);
        passage = λ q. absurd (q refl);
        given = omega arith;
        yet = λ k y. absurd (let q = y.0 in omega arith);
        late = λ q. absurd (omega arith);
      })

  backs : place_number own.place ≡ 2 → Gives (backed_out (marked own))
  backs d =
      cond_both (eqb own.top 0) away (moved (marked own) Leaving ReadRole 1 own.top) Gives (λ e. backs_away d (eqb-true _ _ e))
      (λ e.
      leaves_all b G p R pl (marked own) refl refl refl (backed_lawful b.ways own own_law state (eqb-false _ _ e)) (inl climbing) (grind arith) (grind arith)
      (λ r v. grind (arith, nat_tests)))

  -- it has won the gate already
  marks : place_number own.place ≡ 16 → Gives (marked own)
  marks d =
      changes b G p (marked own) R pl
      (record {
        low = refl;
        high = λ r v r' v'. high_won b.ways r v r' v' own state d;
        shows = λ o k n l. refl;
      })
      (record {
        law = marked-lawful b.ways own own_law state d;
        handed = R.sound.handed p pl;
        passage = λ e. (e, refl);
        given = R.sound.given p pl;
        yet = λ k y. y;
        late = λ e. absurd (omega arith);
      })

  -- it waits at a gate
  closes_at : (place_number own.place ≡ 14) ⊎ ((5 ≤ place_number own.place) × (place_number own.place ≤ 8)) → Gives (goes_to (marked own) CloseApply)
  closes_at d =
      let late : 5 ≤ place_number own.place = elim d [ inl q ↦ omega arith | inr q ↦ q.0 ] in
      let past : place_number own.place ≢ 2 = λ e. omega arith in
      let up : 1 ≤ own.height = let q = F.low in omega arith in
      let n = stands_climbing own state past up in
      let A = acts_at b G p R pl n in
      let h = own.height in
      let w = b.ways in
      let f = G.phase (gate_of w p h) in
      let i = way_of w p h in
      let v = stand_of own in
      let stage : v.stage ≡ 1 = ap stage_in state in
      let t = goes_to (marked own) CloseApply in
      let upto : place_number own.place ≤ 16 = F.upto in
      go A (writes_nothing A) t f Nothing (λ j l o r. refl) (λ j l o. tt) n
      (record { law = closing-lawful w own own_law state; state = refl; height = refl; handed = refl; passage = refl; within = λ e. omega arith; begun = λ e. omega arith; later = λ r. absurd (omega arith) })
      (elim d [
        | inl q ↦ high_queen w (x₀ A).role (c₀ A).sync_one own state q
        | inr q ↦ high_pawn w (x₀ A).role (c₀ A).sync_one own state q.0 q.1 (no_queen h (heights_of w) f (c₀ A) i v (x₀ A) stage q.0 q.1 (way_ok A n))
      ])
      (λ r. absurd (omega arith))
      (calmly A (c₀ A) v (to 19 v) (x₀ A) (elim d [
        | inl q ↦ give_up_queen w h (heights_of w) f (c₀ A) i (here A) v (x₀ A) (cells_ok A) (way_ok A n) stage q
        | inr q ↦ give_up_pawn w h (heights_of w) f (c₀ A) i (here A) v (x₀ A) (cells_ok A) (way_ok A n) stage q.0 q.1
      ]))

  gives : Gives (given_up own)
  gives =
      let x = place_number own.place in
      cond_both (eqb x 2) _ _ Gives (λ e. backs (eqb-true _ _ e))
      (λ e.
      let y = climbs_past own.place F.upto F.from (eqb-false _ _ e) in
      cond_both (within 5 14 x) _ _ Gives
      (λ d. elim y [
        | inl q ↦ absurd (is_within x d q)
        | inr q ↦ closes_at q
      ])
      (λ d. elim y [
        | inl q ↦ marks q
        | inr q ↦ absurd (not_within x d q)
      ]))

pub keeps_give_up : (b : BoxState) (G : Ghost) (p n x : ℕ) → Related b G → (gave_up_outcome b p n).answer ≡ Ok x → (G' : Ghost) × Related (gave_up_outcome b p n).after G'
keeps_give_up b G p n x R e =
    let A = give_up_accepted b p n x e in
    let pl = A.enters.reach.inside in
    let s = seat_at b p in
    let c = climbs_is s A.climbs in
    let y = gives b G p R pl (fresh_at b.ways s (parts_from_lawful b.ways s A.enters.law (λ z. let d = A.climbs in omega arith)) c A.unmarked) in
    (y.0, subst (λ (a : BoxState). Related a y.0) (sym A.after) y.1)

pub keeps_publish : (b : BoxState) (G : Ghost) (p n x : ℕ) → Related b G → (published b p n).answer ≡ Ok x → (G' : Ghost) × Related (published b p n).after G'
keeps_publish b G p n x R e =
    (G, subst (λ (a : BoxState). Related a G) (sym (publish_accepted b p n x e).published-after) R)

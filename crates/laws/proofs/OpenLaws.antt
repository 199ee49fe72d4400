-- The next seat that applies to an empty box and is polled alone with coin 0 holds after three polls for each height, and
-- after no fewer. Assumes nothing; that the gates of an empty box are clear is a premise.
--     Clear b p k            nobody has come to the gate that seat p meets at height k, and nobody stands on its way
--     EmptyClear b           if all seats are away, every gate is clear for every seat
--     accepted_run           a run comes to the same box as its accepted calls alone
--     word_kept, clear_kept  a poll leaves the gates above, and they stay clear
--     Course b s p n         how far seat p, with the record s, has come by n such polls: it enters a gate, races for its role,
--                            marks it as won, or holds
--     course-apply, course-poll, course-run   it begins with the application, and goes on with each poll
--     open_next              what the law of runs says of an empty box
use Rattle.std.proofs.Common.{◌≡◌, ℕ, ◌+◌, ◌*◌, ◌<◌, ◌≤◌, true, false, cond, ◌≢◌, List, [], ◌∷◌, length, get_or, set, is_ok, Ok, Err, Result, sym, refl, ap, ◌∙◌, subst, ⊎_elim, arith}
use Rattle.std.proofs.lemmas.List.{get_or-set_same, get_or-set_other}
use Rattle.std.proofs.lemmas.Bool.{cases_eq, cond-true, cond-false, eq-eqb, ne_eqb}
use Rattle.layout.specs.declared.fault.Refusal.{Refusal}
use Rattle.layout.specs.declared.path.Meeting.{Meeting}
use Rattle.layout.specs.Gates.{heights_of, seats_of, gate_of, way_of, gate_cells, count_cell, apply_cell}
use Rattle.layout.specs.Meetings.{meeting}
use Rattle.seats.specs.declared.seat.Seat.{Seat}
use Rattle.seats.specs.declared.place.Place.{Place}
use Rattle.seats.specs.declared.place.Place.TheVariants.{Rest, ClaimApply, RaceForRole, MarkApply}
use Rattle.seats.specs.declared.state.State.TheVariants.{Climbing, Holding}
use Rattle.seats.specs.Lawful.{ranged}
use Rattle.seats.specs.Places.{state_number}
use Rattle.seats.specs.Seats.{away, goes_to, aims, moved}
use Rattle.seats.proofs.SeatLaws.{ranged-from_lawful}
use Rattle.steps.specs.declared.cells.Cell.TheVariants.{Count, Role, Apply as ApplyOf}
use Rattle.steps.specs.declared.codes.Coin.TheVariants.{TryKing}
use Rattle.steps.specs.Codes.{reg, pro}
use Rattle.steps.specs.Outcomes.{Outcome, did, word, put, swapped, captured}
use Rattle.steps.specs.Polls.{step_of}
use Rattle.steps.proofs.PollLaws.{ready_from_ranged, low_from_ranged}
use Rattle.lock.specs.States.{BoxState, seat_at, with_seat}
use Rattle.lock.specs.Calls.{applied, polled, climber}
use Rattle.laws.specs.declared.call.Call.{Call}
use Rattle.laws.specs.declared.call.Call.TheVariants.{Apply, Poll, GiveUp, Leave, Publish}
use Rattle.laws.specs.Runs.{performed, run}
use Rattle.laws.specs.Law.{accepts, accepted_of, state_in, AllAway, AloneCall, Alone, Holds, OpenNext}
use Rattle.relation.proofs.Accepted.{PolledBy, Applied, poll_step, apply_accepted, poll_accepted}
use Rattle.relation.proofs.Frames.{step_outside, gate_apart}
use Rattle.relation.proofs.Geometry.{gate_inside, height_apart}
use Rattle.laws.proofs.Prompt.{accepted_is, ways_performed, refused_same}

pub record Clear (b : BoxState) (p k : ℕ) : Type 0 where
  pub count : word b.cells (meeting b.ways p k) Count ≡ 0
  pub apply : word b.cells (meeting b.ways p k) (ApplyOf (meeting b.ways p k).way) ≡ 0

abbrev pub EmptyClear : BoxState → Type 0
EmptyClear b = AllAway b → (p k : ℕ) → p < seats_of b.ways → 1 ≤ k → k < b.ways → Clear b p k

abbrev AllAccepted : List Call → BoxState → Type 0
AllAccepted [] b = Unit {0}
AllAccepted (c ∷ cs) b = (accepts c b ≡ true) × AllAccepted cs (performed c b).after

-- the calls ps are all accepted, and come to the same box as cs
record RunBy (cs ps : List Call) (b : BoxState) : Type 0 where
  accepted : AllAccepted ps b
  same : run cs b ≡ run ps b

accepted_more : (c : Call) (cs ps : List Call) (b : BoxState) (r : Result ℕ Refusal) → (performed c b).answer ≡ r → RunBy cs ps (performed c b).after → RunBy (c ∷ cs) (cond (accepts c b) (c ∷ ps) ps) b
accepted_more c cs ps b (Ok x) e i =
    let a : accepts c b ≡ true = ap is_ok e in
    subst (λ qs. RunBy (c ∷ cs) qs b) (sym (cond-true _ _ _ a)) (record { accepted = (a, i.accepted); same = i.same })
accepted_more c cs ps b (Err f) e i =
    let q = refused_same c b f e in
    subst (λ qs. RunBy (c ∷ cs) qs b) (sym (cond-false _ _ _ (ap is_ok e)))
    (record { accepted = subst (λ a. AllAccepted ps a) q i.accepted; same = i.same ∙ ap (λ a. run ps a) q })

accepted_run : (cs : List Call) (b : BoxState) → RunBy cs (accepted_of cs b) b
accepted_run [] b = record { accepted = tt; same = refl }
accepted_run (c ∷ cs) b = accepted_more c cs _ b (performed c b).answer refl (accepted_run cs (performed c b).after)

ways_run : (cs : List Call) (b : BoxState) → (run cs b).ways ≡ b.ways
ways_run [] b = refl
ways_run (c ∷ cs) b = ways_run cs (performed c b).after ∙ ways_performed c b

-- seat p climbs with the record s, has not given up, and finds the gates above clear
record Climbs (b : BoxState) (s : Seat) (p : ℕ) : Type 0 where
  state : s.state ≡ Climbing
  mark : s.gave_up ≡ false
  high : s.height < b.ways
  above : (k : ℕ) → s.height < k → k < b.ways → Clear b p k

data Course (b : BoxState) (s : Seat) (p n : ℕ) : Type 0 where
  enters : Climbs b s p → s.place ≡ ClaimApply → n + 3 ≡ 3 * s.height → Clear b p s.height → Course b s p n
  races : Climbs b s p → s.place ≡ RaceForRole → n + 2 ≡ 3 * s.height → word b.cells (meeting b.ways p s.height) Count ≡ 0 → Course b s p n
  marks : Climbs b s p → s.place ≡ MarkApply → n + 1 ≡ 3 * s.height → s.aim ≡ s.height → Course b s p n
  holds : s.state ≡ Holding → n ≡ 3 * heights_of b.ways → Course b s p n

-- an accepted poll with coin 0 of seat p, whose record is s, at the gate that it meets; o is the outcome of the step
module _ (b : BoxState) (p m n : ℕ) (few : 2 ≤ b.ways) (most : b.ways ≤ 4) (h : PolledBy b p m 0) where
  abbrev s : Seat
  s = seat_at b p

  abbrev gate : Meeting
  gate = meeting b.ways p s.height

  abbrev Next : Outcome (Unit {0}) → Type 0
  Next o = Course (with_seat b p o.seat o.cells) o.seat p (n + 1)

  module _ (c : Climbs b s p) (o : Outcome (Unit {0})) (q : poll_step b p 0 ≡ o) where
    in-range : ranged b.ways s ≡ true
    in-range =
        ranged-from_lawful b.ways s h.law (λ z. let e : state_number s.state ≡ 1 = ap state_number c.state in omega arith)

    word_kept : (k i : ℕ) → s.height < k → k < b.ways → i < gate_cells b.ways → get_or o.cells ((meeting b.ways p k).base + i) 0 ≡ get_or b.cells ((meeting b.ways p k).base + i) 0
    word_kept k i l u r =
        let w = b.ways in
        let inside = h.reach.inside in
        let low = low_from_ranged w s in-range in
        let ne : gate_of w p k ≢ gate_of w p s.height =
        λ e. let d = height_apart w k few most (omega arith) u s.height p p low c.high inside inside e in omega arith in
        ap (λ x. get_or x.cells ((meeting w p k).base + i) 0) (sym q)
        ∙ step_outside s.place TryKing gate s b.cells ((meeting w p k).base + i)
        (gate_inside w s.height few most low c.high p inside).1
        (ready_from_ranged w s in-range).kept
        (gate_apart w (gate_of w p k) (gate_of w p s.height) i ne r)

    clear_kept : (k : ℕ) → s.height < k → k < b.ways → Clear (with_seat b p o.seat o.cells) p k
    clear_kept k l u =
        let v = (gate_inside b.ways k few most (omega arith) u p h.reach.inside).1 in
        record {
          count = word_kept k count_cell l u (omega arith) ∙ (c.above k l u).count;
          apply = word_kept k (apply_cell (way_of b.ways p k)) l u (omega arith) ∙ (c.above k l u).apply;
        }

    climbs-on : o.seat.state ≡ Climbing → o.seat.gave_up ≡ false → s.height ≤ o.seat.height → o.seat.height < b.ways → Climbs (with_seat b p o.seat o.cells) o.seat p
    climbs-on e g l u = record { state = e; mark = g; high = u; above = λ k v. clear_kept k (omega arith) }

  at_place : (x : Place) → s.place ≡ x → poll_step b p 0 ≡ step_of x TryKing gate s b.cells
  at_place x e = ap (λ y. step_of y TryKing gate s b.cells) e

  course-poll : Course b s p n → Next (poll_step b p 0)
  course-poll (enters c e t o) =
      let ws = put b.cells gate (ApplyOf gate.way) (reg s.passage.0) in
      let x : Outcome (Unit {0}) = did (put ws gate (Role gate.way) 0) (goes_to s RaceForRole) in
      let q = at_place ClaimApply e ∙ cond-true _ x (did b.cells s) (eq-eqb _ 0 o.apply) in
      let k : word x.cells gate Count ≡ 0 =
      get_or-set_other ws _ (gate.base + count_cell) 0 0 (omega arith)
      ∙ (get_or-set_other b.cells _ (gate.base + count_cell) _ 0 (omega arith) ∙ o.count) in
      subst (λ y. Next y) (sym q) (races (climbs-on c x q c.state c.mark (omega arith) c.high) refl (omega arith) k)
  course-poll (races c e t o) =
      let ws = put b.cells gate Count 1 in
      let x : Outcome (Unit {0}) = did (put ws gate (Role gate.way) 1) (goes_to (aims s s.height) MarkApply) in
      let q = at_place RaceForRole e ∙ cond-true _ x (did b.cells s) (eq-eqb _ 0 o) in
      subst (λ y. Next y) (sym q) (marks (climbs-on c x q c.state c.mark (omega arith) c.high) refl (omega arith) refl)
  course-poll (marks c e t a) =
      let ws = swapped b.cells gate (ApplyOf gate.way) (reg s.passage.0) (pro s.passage.0) in
      let last : Seat = moved s Holding Rest s.aim s.aim in
      let more : Seat = moved s Climbing ClaimApply (s.aim + 1) s.aim in
      let q : poll_step b p 0 ≡ did ws (captured gate s) = at_place MarkApply e in
      ⊎_elim
      (λ (i : s.aim ≡ heights_of b.ways).
      let r = q ∙ ap (λ u. did ws u) (cond-true _ last _ (eq-eqb _ _ i)) in
      subst (λ y. Next y) (sym r) (holds refl (omega arith)))
      (λ (i : s.aim ≢ heights_of b.ways).
      let r = q ∙ ap (λ u. did ws u) (cond-false _ last _ (ne_eqb _ _ i) ∙ cond-false _ _ more c.mark) in
      let u = c.high in
      let v : s.aim + 1 < b.ways = omega arith in
      subst (λ y. Next y) (sym r)
      (enters (climbs-on c (did ws more) r refl c.mark (omega arith) v) refl (omega arith)
      (clear_kept c (did ws more) r (s.aim + 1) (omega arith) v)))
      (cases_eq s.aim (heights_of b.ways))
  course-poll (holds e t) = let z : state_number s.state ≡ 2 = ap state_number e in absurd (omega (arith, h.moves))

abbrev CourseIn : BoxState → ℕ → ℕ → Type 0
CourseIn b p n = Course b (seat_at b p) p n

-- an accepted call of seat p alone is a poll with coin 0
alone-polled : (c : Call) (b : BoxState) (p : ℕ) → AloneCall p c → accepts c b ≡ true → (m : ℕ) × (PolledBy b p m 0 × ((performed c b).after ≡ (polled b p m 0).after))
unfolding performed
alone-polled (Apply q) b p l a = absurd l
alone-polled (Poll q m k) b p l a =
    let same : polled b q.0 m.0 k ≡ polled b p m.0 0 = λ i. polled b (l.0 i) m.0 (l.1 i) in
    let x = accepted_is (polled b q.0 m.0 k).answer a in
    (m.0, (poll_accepted b p m.0 0 x.0 (sym (ap (λ o. o.answer) same) ∙ x.1), ap (λ o. o.after) same))
alone-polled (GiveUp q m) b p l a = absurd l
alone-polled (Leave q m) b p l a = absurd l
alone-polled (Publish q m) b p l a = absurd l

course-call : (c : Call) (b : BoxState) (p n : ℕ) → 2 ≤ b.ways → b.ways ≤ 4 → AloneCall p c → accepts c b ≡ true → CourseIn b p n → CourseIn (performed c b).after p (n + 1)
course-call c b p n few most l a o =
    let y = alone-polled c b p l a in
    let h = y.1.0 in
    let s = (poll_step b p 0).seat in
    let d : BoxState = with_seat b p s (poll_step b p 0).cells in
    let same : seat_at d p ≡ s = get_or-set_same b.seats p s away (omega (arith, h.reach.seats, h.reach.inside)) in
    subst (λ x. CourseIn x p (n + 1)) (sym (y.1.1 ∙ h.after))
    (subst (λ x. Course d x p (n + 1)) (sym same) (course-poll b p y.0 n few most h o))

course-run : (ps : List Call) (b : BoxState) (p n t : ℕ) → n + length ps ≡ t → 2 ≤ b.ways → b.ways ≤ 4 → AllAccepted ps b → Alone p ps → CourseIn b p n → CourseIn (run ps b) p t
course-run [] b p n t z few most a l o = subst (λ k. CourseIn b p k) (omega arith) o
course-run (c ∷ ps) b p n t z few most a l o =
    let w = ways_performed c b in
    course-run ps (performed c b).after p (n + 1) t (omega arith) (omega arith) (omega arith) a.1 l.1
    (course-call c b p n few most l.0 a.0 o)

course-apply : (b : BoxState) (p : ℕ) → 2 ≤ b.ways → AllAway b → EmptyClear b → Applied b p → CourseIn (applied b p).after p 0
course-apply b p few v clear h =
    let s = climber b.next in
    let d : BoxState = record { ways = b.ways; next = b.next + 1; seats = set b.seats p s; cells = b.cells } in
    let inside = h.enters.reach.inside in
    let same : seat_at d p ≡ s = get_or-set_same b.seats p s away (omega (arith, h.enters.reach.seats)) in
    let free : (k : ℕ) → 1 ≤ k → k < b.ways → Clear d p k =
    λ k l u. let o = clear v p k inside l u in record { count = o.count; apply = o.apply } in
    subst (λ x. CourseIn x p 0) (sym h.after)
    (subst (λ x. Course d x p 0) (sym same)
    (enters (record { state = refl; mark = refl; high = omega arith; above = λ k l. free k (omega arith) }) refl refl (free 1 (omega arith) (omega arith))))

-- a seat that climbs has made fewer polls than three for each height
climbs-holds : (b a : BoxState) (p n : ℕ) → a.ways ≡ b.ways → Climbs a (seat_at a p) p → n < 3 * (seat_at a p).height → Holds b a p n
climbs-holds b a p n w c l =
    let e : state_in a p ≡ 1 = ap state_number c.state in
    let u = c.high in record { before = λ z f. omega arith; thereupon = λ z. absurd (omega arith) }

course-holds : (b a : BoxState) (p n : ℕ) → a.ways ≡ b.ways → CourseIn a p n → Holds b a p n
course-holds b a p n w (enters c e t o) = climbs-holds b a p n w c (omega arith)
course-holds b a p n w (races c e t o) = climbs-holds b a p n w c (omega arith)
course-holds b a p n w (marks c e t i) = climbs-holds b a p n w c (omega arith)
course-holds b a p n w (holds e t) = record { before = λ z. absurd (omega arith); thereupon = λ z. ap state_number e }

pub open_next : (cs : List Call) (b : BoxState) → 2 ≤ b.ways → b.ways ≤ 4 → EmptyClear b → OpenNext cs b
unfolding performed
open_next cs b few most clear v p ps e l =
    let r = subst (λ qs. RunBy cs qs b) e (accepted_run cs b) in
    let x = accepted_is (applied b p).answer r.accepted.0 in
    let a = (applied b p).after in
    let w = ways_performed (Apply (record { 0 = p })) b in
    let o = course-apply b p few v clear (apply_accepted b p x.0 x.1) in
    subst (λ y. Holds b y p (length ps)) (sym r.same)
    (course-holds b (run ps a) p (length ps) (ways_run ps a ∙ w)
    (course-run ps a p 0 (length ps) (omega arith) (omega arith) (omega arith) r.accepted.1 l o))

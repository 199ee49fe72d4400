-- In a related box no call is refused as unlawful (5) or unfit (10). Assumes nothing.
--     FitRefusal   a refusal with another number than these, if there is one
--     Fits         the words that a step reads at 14, 27, 35 and 59 fit
--     step_done    a step whose words fit is done
--     fit_related  every call of a related box is answered so
use Rattle.std.proofs.Common.{◌≡◌, ℕ, ◌-◌, ◌<◌, ◌≤◌, true, false, not, ◌&&◌, ◌||◌, eqb, leb, ltb, Bool, ◌≢◌, ◌⊎◌, List, length, Some, None, Ok, Err, Option, Result, sym, refl, ap, ◌∙◌, subst, inl, inr, ⊎_elim, arith}
use Rattle.std.proofs.lemmas.Bool.{cond_both, eqb-false}
use Rattle.std.proofs.lemmas.Bool.Decides.{nat_tests}
use Rattle.layout.specs.declared.fault.Refusal.{Refusal}
use Rattle.layout.specs.declared.path.Meeting.{Meeting}
use Rattle.layout.specs.Gates.{heights_of, seats_of, cells_of, gate_of, way_of}
use Rattle.layout.specs.Meetings.{meeting}
use Rattle.layout.specs.Refusals.{refusal}
use Rattle.seats.specs.declared.seat.Seat.{Seat}
use Rattle.seats.specs.declared.place.Place.{Place}
use Rattle.seats.specs.declared.place.Place.TheVariants.{AwaitKing, AcceptGate, ReadRole, ReadSyncTwo}
use Rattle.seats.specs.Lawful.{lawful_open, lawful}
use Rattle.seats.specs.Places.{state_number, place_number}
use Rattle.steps.specs.declared.codes.Coin.{Coin}
use Rattle.steps.specs.declared.cells.Cell.TheVariants.{SyncOne, SyncTwo, Role}
use Rattle.steps.specs.Outcomes.{Outcome, word}
use Rattle.steps.specs.Polls.{ask, coin_of, takes_part, step_of, stepped, poll_refusal, poll_after, polled_seat, state_answered}
use Rattle.lock.specs.States.{BoxState, seat_at, settled}
use Rattle.lock.specs.Questions.{or_else, reach_refusal, enter_refusal, own_refusal, apply_refusal, give_up_refusal, holder_refusal, is_in}
use Rattle.lock.specs.Calls.{seat_settled, poll_settled}
use Rattle.laws.specs.declared.call.Call.{Call}
use Rattle.laws.specs.declared.call.Call.TheVariants.{Apply, Poll, GiveUp, Leave, Publish}
use Rattle.laws.specs.Runs.{performed}
use Rattle.laws.specs.Law.{FitAnswer}
use Rattle.gate.proofs.Gates.{still}
use Rattle.relation.proofs.Views.{word_of, Ghost, stands_at, stand_of, stage_in, low_of, high_of, stand_at, Occupies}
use Rattle.relation.proofs.Relation.{Related}
use Rattle.relation.proofs.Links.{shown-inside}
use Rattle.relation.proofs.Accepted.{poll_step}
use Rattle.relation.proofs.Acting.{Acts, occupies_own}
use Rattle.relation.proofs.Writings.{c₀, x₀, here, cells_ok, way_ok, at-gate}
use Rattle.relation.proofs.Standing.{queen_waits, queen_accepts, role_released, first_closed}

abbrev FitRefusal : Option Refusal → Type 0
FitRefusal None = Unit {0}
FitRefusal (Some f) = (f.number ≢ 5) × (f.number ≢ 10)

fit_else : (f g : Option Refusal) → FitRefusal f → (f ≡ None → FitRefusal g) → FitRefusal (or_else f g)
fit_else None g a n = n refl
fit_else (Some f) g a n = a

fit_ask : (q : Bool) (x p : ℕ) (rest : Option Refusal) → eqb x 5 ≡ false → eqb x 10 ≡ false → FitRefusal rest → FitRefusal (ask q (refusal x p) rest)
fit_ask q x p rest a b o = cond_both q rest (Some (refusal x p)) FitRefusal (λ e. o) (λ e. (eqb-false x 5 a, eqb-false x 10 b))

fit_lawful : (q : Bool) (p : ℕ) (rest : Option Refusal) → q ≡ true → FitRefusal rest → FitRefusal (ask q (refusal 5 p) rest)
fit_lawful q p rest e o = subst (λ (x : Bool). FitRefusal (ask x (refusal 5 p) rest)) (sym e) o

-- a seat that is reached is one of the box
inside : (b : BoxState) (p : ℕ) → reach_refusal b.ways (length b.seats) (length b.cells) p ≡ None → p < seats_of b.ways
inside b p e = grind (arith, nat_tests)

fit_settled : (b : BoxState) (f : Option Refusal) (x : ℕ) (a : BoxState) → FitRefusal f → FitAnswer (settled b f x a).answer
fit_settled b None x a o = tt
fit_settled b (Some f) x a o = o

fit_seat_settled : (b : BoxState) (p : ℕ) (r : Result ℕ Refusal) (o : Outcome ℕ) → FitAnswer r → FitAnswer (seat_settled b p r o).answer
fit_seat_settled b p (Ok x) o d = tt
fit_seat_settled b p (Err f) o d = d

fit_poll_settled : (f : Option Refusal) (b : BoxState) (p : ℕ) (o : Outcome ℕ) → FitRefusal f → (f ≡ None → FitAnswer o.answer) → FitAnswer (poll_settled f b p o).answer
fit_poll_settled None b p o a n = fit_seat_settled b p o.answer o (n refl)
fit_poll_settled (Some f) b p o a n = a

fit_stated : (r : Result (Unit {0}) Refusal) (s : Seat) → r ≡ Ok tt → FitAnswer (state_answered r s)
fit_stated r s e = subst (λ (x : Result (Unit {0}) Refusal). FitAnswer (state_answered x s)) (sym e) tt

fit_poll_after : (f : Option Refusal) (w p k : ℕ) (s : Seat) (ws : List ℕ) → FitRefusal f → (stepped (coin_of k) (meeting w p s.height) s ws).answer ≡ Ok tt → FitAnswer (poll_after f w p k s ws).answer
fit_poll_after None w p k s ws a d = fit_stated (stepped (coin_of k) (meeting w p s.height) s ws).answer (stepped (coin_of k) (meeting w p s.height) s ws).seat d
fit_poll_after (Some f) w p k s ws a d = a

-- the words that the step of a place reads
record Fits (x : Place) (m : Meeting) (s : Seat) (ws : List ℕ) : Type 0 where
  waits : x ≡ AwaitKing → (word ws m SyncOne ≡ 0) ⊎ ((s.height ≤ word ws m SyncOne) × (word ws m SyncOne ≤ heights_of m.ways))
  accepts : x ≡ AcceptGate → (s.height ≤ word ws m SyncOne) × (word ws m SyncOne ≤ heights_of m.ways)
  releases : x ≡ ReadRole → (word ws m (Role m.way) ≡ 1) ⊎ ((word ws m (Role m.way) ≡ 2) ⊎ (word ws m (Role m.way) ≡ 4))
  closed : x ≡ ReadSyncTwo → (1 ≤ word ws m SyncTwo) × (word ws m SyncTwo ≤ m.ways)

step_done : (x : Place) (c : Coin) (m : Meeting) (s : Seat) (ws : List ℕ) → Fits x m s ws → (step_of x c m s ws).answer ≡ Ok tt
step_done x c m s ws f = grind (arith, nat_tests)

height_inside : (w : ℕ) (s : Seat) → lawful_open w s ≡ true → state_number s.state ≢ 0 → (1 ≤ s.height) × (s.height ≤ heights_of w)
height_inside w s law n = (grind (arith, nat_tests), grind (arith, nat_tests))

stage_number : (s : Seat) → stage_in s.state ≡ state_number s.state
stage_number s = grind arith

-- a lawful seat at 14 or 27 climbs, at 35 it leaves and has its gates up to the top, and at 59 it does one of the two
climbs_waiting : (w : ℕ) (s : Seat) → lawful_open w s ≡ true → (place_number s.place ≡ 14) ⊎ (place_number s.place ≡ 27) → (state_number s.state ≡ 1) × (stands_at s ≢ 0)
climbs_waiting w s law e = (grind (arith, nat_tests), λ d. grind (arith, nat_tests))

leaves_at_35 : (w : ℕ) (s : Seat) → lawful_open w s ≡ true → place_number s.place ≡ 35 → (state_number s.state ≡ 3) × (stands_at s ≡ 0) × (s.height ≤ s.top)
leaves_at_35 w s law e = (grind (arith, nat_tests), grind (arith, nat_tests), grind (arith, nat_tests))

moves_at_59 : (w : ℕ) (s : Seat) → lawful_open w s ≡ true → place_number s.place ≡ 59 → ((state_number s.state ≡ 1) ⊎ (state_number s.state ≡ 3)) × (stands_at s ≢ 0)
moves_at_59 w s law e = (grind (arith, nat_tests), λ d. grind (arith, nat_tests))

leaving_low : (s : Seat) → state_number s.state ≡ 3 → low_of s ≤ s.height
leaving_low s e = grind arith

leaving_high : (w r t : ℕ) (s : Seat) → state_number s.state ≡ 3 → (s.handed ≡ true → ⊥) → s.height ≤ s.top → s.height ≤ high_of w r t s
leaving_high w r t s e n l = grind (arith, nat_tests)

module _ (b : BoxState) (G : Ghost) (R : Related b G) (p : ℕ) (pl : p < seats_of b.ways) where
  abbrev w : ℕ
  w = b.ways

  abbrev s : Seat
  s = seat_at b p

  abbrev h : ℕ
  h = s.height

  abbrev g : ℕ
  g = gate_of w p h

  abbrev i : ℕ
  i = way_of w p h

  law : lawful_open w s ≡ true
  law = R.sound.law p pl

  acting : state_number s.state ≢ 0 → Occupies b p h → Acts b G p h
  acting n o =
      let q = height_inside w s law n in
      let q₁ = q.1 in
      let few = R.sound.sized.few in
      let high : h < w = omega arith in
      record { related = R; inside = pl; height = refl; low = q.0; high = high; occupant = inr (R.linked.owned p h pl q.0 high o) }

  standing : state_number s.state ≢ 0 → stands_at s ≢ 0 → Acts b G p h
  standing n d =
      let q = occupies_own w (word_of b g (Role (record { 0 = i }))) (word_of b g SyncOne) s law d in
      acting n (q.3, q.4)

  -- who is about to give its gates back has handed over nothing, and has them up to the top
  at_35 : place_number s.place ≡ 35 → Occupies b p h
  at_35 d =
      let c = leaves_at_35 w s law d in
      let kept : s.handed ≡ true → ⊥ = λ e. let q = (R.sound.handed p pl e).1 in omega arith in
      (leaving_low s c.0, leaving_high w (word_of b g (Role (record { 0 = i }))) (word_of b g SyncOne) s c.0 kept c.2)

  waits_fits : s.place ≡ AwaitKing → (word_of b g SyncOne ≡ 0) ⊎ ((h ≤ word_of b g SyncOne) × (word_of b g SyncOne ≤ heights_of w))
  waits_fits e =
      let d : place_number s.place ≡ 14 = ap place_number e in
      let c = climbs_waiting w s law (inl d) in
      let A = standing (λ z. let y = c.0 in omega arith) c.1 in
      (queen_waits w h (heights_of w) (G.phase g) (c₀ A) i (stand_of s) (x₀ A) (here A).low (here A).high (here A).most (cells_ok A) (way_ok A c.1) (stage_number s ∙ c.0) d).1

  accepts_fits : s.place ≡ AcceptGate → (h ≤ word_of b g SyncOne) × (word_of b g SyncOne ≤ heights_of w)
  accepts_fits e =
      let d : place_number s.place ≡ 27 = ap place_number e in
      let c = climbs_waiting w s law (inr d) in
      let A = standing (λ z. let y = c.0 in omega arith) c.1 in
      let q = queen_accepts w h (heights_of w) (G.phase g) (c₀ A) i (stand_of s) (x₀ A) (here A).low (here A).high (here A).most (cells_ok A) (way_ok A c.1) (stage_number s ∙ c.0) d in
      (q.1, q.2)

  closed_fits : s.place ≡ ReadSyncTwo → (1 ≤ word_of b g SyncTwo) × (word_of b g SyncTwo ≤ w)
  closed_fits e =
      let d : place_number s.place ≡ 59 = ap place_number e in
      let c = moves_at_59 w s law d in
      let A = standing (λ z. let y = c.0 in omega arith) c.1 in
      let q = stage_number s in
      first_closed w h (heights_of w) (G.phase g) (c₀ A) i (stand_of s) (x₀ A) (here A).low (here A).high (here A).most (cells_ok A) (way_ok A c.1)
      (⊎_elim (λ (y : state_number s.state ≡ 1). inl (q ∙ y)) (λ (y : state_number s.state ≡ 3). inr (q ∙ y)) c.0) d

  releases_fits : s.place ≡ ReadRole → (word_of b g (Role (record { 0 = i })) ≡ 1) ⊎ ((word_of b g (Role (record { 0 = i })) ≡ 2) ⊎ (word_of b g (Role (record { 0 = i })) ≡ 4))
  releases_fits e =
      let d : place_number s.place ≡ 35 = ap place_number e in
      let c = leaves_at_35 w s law d in
      let n : state_number s.state ≢ 0 = λ z. let y = c.0 in omega arith in
      let o = at_35 d in
      let A = acting n o in
      let low = A.low in
      let stands = c.1 in
      let own = R.linked.owned p h pl A.low A.high o in
      let t = seat_at b (G.owner g i - 1) in
      let same : t ≡ s = ap (λ q. seat_at b q) (let u : G.owner g i - 1 ≡ p = omega arith in u) in
      let stood : stand_at b G h g i ≡ still 2 =
      shown-inside (G.owner g i) h t (λ z. omega arith) (λ z. let u = ap stands_at same in omega arith) in
      role_released w h (heights_of w) (G.phase g) (c₀ A) i (stand_at b G h g i) (x₀ A) (here A).low (here A).high (here A).most (cells_ok A) ((at-gate A).gate.ways i (here A).way) (ap (λ v. v.stage) stood)

  fits : Fits s.place (meeting w p h) s b.cells
  fits = record { waits = waits_fits; accepts = accepts_fits; releases = releases_fits; closed = closed_fits }

  done : (k : ℕ) → (poll_step b p k).answer ≡ Ok tt
  done k = step_done s.place (coin_of k) (meeting w p h) s b.cells fits

  lawful_here : lawful w s ≡ true
  unfolding lawful
  lawful_here = law

module _ (b : BoxState) (G : Ghost) (R : Related b G) where
  fit_reach : (p : ℕ) → FitRefusal (reach_refusal b.ways (length b.seats) (length b.cells) p)
  fit_reach p =
      fit_ask (leb (cells_of b.ways) (length b.cells)) 2 p _ refl refl
      (fit_ask (leb (seats_of b.ways) (length b.seats)) 3 p _ refl refl (fit_ask (ltb p (seats_of b.ways)) 4 p None refl refl tt))

  fit_enter : (p : ℕ) → FitRefusal (enter_refusal b p)
  unfolding enter_refusal
  fit_enter p =
      fit_else (reach_refusal b.ways (length b.seats) (length b.cells) p) _ (fit_reach p)
      (λ e. fit_lawful (lawful b.ways (seat_at b p)) p None (lawful_here b G R p (inside b p e)) tt)

  fit_own : (p n : ℕ) → FitRefusal (own_refusal b p n)
  fit_own p n =
      fit_else (enter_refusal b p) _ (fit_enter p) (λ e. fit_ask (takes_part n (seat_at b p)) 6 p None refl refl tt)

  fit_apply : (p : ℕ) → FitRefusal (apply_refusal b p)
  fit_apply p =
      fit_else (enter_refusal b p) _ (fit_enter p)
      (λ e. fit_ask (is_in 0 (seat_at b p)) 7 p _ refl refl (fit_ask (leb b.next 16383) 8 p None refl refl tt))

  fit_give_up : (p n : ℕ) → FitRefusal (give_up_refusal b p n)
  fit_give_up p n =
      fit_else (own_refusal b p n) _ (fit_own p n)
      (λ e. fit_ask (is_in 1 (seat_at b p) && not (seat_at b p).gave_up) 7 p None refl refl tt)

  fit_holder : (p n : ℕ) → FitRefusal (holder_refusal b p n)
  fit_holder p n =
      fit_else (own_refusal b p n) _ (fit_own p n) (λ e. fit_ask (is_in 2 (seat_at b p)) 7 p None refl refl tt)

  fit_poll : (p n k : ℕ) → p < seats_of b.ways → FitRefusal (poll_refusal b.ways p n k (seat_at b p) (length b.cells))
  fit_poll p n k l =
      fit_ask (leb (cells_of b.ways) (length b.cells)) 2 p _ refl refl
      (fit_lawful (lawful b.ways (seat_at b p)) p _ (lawful_here b G R p l)
      (fit_ask (takes_part n (seat_at b p)) 6 p _ refl refl
      (fit_ask (is_in 1 (seat_at b p) || is_in 3 (seat_at b p)) 7 p _ refl refl (fit_ask (leb k 2) 9 p None refl refl tt))))

  fit_polled : (p n k : ℕ) → p < seats_of b.ways → FitAnswer (polled_seat b.ways p n k (seat_at b p) b.cells).answer
  unfolding polled_seat stepped
  fit_polled p n k l =
      fit_poll_after (poll_refusal b.ways p n k (seat_at b p) (length b.cells)) b.ways p k (seat_at b p) b.cells (fit_poll p n k l) (done b G R p l k)

pub fit_related : (c : Call) (b : BoxState) (G : Ghost) → Related b G → FitAnswer (performed c b).answer
unfolding performed
fit_related (Apply p) b G R = fit_settled b (apply_refusal b p.0) _ _ (fit_apply b G R p.0)
fit_related (Poll p n k) b G R =
    fit_poll_settled (reach_refusal b.ways (length b.seats) (length b.cells) p.0) b p.0 (polled_seat b.ways p.0 n.0 k (seat_at b p.0) b.cells) (fit_reach b G R p.0) (λ e. fit_polled b G R p.0 n.0 k (inside b p.0 e))
fit_related (GiveUp p n) b G R = fit_settled b (give_up_refusal b p.0 n.0) _ _ (fit_give_up b G R p.0 n.0)
fit_related (Leave p n) b G R = fit_settled b (holder_refusal b p.0 n.0) _ _ (fit_holder b G R p.0 n.0)
fit_related (Publish p n) b G R = fit_settled b (holder_refusal b p.0 n.0) _ _ (fit_holder b G R p.0 n.0)

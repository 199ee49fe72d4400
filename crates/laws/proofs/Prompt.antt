-- Giving up and leaving end within their limits of polls, from every box. Assumes nothing.
--     ways_performed  a call keeps the ways
--     seat_other      a call leaves the records of the other seats
--     refused_same    a refused call changes nothing
--     accepted_is     what is accepted has an answer
--     prompt_runs     every run is prompt
use Rattle.std.proofs.Common.{◌≡◌, ℕ, ◌+◌, ◌<◌, ◌≤◌, Bool, true, false, cond, ◌&&◌, ◌≢◌, ◌⊎◌, List, [], ◌∷◌, length, set, is_ok, Some, None, Ok, Err, Option, Result, sym, refl, ap, ◌∙◌, subst, inl, inr, ⊎_elim, zero-le, arith}
use Rattle.std.proofs.lemmas.List.{get_or-set_same, get_or-set_other}
use Rattle.std.proofs.lemmas.Bool.{cases_eq, cond_both, eq-eqb, ne_eqb}
use Rattle.std.proofs.lemmas.Bool.Decides.{nat_tests}
use Rattle.layout.specs.declared.fault.Refusal.{Refusal}
use Rattle.layout.specs.declared.path.Meeting.{Meeting}
use Rattle.layout.specs.Gates.{heights_of}
use Rattle.layout.specs.Meetings.{meeting}
use Rattle.seats.specs.declared.seat.Seat.{Seat}
use Rattle.seats.specs.declared.state.State.{State}
use Rattle.seats.specs.declared.state.State.TheVariants.{Climbing, Leaving}
use Rattle.seats.specs.Places.{state_number}
use Rattle.seats.specs.Seats.{away}
use Rattle.steps.specs.Outcomes.{Outcome}
use Rattle.steps.specs.Polls.{polled_seat, coin_of}
use Rattle.lock.specs.States.{BoxState, seat_at, settled, with_seat, reseat}
use Rattle.lock.specs.Questions.{reach_refusal, apply_refusal, give_up_refusal, holder_refusal}
use Rattle.lock.specs.Calls.{seat_settled, poll_settled, polled, gave_up_outcome, left, climber, given_up, departing}
use Rattle.laws.specs.declared.call.Call.{Call}
use Rattle.laws.specs.declared.call.Call.TheVariants.{Apply, Poll, GiveUp, Leave, Publish}
use Rattle.laws.specs.Runs.{performed, seat_of}
use Rattle.laws.specs.Law.{accepts, polls_seat, polls_until, is_out, is_away, give_up_limit, leave_limit, Prompt, PromptCall}
use Rattle.relation.proofs.Accepted.{Reached, PolledBy, poll_step, apply_accepted, poll_accepted, give_up_accepted, leave_accepted, publish_accepted}
use Rattle.relation.proofs.LawfulLaws.{LawfulParts, FreshAt, parts_from_lawful, leaves_at, quits_at, fresh_at, holding_top}
use Rattle.relation.proofs.RankLaws.{leaving_on, quitting_on, falls_leaving, stays_leaving, falls_quitting, stays_quitting}
use Rattle.relation.proofs.Ranks.{rank_of}

module _ {A : Type 0} (P : BoxState → Type 0) (b : BoxState) (x : A) (a : BoxState) (pa : P a) (pb : P b) where
  -- what holds before and after holds of a call's end
  settled-either : (f : Option Refusal) → P (settled b f x a).after
  settled-either None = pa
  settled-either (Some f) = pb

module _ (P : BoxState → Type 0) (b : BoxState) (p : ℕ) (o : Outcome ℕ) (pa : P (with_seat b p o.seat o.cells)) (pb : P b) where
  seat_either : (r : Result ℕ Refusal) → P (seat_settled b p r o).after
  seat_either (Ok x) = pa
  seat_either (Err f) = pb

  poll_either : (f : Option Refusal) → P (poll_settled f b p o).after
  poll_either None = seat_either o.answer
  poll_either (Some f) = pb

-- what is true of a box, and of every box that differs from it in the seat of the call, the next number and the cells
either : (P : BoxState → Type 0) (c : Call) (b : BoxState) → P b → ((s : Seat) (next : ℕ) (ws : List ℕ) → P (record { ways = b.ways; next = next; seats = set b.seats (seat_of c) s; cells = ws })) → P (performed c b).after
unfolding performed
either P (Apply p) b pb pa = settled-either P b b.next _ (pa (climber b.next) (b.next + 1) b.cells) pb (apply_refusal b p.0)
either P (Poll p n k) b pb pa =
    let o : Outcome ℕ = polled_seat b.ways p.0 n.0 k (seat_at b p.0) b.cells in
    poll_either P b p.0 o (pa o.seat b.next o.cells) pb (reach_refusal b.ways (length b.seats) (length b.cells) p.0)
either P (GiveUp p n) b pb pa = settled-either P b _ _ (pa (given_up (seat_at b p.0)) b.next b.cells) pb (give_up_refusal b p.0 n.0)
either P (Leave p n) b pb pa = settled-either P b 3 _ (pa (departing (seat_at b p.0)) b.next b.cells) pb (holder_refusal b p.0 n.0)
either P (Publish p n) b pb pa = settled-either P b 2 b pb pb (holder_refusal b p.0 n.0)

pub ways_performed : (c : Call) (b : BoxState) → (performed c b).after.ways ≡ b.ways
ways_performed c b = either (λ a. a.ways ≡ b.ways) c b refl (λ s next ws. refl)

pub seat_other : (c : Call) (b : BoxState) (p : ℕ) → p ≢ seat_of c → seat_at (performed c b).after p ≡ seat_at b p
seat_other c b p ne =
    either (λ a. seat_at a p ≡ seat_at b p) c b refl (λ s next ws. get_or-set_other b.seats (seat_of c) p s away ne)

-- a poll of a seat on its way out: the number falls, and the seat stays on its way
module _ (b : BoxState) (p n k : ℕ) (few : 2 ≤ b.ways) (h : PolledBy b p n k) where
  polled-seat : seat_at (performed (Poll (record { 0 = p }) (record { 0 = n }) k) b).after p ≡ (poll_step b p k).seat
  unfolding performed
  polled-seat =
      let l : p < length b.seats = omega (arith, h.reach.seats, h.reach.inside) in
      ap (λ a. seat_at a p) h.after ∙ get_or-set_same b.seats p (poll_step b p k).seat away l

  parts : LawfulParts b.ways (seat_at b p)
  parts =
      parts_from_lawful b.ways (seat_at b p) h.law
      (λ z. ⊎_elim (λ (e : state_number (seat_at b p).state ≡ 1). omega arith) (λ (e : state_number (seat_at b p).state ≡ 3). omega arith) h.moves)

is_climbing : (x : State) → state_number x ≡ 1 → x ≡ Climbing
is_climbing x e = grind arith

is_leaving : (x : State) → state_number x ≡ 3 → x ≡ Leaving
is_leaving x e = grind arith

quitting_marked : (s : Seat) → quitting_on s ≡ true → s.state ≡ Climbing → s.gave_up ≡ true
quitting_marked s q e = grind arith

leaving_quits : (s : Seat) → leaving_on s ≡ true → quitting_on s ≡ true
leaving_quits s l = grind arith

leaving_not_climbing : (s : Seat) → leaving_on s ≡ true → state_number s.state ≡ 1 → ⊥
leaving_not_climbing s l e = grind arith

-- the number falls with an accepted poll, and the seat stays on its way
Falls : BoxState → (p k : ℕ) → (Seat → Bool) → Type 0
Falls b p k on = (rank_of b.ways (poll_step b p k).seat + 1 ≤ rank_of b.ways (seat_at b p)) × (on (poll_step b p k).seat ≡ true)

module _ (b : BoxState) (p n k : ℕ) (few : 2 ≤ b.ways) (h : PolledBy b p n k) where
  at-gate : Meeting
  at-gate = meeting b.ways p (seat_at b p).height

  leaving_falls : state_number (seat_at b p).state ≡ 3 → Falls b p k leaving_on
  unfolding at-gate Falls
  leaving_falls e =
      let f = leaves_at b.ways (seat_at b p) few (parts b p n k few h) (is_leaving (seat_at b p).state e) in (
        falls_leaving (seat_at b p).place (coin_of k) at-gate (seat_at b p) b.cells f h.done,
        stays_leaving (seat_at b p).place (coin_of k) at-gate (seat_at b p) b.cells f,
      )

  quitting_falls : quitting_on (seat_at b p) ≡ true → Falls b p k quitting_on
  unfolding at-gate Falls leaving_falls
  quitting_falls q =
      ⊎_elim
      (λ (e : state_number (seat_at b p).state ≡ 1).
      let c = is_climbing (seat_at b p).state e in
      let f = quits_at b.ways (seat_at b p) few (parts b p n k few h) c (quitting_marked (seat_at b p) q c) in (
        falls_quitting (seat_at b p).place (coin_of k) at-gate (seat_at b p) b.cells f h.done,
        stays_quitting (seat_at b p).place (coin_of k) at-gate (seat_at b p) b.cells f,
      ))
      (λ (e : state_number (seat_at b p).state ≡ 3).
      let f = leaving_falls e in (f.0, leaving_quits (poll_step b p k).seat f.1))
      h.moves

-- a refused call changes nothing
settled-refused : {A : Type 0} (b : BoxState) (f : Option Refusal) (x : A) (a : BoxState) (g : Refusal) → (settled b f x a).answer ≡ Err g → (settled b f x a).after ≡ b
settled-refused b None x a g e = let z : ◌≡◌ {A = ℕ} 0 1 = cc in absurd (omega arith)
settled-refused b (Some f) x a g e = refl

seat_refused : (b : BoxState) (p : ℕ) (r : Result ℕ Refusal) (o : Outcome ℕ) (g : Refusal) → (seat_settled b p r o).answer ≡ Err g → (seat_settled b p r o).after ≡ b
seat_refused b p (Ok x) o g e = let z : ◌≡◌ {A = ℕ} 0 1 = cc in absurd (omega arith)
seat_refused b p (Err f) o g e = refl

poll_settled_refused : (b : BoxState) (p : ℕ) (f : Option Refusal) (o : Outcome ℕ) (g : Refusal) → (poll_settled f b p o).answer ≡ Err g → (poll_settled f b p o).after ≡ b
poll_settled_refused b p None o g e = seat_refused b p o.answer o g e
poll_settled_refused b p (Some f) o g e = refl

pub refused_same : (c : Call) (b : BoxState) (g : Refusal) → (performed c b).answer ≡ Err g → (performed c b).after ≡ b
unfolding performed
refused_same (Apply p) b g e = settled-refused b (apply_refusal b p.0) _ _ g e
refused_same (Poll p n k) b g e =
    poll_settled_refused b p.0 (reach_refusal b.ways (length b.seats) (length b.cells) p.0) _ g e
refused_same (GiveUp p n) b g e = settled-refused b (give_up_refusal b p.0 n.0) _ _ g e
refused_same (Leave p n) b g e = settled-refused b (holder_refusal b p.0 n.0) _ _ g e
refused_same (Publish p n) b g e = settled-refused b (holder_refusal b p.0 n.0) _ _ g e

-- a seat that climbs and has given up, or that leaves
Busy : Seat → Type 0
Busy s = ((state_number s.state ≡ 1) × (s.gave_up ≡ true)) ⊎ (state_number s.state ≡ 3)

not_zero : (s : Seat) → Busy s → state_number s.state ≡ 0 → ⊥
unfolding Busy
not_zero s y e = grind arith

not_two : (s : Seat) → Busy s → state_number s.state ≡ 2 → ⊥
unfolding Busy
not_two s y e = grind arith

not_fresh : (s : Seat) → Busy s → state_number s.state ≡ 1 → s.gave_up ≡ false → ⊥
unfolding Busy
not_fresh s y e g = grind arith

-- how a busy seat fares with one call: on is what it stays, and each accepted poll of it lowers its number
module _ (on : Seat → Bool) (falls : (b : BoxState) (p n k : ℕ) → 2 ≤ b.ways → PolledBy b p n k → on (seat_at b p) ≡ true → Falls b p k on) where
  Fares : Call → BoxState → ℕ → ℕ → Type 0
  Fares c b p one = (one + rank_of (performed c b).after.ways (seat_at (performed c b).after p) ≤ rank_of b.ways (seat_at b p)) × (on (seat_at (performed c b).after p) ≡ true)

  same_fares : (c : Call) (b : BoxState) (p one : ℕ) → one ≡ 0 → seat_at (performed c b).after p ≡ seat_at b p → on (seat_at b p) ≡ true → Fares c b p one
  unfolding Fares
  same_fares c b p one z e o =
      let r : rank_of (performed c b).after.ways (seat_at (performed c b).after p) ≡ rank_of b.ways (seat_at b p) =
      ap (λ w. rank_of w (seat_at (performed c b).after p)) (ways_performed c b) ∙ ap (λ s. rank_of b.ways s) e in
      (omega (arith, r, z), ap on e ∙ o)

  poll_fares : (b : BoxState) (p n k : ℕ) → 2 ≤ b.ways → PolledBy b p n k → on (seat_at b p) ≡ true → Fares (Poll (record { 0 = p }) (record { 0 = n }) k) b p 1
  unfolding Fares Falls
  poll_fares b p n k few h o =
      let c : Call = Poll (record { 0 = p }) (record { 0 = n }) k in
      let e = polled-seat b p n k few h in
      let f = falls b p n k few h o in
      let r : rank_of (performed c b).after.ways (seat_at (performed c b).after p) ≡ rank_of b.ways (poll_step b p k).seat =
      ap (λ w. rank_of w (seat_at (performed c b).after p)) (ways_performed c b) ∙ ap (λ s. rank_of b.ways s) e in
      (omega (arith, r, f.0), ap on e ∙ f.1)

  counted : ℕ → Call → BoxState → ℕ
  counted p c b = cond (polls_seat p c && accepts c b) 1 0

  uncounted : (p : ℕ) (c : Call) (b : BoxState) → (polls_seat p c ≡ false) ⊎ (accepts c b ≡ false) → counted p c b ≡ 0
  unfolding counted
  uncounted p c b e = grind arith

  polls_other : (p : ℕ) (c : Call) → p ≢ seat_of c → polls_seat p c ≡ false
  polls_other p (Apply q) ne = refl
  polls_other p (Poll q n k) ne = ne_eqb q.0 p (λ e. ne (sym e))
  polls_other p (GiveUp q n) ne = refl
  polls_other p (Leave q n) ne = refl
  polls_other p (Publish q n) ne = refl

  own_fares : (c : Call) (b : BoxState) (x : ℕ) → 2 ≤ b.ways → Busy (seat_at b (seat_of c)) → on (seat_at b (seat_of c)) ≡ true → (performed c b).answer ≡ Ok x → Fares c b (seat_of c) (counted (seat_of c) c b)
  unfolding performed counted
  own_fares (Apply q) b x few y o e = absurd (not_zero (seat_at b q.0) y (apply_accepted b q.0 x e).away)
  own_fares (Poll q n k) b x few y o e =
      let one : counted q.0 (Poll q n k) b ≡ 1 =
      ap (λ t. cond (t && is_ok (polled b q.0 n.0 k).answer) 1 0) (eq-eqb q.0 q.0 refl)
      ∙ ap (λ r. cond (is_ok r) 1 0) e in
      rw one (poll_fares b q.0 n.0 k few (poll_accepted b q.0 n.0 k x e) o)
  own_fares (GiveUp q n) b x few y o e =
      let h = give_up_accepted b q.0 n.0 x e in absurd (not_fresh (seat_at b q.0) y h.climbs h.unmarked)
  own_fares (Leave q n) b x few y o e = absurd (not_two (seat_at b q.0) y (leave_accepted b q.0 n.0 x e).holds)
  own_fares (Publish q n) b x few y o e = absurd (not_two (seat_at b q.0) y (publish_accepted b q.0 n.0 x e).holds)

  call_fares : (c : Call) (b : BoxState) (p : ℕ) → 2 ≤ b.ways → Busy (seat_at b p) → on (seat_at b p) ≡ true → (r : Result ℕ Refusal) → (performed c b).answer ≡ r → Fares c b p (counted p c b)
  call_fares c b p few y o (Err g) e =
      same_fares c b p (counted p c b) (uncounted p c b (inr (ap is_ok e))) (ap (λ a. seat_at a p) (refused_same c b g e)) o
  call_fares c b p few y o (Ok x) e =
      ⊎_elim
      (λ (s : p ≡ seat_of c).
      subst (λ (q : ℕ). Fares c b q (counted q c b)) (sym s)
      (own_fares c b x few (subst (λ (q : ℕ). Busy (seat_at b q)) s y) (subst (λ (q : ℕ). on (seat_at b q) ≡ true) s o) e))
      (λ (ne : p ≡ seat_of c → ⊥).
      same_fares c b p (counted p c b) (uncounted p c b (inl (polls_other p c ne))) (seat_other c b p ne) o)
      (cases_eq p (seat_of c))

  -- the polls until a seat is out are no more than its number
  module _ (out : BoxState → ℕ → Bool) (busy : (b : BoxState) (p : ℕ) → on (seat_at b p) ≡ true → out b p ≡ false → Busy (seat_at b p)) where
    until-rank : (cs : List Call) (b : BoxState) (p : ℕ) → 2 ≤ b.ways → on (seat_at b p) ≡ true → polls_until out p cs b ≤ rank_of b.ways (seat_at b p)
    unfolding Fares counted
    until-rank [] b p few o = zero-le
    until-rank (c ∷ cs) b p few o =
        cond_both (out b p) 0 (cond (polls_seat p c && accepts c b) 1 0 + polls_until out p cs (performed c b).after) (λ n. n ≤ rank_of b.ways (seat_at b p))
        (λ e. zero-le)
        (λ e.
        let f = call_fares c b p few (busy b p o e) o (performed c b).answer refl in
        let w : 2 ≤ (performed c b).after.ways = omega (arith, ways_performed c b) in
        let r = until-rank cs (performed c b).after p w f.1 in omega (arith, f.0, r))

quitting_busy : (b : BoxState) (p : ℕ) → quitting_on (seat_at b p) ≡ true → is_out b p ≡ false → Busy (seat_at b p)
unfolding Busy
quitting_busy b p q e = grind (arith, nat_tests)

leaving_busy : (b : BoxState) (p : ℕ) → leaving_on (seat_at b p) ≡ true → is_away b p ≡ false → Busy (seat_at b p)
unfolding Busy
leaving_busy b p q e = grind (arith, nat_tests)

quits_within : (cs : List Call) (b : BoxState) (p : ℕ) → 2 ≤ b.ways → quitting_on (seat_at b p) ≡ true → polls_until is_out p cs b ≤ rank_of b.ways (seat_at b p)
quits_within = until-rank quitting_on (λ b p n k few h o. quitting_falls b p n k few h o) is_out quitting_busy

leaving_only : (b : BoxState) (p n k : ℕ) → 2 ≤ b.ways → PolledBy b p n k → leaving_on (seat_at b p) ≡ true → Falls b p k leaving_on
leaving_only b p n k few h o =
    ⊎_elim (λ (e : state_number (seat_at b p).state ≡ 1). absurd (leaving_not_climbing (seat_at b p) o e))
    (λ (e : state_number (seat_at b p).state ≡ 3). leaving_falls b p n k few h e) h.moves

leaves-within : (cs : List Call) (b : BoxState) (p : ℕ) → 2 ≤ b.ways → leaving_on (seat_at b p) ≡ true → polls_until is_away p cs b ≤ rank_of b.ways (seat_at b p)
leaves-within = until-rank leaving_on leaving_only is_away leaving_busy

-- two, three or four ways, with the limit of each
Limit : (w l₂ l₃ l₄ lim : ℕ) → Type 0
Limit w l₂ l₃ l₄ lim = ((w ≡ 2) × (lim ≡ l₂)) ⊎ (((w ≡ 3) × (lim ≡ l₃)) ⊎ ((w ≡ 4) × (lim ≡ l₄)))

given_up_rank : (w lim : ℕ) (s : Seat) → Limit w 15 34 50 lim → FreshAt w s → rank_of w (given_up s) ≤ lim
unfolding Limit
given_up_rank w lim s l f = grind arith

given_up_quits : (s : Seat) → s.state ≡ Climbing → quitting_on (given_up s) ≡ true
given_up_quits s e = grind arith

departing-rank : (w lim : ℕ) (s : Seat) → Limit w 17 32 47 lim → s.top ≡ heights_of w → rank_of w (departing s) ≤ lim
unfolding Limit
departing-rank w lim s l t = grind arith

give_up_limit_lem : (w : ℕ) → 2 ≤ w → w ≤ 4 → Limit w 15 34 50 (give_up_limit w)
unfolding Limit
give_up_limit_lem w l h = grind arith

leave_limit_lem : (w : ℕ) → 2 ≤ w → w ≤ 4 → Limit w 17 32 47 (leave_limit w)
unfolding Limit
leave_limit_lem w l h = grind arith

module _ (b : BoxState) (few : 2 ≤ b.ways) (most : b.ways ≤ 4) where
  -- the record of a seat that was put into the table
  reseated : (p : ℕ) (s : Seat) → Reached b p → seat_at (reseat b p s) p ≡ s
  reseated p s r = let l : p < length b.seats = omega (arith, r.seats, r.inside) in get_or-set_same b.seats p s away l

  -- from a box a whose seat p is s: within the number of s
  from_rank : (a : BoxState) (p lim : ℕ) (s : Seat) (out : BoxState → ℕ → Bool) (on : Seat → Bool) (cs : List Call) → ((d : BoxState) → 2 ≤ d.ways → on (seat_at d p) ≡ true → polls_until out p cs d ≤ rank_of d.ways (seat_at d p)) → a ≡ reseat b p s → Reached b p → on s ≡ true → rank_of b.ways s ≤ lim → polls_until out p cs a ≤ lim
  from_rank a p lim s out on cs within e r o l =
      let q : seat_at (reseat b p s) p ≡ s = reseated p s r in
      let v = within (reseat b p s) few (ap on q ∙ o) in
      let k : rank_of b.ways (seat_at (reseat b p s) p) ≡ rank_of b.ways s = ap (λ t. rank_of b.ways t) q in
      let m : polls_until out p cs a ≡ polls_until out p cs (reseat b p s) = ap (λ d. polls_until out p cs d) e in
      omega (arith, v, k, m, l)

  gave_up_within : (p n x : ℕ) (cs : List Call) → (gave_up_outcome b p n).answer ≡ Ok x → polls_until is_out p cs (gave_up_outcome b p n).after ≤ give_up_limit b.ways
  gave_up_within p n x cs e =
      let h = give_up_accepted b p n x e in
      let s = seat_at b p in
      let c = is_climbing s.state h.climbs in
      let z : state_number s.state ≡ 0 → ⊥ = λ q. omega (arith, h.climbs) in
      let f = fresh_at b.ways s (parts_from_lawful b.ways s h.enters.law z) c h.unmarked in
      from_rank (gave_up_outcome b p n).after p (give_up_limit b.ways) (given_up s) is_out quitting_on cs (λ d w q. quits_within cs d p w q) h.after h.enters.reach (given_up_quits s c)
      (given_up_rank b.ways (give_up_limit b.ways) s (give_up_limit_lem b.ways few most) f)

  left-within : (p n x : ℕ) (cs : List Call) → (left b p n).answer ≡ Ok x → polls_until is_away p cs (left b p n).after ≤ leave_limit b.ways
  left-within p n x cs e =
      let h = leave_accepted b p n x e in
      let s = seat_at b p in
      let z : state_number s.state ≡ 0 → ⊥ = λ q. omega (arith, h.holds) in
      let t = holding_top b.ways s (parts_from_lawful b.ways s h.enters.law z) h.holds in
      from_rank (left b p n).after p (leave_limit b.ways) (departing s) is_away leaving_on cs (λ d w q. leaves-within cs d p w q) h.left_after h.enters.reach refl
      (departing-rank b.ways (leave_limit b.ways) s (leave_limit_lem b.ways few most) t)

pub accepted_is : (r : Result ℕ Refusal) → is_ok r ≡ true → (x : ℕ) × (r ≡ Ok x)
accepted_is (Ok x) e = (x, refl)
accepted_is (Err f) e = let z : ◌≡◌ {A = ℕ} 0 1 = cc in absurd (omega arith)

prompt_call : (c : Call) (cs : List Call) (b : BoxState) → 2 ≤ b.ways → b.ways ≤ 4 → accepts c b ≡ true → PromptCall c cs (performed c b).after
unfolding performed
prompt_call (Apply p) cs b few most e = tt
prompt_call (Poll p n k) cs b few most e = tt
prompt_call (GiveUp p n) cs b few most e =
    let a = accepted_is (gave_up_outcome b p.0 n.0).answer e in
    rw (ways_performed (GiveUp p n) b) (gave_up_within b few most p.0 n.0 a.0 cs a.1)
prompt_call (Leave p n) cs b few most e =
    let a = accepted_is (left b p.0 n.0).answer e in
    rw (ways_performed (Leave p n) b) (left-within b few most p.0 n.0 a.0 cs a.1)
prompt_call (Publish p n) cs b few most e = tt

pub prompt_runs : (cs : List Call) (b : BoxState) → 2 ≤ b.ways → b.ways ≤ 4 → Prompt cs b
prompt_runs [] b few most = tt
prompt_runs (c ∷ cs) b few most =
    let w = ways_performed c b in
    (prompt_call c cs b few most, prompt_runs cs (performed c b).after (omega (arith, w)) (omega (arith, w)))

-- What the acceptance of a call says. Assumes nothing.
--     asked, both_none  a question that was answered by yes, and what is asked next
--     Entered b p     questions 2 to 5 were answered by yes
--     apply_accepted, give_up_accepted, leave_accepted, publish_accepted, poll_accepted
--                     for each call, by a record of what it asked and of the box afterwards
use Rattle.std.proofs.Common.{◌≡◌, ℕ, ◌+◌, ◌<◌, ◌≤◌, Bool, true, false, not, ◌&&◌, ◌||◌, ltb, leb, ◌⊎◌, List, length, Some, None, Ok, Err, Option, Result, sym, refl, ap, ◌∙◌, inl, inr, ⊎_elim, arith}
use Rattle.std.proofs.lemmas.Bool.{and_parts, or_cases, leb-true, ltb-true, eqb-true, not-true}
use Rattle.layout.specs.declared.fault.Refusal.{Refusal}
use Rattle.layout.specs.Gates.{cells_of, seats_of}
use Rattle.layout.specs.Meetings.{meeting}
use Rattle.layout.specs.Refusals.{refusal}
use Rattle.seats.specs.declared.seat.Seat.{Seat}
use Rattle.seats.specs.Lawful.{lawful}
use Rattle.seats.specs.Places.{state_number}
use Rattle.steps.specs.Outcomes.{Outcome}
use Rattle.steps.specs.Polls.{ask, coin_of, takes_part, step_of, stepped, poll_refusal, poll_after, polled_seat, state_answered, state_told}
use Rattle.lock.specs.States.{BoxState, seat_at, settled, with_seat, reseat}
use Rattle.lock.specs.Questions.{or_else, reach_refusal, enter_refusal, own_refusal, apply_refusal, give_up_refusal, holder_refusal, is_in}
use Rattle.lock.specs.Calls.{seat_settled, poll_settled, polled, applied, gave_up_outcome, left, published, climber, given_up, departing}

-- a question that was asked, and the rest
pub asked : (q : Bool) (f : Refusal) (rest : Option Refusal) → ask q f rest ≡ None → (q ≡ true) × (rest ≡ None)
asked true f rest e = (refl, e)
asked false f rest e = let z : ◌≡◌ {A = ℕ} 0 1 = cc in absurd (omega arith)

pub both_none : (f g : Option Refusal) → or_else f g ≡ None → (f ≡ None) × (g ≡ None)
both_none None g e = (refl, e)
both_none (Some f) g e = let z : ◌≡◌ {A = ℕ} 0 1 = cc in absurd (omega arith)

pub record Reached (b : BoxState) (p : ℕ) : Type 0 where
  pub cells : cells_of b.ways ≤ length b.cells
  pub seats : seats_of b.ways ≤ length b.seats
  pub inside : p < seats_of b.ways

reached : (b : BoxState) (p : ℕ) → reach_refusal b.ways (length b.seats) (length b.cells) p ≡ None → Reached b p
reached b p e =
    let a₂ = asked (leb (cells_of b.ways) (length b.cells)) (refusal 2 p) _ e in
    let a₃ = asked (leb (seats_of b.ways) (length b.seats)) (refusal 3 p) _ a₂.1 in
    let a₄ = asked (ltb p (seats_of b.ways)) (refusal 4 p) None a₃.1 in
    record { cells = leb-true _ _ a₂.0; seats = leb-true _ _ a₃.0; inside = ltb-true _ _ a₄.0 }

pub record Entered (b : BoxState) (p : ℕ) : Type 0 where
  pub reach : Reached b p
  pub law : lawful b.ways (seat_at b p) ≡ true

entered : (b : BoxState) (p : ℕ) → enter_refusal b p ≡ None → Entered b p
unfolding enter_refusal
entered b p e =
    let a = both_none (reach_refusal b.ways (length b.seats) (length b.cells) p) _ e in
    record { reach = reached b p a.0; law = (asked (lawful b.ways (seat_at b p)) (refusal 5 p) None a.1).0 }

-- a settled call that answers was not refused
not_refused : {A : Type 0} (b : BoxState) (f : Option Refusal) (x y : A) (a : BoxState) → (settled b f x a).answer ≡ Ok y → f ≡ None
not_refused b None x y a e = refl
not_refused b (Some f) x y a e = let z : ◌≡◌ {A = ℕ} 0 1 = cc in absurd (omega arith)

settled_is : {A : Type 0} (b : BoxState) (f : Option Refusal) (x : A) (a : BoxState) → f ≡ None → (settled b f x a).after ≡ a
settled_is b f x a e = ap (λ g. (settled b g x a).after) e

pub record Applied (b : BoxState) (p : ℕ) : Type 0 where
  pub enters : Entered b p
  pub away : state_number (seat_at b p).state ≡ 0
  pub number : b.next ≤ 16383
  pub after : (applied b p).after ≡ record { ways = b.ways; next = b.next + 1; seats = (with_seat b p (climber b.next) b.cells).seats; cells = b.cells }

pub apply_accepted : (b : BoxState) (p x : ℕ) → (applied b p).answer ≡ Ok x → Applied b p
apply_accepted b p x e =
    let n = not_refused b (apply_refusal b p) b.next x _ e in
    let a = both_none (enter_refusal b p) _ n in
    let a₇ = asked (is_in 0 (seat_at b p)) (refusal 7 p) _ a.1 in
    let a₈ = asked (leb b.next 16383) (refusal 8 p) None a₇.1 in
    record {
      enters = entered b p a.0;
      away = eqb-true _ _ a₇.0;
      number = leb-true _ _ a₈.0;
      after = settled_is b (apply_refusal b p) b.next _ n;
    }

owned : (b : BoxState) (p n : ℕ) → own_refusal b p n ≡ None → Entered b p × (takes_part n (seat_at b p) ≡ true)
owned b p n e =
    let a = both_none (enter_refusal b p) _ e in
    (entered b p a.0, (asked (takes_part n (seat_at b p)) (refusal 6 p) None a.1).0)

pub record GaveUp (b : BoxState) (p n : ℕ) : Type 0 where
  pub enters : Entered b p
  pub climbs : state_number (seat_at b p).state ≡ 1
  pub unmarked : (seat_at b p).gave_up ≡ false
  pub after : (gave_up_outcome b p n).after ≡ reseat b p (given_up (seat_at b p))

pub give_up_accepted : (b : BoxState) (p n x : ℕ) → (gave_up_outcome b p n).answer ≡ Ok x → GaveUp b p n
give_up_accepted b p n x e =
    let r = not_refused b (give_up_refusal b p n) _ x _ e in
    let a = both_none (own_refusal b p n) _ r in
    let a₇ = and_parts _ _ (asked (is_in 1 (seat_at b p) && not (seat_at b p).gave_up) (refusal 7 p) None a.1).0 in
    record {
      enters = (owned b p n a.0).0;
      climbs = eqb-true _ _ a₇.0;
      unmarked = not-true _ a₇.1;
      after = settled_is b (give_up_refusal b p n) _ _ r;
    }

pub record HeldBy (b : BoxState) (p n : ℕ) : Type 0 where
  pub enters : Entered b p
  pub holds : state_number (seat_at b p).state ≡ 2
  pub left_after : (left b p n).after ≡ reseat b p (departing (seat_at b p))
  pub published-after : (published b p n).after ≡ b

held : (b : BoxState) (p n : ℕ) → holder_refusal b p n ≡ None → HeldBy b p n
held b p n r =
    let a = both_none (own_refusal b p n) _ r in
    record {
      enters = (owned b p n a.0).0;
      holds = eqb-true _ _ (asked (is_in 2 (seat_at b p)) (refusal 7 p) None a.1).0;
      left_after = settled_is b (holder_refusal b p n) _ _ r;
      published-after = settled_is b (holder_refusal b p n) _ _ r;
    }

pub leave_accepted : (b : BoxState) (p n x : ℕ) → (left b p n).answer ≡ Ok x → HeldBy b p n
leave_accepted b p n x e = held b p n (not_refused b (holder_refusal b p n) _ x _ e)

pub publish_accepted : (b : BoxState) (p n x : ℕ) → (published b p n).answer ≡ Ok x → HeldBy b p n
publish_accepted b p n x e = held b p n (not_refused b (holder_refusal b p n) _ x _ e)

-- the step that a poll does
abbrev pub poll_step : BoxState → (p k : ℕ) → Outcome (Unit {0})
poll_step b p k = step_of (seat_at b p).place (coin_of k) (meeting b.ways p (seat_at b p).height) (seat_at b p) b.cells

pub record PolledBy (b : BoxState) (p n k : ℕ) : Type 0 where
  pub reach : Reached b p
  pub law : lawful b.ways (seat_at b p) ≡ true
  pub moves : (state_number (seat_at b p).state ≡ 1) ⊎ (state_number (seat_at b p).state ≡ 3)
  pub coin : k ≤ 2
  pub done : (poll_step b p k).answer ≡ Ok tt
  pub after : (polled b p n k).after ≡ with_seat b p (poll_step b p k).seat (poll_step b p k).cells

module _ (w p k : ℕ) (s : Seat) (ws : List ℕ) where
  stated : (r : Result (Unit {0}) Refusal) (t : Seat) (x : ℕ) → state_answered r t ≡ Ok x → r ≡ Ok tt
  stated (Ok u) t x e = refl
  stated (Err f) t x e = let z : ◌≡◌ {A = ℕ} 0 1 = cc in absurd (omega arith)

  unrefused : (o : Option Refusal) (x : ℕ) → (poll_after o w p k s ws).answer ≡ Ok x → o ≡ None
  unrefused None x e = refl
  unrefused (Some f) x e = let z : ◌≡◌ {A = ℕ} 0 1 = cc in absurd (omega arith)

module _ (b : BoxState) (p n k : ℕ) where
  seat_poll : Outcome ℕ
  seat_poll = polled_seat b.ways p n k (seat_at b p) b.cells

  reach_none : (f : Option Refusal) (o : Outcome ℕ) (x : ℕ) → (poll_settled f b p o).answer ≡ Ok x → (f ≡ None) × (o.answer ≡ Ok x)
  reach_none None o x e = (refl, seat-ok o.answer o x e)
    where
      seat-ok : (r : Result ℕ Refusal) (o : Outcome ℕ) (x : ℕ) → (seat_settled b p r o).answer ≡ Ok x → r ≡ Ok x
      seat-ok (Ok y) o x e = e
      seat-ok (Err f) o x e = e
  reach_none (Some f) o x e = let z : ◌≡◌ {A = ℕ} 0 1 = cc in absurd (omega arith)

  pub poll_accepted : (x : ℕ) → (polled b p n k).answer ≡ Ok x → PolledBy b p n k
  unfolding seat_poll polled_seat stepped
  poll_accepted x e =
      let w = b.ways in
      let s = seat_at b p in
      let ws = b.cells in
      let reach : Option Refusal = reach_refusal w (length b.seats) (length ws) p in
      let r = reach_none reach seat_poll x e in
      let u = unrefused w p k s ws (poll_refusal w p n k s (length ws)) x r.1 in
      let q : seat_poll ≡ state_told (poll_step b p k) = ap (λ o. poll_after o w p k s ws) u in
      let a₂ = asked (leb (cells_of w) (length ws)) (refusal 2 p) _ u in
      let a₅ = asked (lawful w s) (refusal 5 p) _ a₂.1 in
      let a₆ = asked (takes_part n s) (refusal 6 p) _ a₅.1 in
      let a₇ = asked (is_in 1 s || is_in 3 s) (refusal 7 p) _ a₆.1 in
      let a₉ = asked (leb k 2) (refusal 9 p) None a₇.1 in
      record {
        reach = reached b p r.0;
        law = a₅.0;
        moves = ⊎_elim (λ h. inl (eqb-true _ _ h)) (λ h. inr (eqb-true _ _ h)) (or_cases (is_in 1 s) (is_in 3 s) a₇.0);
        coin = leb-true _ _ a₉.0;
        done = stated w p k s ws (poll_step b p k).answer (poll_step b p k).seat x (sym (ap (λ o. o.answer) q) ∙ r.1);
        after = ap (λ f. (poll_settled f b p seat_poll).after) r.0
            ∙ (ap (λ a. (seat_settled b p a seat_poll).after) r.1
            ∙ ap (λ o. with_seat b p o.seat o.cells) q);
      }

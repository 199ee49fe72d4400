-- An Apply whose state is empty holds 0, which the phases of the gates do not say. Assumes nothing.
--     Blank x, Blanks b  it holds of a word, and of every Apply of a box
--     blank_step         a step keeps it
--     opened_blanks, same_blanks, polled_blanks   an opened box has it; a call that leaves the cells and an accepted poll keep it
use Rattle.std.proofs.Common.{◌≡◌, ℕ, ◌+◌, ◌%◌, ◌<◌, ◌≤◌, List, length, get_or, set, sym, subst, ⊎_elim, arith, rules}
use native.Mathlib.Decide.{ℕ_discrete}
use Rattle.std.proofs.lemmas.List.{get_or-set_same, get_or-set_other, get_or_past, length-set}
use Rattle.std.proofs.lemmas.Bool.{cases_lt}
use Rattle.layout.specs.declared.path.Meeting.{Meeting}
use Rattle.layout.specs.Gates.{seats_of, cells_of, gate_of, cell_of, apply_cell}
use Rattle.layout.specs.Meetings.{meeting}
use Rattle.seats.specs.declared.seat.Seat.{Seat}
use Rattle.seats.specs.declared.place.Place.{Place}
use Rattle.seats.specs.Places.{state_number}
use Rattle.seats.proofs.SeatLaws.{ranged-from_lawful}
use Rattle.store.specs.Words.{held}
use Rattle.steps.specs.declared.cells.Cell.TheVariants.{Apply}
use Rattle.steps.specs.declared.codes.Coin.{Coin}
use Rattle.steps.specs.Outcomes.{word}
use Rattle.steps.specs.Polls.{step_of, coin_of}
use Rattle.steps.proofs.PollLaws.{ready_from_ranged, low_from_ranged}
use Rattle.lock.specs.States.{BoxState, seat_at, with_seat}
use Rattle.lock.specs.Calls.{cleared}
use Rattle.relation.proofs.Geometry.{gate_inside}
use Rattle.relation.proofs.Frames.{step_outside, gate_apart}
use Rattle.relation.proofs.Accepted.{PolledBy, poll_step}
use Rattle.relation.proofs.Views.{word_of}
use Rattle.relation.proofs.Opening.{opened_apply}

pub record Blank (x : ℕ) : Type 0 where
  pub empty : x % 4 ≡ 0 → x ≡ 0

set_blank : (ws : List ℕ) (i k v : ℕ) → (i ≡ k → v % 4 ≡ 0 → v ≡ 0) → Blank (get_or ws k 0) → Blank (get_or (set ws i v) k 0)
set_blank ws i k v f b =
    elim (ℕ_discrete i k) [
      | yes e ↦ ⊎_elim
          (λ (l : i < length ws). subst (λ (n : ℕ). Blank (get_or (set ws i v) n 0)) e (subst (λ (n : ℕ). Blank n) (sym (get_or-set_same ws i v 0 l)) (record { empty = f e })))
          (λ (l : length ws ≤ i). let z : get_or (set ws i v) k 0 ≡ 0 = get_or_past (set ws i v) k 0 (omega (arith, length-set ws i v)) in record { empty = λ c. z })
          (cases_lt i (length ws))
      | no e ↦ subst (λ (n : ℕ). Blank n) (sym (get_or-set_other ws i k v 0 (λ d. e (sym d)))) b
    ]

pub blank_step : (x : Place) (c : Coin) (m : Meeting) (s : Seat) (ws : List ℕ) (j : ℕ) → j < m.ways → Blank (word ws m (Apply (record { 0 = j }))) → Blank (word (step_of x c m s ws).cells m (Apply (record { 0 = j })))
blank_step x c m s ws j l b = search (rules, set_blank, arith)

pub record Blanks (b : BoxState) : Type 0 where
  pub few : 2 ≤ b.ways
  pub most : b.ways ≤ 4
  pub blank : (q k j : ℕ) → q < seats_of b.ways → 1 ≤ k → k < b.ways → j < b.ways → Blank (word_of b (gate_of b.ways q k) (Apply (record { 0 = j })))

-- a box with the same ways and cells
pub same_blanks : (b : BoxState) (n : ℕ) (ts : List Seat) → Blanks b → Blanks (record { ways = b.ways; next = n; seats = ts; cells = b.cells })
same_blanks b n ts z = record { few = z.few; most = z.most; blank = z.blank }

pub opened_blanks : (w : ℕ) (ts : List Seat) (ws : List ℕ) → 2 ≤ w → w ≤ 4 → cells_of w ≤ length ws → seats_of w ≤ length ts → Blanks (cleared w ts ws)
opened_blanks w ts ws few most room table =
    record {
      few = few;
      most = most;
      blank = λ q k j l m n o. record { empty = λ e. opened_apply w ts ws few most room table (gate_of w q k) j (gate_inside w k few most m n q l).0 o };
    }

pub polled_blanks : (b : BoxState) (p n k : ℕ) → Blanks b → PolledBy b p n k → Blanks (with_seat b p (poll_step b p k).seat (poll_step b p k).cells)
polled_blanks b p n k z h =
    let w = b.ways in
    let s = seat_at b p in
    let h₀ = s.height in
    let m = meeting w p h₀ in
    let r = ranged-from_lawful w s h.law (λ e. ⊎_elim (λ (x : state_number s.state ≡ 1). omega arith) (λ (x : state_number s.state ≡ 3). omega arith) h.moves) in
    let ready = ready_from_ranged w s r in
    let low = low_from_ranged w s r in
    let high : h₀ < w = omega (arith, ready.height, z.few) in
    let way = (gate_inside w h₀ z.few z.most low high p h.reach.inside).1 in
    record {
      few = z.few;
      most = z.most;
      blank = λ q i j l a o u. elim (ℕ_discrete (gate_of w q i) (gate_of w p h₀)) [
        | yes e ↦
            let b₀ = subst (λ (g : ℕ). Blank (word_of b g (Apply (record { 0 = j })))) e (z.blank q i j l a o u) in
            subst (λ (g : ℕ). Blank (held (poll_step b p k).cells (cell_of w g 0 + apply_cell j))) (sym e)
            (blank_step s.place (coin_of k) m s b.cells j u b₀)
        | no e ↦
            subst (λ (x : ℕ). Blank x)
            (sym (step_outside s.place (coin_of k) m s b.cells (cell_of w (gate_of w q i) 0 + apply_cell j) way ready.kept (gate_apart w (gate_of w q i) (gate_of w p h₀) (apply_cell j) e (omega arith))))
            (z.blank q i j l a o u)
      ];
    }

-- The box after an opening. Assumes nothing.
--     opened_ghost    every gate is idle, and nobody occupies a way
--     opened_apply    every Apply is 0
--     opened_related  the relation holds
use Rattle.std.proofs.Common.{◌≡◌, ℕ, zero, suc, ◌+◌, ◌*◌, ◌^◌, ◌<◌, ◌≤◌, true, List, length, drop, replicate, sym, refl, ap, ◌∙◌, subst, mul-le-mul_right, arith}
use Rattle.std.proofs.lemmas.List.{length-append, length-replicate, get_or_append_left, get_or-replicate}
use Rattle.layout.specs.Gates.{heights_of, seats_of, gates_of, cells_of, gate_of, gate_cells, count_cell, sync_one, sync_two, pawns_cell, apply_cell}
use Rattle.seats.specs.declared.seat.Seat.{Seat}
use Rattle.seats.specs.Lawful.{lawful_open}
use Rattle.seats.specs.Places.{state_number, place_number}
use Rattle.seats.specs.Seats.{away}
use Rattle.store.specs.Words.{held}
use Rattle.steps.specs.declared.cells.Cell.TheVariants.{Apply}
use Rattle.steps.specs.Pawns.{lane}
use Rattle.lock.specs.States.{BoxState, seat_at}
use Rattle.lock.specs.Calls.{cleared}
use Rattle.gate.proofs.Phases.{Cells, idle, WayOk}
use Rattle.gate.proofs.Gates.{still}
use Rattle.relation.proofs.Geometry.{gate_inside}
use Rattle.relation.proofs.Views.{word_of, cells_at, marks_of, Ghost, high_at}
use Rattle.relation.proofs.Relation.{HandedFits, Sound, Linked, GateAt, Related}

abbrev pub opened_ghost : Ghost
opened_ghost = record { phase = λ g. idle; owner = λ g j. 0 }

lane_zero : (j : ℕ) → lane 0 j ≡ 0
lane_zero zero = refl
lane_zero (suc zero) = refl
lane_zero (suc (suc zero)) = refl
lane_zero (suc (suc (suc zero))) = refl
lane_zero (suc (suc (suc (suc j)))) = refl

-- an idle way with nobody
idle-way : (w h H : ℕ) (c : Cells) (j a r l : ℕ) → a ≡ 0 → l ≡ 0 → WayOk h H idle c j (still 0) (marks_of a r l)
idle-way w h H c j a r l e d = grind arith

module _ (w : ℕ) (ts : List Seat) (ws : List ℕ) (few : 2 ≤ w) (most : w ≤ 4) (room : cells_of w ≤ length ws) (table : seats_of w ≤ length ts) where
  abbrev b : BoxState
  b = cleared w ts ws

  all_away : (p : ℕ) → p < seats_of w → seat_at b p ≡ away
  all_away p l =
      let n : p < length (replicate (seats_of w) away) = omega (arith, length-replicate (seats_of w) away) in
      get_or_append_left (replicate (seats_of w) away) (drop (seats_of w) ts) away p n ∙ get_or-replicate (seats_of w) p away away l

  all_zero : (k : ℕ) → k < cells_of w → held b.cells k ≡ 0
  all_zero k l =
      let n : k < length (replicate {A = ℕ} (cells_of w) 0) = omega (arith, length-replicate {A = ℕ} (cells_of w) 0) in
      get_or_append_left (replicate (cells_of w) 0) (drop (cells_of w) ws) 0 k n ∙ get_or-replicate (cells_of w) k 0 0 l

  gate_zero : (g k : ℕ) → g < gates_of w → k < gate_cells w → held b.cells (g * gate_cells w + 0 + k) ≡ 0
  gate_zero g k l m = let n = mul-le-mul_right (gate_cells w) l in all_zero (g * gate_cells w + 0 + k) (omega arith)

  none_high : (p : ℕ) → p < seats_of w → high_at b p ≡ 0
  none_high p l = grind (arith, all_away p l)

  pub opened_apply : (g j : ℕ) → g < gates_of w → j < w → word_of b g (Apply (record { 0 = j })) ≡ 0
  opened_apply g j l m = gate_zero g (apply_cell j) l (omega arith)

  gate-idle : (k g : ℕ) → g < gates_of w → GateAt b opened_ghost k g
  gate-idle k g l =
      let count = gate_zero g count_cell l (omega arith) in
      let one = gate_zero g sync_one l (omega arith) in
      let two = gate_zero g sync_two l (omega arith) in
      let pawns = gate_zero g pawns_cell l (omega arith) in
      record {
        gate = record {
          cells = (count, one, two);
          ways = λ j m. idle-way w k (heights_of w) (cells_at b g) j _ _ _ (opened_apply g j l m) (ap (λ x. lane x j) pawns ∙ lane_zero j);
          noted = λ a j m n o. absurd (omega arith);
          fresh = λ a j m n o. absurd (omega arith);
        };
        pawns = subst (λ (x : ℕ). x < 2 ^ 64) (sym pawns) (omega arith);
        applies = λ j m. subst (λ (x : ℕ). x < 65536) (sym (opened_apply g j l m)) (omega arith);
      }

  opened_sound : Sound b
  opened_sound =
      record {
        sized = record {
          few = few;
          most = most;
          cells = omega (arith, length-append (replicate {A = ℕ} (cells_of w) 0) (drop (cells_of w) ws), length-replicate {A = ℕ} (cells_of w) 0);
          seats = omega (arith, length-append (replicate (seats_of w) away) (drop (seats_of w) ts), length-replicate (seats_of w) away);
        };
        next = omega arith;
        law = λ p l. subst (λ (s : Seat). lawful_open w s ≡ true) (sym (all_away p l)) refl;
        handed = λ p l. subst (λ (s : Seat). HandedFits s) (sym (all_away p l)) (λ e. (cc));
        apart = λ p q l m n d e. absurd (n (ap (λ s. state_number s.state) (all_away p l)));
        given = λ p l. subst (λ (s : Seat). s.passage.0 < 1) (sym (all_away p l)) (omega arith);
        late = λ p l e. absurd (let d : place_number (seat_at b p).place ≡ 0 = ap (λ s. place_number s.place) (all_away p l) in omega arith);
      }

  linked : Linked b opened_ghost
  linked =
      record {
        owned = λ p k l m n o. absurd (let e = none_high p l in let c = o.1 in omega arith);
        owns = λ p k l m n e. absurd (omega arith);
        belongs = λ p k j q l m n o e. absurd (omega arith);
      }

  related : Related b opened_ghost
  related =
      record {
        sound = opened_sound;
        linked = linked;
        gates = λ p k l m n. gate-idle k (gate_of w p k) (gate_inside w k few most m n p l).0;
      }

pub opened_related : (w : ℕ) (ts : List Seat) (ws : List ℕ) → 2 ≤ w → w ≤ 4 → cells_of w ≤ length ws → seats_of w ≤ length ts → (G : Ghost) × Related (cleared w ts ws) G
opened_related w ts ws few most room table = (opened_ghost, related w ts ws few most room table)

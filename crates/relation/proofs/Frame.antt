-- A change of one seat, and of the cells of one gate, in a box. Assumes nothing.
--     SeatChange    what the new record of a seat has to show by itself
--     sound-change  the box stays sound
--     Elsewhere     what stays at the other gates
--     gates_change  every gate is in its phase, if the changed one is
use Rattle.std.proofs.Common.{◌≡◌, ℕ, ◌+◌, ◌^◌, ◌<◌, ◌≤◌, true, ◌≢◌, List, length, sym, refl, ◌∙◌, subst, arith}
use native.Mathlib.Decide.{ℕ_discrete}
use Rattle.std.proofs.lemmas.List.{get_or-set_same, get_or-set_other, length-set}
use Rattle.layout.specs.Gates.{heights_of, seats_of, gate_of, way_of, gate_cells, cell_of, count_cell, sync_one, sync_two, pawns_cell, apply_cell, role_cell}
use Rattle.seats.specs.declared.seat.Seat.{Seat}
use Rattle.seats.specs.Lawful.{lawful_open}
use Rattle.seats.specs.Places.{state_number, place_number}
use Rattle.seats.specs.Seats.{away}
use Rattle.store.specs.Words.{held}
use Rattle.steps.specs.declared.cells.Cell.TheVariants.{Count, SyncOne, SyncTwo, Pawns, Apply, Role}
use Rattle.steps.specs.Pawns.{lane}
use Rattle.lock.specs.States.{BoxState, seat_at, with_seat}
use Rattle.gate.proofs.Phases.{Cells, Phase}
use Rattle.gate.proofs.Gates.{Gate, gate_same}
use Rattle.relation.proofs.Geometry.{height_apart}
use Rattle.relation.proofs.Views.{word_of, cells_at, marks_of, marks_at, Ghost, stand_at}
use Rattle.relation.proofs.Relation.{YetAt, Late, Sized, HandedFits, Sound, GateAt, Related}

-- seat p of the box b gets the record t
pub record SeatChange (b : BoxState) (p : ℕ) (t : Seat) : Type 0 where
  pub law : lawful_open b.ways t ≡ true
  pub handed : HandedFits t
  pub passage : state_number t.state ≢ 0 → (state_number (seat_at b p).state ≢ 0) × (t.passage.0 ≡ (seat_at b p).passage.0)
  pub given : t.passage.0 < b.next
  pub yet : (k : ℕ) → YetAt t k → YetAt (seat_at b p) k
  pub late : place_number t.place ≡ 70 → Late b p t

module _ (b : BoxState) (p : ℕ) (t : Seat) (ws : List ℕ) (inside : p < seats_of b.ways) (z : Sized b) where
  abbrev changed : BoxState
  changed = with_seat b p t ws

  pub seat_own : seat_at changed p ≡ t
  seat_own = let l : p < length b.seats = omega (arith, z.seats) in get_or-set_same b.seats p t away l

  pub seat_else : (q : ℕ) → q ≢ p → seat_at changed q ≡ seat_at b q
  seat_else q n = get_or-set_other b.seats p q t away n

  -- what holds of the new record, and of every other seat, holds of all
  pub by_seat : (P : ℕ → Seat → Type 0) → P p t → ((q : ℕ) → q ≢ p → P q (seat_at b q)) → (q : ℕ) → P q (seat_at changed q)
  by_seat P a o q =
      elim (ℕ_discrete q p) [
        | yes e ↦ subst (λ (x : ℕ). P x (seat_at changed x)) (sym e) (subst (λ (s : Seat). P p s) (sym seat_own) a)
        | no e ↦ subst (λ (s : Seat). P q s) (sym (seat_else q e)) (o q e)
      ]

  pub sized-change : length ws ≡ length b.cells → Sized changed
  sized-change e =
      let l = length-set b.seats p t in
      record { few = z.few; most = z.most; cells = omega (arith, z.cells, e); seats = omega (arith, z.seats, l) }

  module _ (s : Sound b) (c : SeatChange b p t) where
    late-change : (x : ℕ) (r : Seat) → Late b x r → (YetAt t r.height → YetAt (seat_at b p) r.height) → Late changed x r
    late-change x r l y =
        record {
          given = l.given;
          apart = by_seat (λ q v. q < seats_of b.ways → YetAt v r.height → gate_of b.ways q r.height ≡ gate_of b.ways x r.height → way_of b.ways q r.height ≡ r.kept_way.0 → v.passage.0 ≢ r.kept_number.0)
              (λ m o g w e.
              let n : state_number t.state ≢ 0 = λ d. let a = o.0 in omega arith in
              l.apart p m (y o) g w (sym (c.passage n).1 ∙ e))
              (λ q n m o g w e. l.apart q m o g w e);
        }

    pub sound-change : length ws ≡ length b.cells → Sound changed
    sound-change e =
        record {
          sized = sized-change e;
          next = s.next;
          law = by_seat (λ q v. q < seats_of b.ways → lawful_open b.ways v ≡ true) (λ l. c.law) (λ q n l. s.law q l);
          handed = by_seat (λ q v. q < seats_of b.ways → HandedFits v) (λ l. c.handed) (λ q n l. s.handed q l);
          apart = λ x y.
              by_seat (λ q v. q < seats_of b.ways → y < seats_of b.ways → state_number v.state ≢ 0 → state_number (seat_at changed y).state ≢ 0 → v.passage.0 ≡ (seat_at changed y).passage.0 → q ≡ y)
              (by_seat (λ q v. p < seats_of b.ways → q < seats_of b.ways → state_number t.state ≢ 0 → state_number v.state ≢ 0 → t.passage.0 ≡ v.passage.0 → p ≡ q)
              (λ l m a d f. refl)
              (λ q n l m a d f. s.apart p q l m (c.passage a).0 d (sym (c.passage a).1 ∙ f)) y)
              (λ q n.
              by_seat (λ r v. q < seats_of b.ways → r < seats_of b.ways → state_number (seat_at b q).state ≢ 0 → state_number v.state ≢ 0 → (seat_at b q).passage.0 ≡ v.passage.0 → q ≡ r)
              (λ l m a d f. s.apart q p l m a (c.passage d).0 (f ∙ (c.passage d).1))
              (λ r o l m a d f. s.apart q r l m a d f) y)
              x;
          given = by_seat (λ q v. q < seats_of b.ways → v.passage.0 < b.next) (λ l. c.given) (λ q n l. s.given q l);
          late = by_seat (λ q v. q < seats_of b.ways → place_number v.place ≡ 70 → Late changed q v)
              (λ l d. late-change p t (c.late d) (λ y. c.yet t.height y))
              (λ q n l d. late-change q (seat_at b q) (s.late q l d) (λ y. c.yet (seat_at b q).height y));
        }

-- the words of gate x, of the ways below w, are the same
pub record SameWords (b a : BoxState) (x : ℕ) : Type 0 where
  pub count : word_of a x Count ≡ word_of b x Count
  pub sync_one : word_of a x SyncOne ≡ word_of b x SyncOne
  pub sync_two : word_of a x SyncTwo ≡ word_of b x SyncTwo
  pub pawns : word_of a x Pawns ≡ word_of b x Pawns
  pub apply : (j : ℕ) → j < b.ways → word_of a x (Apply (record { 0 = j })) ≡ word_of b x (Apply (record { 0 = j }))
  pub role : (j : ℕ) → j < b.ways → word_of a x (Role (record { 0 = j })) ≡ word_of b x (Role (record { 0 = j }))

module _ (b : BoxState) (p : ℕ) (t : Seat) (ws : List ℕ) where
  pub same_words : (x : ℕ) → ((o : ℕ) → o < gate_cells b.ways → held ws (cell_of b.ways x 0 + o) ≡ held b.cells (cell_of b.ways x 0 + o)) → SameWords b (with_seat b p t ws) x
  same_words x h =
      record {
        count = h count_cell (omega arith);
        sync_one = h sync_one (omega arith);
        sync_two = h sync_two (omega arith);
        pawns = h pawns_cell (omega arith);
        apply = λ j l. h (apply_cell j) (omega arith);
        role = λ j l. h (role_cell b.ways j) (omega arith);
      }

  -- gate x of height k shows the same
  pub gate_kept : (G G' : Ghost) (k x : ℕ) → SameWords b (with_seat b p t ws) x → G'.phase x ≡ G.phase x → ((j : ℕ) → j < b.ways → stand_at (with_seat b p t ws) G' k x j ≡ stand_at b G k x j) → GateAt b G k x → GateAt (with_seat b p t ws) G' k x
  gate_kept G G' k x e f u g =
      let a : BoxState = with_seat b p t ws in
      let c : cells_at a x ≡ cells_at b x = λ i. record { count = e.count i; sync_one = e.sync_one i; sync_two = e.sync_two i } in
      let m : (j : ℕ) → j < b.ways → marks_at a x j ≡ marks_at b x j =
      λ j l. λ i. marks_of (e.apply j l i) (e.role j l i) (lane (e.pawns i) j) in
      record {
        gate = subst (λ (h : Phase). Gate b.ways k (heights_of b.ways) h (cells_at a x) (stand_at a G' k x) (marks_at a x)) (sym f)
            (subst (λ (d : Cells). Gate b.ways k (heights_of b.ways) (G.phase x) d (stand_at a G' k x) (marks_at a x)) (sym c)
            (gate_same b.ways k (heights_of b.ways) (G.phase x) (cells_at b x) (stand_at b G k x) (stand_at a G' k x) (marks_at b x) (marks_at a x) g.gate u m));
        pawns = subst (λ (n : ℕ). n < 2 ^ 64) (sym e.pawns) g.pawns;
        applies = λ j l. subst (λ (n : ℕ). n < 65536) (sym (e.apply j l)) (g.applies j l);
      }

-- what stays at the gates other than that which seat p meets at height h
pub record Elsewhere (b a : BoxState) (G G' : Ghost) (p h : ℕ) : Type 0 where
  pub words : (q k : ℕ) → q < seats_of b.ways → 1 ≤ k → k < b.ways → gate_of b.ways q k ≢ gate_of b.ways p h → SameWords b a (gate_of b.ways q k)
  pub phase : (x : ℕ) → x ≢ gate_of b.ways p h → G'.phase x ≡ G.phase x
  pub stands : (q k j : ℕ) → q < seats_of b.ways → 1 ≤ k → k < b.ways → j < b.ways → gate_of b.ways q k ≢ gate_of b.ways p h → stand_at a G' k (gate_of b.ways q k) j ≡ stand_at b G k (gate_of b.ways q k) j

pub gates_change : (b : BoxState) (G G' : Ghost) (p h : ℕ) (t : Seat) (ws : List ℕ) → Related b G → p < seats_of b.ways → 1 ≤ h → h < b.ways → Elsewhere b (with_seat b p t ws) G G' p h → GateAt (with_seat b p t ws) G' h (gate_of b.ways p h) → (q k : ℕ) → q < seats_of b.ways → 1 ≤ k → k < b.ways → GateAt (with_seat b p t ws) G' k (gate_of b.ways q k)
gates_change b G G' p h t ws R pl low high e own q k ql kl kh =
    let w = b.ways in
    elim (ℕ_discrete (gate_of w q k) (gate_of w p h)) [
      | yes d ↦
          let z = R.sound.sized in
          let n : k ≡ h = height_apart w k z.few z.most kl kh h q p low high ql pl d in
          subst (λ (x : ℕ). GateAt (with_seat b p t ws) G' k x) (sym d) (subst (λ (y : ℕ). GateAt (with_seat b p t ws) G' y (gate_of w p h)) (sym n) own)
      | no d ↦
          gate_kept b p t ws G G' k (gate_of w q k) (e.words q k ql kl kh d) (e.phase (gate_of w q k) d) (λ j l. e.stands q k j ql kl kh l d) (R.gates q k ql kl kh)
    ]

-- When all seats are away, every gate is clear, in a related box. Assumes nothing.
--     Deserted          nobody stands at any way of a gate
--     all_idle          such a gate is idle
--     clear_related     what the law of runs says of an empty box needs it
--     blanks_performed  each call keeps it that an Apply whose state is empty holds 0
use Rattle.std.proofs.Common.{◌≡◌, ℕ, ◌+◌, ◌-◌, ◌<◌, ◌≤◌, Ok, Err, Result, sym, refl, subst, arith}
use native.Mathlib.Decide.{ℕ_discrete}
use Rattle.layout.specs.declared.fault.Refusal.{Refusal}
use Rattle.layout.specs.Gates.{heights_of, seats_of, gate_of, way_of}
use Rattle.seats.specs.declared.seat.Seat.{Seat}
use Rattle.seats.specs.Places.{state_number}
use Rattle.steps.specs.declared.cells.Cell.TheVariants.{Count}
use Rattle.lock.specs.States.{BoxState, seat_at}
use Rattle.gate.proofs.Phases.{Stand, Cells, Marks, Phase, idle, solo, pair, clean, free, drain, prom, WayOk, CellsOk}
use Rattle.gate.proofs.Gates.{still}
use Rattle.relation.proofs.Geometry.{gate_inside}
use Rattle.relation.proofs.Views.{word_of, cells_at, marks_at, Ghost, high_of, high_at}
use Rattle.relation.proofs.Relation.{Related}
use Rattle.relation.proofs.Links.{shown-nobody}
use Rattle.relation.proofs.Accepted.{apply_accepted, give_up_accepted, leave_accepted, publish_accepted, poll_accepted}
use Rattle.relation.proofs.Blanks.{Blanks, same_blanks, polled_blanks}
use Rattle.laws.specs.declared.call.Call.{Call}
use Rattle.laws.specs.declared.call.Call.TheVariants.{Apply, Poll, GiveUp, Leave, Publish}
use Rattle.laws.specs.Runs.{performed}
use Rattle.laws.specs.Law.{AllAway}
use Rattle.laws.proofs.Prompt.{refused_same}
use Rattle.laws.proofs.OpenLaws.{EmptyClear}

away_nowhere : (w r t : ℕ) (s : Seat) → state_number s.state ≡ 0 → high_of w r t s ≡ 0
away_nowhere w r t s e = grind arith

record Deserted (w h H : ℕ) (f : Phase) (c : Cells) (y : ℕ → Marks) : Type 0 where
  ways : (j : ℕ) → j < w → WayOk h H f c j (still 0) (y j)

all_idle : (w h H : ℕ) (f : Phase) (c : Cells) (y : ℕ → Marks) → CellsOk w h H f c → Deserted w h H f c y → (c.count ≡ 0) × ((j : ℕ) → j < w → (y j).applied ≡ 0)
all_idle w h H idle c y co l = (co.0, λ j m. let o = l.ways j m in grind arith)
all_idle w h H (solo k) c y co l = let o = l.ways k co.3 in absurd (grind arith)
all_idle w h H (pair k q) c y co l = let o = l.ways k co.2 in let p = l.ways q co.3 in absurd (grind arith)
all_idle w h H (clean r a) c y co l = let o = l.ways r co.3 in absurd (grind arith)
all_idle w h H (free r) c y co l = let o = l.ways r co.3 in absurd (grind arith)
all_idle w h H (drain r) c y co l = let o = l.ways r co.3 in absurd (grind arith)
all_idle w h H (prom p) c y co l = let o = l.ways p co.3 in absurd (grind arith)

module _ (b : BoxState) (G : Ghost) (R : Related b G) (v : AllAway b) (p k : ℕ) (l : p < seats_of b.ways) (low : 1 ≤ k) (high : k < b.ways) where
  abbrev g : ℕ
  g = gate_of b.ways p k

  nobody : (j : ℕ) → j < b.ways → G.owner g j ≡ 0
  nobody j m =
      elim (ℕ_discrete (G.owner g j) 0) [
        | yes e ↦ e
        | no e ↦
            let q = G.owner g j - 1 in
            let o : G.owner g j ≡ q + 1 = omega arith in
            let c = R.linked.belongs p k j q l low high m o in
            let d : G.owner (gate_of b.ways q k) (way_of b.ways q k) ≡ q + 1 =
            subst (λ (x : ℕ). G.owner x (way_of b.ways q k) ≡ q + 1) (sym c.1) (subst (λ (x : ℕ). G.owner g x ≡ q + 1) (sym c.2) o) in
            let z = R.linked.owns q k c.0 low high d in
            let n : high_at b q ≡ 0 = away_nowhere b.ways _ _ (seat_at b q) (v q c.0) in
            let y = z.1 in
            absurd (omega arith)
      ]

  clear_marks : (word_of b g Count ≡ 0) × ((j : ℕ) → j < b.ways → (marks_at b g j).applied ≡ 0)
  clear_marks =
      let gate = (R.gates p k l low high).gate in
      all_idle b.ways k (heights_of b.ways) (G.phase g) (cells_at b g) (marks_at b g) gate.cells (record {
        ways = λ j m. subst (λ (u : Stand). WayOk k (heights_of b.ways) (G.phase g) (cells_at b g) j u (marks_at b g j))
            (shown-nobody (G.owner g j) k (seat_at b (G.owner g j - 1)) (nobody j m)) (gate.ways j m);
      })

pub clear_related : (b : BoxState) (G : Ghost) → Related b G → Blanks b → EmptyClear b
clear_related b G R z v p k l low high =
    let c = clear_marks b G R v p k l low high in
    let s = R.sound.sized in
    let i = way_of b.ways p k in
    let m = (gate_inside b.ways k s.few s.most low high p l).1 in
    record { count = c.0; apply = (z.blank p k i l low high m).empty (c.1 i m) }

blanks_accepted : (c : Call) (b : BoxState) (x : ℕ) → Blanks b → (performed c b).answer ≡ Ok x → Blanks (performed c b).after
unfolding performed
blanks_accepted (Apply p) b x z e =
    subst (λ (a : BoxState). Blanks a) (sym (apply_accepted b p.0 x e).after) (same_blanks b (b.next + 1) _ z)
blanks_accepted (Poll p n k) b x z e =
    let h = poll_accepted b p.0 n.0 k x e in
    subst (λ (a : BoxState). Blanks a) (sym h.after) (polled_blanks b p.0 n.0 k z h)
blanks_accepted (GiveUp p n) b x z e =
    subst (λ (a : BoxState). Blanks a) (sym (give_up_accepted b p.0 n.0 x e).after) (same_blanks b b.next _ z)
blanks_accepted (Leave p n) b x z e =
    subst (λ (a : BoxState). Blanks a) (sym (leave_accepted b p.0 n.0 x e).left_after) (same_blanks b b.next _ z)
blanks_accepted (Publish p n) b x z e =
    subst (λ (a : BoxState). Blanks a) (sym (publish_accepted b p.0 n.0 x e).published-after) z

blanks_answered : (c : Call) (b : BoxState) (r : Result ℕ Refusal) → Blanks b → (performed c b).answer ≡ r → Blanks (performed c b).after
blanks_answered c b (Ok x) z e = blanks_accepted c b x z e
blanks_answered c b (Err f) z e = subst (λ (a : BoxState). Blanks a) (sym (refused_same c b f e)) z

pub blanks_performed : (c : Call) (b : BoxState) → Blanks b → Blanks (performed c b).after
blanks_performed c b z = blanks_answered c b (performed c b).answer z refl

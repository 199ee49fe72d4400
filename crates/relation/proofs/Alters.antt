-- What a write to the cells of a gate makes of its cells and of the marks of its ways. Assumes nothing.
--     Alters          the words x of a gate, against those before: the cells, the marks of way i, and those of the others
--     alters_nothing, alters-count, alters-sync-one, alters-sync-two, alters-role, alters-apply
--                     by the cell that is written
--     alters-pawns    the pawn word; alters-told, Apply of another way
--     alters-as       the same marks, said otherwise
use Rattle.std.proofs.Common.{◌≡◌, ℕ, ◌/◌, ◌%◌, ◌^◌, ◌<◌, Bool, cond, eqb, ◌≢◌, sym, refl, ap, ◌∙◌, subst}
use native.Mathlib.Decide.{ℕ_discrete}
use Rattle.std.proofs.lemmas.Bool.{eq-eqb, ne_eqb}
use Rattle.steps.specs.declared.cells.Cell.TheVariants.{Count, SyncOne, SyncTwo, Pawns, Apply, Role}
use Rattle.steps.specs.Pawns.{lane}
use Rattle.gate.proofs.Phases.{Marks, Cells}
use Rattle.gate.proofs.Gates.{counts, syncs_one, syncs_two, applies, plays, lists}
use Rattle.relation.proofs.Views.{marks_of}
use Rattle.relation.proofs.GateWords.{Words, written, cells_in, marks_in}

-- of w ways, of which i takes the step; v are the words before, c, y and alter what it makes of the cells and the marks
pub record Alters (w i : ℕ) (v x : Words) (c : Cells) (y : Marks) (alter : ℕ → Marks → Marks) : Type 0 where
  pub cells : cells_in x ≡ c
  pub own : marks_in x i ≡ y
  pub else : (j : ℕ) → j < w → j ≢ i → marks_in x j ≡ alter j (marks_in v j)
  pub roles : (j : ℕ) → j < w → j ≢ i → x.role j ≡ v.role j
  pub pawns : x.pawns < 2 ^ 64
  pub applies : (j : ℕ) → j < w → x.apply j < 65536

module _ (w i : ℕ) (v : Words) where
  pub alters_nothing : v.pawns < 2 ^ 64 → ((j : ℕ) → j < w → v.apply j < 65536) → Alters w i v v (cells_in v) (marks_in v i) (λ j y. y)
  alters_nothing f a = record { cells = refl; own = refl; else = λ j l n. refl; roles = λ j l n. refl; pawns = f; applies = a }

  module _ (x : Words) (c : Cells) (y : Marks) (alter : ℕ → Marks → Marks) (s : Alters w i v x c y alter) where
    pub alters-count : (n : ℕ) → Alters w i v (written Count n x) (counts n c) y alter
    alters-count n =
        record { cells = ap (counts n) s.cells; own = s.own; else = s.else; roles = s.roles; pawns = s.pawns; applies = s.applies }

    pub alters-sync-one : (n : ℕ) → Alters w i v (written SyncOne n x) (syncs_one n c) y alter
    alters-sync-one n =
        record { cells = ap (syncs_one n) s.cells; own = s.own; else = s.else; roles = s.roles; pawns = s.pawns; applies = s.applies }

    pub alters-sync-two : (n : ℕ) → Alters w i v (written SyncTwo n x) (syncs_two n c) y alter
    alters-sync-two n =
        record { cells = ap (syncs_two n) s.cells; own = s.own; else = s.else; roles = s.roles; pawns = s.pawns; applies = s.applies }

    pub alters-role : (n : ℕ) → Alters w i v (written (Role (record { 0 = i })) n x) c (plays n y) alter
    alters-role n =
        record {
          cells = s.cells;
          own = ap (λ (t : Bool). marks_of (x.apply i) (cond t n (x.role i)) (lane x.pawns i)) (eq-eqb i i refl) ∙ ap (plays n) s.own;
          else = λ j l e. ap (λ (t : Bool). marks_of (x.apply j) (cond t n (x.role j)) (lane x.pawns j)) (ne_eqb j i e) ∙ s.else j l e;
          roles = λ j l e. ap (λ (t : Bool). cond t n (x.role j)) (ne_eqb j i e) ∙ s.roles j l e;
          pawns = s.pawns;
          applies = s.applies;
        }

    pub alters-apply : (n : ℕ) → n < 65536 → Alters w i v (written (Apply (record { 0 = i })) n x) c (applies (n % 4) (n / 4) y) alter
    alters-apply n f =
        record {
          cells = s.cells;
          own = ap (λ (t : Bool). marks_of (cond t n (x.apply i)) (x.role i) (lane x.pawns i)) (eq-eqb i i refl) ∙ ap (applies (n % 4) (n / 4)) s.own;
          else = λ j l e. ap (λ (t : Bool). marks_of (cond t n (x.apply j)) (x.role j) (lane x.pawns j)) (ne_eqb j i e) ∙ s.else j l e;
          roles = s.roles;
          pawns = s.pawns;
          applies = λ j l. elim (ℕ_discrete j i) [
            | yes e ↦ subst (λ (t : Bool). cond t n (x.apply j) < 65536) (sym (eq-eqb j i e)) f
            | no e ↦ subst (λ (t : Bool). cond t n (x.apply j) < 65536) (sym (ne_eqb j i e)) (s.applies j l)
          ];
        }

    pub alters-pawns : (n : ℕ) → n < 2 ^ 64 → Alters w i v (written Pawns n x) c (lists (lane n i % 4) (lane n i / 4) y) (λ j m. lists (lane n j % 4) (lane n j / 4) (alter j m))
    alters-pawns n f =
        record {
          cells = s.cells;
          own = ap (lists (lane n i % 4) (lane n i / 4)) s.own;
          else = λ j l e. ap (lists (lane n j % 4) (lane n j / 4)) (s.else j l e);
          roles = s.roles;
          pawns = f;
          applies = s.applies;
        }

    -- Apply of another way, or of the own
    pub alters-told : (k n : ℕ) → k ≢ i → n < 65536 → Alters w i v (written (Apply (record { 0 = k })) n x) c y (λ j m. cond (eqb j k) (applies (n % 4) (n / 4) (alter j m)) (alter j m))
    alters-told k n d f =
        record {
          cells = s.cells;
          own = ap (λ (t : Bool). marks_of (cond t n (x.apply i)) (x.role i) (lane x.pawns i)) (ne_eqb i k (λ e. d (sym e))) ∙ s.own;
          else = λ j l e. elim (ℕ_discrete j k) [
            | yes q ↦ rw (eq-eqb j k q) (ap (applies (n % 4) (n / 4)) (s.else j l e))
            | no q ↦ rw (ne_eqb j k q) (s.else j l e)
          ];
          roles = s.roles;
          pawns = s.pawns;
          applies = λ j l. elim (ℕ_discrete j k) [
            | yes e ↦ subst (λ (t : Bool). cond t n (x.apply j) < 65536) (sym (eq-eqb j k e)) f
            | no e ↦ subst (λ (t : Bool). cond t n (x.apply j) < 65536) (sym (ne_eqb j k e)) (s.applies j l)
          ];
        }

    pub alters-as : (c' : Cells) (y' : Marks) (alter' : ℕ → Marks → Marks) → c ≡ c' → y ≡ y' → ((j : ℕ) → j < w → j ≢ i → alter j (marks_in v j) ≡ alter' j (marks_in v j)) → Alters w i v x c' y' alter'
    alters-as c' y' alter' d e f =
        record { cells = s.cells ∙ d; own = s.own ∙ e; else = λ j l n. s.else j l n ∙ f j l n; roles = s.roles; pawns = s.pawns; applies = s.applies }

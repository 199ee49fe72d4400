-- The words of one gate, and what a write to one of its cells makes of them. Assumes nothing.
--     Words, words_of     the words of a gate; those that the store ws has at the meeting m
--     written             the words with another one in a cell
--     Shows ws m x        the store has the words x in the cells of the gate of m, as far as its ways go
--     shows_put           a write
--     Wrote               a store that has such words, and is the same outside the gate
--     cells_in, marks_in  the cells and the marks of a way, of such words
use Rattle.std.proofs.Common.{◌≡◌, ℕ, ◌+◌, ◌<◌, ◌≤◌, ◌≢◌, ◌⊎◌, List, length, refl, ap, ◌∙◌, inl, inr, arith}
use native.Mathlib.Decide.{ℕ_discrete}
use Rattle.std.proofs.lemmas.List.{get_or-set_same, get_or-set_other, length-set}
use Rattle.std.proofs.lemmas.Bool.{eq-eqb, ne_eqb}
use Rattle.layout.specs.declared.path.Meeting.{Meeting}
use Rattle.layout.specs.Gates.{gate_cells}
use Rattle.steps.specs.declared.cells.Cell.{Cell}
use Rattle.steps.specs.declared.cells.Cell.TheVariants.{Count, SyncOne, SyncTwo, Pawns, Apply, Role}
use Rattle.store.specs.Words.{held}
use Rattle.steps.specs.Codes.{cell_at}
use Rattle.steps.specs.Outcomes.{word, put}
use Rattle.steps.specs.Pawns.{lane}
use Rattle.gate.proofs.Phases.{Marks, Cells}
use Rattle.gate.proofs.Gates.{at}
use Rattle.relation.proofs.Views.{marks_of}

pub record Words : Type 0 where
  pub count : ℕ
  pub sync_one : ℕ
  pub sync_two : ℕ
  pub pawns : ℕ
  pub apply : ℕ → ℕ
  pub role : ℕ → ℕ

abbrev pub words_of : List ℕ → Meeting → Words
words_of ws m =
    record { count = word ws m Count; sync_one = word ws m SyncOne; sync_two = word ws m SyncTwo; pawns = word ws m Pawns; apply = λ j. word ws m (Apply (record { 0 = j })); role = λ j. word ws m (Role (record { 0 = j })) }

abbrev pub written : Cell → ℕ → Words → Words
written Count n x =
    record { count = n; sync_one = x.sync_one; sync_two = x.sync_two; pawns = x.pawns; apply = x.apply; role = x.role }
written SyncOne n x =
    record { count = x.count; sync_one = n; sync_two = x.sync_two; pawns = x.pawns; apply = x.apply; role = x.role }
written SyncTwo n x =
    record { count = x.count; sync_one = x.sync_one; sync_two = n; pawns = x.pawns; apply = x.apply; role = x.role }
written Pawns n x =
    record { count = x.count; sync_one = x.sync_one; sync_two = x.sync_two; pawns = n; apply = x.apply; role = x.role }
written (Apply j) n x =
    record { count = x.count; sync_one = x.sync_one; sync_two = x.sync_two; pawns = x.pawns; apply = at x.apply j.0 n; role = x.role }
written (Role j) n x =
    record { count = x.count; sync_one = x.sync_one; sync_two = x.sync_two; pawns = x.pawns; apply = x.apply; role = at x.role j.0 n }

pub record Shows (ws : List ℕ) (m : Meeting) (x : Words) : Type 0 where
  pub count : word ws m Count ≡ x.count
  pub sync_one : word ws m SyncOne ≡ x.sync_one
  pub sync_two : word ws m SyncTwo ≡ x.sync_two
  pub pawns : word ws m Pawns ≡ x.pawns
  pub apply : (j : ℕ) → j < m.ways → word ws m (Apply (record { 0 = j })) ≡ x.apply j
  pub role : (j : ℕ) → j < m.ways → word ws m (Role (record { 0 = j })) ≡ x.role j

pub shows_all : (ws : List ℕ) (m : Meeting) → Shows ws m (words_of ws m)
shows_all ws m = record { count = refl; sync_one = refl; sync_two = refl; pawns = refl; apply = λ j l. refl; role = λ j l. refl }

-- the cell is one of the gate's
abbrev pub Within : Meeting → Cell → Type 0
Within m Count = Unit {0}
Within m SyncOne = Unit {0}
Within m SyncTwo = Unit {0}
Within m Pawns = Unit {0}
Within m (Apply j) = j.0 < m.ways
Within m (Role j) = j.0 < m.ways

module _ (ws : List ℕ) (m : Meeting) (n : ℕ) where
  -- another cell, by its position
  else : (c d : Cell) → cell_at m d ≢ cell_at m c → word (put ws m c n) m d ≡ word ws m d
  else c d e = get_or-set_other ws (cell_at m c) (cell_at m d) n 0 e

  own : (c : Cell) → cell_at m c < length ws → word (put ws m c n) m c ≡ n
  own c l = get_or-set_same ws (cell_at m c) n 0 l

  pub shows_put : (x : Words) (c : Cell) → m.base + gate_cells m.ways ≤ length ws → Within m c → Shows ws m x → Shows (put ws m c n) m (written c n x)
  shows_put x Count r i s =
      record {
        count = own Count (omega arith);
        sync_one = else Count SyncOne (λ e. omega arith) ∙ s.sync_one;
        sync_two = else Count SyncTwo (λ e. omega arith) ∙ s.sync_two;
        pawns = else Count Pawns (λ e. omega arith) ∙ s.pawns;
        apply = λ j l. else Count (Apply (record { 0 = j })) (λ e. omega arith) ∙ s.apply j l;
        role = λ j l. else Count (Role (record { 0 = j })) (λ e. omega arith) ∙ s.role j l;
      }
  shows_put x SyncOne r i s =
      record {
        count = else SyncOne Count (λ e. omega arith) ∙ s.count;
        sync_one = own SyncOne (omega arith);
        sync_two = else SyncOne SyncTwo (λ e. omega arith) ∙ s.sync_two;
        pawns = else SyncOne Pawns (λ e. omega arith) ∙ s.pawns;
        apply = λ j l. else SyncOne (Apply (record { 0 = j })) (λ e. omega arith) ∙ s.apply j l;
        role = λ j l. else SyncOne (Role (record { 0 = j })) (λ e. omega arith) ∙ s.role j l;
      }
  shows_put x SyncTwo r i s =
      record {
        count = else SyncTwo Count (λ e. omega arith) ∙ s.count;
        sync_one = else SyncTwo SyncOne (λ e. omega arith) ∙ s.sync_one;
        sync_two = own SyncTwo (omega arith);
        pawns = else SyncTwo Pawns (λ e. omega arith) ∙ s.pawns;
        apply = λ j l. else SyncTwo (Apply (record { 0 = j })) (λ e. omega arith) ∙ s.apply j l;
        role = λ j l. else SyncTwo (Role (record { 0 = j })) (λ e. omega arith) ∙ s.role j l;
      }
  shows_put x Pawns r i s =
      record {
        count = else Pawns Count (λ e. omega arith) ∙ s.count;
        sync_one = else Pawns SyncOne (λ e. omega arith) ∙ s.sync_one;
        sync_two = else Pawns SyncTwo (λ e. omega arith) ∙ s.sync_two;
        pawns = own Pawns (omega arith);
        apply = λ j l. else Pawns (Apply (record { 0 = j })) (λ e. omega arith) ∙ s.apply j l;
        role = λ j l. else Pawns (Role (record { 0 = j })) (λ e. omega arith) ∙ s.role j l;
      }
  shows_put x (Apply k) r i s =
      record {
        count = else (Apply k) Count (λ e. omega arith) ∙ s.count;
        sync_one = else (Apply k) SyncOne (λ e. omega arith) ∙ s.sync_one;
        sync_two = else (Apply k) SyncTwo (λ e. omega arith) ∙ s.sync_two;
        pawns = else (Apply k) Pawns (λ e. omega arith) ∙ s.pawns;
        apply = λ j l. elim (ℕ_discrete j k.0) [
          | yes d ↦ rw (eq-eqb j k.0 d) (ap (λ a. word (put ws m (Apply k) n) m (Apply (record { 0 = a }))) d ∙ own (Apply k) (omega arith))
          | no d ↦ rw (ne_eqb j k.0 d) (else (Apply k) (Apply (record { 0 = j })) (λ e. d (omega arith)) ∙ s.apply j l)
        ];
        role = λ j l. else (Apply k) (Role (record { 0 = j })) (λ e. omega arith) ∙ s.role j l;
      }
  shows_put x (Role k) r i s =
      record {
        count = else (Role k) Count (λ e. omega arith) ∙ s.count;
        sync_one = else (Role k) SyncOne (λ e. omega arith) ∙ s.sync_one;
        sync_two = else (Role k) SyncTwo (λ e. omega arith) ∙ s.sync_two;
        pawns = else (Role k) Pawns (λ e. omega arith) ∙ s.pawns;
        apply = λ j l. else (Role k) (Apply (record { 0 = j })) (λ e. omega arith) ∙ s.apply j l;
        role = λ j l. elim (ℕ_discrete j k.0) [
          | yes d ↦ rw (eq-eqb j k.0 d) (ap (λ a. word (put ws m (Role k) n) m (Role (record { 0 = a }))) d ∙ own (Role k) (omega arith))
          | no d ↦ rw (ne_eqb j k.0 d) (else (Role k) (Role (record { 0 = j })) (λ e. d (omega arith)) ∙ s.role j l)
        ];
      }

abbrev pub cells_in : Words → Cells
cells_in x = record { count = x.count; sync_one = x.sync_one; sync_two = x.sync_two }

abbrev pub marks_in : Words → ℕ → Marks
marks_in x j = marks_of (x.apply j) (x.role j) (lane x.pawns j)

-- the store ws was vs, and has the words x in the cells of the gate of m now
pub record Wrote (vs ws : List ℕ) (m : Meeting) (x : Words) : Type 0 where
  pub shows : Shows ws m x
  pub size : length ws ≡ length vs
  pub outside : (k : ℕ) → (k < m.base) ⊎ (m.base + gate_cells m.ways ≤ k) → held ws k ≡ held vs k

pub wrote_nothing : (vs : List ℕ) (m : Meeting) → Wrote vs vs m (words_of vs m)
wrote_nothing vs m = record { shows = shows_all vs m; size = refl; outside = λ k o. refl }

within : (m : Meeting) (c : Cell) → Within m c → (m.base ≤ cell_at m c) × (cell_at m c < m.base + gate_cells m.ways)
within m Count i = (omega arith, omega arith)
within m SyncOne i = (omega arith, omega arith)
within m SyncTwo i = (omega arith, omega arith)
within m Pawns i = (omega arith, omega arith)
within m (Apply j) i = (omega arith, omega arith)
within m (Role j) i = (omega arith, omega arith)

pub wrote : (vs ws : List ℕ) (m : Meeting) (x : Words) (c : Cell) (n : ℕ) → m.base + gate_cells m.ways ≤ length vs → Within m c → Wrote vs ws m x → Wrote vs (put ws m c n) m (written c n x)
wrote vs ws m x c n r i o =
    let l = length-set ws (cell_at m c) n in
    let z = o.size in
    let b = within m c i in
    record {
      shows = shows_put ws m n x c (omega arith) i o.shows;
      size = l ∙ z;
      outside = λ k d. get_or-set_other ws (cell_at m c) k n 0 (λ e. elim d [ inl a ↦ omega arith | inr a ↦ omega arith ]) ∙ o.outside k d;
    }

-- The rows of a text, and where they stand. Assumes nothing.
--     rows_of t      the rows of the text t; a line feed ends a row
--     placed n a rs  the rows rs, the first of which is row n and begins at the place a of the text
--     placed_of r    a row that was read, as such a row
--     rows_left s    the rows that the iterator s has left
use Rattle.std.specs.Prelude.{ℕ, ◌+◌, cond, List, [], ◌∷◌, length, drop, ◌==◌}
use Rattle.script.specs.declared.rows.Row.{Row}
use Rattle.script.specs.declared.rows.Rows.{Rows}

-- a byte before the first row
abbrev pub headed : ℕ → List (List ℕ) → List (List ℕ)
headed b [] = (b ∷ []) ∷ []
headed b (r ∷ rs) = (b ∷ r) ∷ rs

abbrev pub rows_of : List ℕ → List (List ℕ)
rows_of [] = []
rows_of (b ∷ bs) = cond (b == 10) ([] ∷ rows_of bs) (headed b (rows_of bs))

-- a row, its number, and where it begins
pub record Placed : Type 0 where
  pub number : ℕ
  pub start : ℕ
  pub line : List ℕ

abbrev pub placed : ℕ → ℕ → List (List ℕ) → List Placed
placed n a [] = []
placed n a (r ∷ rs) = record { number = n; start = a; line = r } ∷ placed (n + 1) (a + (length r + 1)) rs

abbrev pub placed_of : Row → Placed
placed_of r = record { number = r.number; start = r.start; line = r.line.now }

abbrev pub rows_left : Rows → List Placed
rows_left s = placed s.number s.start (rows_of (drop s.start s.text.now))

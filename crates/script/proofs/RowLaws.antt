-- Texts, row by row. Assumes nothing.
--     rows_next  the rows of a text from a place on are its first row there and those behind that one
use Rattle.std.proofs.Common.{◌≡◌, ℕ, suc, ◌+◌, ◌<◌, Bool, true, false, cond, not, eqb, List, [], ◌∷◌, length, take, drop, refl, ap, ◌∙◌, arith}
use Rattle.std.specs.List.{prefix_len}
use Rattle.std.proofs.lemmas.List.{drop-drop, length-take-le}
use Rattle.std.proofs.lemmas.List.Sums.{prefix_len-le-length}
use Rattle.script.specs.Words.{is_row_byte, row_of}
use Rattle.script.specs.Rows.{headed, rows_of}

abbrev row_end : List ℕ → ℕ
row_end t = prefix_len is_row_byte t

-- the rows of a text are its first row and those of what is behind it
abbrev Cut : List ℕ → Type 0
Cut t = 0 < length t → rows_of t ≡ row_of t ∷ rows_of (drop (row_end t + 1) t)

-- the rows of a text behind a byte that ends no row
rows_headed : (b : ℕ) (bs : List ℕ) → Cut bs → headed b (rows_of bs) ≡ take (suc (row_end bs)) (b ∷ bs) ∷ rows_of (drop (suc (row_end bs + 1)) (b ∷ bs))
rows_headed b [] f = refl
rows_headed b (d ∷ ds) f = ap (headed b) (f (omega arith))

rows_step : (x : Bool) (b : ℕ) (bs : List ℕ) → Cut bs → cond x ([] ∷ rows_of bs) (headed b (rows_of bs)) ≡ take (cond (not x) (1 + row_end bs) 0) (b ∷ bs) ∷ rows_of (drop (cond (not x) (1 + row_end bs) 0 + 1) (b ∷ bs))
rows_step true b bs f = refl
rows_step false b bs f =
    let e : 1 + row_end bs ≡ suc (row_end bs) = omega arith in
    let d : suc (row_end bs) + 1 ≡ suc (row_end bs + 1) = omega arith in
    rw (e, d) (rows_headed b bs f)

rows_first : (t : List ℕ) → Cut t
rows_first [] h = absurd (omega arith)
rows_first (b ∷ bs) h = rows_step (eqb b 10) b bs (rows_first bs)

pub rows_next : (t : List ℕ) (a : ℕ) (r : List ℕ) → 0 < length (drop a t) → r ≡ row_of (drop a t) → rows_of (drop a t) ≡ r ∷ rows_of (drop (a + (length r + 1)) t)
rows_next t a r h e =
    let m : length r ≡ row_end (drop a t) = ap length e ∙ length-take-le (row_end (drop a t)) (drop a t) (prefix_len-le-length is_row_byte (drop a t)) in
    rw (m, e) (rows_first (drop a t) h ∙ ap (λ x. row_of (drop a t) ∷ rows_of x) (drop-drop (row_end (drop a t) + 1) a t))

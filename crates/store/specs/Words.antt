-- What a store's calls answer, and the words they leave. A position at or past the size is refused with 24. Assumes nothing.
--     held ws pos                 the word at a position
--     if_there ws pos x           the answer x where there is such a position, else the refusal
--     read_of, write_of, swap_of  the answers
--     written, swapped            the words afterwards
use Rattle.std.specs.Prelude.{ℕ, Bool, cond, List, length, Ok, Err, Result, ◌==◌, nat_lt, slice_index, slice_set}

abbrev pub held : List ℕ → ℕ → ℕ
held ws pos = slice_index ws pos

abbrev pub if_there : {A : Type 0} → List ℕ → ℕ → A → Result A ℕ
if_there ws pos x = cond (nat_lt pos (length ws)) (Ok x) (Err 24)

abbrev pub read_of : List ℕ → ℕ → Result ℕ ℕ
read_of ws pos = if_there ws pos (held ws pos)

abbrev pub write_of : List ℕ → ℕ → Result (Unit {0}) ℕ
write_of ws pos = if_there ws pos tt

abbrev pub swap_of : List ℕ → ℕ → ℕ → Result Bool ℕ
swap_of ws pos old = if_there ws pos (held ws pos == old)

abbrev pub written : List ℕ → ℕ → ℕ → List ℕ
written ws pos new = cond (nat_lt pos (length ws)) (slice_set ws pos new) ws

abbrev pub swapped : List ℕ → ℕ → ℕ → ℕ → List ℕ
swapped ws pos old new = cond (nat_lt pos (length ws)) (cond (held ws pos == old) (slice_set ws pos new) ws) ws

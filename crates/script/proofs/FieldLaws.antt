-- Numbers, digit by digit. Assumes nothing.
--     digits_step  one digit more
use Rattle.std.proofs.Common.{◌≡◌, ℕ, ◌+◌, ◌<◌, List, length, get_or, drop}
use Rattle.std.proofs.lemmas.List.{at_drop_more}
use Rattle.script.specs.declared.part.Part.{Part}
use Rattle.script.specs.Fields.{digit_of, digits_of, onward}

pub digits_step : (p : Part) (v : ℕ) (t : List ℕ) (i : ℕ) → i < length t → digits_of p v (drop i t) ≡ onward (digit_of p v (get_or t i 0)) (λ n. digits_of p n (drop (i + 1) t))
digits_step p v t i l = at_drop_more (digits_of p v) t i 0 l

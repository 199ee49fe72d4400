-- The numbers of a line. Assumes nothing.
--     most_of p     the largest number of the part p
--     field_of p w  the number that the word w says as the part p, or what is wrong with it
--     onward r f    goes on with what r has, or stops with its fault
--     times_of w    how many times a call is made, by the last word of its line
use Rattle.std.specs.Prelude.{ℕ, ◌+◌, ◌-◌, ◌*◌, Bool, cond, ◌&&◌, List, [], ◌∷◌, length, drop, Ok, Err, Result, ◌==◌, nat_le, slice_index}
use Rattle.script.specs.declared.part.Part.{Part}
use Rattle.script.specs.declared.part.Part.TheVariants as part
use Rattle.script.specs.declared.fault.LineFault.{LineFault}
use Rattle.script.specs.declared.fault.LineFault.TheVariants.{Missing, NoNumber, TooLarge, TooMany}

abbrev pub most_of : Part → ℕ
most_of part.Ways = 255
most_of part.Seat = 255
most_of part.Passage = 65535
most_of part.Coin = 255
most_of part.Times = 9999

abbrev pub is_digit : ℕ → Bool
is_digit b = nat_le 48 b && nat_le b 57

-- goes on with the number that an answer has
abbrev pub onward : {A B : Type 0} → Result A LineFault → (A → Result B LineFault) → Result B LineFault
onward (Ok n) f = f n
onward (Err e) f = Err e

-- a number v with the digit b more
abbrev pub digit_of : Part → ℕ → ℕ → Result ℕ LineFault
digit_of p v b = cond (is_digit b) (cond (nat_le (10 * v + (b - 48)) (most_of p)) (Ok (10 * v + (b - 48))) (Err (TooLarge p))) (Err (NoNumber p))

-- the digits from left to right, after those that have said v
abbrev pub digits_of : Part → ℕ → List ℕ → Result ℕ LineFault
digits_of p v [] = Ok v
digits_of p v (b ∷ bs) = onward (digit_of p v b) (λ n. digits_of p n bs)

unfoldable pub field_of : Part → List ℕ → Result ℕ LineFault
field_of p w = cond (length w == 0) (Err (Missing p)) (digits_of p 0 w)

abbrev pub times_of : List ℕ → Result ℕ LineFault
times_of w = cond (length w == 0) (Ok 1) (cond (slice_index w 0 == 120) (field_of part.Times (drop 1 w)) (Err TooMany))

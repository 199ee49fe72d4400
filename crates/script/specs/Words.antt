-- The words of a text, as a list of bytes. Assumes nothing.
--     is_blank_byte b   whether the byte b is a space, a tab or a carriage return
--     is_letter_byte b  whether a word goes on with b
--     is_note_byte b    whether a note goes on with b
--     is_row_byte b     whether a row goes on with b
--     Computes P f      what is answered as P says is what the test f says
--     indented_of t     the text t without the blanks that it begins with
--     trimmed_of t      t without the blanks that it ends with
--     word_of t         the first word of t, empty where there is none
--     rest_of t         the text behind it
--     row_of t          the first row of t
use Rattle.std.specs.Prelude.{◌≡◌, ℕ, ◌-◌, Bool, not, ◌&&◌, ◌||◌, List, length, take, drop, ◌==◌}
use Rattle.std.specs.List.{prefix_len, suffix_len, take_while}

abbrev pub is_blank_byte : ℕ → Bool
is_blank_byte b = b == 32 || (b == 9 || b == 13)

abbrev pub is_letter_byte : ℕ → Bool
is_letter_byte b = not (is_blank_byte b) && not (b == 35)

abbrev pub is_note_byte : ℕ → Bool
is_note_byte b = not (b == 35) && not (b == 13)

abbrev pub is_row_byte : ℕ → Bool
is_row_byte b = not (b == 10)

abbrev pub Computes : (ℕ → Bool → Type 0) → (ℕ → Bool) → Type 0
Computes P f = (x : ℕ) (b : Bool) → P x b → b ≡ f x

abbrev pub indented_of : List ℕ → List ℕ
indented_of t = drop (prefix_len is_blank_byte t) t

abbrev pub trimmed_of : List ℕ → List ℕ
trimmed_of t = take (length t - suffix_len is_blank_byte t) t

unfoldable pub word_of : List ℕ → List ℕ
word_of t = take_while is_letter_byte (indented_of t)

unfoldable pub rest_of : List ℕ → List ℕ
rest_of t = drop (prefix_len is_letter_byte (indented_of t)) (indented_of t)

abbrev pub row_of : List ℕ → List ℕ
row_of t = take_while is_row_byte t

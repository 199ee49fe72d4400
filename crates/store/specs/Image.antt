-- The words of an image of bytes: a version byte 1, the number of words in four bytes, then eight bytes a word, the
-- highest first throughout. Assumes nothing.
--     word_at bs at      the word of the eight bytes from at
--     image_words bs     the words of an image
--     with_word bs at w  the bytes with the word w put at at
--     image_refusal bs   the number by which an image is refused, if it is
use Rattle.std.specs.Prelude.{ℕ, ◌+◌, ◌-◌, ◌*◌, ◌/◌, ◌%◌, cond, not, List, [], ◌∷◌, ◌++◌, map, length, take, drop, Some, None, Option, ◌==◌, nat_lt, slice_index}
use Rattle.std.specs.List.{range_with_len}

-- the word of eight bytes from the byte at, the highest first
abbrev pub word_at : List ℕ → ℕ → ℕ
word_at bs at =
    slice_index bs at * 72057594037927936 + slice_index bs (at + 1) * 281474976710656 + slice_index bs (at + 2) * 1099511627776
    + slice_index bs (at + 3) * 4294967296
    + slice_index bs (at + 4) * 16777216
    + slice_index bs (at + 5) * 65536
    + slice_index bs (at + 6) * 256
    + slice_index bs (at + 7)

-- the count in the header
abbrev pub count_of : List ℕ → ℕ
count_of bs = slice_index bs 1 * 16777216 + slice_index bs 2 * 65536 + slice_index bs 3 * 256 + slice_index bs 4

-- the words of an image, past its header of five bytes
unfoldable pub image_words : List ℕ → List ℕ
image_words bs = map (λ k. word_at bs (5 + 8 * k)) (range_with_len 0 ((length bs - 5) / 8))

-- the eight bytes of a word, the highest first
abbrev pub bytes_of : ℕ → List ℕ
bytes_of w =
    (w / 72057594037927936 % 256) ∷ (w / 281474976710656 % 256) ∷ (w / 1099511627776 % 256) ∷ (w / 4294967296 % 256) ∷
    (w / 16777216 % 256) ∷ (w / 65536 % 256) ∷ (w / 256 % 256) ∷ (w % 256) ∷ []

-- the bytes with those of a word in the place of the eight from at
unfoldable pub with_word : List ℕ → ℕ → ℕ → List ℕ
with_word bs at w = take at bs ++ (bytes_of w ++ drop (at + 8) bs)

-- the questions that taking up an image asks in turn: the number of the first that is answered by no
abbrev pub image_refusal : List ℕ → Option ℕ
image_refusal bs =
    cond (nat_lt (length bs) 5) (Some 21)
    (cond (not (slice_index bs 0 == 1)) (Some 22) (cond (not (length bs == 5 + 8 * count_of bs)) (Some 23) None))

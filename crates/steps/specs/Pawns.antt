-- The pawn word: one pair for each way i, in the bits 16i to 16i + 15. Assumes nothing.
--     lanes w                   the pairs of a word, that of way 0 first; packed is the word of such pairs
--     collect_word w ways ns    the word after a collect of the noted numbers ns
--     abort_of w i n            the word after way i gave up as passage n, or none if it is PRO
--     promote_word, promote_of  the word after a promotion, and who is promoted with which number
--     remove_word w i           the word after way i is struck out
use Rattle.std.specs.Prelude.{ℕ, ◌+◌, ◌*◌, ◌/◌, ◌%◌, ◌≤◌, Bool, cond, ◌&&◌, ◌||◌, List, [], ◌∷◌, Some, None, Option, ◌==◌, nat_lt, slice_index, slice_index_or, slice_set}
use Rattle.layout.specs.declared.ids.WayId.{WayId}
use Rattle.layout.specs.declared.ids.Passage.{Passage}
use Rattle.steps.specs.Codes.{pair}

abbrev pub lanes : ℕ → List ℕ
lanes w = (w % 65536) ∷ (w / 65536 % 65536) ∷ (w / 4294967296 % 65536) ∷ (w / 281474976710656) ∷ []

abbrev pub packed : List ℕ → ℕ
packed xs = slice_index xs 0 + slice_index xs 1 * 65536 + slice_index xs 2 * 4294967296 + slice_index xs 3 * 281474976710656

-- the pair of way i, and the word with another pair for it
abbrev pub lane : ℕ → ℕ → ℕ
lane w i = slice_index (lanes w) i

abbrev pub with_lane : ℕ → ℕ → ℕ → ℕ
with_lane w i x = packed (slice_set (lanes w) i x)

-- each of four noted numbers can be that of a passage
pub record Notable (ns : List ℕ) : Type 0 where
  pub first : slice_index_or ns 0 0 ≤ 16383
  pub second : slice_index_or ns 1 0 ≤ 16383
  pub third : slice_index_or ns 2 0 ≤ 16383
  pub fourth : slice_index_or ns 3 0 ≤ 16383

-- a noted number other than 0 is registered, unless the state is ABORT
abbrev pub collect_lane : ℕ → ℕ → ℕ
collect_lane x n = cond (n == 0 || x % 4 == 3) x (pair n 1)

abbrev pub collect_at : ℕ → ℕ → List ℕ → ℕ → ℕ
collect_at w ways ns i = cond (nat_lt i ways) (collect_lane (lane w i) (slice_index ns i)) (lane w i)

abbrev pub collect_word : ℕ → ℕ → List ℕ → ℕ
collect_word w ways ns =
    packed (collect_at w ways ns 0 ∷ collect_at w ways ns 1 ∷ collect_at w ways ns 2 ∷ collect_at w ways ns 3 ∷ [])

abbrev pub abort_of : ℕ → ℕ → ℕ → Option ℕ
abort_of w i n = cond (lane w i % 4 == 2) None (Some (with_lane w i (pair n 3)))

-- the lowest way below ways that is REG
abbrev pub waits : ℕ → ℕ → ℕ → Bool
waits w ways i = nat_lt i ways && lane w i % 4 == 1

abbrev pub first_waiting_way : ℕ → ℕ → Option ℕ
first_waiting_way w ways =
    cond (waits w ways 0) (Some 0)
    (cond (waits w ways 1) (Some 1) (cond (waits w ways 2) (Some 2) (cond (waits w ways 3) (Some 3) None)))

abbrev pub promote_lane : ℕ → Option ℕ → ℕ
promote_lane w None = w
promote_lane w (Some i) = with_lane w i (lane w i + 1)

abbrev pub promoted_lane : ℕ → Option ℕ → Option (WayId × Passage)
promoted_lane w None = None
promoted_lane w (Some i) = Some (record { 0 = i }, record { 0 = lane w i / 4 })

abbrev pub promote_word : ℕ → ℕ → ℕ
promote_word w ways = promote_lane w (first_waiting_way w ways)

abbrev pub promote_of : ℕ → ℕ → Option (WayId × Passage)
promote_of w ways = promoted_lane w (first_waiting_way w ways)

abbrev pub remove_word : ℕ → ℕ → ℕ
remove_word w i = with_lane w i (pair (lane w i / 4) 3)

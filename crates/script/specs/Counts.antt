-- Counts by number. Assumes nothing.
--     count_of ns k    the count at k, 0 if k is above 10
--     counted_of ns k  the counts ns with one more at k, if k is 0 to 10
use Rattle.std.specs.Prelude.{ℕ, cond, List, nat_lt, slice_index, slice_set}
use Rattle.script.specs.Outs.{one_more}

abbrev pub count_of : List ℕ → ℕ → ℕ
count_of ns k = cond (nat_lt k 11) (slice_index ns k) 0

abbrev pub counted_of : List ℕ → ℕ → List ℕ
counted_of ns k = cond (nat_lt k 11) (slice_set ns k (one_more (slice_index ns k))) ns

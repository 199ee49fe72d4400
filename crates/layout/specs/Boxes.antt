-- The box record: its making, and the passage numbers that it gives out, 1 to 16,383, each once. Assumes nothing.
--     ways_refusal w  the refusal of an opening with w ways, if it is refused
--     issue_of next   the passage that is given out, if a number is left
--     issued next     the next number afterwards
use Rattle.std.specs.Prelude.{ℕ, ◌+◌, cond, ◌||◌, Some, None, Option, nat_lt}
use Rattle.layout.specs.declared.fault.Refusal.{Refusal}
use Rattle.layout.specs.declared.ids.Passage.{Passage}
use Rattle.layout.specs.Refusals.{refusal}

abbrev pub ways_refusal : ℕ → Option Refusal
ways_refusal w = cond (nat_lt w 2 || nat_lt 4 w) (Some (refusal 1 0)) None

abbrev pub issue_of : ℕ → Option Passage
issue_of next = cond (nat_lt 16383 next) None (Some (record { 0 = next }))

abbrev pub issued : ℕ → ℕ
issued next = cond (nat_lt 16383 next) next (next + 1)

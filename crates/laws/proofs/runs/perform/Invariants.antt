use Rattle.std.proofs.Common.{◌≡◌, ◌≤◌, ◌++◌, length, drop, vec_items, vec_len, vec_capacity}
use Rattle.lock.specs.Locks.{SameLoans, state_in}
use Rattle.laws.specs.Runs.{run, gots}
use Rattle.laws.proofs.runs.perform.Given as goal

abbrev pub invariant-loop-call : goal.invariant-loop-call
invariant-loop-call g l =
    let state = state_in (g.S.Store.words) in
    (run (drop l.call-index l.calls) (state l.lock) ≡ run l.calls (state l.initial.lock))
    × (vec_items l.got ++ gots (drop l.call-index l.calls) (state l.lock) ≡ gots l.calls (state l.initial.lock))
    × (vec_len l.got ≡ l.call-index)
    × (length l.calls ≤ vec_capacity l.got)
    × SameLoans l.initial.lock l.lock

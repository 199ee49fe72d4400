use Rattle.std.proofs.Common.{◌≡◌, ◌++◌, drop, replicate}
use Rattle.lock.proofs.opening.clear_cells.Given as goal

abbrev pub invariant-loop-pos : goal.invariant-loop-pos
invariant-loop-pos g l = g.S.Store.words l.store ≡ replicate l.pos 0 ++ drop l.pos (g.S.Store.words l.initial.store)

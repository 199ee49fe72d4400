use Rattle.std.proofs.Common.{◌≡◌}
use Rattle.script.specs.Rows.{placed, rows_left, rows_of}
use Rattle.script.specs.Scripts.{gather, gathered, nothing}
use Rattle.script.proofs.scripts.read_script.Given as goal

abbrev pub invariant-loop-row : goal.invariant-loop-row
invariant-loop-row l = gather (gathered l.reading) (rows_left l.row-iterator) ≡ gather nothing (placed 1 0 (rows_of l.text))

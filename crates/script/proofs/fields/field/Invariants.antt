use Rattle.std.proofs.Common.{◌≡◌, ◌≤◌, drop}
use Rattle.script.specs.Fields.{digits_of, most_of}
use Rattle.script.proofs.fields.field.Given as goal

abbrev pub invariant-loop-byte : goal.invariant-loop-byte
invariant-loop-byte l = (digits_of l.part l.value (drop l.byte-index l.word) ≡ digits_of l.part 0 l.word) × (l.value ≤ most_of l.part)

-- Whole scripts. Assumes nothing.
--     or_memory_lem  what follows where there was memory follows of what a reading answers
use Rattle.script.specs.declared.scripts.ScriptFault.{ScriptFault}
use Rattle.script.specs.declared.scripts.ScriptFault.TheVariants.{Memory, NoWays, Early, Twice, Wrong}
use Rattle.script.specs.Scripts.{or_memory}

pub or_memory_lem : (e : ScriptFault) (P Q : Type 0) → (P → Q) → or_memory e P → or_memory e Q
or_memory_lem Memory P Q f p = p
or_memory_lem NoWays P Q f p = f p
or_memory_lem (Early n) P Q f p = f p
or_memory_lem (Twice n) P Q f p = f p
or_memory_lem (Wrong n k) P Q f p = f p

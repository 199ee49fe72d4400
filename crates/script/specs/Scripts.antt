-- Whole scripts. Assumes nothing.
--     entries_of l a   the calls of the line l, which begins at the place a of the text
--     next_ways w l n  the ways after the line l, which is row n, where they were w before
--     step_of p g r    what has been read after the row p, which says r, where it was g before
--     gather g ps      what has been read after the rows ps
--     script_of t      the script of the text t, or what is wrong with it
--     or_memory e P    P, unless e says that there was no memory
use Rattle.std.specs.Prelude.{ℕ, List, [], ◌∷◌, ◌++◌, replicate, Some, None, Ok, Err, vec_items, Option, Result}
use Rattle.script.specs.declared.fault.LineFault.{LineFault}
use Rattle.script.specs.declared.line.Line.{Line}
use Rattle.script.specs.declared.line.Line.TheVariants.{Blank, Ways, Calls}
use Rattle.script.specs.declared.scripts.Entry.{Entry}
use Rattle.script.specs.declared.scripts.Reading.{Reading}
use Rattle.script.specs.declared.scripts.Script.{Script}
use Rattle.script.specs.declared.scripts.ScriptFault.{ScriptFault}
use Rattle.script.specs.declared.scripts.ScriptFault.TheVariants.{Memory, NoWays, Early, Twice, Wrong}
use Rattle.script.specs.Lines.{line_of}
use Rattle.script.specs.Rows.{Placed, placed, rows_of}

-- what has been read of a script
pub record Gathered : Type 0 where
  pub ways : Option ℕ
  pub entries : List Entry

abbrev pub gathered : Reading → Gathered
gathered g = record { ways = g.ways; entries = vec_items g.entries }

-- a script as lists
pub record Whole : Type 0 where
  pub ways : ℕ
  pub entries : List Entry

abbrev pub script_taken : Script → Whole
script_taken s = record { ways = s.ways; entries = vec_items s.entries }

abbrev pub entries_of : Line → ℕ → List Entry
entries_of Blank a = []
entries_of (Ways w) a = []
entries_of (Calls c n) a = replicate n (record { call = c; start = a })

abbrev pub next_ways : Option ℕ → Line → ℕ → Result (Option ℕ) ScriptFault
next_ways w Blank n = Ok w
next_ways None (Ways v) n = Ok (Some v)
next_ways (Some w) (Ways v) n = Err (Twice n)
next_ways None (Calls c k) n = Err (Early n)
next_ways (Some w) (Calls c k) n = Ok (Some w)

abbrev pub goes_on : {A B : Type 0} → Result A ScriptFault → (A → Result B ScriptFault) → Result B ScriptFault
goes_on (Ok x) f = f x
goes_on (Err e) f = Err e

abbrev pub step_of : Placed → Gathered → Result Line LineFault → Result Gathered ScriptFault
step_of p g (Ok l) = goes_on (next_ways g.ways l p.number) (λ w. Ok (record { ways = w; entries = g.entries ++ entries_of l p.start }))
step_of p g (Err f) = Err (Wrong p.number f)

abbrev pub gather : Gathered → List Placed → Result Gathered ScriptFault
gather g [] = Ok g
gather g (p ∷ ps) = goes_on (step_of p g (line_of p.line)) (λ h. gather h ps)

abbrev pub ended_of : Gathered → Result Whole ScriptFault
ended_of g = elim g.ways [ None ↦ Err NoWays | Some w ↦ Ok (record { ways = w; entries = g.entries }) ]

-- before any row
abbrev pub nothing : Gathered
nothing = record { ways = None; entries = [] }

abbrev pub script_of : List ℕ → Result Whole ScriptFault
script_of t = goes_on (gather nothing (placed 1 0 (rows_of t))) ended_of

abbrev pub or_memory : ScriptFault → Type 0 → Type 0
or_memory Memory P = Unit {0}
or_memory NoWays P = P
or_memory (Early n) P = P
or_memory (Twice n) P = P
or_memory (Wrong n f) P = P

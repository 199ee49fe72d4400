-- Why answering stops, and what then holds. Assumes nothing.
--     Awaits e rest  of an input that has ended (e) nothing is left; of another, no whole message
--     left_by p      what holds after a stop for the reason p
--     Left           that, that place and replies lie inside their bytes, and that some message was answered if there
--                    was room for a reply at first, and is no more
use Rattle.std.specs.Prelude.{◌≡◌, ℕ, ◌<◌, ◌≤◌, Bool, true, false, List, length, drop}
use Rattle.line.specs.declared.stream.Pause.{Pause}
use Rattle.line.specs.declared.stream.Pause.TheVariants.{Input, Room, Done}
use Rattle.line.specs.Streams.{waits_for}

pub record Awaits (e : Bool) (rest : List ℕ) : Type 0 where
  pub waiting : e ≡ false → waits_for rest ≡ true
  pub spent : e ≡ true → length rest ≡ 0
  pub few : length rest ≤ 86

abbrev pub left_by : Pause → Bool → List ℕ → List ℕ → Type 0
left_by Input e rest room = Awaits e rest
left_by Room e rest room = length room < 86
left_by Done e rest room = Unit {0}

pub record Left (e : Bool) (bs : List ℕ) (at : ℕ) (out : List ℕ) (p : Pause) (w at' : ℕ) (out' : List ℕ) : Type 0 where
  pub within : w ≤ length out'
  pub inside : at ≤ length bs → at' ≤ length bs
  pub reason : left_by p e (drop at' bs) (drop w out')
  pub moves : p ≡ Room → 86 ≤ length out → at < at'

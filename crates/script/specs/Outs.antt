-- The ways out of the seats. Assumes nothing.
--     one_more n       one more than n, as far as 32 bits go
--     called_of o c s  how far a seat is on its way out after the accepted call c that left it in the state s
--     longest_of l o   the most polls on a way out, the way o among them
use Rattle.std.specs.Prelude.{ℕ, ◌+◌, min, max}
use Rattle.laws.specs.declared.call.Call.{Call}
use Rattle.laws.specs.declared.call.Call.TheVariants.{Apply, Poll, GiveUp, Leave, Publish}
use Rattle.seats.specs.declared.state.State.{State}
use Rattle.seats.specs.declared.state.State.TheVariants as state
use Rattle.script.specs.declared.out.Out.{Out}
use Rattle.script.specs.declared.out.Out.TheVariants.{Within, GivingUp, GaveUp, Leaving, Left}
use Rattle.script.specs.declared.out.Longest.{Longest}

abbrev pub one_more : ℕ → ℕ
one_more n = min (n + 1) 4294967295

abbrev pub gave_up_of : ℕ → State → Out
gave_up_of n state.Away = GaveUp n
gave_up_of n state.Climbing = GivingUp n
gave_up_of n state.Holding = GaveUp n
gave_up_of n state.Leaving = GivingUp n

abbrev pub left_of : ℕ → State → Out
left_of n state.Away = Left n
left_of n state.Climbing = Leaving n
left_of n state.Holding = Leaving n
left_of n state.Leaving = Leaving n

abbrev pub polled_of : Out → State → Out
polled_of Within s = Within
polled_of (GivingUp n) s = gave_up_of (one_more n) s
polled_of (GaveUp n) s = GaveUp n
polled_of (Leaving n) s = left_of (one_more n) s
polled_of (Left n) s = Left n

abbrev pub called_of : Out → Call → State → Out
called_of o (Apply p) s = Within
called_of o (Poll p n k) s = polled_of o s
called_of o (GiveUp p n) s = gave_up_of 0 s
called_of o (Leave p n) s = Leaving 0
called_of o (Publish p n) s = o

abbrev pub longest_of : Longest → Out → Longest
longest_of l Within = l
longest_of l (GivingUp n) = record { give_up = max l.give_up n; leave = l.leave }
longest_of l (GaveUp n) = record { give_up = max l.give_up n; leave = l.leave }
longest_of l (Leaving n) = record { give_up = l.give_up; leave = max l.leave n }
longest_of l (Left n) = record { give_up = l.give_up; leave = max l.leave n }

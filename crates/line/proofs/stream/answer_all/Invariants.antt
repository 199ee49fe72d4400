use Rattle.std.proofs.Common.{◌≡◌, suc, ◌≤◌, length, drop}
use Rattle.lock.specs.Locks.{SameLoans, state_in}
use Rattle.line.specs.Streams.{streamed, turn_of}
use Rattle.line.proofs.stream.answer_all.Given as goal

abbrev pub invariant-loop-pause : goal.invariant-loop-pause
invariant-loop-pause g l =
    record {
      turns : streamed (suc (length l.input)) l.ended l.input (turn_of l.written (state_in g.S.Store.words l.lock) l.place.at l.replies) ≡ streamed (suc (length l.input)) l.ended l.input (turn_of 0 (state_in g.S.Store.words l.initial.lock) l.initial.place.at l.initial.replies);
      within : l.written ≤ length l.replies;
      loans : SameLoans l.initial.lock l.lock;
    }

abbrev pub decreases-loop-pause : goal.decreases-loop-pause
decreases-loop-pause g l = length (drop l.place.at l.input)

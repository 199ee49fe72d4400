-- Input that arrives in parts: every whole message is answered, one after another. Assumes nothing.
--     waits_for rest     the rest of the input is no whole message yet, and more bytes may make it one
--     Turn               what one turn leaves: why it stops, if it does, how many reply bytes there are, the box, the
--                        reader's place and the reply memory
--     turned e bs t      one message more after the turn t, of an input bs that has ended (e) or not
--     streamed n e bs t  at most n turns more
--     Turns              a function did such a turn, or several
use Rattle.std.specs.Prelude.{◌≡◌, ℕ, zero, suc, ◌+◌, ◌-◌, Bool, true, false, cond, not, ◌&&◌, List, ◌++◌, length, take, drop, Some, None, Ok, Err, Option, Result, ◌==◌, nat_le, nat_lt, slice_index}
use Rattle.lock.specs.States.{BoxState}
use Rattle.line.specs.declared.fault.LineFault.{LineFault}
use Rattle.line.specs.declared.session.Answered.{Answered}
use Rattle.line.specs.declared.session.Answered.TheVariants.{End, Replied, Over}
use Rattle.line.specs.declared.stream.Pause.{Pause}
use Rattle.line.specs.declared.stream.Pause.TheVariants.{Input, Room, Done}
use Rattle.line.specs.Reader.{size_in}
use Rattle.line.specs.Sessions.{Answering, answered}

-- it is empty, or of version 1 and without its length, or without some byte of a lawful length
abbrev pub waits_for : List ℕ → Bool
waits_for rest =
    cond (length rest == 0) true
    (cond (not (slice_index rest 0 == 1)) false
    (cond (nat_lt (length rest) 3) true
    (nat_le 1 (size_in rest) && (nat_le (size_in rest) 84 && nat_lt (length rest - 3) (size_in rest)))))

pub record Turn : Type 0 where
  pub pause : Option Pause
  pub written : ℕ
  pub box : BoxState
  pub place : ℕ
  pub memory : List ℕ

-- why a turn stops, and how many bytes are written after it
abbrev pub pause_by : Result Answered LineFault → Option Pause
pause_by (Ok End) = Some Input
pause_by (Ok (Replied n)) = None
pause_by (Ok (Over n)) = Some Done
pause_by (Err f) = Some Room

abbrev pub written_by : Result Answered LineFault → ℕ → ℕ
written_by (Ok End) w = w
written_by (Ok (Replied n)) w = w + n
written_by (Ok (Over n)) w = w + n
written_by (Err f) w = w

-- the answer to the next message, into the memory that is left
abbrev pub answer_at : List ℕ → Turn → Answering
answer_at bs t = answered t.box t.place bs (drop t.written t.memory)

-- the reply follows those that are written already
abbrev pub turned_by : Result Answered LineFault → Answering → Turn → Turn
turned_by r a t =
    record { pause = pause_by r; written = written_by r t.written; box = a.box; place = a.place; memory = take t.written t.memory ++ a.memory }

-- a turn that stops with everything as it is, for want of input
abbrev pub awaiting : Turn → Turn
awaiting t =
    record { pause = Some Input; written = t.written; box = t.box; place = t.place; memory = t.memory }

unfoldable pub turned : Bool → List ℕ → Turn → Turn
turned e bs t =
    cond (not e && waits_for (drop t.place bs)) (awaiting t) (turned_by (answer_at bs t).answer (answer_at bs t) t)

-- goes on until a turn stops
abbrev pub goes_on : Option Pause → Turn → (Turn → Turn) → Turn
goes_on None t next = next t
goes_on (Some p) t next = t

abbrev pub streamed : ℕ → Bool → List ℕ → Turn → Turn
streamed zero e bs t = awaiting t
streamed (suc n) e bs t = goes_on (turned e bs t).pause (turned e bs t) (streamed n e bs)

pub record Turns (o : Turn) (p : Option Pause) (w : ℕ) (b : BoxState) (at : ℕ) (out : List ℕ) : Type 0 where
  pub pause : p ≡ o.pause
  pub written : w ≡ o.written
  pub ways : b.ways ≡ o.box.ways
  pub next : b.next ≡ o.box.next
  pub seats : b.seats ≡ o.box.seats
  pub cells : b.cells ≡ o.box.cells
  pub place : at ≡ o.place
  pub memory : out ≡ o.memory

-- a turn yet to be done
abbrev pub turn_of : ℕ → BoxState → ℕ → List ℕ → Turn
turn_of w b at out = record { pause = None; written = w; box = b; place = at; memory = out }

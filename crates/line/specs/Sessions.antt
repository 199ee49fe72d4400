-- A session: the reply to the next message, and what is left. Assumes nothing.
--     reply_to b q          the reply to the request q at the box b, in its frame
--     refusal_to f          the reply where no message could be read
--     Answering             what an answer is: whether there is a reply and how long it is, the box afterwards, the
--                           reader's place and the reply memory
--     answered b at bs out  the answer to the next message of the input bs from the place at, over the reply memory out
--     Answers, Responds     a function answered, and left everything, as these say
use Rattle.std.specs.Prelude.{◌≡◌, ℕ, ◌≤◌, cond, List, length, drop, Some, None, Ok, Err, Option, Result, nat_lt}
use Rattle.lock.specs.States.{BoxState, CallOutcome}
use Rattle.line.specs.declared.fault.LineFault.{LineFault}
use Rattle.line.specs.declared.fault.LineFault.TheVariants.{ReplyRoom}
use Rattle.line.specs.declared.session.Answered.{Answered}
use Rattle.line.specs.declared.session.Answered.TheVariants.{End, Replied, Over}
use Rattle.line.specs.Faults.{told_to}
use Rattle.line.specs.Messages.{Request, kind_of}
use Rattle.line.specs.Reader.{next_of, place_of}
use Rattle.line.specs.Replies.{Written, frame_of, onto, refused_body, reply_body}
use Rattle.line.specs.Serving.{served}

abbrev pub reply_to : BoxState → Request → List ℕ
reply_to b q = frame_of (reply_body (kind_of q) (served b q).answer)

abbrev pub refusal_to : LineFault → List ℕ
refusal_to f = frame_of (refused_body (told_to 0 f))

pub record Answering : Type 0 where
  pub answer : Result Answered LineFault
  pub box : BoxState
  pub place : ℕ
  pub memory : List ℕ

-- by what the reader found; the session is over where no message could be read
abbrev pub answered_to : Result (Option Request) LineFault → BoxState → ℕ → List ℕ → Answering
answered_to (Ok None) b at out = record { answer = Ok End; box = b; place = at; memory = out }
answered_to (Ok (Some q)) b at out =
    record { answer = Ok (Replied (length (reply_to b q))); box = (served b q).after; place = at; memory = onto (reply_to b q) out }
answered_to (Err f) b at out =
    record { answer = Ok (Over (length (refusal_to f))); box = b; place = at; memory = onto (refusal_to f) out }

-- too little reply memory is refused first, and then nothing changes
unfoldable pub answered : BoxState → ℕ → List ℕ → List ℕ → Answering
answered b at bs out =
    cond (nat_lt (length out) 86) (record { answer = Err ReplyRoom; box = b; place = at; memory = out })
    (answered_to (next_of (drop at bs)) b (place_of at (drop at bs)) out)

pub record Answers (o : Answering) (r : Result Answered LineFault) (b : BoxState) (at : ℕ) (out : List ℕ) : Type 0 where
  pub answer : r ≡ o.answer
  pub ways : b.ways ≡ o.box.ways
  pub next : b.next ≡ o.box.next
  pub seats : b.seats ≡ o.box.seats
  pub cells : b.cells ≡ o.box.cells
  pub place : at ≡ o.place
  pub memory : out ≡ o.memory

pub record Responds (q : Request) (o : CallOutcome (List ℕ)) (out : List ℕ) (r : ℕ) (b : BoxState) (out' : List ℕ) : Type 0 where
  pub written : Written (reply_body (kind_of q) o.answer) out r out'
  pub short : r ≤ 86
  pub ways : b.ways ≡ o.after.ways
  pub next : b.next ≡ o.after.next
  pub seats : b.seats ≡ o.after.seats
  pub cells : b.cells ≡ o.after.cells

-- A whole session: the replies to all the messages of an input, in order, and the box at the end. Assumes nothing.
--     Course              the replies of a session, one after another, and the box at its end
--     course b bs         the session of the whole input bs at the box b; course_in n is the one of at most n messages
--     behind xs c         the course c after the replies xs
--     course_rest p b bs  what is left of a session that was left for the reason p, with the input bs still to come
--     Cuts                a part of an input was answered as that part of the whole session, whatever comes after it
use Rattle.std.specs.Prelude.{◌≡◌, ℕ, zero, suc, ◌+◌, Bool, true, List, [], ◌++◌, length, take, drop, Some, None, Ok, Err, Option, Result}
use Rattle.lock.specs.States.{BoxState}
use Rattle.line.specs.declared.fault.LineFault.{LineFault}
use Rattle.line.specs.declared.stream.Pause.{Pause}
use Rattle.line.specs.declared.stream.Pause.TheVariants.{Input, Room, Done}
use Rattle.line.specs.Messages.{Request}
use Rattle.line.specs.Reader.{next_of, size_in}
use Rattle.line.specs.Serving.{served}
use Rattle.line.specs.Sessions.{reply_to, refusal_to}

pub record Course : Type 0 where
  pub replies : List ℕ
  pub box : BoxState

abbrev pub behind : List ℕ → Course → Course
behind xs c = record { replies = xs ++ c.replies; box = c.box }

-- by what the reader finds next: the end, a message and what follows it, or no message, and then nothing follows
abbrev pub course_by : Result (Option Request) LineFault → BoxState → (BoxState → Course) → Course
course_by (Ok None) b next = record { replies = []; box = b }
course_by (Ok (Some q)) b next = behind (reply_to b q) (next (served b q).after)
course_by (Err f) b next = record { replies = refusal_to f; box = b }

abbrev pub course_in : ℕ → BoxState → List ℕ → Course
course_in zero b bs = record { replies = []; box = b }
course_in (suc n) b bs = course_by (next_of bs) b (λ b'. course_in n b' (drop (3 + size_in bs) bs))

-- there are no more messages than bytes
unfoldable pub course : BoxState → List ℕ → Course
course b bs = course_in (length bs) b bs

abbrev pub course_rest : Option Pause → BoxState → List ℕ → Course
course_rest None b bs = course b bs
course_rest (Some Input) b bs = course b bs
course_rest (Some Room) b bs = course b bs
course_rest (Some Done) b bs = record { replies = []; box = b }

-- from the box b and the place at, w reply bytes in the memory out and the box b' at the place at' are the beginning of the
-- session, whatever bytes xs come after the input bs; after an input that has ended (e) none come
pub record Cuts (e : Bool) (bs : List ℕ) (b : BoxState) (at : ℕ) (p : Pause) (w : ℕ) (b' : BoxState) (at' : ℕ) (out : List ℕ) : Type 0 where
  pub whole : (xs : List ℕ) → (e ≡ true → xs ≡ []) → course b (drop at bs ++ xs) ≡ behind (take w out) (course_rest (Some p) b' (drop at' bs ++ xs))

-- A session by its bytes, from the opening of a box of four ways. Assumes nothing.
--     known_session  an application of seat 5, a poll with coin 0, and a poll with coin 3, which is refused with 9
use Rattle.std.proofs.Common.{◌≡◌, [], ◌∷◌, refl}
use Rattle.lock.specs.Calls.{cleared}
use Rattle.lock.specs.Questions.{enter_refusal}
use Rattle.seats.specs.Lawful.{lawful}
use Rattle.steps.specs.Polls.{stepped, polled_seat}
use Rattle.line.specs.Messages.{message_of}
use Rattle.line.specs.Reader.{next_of}
use Rattle.line.specs.Serving.{served}
use Rattle.line.specs.Courses.{course}

pub known_session : (course (cleared 4 [] []) (1 ∷ 0 ∷ 2 ∷ 1 ∷ 5 ∷ 1 ∷ 0 ∷ 5 ∷ 2 ∷ 5 ∷ 0 ∷ 1 ∷ 0 ∷ 1 ∷ 0 ∷ 5 ∷ 2 ∷ 5 ∷ 0 ∷ 1 ∷ 3 ∷ [])).replies ≡ 1 ∷ 0 ∷ 4 ∷ 1 ∷ 0 ∷ 0 ∷ 1 ∷ 1 ∷ 0 ∷ 3 ∷ 2 ∷ 0 ∷ 1 ∷ 1 ∷ 0 ∷ 6 ∷ 2 ∷ 9 ∷ 5 ∷ 0 ∷ 0 ∷ 0 ∷ []
unfolding course next_of message_of served enter_refusal lawful stepped polled_seat
known_session = refl

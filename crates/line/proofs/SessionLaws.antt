-- The answer to a message from those of its parts. Assumes nothing.
--     answers-end      the end of the input
--     answers-replied  a message that was read
--     answers-over     one that could not be read
use Rattle.std.proofs.Common.{◌≡◌, ℕ, ◌≤◌, List, ◌++◌, length, take, drop, Some, None, Ok, Err, Option, Result, refl, ap, arith, le-ltb}
use Rattle.std.proofs.lemmas.List.{take-append-drop}
use Rattle.lock.specs.States.{BoxState}
use Rattle.line.specs.declared.fault.LineFault.{LineFault}
use Rattle.line.specs.declared.session.Answered.{Answered}
use Rattle.line.specs.declared.session.Answered.TheVariants.{End, Replied, Over}
use Rattle.line.specs.Faults.{told_to}
use Rattle.line.specs.Messages.{Request}
use Rattle.line.specs.Reader.{next_of, place_of}
use Rattle.line.specs.Replies.{Written, refused_body}
use Rattle.line.specs.Serving.{served}
use Rattle.line.specs.Sessions.{Answers, Responds, answered, answered_to, reply_to, refusal_to}
use Rattle.line.proofs.ReplyLaws.{onto_front}

module _ (b : BoxState) (at : ℕ) (bs out : List ℕ) where
  module _ (h : 86 ≤ length out) (at' : ℕ) (p : at' ≡ place_of at (drop at bs)) where
    answers_by : (x : Result (Option Request) LineFault) (r : Result Answered LineFault) (b' : BoxState) (out' : List ℕ) → x ≡ next_of (drop at bs) → Answers (answered_to x b at' out) r b' at' out' → Answers (answered b at bs out) r b' at' out'
    unfolding answered
    answers_by x r b' out' e a = rw (le-ltb (length out) 86 h, ← e, ← p) a

    -- the reply is written over the front of the memory
    module _ (room : List ℕ) where
      pub answers-end : Ok None ≡ next_of (drop at bs) → room ≡ take 86 out → Answers (answered b at bs out) (Ok End) b at' (room ++ drop 86 out)
      answers-end e k =
          answers_by (Ok None) (Ok End) b (room ++ drop 86 out) e
          (record { answer = refl; ways = refl; next = refl; seats = refl; cells = refl; place = refl; memory = rw k (take-append-drop 86 out) })

      pub answers-replied : (q : Request) (n : ℕ) (b' : BoxState) → Ok (Some q) ≡ next_of (drop at bs) → Responds q (served b q) (take 86 out) n b' room → Answers (answered b at bs out) (Ok (Replied n)) b' at' (room ++ drop 86 out)
      answers-replied q n b' e s =
          answers_by (Ok (Some q)) (Ok (Replied n)) b' (room ++ drop 86 out) e
          (record { answer = ap (λ x. Ok (Replied x)) s.written.size; ways = s.ways; next = s.next; seats = s.seats; cells = s.cells; place = refl; memory = onto_front 86 (reply_to b q) out room h (omega (arith, s.short, s.written.size)) s.written.bytes })

      pub answers-over : (f : LineFault) (n : ℕ) → Err f ≡ next_of (drop at bs) → Written (refused_body (told_to 0 f)) (take 86 out) n room → Answers (answered b at bs out) (Ok (Over n)) b at' (room ++ drop 86 out)
      answers-over f n e w =
          answers_by (Err f) (Ok (Over n)) b (room ++ drop 86 out) e
          (record { answer = ap (λ x. Ok (Over x)) w.size; ways = refl; next = refl; seats = refl; cells = refl; place = refl; memory = onto_front 86 (refusal_to f) out room h (omega arith) w.bytes })

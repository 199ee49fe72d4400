-- Replies: their bytes, and where they are written. Assumes nothing.
--     frame_of body   a message or a reply of that body: the version, the length and the body
--     onto bs out     the bytes bs over the front of the memory out, whose rest stays
--     content_of r    what follows in the reply r to an accepted message; content_size r is how long that is
--     refused_body f  the body of a refusal
--     reply_body k x  the body of the reply to a message of kind k, accepted with a content or refused
--     Written         a function wrote a body in its frame onto a memory, and answered how many bytes that are
use Rattle.std.specs.Prelude.{◌≡◌, ℕ, ◌/◌, ◌%◌, List, [], ◌∷◌, ◌++◌, length, drop, Ok, Err, Result}
use Rattle.layout.specs.declared.fault.Refusal.{Refusal}
use Rattle.seats.specs.Places.{state_number}
use Rattle.line.specs.declared.fault.LineRefusal.{LineRefusal}
use Rattle.line.specs.declared.replies.Reply.{Reply}
use Rattle.line.specs.declared.replies.Reply.TheVariants.{Applied, Stated, Looked, Published}

-- a number in two bytes, the high one first
abbrev pub two_bytes : ℕ → List ℕ
two_bytes n = (n / 256) ∷ (n % 256) ∷ []

abbrev pub frame_of : List ℕ → List ℕ
frame_of body = 1 ∷ (length body / 256) ∷ (length body % 256) ∷ body

abbrev pub onto : List ℕ → List ℕ → List ℕ
onto bs out = bs ++ drop (length bs) out

abbrev pub content_of : Reply → List ℕ
content_of (Applied passage) = two_bytes passage.0
content_of (Stated state) = state_number state ∷ []
content_of (Looked view) = state_number view.state ∷ view.top ∷ []
content_of (Published state text) = state_number state ∷ text.now

abbrev pub content_size : Reply → ℕ
content_size r = length (content_of r)

abbrev pub refused_body : LineRefusal → List ℕ
refused_body f =
    f.kind ∷ f.refusal.number ∷ f.refusal.seat.0 ∷ f.refusal.height ∷ two_bytes f.refusal.cell

abbrev pub reply_body : ℕ → Result (List ℕ) Refusal → List ℕ
reply_body k (Ok content) = k ∷ 0 ∷ content
reply_body k (Err f) = refused_body (record { kind = k; refusal = f })

pub record Written (body out : List ℕ) (r : ℕ) (after : List ℕ) : Type 0 where
  pub size : r ≡ length (frame_of body)
  pub bytes : after ≡ onto (frame_of body) out

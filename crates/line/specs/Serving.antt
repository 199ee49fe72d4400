-- What the box answers to a request. Assumes nothing.
--     mapped f o    an outcome whose answer is told as bytes
--     served b q    the outcome of the request q at the box b: the content of the reply, or the refusal
--     reply_in k r  the body of the reply to a message of kind k
--     size_of r     how long the content of a reply is, 0 for a refusal
--     Serves        a function answered a request, and left the box, as an outcome says
use Rattle.std.specs.Prelude.{◌≡◌, ℕ, ◌≤◌, List, [], ◌∷◌, length, Ok, Err, Result}
use Rattle.layout.specs.declared.fault.Refusal.{Refusal}
use Rattle.lock.specs.States.{BoxState, CallOutcome}
use Rattle.lock.specs.Calls.{applied, polled, gave_up_outcome, left, looked, published}
use Rattle.line.specs.declared.fault.LineFault.{LineFault}
use Rattle.line.specs.declared.replies.Reply.{Reply}
use Rattle.line.specs.Faults.{told_to}
use Rattle.line.specs.Messages.{Request, applies, polls, quits, leaves, looks, publishes, kind_of}
use Rattle.line.specs.Replies.{content_of, refused_body, reply_body, two_bytes}

abbrev pub map_ok : {A B : Type 0} → (A → B) → Result A Refusal → Result B Refusal
map_ok f (Ok x) = Ok (f x)
map_ok f (Err e) = Err e

abbrev pub mapped : {A B : Type 0} → (A → B) → CallOutcome A → CallOutcome B
mapped f o = record { answer = map_ok f o.answer; after = o.after }

-- an application is answered by the passage, a look by state and top, a publish by state and text, the others by the state
unfoldable pub served : BoxState → Request → CallOutcome (List ℕ)
served b (applies p) = mapped two_bytes (applied b p)
served b (polls p n k) = mapped (λ s. s ∷ []) (polled b p n k)
served b (quits p n) = mapped (λ s. s ∷ []) (gave_up_outcome b p n)
served b (leaves p n) = mapped (λ s. s ∷ []) (left b p n)
served b (looks p) = mapped (λ v. v.0 ∷ v.1 ∷ []) (looked b p)
served b (publishes p n text) = mapped (λ s. s ∷ text) (published b p n)

abbrev pub reply_in : ℕ → Result Reply LineFault → List ℕ
reply_in k (Ok r) = reply_body k (Ok (content_of r))
reply_in k (Err f) = refused_body (told_to k f)

abbrev pub size_of : Result Reply LineFault → ℕ
size_of (Ok r) = length (content_of r)
size_of (Err f) = 0

pub record Serves (q : Request) (o : CallOutcome (List ℕ)) (r : Result Reply LineFault) (b : BoxState) : Type 0 where
  pub short : size_of r ≤ 81
  pub reply : reply_in (kind_of q) r ≡ reply_body (kind_of q) o.answer
  pub ways : b.ways ≡ o.after.ways
  pub next : b.next ≡ o.after.next
  pub seats : b.seats ≡ o.after.seats
  pub cells : b.cells ≡ o.after.cells

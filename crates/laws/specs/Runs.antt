-- Runs of calls on one box. Assumes nothing.
--     seat_of c                    the seat that a call names
--     performed c b                what the call c does to the box b: its answer, and the box afterwards
--     run cs b                     the box after the calls cs
--     got_of c b                   what the call c gets: its answer, and the record of its seat afterwards
--     gots cs b                    what each of the calls cs gets
--     Gets, Performs, Unperformed  a function made one call; a function opened a box and made a list of calls
use Rattle.std.specs.Prelude.{◌≡◌, ℕ, List, [], ◌∷◌, length, Some, None}
use Rattle.seats.specs.declared.seat.Seat.{Seat}
use Rattle.layout.specs.Refusals.{refusal_of}
use Rattle.lock.specs.States.{BoxState, CallOutcome, seat_at}
use Rattle.lock.specs.Questions.{open_refusal}
use Rattle.lock.specs.Calls.{cleared, applied, polled, gave_up_outcome, left, published}
use Rattle.laws.specs.declared.call.Call.{Call}
use Rattle.laws.specs.declared.call.Call.TheVariants.{Apply, Poll, GiveUp, Leave, Publish}
use Rattle.laws.specs.declared.call.Got.{Got}
use Rattle.laws.specs.declared.runs.PerformFault.{PerformFault}
use Rattle.laws.specs.declared.runs.PerformFault.TheVariants.{Memory, Box}

abbrev pub seat_of : Call → ℕ
seat_of (Apply p) = p.0
seat_of (Poll p n k) = p.0
seat_of (GiveUp p n) = p.0
seat_of (Leave p n) = p.0
seat_of (Publish p n) = p.0

abbrev pub performed_open : Call → BoxState → CallOutcome ℕ
performed_open (Apply p) b = applied b p.0
performed_open (Poll p n k) b = polled b p.0 n.0 k
performed_open (GiveUp p n) b = gave_up_outcome b p.0 n.0
performed_open (Leave p n) b = left b p.0 n.0
performed_open (Publish p n) b = published b p.0 n.0

-- the same, shut, for those who build on it
unfoldable pub performed : Call → BoxState → CallOutcome ℕ
performed c b = performed_open c b

abbrev pub run : List Call → BoxState → BoxState
run [] b = b
run (c ∷ cs) b = run cs (performed c b).after

abbrev pub got_of : Call → BoxState → Got
got_of c b = record { answer = (performed c b).answer; seat = seat_at (performed c b).after (seat_of c) }

abbrev pub gots : List Call → BoxState → List Got
gots [] b = []
gots (c ∷ cs) b = got_of c b ∷ gots cs (performed c b).after

-- a call on the box b got r and left the box a
pub record Gets (c : Call) (b : BoxState) (r : Got) (a : BoxState) : Type 0 where
  pub got : r ≡ got_of c b
  pub after : a ≡ (performed c b).after

-- calls on a box of w ways opened over the table ts and the words ws: what they got, and the table and the words they left
pub record Performs (w : ℕ) (ts : List Seat) (ws : List ℕ) (cs : List Call) (rs : List Got) (us : List Seat) (vs : List ℕ) : Type 0 where
  pub opened : open_refusal w (length ts) (length ws) ≡ None
  pub got : rs ≡ gots cs (cleared w ts ws)
  pub seats : us ≡ (run cs (cleared w ts ws)).seats
  pub cells : vs ≡ (run cs (cleared w ts ws)).cells

abbrev pub refused_in : ℕ → List Seat → List ℕ → PerformFault → Type 0
refused_in w ts ws Memory = Unit {0}
refused_in w ts ws (Box e) = open_refusal w (length ts) (length ws) ≡ Some (refusal_of e)

-- it was not performed, and nothing changed; a refused opening says why
pub record Unperformed (w : ℕ) (ts : List Seat) (ws : List ℕ) (e : PerformFault) (us : List Seat) (vs : List ℕ) : Type 0 where
  pub refused : refused_in w ts ws e
  pub seats : us ≡ ts
  pub cells : vs ≡ ws

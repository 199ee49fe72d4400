-- The law of runs: what holds after the opening of a box and after each call of any list of calls. Assumes nothing.
--     Keeps b p g             seat p keeps gate g
--     Exclusive b             no two seats keep a gate in common
--     ExclusiveEach cs b      nor after any of the calls cs
--     accepts c b             the call c is accepted by the box b
--     AllFit cs b             none of the calls cs is refused as unlawful (5) or unfit (10)
--     polls_until out p cs b  how many polls of seat p are accepted until it is out, the last one counted too
--     Prompt cs b             giving up and leaving end within their limits of polls
--     accepted_of cs b        the calls of cs that are accepted
--     OpenEach cs b           whenever all seats are away, the next seat that applies and is polled alone with coin 0 holds
--                             after exactly three polls for each height, and after no fewer
--     Law cs b                all of this, of the calls cs from the box b
use Rattle.std.specs.Prelude.{◌≡◌, ℕ, ◌+◌, ◌-◌, ◌*◌, ◌<◌, ◌≤◌, Bool, true, false, cond, ◌&&◌, ◌||◌, ◌≢◌, List, [], ◌∷◌, length, is_ok, Ok, Err, Result, ◌==◌, slice_index}
use Rattle.layout.specs.declared.fault.Refusal.{Refusal}
use Rattle.layout.specs.Gates.{heights_of, seats_of, gate_of}
use Rattle.seats.specs.Places.{state_number}
use Rattle.seats.specs.Seats.{keeps_height}
use Rattle.lock.specs.States.{BoxState, seat_at}
use Rattle.laws.specs.declared.call.Call.{Call}
use Rattle.laws.specs.declared.call.Call.TheVariants.{Apply, Poll, GiveUp, Leave, Publish}
use Rattle.laws.specs.Runs.{performed, run}

-- it is the gate that the seat meets at some height, and the seat keeps what it meets there
pub record Keeps (b : BoxState) (p g : ℕ) : Type 0 where
  pub height : ℕ
  pub low : 1 ≤ height
  pub high : height ≤ heights_of b.ways
  pub meets : gate_of b.ways p height ≡ g
  pub keeps : keeps_height (seat_at b p) height ≡ true

abbrev pub Exclusive : BoxState → Type 0
Exclusive b = (p q g : ℕ) → p < seats_of b.ways → q < seats_of b.ways → p ≢ q → Keeps b p g → Keeps b q g → ⊥

abbrev pub ExclusiveEach : List Call → BoxState → Type 0
ExclusiveEach [] b = Exclusive b
ExclusiveEach (c ∷ cs) b = Exclusive b × ExclusiveEach cs (performed c b).after

abbrev pub accepts : Call → BoxState → Bool
accepts c b = is_ok (performed c b).answer

abbrev pub FitAnswer : Result ℕ Refusal → Type 0
FitAnswer (Ok x) = Unit {0}
FitAnswer (Err f) = (f.number ≢ 5) × (f.number ≢ 10)

abbrev pub AllFit : List Call → BoxState → Type 0
AllFit [] b = Unit {0}
AllFit (c ∷ cs) b = FitAnswer (performed c b).answer × AllFit cs (performed c b).after

-- the state of seat p, by its number
abbrev pub state_in : BoxState → ℕ → ℕ
state_in b p = state_number (seat_at b p).state

abbrev pub is_away : BoxState → ℕ → Bool
is_away b p = state_in b p == 0

abbrev pub is_out : BoxState → ℕ → Bool
is_out b p = is_away b p || state_in b p == 2

abbrev pub polls_seat : ℕ → Call → Bool
polls_seat p (Apply q) = false
polls_seat p (Poll q n k) = q.0 == p
polls_seat p (GiveUp q n) = false
polls_seat p (Leave q n) = false
polls_seat p (Publish q n) = false

abbrev pub polls_until : (BoxState → ℕ → Bool) → ℕ → List Call → BoxState → ℕ
polls_until out p [] b = 0
polls_until out p (c ∷ cs) b =
    cond (out b p) 0 (cond (polls_seat p c && accepts c b) 1 0 + polls_until out p cs (performed c b).after)

-- the limits for two, three and four ways
abbrev pub give_up_limit : ℕ → ℕ
give_up_limit w = slice_index (15 ∷ 34 ∷ 50 ∷ []) (w - 2)

abbrev pub leave_limit : ℕ → ℕ
leave_limit w = slice_index (17 ∷ 32 ∷ 47 ∷ []) (w - 2)

-- what an accepted call, with the calls after it, has to keep to
abbrev pub PromptCall : Call → List Call → BoxState → Type 0
PromptCall (Apply p) cs b = Unit {0}
PromptCall (Poll p n k) cs b = Unit {0}
PromptCall (GiveUp p n) cs b = polls_until is_out p.0 cs b ≤ give_up_limit b.ways
PromptCall (Leave p n) cs b = polls_until is_away p.0 cs b ≤ leave_limit b.ways
PromptCall (Publish p n) cs b = Unit {0}

abbrev pub Prompt : List Call → BoxState → Type 0
Prompt [] b = Unit {0}
Prompt (c ∷ cs) b = (accepts c b ≡ true → PromptCall c cs (performed c b).after) × Prompt cs (performed c b).after

abbrev pub accepted_of : List Call → BoxState → List Call
accepted_of [] b = []
accepted_of (c ∷ cs) b =
    cond (accepts c b) (c ∷ accepted_of cs (performed c b).after) (accepted_of cs (performed c b).after)

abbrev pub AllAway : BoxState → Type 0
AllAway b = (p : ℕ) → p < seats_of b.ways → state_in b p ≡ 0

-- polls of seat p with coin 0, and nothing else
abbrev pub AloneCall : ℕ → Call → Type 0
AloneCall p (Apply q) = ⊥
AloneCall p (Poll q n k) = (q.0 ≡ p) × (k ≡ 0)
AloneCall p (GiveUp q n) = ⊥
AloneCall p (Leave q n) = ⊥
AloneCall p (Publish q n) = ⊥

abbrev pub Alone : ℕ → List Call → Type 0
Alone p [] = Unit {0}
Alone p (c ∷ cs) = AloneCall p c × Alone p cs

pub record Holds (b a : BoxState) (p polls : ℕ) : Type 0 where
  pub before : polls < 3 * heights_of b.ways → state_in a p ≢ 2
  pub thereupon : polls ≡ 3 * heights_of b.ways → state_in a p ≡ 2

abbrev pub OpenNext : List Call → BoxState → Type 0
OpenNext cs b =
    AllAway b → (p : ℕ) (ps : List Call) → accepted_of cs b ≡ Apply (record { 0 = p }) ∷ ps → Alone p ps → Holds b (run cs b) p (length ps)

abbrev pub OpenEach : List Call → BoxState → Type 0
OpenEach [] b = OpenNext [] b
OpenEach (c ∷ cs) b = OpenNext (c ∷ cs) b × OpenEach cs (performed c b).after

pub record Law (cs : List Call) (b : BoxState) : Type 0 where
  pub exclusive : ExclusiveEach cs b
  pub fit : AllFit cs b
  pub prompt : Prompt cs b
  pub opens : OpenEach cs b

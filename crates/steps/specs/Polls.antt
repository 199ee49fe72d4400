-- A poll of one seat: the questions about it in turn, and then the step of its place. Assumes nothing.
--     ask q f rest                 the refusal f where the question q is answered by no, else what the rest says
--     takes_part n s               the seat is not away, and n is its passage
--     step_of p, stepped           the step of a place; the step of the seat's own place
--     coin_of k                    the role that a coin tries for
--     poll_refusal w p n k s size  the refusal of a poll of seat p with passage n and coin k, if it is refused
--     Asked, Due                   the poll is accepted, and what its step may rely on
--     polled_seat w p n k s ws     what the poll does
use Rattle.std.specs.Prelude.{◌≡◌, ℕ, ◌≤◌, Bool, cond, not, ◌&&◌, ◌||◌, List, length, Some, None, Ok, Err, Option, Result, ◌==◌, nat_le}
use Rattle.layout.specs.declared.fault.BoxFault.{BoxFault}
use Rattle.layout.specs.declared.fault.Refusal.{Refusal}
use Rattle.layout.specs.declared.path.Meeting.{Meeting}
use Rattle.layout.specs.Gates.{cells_of}
use Rattle.layout.specs.Meetings.{meeting}
use Rattle.layout.specs.Refusals.{refusal}
use Rattle.seats.specs.declared.seat.Seat.{Seat}
use Rattle.seats.specs.declared.place.Place.{Place}
use Rattle.seats.specs.declared.place.Place.TheVariants.{Rest, ClaimApply, RaceForRole, AwaitPromotion, RecheckCount, AwaitKing, MarkApply, CloseApply, AbortPawn, AbortQueen, AcceptGate, WithdrawApply, ReadRole, OpenAlone, HandOver, ReadApply, ClearApply, ScanApply, CollectPawns, RaceToClose, ClearSyncOne, ReadSyncTwo, ClearSyncTwo, StrikeOut, StrikeSelf, PromotePawn, ResetPawns, OpenGate, MarkPromoted}
use Rattle.seats.specs.Lawful.{lawful}
use Rattle.seats.specs.Places.{state_number}
use Rattle.steps.specs.declared.codes.Coin.{Coin}
use Rattle.steps.specs.declared.codes.Coin.TheVariants.{TryKing, TryQueen, TryPawn}
use Rattle.steps.specs.Outcomes.{Outcome, Ready, Room, did}
use Rattle.steps.specs.Climb.{claim_apply_step, race_for_role_step, await_promotion_step, recheck_count_step, await_king_step, mark_apply_step}
use Rattle.steps.specs.Abort.{close_apply_step, abort_pawn_step, abort_queen_step, accept_gate_step, withdraw_apply_step}
use Rattle.steps.specs.Release.{read_role_step, open_alone_step, hand_over_step, read_apply_step, clear_apply_step}
use Rattle.steps.specs.Collect.{scan_apply_step, collect_pawns_step}
use Rattle.steps.specs.HelpRelease.{race_to_close_step, clear_sync_one_step, read_sync_two_step, clear_sync_two_step, strike_out_step}
use Rattle.steps.specs.Promote.{strike_self_step, promote_pawn_step, reset_pawns_step, open_gate_step, mark_promoted_step}

abbrev pub step_of : Place → Coin → Meeting → Seat → List ℕ → Outcome (Unit {0})
step_of Rest c m s ws = did ws s
step_of ClaimApply c m s ws = claim_apply_step m s ws
step_of RaceForRole c m s ws = race_for_role_step c m s ws
step_of AwaitPromotion c m s ws = await_promotion_step m s ws
step_of RecheckCount c m s ws = recheck_count_step m s ws
step_of AwaitKing c m s ws = await_king_step m s ws
step_of MarkApply c m s ws = mark_apply_step m s ws
step_of CloseApply c m s ws = close_apply_step m s ws
step_of AbortPawn c m s ws = abort_pawn_step m s ws
step_of AbortQueen c m s ws = abort_queen_step m s ws
step_of AcceptGate c m s ws = accept_gate_step m s ws
step_of WithdrawApply c m s ws = withdraw_apply_step m s ws
step_of ReadRole c m s ws = read_role_step m s ws
step_of OpenAlone c m s ws = open_alone_step m s ws
step_of HandOver c m s ws = hand_over_step m s ws
step_of ReadApply c m s ws = read_apply_step m s ws
step_of ClearApply c m s ws = clear_apply_step m s ws
step_of ScanApply c m s ws = scan_apply_step m s ws
step_of CollectPawns c m s ws = collect_pawns_step m s ws
step_of RaceToClose c m s ws = race_to_close_step m s ws
step_of ClearSyncOne c m s ws = clear_sync_one_step m s ws
step_of ReadSyncTwo c m s ws = read_sync_two_step m s ws
step_of ClearSyncTwo c m s ws = clear_sync_two_step m s ws
step_of StrikeOut c m s ws = strike_out_step m s ws
step_of StrikeSelf c m s ws = strike_self_step m s ws
step_of PromotePawn c m s ws = promote_pawn_step m s ws
step_of ResetPawns c m s ws = reset_pawns_step m s ws
step_of OpenGate c m s ws = open_gate_step m s ws
step_of MarkPromoted c m s ws = mark_promoted_step m s ws

-- the step of the seat's own place, shut for those who build on it
unfoldable pub stepped : Coin → Meeting → Seat → List ℕ → Outcome (Unit {0})
stepped c m s ws = step_of s.place c m s ws

abbrev pub ask : Bool → Refusal → Option Refusal → Option Refusal
ask q f rest = cond q rest (Some f)

abbrev pub takes_part : ℕ → Seat → Bool
takes_part n s = not (state_number s.state == 0) && s.passage.0 == n

-- coin 0 tries to become king, 1 queen, 2 pawn
abbrev pub coin_of : ℕ → Coin
coin_of k = cond (k == 0) TryKing (cond (k == 1) TryQueen TryPawn)

abbrev pub poll_refusal : (w p n k : ℕ) → Seat → ℕ → Option Refusal
poll_refusal w p n k s size =
    ask (nat_le (cells_of w) size) (refusal 2 p)
    (ask (lawful w s) (refusal 5 p)
    (ask (takes_part n s) (refusal 6 p)
    (ask (state_number s.state == 1 || state_number s.state == 3) (refusal 7 p)
    (ask (nat_le k 2) (refusal 9 p) None))))

-- every question was answered by yes: what the steps may rely on
pub record Asked (w p n k : ℕ) (s : Seat) (size : ℕ) (c : Coin) : Type 0 where
  pub accepted : poll_refusal w p n k s size ≡ None
  pub coin : c ≡ coin_of k
  pub cells : cells_of w ≤ size
  pub low : 1 ≤ s.height
  pub ready : Ready w s

pub record Due (w p n k : ℕ) (s : Seat) (size : ℕ) (m : Meeting) (c : Coin) : Type 0 where
  pub accepted : poll_refusal w p n k s size ≡ None
  pub coin : c ≡ coin_of k
  pub meets : m ≡ meeting w p s.height
  pub room : Room m size
  pub ready : Ready m.ways s

-- what is refused changes nothing
abbrev pub Unchanged : {A : Type 0} → Result A BoxFault → (vs ws : List ℕ) (t s : Seat) → Type 0
Unchanged (Ok x) vs ws t s = Unit {0}
Unchanged (Err e) vs ws t s = (vs ≡ ws) × (t ≡ s)

abbrev pub refused_by : {A : Type 0} → Refusal → List ℕ → Seat → Outcome A
refused_by f ws s = record { answer = Err f; cells = ws; seat = s }

-- an accepted poll answers the state afterwards
abbrev pub state_answered : Result (Unit {0}) Refusal → Seat → Result ℕ Refusal
state_answered (Ok u) s = Ok (state_number s.state)
state_answered (Err f) s = Err f

abbrev pub state_told : Outcome (Unit {0}) → Outcome ℕ
state_told o = record { answer = state_answered o.answer o.seat; cells = o.cells; seat = o.seat }

abbrev pub poll_after : Option Refusal → (w p k : ℕ) → Seat → List ℕ → Outcome ℕ
poll_after (Some f) w p k s ws = refused_by f ws s
poll_after None w p k s ws = state_told (stepped (coin_of k) (meeting w p s.height) s ws)

-- shut, for those who build on it
unfoldable pub polled_seat : (w p n k : ℕ) → Seat → List ℕ → Outcome ℕ
polled_seat w p n k s ws = poll_after (poll_refusal w p n k s (length ws)) w p k s ws

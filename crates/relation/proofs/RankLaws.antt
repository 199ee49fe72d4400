-- The number behind the limits falls with every poll that is done. Assumes nothing.
--     leaving_on, quitting_on        the seat leaves or is away; it has given up, or is out, or leaves
--     LeavesAt, QuitsAt              what a lawful record says of a seat that leaves, and of one that climbs and has given up
--     falls_leaving, falls_quitting  the number afterwards is smaller, for the step of every place
--     stays_leaving, stays_quitting  and the seat goes on so
use Rattle.std.proofs.Common.{◌≡◌, ℕ, ◌+◌, ◌<◌, ◌≤◌, Bool, true, false, ◌⊎◌, List, Some, None, Ok, Option, arith}
use Rattle.layout.specs.declared.ids.WayId.{WayId}
use Rattle.layout.specs.declared.ids.Passage.{Passage}
use Rattle.layout.specs.declared.path.Meeting.{Meeting}
use Rattle.layout.specs.Gates.{heights_of}
use Rattle.seats.specs.declared.seat.Seat.{Seat}
use Rattle.seats.specs.declared.state.State.{State}
use Rattle.seats.specs.declared.state.State.TheVariants.{Away, Climbing, Holding, Leaving}
use Rattle.seats.specs.declared.place.Place.{Place}
use Rattle.seats.specs.declared.place.Place.TheVariants.{Rest, ClaimApply, RaceForRole, AwaitPromotion, RecheckCount, AwaitKing, MarkApply, CloseApply, AbortPawn, AbortQueen, AcceptGate, WithdrawApply, ReadRole, OpenAlone, HandOver, ReadApply, ClearApply, ScanApply, CollectPawns, RaceToClose, ClearSyncOne, ReadSyncTwo, ClearSyncTwo, StrikeOut, StrikeSelf, PromotePawn, ResetPawns, OpenGate, MarkPromoted}
use Rattle.seats.specs.Places.{place_number}
use Rattle.steps.specs.declared.cells.Cell.TheVariants.{Pawns}
use Rattle.steps.specs.declared.codes.Coin.{Coin}
use Rattle.steps.specs.Outcomes.{word}
use Rattle.steps.specs.Pawns.{promote_of}
use Rattle.steps.specs.Promote.{promotes}
use Rattle.steps.specs.Polls.{step_of}
use Rattle.relation.proofs.Ranks.{rank_of}

abbrev leaving_in : State → Bool
leaving_in Away = true
leaving_in Climbing = false
leaving_in Holding = false
leaving_in Leaving = true

abbrev pub leaving_on : Seat → Bool
leaving_on s = leaving_in s.state

abbrev quitting_in : State → Bool → Bool
quitting_in Away g = true
quitting_in Climbing g = g
quitting_in Holding g = true
quitting_in Leaving g = true

abbrev pub quitting_on : Seat → Bool
quitting_on s = quitting_in s.state s.gave_up

pub record LeavesAt (w : ℕ) (x : Place) (s : Seat) : Type 0 where
  pub state : s.state ≡ Leaving
  pub place : s.place ≡ x
  pub from : 35 ≤ place_number x
  pub height : s.height ≤ s.top
  pub top : s.top ≤ heights_of w
  pub scan : s.scan.0 < w
  pub few : 2 ≤ w

pub record QuitsAt (w : ℕ) (x : Place) (s : Seat) : Type 0 where
  pub state : s.state ≡ Climbing
  pub place : s.place ≡ x
  pub mark : s.gave_up ≡ true
  pub from : 16 ≤ place_number x
  pub off : (place_number x ≤ 32) ⊎ (52 ≤ place_number x)
  pub won : place_number x ≡ 16 → s.height ≤ s.aim
  pub low : s.height ≡ s.top + 1
  pub height : s.height ≤ heights_of w
  pub aim : s.aim ≤ heights_of w
  pub scan : s.scan.0 < w
  pub few : 2 ≤ w

falls_promotes_leaving : (o : Option (WayId × Passage)) (w : ℕ) (s : Seat) → LeavesAt w PromotePawn s → rank_of w (promotes o s) + 1 ≤ rank_of w s
falls_promotes_leaving None w s f = grind arith
falls_promotes_leaving (Some j) w s f = grind arith

pub falls_leaving : (x : Place) (c : Coin) (m : Meeting) (s : Seat) (ws : List ℕ) → LeavesAt m.ways x s → (step_of x c m s ws).answer ≡ Ok tt → rank_of m.ways (step_of x c m s ws).seat + 1 ≤ rank_of m.ways s
falls_leaving Rest c m s ws f k = grind arith
falls_leaving ClaimApply c m s ws f k = grind arith
falls_leaving RaceForRole c m s ws f k = grind arith
falls_leaving AwaitPromotion c m s ws f k = grind arith
falls_leaving RecheckCount c m s ws f k = grind arith
falls_leaving AwaitKing c m s ws f k = grind arith
falls_leaving MarkApply c m s ws f k = grind arith
falls_leaving CloseApply c m s ws f k = grind arith
falls_leaving AbortPawn c m s ws f k = grind arith
falls_leaving AbortQueen c m s ws f k = grind arith
falls_leaving AcceptGate c m s ws f k = grind arith
falls_leaving WithdrawApply c m s ws f k = grind arith
falls_leaving ReadRole c m s ws f k = grind arith
falls_leaving OpenAlone c m s ws f k = grind arith
falls_leaving HandOver c m s ws f k = grind arith
falls_leaving ReadApply c m s ws f k = grind arith
falls_leaving ClearApply c m s ws f k = grind arith
falls_leaving ScanApply c m s ws f k = grind arith
falls_leaving CollectPawns c m s ws f k = grind arith
falls_leaving RaceToClose c m s ws f k = grind arith
falls_leaving ClearSyncOne c m s ws f k = grind arith
falls_leaving ReadSyncTwo c m s ws f k = grind arith
falls_leaving ClearSyncTwo c m s ws f k = grind arith
falls_leaving StrikeOut c m s ws f k = grind arith
falls_leaving StrikeSelf c m s ws f k = grind arith
falls_leaving PromotePawn c m s ws f k = falls_promotes_leaving (promote_of (word ws m Pawns) m.ways) m.ways s f
falls_leaving ResetPawns c m s ws f k = grind arith
falls_leaving OpenGate c m s ws f k = grind arith
falls_leaving MarkPromoted c m s ws f k = grind arith

stays_promotes_leaving : (o : Option (WayId × Passage)) (w : ℕ) (s : Seat) → LeavesAt w PromotePawn s → leaving_on (promotes o s) ≡ true
stays_promotes_leaving None w s f = grind arith
stays_promotes_leaving (Some j) w s f = grind arith

pub stays_leaving : (x : Place) (c : Coin) (m : Meeting) (s : Seat) (ws : List ℕ) → LeavesAt m.ways x s → leaving_on (step_of x c m s ws).seat ≡ true
stays_leaving Rest c m s ws f = grind arith
stays_leaving ClaimApply c m s ws f = grind arith
stays_leaving RaceForRole c m s ws f = grind arith
stays_leaving AwaitPromotion c m s ws f = grind arith
stays_leaving RecheckCount c m s ws f = grind arith
stays_leaving AwaitKing c m s ws f = grind arith
stays_leaving MarkApply c m s ws f = grind arith
stays_leaving CloseApply c m s ws f = grind arith
stays_leaving AbortPawn c m s ws f = grind arith
stays_leaving AbortQueen c m s ws f = grind arith
stays_leaving AcceptGate c m s ws f = grind arith
stays_leaving WithdrawApply c m s ws f = grind arith
stays_leaving ReadRole c m s ws f = grind arith
stays_leaving OpenAlone c m s ws f = grind arith
stays_leaving HandOver c m s ws f = grind arith
stays_leaving ReadApply c m s ws f = grind arith
stays_leaving ClearApply c m s ws f = grind arith
stays_leaving ScanApply c m s ws f = grind arith
stays_leaving CollectPawns c m s ws f = grind arith
stays_leaving RaceToClose c m s ws f = grind arith
stays_leaving ClearSyncOne c m s ws f = grind arith
stays_leaving ReadSyncTwo c m s ws f = grind arith
stays_leaving ClearSyncTwo c m s ws f = grind arith
stays_leaving StrikeOut c m s ws f = grind arith
stays_leaving StrikeSelf c m s ws f = grind arith
stays_leaving PromotePawn c m s ws f = stays_promotes_leaving (promote_of (word ws m Pawns) m.ways) m.ways s f
stays_leaving ResetPawns c m s ws f = grind arith
stays_leaving OpenGate c m s ws f = grind arith
stays_leaving MarkPromoted c m s ws f = grind arith

falls_promotes_quitting : (o : Option (WayId × Passage)) (w : ℕ) (s : Seat) → QuitsAt w PromotePawn s → rank_of w (promotes o s) + 1 ≤ rank_of w s
falls_promotes_quitting None w s f = grind arith
falls_promotes_quitting (Some j) w s f = grind arith

pub falls_quitting : (x : Place) (c : Coin) (m : Meeting) (s : Seat) (ws : List ℕ) → QuitsAt m.ways x s → (step_of x c m s ws).answer ≡ Ok tt → rank_of m.ways (step_of x c m s ws).seat + 1 ≤ rank_of m.ways s
falls_quitting Rest c m s ws f k = grind arith
falls_quitting ClaimApply c m s ws f k = grind arith
falls_quitting RaceForRole c m s ws f k = grind arith
falls_quitting AwaitPromotion c m s ws f k = grind arith
falls_quitting RecheckCount c m s ws f k = grind arith
falls_quitting AwaitKing c m s ws f k = grind arith
falls_quitting MarkApply c m s ws f k = grind arith
falls_quitting CloseApply c m s ws f k = grind arith
falls_quitting AbortPawn c m s ws f k = grind arith
falls_quitting AbortQueen c m s ws f k = grind arith
falls_quitting AcceptGate c m s ws f k = grind arith
falls_quitting WithdrawApply c m s ws f k = grind arith
falls_quitting ReadRole c m s ws f k = grind arith
falls_quitting OpenAlone c m s ws f k = grind arith
falls_quitting HandOver c m s ws f k = grind arith
falls_quitting ReadApply c m s ws f k = grind arith
falls_quitting ClearApply c m s ws f k = grind arith
falls_quitting ScanApply c m s ws f k = grind arith
falls_quitting CollectPawns c m s ws f k = grind arith
falls_quitting RaceToClose c m s ws f k = grind arith
falls_quitting ClearSyncOne c m s ws f k = grind arith
falls_quitting ReadSyncTwo c m s ws f k = grind arith
falls_quitting ClearSyncTwo c m s ws f k = grind arith
falls_quitting StrikeOut c m s ws f k = grind arith
falls_quitting StrikeSelf c m s ws f k = grind arith
falls_quitting PromotePawn c m s ws f k = falls_promotes_quitting (promote_of (word ws m Pawns) m.ways) m.ways s f
falls_quitting ResetPawns c m s ws f k = grind arith
falls_quitting OpenGate c m s ws f k = grind arith
falls_quitting MarkPromoted c m s ws f k = grind arith

stays_promotes_quitting : (o : Option (WayId × Passage)) (w : ℕ) (s : Seat) → QuitsAt w PromotePawn s → quitting_on (promotes o s) ≡ true
stays_promotes_quitting None w s f = grind arith
stays_promotes_quitting (Some j) w s f = grind arith

pub stays_quitting : (x : Place) (c : Coin) (m : Meeting) (s : Seat) (ws : List ℕ) → QuitsAt m.ways x s → quitting_on (step_of x c m s ws).seat ≡ true
stays_quitting Rest c m s ws f = grind arith
stays_quitting ClaimApply c m s ws f = grind arith
stays_quitting RaceForRole c m s ws f = grind arith
stays_quitting AwaitPromotion c m s ws f = grind arith
stays_quitting RecheckCount c m s ws f = grind arith
stays_quitting AwaitKing c m s ws f = grind arith
stays_quitting MarkApply c m s ws f = grind arith
stays_quitting CloseApply c m s ws f = grind arith
stays_quitting AbortPawn c m s ws f = grind arith
stays_quitting AbortQueen c m s ws f = grind arith
stays_quitting AcceptGate c m s ws f = grind arith
stays_quitting WithdrawApply c m s ws f = grind arith
stays_quitting ReadRole c m s ws f = grind arith
stays_quitting OpenAlone c m s ws f = grind arith
stays_quitting HandOver c m s ws f = grind arith
stays_quitting ReadApply c m s ws f = grind arith
stays_quitting ClearApply c m s ws f = grind arith
stays_quitting ScanApply c m s ws f = grind arith
stays_quitting CollectPawns c m s ws f = grind arith
stays_quitting RaceToClose c m s ws f = grind arith
stays_quitting ClearSyncOne c m s ws f = grind arith
stays_quitting ReadSyncTwo c m s ws f = grind arith
stays_quitting ClearSyncTwo c m s ws f = grind arith
stays_quitting StrikeOut c m s ws f = grind arith
stays_quitting StrikeSelf c m s ws f = grind arith
stays_quitting PromotePawn c m s ws f = stays_promotes_quitting (promote_of (word ws m Pawns) m.ways) m.ways s f
stays_quitting ResetPawns c m s ws f = grind arith
stays_quitting OpenGate c m s ws f = grind arith
stays_quitting MarkPromoted c m s ws f = grind arith

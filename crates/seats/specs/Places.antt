-- The numbers of the states and of the places. Assumes nothing.
--     state_number s  away 0, climbing 1, holding 2, leaving 3
--     place_number p  the number of a place
--     within a b n    a ≤ n ≤ b
use Rattle.std.specs.Prelude.{ℕ, Bool, ◌&&◌, nat_le}
use Rattle.seats.specs.declared.state.State.{State}
use Rattle.seats.specs.declared.state.State.TheVariants.{Away, Climbing, Holding, Leaving}
use Rattle.seats.specs.declared.place.Place.{Place}
use Rattle.seats.specs.declared.place.Place.TheVariants.{Rest, ClaimApply, RaceForRole, AwaitPromotion, RecheckCount, AwaitKing, MarkApply, CloseApply, AbortPawn, AbortQueen, AcceptGate, WithdrawApply, ReadRole, OpenAlone, HandOver, ReadApply, ClearApply, ScanApply, CollectPawns, RaceToClose, ClearSyncOne, ReadSyncTwo, ClearSyncTwo, StrikeOut, StrikeSelf, PromotePawn, ResetPawns, OpenGate, MarkPromoted}

abbrev pub state_number : State → ℕ
state_number Away = 0
state_number Climbing = 1
state_number Holding = 2
state_number Leaving = 3

abbrev pub place_number : Place → ℕ
place_number Rest = 0
place_number ClaimApply = 2
place_number RaceForRole = 5
place_number AwaitPromotion = 7
place_number RecheckCount = 8
place_number AwaitKing = 14
place_number MarkApply = 16
place_number CloseApply = 19
place_number AbortPawn = 21
place_number AbortQueen = 26
place_number AcceptGate = 27
place_number WithdrawApply = 32
place_number ReadRole = 35
place_number OpenAlone = 36
place_number HandOver = 37
place_number ReadApply = 48
place_number ClearApply = 49
place_number ScanApply = 52
place_number CollectPawns = 55
place_number RaceToClose = 56
place_number ClearSyncOne = 58
place_number ReadSyncTwo = 59
place_number ClearSyncTwo = 60
place_number StrikeOut = 61
place_number StrikeSelf = 64
place_number PromotePawn = 65
place_number ResetPawns = 67
place_number OpenGate = 68
place_number MarkPromoted = 70

abbrev pub within : ℕ → ℕ → ℕ → Bool
within a b n = nat_le a n && nat_le n b

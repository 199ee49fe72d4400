-- How many polls a seat that has given up, or that leaves, can still need: a number computed from its own record.
-- Assumes nothing.
--     release w h t  for a seat that leaves from height h, with top t
--     rest_of w s    for what is left above the height at which a leaving seat stands
--     back_of w s    for a climbing seat that backs out
--     won_of w t     for a climbing seat that has given up and captures with top t; most_won, from a height up
--     freeing n w s  for what climbing and leaving seats share at a gate, from place n up to the closing
--     rank_of w s    the number; 0 for a seat that is away or holds
use Rattle.std.proofs.Common.{ℕ, ◌+◌, ◌-◌, ◌*◌, max, cond, ◌||◌, eqb, leb, [], ◌∷◌, get_or}
use Rattle.layout.specs.Gates.{heights_of}
use Rattle.seats.specs.declared.seat.Seat.{Seat}
use Rattle.seats.specs.declared.state.State.{State}
use Rattle.seats.specs.declared.state.State.TheVariants.{Away, Climbing, Holding, Leaving}
use Rattle.seats.specs.Places.{place_number}

abbrev pub release : (w h t : ℕ) → ℕ
release w h t = 14 * (t - h) + 15 + w

abbrev pub rest_of : ℕ → Seat → ℕ
rest_of w s = cond (s.handed || eqb s.height s.top) 0 (release w (s.height + 1) s.top)

abbrev pub back_of : ℕ → Seat → ℕ
back_of w s = cond (eqb s.top 0) 0 (release w 1 s.top)

abbrev pub won_of : (w t : ℕ) → ℕ
won_of w t = cond (eqb t (heights_of w)) 0 (release w 1 t)

abbrev pub most_won : (w h : ℕ) → ℕ
most_won w h = cond (eqb h (heights_of w)) 0 (release w 1 (heights_of w - 1))

-- the places from 55 on in turn; where there is no such place, 0
abbrev pub freeing : ℕ → ℕ → Seat → ℕ
freeing n w s =
    cond (eqb n 52) (10 + (w - s.scan.0))
    (get_or (0 ∷ 10 ∷ 9 ∷ 0 ∷ 8 ∷ 7 ∷ 6 ∷ 5 ∷ 0 ∷ 0 ∷ 4 ∷ 3 ∷ 0 ∷ 2 ∷ 1 ∷ 0 ∷ 1 ∷ []) (n - 54) 0)

abbrev pub leaving_rank : ℕ → ℕ → Seat → ℕ
leaving_rank n w s =
    cond (leb n 37) (38 - n + max (12 + w) (11 + rest_of w s))
    (cond (leb n 49) (50 - n + rest_of w s) (2 + freeing n w s + rest_of w s))

abbrev pub queen_rank : ℕ → Seat → ℕ
queen_rank w s = 1 + max (11 + w + back_of w s) (1 + most_won w s.height)

abbrev pub pawn_rank : ℕ → Seat → ℕ
pawn_rank w s = 1 + max (1 + back_of w s) (won_of w s.height)

abbrev pub climbing_rank : ℕ → ℕ → Seat → ℕ
climbing_rank n w s =
    cond (eqb n 16) (1 + won_of w s.aim)
    (cond (eqb n 19) (1 + max (queen_rank w s) (pawn_rank w s))
    (cond (eqb n 21) (pawn_rank w s)
    (cond (eqb n 26) (queen_rank w s)
    (cond (eqb n 27) (1 + most_won w s.height) (1 + freeing n w s + back_of w s)))))

abbrev pub rank_in : State → ℕ → Seat → ℕ
rank_in Away w s = 0
rank_in Climbing w s = climbing_rank (place_number s.place) w s
rank_in Holding w s = 0
rank_in Leaving w s = leaving_rank (place_number s.place) w s

abbrev pub rank_of : ℕ → Seat → ℕ
rank_of w s = rank_in s.state w s

-- What the ways of a gate show in a box, and which gates a seat occupies. Assumes nothing.
--     word_of b g c    the word in a cell of gate g
--     cells_at b g     Count, Sync1 and Sync2 of gate g; marks_at b g j, what the cells of its way j hold
--     Ghost            what a proof carries along: the phase of each gate, and who occupies each way: 0 for nobody, else the
--                      seat plus 1
--     stands_at s      the height of the gate at which the seat acts, 0 for none: at place 2 it has not entered the gate,
--                      and at place 35 it has yet to begin to give it back
--     stand_at b G k g j who stands at way j of gate g, which has height k
--     low_of, high_of  a seat occupies the gates of its path from one height up to another
--     Occupies b p k   seat p occupies the gate that it meets at height k
use Rattle.std.proofs.Common.{ℕ, ◌-◌, ◌/◌, ◌%◌, ◌≤◌, cond, ◌&&◌, eqb, get_or}
use Rattle.layout.specs.declared.path.Meeting.{Meeting}
use Rattle.layout.specs.Gates.{heights_of, gate_of, way_of, cell_of}
use Rattle.seats.specs.declared.seat.Seat.{Seat}
use Rattle.seats.specs.declared.state.State.{State}
use Rattle.seats.specs.declared.state.State.TheVariants.{Away, Climbing, Holding, Leaving}
use Rattle.seats.specs.Places.{place_number, within}
use Rattle.steps.specs.declared.cells.Cell.{Cell}
use Rattle.steps.specs.declared.cells.Cell.TheVariants.{Count, SyncOne, SyncTwo, Pawns, Apply, Role}
use Rattle.steps.specs.Outcomes.{word}
use Rattle.steps.specs.Pawns.{lane}
use Rattle.lock.specs.States.{BoxState, seat_at}
use Rattle.gate.proofs.Phases.{Stand, Marks, Cells, Phase}
use Rattle.gate.proofs.Gates.{still}

-- a gate by its cells alone
abbrev pub gate_meeting : ℕ → ℕ → Meeting
gate_meeting w g = record { seat = record { 0 = 0 }; height = 0; base = cell_of w g 0; ways = w; way = record { 0 = 0 } }

abbrev pub word_of : BoxState → ℕ → Cell → ℕ
word_of b g c = word b.cells (gate_meeting b.ways g) c

abbrev pub cells_at : BoxState → ℕ → Cells
cells_at b g = record { count = word_of b g Count; sync_one = word_of b g SyncOne; sync_two = word_of b g SyncTwo }

-- of the words in Apply and Role, and of the pair in the pawn word
abbrev pub marks_of : (a r l : ℕ) → Marks
marks_of a r l = record { applied = a % 4; number = a / 4; role = r; listed = l % 4; listing = l / 4 }

abbrev pub marks_at : BoxState → ℕ → ℕ → Marks
marks_at b g j =
    marks_of (word_of b g (Apply (record { 0 = j }))) (word_of b g (Role (record { 0 = j }))) (lane (word_of b g Pawns) j)

pub record Ghost : Type 0 where
  pub phase : ℕ → Phase
  pub owner : ℕ → ℕ → ℕ

abbrev pub stands_in : State → ℕ → ℕ → ℕ
stands_in Away n h = 0
stands_in Climbing n h = cond (eqb n 2) 0 h
stands_in Holding n h = 0
stands_in Leaving n h = cond (eqb n 35) 0 h

abbrev pub stands_at : Seat → ℕ
stands_at s = stands_in s.state (place_number s.place) s.height

abbrev pub stage_in : State → ℕ
stage_in Away = 0
stage_in Climbing = 1
stage_in Holding = 2
stage_in Leaving = 3

abbrev pub stand_of : Seat → Stand
stand_of s =
    record { stage = stage_in s.state; place = place_number s.place; passage = s.passage.0; aim = s.aim; scan = s.scan.0; noted = λ j. get_or s.noted j 0; kept_way = s.kept_way.0; kept_number = s.kept_number.0 }

-- what an occupant o, whose record is s, shows at height k
abbrev pub shown : (o k : ℕ) → Seat → Stand
shown o k s = cond (eqb o 0) (still 0) (cond (eqb (stands_at s) k) (stand_of s) (still 2))

abbrev pub stand_at : BoxState → Ghost → (k g j : ℕ) → Stand
stand_at b G k g j = shown (G.owner g j) k (seat_at b (G.owner g j - 1))

abbrev pub low_in : State → ℕ → ℕ
low_in Away h = 1
low_in Climbing h = 1
low_in Holding h = 1
low_in Leaving h = h

abbrev pub low_of : Seat → ℕ
low_of s = low_in s.state s.height

-- r and t are the words in its Role and in Sync1 of the gate that it meets at its height: a queen who has been handed gates
-- occupies them before she knows it
abbrev pub reach_of : (w n r t : ℕ) → Seat → ℕ
reach_of w n r t s =
    cond (eqb n 2) s.top
    (cond (eqb n 16) s.aim
    (cond (within 14 27 n && (eqb r 2 && within s.height (heights_of w) t)) t s.height))

abbrev pub high_in : State → (w r t : ℕ) → Seat → ℕ
high_in Away w r t s = 0
high_in Climbing w r t s = reach_of w (place_number s.place) r t s
high_in Holding w r t s = s.top
high_in Leaving w r t s = cond s.handed s.height s.top

abbrev pub high_of : (w r t : ℕ) → Seat → ℕ
high_of w r t s = high_in s.state w r t s

abbrev pub own_gate : BoxState → ℕ → ℕ
own_gate b p = gate_of b.ways p (seat_at b p).height

abbrev pub own_way : BoxState → ℕ → ℕ
own_way b p = way_of b.ways p (seat_at b p).height

abbrev pub high_at : BoxState → ℕ → ℕ
high_at b p =
    high_of b.ways (word_of b (own_gate b p) (Role (record { 0 = own_way b p }))) (word_of b (own_gate b p) SyncOne) (seat_at b p)

abbrev pub Occupies : BoxState → ℕ → ℕ → Type 0
Occupies b p k = (low_of (seat_at b p) ≤ k) × (k ≤ high_at b p)

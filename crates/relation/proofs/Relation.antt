-- The relation between gates, ways and seats that every call of a run keeps. Assumes nothing.
--     YetAt s k       the seat climbs, and has not yet entered the gate that it meets at height k
--     Sound b         each seat by itself, and their passages
--     Linked b G      the occupants are those seats that occupy the gate
--     GateAt b G k g  gate g of height k is in its phase
--     Related b G     all of this
use Rattle.std.proofs.Common.{◌≡◌, ℕ, ◌+◌, ◌^◌, ◌<◌, ◌≤◌, true, ◌≢◌, ◌⊎◌, length}
use Rattle.layout.specs.Gates.{heights_of, seats_of, cells_of, gate_of, way_of}
use Rattle.seats.specs.declared.seat.Seat.{Seat}
use Rattle.seats.specs.Lawful.{lawful_open}
use Rattle.seats.specs.Places.{state_number, place_number}
use Rattle.steps.specs.declared.cells.Cell.TheVariants.{Pawns, Apply}
use Rattle.lock.specs.States.{BoxState, seat_at}
use Rattle.gate.proofs.Gates.{Gate}
use Rattle.relation.proofs.Views.{word_of, cells_at, marks_at, Ghost, stand_at, Occupies}

abbrev pub YetAt : Seat → ℕ → Type 0
YetAt s k = (state_number s.state ≡ 1) × ((s.height < k) ⊎ ((s.height ≡ k) × (place_number s.place ≡ 2)))

-- a promoter with the record s: its kept number was given out, and nobody who has yet to enter the kept way has it
pub record Late (b : BoxState) (p : ℕ) (s : Seat) : Type 0 where
  pub given : s.kept_number.0 < b.next
  pub apart : (q : ℕ) → q < seats_of b.ways → YetAt (seat_at b q) s.height → gate_of b.ways q s.height ≡ gate_of b.ways p s.height → way_of b.ways q s.height ≡ s.kept_way.0 → (seat_at b q).passage.0 ≢ s.kept_number.0

pub record Sized (b : BoxState) : Type 0 where
  pub few : 2 ≤ b.ways
  pub most : b.ways ≤ 4
  pub cells : cells_of b.ways ≤ length b.cells
  pub seats : seats_of b.ways ≤ length b.seats

-- a seat has handed over only while it gives the gate back
abbrev pub HandedFits : Seat → Type 0
HandedFits s = s.handed ≡ true → (state_number s.state ≡ 3) × (48 ≤ place_number s.place)

pub record Sound (b : BoxState) : Type 0 where
  pub sized : Sized b
  pub next : 1 ≤ b.next
  pub law : (p : ℕ) → p < seats_of b.ways → lawful_open b.ways (seat_at b p) ≡ true
  pub handed : (p : ℕ) → p < seats_of b.ways → HandedFits (seat_at b p)
  pub apart : (p q : ℕ) → p < seats_of b.ways → q < seats_of b.ways → state_number (seat_at b p).state ≢ 0 → state_number (seat_at b q).state ≢ 0 → (seat_at b p).passage.0 ≡ (seat_at b q).passage.0 → p ≡ q
  pub given : (p : ℕ) → p < seats_of b.ways → (seat_at b p).passage.0 < b.next
  pub late : (p : ℕ) → p < seats_of b.ways → place_number (seat_at b p).place ≡ 70 → Late b p (seat_at b p)

pub record Linked (b : BoxState) (G : Ghost) : Type 0 where
  pub owned : (p k : ℕ) → p < seats_of b.ways → 1 ≤ k → k < b.ways → Occupies b p k → G.owner (gate_of b.ways p k) (way_of b.ways p k) ≡ p + 1
  pub owns : (p k : ℕ) → p < seats_of b.ways → 1 ≤ k → k < b.ways → G.owner (gate_of b.ways p k) (way_of b.ways p k) ≡ p + 1 → Occupies b p k
  pub belongs : (p k j q : ℕ) → p < seats_of b.ways → 1 ≤ k → k < b.ways → j < b.ways → G.owner (gate_of b.ways p k) j ≡ q + 1 → (q < seats_of b.ways) × (gate_of b.ways q k ≡ gate_of b.ways p k) × (way_of b.ways q k ≡ j)

-- gate g of height k
pub record GateAt (b : BoxState) (G : Ghost) (k g : ℕ) : Type 0 where
  pub gate : Gate b.ways k (heights_of b.ways) (G.phase g) (cells_at b g) (stand_at b G k g) (marks_at b g)
  pub pawns : word_of b g Pawns < 2 ^ 64
  pub applies : (j : ℕ) → j < b.ways → word_of b g (Apply (record { 0 = j })) < 65536

pub record Related (b : BoxState) (G : Ghost) : Type 0 where
  pub sound : Sound b
  pub linked : Linked b G
  pub gates : (p k : ℕ) → p < seats_of b.ways → 1 ≤ k → k < b.ways → GateAt b G k (gate_of b.ways p k)

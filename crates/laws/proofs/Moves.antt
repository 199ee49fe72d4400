-- The moves of one gate: every step that is taken at it keeps what each phase says of the cells, of the way that takes
-- the step, and of the others. Assumes nothing.
--     Height       way i of a gate at height h
--     NAME_own     the move NAME, named by what its step does: the cells, and the way that takes it
--     NAME_others  the other ways, where the move changes the cells or the phase
--     after_NAME   the phase afterwards, where it changes
use Rattle.std.proofs.Common.{◌≡◌, ℕ, ◌+◌, ◌-◌, ◌<◌, ◌≤◌, cond, eqb, ◌≢◌, ◌⊎◌, inl, inr, arith}
use native.Mathlib.Decide.{ℕ_discrete}
use Rattle.laws.proofs.Phases.{Way, Cells, Phase, idle, solo, pair, clean, free, drain, prom, WayOk, CellsOk}

-- way i of a gate at height h
pub record Height (w h H i : ℕ) : Type 0 where
  pub low : 1 ≤ h
  pub high : h ≤ H
  pub most : H ≤ 3
  pub way : i < w

-- nobody stands past the clearing of Sync1 while king and queen are both there
not_in_pair : (w h H k q : ℕ) (c : Cells) (i : ℕ) (v : Way) → CellsOk w h H (pair k q) c → WayOk h H (pair k q) c i v → (v.stage ≡ 1) ⊎ (v.stage ≡ 3) → 59 ≤ v.place → v.place ≤ 68 → ⊥
not_in_pair w h H k q c i v co wo a p r = grind arith

-- who stands at 58 is king or queen, and the other one has closed
second_to_close : (w h H k q : ℕ) (c : Cells) (i : ℕ) (v : Way) → CellsOk w h H (pair k q) c → WayOk h H (pair k q) c i v → (v.stage ≡ 1) ⊎ (v.stage ≡ 3) → v.place ≡ 58 → ((i ≡ k) × (c.sync_two ≡ q + 1)) ⊎ ((i ≡ q) × (c.sync_two ≡ k + 1))
second_to_close w h H k q c i v co wo a p = grind arith

-- nobody is about to promote while somebody is promoted
not_in_prom : (w h H p : ℕ) (c : Cells) (i : ℕ) (v : Way) → CellsOk w h H (prom p) c → WayOk h H (prom p) c i v → (v.stage ≡ 1) ⊎ (v.stage ≡ 3) → v.place ≡ 65 → ⊥
not_in_prom w h H p c i v co wo a e = grind arith

-- the other of king and queen
abbrev other : ℕ → ℕ → ℕ → ℕ
other i k q = cond (eqb i k) q k

pub claim_apply_own : (w h H : ℕ) (s' : ℕ) (f : Phase) (c : Cells) (i : ℕ) (v : Way) → Height w h H i → CellsOk w h H f c → WayOk h H f c i v → v.stage ≡ 0 → 1 ≤ s' → CellsOk w h H f (c) × WayOk h H f (c) i (record { stage = 1; place = 5; passage = s'; aim = 0; scan = 0; noted = v.noted; kept_way = 0; kept_number = 0; applied = 1; number = s'; role = 0; listed = v.listed; listing = v.listing })
claim_apply_own w h H s' f c i v l co wo k0 k1 = (grind arith, grind arith)

abbrev after_become_king : ℕ → Phase → Phase
after_become_king i idle = (solo i)
after_become_king i (solo k) = (solo k)
after_become_king i (pair k q) = (pair k q)
after_become_king i (clean r a) = (clean r a)
after_become_king i (free r) = (free r)
after_become_king i (drain r) = (drain r)
after_become_king i (prom p) = (prom p)

pub become_king_own : (w h H : ℕ) (f : Phase) (c : Cells) (i : ℕ) (v : Way) → Height w h H i → CellsOk w h H f c → WayOk h H f c i v → v.stage ≡ 1 → v.place ≡ 5 → c.count ≡ 0 → CellsOk w h H (after_become_king i f) (record { count = 1; sync_one = c.sync_one; sync_two = c.sync_two }) × WayOk h H (after_become_king i f) (record { count = 1; sync_one = c.sync_one; sync_two = c.sync_two }) i (record { stage = v.stage; place = 16; passage = v.passage; aim = h; scan = v.scan; noted = v.noted; kept_way = v.kept_way; kept_number = v.kept_number; applied = v.applied; number = v.number; role = 1; listed = v.listed; listing = v.listing })
become_king_own w h H f c i v l co wo k0 k1 k2 = (grind arith, grind arith)

pub become_king_others : (w h H : ℕ) (f : Phase) (c : Cells) (i j : ℕ) (v u : Way) → Height w h H i → j < w → j ≢ i → CellsOk w h H f c → WayOk h H f c i v → WayOk h H f c j u → v.stage ≡ 1 → v.place ≡ 5 → c.count ≡ 0 → WayOk h H (after_become_king i f) (record { count = 1; sync_one = c.sync_one; sync_two = c.sync_two }) j (u)
become_king_others w h H f c i j v u l m n co wo uo k0 k1 k2 = grind arith

abbrev after_become_queen : ℕ → Phase → Phase
after_become_queen i idle = idle
after_become_queen i (solo k) = (pair k i)
after_become_queen i (pair k q) = (pair k q)
after_become_queen i (clean r a) = (clean r a)
after_become_queen i (free r) = (free r)
after_become_queen i (drain r) = (drain r)
after_become_queen i (prom p) = (prom p)

pub become_queen_own : (w h H : ℕ) (f : Phase) (c : Cells) (i : ℕ) (v : Way) → Height w h H i → CellsOk w h H f c → WayOk h H f c i v → v.stage ≡ 1 → v.place ≡ 5 → c.count ≡ 1 → CellsOk w h H (after_become_queen i f) (record { count = 2; sync_one = c.sync_one; sync_two = c.sync_two }) × WayOk h H (after_become_queen i f) (record { count = 2; sync_one = c.sync_one; sync_two = c.sync_two }) i (record { stage = v.stage; place = 14; passage = v.passage; aim = v.aim; scan = v.scan; noted = v.noted; kept_way = v.kept_way; kept_number = v.kept_number; applied = v.applied; number = v.number; role = 2; listed = v.listed; listing = v.listing })
become_queen_own w h H f c i v l co wo k0 k1 k2 = (grind arith, grind arith)

pub become_queen_others : (w h H : ℕ) (f : Phase) (c : Cells) (i j : ℕ) (v u : Way) → Height w h H i → j < w → j ≢ i → CellsOk w h H f c → WayOk h H f c i v → WayOk h H f c j u → v.stage ≡ 1 → v.place ≡ 5 → c.count ≡ 1 → WayOk h H (after_become_queen i f) (record { count = 2; sync_one = c.sync_one; sync_two = c.sync_two }) j (u)
become_queen_others w h H f c i j v u l m n co wo uo k0 k1 k2 = grind arith

pub become_pawn_own : (w h H : ℕ) (f : Phase) (c : Cells) (i : ℕ) (v : Way) → Height w h H i → CellsOk w h H f c → WayOk h H f c i v → v.stage ≡ 1 → v.place ≡ 5 → c.count ≡ 2 → CellsOk w h H f (c) × WayOk h H f (c) i (record { stage = v.stage; place = 7; passage = v.passage; aim = v.aim; scan = v.scan; noted = v.noted; kept_way = v.kept_way; kept_number = v.kept_number; applied = v.applied; number = v.number; role = 3; listed = v.listed; listing = v.listing })
become_pawn_own w h H f c i v l co wo k0 k1 k2 = (grind arith, grind arith)

pub see_promotion_own : (w h H : ℕ) (f : Phase) (c : Cells) (i : ℕ) (v : Way) → Height w h H i → CellsOk w h H f c → WayOk h H f c i v → v.stage ≡ 1 → v.place ≡ 7 → v.applied ≡ 2 → v.number ≡ v.passage → CellsOk w h H f (c) × WayOk h H f (c) i (record { stage = v.stage; place = 16; passage = v.passage; aim = h; scan = v.scan; noted = v.noted; kept_way = v.kept_way; kept_number = v.kept_number; applied = v.applied; number = v.number; role = 4; listed = v.listed; listing = v.listing })
see_promotion_own w h H f c i v l co wo k0 k1 k2 k3 = (grind arith, grind arith)

pub not_promoted_own : (w h H : ℕ) (f : Phase) (c : Cells) (i : ℕ) (v : Way) → Height w h H i → CellsOk w h H f c → WayOk h H f c i v → v.stage ≡ 1 → v.place ≡ 7 → (v.applied ≡ 1) → CellsOk w h H f (c) × WayOk h H f (c) i (record { stage = v.stage; place = 8; passage = v.passage; aim = v.aim; scan = v.scan; noted = v.noted; kept_way = v.kept_way; kept_number = v.kept_number; applied = v.applied; number = v.number; role = v.role; listed = v.listed; listing = v.listing })
not_promoted_own w h H f c i v l co wo k0 k1 k2 = (grind arith, grind arith)

pub still_taken_own : (w h H : ℕ) (f : Phase) (c : Cells) (i : ℕ) (v : Way) → Height w h H i → CellsOk w h H f c → WayOk h H f c i v → v.stage ≡ 1 → v.place ≡ 8 → c.count ≡ 2 → CellsOk w h H f (c) × WayOk h H f (c) i (record { stage = v.stage; place = 7; passage = v.passage; aim = v.aim; scan = v.scan; noted = v.noted; kept_way = v.kept_way; kept_number = v.kept_number; applied = v.applied; number = v.number; role = v.role; listed = v.listed; listing = v.listing })
still_taken_own w h H f c i v l co wo k0 k1 k2 = (grind arith, grind arith)

pub race_again_own : (w h H : ℕ) (f : Phase) (c : Cells) (i : ℕ) (v : Way) → Height w h H i → CellsOk w h H f c → WayOk h H f c i v → v.stage ≡ 1 → v.place ≡ 8 → c.count ≢ 2 → CellsOk w h H f (c) × WayOk h H f (c) i (record { stage = v.stage; place = 5; passage = v.passage; aim = v.aim; scan = v.scan; noted = v.noted; kept_way = v.kept_way; kept_number = v.kept_number; applied = v.applied; number = v.number; role = v.role; listed = v.listed; listing = v.listing })
race_again_own w h H f c i v l co wo k0 k1 k2 = (grind arith, grind arith)

pub read_hand_over_own : (w h H : ℕ) (f : Phase) (c : Cells) (i : ℕ) (v : Way) → Height w h H i → CellsOk w h H f c → WayOk h H f c i v → v.stage ≡ 1 → v.place ≡ 14 → c.sync_one ≢ 0 → CellsOk w h H f (c) × WayOk h H f (c) i (record { stage = v.stage; place = 16; passage = v.passage; aim = c.sync_one; scan = v.scan; noted = v.noted; kept_way = v.kept_way; kept_number = v.kept_number; applied = v.applied; number = v.number; role = v.role; listed = v.listed; listing = v.listing })
read_hand_over_own w h H f c i v l co wo k0 k1 k2 = (grind arith, grind arith)

pub capture_own : (w h H : ℕ) (pl' : ℕ) (f : Phase) (c : Cells) (i : ℕ) (v : Way) → Height w h H i → CellsOk w h H f c → WayOk h H f c i v → v.stage ≡ 1 → v.place ≡ 16 → CellsOk w h H f (c) × WayOk h H f (c) i (record { stage = 2; place = pl'; passage = v.passage; aim = v.aim; scan = v.scan; noted = v.noted; kept_way = v.kept_way; kept_number = v.kept_number; applied = 2; number = v.number; role = v.role; listed = v.listed; listing = v.listing })
capture_own w h H pl' f c i v l co wo k0 k1 = (grind arith, grind arith)

pub give_up_own : (w h H : ℕ) (f : Phase) (c : Cells) (i : ℕ) (v : Way) → Height w h H i → CellsOk w h H f c → WayOk h H f c i v → v.stage ≡ 1 → ((v.place ≡ 14) ⊎ ((5 ≤ v.place) × (v.place ≤ 8))) → CellsOk w h H f (c) × WayOk h H f (c) i (record { stage = v.stage; place = 19; passage = v.passage; aim = v.aim; scan = v.scan; noted = v.noted; kept_way = v.kept_way; kept_number = v.kept_number; applied = v.applied; number = v.number; role = v.role; listed = v.listed; listing = v.listing })
give_up_own w h H idle c i v l co wo k0 k1 = (grind arith, grind arith)
give_up_own w h H (solo k) c i v l co wo k0 k1 = (grind arith, grind arith)
give_up_own w h H (pair k q) c i v l co wo k0 k1 = (grind arith, grind arith)
give_up_own w h H (clean r a) c i v l co wo k0 k1 = (grind arith, grind arith)
give_up_own w h H (free r) c i v l co wo k0 k1 = (grind arith, grind arith)
give_up_own w h H (drain r) c i v l co wo k0 k1 = (grind arith, grind arith)
give_up_own w h H (prom p) c i v l co wo k0 k1 = (grind arith, grind arith)

pub close_queen_own : (w h H : ℕ) (f : Phase) (c : Cells) (i : ℕ) (v : Way) → Height w h H i → CellsOk w h H f c → WayOk h H f c i v → v.stage ≡ 1 → v.place ≡ 19 → v.role ≡ 2 → CellsOk w h H f (c) × WayOk h H f (c) i (record { stage = v.stage; place = 26; passage = v.passage; aim = v.aim; scan = v.scan; noted = v.noted; kept_way = v.kept_way; kept_number = v.kept_number; applied = 2; number = v.number; role = v.role; listed = v.listed; listing = v.listing })
close_queen_own w h H f c i v l co wo k0 k1 k2 = (grind arith, grind arith)

pub close_pawn_own : (w h H : ℕ) (f : Phase) (c : Cells) (i : ℕ) (v : Way) → Height w h H i → CellsOk w h H f c → WayOk h H f c i v → v.stage ≡ 1 → v.place ≡ 19 → v.role ≢ 2 → CellsOk w h H f (c) × WayOk h H f (c) i (record { stage = v.stage; place = 21; passage = v.passage; aim = v.aim; scan = v.scan; noted = v.noted; kept_way = v.kept_way; kept_number = v.kept_number; applied = 2; number = v.number; role = v.role; listed = v.listed; listing = v.listing })
close_pawn_own w h H f c i v l co wo k0 k1 k2 = (grind arith, grind arith)

pub abort_pawn_own : (w h H : ℕ) (f : Phase) (c : Cells) (i : ℕ) (v : Way) → Height w h H i → CellsOk w h H f c → WayOk h H f c i v → v.stage ≡ 1 → v.place ≡ 21 → v.listed ≢ 2 → CellsOk w h H f (c) × WayOk h H f (c) i (record { stage = v.stage; place = 32; passage = v.passage; aim = v.aim; scan = v.scan; noted = v.noted; kept_way = v.kept_way; kept_number = v.kept_number; applied = v.applied; number = v.number; role = v.role; listed = 3; listing = v.passage })
abort_pawn_own w h H f c i v l co wo k0 k1 k2 = (grind arith, grind arith)

pub abort_late_own : (w h H : ℕ) (pl' : ℕ) (f : Phase) (c : Cells) (i : ℕ) (v : Way) → Height w h H i → CellsOk w h H f c → WayOk h H f c i v → v.stage ≡ 1 → v.place ≡ 21 → v.listed ≡ 2 → CellsOk w h H f (c) × WayOk h H f (c) i (record { stage = 2; place = pl'; passage = v.passage; aim = h; scan = v.scan; noted = v.noted; kept_way = v.kept_way; kept_number = v.kept_number; applied = v.applied; number = v.number; role = 4; listed = v.listed; listing = v.listing })
abort_late_own w h H pl' f c i v l co wo k0 k1 k2 = (grind arith, grind arith)

pub abort_queen_own : (w h H : ℕ) (f : Phase) (c : Cells) (i : ℕ) (v : Way) → Height w h H i → CellsOk w h H f c → WayOk h H f c i v → v.stage ≡ 1 → v.place ≡ 26 → c.sync_one ≡ 0 → CellsOk w h H f (record { count = c.count; sync_one = 15; sync_two = c.sync_two }) × WayOk h H f (record { count = c.count; sync_one = 15; sync_two = c.sync_two }) i (record { stage = v.stage; place = 52; passage = v.passage; aim = v.aim; scan = 0; noted = v.noted; kept_way = v.kept_way; kept_number = v.kept_number; applied = v.applied; number = v.number; role = v.role; listed = v.listed; listing = v.listing })
abort_queen_own w h H f c i v l co wo k0 k1 k2 = (grind arith, grind arith)

pub abort_queen_others : (w h H : ℕ) (f : Phase) (c : Cells) (i j : ℕ) (v u : Way) → Height w h H i → j < w → j ≢ i → CellsOk w h H f c → WayOk h H f c i v → WayOk h H f c j u → v.stage ≡ 1 → v.place ≡ 26 → c.sync_one ≡ 0 → WayOk h H f (record { count = c.count; sync_one = 15; sync_two = c.sync_two }) j (u)
abort_queen_others w h H f c i j v u l m n co wo uo k0 k1 k2 = grind arith

pub already_handed_own : (w h H : ℕ) (f : Phase) (c : Cells) (i : ℕ) (v : Way) → Height w h H i → CellsOk w h H f c → WayOk h H f c i v → v.stage ≡ 1 → v.place ≡ 26 → c.sync_one ≢ 0 → CellsOk w h H f (c) × WayOk h H f (c) i (record { stage = v.stage; place = 27; passage = v.passage; aim = v.aim; scan = v.scan; noted = v.noted; kept_way = v.kept_way; kept_number = v.kept_number; applied = v.applied; number = v.number; role = v.role; listed = v.listed; listing = v.listing })
already_handed_own w h H f c i v l co wo k0 k1 k2 = (grind arith, grind arith)

pub accept_gate_own : (w h H : ℕ) (pl' : ℕ) (f : Phase) (c : Cells) (i : ℕ) (v : Way) → Height w h H i → CellsOk w h H f c → WayOk h H f c i v → v.stage ≡ 1 → v.place ≡ 27 → CellsOk w h H f (c) × WayOk h H f (c) i (record { stage = 2; place = pl'; passage = v.passage; aim = c.sync_one; scan = v.scan; noted = v.noted; kept_way = v.kept_way; kept_number = v.kept_number; applied = v.applied; number = v.number; role = v.role; listed = v.listed; listing = v.listing })
accept_gate_own w h H pl' f c i v l co wo k0 k1 = (grind arith, grind arith)

pub withdraw_apply_own : (w h H : ℕ) (f : Phase) (c : Cells) (i : ℕ) (v : Way) → Height w h H i → CellsOk w h H f c → WayOk h H f c i v → v.stage ≡ 1 → v.place ≡ 32 → CellsOk w h H f (c) × WayOk h H f (c) i (record { stage = 0; place = v.place; passage = v.passage; aim = v.aim; scan = v.scan; noted = v.noted; kept_way = v.kept_way; kept_number = v.kept_number; applied = 0; number = 0; role = v.role; listed = v.listed; listing = v.listing })
withdraw_apply_own w h H f c i v l co wo k0 k1 = (grind arith, grind arith)

pub begin_release_own : (w h H : ℕ) (f : Phase) (c : Cells) (i : ℕ) (v : Way) → Height w h H i → CellsOk w h H f c → WayOk h H f c i v → v.stage ≡ 2 → CellsOk w h H f (c) × WayOk h H f (c) i (record { stage = 3; place = 35; passage = v.passage; aim = v.aim; scan = v.scan; noted = v.noted; kept_way = v.kept_way; kept_number = v.kept_number; applied = v.applied; number = v.number; role = v.role; listed = v.listed; listing = v.listing })
begin_release_own w h H f c i v l co wo k0 = (grind arith, grind arith)

pub stay_inside_own : (w h H : ℕ) (s' pl' : ℕ) (f : Phase) (c : Cells) (i : ℕ) (v : Way) → Height w h H i → CellsOk w h H f c → WayOk h H f c i v → v.stage ≡ 2 → CellsOk w h H f (c) × WayOk h H f (c) i (record { stage = v.stage; place = pl'; passage = s'; aim = v.aim; scan = v.scan; noted = v.noted; kept_way = v.kept_way; kept_number = v.kept_number; applied = v.applied; number = v.number; role = v.role; listed = v.listed; listing = v.listing })
stay_inside_own w h H s' pl' f c i v l co wo k0 = (grind arith, grind arith)

pub release_king_own : (w h H : ℕ) (f : Phase) (c : Cells) (i : ℕ) (v : Way) → Height w h H i → CellsOk w h H f c → WayOk h H f c i v → v.stage ≡ 3 → v.place ≡ 35 → v.role ≡ 1 → CellsOk w h H f (c) × WayOk h H f (c) i (record { stage = v.stage; place = 36; passage = v.passage; aim = v.aim; scan = v.scan; noted = v.noted; kept_way = v.kept_way; kept_number = v.kept_number; applied = v.applied; number = v.number; role = v.role; listed = v.listed; listing = v.listing })
release_king_own w h H f c i v l co wo k0 k1 k2 = (grind arith, grind arith)

pub release_queen_own : (w h H : ℕ) (f : Phase) (c : Cells) (i : ℕ) (v : Way) → Height w h H i → CellsOk w h H f c → WayOk h H f c i v → v.stage ≡ 3 → v.place ≡ 35 → v.role ≡ 2 → CellsOk w h H f (c) × WayOk h H f (c) i (record { stage = v.stage; place = 56; passage = v.passage; aim = v.aim; scan = v.scan; noted = v.noted; kept_way = v.kept_way; kept_number = v.kept_number; applied = v.applied; number = v.number; role = v.role; listed = v.listed; listing = v.listing })
release_queen_own w h H f c i v l co wo k0 k1 k2 = (grind arith, grind arith)

pub release_pawn_own : (w h H : ℕ) (f : Phase) (c : Cells) (i : ℕ) (v : Way) → Height w h H i → CellsOk w h H f c → WayOk h H f c i v → v.stage ≡ 3 → v.place ≡ 35 → v.role ≡ 4 → CellsOk w h H f (c) × WayOk h H f (c) i (record { stage = v.stage; place = 64; passage = v.passage; aim = v.aim; scan = v.scan; noted = v.noted; kept_way = v.kept_way; kept_number = v.kept_number; applied = v.applied; number = v.number; role = v.role; listed = v.listed; listing = v.listing })
release_pawn_own w h H f c i v l co wo k0 k1 k2 = (grind arith, grind arith)

abbrev after_open_alone : ℕ → Phase → Phase
after_open_alone i idle = idle
after_open_alone i (solo k) = idle
after_open_alone i (pair k q) = (pair k q)
after_open_alone i (clean r a) = (clean r a)
after_open_alone i (free r) = (free r)
after_open_alone i (drain r) = (drain r)
after_open_alone i (prom p) = (prom p)

pub open_alone_own : (w h H : ℕ) (f : Phase) (c : Cells) (i : ℕ) (v : Way) → Height w h H i → CellsOk w h H f c → WayOk h H f c i v → v.stage ≡ 3 → v.place ≡ 36 → c.count ≡ 1 → CellsOk w h H (after_open_alone i f) (record { count = 0; sync_one = c.sync_one; sync_two = c.sync_two }) × WayOk h H (after_open_alone i f) (record { count = 0; sync_one = c.sync_one; sync_two = c.sync_two }) i (record { stage = v.stage; place = 48; passage = v.passage; aim = v.aim; scan = v.scan; noted = v.noted; kept_way = v.kept_way; kept_number = v.kept_number; applied = v.applied; number = v.number; role = v.role; listed = v.listed; listing = v.listing })
open_alone_own w h H f c i v l co wo k0 k1 k2 = (grind arith, grind arith)

pub open_alone_others : (w h H : ℕ) (f : Phase) (c : Cells) (i j : ℕ) (v u : Way) → Height w h H i → j < w → j ≢ i → CellsOk w h H f c → WayOk h H f c i v → WayOk h H f c j u → v.stage ≡ 3 → v.place ≡ 36 → c.count ≡ 1 → WayOk h H (after_open_alone i f) (record { count = 0; sync_one = c.sync_one; sync_two = c.sync_two }) j (u)
open_alone_others w h H f c i j v u l m n co wo uo k0 k1 k2 = grind arith

pub has_queen_own : (w h H : ℕ) (f : Phase) (c : Cells) (i : ℕ) (v : Way) → Height w h H i → CellsOk w h H f c → WayOk h H f c i v → v.stage ≡ 3 → v.place ≡ 36 → c.count ≢ 1 → CellsOk w h H f (c) × WayOk h H f (c) i (record { stage = v.stage; place = 37; passage = v.passage; aim = v.aim; scan = v.scan; noted = v.noted; kept_way = v.kept_way; kept_number = v.kept_number; applied = v.applied; number = v.number; role = v.role; listed = v.listed; listing = v.listing })
has_queen_own w h H f c i v l co wo k0 k1 k2 = (grind arith, grind arith)

pub hand_over_own : (w h H : ℕ) (top : ℕ) (f : Phase) (c : Cells) (i : ℕ) (v : Way) → Height w h H i → CellsOk w h H f c → WayOk h H f c i v → v.stage ≡ 3 → v.place ≡ 37 → c.sync_one ≡ 0 → h ≤ top → top ≤ H → CellsOk w h H f (record { count = c.count; sync_one = top; sync_two = c.sync_two }) × WayOk h H f (record { count = c.count; sync_one = top; sync_two = c.sync_two }) i (record { stage = v.stage; place = 52; passage = v.passage; aim = v.aim; scan = 0; noted = v.noted; kept_way = v.kept_way; kept_number = v.kept_number; applied = v.applied; number = v.number; role = v.role; listed = v.listed; listing = v.listing })
hand_over_own w h H top f c i v l co wo k0 k1 k2 k3 k4 = (grind arith, grind arith)

pub hand_over_others : (w h H : ℕ) (top : ℕ) (f : Phase) (c : Cells) (i j : ℕ) (v u : Way) → Height w h H i → j < w → j ≢ i → CellsOk w h H f c → WayOk h H f c i v → WayOk h H f c j u → v.stage ≡ 3 → v.place ≡ 37 → c.sync_one ≡ 0 → h ≤ top → top ≤ H → WayOk h H f (record { count = c.count; sync_one = top; sync_two = c.sync_two }) j (u)
hand_over_others w h H top f c i j v u l m n co wo uo k0 k1 k2 k3 k4 = grind arith

pub no_hand_over_own : (w h H : ℕ) (f : Phase) (c : Cells) (i : ℕ) (v : Way) → Height w h H i → CellsOk w h H f c → WayOk h H f c i v → v.stage ≡ 3 → v.place ≡ 37 → c.sync_one ≢ 0 → CellsOk w h H f (c) × WayOk h H f (c) i (record { stage = v.stage; place = 56; passage = v.passage; aim = v.aim; scan = v.scan; noted = v.noted; kept_way = v.kept_way; kept_number = v.kept_number; applied = v.applied; number = v.number; role = v.role; listed = v.listed; listing = v.listing })
no_hand_over_own w h H f c i v l co wo k0 k1 k2 = (grind arith, grind arith)

pub read_apply_own : (w h H : ℕ) (f : Phase) (c : Cells) (i : ℕ) (v : Way) → Height w h H i → CellsOk w h H f c → WayOk h H f c i v → v.stage ≡ 3 → v.place ≡ 48 → CellsOk w h H f (c) × WayOk h H f (c) i (record { stage = v.stage; place = 49; passage = v.passage; aim = v.aim; scan = v.scan; noted = v.noted; kept_way = v.kept_way; kept_number = v.number; applied = v.applied; number = v.number; role = v.role; listed = v.listed; listing = v.listing })
read_apply_own w h H f c i v l co wo k0 k1 = (grind arith, grind arith)

pub clear_apply_own : (w h H : ℕ) (f : Phase) (c : Cells) (i : ℕ) (v : Way) → Height w h H i → CellsOk w h H f c → WayOk h H f c i v → v.stage ≡ 3 → v.place ≡ 49 → CellsOk w h H f (c) × WayOk h H f (c) i (record { stage = 0; place = v.place; passage = v.passage; aim = v.aim; scan = v.scan; noted = v.noted; kept_way = v.kept_way; kept_number = v.kept_number; applied = 0; number = 0; role = v.role; listed = v.listed; listing = v.listing })
clear_apply_own w h H f c i v l co wo k0 k1 = (grind arith, grind arith)

pub scan_apply_own : (w h H : ℕ) (pl' sc' : ℕ) (nt' : ℕ → ℕ) (f : Phase) (c : Cells) (i : ℕ) (v : Way) → Height w h H i → CellsOk w h H f c → WayOk h H f c i v → ((v.stage ≡ 1) ⊎ (v.stage ≡ 3)) → v.place ≡ 52 → ((pl' ≡ 52) ⊎ (pl' ≡ 55)) → CellsOk w h H f (c) × WayOk h H f (c) i (record { stage = v.stage; place = pl'; passage = v.passage; aim = v.aim; scan = sc'; noted = nt'; kept_way = v.kept_way; kept_number = v.kept_number; applied = v.applied; number = v.number; role = v.role; listed = v.listed; listing = v.listing })
scan_apply_own w h H pl' sc' nt' idle c i v l co wo k0 k1 k2 = (grind arith, grind arith)
scan_apply_own w h H pl' sc' nt' (solo k) c i v l co wo k0 k1 k2 = (grind arith, grind arith)
scan_apply_own w h H pl' sc' nt' (pair k q) c i v l co wo k0 k1 k2 = (grind arith, grind arith)
scan_apply_own w h H pl' sc' nt' (clean r a) c i v l co wo k0 k1 k2 = (grind arith, grind arith)
scan_apply_own w h H pl' sc' nt' (free r) c i v l co wo k0 k1 k2 = (grind arith, grind arith)
scan_apply_own w h H pl' sc' nt' (drain r) c i v l co wo k0 k1 k2 = (grind arith, grind arith)
scan_apply_own w h H pl' sc' nt' (prom p) c i v l co wo k0 k1 k2 = (grind arith, grind arith)

pub close_first_own : (w h H : ℕ) (close : ℕ) (f : Phase) (c : Cells) (i : ℕ) (v : Way) → Height w h H i → CellsOk w h H f c → WayOk h H f c i v → ((v.stage ≡ 1) ⊎ (v.stage ≡ 3)) → v.place ≡ 56 → c.sync_two ≡ 0 → (close ≡ 32 ⊎ close ≡ 48) → ((v.stage ≡ 1 → close ≡ 32)) → ((v.stage ≡ 3 → close ≡ 48)) → CellsOk w h H f (record { count = c.count; sync_one = c.sync_one; sync_two = i + 1 }) × WayOk h H f (record { count = c.count; sync_one = c.sync_one; sync_two = i + 1 }) i (record { stage = v.stage; place = close; passage = v.passage; aim = v.aim; scan = v.scan; noted = v.noted; kept_way = v.kept_way; kept_number = v.kept_number; applied = v.applied; number = v.number; role = v.role; listed = v.listed; listing = v.listing })
close_first_own w h H close f c i v l co wo k0 k1 k2 k3 k4 k5 = (grind arith, grind arith)

pub close_first_others : (w h H : ℕ) (close : ℕ) (f : Phase) (c : Cells) (i j : ℕ) (v u : Way) → Height w h H i → j < w → j ≢ i → CellsOk w h H f c → WayOk h H f c i v → WayOk h H f c j u → ((v.stage ≡ 1) ⊎ (v.stage ≡ 3)) → v.place ≡ 56 → c.sync_two ≡ 0 → (close ≡ 32 ⊎ close ≡ 48) → ((v.stage ≡ 1 → close ≡ 32)) → ((v.stage ≡ 3 → close ≡ 48)) → WayOk h H f (record { count = c.count; sync_one = c.sync_one; sync_two = i + 1 }) j (u)
close_first_others w h H close f c i j v u l m n co wo uo k0 k1 k2 k3 k4 k5 = grind arith

pub come_second_own : (w h H : ℕ) (f : Phase) (c : Cells) (i : ℕ) (v : Way) → Height w h H i → CellsOk w h H f c → WayOk h H f c i v → ((v.stage ≡ 1) ⊎ (v.stage ≡ 3)) → v.place ≡ 56 → c.sync_two ≢ 0 → CellsOk w h H f (c) × WayOk h H f (c) i (record { stage = v.stage; place = 58; passage = v.passage; aim = v.aim; scan = v.scan; noted = v.noted; kept_way = v.kept_way; kept_number = v.kept_number; applied = v.applied; number = v.number; role = v.role; listed = v.listed; listing = v.listing })
come_second_own w h H f c i v l co wo k0 k1 k2 = (grind arith, grind arith)

abbrev after_clear_sync_one : ℕ → Phase → Phase
after_clear_sync_one i idle = idle
after_clear_sync_one i (solo k) = (solo k)
after_clear_sync_one i (pair k q) = (clean i (other i k q))
after_clear_sync_one i (clean r a) = (clean r a)
after_clear_sync_one i (free r) = (free r)
after_clear_sync_one i (drain r) = (drain r)
after_clear_sync_one i (prom p) = (prom p)

pub clear_sync_one_own : (w h H : ℕ) (f : Phase) (c : Cells) (i : ℕ) (v : Way) → Height w h H i → CellsOk w h H f c → WayOk h H f c i v → ((v.stage ≡ 1) ⊎ (v.stage ≡ 3)) → v.place ≡ 58 → CellsOk w h H (after_clear_sync_one i f) (record { count = c.count; sync_one = 0; sync_two = c.sync_two }) × WayOk h H (after_clear_sync_one i f) (record { count = c.count; sync_one = 0; sync_two = c.sync_two }) i (record { stage = v.stage; place = 59; passage = v.passage; aim = v.aim; scan = v.scan; noted = v.noted; kept_way = v.kept_way; kept_number = v.kept_number; applied = v.applied; number = v.number; role = v.role; listed = v.listed; listing = v.listing })
clear_sync_one_own w h H f c i v l co wo k0 k1 = (grind arith, grind arith)

pub clear_sync_one_others : (w h H : ℕ) (f : Phase) (c : Cells) (i j : ℕ) (v u : Way) → Height w h H i → j < w → j ≢ i → CellsOk w h H f c → WayOk h H f c i v → WayOk h H f c j u → ((v.stage ≡ 1) ⊎ (v.stage ≡ 3)) → v.place ≡ 58 → WayOk h H (after_clear_sync_one i f) (record { count = c.count; sync_one = 0; sync_two = c.sync_two }) j (u)
clear_sync_one_others w h H idle c i j v u l m n co wo uo k0 k1 = grind arith
clear_sync_one_others w h H (solo k) c i j v u l m n co wo uo k0 k1 = grind arith
clear_sync_one_others w h H (pair k q) c i j v u l m n co wo uo k0 k1 = elim (second_to_close w h H k q c i v co wo k0 k1) [ inl y ↦ grind arith | inr y ↦ grind arith ]
clear_sync_one_others w h H (clean r a) c i j v u l m n co wo uo k0 k1 = grind arith
clear_sync_one_others w h H (free r) c i j v u l m n co wo uo k0 k1 = grind arith
clear_sync_one_others w h H (drain r) c i j v u l m n co wo uo k0 k1 = grind arith
clear_sync_one_others w h H (prom p) c i j v u l m n co wo uo k0 k1 = grind arith

pub read_sync_two_own : (w h H : ℕ) (f : Phase) (c : Cells) (i : ℕ) (v : Way) → Height w h H i → CellsOk w h H f c → WayOk h H f c i v → ((v.stage ≡ 1) ⊎ (v.stage ≡ 3)) → v.place ≡ 59 → CellsOk w h H f (c) × WayOk h H f (c) i (record { stage = v.stage; place = 60; passage = v.passage; aim = v.aim; scan = v.scan; noted = v.noted; kept_way = c.sync_two - 1; kept_number = v.kept_number; applied = v.applied; number = v.number; role = v.role; listed = v.listed; listing = v.listing })
read_sync_two_own w h H f c i v l co wo k0 k1 = (grind arith, grind arith)

pub clear_sync_two_own : (w h H : ℕ) (f : Phase) (c : Cells) (i : ℕ) (v : Way) → Height w h H i → CellsOk w h H f c → WayOk h H f c i v → ((v.stage ≡ 1) ⊎ (v.stage ≡ 3)) → v.place ≡ 60 → CellsOk w h H f (record { count = c.count; sync_one = c.sync_one; sync_two = 0 }) × WayOk h H f (record { count = c.count; sync_one = c.sync_one; sync_two = 0 }) i (record { stage = v.stage; place = 61; passage = v.passage; aim = v.aim; scan = v.scan; noted = v.noted; kept_way = v.kept_way; kept_number = v.kept_number; applied = v.applied; number = v.number; role = v.role; listed = v.listed; listing = v.listing })
clear_sync_two_own w h H f c i v l co wo k0 k1 = (grind arith, grind arith)

pub clear_sync_two_others : (w h H : ℕ) (f : Phase) (c : Cells) (i j : ℕ) (v u : Way) → Height w h H i → j < w → j ≢ i → CellsOk w h H f c → WayOk h H f c i v → WayOk h H f c j u → ((v.stage ≡ 1) ⊎ (v.stage ≡ 3)) → v.place ≡ 60 → WayOk h H f (record { count = c.count; sync_one = c.sync_one; sync_two = 0 }) j (u)
clear_sync_two_others w h H f c i j v u l m n co wo uo k0 k1 = grind arith

abbrev after_strike_out : ℕ → Phase → Phase
after_strike_out i idle = idle
after_strike_out i (solo k) = (solo k)
after_strike_out i (pair k q) = (pair k q)
after_strike_out i (clean r a) = (free i)
after_strike_out i (free r) = (free r)
after_strike_out i (drain r) = (drain r)
after_strike_out i (prom p) = (prom p)

pub strike_out_own : (w h H : ℕ) (f : Phase) (c : Cells) (i : ℕ) (v : Way) → Height w h H i → CellsOk w h H f c → WayOk h H f c i v → ((v.stage ≡ 1) ⊎ (v.stage ≡ 3)) → v.place ≡ 61 → CellsOk w h H (after_strike_out i f) (c) × WayOk h H (after_strike_out i f) (c) i (record { stage = v.stage; place = 64; passage = v.passage; aim = v.aim; scan = v.scan; noted = v.noted; kept_way = v.kept_way; kept_number = v.kept_number; applied = v.applied; number = v.number; role = v.role; listed = v.listed; listing = v.listing })
strike_out_own w h H f c i v l co wo k0 k1 = (grind arith, grind arith)

pub strike_out_others : (w h H : ℕ) (ps' : ℕ) (f : Phase) (c : Cells) (i j : ℕ) (v u : Way) → Height w h H i → j < w → j ≢ i → CellsOk w h H f c → WayOk h H f c i v → WayOk h H f c j u → ((v.stage ≡ 1) ⊎ (v.stage ≡ 3)) → v.place ≡ 61 → (j ≡ v.kept_way → ps' ≡ 3) → (j ≢ v.kept_way → ps' ≡ u.listed) → WayOk h H (after_strike_out i f) (c) j (record { stage = u.stage; place = u.place; passage = u.passage; aim = u.aim; scan = u.scan; noted = u.noted; kept_way = u.kept_way; kept_number = u.kept_number; applied = u.applied; number = u.number; role = u.role; listed = ps'; listing = u.listing })
strike_out_others w h H ps' idle c i j v u l m n co wo uo k0 k1 z₁ z₂ = grind arith
strike_out_others w h H ps' (solo k) c i j v u l m n co wo uo k0 k1 z₁ z₂ = grind arith
strike_out_others w h H ps' (pair k q) c i j v u l m n co wo uo k0 k1 z₁ z₂ = absurd (not_in_pair w h H k q c i v co wo k0 (omega arith) (omega arith))
strike_out_others w h H ps' (clean r a) c i j v u l m n co wo uo k0 k1 z₁ z₂ = grind arith
strike_out_others w h H ps' (free r) c i j v u l m n co wo uo k0 k1 z₁ z₂ = grind arith
strike_out_others w h H ps' (drain r) c i j v u l m n co wo uo k0 k1 z₁ z₂ = grind arith
strike_out_others w h H ps' (prom p) c i j v u l m n co wo uo k0 k1 z₁ z₂ = grind arith

abbrev after_strike_self : ℕ → Phase → Phase
after_strike_self i idle = idle
after_strike_self i (solo k) = (solo k)
after_strike_self i (pair k q) = (pair k q)
after_strike_self i (clean r a) = (clean r a)
after_strike_self i (free r) = (free r)
after_strike_self i (drain r) = (drain r)
after_strike_self i (prom p) = (free i)

pub strike_self_own : (w h H : ℕ) (f : Phase) (c : Cells) (i : ℕ) (v : Way) → Height w h H i → CellsOk w h H f c → WayOk h H f c i v → ((v.stage ≡ 1) ⊎ (v.stage ≡ 3)) → v.place ≡ 64 → CellsOk w h H (after_strike_self i f) (c) × WayOk h H (after_strike_self i f) (c) i (record { stage = v.stage; place = 65; passage = v.passage; aim = v.aim; scan = v.scan; noted = v.noted; kept_way = v.kept_way; kept_number = v.kept_number; applied = v.applied; number = v.number; role = v.role; listed = 3; listing = v.listing })
strike_self_own w h H f c i v l co wo k0 k1 = (grind arith, grind arith)

pub strike_self_others : (w h H : ℕ) (f : Phase) (c : Cells) (i j : ℕ) (v u : Way) → Height w h H i → j < w → j ≢ i → CellsOk w h H f c → WayOk h H f c i v → WayOk h H f c j u → ((v.stage ≡ 1) ⊎ (v.stage ≡ 3)) → v.place ≡ 64 → WayOk h H (after_strike_self i f) (c) j (u)
strike_self_others w h H f c i j v u l m n co wo uo k0 k1 = grind arith

abbrev after_promote_nobody : ℕ → Phase → Phase
after_promote_nobody i idle = idle
after_promote_nobody i (solo k) = (solo k)
after_promote_nobody i (pair k q) = (pair k q)
after_promote_nobody i (clean r a) = (clean r a)
after_promote_nobody i (free r) = (drain i)
after_promote_nobody i (drain r) = (drain r)
after_promote_nobody i (prom p) = (prom p)

pub promote_nobody_own : (w h H : ℕ) (f : Phase) (c : Cells) (i : ℕ) (v : Way) → Height w h H i → CellsOk w h H f c → WayOk h H f c i v → ((v.stage ≡ 1) ⊎ (v.stage ≡ 3)) → v.place ≡ 65 → CellsOk w h H (after_promote_nobody i f) (c) × WayOk h H (after_promote_nobody i f) (c) i (record { stage = v.stage; place = 67; passage = v.passage; aim = v.aim; scan = v.scan; noted = v.noted; kept_way = v.kept_way; kept_number = v.kept_number; applied = v.applied; number = v.number; role = v.role; listed = v.listed; listing = v.listing })
promote_nobody_own w h H f c i v l co wo k0 k1 = (grind arith, grind arith)

pub promote_nobody_others : (w h H : ℕ) (f : Phase) (c : Cells) (i j : ℕ) (v u : Way) → Height w h H i → j < w → j ≢ i → CellsOk w h H f c → WayOk h H f c i v → WayOk h H f c j u → ((v.stage ≡ 1) ⊎ (v.stage ≡ 3)) → v.place ≡ 65 → u.listed ≢ 1 → WayOk h H (after_promote_nobody i f) (c) j (u)
promote_nobody_others w h H f c i j v u l m n co wo uo k0 k1 z₁ = grind arith

pub reset_pawns_own : (w h H : ℕ) (f : Phase) (c : Cells) (i : ℕ) (v : Way) → Height w h H i → CellsOk w h H f c → WayOk h H f c i v → ((v.stage ≡ 1) ⊎ (v.stage ≡ 3)) → v.place ≡ 67 → CellsOk w h H f (c) × WayOk h H f (c) i (record { stage = v.stage; place = 68; passage = v.passage; aim = v.aim; scan = v.scan; noted = v.noted; kept_way = v.kept_way; kept_number = v.kept_number; applied = v.applied; number = v.number; role = v.role; listed = 0; listing = 0 })
reset_pawns_own w h H f c i v l co wo k0 k1 = (grind arith, grind arith)

pub reset_pawns_others : (w h H : ℕ) (f : Phase) (c : Cells) (i j : ℕ) (v u : Way) → Height w h H i → j < w → j ≢ i → CellsOk w h H f c → WayOk h H f c i v → WayOk h H f c j u → ((v.stage ≡ 1) ⊎ (v.stage ≡ 3)) → v.place ≡ 67 → WayOk h H f (c) j (record { stage = u.stage; place = u.place; passage = u.passage; aim = u.aim; scan = u.scan; noted = u.noted; kept_way = u.kept_way; kept_number = u.kept_number; applied = u.applied; number = u.number; role = u.role; listed = 0; listing = 0 })
reset_pawns_others w h H idle c i j v u l m n co wo uo k0 k1 = grind arith
reset_pawns_others w h H (solo k) c i j v u l m n co wo uo k0 k1 = grind arith
reset_pawns_others w h H (pair k q) c i j v u l m n co wo uo k0 k1 = grind arith
reset_pawns_others w h H (clean r a) c i j v u l m n co wo uo k0 k1 = grind arith
reset_pawns_others w h H (free r) c i j v u l m n co wo uo k0 k1 = grind arith
reset_pawns_others w h H (drain r) c i j v u l m n co wo uo k0 k1 = grind arith
reset_pawns_others w h H (prom p) c i j v u l m n co wo uo k0 k1 = grind arith

abbrev after_open_gate : ℕ → Phase → Phase
after_open_gate i idle = idle
after_open_gate i (solo k) = (solo k)
after_open_gate i (pair k q) = (pair k q)
after_open_gate i (clean r a) = (clean r a)
after_open_gate i (free r) = (free r)
after_open_gate i (drain r) = idle
after_open_gate i (prom p) = (prom p)

pub open_gate_own : (w h H : ℕ) (close : ℕ) (f : Phase) (c : Cells) (i : ℕ) (v : Way) → Height w h H i → CellsOk w h H f c → WayOk h H f c i v → ((v.stage ≡ 1) ⊎ (v.stage ≡ 3)) → v.place ≡ 68 → ((v.stage ≡ 1 → close ≡ 32)) → ((v.stage ≡ 3 → close ≡ 48)) → v.stage ≢ 2 → CellsOk w h H (after_open_gate i f) (record { count = 0; sync_one = c.sync_one; sync_two = c.sync_two }) × WayOk h H (after_open_gate i f) (record { count = 0; sync_one = c.sync_one; sync_two = c.sync_two }) i (record { stage = v.stage; place = close; passage = v.passage; aim = v.aim; scan = v.scan; noted = v.noted; kept_way = v.kept_way; kept_number = v.kept_number; applied = v.applied; number = v.number; role = v.role; listed = v.listed; listing = v.listing })
open_gate_own w h H close idle c i v l co wo k0 k1 k2 k3 k4 = (grind arith, grind arith)
open_gate_own w h H close (solo k) c i v l co wo k0 k1 k2 k3 k4 = (grind arith, grind arith)
open_gate_own w h H close (pair k q) c i v l co wo k0 k1 k2 k3 k4 = (grind arith, grind arith)
open_gate_own w h H close (clean r a) c i v l co wo k0 k1 k2 k3 k4 = (grind arith, grind arith)
open_gate_own w h H close (free r) c i v l co wo k0 k1 k2 k3 k4 = (grind arith, grind arith)
open_gate_own w h H close (drain r) c i v l co wo k0 k1 k2 k3 k4 = (grind arith, grind arith)
open_gate_own w h H close (prom p) c i v l co wo k0 k1 k2 k3 k4 = (grind arith, grind arith)

pub open_gate_others : (w h H : ℕ) (close : ℕ) (f : Phase) (c : Cells) (i j : ℕ) (v u : Way) → Height w h H i → j < w → j ≢ i → CellsOk w h H f c → WayOk h H f c i v → WayOk h H f c j u → ((v.stage ≡ 1) ⊎ (v.stage ≡ 3)) → v.place ≡ 68 → ((v.stage ≡ 1 → close ≡ 32)) → ((v.stage ≡ 3 → close ≡ 48)) → v.stage ≢ 2 → WayOk h H (after_open_gate i f) (record { count = 0; sync_one = c.sync_one; sync_two = c.sync_two }) j (u)
open_gate_others w h H close f c i j v u l m n co wo uo k0 k1 k2 k3 k4 = grind arith

pub mark_promoted_own : (w h H : ℕ) (close : ℕ) (f : Phase) (c : Cells) (i : ℕ) (v : Way) → Height w h H i → CellsOk w h H f c → WayOk h H f c i v → ((v.stage ≡ 1) ⊎ (v.stage ≡ 3)) → v.place ≡ 70 → ((v.stage ≡ 1 → close ≡ 32)) → ((v.stage ≡ 3 → close ≡ 48)) → v.stage ≢ 2 → CellsOk w h H f (c) × WayOk h H f (c) i (record { stage = v.stage; place = close; passage = v.passage; aim = v.aim; scan = v.scan; noted = v.noted; kept_way = v.kept_way; kept_number = v.kept_number; applied = v.applied; number = v.number; role = v.role; listed = v.listed; listing = v.listing })
mark_promoted_own w h H close idle c i v l co wo k0 k1 k2 k3 k4 = (grind arith, grind arith)
mark_promoted_own w h H close (solo k) c i v l co wo k0 k1 k2 k3 k4 = (grind arith, grind arith)
mark_promoted_own w h H close (pair k q) c i v l co wo k0 k1 k2 k3 k4 = (grind arith, grind arith)
mark_promoted_own w h H close (clean r a) c i v l co wo k0 k1 k2 k3 k4 = (grind arith, grind arith)
mark_promoted_own w h H close (free r) c i v l co wo k0 k1 k2 k3 k4 = (grind arith, grind arith)
mark_promoted_own w h H close (drain r) c i v l co wo k0 k1 k2 k3 k4 = (grind arith, grind arith)
mark_promoted_own w h H close (prom p) c i v l co wo k0 k1 k2 k3 k4 = (grind arith, grind arith)

pub mark_promoted_others : (w h H : ℕ) (close : ℕ) (ax' : ℕ) (f : Phase) (c : Cells) (i j : ℕ) (v u : Way) → Height w h H i → j < w → j ≢ i → CellsOk w h H f c → WayOk h H f c i v → WayOk h H f c j u → ((v.stage ≡ 1) ⊎ (v.stage ≡ 3)) → v.place ≡ 70 → ((v.stage ≡ 1 → close ≡ 32)) → ((v.stage ≡ 3 → close ≡ 48)) → v.stage ≢ 2 → ((j ≡ v.kept_way) × (u.applied ≡ 1) × (u.number ≡ v.kept_number) × (ax' ≡ 2) × (f ≡ prom j)) ⊎ (ax' ≡ u.applied) → WayOk h H f (c) j (record { stage = u.stage; place = u.place; passage = u.passage; aim = u.aim; scan = u.scan; noted = u.noted; kept_way = u.kept_way; kept_number = u.kept_number; applied = ax'; number = u.number; role = u.role; listed = u.listed; listing = u.listing })
mark_promoted_others w h H close ax' idle c i j v u l m n co wo uo k0 k1 k2 k3 k4 z₁ = grind arith
mark_promoted_others w h H close ax' (solo k) c i j v u l m n co wo uo k0 k1 k2 k3 k4 z₁ = grind arith
mark_promoted_others w h H close ax' (pair k q) c i j v u l m n co wo uo k0 k1 k2 k3 k4 z₁ = grind arith
mark_promoted_others w h H close ax' (clean r a) c i j v u l m n co wo uo k0 k1 k2 k3 k4 z₁ = grind arith
mark_promoted_others w h H close ax' (free r) c i j v u l m n co wo uo k0 k1 k2 k3 k4 z₁ = grind arith
mark_promoted_others w h H close ax' (drain r) c i j v u l m n co wo uo k0 k1 k2 k3 k4 z₁ = grind arith
mark_promoted_others w h H close ax' (prom p) c i j v u l m n co wo uo k0 k1 k2 k3 k4 z₁ = grind arith

abbrev after_promote_pawn : ℕ → ℕ → Phase → Phase
after_promote_pawn i x idle = idle
after_promote_pawn i x (solo k) = (solo k)
after_promote_pawn i x (pair k q) = (pair k q)
after_promote_pawn i x (clean r a) = (clean r a)
after_promote_pawn i x (free r) = (prom x)
after_promote_pawn i x (drain r) = (drain r)
after_promote_pawn i x (prom p) = (prom p)

pub promote_pawn_own : (w h H : ℕ) (x kn' : ℕ) (f : Phase) (c : Cells) (i : ℕ) (v : Way) → Height w h H i → CellsOk w h H f c → WayOk h H f c i v → ((v.stage ≡ 1) ⊎ (v.stage ≡ 3)) → v.place ≡ 65 → x ≢ i → x < w → CellsOk w h H (after_promote_pawn i x f) (c) × WayOk h H (after_promote_pawn i x f) (c) i (record { stage = v.stage; place = 70; passage = v.passage; aim = v.aim; scan = v.scan; noted = v.noted; kept_way = x; kept_number = kn'; applied = v.applied; number = v.number; role = v.role; listed = v.listed; listing = v.listing })
promote_pawn_own w h H x kn' idle c i v l co wo k0 k1 k2 k3 = (grind arith, grind arith)
promote_pawn_own w h H x kn' (solo k) c i v l co wo k0 k1 k2 k3 = (grind arith, grind arith)
promote_pawn_own w h H x kn' (pair k q) c i v l co wo k0 k1 k2 k3 = (grind arith, grind arith)
promote_pawn_own w h H x kn' (clean r a) c i v l co wo k0 k1 k2 k3 = (grind arith, grind arith)
promote_pawn_own w h H x kn' (free r) c i v l co wo k0 k1 k2 k3 = (grind arith, grind arith)
promote_pawn_own w h H x kn' (drain r) c i v l co wo k0 k1 k2 k3 = (grind arith, grind arith)
promote_pawn_own w h H x kn' (prom p) c i v l co wo k0 k1 k2 k3 = (grind arith, grind arith)

pub promote_pawn_others : (w h H : ℕ) (x : ℕ) (ps' : ℕ) (f : Phase) (c : Cells) (i j : ℕ) (v u : Way) → Height w h H i → j < w → j ≢ i → CellsOk w h H f c → WayOk h H f c i v → WayOk h H f c j u → ((v.stage ≡ 1) ⊎ (v.stage ≡ 3)) → v.place ≡ 65 → x ≢ i → x < w → (j ≡ x → (u.listed ≡ 1) × (ps' ≡ 2)) → (j ≢ x → ps' ≡ u.listed) → WayOk h H (after_promote_pawn i x f) (c) j (record { stage = u.stage; place = u.place; passage = u.passage; aim = u.aim; scan = u.scan; noted = u.noted; kept_way = u.kept_way; kept_number = u.kept_number; applied = u.applied; number = u.number; role = u.role; listed = ps'; listing = u.listing })
promote_pawn_others w h H x ps' idle c i j v u l m n co wo uo k0 k1 k2 k3 z₁ z₂ = grind arith
promote_pawn_others w h H x ps' (solo k) c i j v u l m n co wo uo k0 k1 k2 k3 z₁ z₂ = grind arith
promote_pawn_others w h H x ps' (pair k q) c i j v u l m n co wo uo k0 k1 k2 k3 z₁ z₂ = absurd (not_in_pair w h H k q c i v co wo k0 (omega arith) (omega arith))
promote_pawn_others w h H x ps' (clean r a) c i j v u l m n co wo uo k0 k1 k2 k3 z₁ z₂ = grind arith
promote_pawn_others w h H x ps' (free r) c i j v u l m n co wo uo k0 k1 k2 k3 z₁ z₂ = elim (ℕ_discrete j x) [ yes y ↦ grind arith | no y ↦ elim (ℕ_discrete i r) [ yes b ↦ grind arith | no b ↦ grind arith ] ]
promote_pawn_others w h H x ps' (drain r) c i j v u l m n co wo uo k0 k1 k2 k3 z₁ z₂ = grind arith
promote_pawn_others w h H x ps' (prom p) c i j v u l m n co wo uo k0 k1 k2 k3 z₁ z₂ = absurd (not_in_prom w h H p c i v co wo k0 k1)

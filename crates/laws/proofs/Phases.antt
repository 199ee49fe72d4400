-- One gate: the seven phases in which it can be, and what each way shows in each of them. Nothing in the store holds the
-- phase: it is what a proof carries along. Assumes nothing.
--     Way             what one way shows: who stands there and how far it is, and its Apply, its Role and its pawn pair
--     Cells           Count, Sync1 and Sync2
--     Phase           idle; solo k: a king; pair k q: king and queen; clean r a: r clears up, a closed first; free r: r may
--                     promote; drain r: nobody waits; prom p: way p is promoted
--     CellsOk, WayOk  what the cells and each way show in a phase
use Rattle.std.proofs.Common.{◌≡◌, ℕ, ◌+◌, ◌<◌, ◌≤◌, ◌≢◌, ◌⊎◌}

-- stage: 0 nobody; 1 climbing at this gate, past place 2; 2 inside: it has the gate and is above, or was handed it; 3 leaving
-- at this gate. applied and number are the state and the number in Apply, listed and listing those in the pawn word.
pub record Way : Type 0 where
  pub stage : ℕ
  pub place : ℕ
  pub passage : ℕ
  pub aim : ℕ
  pub scan : ℕ
  pub noted : ℕ → ℕ
  pub kept_way : ℕ
  pub kept_number : ℕ
  pub applied : ℕ
  pub number : ℕ
  pub role : ℕ
  pub listed : ℕ
  pub listing : ℕ

pub record Cells : Type 0 where
  pub count : ℕ
  pub sync_one : ℕ
  pub sync_two : ℕ

pub data Phase : Type 0 where
  idle : Phase
  solo : ℕ → Phase
  pair : ℕ → ℕ → Phase
  clean : ℕ → ℕ → Phase
  free : ℕ → Phase
  drain : ℕ → Phase
  prom : ℕ → Phase

abbrev pub Pawnish : Way → Type 0
Pawnish v = (v.stage ≡ 1) × (v.number ≡ v.passage) × ((v.role ≡ 0) ⊎ (v.role ≡ 3))
    × (((5 ≤ v.place) × (v.place ≤ 8) × (v.applied ≡ 1)) ⊎ (((v.place ≡ 19) × (v.applied ≡ 1)) ⊎ ((v.place ≡ 21) × (v.applied ≡ 2))))

abbrev pub Closing : Way → Type 0
Closing v = (v.applied ≡ 2) × (((v.stage ≡ 1) × (v.number ≡ v.passage) × ((v.place ≡ 32) ⊎ (v.place ≡ 70)))
    ⊎ ((v.stage ≡ 3) × ((v.place ≡ 48) ⊎ (((v.place ≡ 49) × (v.kept_number ≡ v.number)) ⊎ (v.place ≡ 70)))))

abbrev pub By : Way → Type 0
By v = ((v.stage ≡ 0) × (v.applied ≡ 0)) ⊎ (Pawnish v ⊎ Closing v)

abbrev pub Quiet : Way → Type 0
Quiet v = (v.listed ≡ 0) ⊎ (v.listed ≡ 3)

abbrev pub Plain : Way → Type 0
Plain v = By v × (Quiet v ⊎ ((v.listed ≡ 1) × Pawnish v × (v.listing ≡ v.passage)))

abbrev pub Loose : Way → Type 0
Loose v = By v × (v.listed ≤ 3) × (v.listed ≢ 2)

-- a king that has not yet tried to hand over or to open the gate
abbrev pub Early : Way → Type 0
Early v = (v.role ≡ 1) × (((v.stage ≡ 1) × (v.place ≡ 16) × (v.applied ≡ 1) × (v.number ≡ v.passage))
    ⊎ ((v.applied ≡ 2) × ((v.stage ≡ 2) ⊎ ((v.stage ≡ 3) × (35 ≤ v.place) × (v.place ≤ 36)))))

abbrev pub Reigns : Way → Type 0
Reigns v = Early v ⊎ ((v.role ≡ 1) × (v.stage ≡ 3) × (v.place ≡ 37) × (v.applied ≡ 2))

-- the queen before she has been given the gate
abbrev pub Hopes : Way → Type 0
Hopes v = (v.role ≡ 2) × (v.stage ≡ 1) × (v.number ≡ v.passage)
    × ((((v.place ≡ 14) ⊎ (v.place ≡ 19)) × (v.applied ≡ 1)) ⊎ ((v.place ≡ 26) × (v.applied ≡ 2)))

-- the queen who has been given the gate up to height t
abbrev pub Given : ℕ → Way → Type 0
Given t v = (v.role ≡ 2) × (((v.stage ≡ 1) × (v.number ≡ v.passage)
    × (((v.place ≡ 14) × (v.applied ≡ 1)) ⊎ (((v.place ≡ 19) × (v.applied ≡ 1)) ⊎ (((v.place ≡ 16) × (v.applied ≡ 1) × (v.aim ≡ t)) ⊎ ((26 ≤ v.place) × (v.place ≤ 27) × (v.applied ≡ 2))))))
    ⊎ ((v.applied ≡ 2) × ((v.stage ≡ 2) ⊎ ((v.stage ≡ 3) × (v.place ≡ 35)))))

-- one that collects, and then comes to the second meeting point
abbrev pub Collects : ℕ → Way → Type 0
Collects a v = (v.stage ≡ a) × (v.applied ≡ 2) × (a ≡ 1 → v.number ≡ v.passage) × ((52 ≤ v.place) × (v.place ≤ 56))

abbrev pub At56 : Way → Type 0
At56 v = (v.stage ≡ 3) × (v.applied ≡ 2) × (v.place ≡ 56)

abbrev pub Releases : Way → Type 0
Releases v = (v.applied ≡ 2) × (((v.stage ≡ 1) × (v.number ≡ v.passage)) ⊎ (v.stage ≡ 3))

abbrev pub KingOk : (h H q : ℕ) → Cells → Way → Type 0
KingOk h H q c v =
    ((c.sync_one ≡ 0) × Reigns v)
    ⊎ (((h ≤ c.sync_one) × (c.sync_one ≤ H) × (Collects 3 v ⊎ ((c.sync_two ≡ q + 1) × (v.place ≡ 58) × Releases v)))
    ⊎ ((c.sync_one ≡ 15) × (Reigns v ⊎ (At56 v ⊎ ((c.sync_two ≡ q + 1) × (v.place ≡ 58) × Releases v)))))

abbrev pub QueenOk : (h H k : ℕ) → Cells → Way → Type 0
QueenOk h H k c v =
    ((c.sync_one ≡ 0) × Hopes v)
    ⊎ (((h ≤ c.sync_one) × (c.sync_one ≤ H) × (Given c.sync_one v ⊎ (At56 v ⊎ ((c.sync_two ≡ k + 1) × (v.place ≡ 58) × Releases v))))
    ⊎ ((c.sync_one ≡ 15) × (Collects 1 v ⊎ ((c.sync_two ≡ k + 1) × (v.place ≡ 58) × Releases v))))

abbrev pub WayOk : (h H : ℕ) → Phase → Cells → ℕ → Way → Type 0
WayOk h H idle c j v = By v × Quiet v
WayOk h H (solo k) c j v = (j ≡ k → Early v) × (j ≢ k → By v) × Quiet v
WayOk h H (pair k q) c j v =
    (j ≡ k → (c.sync_two ≢ k + 1) → KingOk h H q c v × (v.listed ≤ 3) × (v.listed ≢ 2))
    × (j ≡ k → (c.sync_two ≡ k + 1) → Loose v)
    × (j ≡ q → (c.sync_two ≢ q + 1) → QueenOk h H k c v × (v.listed ≤ 3) × (v.listed ≢ 2))
    × (j ≡ q → (c.sync_two ≡ q + 1) → Loose v)
    × (j ≢ k → j ≢ q → Plain v)
WayOk h H (clean r a) c j v =
    (j ≡ r → Releases v × (v.listed ≤ 3) × (v.listed ≢ 2)
    × (((v.place ≡ 59) × (c.sync_two ≡ a + 1)) ⊎ ((v.kept_way ≡ a) × (((v.place ≡ 60) × (c.sync_two ≡ a + 1)) ⊎ ((v.place ≡ 61) × (c.sync_two ≡ 0))))))
    × (j ≡ a → Loose v)
    × (j ≢ r → j ≢ a → Plain v)
WayOk h H (free r) c j v =
    (j ≡ r → Releases v × (v.listed ≤ 3) × (v.listed ≢ 2) × ((v.place ≡ 64) ⊎ ((v.place ≡ 65) × (v.listed ≡ 3))))
    × (j ≢ r → Plain v)
WayOk h H (drain r) c j v = (j ≡ r → Releases v × (67 ≤ v.place) × (v.place ≤ 68)) × (j ≢ r → By v) × Quiet v
WayOk h H (prom p) c j v =
    (j ≡ p → (v.listed ≡ 2)
    × (((v.stage ≡ 1) × (v.number ≡ v.passage) × (v.listing ≡ v.passage) × (1 ≤ v.applied) × (v.applied ≤ 2) × ((((v.role ≡ 0) ⊎ (v.role ≡ 3)) × (((5 ≤ v.place) × (v.place ≤ 8)) ⊎ ((v.place ≡ 19) ⊎ ((v.place ≡ 21) × (v.applied ≡ 2)))))
    ⊎ ((v.place ≡ 16) × (v.role ≡ 4) × (v.aim ≡ h))))
    ⊎ ((v.applied ≡ 2) × (((v.stage ≡ 2) × (v.role ≡ 4)) ⊎ ((v.stage ≡ 3) × (((v.place ≡ 35) × (v.role ≡ 4)) ⊎ (v.place ≡ 64)))))))
    × (j ≢ p → Plain v)

abbrev pub CellsOk : (w h H : ℕ) → Phase → Cells → Type 0
CellsOk w h H idle c = (c.count ≡ 0) × (c.sync_one ≡ 0) × (c.sync_two ≡ 0)
CellsOk w h H (solo k) c = (c.count ≡ 1) × (c.sync_one ≡ 0) × (c.sync_two ≡ 0) × (k < w)
CellsOk w h H (pair k q) c = (c.count ≡ 2) × (k ≢ q) × (k < w) × (q < w)
    × ((c.sync_one ≡ 0 → c.sync_two ≡ 0) × ((c.sync_two ≡ 0) ⊎ ((c.sync_two ≡ k + 1) ⊎ (c.sync_two ≡ q + 1))))
CellsOk w h H (clean r a) c = (c.count ≡ 2) × (c.sync_one ≡ 0) × (r ≢ a) × (r < w) × (a < w)
CellsOk w h H (free r) c = (c.count ≡ 2) × (c.sync_one ≡ 0) × (c.sync_two ≡ 0) × (r < w)
CellsOk w h H (drain r) c = (c.count ≡ 2) × (c.sync_one ≡ 0) × (c.sync_two ≡ 0) × (r < w)
CellsOk w h H (prom p) c = (c.count ≡ 2) × (c.sync_one ≡ 0) × (c.sync_two ≡ 0) × (p < w)

-- One gate: the seven phases in which it can be, and what each way shows in each of them. Nothing in the store holds the
-- phase: it is what a proof carries along. Assumes nothing.
--     Stand           who stands at a way, and how far it is
--     Marks           what the cells of a way hold: its Apply, its Role and its pair in the pawn word
--     Cells           Count, Sync1 and Sync2
--     Phase           idle; solo k: a king; pair k q: king and queen; clean r a: r clears up, a closed first; free r: r may
--                     promote; drain r: nobody waits; prom p: way p is promoted
--     CellsOk, WayOk  what the cells and each way show in a phase
--     two_inside      two ways of a gate that are both inside are one
use Rattle.std.proofs.Common.{◌≡◌, ℕ, ◌+◌, ◌<◌, ◌≤◌, ◌≢◌, ◌⊎◌, arith}

-- stage: 0 nobody; 1 climbing at this gate, past place 2; 2 inside: it has the gate and is above, or was handed it, or is
-- about to give it back; 3 leaving at this gate. The rest is the seat's record, and 0 at stages 0 and 2.
pub record Stand : Type 0 where
  pub stage : ℕ
  pub place : ℕ
  pub passage : ℕ
  pub aim : ℕ
  pub scan : ℕ
  pub noted : ℕ → ℕ
  pub kept_way : ℕ
  pub kept_number : ℕ

-- applied and number are the state and the number in Apply, listed and listing those in the pawn word
pub record Marks : Type 0 where
  pub applied : ℕ
  pub number : ℕ
  pub role : ℕ
  pub listed : ℕ
  pub listing : ℕ

pub record Cells : Type 0 where
  pub count : ℕ
  pub sync_one : ℕ
  pub sync_two : ℕ

pub data Phase : Type 0 where
  idle : Phase
  solo : ℕ → Phase
  pair : ℕ → ℕ → Phase
  clean : ℕ → ℕ → Phase
  free : ℕ → Phase
  drain : ℕ → Phase
  prom : ℕ → Phase

abbrev pub Pawnish : Stand → Marks → Type 0
Pawnish v x = (v.stage ≡ 1) × (x.number ≡ v.passage) × ((x.role ≡ 0) ⊎ (x.role ≡ 3))
    × (((5 ≤ v.place) × (v.place ≤ 8) × (x.applied ≡ 1)) ⊎ (((v.place ≡ 19) × (x.applied ≡ 1)) ⊎ ((v.place ≡ 21) × (x.applied ≡ 2))))

abbrev pub Closing : Stand → Marks → Type 0
Closing v x = (x.applied ≡ 2) × (((v.stage ≡ 1) × (x.number ≡ v.passage) × ((v.place ≡ 32) ⊎ (v.place ≡ 70)))
    ⊎ ((v.stage ≡ 3) × ((v.place ≡ 48) ⊎ (((v.place ≡ 49) × (v.kept_number ≡ x.number)) ⊎ (v.place ≡ 70)))))

abbrev pub By : Stand → Marks → Type 0
By v x = ((v.stage ≡ 0) × (v.place ≡ 0) × (x.applied ≡ 0)) ⊎ (Pawnish v x ⊎ Closing v x)

abbrev pub Quiet : Marks → Type 0
Quiet x = (x.listed ≡ 0) ⊎ (x.listed ≡ 3)

abbrev pub Plain : Stand → Marks → Type 0
Plain v x = By v x × (Quiet x ⊎ ((x.listed ≡ 1) × Pawnish v x × (x.listing ≡ v.passage)))

-- the pair may be an old one
abbrev pub Stale : Marks → Type 0
Stale x = (x.listed ≤ 3) × (x.listed ≢ 2)

abbrev pub Loose : Stand → Marks → Type 0
Loose v x = By v x × Stale x

abbrev pub Inside : Stand → Marks → Type 0
Inside v x = (v.stage ≡ 2) × (v.place ≡ 0) × (x.applied ≡ 2)

-- a king that has not yet tried to hand over or to open the gate
abbrev pub Early : Stand → Marks → Type 0
Early v x = (x.role ≡ 1) × (((v.stage ≡ 1) × (v.place ≡ 16) × (x.applied ≡ 1) × (x.number ≡ v.passage))
    ⊎ (Inside v x ⊎ ((v.stage ≡ 3) × (v.place ≡ 36) × (x.applied ≡ 2))))

abbrev pub Reigns : Stand → Marks → Type 0
Reigns v x = Early v x ⊎ ((x.role ≡ 1) × (v.stage ≡ 3) × (v.place ≡ 37) × (x.applied ≡ 2))

-- the queen before she has been given the gate
abbrev pub Hopes : Stand → Marks → Type 0
Hopes v x = (x.role ≡ 2) × (v.stage ≡ 1) × (x.number ≡ v.passage)
    × ((((v.place ≡ 14) ⊎ (v.place ≡ 19)) × (x.applied ≡ 1)) ⊎ ((v.place ≡ 26) × (x.applied ≡ 2)))

-- the queen who has been given the gate up to height t
abbrev pub Given : ℕ → Stand → Marks → Type 0
Given t v x = (x.role ≡ 2) × (((v.stage ≡ 1) × (x.number ≡ v.passage)
    × (((v.place ≡ 14) × (x.applied ≡ 1)) ⊎ (((v.place ≡ 19) × (x.applied ≡ 1)) ⊎ (((v.place ≡ 16) × (x.applied ≡ 1) × (v.aim ≡ t)) ⊎ ((26 ≤ v.place) × (v.place ≤ 27) × (x.applied ≡ 2))))))
    ⊎ Inside v x)

-- one that collects, and then comes to the second meeting point
abbrev pub Collects : ℕ → Stand → Marks → Type 0
Collects a v x = (v.stage ≡ a) × (x.applied ≡ 2) × (a ≡ 1 → x.number ≡ v.passage) × ((52 ≤ v.place) × (v.place ≤ 56))

abbrev pub At56 : Stand → Marks → Type 0
At56 v x = (v.stage ≡ 3) × (x.applied ≡ 2) × (v.place ≡ 56)

abbrev pub Releases : Stand → Marks → Type 0
Releases v x = (x.applied ≡ 2) × (((v.stage ≡ 1) × (x.number ≡ v.passage)) ⊎ (v.stage ≡ 3))

-- the second to come, after the way a has closed
abbrev pub Second : ℕ → Cells → Stand → Marks → Type 0
Second a c v x = (c.sync_two ≡ a + 1) × (v.place ≡ 58) × Releases v x

abbrev pub KingOk : (h H q : ℕ) → Cells → Stand → Marks → Type 0
KingOk h H q c v x =
    ((c.sync_one ≡ 0) × Reigns v x)
    ⊎ (((h ≤ c.sync_one) × (c.sync_one ≤ H) × (Collects 3 v x ⊎ Second q c v x))
    ⊎ ((c.sync_one ≡ 15) × (Reigns v x ⊎ (At56 v x ⊎ Second q c v x))))

abbrev pub QueenOk : (h H k : ℕ) → Cells → Stand → Marks → Type 0
QueenOk h H k c v x =
    ((c.sync_one ≡ 0) × Hopes v x)
    ⊎ (((h ≤ c.sync_one) × (c.sync_one ≤ H) × (Given c.sync_one v x ⊎ (At56 v x ⊎ Second k c v x)))
    ⊎ ((c.sync_one ≡ 15) × (Collects 1 v x ⊎ Second k c v x)))

-- the promoted pawn: it waits, aborts too late, is inside, or leaves
abbrev pub Promoted : ℕ → Stand → Marks → Type 0
Promoted h v x = ((v.stage ≡ 1) × (x.number ≡ v.passage) × (x.listing ≡ v.passage) × (1 ≤ x.applied) × (x.applied ≤ 2)
    × ((((x.role ≡ 0) ⊎ (x.role ≡ 3)) × (((5 ≤ v.place) × (v.place ≤ 8)) ⊎ ((v.place ≡ 19) ⊎ ((v.place ≡ 21) × (x.applied ≡ 2)))))
    ⊎ ((v.place ≡ 16) × (x.role ≡ 4) × (v.aim ≡ h))))
    ⊎ ((Inside v x × (x.role ≡ 4)) ⊎ ((v.stage ≡ 3) × (v.place ≡ 64) × (x.applied ≡ 2)))

abbrev pub WayOk : (h H : ℕ) → Phase → Cells → ℕ → Stand → Marks → Type 0
WayOk h H idle c j v x = By v x × Quiet x
WayOk h H (solo k) c j v x = (j ≡ k → Early v x) × (j ≢ k → By v x) × Quiet x
WayOk h H (pair k q) c j v x =
    (j ≡ k → (c.sync_two ≢ k + 1) → KingOk h H q c v x × Stale x)
    × (j ≡ k → (c.sync_two ≡ k + 1) → Loose v x)
    × (j ≡ q → (c.sync_two ≢ q + 1) → QueenOk h H k c v x × Stale x)
    × (j ≡ q → (c.sync_two ≡ q + 1) → Loose v x)
    × (j ≢ k → j ≢ q → Plain v x)
WayOk h H (clean r a) c j v x =
    (j ≡ r → Releases v x × Stale x
    × (((v.place ≡ 59) × (c.sync_two ≡ a + 1)) ⊎ ((v.kept_way ≡ a) × (((v.place ≡ 60) × (c.sync_two ≡ a + 1)) ⊎ ((v.place ≡ 61) × (c.sync_two ≡ 0))))))
    × (j ≡ a → Loose v x)
    × (j ≢ r → j ≢ a → Plain v x)
WayOk h H (free r) c j v x =
    (j ≡ r → Releases v x × Stale x × ((v.place ≡ 64) ⊎ ((v.place ≡ 65) × (x.listed ≡ 3)))) × (j ≢ r → Plain v x)
WayOk h H (drain r) c j v x = (j ≡ r → Releases v x × (67 ≤ v.place) × (v.place ≤ 68)) × (j ≢ r → By v x) × Quiet x
WayOk h H (prom p) c j v x = (j ≡ p → (x.listed ≡ 2) × Promoted h v x) × (j ≢ p → Plain v x)

abbrev pub CellsOk : (w h H : ℕ) → Phase → Cells → Type 0
CellsOk w h H idle c = (c.count ≡ 0) × (c.sync_one ≡ 0) × (c.sync_two ≡ 0)
CellsOk w h H (solo k) c = (c.count ≡ 1) × (c.sync_one ≡ 0) × (c.sync_two ≡ 0) × (k < w)
CellsOk w h H (pair k q) c = (c.count ≡ 2) × (k ≢ q) × (k < w) × (q < w)
    × ((c.sync_one ≡ 0 → c.sync_two ≡ 0) × ((c.sync_two ≡ 0) ⊎ ((c.sync_two ≡ k + 1) ⊎ (c.sync_two ≡ q + 1))))
CellsOk w h H (clean r a) c = (c.count ≡ 2) × (c.sync_one ≡ 0) × (r ≢ a) × (r < w) × (a < w)
CellsOk w h H (free r) c = (c.count ≡ 2) × (c.sync_one ≡ 0) × (c.sync_two ≡ 0) × (r < w)
CellsOk w h H (drain r) c = (c.count ≡ 2) × (c.sync_one ≡ 0) × (c.sync_two ≡ 0) × (r < w)
CellsOk w h H (prom p) c = (c.count ≡ 2) × (c.sync_one ≡ 0) × (c.sync_two ≡ 0) × (p < w)

pub two_inside : (w h H : ℕ) (f : Phase) (c : Cells) (i j : ℕ) (v u : Stand) (x y : Marks) → 1 ≤ h → h ≤ H → H ≤ 3 → CellsOk w h H f c → WayOk h H f c i v x → WayOk h H f c j u y → v.stage ≡ 2 → u.stage ≡ 2 → i ≡ j
two_inside w h H f c i j v u x y a b d co vo uo p q = grind arith

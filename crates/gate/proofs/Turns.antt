-- The moves of one gate that turn its phase, or change the marks of other ways. Each is possible in one phase or two.
-- Assumes nothing.
--     struck, raised, told, collected  the marks of another way afterwards
use Rattle.std.proofs.Common.{◌≡◌, ℕ, ◌+◌, ◌<◌, ◌≤◌, cond, eqb, ◌≢◌, ◌⊎◌, sym, inl, inr, arith}
use native.Mathlib.Decide.{ℕ_discrete}
use Rattle.std.proofs.lemmas.Bool.{cond_both, eqb-true, eqb-false}
use Rattle.gate.proofs.Phases.{Stand, Marks, Cells, Phase, idle, solo, pair, clean, free, drain, prom, Pawnish, WayOk, CellsOk}
use Rattle.gate.proofs.Gates.{to, aiming, scanning, keeping, closing, applies, plays, lists, counts, syncs_one, InPair, promoted_of, Fresh, Height, Turn, Turns, Nothing}

-- way n struck out of the pawn word
abbrev pub struck : ℕ → ℕ → Marks → Marks
struck n j y = cond (eqb j n) (lists 3 y.listing y) y

-- way n promoted in the pawn word
abbrev pub raised : ℕ → ℕ → Marks → Marks
raised n j y = cond (eqb j n) (lists 2 y.listing y) y

-- the kept way told that it is promoted, if its application is still the one with the kept number
abbrev pub told : Stand → ℕ → Marks → Marks
told v j y =
    cond (eqb j v.kept_way) (cond (eqb y.applied 1) (cond (eqb y.number v.kept_number) (applies 2 y.number y) y) y) y

-- a noted number registered in the pawn word
abbrev pub collected : ℕ → Marks → Marks
collected n y = cond (eqb n 0) y (cond (eqb y.listed 3) y (lists 1 n y))

collected-both : (n : ℕ) (y : Marks) (P : Marks → Type 0) → P y → (n ≢ 0 → y.listed ≢ 3 → P (lists 1 n y)) → P (collected n y)
collected-both n y P a b =
    cond_both (eqb n 0) y _ P (λ e. a) (λ e. cond_both (eqb y.listed 3) y (lists 1 n y) P (λ d. a) (λ d. b (eqb-false _ _ e) (eqb-false _ _ d)))

pub become_king : (w h H : ℕ) (f : Phase) (c : Cells) (i : ℕ) (v : Stand) (x : Marks) → Height w h H i → CellsOk w h H f c → WayOk h H f c i v x → v.stage ≡ 1 → v.place ≡ 5 → c.count ≡ 0 → Turns w h H f c i v x (counts 1 c) (to 16 (aiming h v)) (plays 1 x) Nothing (λ j y. y)
become_king w h H idle c i v x l co wo k0 k1 k2 = (
  solo i,
  record {
    own = (grind arith, grind arith);
    others = λ j u y m₀ n₀ z d e g. grind arith;
    noted = λ a u y m₀ n₀ z d p₀ q₀ r₀. grind arith;
    fresh = λ a u y m₀ n₀ z e d p₀ q₀ r₀ s₀. grind arith;
    noted_others = λ a j u t z y _ _ _ _ d _ _ _ p₀ q₀ _. absurd (grind arith);
    fresh-others = λ a j u z y m₀ m₁ n₀ n₁ d g p₀ q₀ r₀ s₀. grind arith;
    seen_noted = λ j u y _ _ _ _ _ p₀ q₀ _. absurd (grind arith);
    seen_own = λ p₀ q₀ _. absurd (grind arith);
    seen_fresh = λ j y p₀ q₀ r₀ s₀. grind arith;
  },
)
become_king w h H (solo k) c i v x l co wo k0 k1 k2 = absurd (grind arith)
become_king w h H (pair k q) c i v x l co wo k0 k1 k2 = absurd (grind arith)
become_king w h H (clean r b) c i v x l co wo k0 k1 k2 = absurd (grind arith)
become_king w h H (free r) c i v x l co wo k0 k1 k2 = absurd (grind arith)
become_king w h H (drain r) c i v x l co wo k0 k1 k2 = absurd (grind arith)
become_king w h H (prom p) c i v x l co wo k0 k1 k2 = absurd (grind arith)

pub become_queen : (w h H : ℕ) (f : Phase) (c : Cells) (i : ℕ) (v : Stand) (x : Marks) → Height w h H i → CellsOk w h H f c → WayOk h H f c i v x → v.stage ≡ 1 → v.place ≡ 5 → c.count ≡ 1 → Turns w h H f c i v x (counts 2 c) (to 14 v) (plays 2 x) Nothing (λ j y. y)
become_queen w h H idle c i v x l co wo k0 k1 k2 = absurd (grind arith)
become_queen w h H (solo k) c i v x l co wo k0 k1 k2 = (
  pair k i,
  record {
    own = (grind arith, grind arith);
    others = λ j u y m₀ n₀ z d e g. grind arith;
    noted = λ a u y m₀ n₀ z d p₀ q₀ r₀. grind arith;
    fresh = λ a u y m₀ n₀ z e d p₀ q₀ r₀ s₀. grind arith;
    noted_others = λ a j u t z y m₀ m₁ n₀ n₁ d e _ g p₀ q₀ r₀. grind arith;
    fresh-others = λ a j u z y m₀ m₁ n₀ n₁ d g p₀ q₀ r₀ s₀. grind arith;
    seen_noted = λ j u y _ _ _ _ _ p₀ q₀ _. absurd (grind arith);
    seen_own = λ p₀ q₀ _. absurd (grind arith);
    seen_fresh = λ j y p₀ q₀ r₀ s₀. grind arith;
  },
)
become_queen w h H (pair k q) c i v x l co wo k0 k1 k2 = absurd (grind arith)
become_queen w h H (clean r b) c i v x l co wo k0 k1 k2 = absurd (grind arith)
become_queen w h H (free r) c i v x l co wo k0 k1 k2 = absurd (grind arith)
become_queen w h H (drain r) c i v x l co wo k0 k1 k2 = absurd (grind arith)
become_queen w h H (prom p) c i v x l co wo k0 k1 k2 = absurd (grind arith)

pub open_alone : (w h H : ℕ) (f : Phase) (c : Cells) (i : ℕ) (v : Stand) (x : Marks) → Height w h H i → CellsOk w h H f c → WayOk h H f c i v x → v.stage ≡ 3 → v.place ≡ 36 → c.count ≡ 1 → Turns w h H f c i v x (counts 0 c) (to 48 v) x Nothing (λ j y. y)
open_alone w h H idle c i v x l co wo k0 k1 k2 = absurd (grind arith)
open_alone w h H (solo k) c i v x l co wo k0 k1 k2 = (
  idle,
  record {
    own = (grind arith, grind arith);
    others = λ j u y m₀ n₀ z d e g. grind arith;
    noted = λ a u y m₀ n₀ z d p₀ q₀ r₀. grind arith;
    fresh = λ a u y m₀ n₀ z e d p₀ q₀ r₀ s₀. grind arith;
    noted_others = λ a j u t z y m₀ m₁ n₀ n₁ d e _ g p₀ q₀ r₀. grind arith;
    fresh-others = λ a j u z y m₀ m₁ n₀ n₁ d g p₀ q₀ r₀ s₀. grind arith;
    seen_noted = λ j u y _ _ _ _ _ p₀ q₀ _. absurd (grind arith);
    seen_own = λ p₀ q₀ _. absurd (grind arith);
    seen_fresh = λ j y p₀ q₀ r₀ s₀. grind arith;
  },
)
open_alone w h H (pair k q) c i v x l co wo k0 k1 k2 = absurd (grind arith)
open_alone w h H (clean r b) c i v x l co wo k0 k1 k2 = absurd (grind arith)
open_alone w h H (free r) c i v x l co wo k0 k1 k2 = absurd (grind arith)
open_alone w h H (drain r) c i v x l co wo k0 k1 k2 = absurd (grind arith)
open_alone w h H (prom p) c i v x l co wo k0 k1 k2 = absurd (grind arith)

-- who stands at 58 is king or queen, and the other one has closed
second_to_close : (w h H k q : ℕ) (c : Cells) (i : ℕ) (v : Stand) (x : Marks) → CellsOk w h H (pair k q) c → WayOk h H (pair k q) c i v x → ((v.stage ≡ 1) ⊎ (v.stage ≡ 3)) → v.place ≡ 58 → ((i ≡ k) × (c.sync_two ≡ q + 1)) ⊎ ((i ≡ q) × (c.sync_two ≡ k + 1))
second_to_close w h H k q c i v x co wo a p = grind arith

pub clear_sync_one : (w h H : ℕ) (f : Phase) (c : Cells) (i : ℕ) (v : Stand) (x : Marks) → Height w h H i → CellsOk w h H f c → WayOk h H f c i v x → ((v.stage ≡ 1) ⊎ (v.stage ≡ 3)) → v.place ≡ 58 → Turns w h H f c i v x (syncs_one 0 c) (to 59 v) x Nothing (λ j y. y)
clear_sync_one w h H idle c i v x l co wo k0 k1 = absurd (grind arith)
clear_sync_one w h H (solo k) c i v x l co wo k0 k1 = absurd (grind arith)
clear_sync_one w h H (pair k q) c i v x l co wo k0 k1 =
    elim (second_to_close w h H k q c i v x co wo k0 k1) [
      | inl e₀ ↦ (
        clean i q,
        record {
          own = (grind arith, grind arith);
          others = λ j u y m₀ n₀ z d e g. grind arith;
          noted = λ a u y _ n₀ z _ p₀ q₀ _. absurd (grind arith);
          fresh = λ a u y m₀ n₀ z e d p₀ q₀ r₀ s₀. grind arith;
          noted_others = λ a j u t z y _ _ n₀ _ d _ _ _ p₀ q₀ _. absurd (grind arith);
          fresh-others = λ a j u z y m₀ m₁ n₀ n₁ d g p₀ q₀ r₀ s₀. grind arith;
          seen_noted = λ j u y _ _ _ _ _ p₀ q₀ _. absurd (grind arith);
          seen_own = λ p₀ q₀ _. absurd (grind arith);
          seen_fresh = λ j y p₀ q₀ r₀ s₀. grind arith;
        },
      )
      | inr e₀ ↦ (
        clean i k,
        record {
          own = (grind arith, grind arith);
          others = λ j u y m₀ n₀ z d e g. grind arith;
          noted = λ a u y _ n₀ z _ p₀ q₀ _. absurd (grind arith);
          fresh = λ a u y m₀ n₀ z e d p₀ q₀ r₀ s₀. grind arith;
          noted_others = λ a j u t z y _ _ n₀ _ d _ _ _ p₀ q₀ _. absurd (grind arith);
          fresh-others = λ a j u z y m₀ m₁ n₀ n₁ d g p₀ q₀ r₀ s₀. grind arith;
          seen_noted = λ j u y _ _ _ _ _ p₀ q₀ _. absurd (grind arith);
          seen_own = λ p₀ q₀ _. absurd (grind arith);
          seen_fresh = λ j y p₀ q₀ r₀ s₀. grind arith;
        },
      )
    ]
clear_sync_one w h H (clean r b) c i v x l co wo k0 k1 = absurd (grind arith)
clear_sync_one w h H (free r) c i v x l co wo k0 k1 = absurd (grind arith)
clear_sync_one w h H (drain r) c i v x l co wo k0 k1 = absurd (grind arith)
clear_sync_one w h H (prom p) c i v x l co wo k0 k1 = absurd (grind arith)

pub strike_out : (w h H : ℕ) (f : Phase) (c : Cells) (i : ℕ) (v : Stand) (x : Marks) → Height w h H i → CellsOk w h H f c → WayOk h H f c i v x → ((v.stage ≡ 1) ⊎ (v.stage ≡ 3)) → v.place ≡ 61 → Turns w h H f c i v x c (to 64 v) (struck v.kept_way i x) Nothing (λ j y. struck v.kept_way j y)
strike_out w h H idle c i v x l co wo k0 k1 = absurd (grind arith)
strike_out w h H (solo k) c i v x l co wo k0 k1 = absurd (grind arith)
strike_out w h H (pair k q) c i v x l co wo k0 k1 = absurd (grind arith)
strike_out w h H (clean r b) c i v x l co wo k0 k1 = (
  free i,
  record {
    own = (grind arith, grind arith);
    others = λ j u y m₀ n₀ z d e g. grind arith;
    noted = λ a u y m₀ n₀ z d p₀ q₀ r₀. grind arith;
    fresh = λ a u y m₀ n₀ z e d p₀ q₀ r₀ s₀. grind arith;
    noted_others = λ a j u t z y m₀ m₁ n₀ n₁ d e _ g p₀ q₀ r₀. grind arith;
    fresh-others = λ a j u z y m₀ m₁ n₀ n₁ d g p₀ q₀ r₀ s₀. grind arith;
    seen_noted = λ j u y _ _ _ _ _ p₀ q₀ _. absurd (grind arith);
    seen_own = λ p₀ q₀ _. absurd (grind arith);
    seen_fresh = λ j y p₀ q₀ r₀ s₀. grind arith;
  },
)
strike_out w h H (free r) c i v x l co wo k0 k1 = absurd (grind arith)
strike_out w h H (drain r) c i v x l co wo k0 k1 = absurd (grind arith)
strike_out w h H (prom p) c i v x l co wo k0 k1 = absurd (grind arith)

pub strike_self : (w h H : ℕ) (f : Phase) (c : Cells) (i : ℕ) (v : Stand) (x : Marks) → Height w h H i → CellsOk w h H f c → WayOk h H f c i v x → ((v.stage ≡ 1) ⊎ (v.stage ≡ 3)) → v.place ≡ 64 → Turns w h H f c i v x c (to 65 v) (lists 3 x.listing x) Nothing (λ j y. y)
strike_self w h H idle c i v x l co wo k0 k1 = absurd (grind arith)
strike_self w h H (solo k) c i v x l co wo k0 k1 = absurd (grind arith)
strike_self w h H (pair k q) c i v x l co wo k0 k1 = absurd (grind arith)
strike_self w h H (clean r b) c i v x l co wo k0 k1 = absurd (grind arith)
strike_self w h H (free r) c i v x l co wo k0 k1 = (
  free i,
  record {
    own = (grind arith, grind arith);
    others = λ j u y m₀ n₀ z d e g. grind arith;
    noted = λ a u y m₀ n₀ z d p₀ q₀ r₀. grind arith;
    fresh = λ a u y m₀ n₀ z e d p₀ q₀ r₀ s₀. grind arith;
    noted_others = λ a j u t z y m₀ m₁ n₀ n₁ d e _ g p₀ q₀ r₀. grind arith;
    fresh-others = λ a j u z y m₀ m₁ n₀ n₁ d g p₀ q₀ r₀ s₀. grind arith;
    seen_noted = λ j u y _ _ _ _ _ p₀ q₀ _. absurd (grind arith);
    seen_own = λ p₀ q₀ _. absurd (grind arith);
    seen_fresh = λ j y p₀ q₀ r₀ s₀. grind arith;
  },
)
strike_self w h H (drain r) c i v x l co wo k0 k1 = absurd (grind arith)
strike_self w h H (prom p) c i v x l co wo k0 k1 = (
  free i,
  record {
    own = (grind arith, grind arith);
    others = λ j u y m₀ n₀ z d e g. grind arith;
    noted = λ a u y m₀ n₀ z d p₀ q₀ r₀. grind arith;
    fresh = λ a u y m₀ n₀ z e d p₀ q₀ r₀ s₀. grind arith;
    noted_others = λ a j u t z y m₀ m₁ n₀ n₁ d e _ g p₀ q₀ r₀. grind arith;
    fresh-others = λ a j u z y m₀ m₁ n₀ n₁ d g p₀ q₀ r₀ s₀. grind arith;
    seen_noted = λ j u y _ _ _ _ _ p₀ q₀ _. absurd (grind arith);
    seen_own = λ p₀ q₀ _. absurd (grind arith);
    seen_fresh = λ j y p₀ q₀ r₀ s₀. grind arith;
  },
)

pub promote_nobody : (w h H : ℕ) (f : Phase) (c : Cells) (i : ℕ) (v : Stand) (x : Marks) → Height w h H i → CellsOk w h H f c → WayOk h H f c i v x → ((v.stage ≡ 1) ⊎ (v.stage ≡ 3)) → v.place ≡ 65 → Turns w h H f c i v x c (to 67 v) x (λ j u y. y.listed ≢ 1) (λ j y. y)
promote_nobody w h H idle c i v x l co wo k0 k1 = absurd (grind arith)
promote_nobody w h H (solo k) c i v x l co wo k0 k1 = absurd (grind arith)
promote_nobody w h H (pair k q) c i v x l co wo k0 k1 = absurd (grind arith)
promote_nobody w h H (clean r b) c i v x l co wo k0 k1 = absurd (grind arith)
promote_nobody w h H (free r) c i v x l co wo k0 k1 = (
  drain i,
  record {
    own = (grind arith, grind arith);
    others = λ j u y m₀ n₀ z d e g. grind arith;
    noted = λ a u y m₀ n₀ z d p₀ q₀ r₀. grind arith;
    fresh = λ a u y m₀ n₀ z e d p₀ q₀ r₀ s₀. grind arith;
    noted_others = λ a j u t z y m₀ m₁ n₀ n₁ d e _ g p₀ q₀ r₀. grind arith;
    fresh-others = λ a j u z y m₀ m₁ n₀ n₁ d g p₀ q₀ r₀ s₀. grind arith;
    seen_noted = λ j u y _ _ _ _ _ p₀ q₀ _. absurd (grind arith);
    seen_own = λ p₀ q₀ _. absurd (grind arith);
    seen_fresh = λ j y p₀ q₀ r₀ s₀. grind arith;
  },
)
promote_nobody w h H (drain r) c i v x l co wo k0 k1 = absurd (grind arith)
promote_nobody w h H (prom p) c i v x l co wo k0 k1 = absurd (grind arith)

pub promote_pawn : (w h H : ℕ) (f : Phase) (c : Cells) (i : ℕ) (v : Stand) (x : Marks) (n m : ℕ) → Height w h H i → CellsOk w h H f c → WayOk h H f c i v x → ((v.stage ≡ 1) ⊎ (v.stage ≡ 3)) → v.place ≡ 65 → n ≢ i → n < w → Turns w h H f c i v x c (to 70 (keeping n m v)) x (λ j u y. j ≡ n → y.listed ≡ 1) (λ j y. raised n j y)
promote_pawn w h H idle c i v x n m l co wo k0 k1 k2 k3 = absurd (grind arith)
promote_pawn w h H (solo k) c i v x n m l co wo k0 k1 k2 k3 = absurd (grind arith)
promote_pawn w h H (pair k q) c i v x n m l co wo k0 k1 k2 k3 = absurd (grind arith)
promote_pawn w h H (clean r b) c i v x n m l co wo k0 k1 k2 k3 = absurd (grind arith)
promote_pawn w h H (free r) c i v x n m l co wo k0 k1 k2 k3 = (
  prom n,
  record {
    own = (grind arith, grind arith);
    others = λ j u y m₀ n₀ z _ _ g. elim (ℕ_discrete j n) [ yes e₀ ↦ grind arith | no e₀ ↦ grind arith ];
    noted = λ a u y m₀ n₀ z d p₀ q₀ r₀. grind arith;
    fresh = λ a u y m₀ n₀ z e d p₀ q₀ r₀ s₀. grind arith;
    noted_others = λ a j u t z y m₀ m₁ n₀ n₁ d e _ g p₀ q₀ r₀. grind arith;
    fresh-others = λ a j u z y m₀ m₁ n₀ n₁ d g p₀ q₀ r₀ s₀. grind arith;
    seen_noted = λ j u y _ _ _ _ _ p₀ q₀ _. absurd (grind arith);
    seen_own = λ p₀ q₀ _. absurd (grind arith);
    seen_fresh = λ j y p₀ q₀ r₀ s₀. grind arith;
  },
)
promote_pawn w h H (drain r) c i v x n m l co wo k0 k1 k2 k3 = absurd (grind arith)
promote_pawn w h H (prom p) c i v x n m l co wo k0 k1 k2 k3 = absurd (grind arith)

pub reset_pawns : (w h H : ℕ) (f : Phase) (c : Cells) (i : ℕ) (v : Stand) (x : Marks) → Height w h H i → CellsOk w h H f c → WayOk h H f c i v x → ((v.stage ≡ 1) ⊎ (v.stage ≡ 3)) → v.place ≡ 67 → Turns w h H f c i v x c (to 68 v) (lists 0 0 x) Nothing (λ j y. lists 0 0 y)
reset_pawns w h H idle c i v x l co wo k0 k1 = absurd (grind arith)
reset_pawns w h H (solo k) c i v x l co wo k0 k1 = absurd (grind arith)
reset_pawns w h H (pair k q) c i v x l co wo k0 k1 = absurd (grind arith)
reset_pawns w h H (clean r b) c i v x l co wo k0 k1 = absurd (grind arith)
reset_pawns w h H (free r) c i v x l co wo k0 k1 = absurd (grind arith)
reset_pawns w h H (drain r) c i v x l co wo k0 k1 = (
  drain r,
  record {
    own = (grind arith, grind arith);
    others = λ j u y m₀ n₀ z d e g. grind arith;
    noted = λ a u y m₀ n₀ z d p₀ q₀ r₀. grind arith;
    fresh = λ a u y m₀ n₀ z e d p₀ q₀ r₀ s₀. grind arith;
    noted_others = λ a j u t z y m₀ m₁ n₀ n₁ d e _ g p₀ q₀ r₀. grind arith;
    fresh-others = λ a j u z y m₀ m₁ n₀ n₁ d g p₀ q₀ r₀ s₀. grind arith;
    seen_noted = λ j u y _ _ _ _ _ p₀ q₀ _. absurd (grind arith);
    seen_own = λ p₀ q₀ _. absurd (grind arith);
    seen_fresh = λ j y p₀ q₀ r₀ s₀. grind arith;
  },
)
reset_pawns w h H (prom p) c i v x l co wo k0 k1 = absurd (grind arith)

pub open_gate : (w h H : ℕ) (f : Phase) (c : Cells) (i : ℕ) (v : Stand) (x : Marks) → Height w h H i → CellsOk w h H f c → WayOk h H f c i v x → ((v.stage ≡ 1) ⊎ (v.stage ≡ 3)) → v.place ≡ 68 → Turns w h H f c i v x (counts 0 c) (to (closing v) v) x Nothing (λ j y. y)
open_gate w h H idle c i v x l co wo k0 k1 = absurd (grind arith)
open_gate w h H (solo k) c i v x l co wo k0 k1 = absurd (grind arith)
open_gate w h H (pair k q) c i v x l co wo k0 k1 = absurd (grind arith)
open_gate w h H (clean r b) c i v x l co wo k0 k1 = absurd (grind arith)
open_gate w h H (free r) c i v x l co wo k0 k1 = absurd (grind arith)
open_gate w h H (drain r) c i v x l co wo k0 k1 = (
  idle,
  record {
    own = (grind arith, grind arith);
    others = λ j u y m₀ n₀ z d e g. grind arith;
    noted = λ a u y m₀ n₀ z d p₀ q₀ r₀. grind arith;
    fresh = λ a u y m₀ n₀ z e d p₀ q₀ r₀ s₀. grind arith;
    noted_others = λ a j u t z y m₀ m₁ n₀ n₁ d e _ g p₀ q₀ r₀. grind arith;
    fresh-others = λ a j u z y m₀ m₁ n₀ n₁ d g p₀ q₀ r₀ s₀. grind arith;
    seen_noted = λ j u y _ _ _ _ _ p₀ q₀ _. absurd (grind arith);
    seen_own = λ p₀ q₀ _. absurd (grind arith);
    seen_fresh = λ j y p₀ q₀ r₀ s₀. grind arith;
  },
)
open_gate w h H (prom p) c i v x l co wo k0 k1 = absurd (grind arith)

pub collect_pawns : (w h H : ℕ) (f : Phase) (c : Cells) (i : ℕ) (v : Stand) (x : Marks) → Height w h H i → CellsOk w h H f c → WayOk h H f c i v x → ((v.stage ≡ 1) ⊎ (v.stage ≡ 3)) → v.place ≡ 55 → Turns w h H f c i v x c (to 56 v) (collected (v.noted i) x) Nothing (λ j y. collected (v.noted j) y)
collect_pawns w h H idle c i v x l co wo k0 k1 = absurd (grind arith)
collect_pawns w h H (solo k) c i v x l co wo k0 k1 = absurd (grind arith)
collect_pawns w h H (pair k q) c i v x l co wo k0 k1 = (
  pair k q,
  record {
    own = (grind arith, grind arith);
    others = λ j u y m₀ n₀ z d _ _. collected-both (v.noted j) y (λ y'. WayOk h H (pair k q) c j u y') z (λ e₀ e₁. elim (ℕ_discrete j k) [ yes a₀ ↦ grind arith | no a₀ ↦ elim (ℕ_discrete j q) [ yes a₁ ↦ grind arith | no a₁ ↦ grind arith ] ]);
    noted = λ a u y m₀ n₀ z d p₀ q₀ r₀. grind arith;
    fresh = λ a u y m₀ n₀ z e d p₀ q₀ r₀ s₀. grind arith;
    noted_others = λ a j u t z y _ _ n₀ _ d _ _ _ p₀ q₀ _. absurd (grind arith);
    fresh-others = λ a j u z y m₀ m₁ n₀ n₁ d g p₀ q₀ r₀ s₀. grind arith;
    seen_noted = λ j u y _ _ _ _ _ p₀ q₀ _. absurd (grind arith);
    seen_own = λ p₀ q₀ _. absurd (grind arith);
    seen_fresh = λ j y p₀ q₀ r₀ s₀. grind arith;
  },
)
collect_pawns w h H (clean r b) c i v x l co wo k0 k1 = absurd (grind arith)
collect_pawns w h H (free r) c i v x l co wo k0 k1 = absurd (grind arith)
collect_pawns w h H (drain r) c i v x l co wo k0 k1 = absurd (grind arith)
collect_pawns w h H (prom p) c i v x l co wo k0 k1 = absurd (grind arith)

told-both : (v : Stand) (j : ℕ) (y : Marks) (P : Marks → Type 0) → P y → (j ≡ v.kept_way → y.applied ≡ 1 → y.number ≡ v.kept_number → P (applies 2 y.number y)) → P (told v j y)
told-both v j y P a b =
    cond_both (eqb j v.kept_way) _ y P
    (λ e. cond_both (eqb y.applied 1) _ y P
    (λ d. cond_both (eqb y.number v.kept_number) (applies 2 y.number y) y P (λ g. b (eqb-true _ _ e) (eqb-true _ _ d) (eqb-true _ _ g)) (λ g. a)) (λ d. a)) (λ e. a)

-- nobody collects while somebody is promoted
not_promoted_pair : (h H : ℕ) (f : Phase) (c : Cells) (a j : ℕ) (u : Stand) (z : Marks) → promoted_of f ≡ j + 1 → WayOk h H f c a u z → 52 ≤ u.place → u.place ≤ 55 → ⊥
not_promoted_pair h H f c a j u z e d p q = grind arith

tell_own : (h H : ℕ) (f : Phase) (c : Cells) (i : ℕ) (v : Stand) (x : Marks) → ((v.stage ≡ 1) ⊎ (v.stage ≡ 3)) → v.place ≡ 70 → WayOk h H f c i v x → WayOk h H f c i (to (closing v) v) x
tell_own h H idle c i v x k0 k1 wo = grind arith
tell_own h H (solo k) c i v x k0 k1 wo = grind arith
tell_own h H (pair k q) c i v x k0 k1 wo = grind arith
tell_own h H (clean r b) c i v x k0 k1 wo = grind arith
tell_own h H (free r) c i v x k0 k1 wo = grind arith
tell_own h H (drain r) c i v x k0 k1 wo = grind arith
tell_own h H (prom p) c i v x k0 k1 wo = grind arith

tell_other : (h H : ℕ) (f : Phase) (c : Cells) (j : ℕ) (u : Stand) (y : Marks) → promoted_of f ≡ j + 1 → y.applied ≡ 1 → WayOk h H f c j u y → WayOk h H f c j u (applies 2 y.number y)
tell_other h H idle c j u y e d wo = grind arith
tell_other h H (solo k) c j u y e d wo = grind arith
tell_other h H (pair k q) c j u y e d wo = grind arith
tell_other h H (clean r b) c j u y e d wo = grind arith
tell_other h H (free r) c j u y e d wo = grind arith
tell_other h H (drain r) c j u y e d wo = grind arith
tell_other h H (prom p) c j u y e d wo = grind arith

pub mark_promoted : (w h H : ℕ) (f : Phase) (c : Cells) (i : ℕ) (v : Stand) (x : Marks) → Height w h H i → CellsOk w h H f c → WayOk h H f c i v x → ((v.stage ≡ 1) ⊎ (v.stage ≡ 3)) → v.place ≡ 70 → Turn w h H f c i v x f c (to (closing v) v) x Nothing (λ j y. told v j y)
mark_promoted w h H f c i v x l co wo k0 k1 =
    record {
      own = (co, tell_own h H f c i v x k0 k1 wo);
      others = λ j u y m₀ n₀ z d e g.
          told-both v j y (λ y'. WayOk h H f c j u y') z (λ a₀ b₀ d₀. tell_other h H f c j u y (e k1 (sym a₀) b₀ d₀) b₀ z);
      noted = λ a u y m₀ n₀ z d p₀ q₀ r₀. grind arith;
      fresh = λ a u y m₀ n₀ z e d. d;
      noted_others = λ a j u t z y m₀ m₁ n₀ n₁ d e g b p₀ q₀ r₀.
          told-both v j y (λ y'. (u.noted j ≡ 0) ⊎ ((y'.listed ≡ 3) ⊎ ((Pawnish t y' × (t.passage ≡ u.noted j)) ⊎ InPair f j))) (b p₀ q₀ r₀)
          (λ a₀ b₀ d₀. absurd (not_promoted_pair h H f c a j u z (g k1 (sym a₀) b₀ d₀) d p₀ q₀));
      fresh-others = λ a j u z y m₀ m₁ n₀ n₁ d g. told-both v j y (λ y'. Fresh f u j y') g (λ a₀ b₀ d₀ p₀ q₀ r₀ s₀. absurd (omega arith));
      seen_noted = λ j u y _ _ _ _ _ p₀ q₀ _. absurd (grind arith);
      seen_own = λ p₀ q₀ _. absurd (grind arith);
      seen_fresh = λ j y p₀ q₀ r₀ s₀. absurd (grind arith);
    }

pub claim_apply : (w h H : ℕ) (f : Phase) (c : Cells) (i : ℕ) (v : Stand) (x : Marks) (t : Stand) → Height w h H i → CellsOk w h H f c → WayOk h H f c i v x → x.applied ≡ 0 → t.stage ≡ 1 → t.place ≡ 5 → Turn w h H f c i v x f c t (plays 0 (applies 1 t.passage x)) (λ a u y. u.place ≡ 70 → u.kept_way ≡ i → t.passage ≢ u.kept_number) (λ j y. y)
claim_apply w h H f c i v x t l co wo k0 k1 k2 =
    record {
      own = (co, grind arith);
      others = λ j u y m₀ n₀ z d e g. z;
      noted = λ a u y m₀ n₀ z d p₀ q₀ r₀. grind arith;
      fresh = λ a u y m₀ n₀ z e d p₀ q₀ r₀ s₀. absurd (e p₀ q₀ s₀);
      noted_others = λ a j u t z y m₀ m₁ n₀ n₁ d e _ g. g;
      fresh-others = λ a j u z y m₀ m₁ n₀ n₁ d g. g;
      seen_noted = λ j u y _ _ _ _ _ p₀ q₀ _. absurd (grind arith);
      seen_own = λ p₀ q₀ _. absurd (grind arith);
      seen_fresh = λ j y p₀ q₀ r₀ s₀. absurd (grind arith);
    }

pub scan_apply : (w h H : ℕ) (f : Phase) (c : Cells) (i : ℕ) (v : Stand) (x : Marks) (n b' : ℕ) (ns : ℕ → ℕ) → Height w h H i → CellsOk w h H f c → WayOk h H f c i v x → ((v.stage ≡ 1) ⊎ (v.stage ≡ 3)) → v.place ≡ 52 → ((n ≡ 52) × (b' ≡ v.scan + 1)) ⊎ ((n ≡ 55) × (v.scan + 1 ≡ w)) → Turns w h H f c i v x c (to n (scanning b' ns v)) x (λ j u y. (j ≡ v.scan → (ns j ≡ 0) ⊎ ((y.applied ≡ 1) × (y.number ≡ ns j))) × (j ≢ v.scan → ns j ≡ v.noted j)) (λ j y. y)
scan_apply w h H idle c i v x n b' ns l co wo k0 k1 k2 = absurd (grind arith)
scan_apply w h H (solo k) c i v x n b' ns l co wo k0 k1 k2 = absurd (grind arith)
scan_apply w h H (pair k q) c i v x n b' ns l co wo k0 k1 k2 = (
  pair k q,
  record {
    own = (co, grind arith);
    others = λ j u y m₀ n₀ z d e g. z;
    noted = λ a u y _ n₀ z _ p₀ q₀ _. absurd (grind arith);
    fresh = λ a u y m₀ n₀ z e d. d;
    noted_others = λ a j u t z y _ _ n₀ _ d _ _ g p₀ q₀ r₀. g p₀ q₀ r₀;
    fresh-others = λ a j u z y m₀ m₁ n₀ n₁ d g. g;
    seen_noted = λ j u y m₀ n₀ z d g p₀ q₀ r₀. elim (ℕ_discrete j v.scan) [ yes e₀ ↦ grind arith | no e₀ ↦ grind arith ];
    seen_own = λ p₀ q₀ r₀. grind arith;
    seen_fresh = λ j y p₀ q₀ r₀ s₀. grind arith;
  },
)
scan_apply w h H (clean r b) c i v x n b' ns l co wo k0 k1 k2 = absurd (grind arith)
scan_apply w h H (free r) c i v x n b' ns l co wo k0 k1 k2 = absurd (grind arith)
scan_apply w h H (drain r) c i v x n b' ns l co wo k0 k1 k2 = absurd (grind arith)
scan_apply w h H (prom p) c i v x n b' ns l co wo k0 k1 k2 = absurd (grind arith)

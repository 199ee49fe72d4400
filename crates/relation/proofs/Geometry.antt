-- The tree of gates, for two, three and four ways. Assumes nothing.
--     by_shape      what holds at each number of ways and each height holds at all
--     gate_inside   a seat meets a gate of the box, by one of its ways
--     above         seats that share a gate share all gates and ways above it
--     height_apart  gates of different heights are different
use Rattle.std.proofs.Common.{◌≡◌, ℕ, zero, suc, ◌+◌, ◌<◌, ◌≤◌, refl, arith}
use Rattle.layout.specs.Gates.{seats_of, gates_of, gate_of, way_of}

pub by_shape : (P : ℕ → ℕ → Type 0) → P 2 1 → P 3 1 → P 3 2 → P 4 1 → P 4 2 → P 4 3 → (w h : ℕ) → 2 ≤ w → w ≤ 4 → 1 ≤ h → h < w → P w h
by_shape P a b c d e f zero h lo hi l u = absurd (omega arith)
by_shape P a b c d e f (suc zero) h lo hi l u = absurd (omega arith)
by_shape P a b c d e f (suc (suc zero)) zero lo hi l u = absurd (omega arith)
by_shape P a b c d e f (suc (suc zero)) (suc zero) lo hi l u = a
by_shape P a b c d e f (suc (suc zero)) (suc (suc h)) lo hi l u = absurd (omega arith)
by_shape P a b c d e f (suc (suc (suc zero))) zero lo hi l u = absurd (omega arith)
by_shape P a b c d e f (suc (suc (suc zero))) (suc zero) lo hi l u = b
by_shape P a b c d e f (suc (suc (suc zero))) (suc (suc zero)) lo hi l u = c
by_shape P a b c d e f (suc (suc (suc zero))) (suc (suc (suc h))) lo hi l u = absurd (omega arith)
by_shape P a b c d e f (suc (suc (suc (suc zero)))) zero lo hi l u = absurd (omega arith)
by_shape P a b c d e f (suc (suc (suc (suc zero)))) (suc zero) lo hi l u = d
by_shape P a b c d e f (suc (suc (suc (suc zero)))) (suc (suc zero)) lo hi l u = e
by_shape P a b c d e f (suc (suc (suc (suc zero)))) (suc (suc (suc zero))) lo hi l u = f
by_shape P a b c d e f (suc (suc (suc (suc zero)))) (suc (suc (suc (suc h)))) lo hi l u = absurd (omega arith)
by_shape P a b c d e f (suc (suc (suc (suc (suc w))))) h lo hi l u = absurd (omega arith)

pub gate_inside : (w h : ℕ) → 2 ≤ w → w ≤ 4 → 1 ≤ h → h < w → (p : ℕ) → p < seats_of w → (gate_of w p h < gates_of w) × (way_of w p h < w)
gate_inside =
    by_shape (λ w h. (p : ℕ) → p < seats_of w → (gate_of w p h < gates_of w) × (way_of w p h < w))
    (λ p l. (omega arith, omega arith)) (λ p l. (omega arith, omega arith)) (λ p l. (omega arith, omega arith))
    (λ p l. (omega arith, omega arith)) (λ p l. (omega arith, omega arith)) (λ p l. (omega arith, omega arith))

-- one height up
pub above : (w h : ℕ) → 2 ≤ w → w ≤ 4 → 1 ≤ h → h < w → (p q : ℕ) → gate_of w p h ≡ gate_of w q h → (gate_of w p (h + 1) ≡ gate_of w q (h + 1)) × (way_of w p (h + 1) ≡ way_of w q (h + 1))
above =
    by_shape (λ w h. (p q : ℕ) → gate_of w p h ≡ gate_of w q h → (gate_of w p (h + 1) ≡ gate_of w q (h + 1)) × (way_of w p (h + 1) ≡ way_of w q (h + 1)))
    (λ p q e. (omega arith, omega arith)) (λ p q e. (omega arith, omega arith)) (λ p q e. (omega arith, omega arith))
    (λ p q e. (omega arith, omega arith)) (λ p q e. (omega arith, omega arith)) (λ p q e. (omega arith, omega arith))

-- who enters a gate by the same way comes from the same gate below, and at the first height from the same seat
pub below : (w h : ℕ) → 2 ≤ w → w ≤ 4 → 1 ≤ h → h < w → (p q : ℕ) → gate_of w p (h + 1) ≡ gate_of w q (h + 1) → way_of w p (h + 1) ≡ way_of w q (h + 1) → gate_of w p h ≡ gate_of w q h
below =
    by_shape (λ w h. (p q : ℕ) → gate_of w p (h + 1) ≡ gate_of w q (h + 1) → way_of w p (h + 1) ≡ way_of w q (h + 1) → gate_of w p h ≡ gate_of w q h)
    (λ p q e d. omega arith) (λ p q e d. omega arith) (λ p q e d. omega arith) (λ p q e d. omega arith) (λ p q e d. omega arith) (λ p q e d. omega arith)

pub same_seat : (w : ℕ) → 2 ≤ w → w ≤ 4 → (p q : ℕ) → gate_of w p 1 ≡ gate_of w q 1 → way_of w p 1 ≡ way_of w q 1 → p ≡ q
same_seat w lo hi =
    by_shape (λ w h. (p q : ℕ) → gate_of w p 1 ≡ gate_of w q 1 → way_of w p 1 ≡ way_of w q 1 → p ≡ q)
    (λ p q e d. omega arith) (λ p q e d. omega arith) (λ p q e d. omega arith) (λ p q e d. omega arith) (λ p q e d. omega arith) (λ p q e d. omega arith) w 1 lo hi (omega arith) (omega arith)

heights₂ : (k : ℕ) → 1 ≤ k → k < 2 → (p q : ℕ) → p < seats_of 2 → q < seats_of 2 → gate_of 2 p 1 ≡ gate_of 2 q k → 1 ≡ k
heights₂ k m v =
    by_shape (λ x k. x ≡ 2 → (p q : ℕ) → p < seats_of 2 → q < seats_of 2 → gate_of 2 p 1 ≡ gate_of 2 q k → 1 ≡ k)
    (λ y p q a b e. omega arith) (λ y p q a b e. omega arith) (λ y p q a b e. omega arith) (λ y p q a b e. omega arith) (λ y p q a b e. omega arith) (λ y p q a b e. omega arith) 2 k (omega arith) (omega arith) m v refl

heights₃₁ : (k : ℕ) → 1 ≤ k → k < 3 → (p q : ℕ) → p < seats_of 3 → q < seats_of 3 → gate_of 3 p 1 ≡ gate_of 3 q k → 1 ≡ k
heights₃₁ k m v =
    by_shape (λ x k. x ≡ 3 → (p q : ℕ) → p < seats_of 3 → q < seats_of 3 → gate_of 3 p 1 ≡ gate_of 3 q k → 1 ≡ k)
    (λ y p q a b e. omega arith) (λ y p q a b e. omega arith) (λ y p q a b e. omega arith) (λ y p q a b e. omega arith) (λ y p q a b e. omega arith) (λ y p q a b e. omega arith) 3 k (omega arith) (omega arith) m v refl

heights₃₂ : (k : ℕ) → 1 ≤ k → k < 3 → (p q : ℕ) → p < seats_of 3 → q < seats_of 3 → gate_of 3 p 2 ≡ gate_of 3 q k → 2 ≡ k
heights₃₂ k m v =
    by_shape (λ x k. x ≡ 3 → (p q : ℕ) → p < seats_of 3 → q < seats_of 3 → gate_of 3 p 2 ≡ gate_of 3 q k → 2 ≡ k)
    (λ y p q a b e. omega arith) (λ y p q a b e. omega arith) (λ y p q a b e. omega arith) (λ y p q a b e. omega arith) (λ y p q a b e. omega arith) (λ y p q a b e. omega arith) 3 k (omega arith) (omega arith) m v refl

heights₄₁ : (k : ℕ) → 1 ≤ k → k < 4 → (p q : ℕ) → p < seats_of 4 → q < seats_of 4 → gate_of 4 p 1 ≡ gate_of 4 q k → 1 ≡ k
heights₄₁ k m v =
    by_shape (λ x k. x ≡ 4 → (p q : ℕ) → p < seats_of 4 → q < seats_of 4 → gate_of 4 p 1 ≡ gate_of 4 q k → 1 ≡ k)
    (λ y p q a b e. omega arith) (λ y p q a b e. omega arith) (λ y p q a b e. omega arith) (λ y p q a b e. omega arith) (λ y p q a b e. omega arith) (λ y p q a b e. omega arith) 4 k (omega arith) (omega arith) m v refl

heights₄₂ : (k : ℕ) → 1 ≤ k → k < 4 → (p q : ℕ) → p < seats_of 4 → q < seats_of 4 → gate_of 4 p 2 ≡ gate_of 4 q k → 2 ≡ k
heights₄₂ k m v =
    by_shape (λ x k. x ≡ 4 → (p q : ℕ) → p < seats_of 4 → q < seats_of 4 → gate_of 4 p 2 ≡ gate_of 4 q k → 2 ≡ k)
    (λ y p q a b e. omega arith) (λ y p q a b e. omega arith) (λ y p q a b e. omega arith) (λ y p q a b e. omega arith) (λ y p q a b e. omega arith) (λ y p q a b e. omega arith) 4 k (omega arith) (omega arith) m v refl

heights₄₃ : (k : ℕ) → 1 ≤ k → k < 4 → (p q : ℕ) → p < seats_of 4 → q < seats_of 4 → gate_of 4 p 3 ≡ gate_of 4 q k → 3 ≡ k
heights₄₃ k m v =
    by_shape (λ x k. x ≡ 4 → (p q : ℕ) → p < seats_of 4 → q < seats_of 4 → gate_of 4 p 3 ≡ gate_of 4 q k → 3 ≡ k)
    (λ y p q a b e. omega arith) (λ y p q a b e. omega arith) (λ y p q a b e. omega arith) (λ y p q a b e. omega arith) (λ y p q a b e. omega arith) (λ y p q a b e. omega arith) 4 k (omega arith) (omega arith) m v refl

pub height_apart : (w h : ℕ) → 2 ≤ w → w ≤ 4 → 1 ≤ h → h < w → (k p q : ℕ) → 1 ≤ k → k < w → p < seats_of w → q < seats_of w → gate_of w p h ≡ gate_of w q k → h ≡ k
height_apart w h lo hi l u k p q m v a b =
    by_shape (λ w h. (k : ℕ) → 1 ≤ k → k < w → (p q : ℕ) → p < seats_of w → q < seats_of w → gate_of w p h ≡ gate_of w q k → h ≡ k)
    (λ k m v. heights₂ k m v) (λ k m v. heights₃₁ k m v) (λ k m v. heights₃₂ k m v) (λ k m v. heights₄₁ k m v) (λ k m v. heights₄₂ k m v) (λ k m v. heights₄₃ k m v) w h lo hi l u k m v p q a b

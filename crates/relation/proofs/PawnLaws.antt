-- The pairs of a pawn word after each operation on it. Assumes nothing.
--     lanes-packed                      four pairs of 16 bits, packed and taken apart again
--     lanes-with                        another pair for one way leaves the pairs of the others
--     lane-fits                         a pair has 16 bits
--     lane-same, lane-other, with_fits  the same, way by way; and the word still has 64 bits
--     lanes-collect, collect_fits       after a collect
use Rattle.std.proofs.Common.{◌≡◌, ℕ, zero, suc, ◌+◌, ◌*◌, ◌/◌, ◌%◌, ◌^◌, ◌<◌, ◌≤◌, ◌≢◌, List, [], ◌∷◌, get_or, set, refl, ap, ◌∙◌, arith}
use Rattle.std.proofs.lemmas.List.{get_or-set_same, get_or-set_other}
use Rattle.std.proofs.lemmas.Bool.Decides.{nat_tests}
use Rattle.steps.specs.Pawns.{lanes, packed, lane, with_lane, collect_lane, collect_at, collect_word, Notable}

low : (w a v : ℕ) → a < 65536 → w ≡ a + 65536 * v → w % 65536 ≡ a
low w a v h e = omega arith

next : (w a v : ℕ) → a < 65536 → w ≡ a + 65536 * v → w / 65536 ≡ v
next w a v h e = omega arith

third : (w a v : ℕ) → a < 4294967296 → w ≡ a + 4294967296 * v → w / 4294967296 ≡ v
third w a v h e = omega arith

fourth : (w a v : ℕ) → a < 281474976710656 → w ≡ a + 281474976710656 * v → w / 281474976710656 ≡ v
fourth w a v h e = omega arith

lanes-of : (w a b c d : ℕ) → a < 65536 → b < 65536 → c < 65536 → w ≡ a + b * 65536 + c * 4294967296 + d * 281474976710656 → lanes w ≡ a ∷ b ∷ c ∷ d ∷ []
lanes-of w a b c d ha hb hc e =
    let first = low w a (b + 65536 * c + 4294967296 * d) ha (omega arith) in
    let rest = next w a (b + 65536 * c + 4294967296 * d) ha (omega arith) in
    let second = low (w / 65536) b (c + 65536 * d) hb (omega arith) in
    let upper = third w (a + 65536 * b) (c + 65536 * d) (omega arith) (omega arith) in
    let lower = low (w / 4294967296) c d hc (omega arith) in
    let last = fourth w (a + 65536 * b + 4294967296 * c) d (omega arith) (omega arith) in cc

pub lanes-packed : (a b c d : ℕ) → a < 65536 → b < 65536 → c < 65536 → lanes (packed (a ∷ b ∷ c ∷ d ∷ [])) ≡ a ∷ b ∷ c ∷ d ∷ []
lanes-packed a b c d ha hb hc = lanes-of _ a b c d ha hb hc refl

pub lanes-with : (w i x : ℕ) → i < 4 → x < 65536 → lanes (with_lane w i x) ≡ set (lanes w) i x
lanes-with w zero x l h = lanes-packed x (w / 65536 % 65536) (w / 4294967296 % 65536) (w / 281474976710656) h (omega arith) (omega arith)
lanes-with w (suc zero) x l h = lanes-packed (w % 65536) x (w / 4294967296 % 65536) (w / 281474976710656) (omega arith) h (omega arith)
lanes-with w (suc (suc zero)) x l h = lanes-packed (w % 65536) (w / 65536 % 65536) x (w / 281474976710656) (omega arith) (omega arith) h
lanes-with w (suc (suc (suc zero))) x l h = lanes-packed (w % 65536) (w / 65536 % 65536) (w / 4294967296 % 65536) x (omega arith) (omega arith) (omega arith)
lanes-with w (suc (suc (suc (suc i)))) x l h = absurd (omega arith)

pub lane-same : (w i x : ℕ) → i < 4 → x < 65536 → lane (with_lane w i x) i ≡ x
lane-same w i x l h = ap (λ xs. get_or xs i 0) (lanes-with w i x l h) ∙ get_or-set_same (lanes w) i x 0 l

pub lane-other : (w i j x : ℕ) → i < 4 → x < 65536 → j ≢ i → lane (with_lane w i x) j ≡ lane w j
lane-other w i j x l h ne = ap (λ xs. get_or xs j 0) (lanes-with w i x l h) ∙ get_or-set_other (lanes w) i j x 0 ne

packed-fits : (a b c d : ℕ) → a < 65536 → b < 65536 → c < 65536 → d < 65536 → packed (a ∷ b ∷ c ∷ d ∷ []) < 2 ^ 64
packed-fits a b c d ha hb hc hd = omega arith

pub with_fits : (w i x : ℕ) → w < 2 ^ 64 → i < 4 → x < 65536 → with_lane w i x < 2 ^ 64
with_fits w zero x f l h = packed-fits x (w / 65536 % 65536) (w / 4294967296 % 65536) (w / 281474976710656) h (omega arith) (omega arith) (omega arith)
with_fits w (suc zero) x f l h = packed-fits (w % 65536) x (w / 4294967296 % 65536) (w / 281474976710656) (omega arith) h (omega arith) (omega arith)
with_fits w (suc (suc zero)) x f l h = packed-fits (w % 65536) (w / 65536 % 65536) x (w / 281474976710656) (omega arith) (omega arith) h (omega arith)
with_fits w (suc (suc (suc zero))) x f l h = packed-fits (w % 65536) (w / 65536 % 65536) (w / 4294967296 % 65536) x (omega arith) (omega arith) (omega arith) h
with_fits w (suc (suc (suc (suc i)))) x f l h = absurd (omega arith)

pub lane-fits : (w i : ℕ) → w < 2 ^ 64 → lane w i < 65536
lane-fits w zero f = omega arith
lane-fits w (suc zero) f = omega arith
lane-fits w (suc (suc zero)) f = omega arith
lane-fits w (suc (suc (suc zero))) f = omega arith
lane-fits w (suc (suc (suc (suc i)))) f = omega arith

collected-fits : (x n : ℕ) → x < 65536 → n ≤ 16383 → collect_lane x n < 65536
collected-fits x n h l = grind (arith, nat_tests)

collect_at_fits : (w ways i : ℕ) (ns : List ℕ) → w < 2 ^ 64 → get_or ns i 0 ≤ 16383 → collect_at w ways ns i < 65536
collect_at_fits w ways i ns f l =
    let a = lane-fits w i f in let b = collected-fits (lane w i) (get_or ns i 0) a l in grind (arith, nat_tests)

module _ (w ways : ℕ) (ns : List ℕ) (f : w < 2 ^ 64) (n : Notable ns) where
  at₀ : collect_at w ways ns 0 < 65536
  at₀ = collect_at_fits w ways 0 ns f n.first

  at₁ : collect_at w ways ns 1 < 65536
  at₁ = collect_at_fits w ways 1 ns f n.second

  at₂ : collect_at w ways ns 2 < 65536
  at₂ = collect_at_fits w ways 2 ns f n.third

  at₃ : collect_at w ways ns 3 < 65536
  at₃ = collect_at_fits w ways 3 ns f n.fourth

  pub lanes-collect : lanes (collect_word w ways ns) ≡ collect_at w ways ns 0 ∷ collect_at w ways ns 1 ∷ collect_at w ways ns 2 ∷ collect_at w ways ns 3 ∷ []
  lanes-collect = lanes-packed (collect_at w ways ns 0) (collect_at w ways ns 1) (collect_at w ways ns 2) (collect_at w ways ns 3) at₀ at₁ at₂

  pub collect_fits : collect_word w ways ns < 2 ^ 64
  collect_fits = packed-fits (collect_at w ways ns 0) (collect_at w ways ns 1) (collect_at w ways ns 2) (collect_at w ways ns 3) at₀ at₁ at₂ at₃

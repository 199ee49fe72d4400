-- The words of an image, one by one, and after a write of one word. Assumes nothing.
use Rattle.std.proofs.Common.{◌≡◌, ℕ, ◌+◌, ◌-◌, ◌*◌, ◌/◌, ◌^◌, ◌<◌, ◌≤◌, List, ◌++◌, length, get_or, take, drop, set, sym, ap, ◌∙◌, ⊎_elim, arith, rules, add-zero}
use Rattle.std.proofs.lemmas.List.FromFn.{length-map-range_with_len, get_or-map-range_with_len}
use Rattle.std.proofs.lemmas.List.{places, ext_get_or, get_or-set_same, get_or-set_other, length-set, length-take-le, get_or_append_left, get_or-append_right}
use Rattle.std.proofs.lemmas.Bool.{cases_eq, cases_lt}
use Rattle.store.specs.Image.{image_words, word_at, bytes_of, with_word}

pub length-image : (bs : List ℕ) → length (image_words bs) ≡ (length bs - 5) / 8
unfolding image_words
length-image bs = length-map-range_with_len (λ k. word_at bs (5 + 8 * k)) 0 ((length bs - 5) / 8)

pub get_or-image : (bs : List ℕ) (k : ℕ) → k < (length bs - 5) / 8 → get_or (image_words bs) k 0 ≡ word_at bs (5 + 8 * k)
unfolding image_words
get_or-image bs k h = get_or-map-range_with_len (λ k. word_at bs (5 + 8 * k)) 0 ((length bs - 5) / 8) k k 0 h (omega arith)

pub length-put : (bs : List ℕ) (at w : ℕ) → at + 8 ≤ length bs → length (with_word bs at w) ≡ length bs
unfolding with_word
length-put bs at w h = search (rules, places)

pub get_or-put_below : (bs : List ℕ) (at w j : ℕ) → at + 8 ≤ length bs → j < at → get_or (with_word bs at w) j 0 ≡ get_or bs j 0
unfolding with_word
get_or-put_below bs at w j h l = search (rules, places)

pub get_or-put_above : (bs : List ℕ) (at w j : ℕ) → at + 8 ≤ length bs → at + 8 ≤ j → get_or (with_word bs at w) j 0 ≡ get_or bs j 0
unfolding with_word
get_or-put_above bs at w j h l = search (rules, places)

pub get_or-put_in : (bs : List ℕ) (at w j : ℕ) → at + 8 ≤ length bs → j < 8 → get_or (with_word bs at w) (at + j) 0 ≡ get_or (bytes_of w) j 0
unfolding with_word
get_or-put_in bs at w j h l =
    let e : length (take at bs) ≡ at = length-take-le at bs (omega arith) in
    let s : at + j - at ≡ j = omega arith in
    get_or-append_right (take at bs) (bytes_of w ++ drop (at + 8) bs) at (at + j) 0 e (omega arith)
    ∙ (ap (λ n. get_or (bytes_of w ++ drop (at + 8) bs) n 0) s
    ∙ get_or_append_left (bytes_of w) (drop (at + 8) bs) 0 j l)

-- the word that was written, and each other word
pub word_at-put : (bs : List ℕ) (at w : ℕ) → at + 8 ≤ length bs → w < 2 ^ 64 → word_at (with_word bs at w) at ≡ w
word_at-put bs at w h l =
    let e = λ (j : ℕ) (b : j < 8). get_or-put_in bs at w j h b in
    omega (arith, rw add-zero at (e 0 (omega arith)), e 1 (omega arith), e 2 (omega arith), e 3 (omega arith), e 4 (omega arith), e 5 (omega arith), e 6 (omega arith), e 7 (omega arith))

pub word_at-put_below : (bs : List ℕ) (at w j : ℕ) → at + 8 ≤ length bs → j + 8 ≤ at → word_at (with_word bs at w) j ≡ word_at bs j
word_at-put_below bs at w j h l =
    let e = λ (i : ℕ) (b : i < at). get_or-put_below bs at w i h b in
    omega (arith, e j (omega arith), e (j + 1) (omega arith), e (j + 2) (omega arith), e (j + 3) (omega arith), e (j + 4) (omega arith), e (j + 5) (omega arith), e (j + 6) (omega arith), e (j + 7) (omega arith))

pub word_at-put_above : (bs : List ℕ) (at w j : ℕ) → at + 8 ≤ length bs → at + 8 ≤ j → word_at (with_word bs at w) j ≡ word_at bs j
word_at-put_above bs at w j h l =
    let e = λ (i : ℕ) (b : at + 8 ≤ i). get_or-put_above bs at w i h b in
    omega (arith, e j (omega arith), e (j + 1) (omega arith), e (j + 2) (omega arith), e (j + 3) (omega arith), e (j + 4) (omega arith), e (j + 5) (omega arith), e (j + 6) (omega arith), e (j + 7) (omega arith))

module _ (bs : List ℕ) (k w : ℕ) (h : k < (length bs - 5) / 8) (l : w < 2 ^ 64) where
  room : 5 + 8 * k + 8 ≤ length bs
  room = omega arith

  same_size : (length (with_word bs (5 + 8 * k) w) - 5) / 8 ≡ (length bs - 5) / 8
  same_size = ap (λ n. (n - 5) / 8) (length-put bs (5 + 8 * k) w room)

  pub image_put : image_words (with_word bs (5 + 8 * k) w) ≡ set (image_words bs) k w
  image_put =
      let long = length-image bs in
      let lens : length (image_words (with_word bs (5 + 8 * k) w)) ≡ (length bs - 5) / 8 = length-image (with_word bs (5 + 8 * k) w) ∙ same_size in
      ext_get_or 0 _ _ (lens ∙ sym (length-set (image_words bs) k w ∙ long))
      (λ i b.
      let i-in : i < (length bs - 5) / 8 = omega arith in
      let i-put : i < (length (with_word bs (5 + 8 * k) w) - 5) / 8 = omega (arith, same_size) in
      get_or-image (with_word bs (5 + 8 * k) w) i i-put
      ∙ ⊎_elim
      (λ (e : i ≡ k).
      let k-in : k < length (image_words bs) = omega arith in
      let a : word_at (with_word bs (5 + 8 * k) w) (5 + 8 * k) ≡ w = word_at-put bs (5 + 8 * k) w room l in
      let s = get_or-set_same (image_words bs) k w 0 k-in in cc)
      (λ (ne : i ≡ k → ⊥).
      let s = get_or-set_other (image_words bs) k i w 0 ne in
      let o = get_or-image bs i i-in in
      let a : word_at (with_word bs (5 + 8 * k) w) (5 + 8 * i) ≡ word_at bs (5 + 8 * i) =
      ⊎_elim (λ (below : i < k). word_at-put_below bs (5 + 8 * k) w (5 + 8 * i) room (omega arith))
      (λ (above : k ≤ i). word_at-put_above bs (5 + 8 * k) w (5 + 8 * i) room (omega arith)) (cases_lt i k) in
      a ∙ sym (s ∙ o))
      (cases_eq i k))

-- what the functions of an image use
pub ruleset image_steps = (length-image, get_or-image, image_put)

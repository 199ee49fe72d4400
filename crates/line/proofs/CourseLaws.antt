-- Sessions: one message more, and more bytes behind. Assumes nothing.
--     course-next   a session by its next message
--     course-end    a session with no input left
--     next_more     what the reader finds stays, whatever bytes come after a rest that does not wait for any
--     next_fits     a message that was read lies in the rest
--     place_by_lem  the reader's place by the next message
--     placed        the reader's place by what it finds
--     waits_by      whether a rest waits, by its version, its length and its size
--     size_kept     what follows a message that was read stays too
use Rattle.std.proofs.Common.{◌≡◌, ℕ, zero, suc, ◌+◌, ◌-◌, ◌≤◌, Bool, true, false, cond, not, ◌&&◌, ◌||◌, eqb, ltb, leb, List, [], ◌++◌, length, get_or, drop, Some, None, Ok, Err, Option, Result, sym, refl, ap, ◌∙◌, arith, ne_eqb}
use Rattle.std.proofs.lemmas.Bool.Decides.{nat_tests}
use Rattle.std.proofs.lemmas.List.{length-append, length-drop, drop-append-le, take-append-le, get_or_append_left, nil_from_length}
use Rattle.lock.specs.States.{BoxState}
use Rattle.line.specs.declared.fault.LineFault.{LineFault}
use Rattle.line.specs.declared.fault.LineFault.TheVariants.{Version, Frame}
use Rattle.line.specs.Messages.{Request}
use Rattle.line.specs.Reader.{after_header, header_of, next_of, place_by, place_of, size_in}
use Rattle.line.specs.Serving.{served}
use Rattle.line.specs.Sessions.{reply_to}
use Rattle.line.specs.Streams.{waits_for}
use Rattle.line.specs.Courses.{Course, behind, course, course_by, course_in}

next_none : (bs : List ℕ) → length bs ≡ 0 → next_of bs ≡ Ok None
unfolding next_of
next_none bs h = rw (nil_from_length bs h) refl

by_same : (x : Result (Option Request) LineFault) (b : BoxState) (f g : BoxState → Course) → ((b' : BoxState) → f b' ≡ g b') → course_by x b f ≡ course_by x b g
by_same (Ok None) b f g h = refl
by_same (Ok (Some q)) b f g h = ap (behind (reply_to b q)) (h (served b q).after)
by_same (Err e) b f g h = refl

shorter : (bs : List ℕ) (n : ℕ) → length bs ≤ suc n → length (drop (3 + size_in bs) bs) ≤ n
shorter bs n h = omega (arith, length-drop (3 + size_in bs) bs)

-- as many messages as there are bytes are enough
enough : (n m : ℕ) (b : BoxState) (bs : List ℕ) → length bs ≤ n → length bs ≤ m → course_in n b bs ≡ course_in m b bs
enough zero zero b bs h k = refl
enough zero (suc m) b bs h k =
    sym (ap (λ x. course_by x b (λ b'. course_in m b' (drop (3 + size_in bs) bs))) (next_none bs (omega arith)))
enough (suc n) zero b bs h k =
    ap (λ x. course_by x b (λ b'. course_in n b' (drop (3 + size_in bs) bs))) (next_none bs (omega arith))
enough (suc n) (suc m) b bs h k =
    by_same (next_of bs) b (λ b'. course_in n b' (drop (3 + size_in bs) bs)) (λ b'. course_in m b' (drop (3 + size_in bs) bs))
    (λ b'. enough n m b' (drop (3 + size_in bs) bs) (shorter bs n h) (shorter bs m k))

pub course-next : (b : BoxState) (bs : List ℕ) → course b bs ≡ course_by (next_of bs) b (λ b'. course b' (drop (3 + size_in bs) bs))
unfolding course
course-next b bs =
    enough (length bs) (suc (length bs)) b bs (omega arith) (omega arith)
    ∙ by_same (next_of bs) b (λ b'. course_in (length bs) b' (drop (3 + size_in bs) bs)) (λ b'. course b' (drop (3 + size_in bs) bs))
    (λ b'. enough (length bs) (length (drop (3 + size_in bs) bs)) b' (drop (3 + size_in bs) bs) (shorter bs (length bs) (omega arith)) (omega arith))

pub course-end : (b : BoxState) (bs : List ℕ) → length bs ≡ 0 → course b bs ≡ record { replies = []; box = b }
course-end b bs h =
    course-next b bs ∙ ap (λ x. course_by x b (λ b'. course b' (drop (3 + size_in bs) bs))) (next_none bs h)

-- a header by its version, its rest's length and its size
abbrev header_by : (v l s : ℕ) → Result ℕ LineFault
header_by v l s =
    cond (not (eqb v 1)) (Err Version)
    (cond (ltb l 3) (Err Frame) (cond (ltb s 1 || (ltb 84 s || ltb (l - 3) s)) (Err Frame) (Ok s)))

abbrev pub waits_by : (v l s : ℕ) → Bool
waits_by v l s =
    cond (eqb l 0) true
    (cond (not (eqb v 1)) false (cond (ltb l 3) true (leb 1 s && (leb s 84 && ltb (l - 3) s))))

header_more : (v l l' s s' : ℕ) → waits_by v l s ≡ false → l ≤ l' → (3 ≤ l → s' ≡ s) → header_by v l' s' ≡ header_by v l s
header_more v l l' s s' h k e = grind (arith, nat_tests)

header_fits : (v l s n : ℕ) → header_by v l s ≡ Ok n → (n ≡ s) × (3 + n ≤ l)
header_fits v l s n h = (grind (arith, nat_tests), grind (arith, nat_tests))

not_empty : (v l s : ℕ) → waits_by v l s ≡ false → 1 ≤ l
not_empty v l s h = grind (arith, nat_tests)

size_more : (rest xs : List ℕ) → 3 ≤ length rest → size_in (rest ++ xs) ≡ size_in rest
size_more rest xs h =
    let i = get_or_append_left rest xs 0 1 (omega arith) in let j = get_or_append_left rest xs 0 2 (omega arith) in cc

body_more : (rest xs : List ℕ) (y : Result ℕ LineFault) → header_of rest ≡ y → after_header (rest ++ xs) y ≡ after_header rest y
body_more rest xs (Ok n) e =
    let f = header_fits (get_or rest 0 0) (length rest) (size_in rest) n e in
    let g : n ≤ length (drop 3 rest) = simp length-drop (omega (arith, f.1)) in
    let i = drop-append-le 3 rest xs (omega (arith, f.1)) in
    rw (i, take-append-le n (drop 3 rest) xs g) refl
body_more rest xs (Err f) e = refl

pub next_more : (rest xs : List ℕ) → waits_for rest ≡ false → next_of (rest ++ xs) ≡ next_of rest
unfolding next_of
next_more rest xs h =
    let l : 1 ≤ length rest = not_empty (get_or rest 0 0) (length rest) (size_in rest) h in
    let m = length-append rest xs in
    let hd : header_of (rest ++ xs) ≡ header_of rest =
    ap (λ v. header_by v (length (rest ++ xs)) (size_in (rest ++ xs))) (get_or_append_left rest xs 0 0 l)
    ∙ header_more (get_or rest 0 0) (length rest) (length (rest ++ xs)) (size_in rest) (size_in (rest ++ xs)) h (omega arith) (size_more rest xs) in
    let y : eqb (length (rest ++ xs)) 0 ≡ false = ne_eqb (length (rest ++ xs)) 0 (λ k. omega arith) in
    let z : eqb (length rest) 0 ≡ false = ne_eqb (length rest) 0 (λ k. omega arith) in
    rw (y, z, hd) (body_more rest xs (header_of rest) refl)

fits_by : (rest : List ℕ) (q : Request) (z : Bool) (y : Result ℕ LineFault) → header_of rest ≡ y → cond z (Ok None) (after_header rest y) ≡ Ok (Some q) → 3 + size_in rest ≤ length rest
fits_by rest q true y e k = cc
fits_by rest q false (Ok n) e k =
    let f = header_fits (get_or rest 0 0) (length rest) (size_in rest) n e in omega (arith, f.0, f.1)
fits_by rest q false (Err f) e k = cc

pub next_fits : (rest : List ℕ) (q : Request) → next_of rest ≡ Ok (Some q) → 3 + size_in rest ≤ length rest
unfolding next_of
next_fits rest q k = fits_by rest q (eqb (length rest) 0) (header_of rest) refl k

pub size_kept : (rest xs : List ℕ) (q : Request) → next_of rest ≡ Ok (Some q) → drop (3 + size_in (rest ++ xs)) (rest ++ xs) ≡ drop (3 + size_in rest) rest ++ xs
size_kept rest xs q e =
    let f = next_fits rest q e in
    ap (λ n. drop (3 + n) (rest ++ xs)) (size_more rest xs (omega arith)) ∙ drop-append-le (3 + size_in rest) rest xs f

pub place_by_lem : (at : ℕ) (rest : List ℕ) → place_of at rest ≡ place_by at rest (next_of rest)
unfolding place_of
place_by_lem at rest = refl

pub placed : (at : ℕ) (rest : List ℕ) (x : Result (Option Request) LineFault) → next_of rest ≡ x → place_of at rest ≡ place_by at rest x
placed at rest x e = place_by_lem at rest ∙ ap (place_by at rest) e

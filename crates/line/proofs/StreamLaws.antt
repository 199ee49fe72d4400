-- Turns of a session from its answers. Assumes nothing.
--     answered_cases  what holds of an answer, by its two ways
--     turned_cases    what holds of a turn, by its two ways
--     turn_by         a turn by what the reader finds
--     turns_awaiting  a turn that waits for input
--     written_in      what an answer has written lies in its memory
--     answered_turn   a turn that answers, and what it has written lies in the reply memory
--     same_turn       what a function did is the turn
use Rattle.std.proofs.Common.{◌≡◌, ℕ, ◌+◌, ◌-◌, ◌<◌, ◌≤◌, Bool, true, false, not, ◌&&◌, ltb, List, [], ◌++◌, length, take, drop, Some, None, Ok, Err, Option, Result, refl, ap, ◌∙◌, arith, ltb-true}
use Rattle.std.proofs.lemmas.Bool.{cond_both}
use borrow.Rule.Slice.PartMut.{put_mid}
use Rattle.std.proofs.lemmas.List.{append-nil, drop_all, length-append, length-drop, length-take-le, take_rest}
use Rattle.lock.specs.States.{BoxState}
use Rattle.line.specs.declared.fault.LineFault.{LineFault}
use Rattle.line.specs.declared.fault.LineFault.TheVariants.{ReplyRoom}
use Rattle.line.specs.declared.session.Answered.{Answered}
use Rattle.line.specs.declared.stream.Pause.{Pause}
use Rattle.line.specs.declared.stream.Pause.TheVariants.{Input}
use Rattle.line.specs.Messages.{Request}
use Rattle.line.specs.Reader.{next_of, place_of}
use Rattle.line.specs.Sessions.{Answering, Answers, answered, answered_to, reply_to, refusal_to}
use Rattle.line.specs.Streams.{Turn, Turns, answer_at, awaiting, pause_by, turn_of, turned, turned_by, waits_for, written_by}

-- the rest of a memory that a part is put back into is that part
part_back : (out mem : List ℕ) (w : ℕ) → put_mid w (length out - w) out mem ≡ take w out ++ mem
part_back out mem w =
    let z : drop (length out - w) (drop w out) ≡ [] = drop_all (length out - w) (drop w out) (simp length-drop (omega arith)) in
    ap (λ x. take w out ++ (mem ++ x)) z ∙ ap (λ x. take w out ++ x) (append-nil mem)

-- an answer by its two ways: too little reply memory, or by what the reader finds
pub answered_cases : (b : BoxState) (at : ℕ) (bs out : List ℕ) (P : Answering → Type 0) → (length out < 86 → P (record { answer = Err ReplyRoom; box = b; place = at; memory = out })) → P (answered_to (next_of (drop at bs)) b (place_of at (drop at bs)) out) → P (answered b at bs out)
unfolding answered
answered_cases b at bs out P f g =
    cond_both (ltb (length out) 86) _ _ P (λ z. f (ltb-true (length out) 86 z)) (λ _. g)

-- a turn by its two: it waits for input, or it answers
pub turned_cases : (e : Bool) (bs : List ℕ) (t : Turn) (P : Turn → Type 0) → ((not e && waits_for (drop t.place bs)) ≡ true → P (awaiting t)) → ((not e && waits_for (drop t.place bs)) ≡ false → P (turned_by (answer_at bs t).answer (answer_at bs t) t)) → P (turned e bs t)
unfolding turned
turned_cases e bs t P f g = cond_both (not e && waits_for (drop t.place bs)) _ _ P f g

-- the turn after t, by what the reader finds
abbrev pub turn_by : List ℕ → Turn → Result (Option Request) LineFault → Turn
turn_by bs t x =
    turned_by (answered_to x t.box (place_of t.place (drop t.place bs)) (drop t.written t.memory)).answer (answered_to x t.box (place_of t.place (drop t.place bs)) (drop t.written t.memory)) t

module _ (e : Bool) (bs : List ℕ) (w : ℕ) (b : BoxState) (at : ℕ) (out : List ℕ) where
  pub turns_awaiting : true ≡ (not e && waits_for (drop at bs)) → Turns (turned e bs (turn_of w b at out)) (Some Input) w b at out
  turns_awaiting h =
      turned_cases e bs (turn_of w b at out) (λ o. Turns o (Some Input) w b at out)
      (λ _. record { pause = refl; written = refl; ways = refl; next = refl; seats = refl; cells = refl; place = refl; memory = refl })
      (λ z. cc)

  turns_answered : (r s : Result Answered LineFault) (b' : BoxState) (at' : ℕ) (mem : List ℕ) → false ≡ (not e && waits_for (drop at bs)) → r ≡ (answered b at bs (drop w out)).answer → Answers (answered b at bs (drop w out)) s b' at' mem → Turns (turned e bs (turn_of w b at out)) (pause_by r) (written_by r w) b' at' (put_mid w (length out - w) out mem)
  turns_answered r s b' at' mem h k a =
      turned_cases e bs (turn_of w b at out) (λ o. Turns o (pause_by r) (written_by r w) b' at' (put_mid w (length out - w) out mem)) (λ z. cc)
      (λ z. record { pause = ap pause_by k; written = ap (λ x. written_by x w) k; ways = a.ways; next = a.next; seats = a.seats; cells = a.cells; place = a.place; memory = part_back out mem w ∙ ap (λ x. take w out ++ x) a.memory })

-- a reply lies in its memory
written-to : (x : Result (Option Request) LineFault) (b : BoxState) (at w : ℕ) (out : List ℕ) → written_by (answered_to x b at out).answer w ≤ w + length (answered_to x b at out).memory
written-to (Ok None) b at w out = omega arith
written-to (Ok (Some q)) b at w out =
    omega (arith, length-append (reply_to b q) (drop (length (reply_to b q)) out))
written-to (Err f) b at w out =
    omega (arith, length-append (refusal_to f) (drop (length (refusal_to f)) out))

pub written_in : (b : BoxState) (at w : ℕ) (bs out : List ℕ) → written_by (answered b at bs out).answer w ≤ w + length (answered b at bs out).memory
written_in b at w bs out =
    answered_cases b at bs out (λ o. written_by o.answer w ≤ w + length o.memory) (λ _. omega arith)
    (written-to (next_of (drop at bs)) b (place_of at (drop at bs)) w out)

-- a turn that answers, and lies in the reply memory
pub answered_turn : (e : Bool) (bs : List ℕ) (w : ℕ) (b : BoxState) (at : ℕ) (out : List ℕ) (r s : Result Answered LineFault) (b' : BoxState) (at' : ℕ) (mem : List ℕ) → w ≤ length out → false ≡ (not e && waits_for (drop at bs)) → r ≡ (answered b at bs (take (length out - w) (drop w out))).answer → Answers (answered b at bs (take (length out - w) (drop w out))) s b' at' mem → Turns (turned e bs (turn_of w b at out)) (pause_by r) (written_by r w) b' at' (put_mid w (length out - w) out mem) × (written_by r w ≤ length (put_mid w (length out - w) out mem))
answered_turn e bs w b at out r s b' at' mem l h k a =
    let k' = rw (take_rest out w) at k in
    let a' = rw (take_rest out w) at a in
    let i = written_in b at w bs (drop w out) in
    let j = ap length (part_back out mem w ∙ ap (λ x. take w out ++ x) a'.memory) in
    let m = length-append (take w out) (answered b at bs (drop w out)).memory in
    let n = ap (λ x. written_by x w) k' in
    (turns_answered e bs w b at out r s b' at' mem h k' a', omega (arith, length-take-le w out l))

same_box : (b c : BoxState) → b.ways ≡ c.ways → b.next ≡ c.next → b.seats ≡ c.seats → b.cells ≡ c.cells → b ≡ c
same_box b c p q r s =
    let e : ◌≡◌ {A = BoxState} (record { ways = b.ways; next = b.next; seats = b.seats; cells = b.cells }) (record { ways = c.ways; next = c.next; seats = c.seats; cells = c.cells }) = rw (p, q, r, s) refl in
    e

pub same_turn : (o : Turn) (p : Option Pause) (w : ℕ) (b : BoxState) (at : ℕ) (out : List ℕ) → Turns o p w b at out → record { pause = p; written = w; box = b; place = at; memory = out } ≡ o
same_turn o p w b at out s =
    rw (s.pause, s.written, same_box b o.box s.ways s.next s.seats s.cells, s.place, s.memory) refl

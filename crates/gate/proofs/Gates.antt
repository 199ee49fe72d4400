-- A whole gate: all of its ways in one phase, with the two facts that tie one way to another. Assumes nothing.
--     Noted                          what a collector has noted of a way still fits that way
--     Fresh                          an open application with the number that a promoter keeps is that of the promoted pawn
--     Gate                           a gate in a phase, by its cells and what each way shows
--     to, aiming, scanning, keeping  changes of a stand; applies, plays, lists, of marks; counts, and so on, of cells
--     at                             a function with another value at one way
--     gate_same                      a gate that shows the same
--     Turn, Turns a move of one way into a given phase, and into some phase
--     Calm                           one that keeps the phase and the marks of the other ways
--     turned                         the gate after a move
use Rattle.std.proofs.Common.{◌≡◌, ℕ, ◌+◌, ◌<◌, ◌≤◌, cond, eqb, ◌≢◌, ◌⊎◌, sym, subst}
use native.Mathlib.Decide.{ℕ_discrete}
use Rattle.std.proofs.lemmas.Bool.{eq-eqb, ne_eqb}
use Rattle.gate.proofs.Phases.{Stand, Marks, Cells, Phase, idle, solo, pair, clean, free, drain, prom, Pawnish, WayOk, CellsOk}

abbrev pub to : ℕ → Stand → Stand
to n v =
    record { stage = v.stage; place = n; passage = v.passage; aim = v.aim; scan = v.scan; noted = v.noted; kept_way = v.kept_way; kept_number = v.kept_number }

abbrev pub aiming : ℕ → Stand → Stand
aiming a v =
    record { stage = v.stage; place = v.place; passage = v.passage; aim = a; scan = v.scan; noted = v.noted; kept_way = v.kept_way; kept_number = v.kept_number }

abbrev pub scanning : ℕ → (ℕ → ℕ) → Stand → Stand
scanning j ns v =
    record { stage = v.stage; place = v.place; passage = v.passage; aim = v.aim; scan = j; noted = ns; kept_way = v.kept_way; kept_number = v.kept_number }

abbrev pub keeping : ℕ → ℕ → Stand → Stand
keeping j n v =
    record { stage = v.stage; place = v.place; passage = v.passage; aim = v.aim; scan = v.scan; noted = v.noted; kept_way = j; kept_number = n }

-- nobody, at stage 0, or somebody inside, at stage 2
abbrev pub still : ℕ → Stand
still n =
    record { stage = n; place = 0; passage = 0; aim = 0; scan = 0; noted = λ j. 0; kept_way = 0; kept_number = 0 }

-- where one goes to withdraw its application: a climbing one to 32, a leaving one to 48
abbrev pub closing : Stand → ℕ
closing v = cond (eqb v.stage 1) 32 48

abbrev pub applies : ℕ → ℕ → Marks → Marks
applies a n x = record { applied = a; number = n; role = x.role; listed = x.listed; listing = x.listing }

abbrev pub plays : ℕ → Marks → Marks
plays r x = record { applied = x.applied; number = x.number; role = r; listed = x.listed; listing = x.listing }

abbrev pub lists : ℕ → ℕ → Marks → Marks
lists a n x = record { applied = x.applied; number = x.number; role = x.role; listed = a; listing = n }

abbrev pub counts : ℕ → Cells → Cells
counts n c = record { count = n; sync_one = c.sync_one; sync_two = c.sync_two }

abbrev pub syncs_one : ℕ → Cells → Cells
syncs_one n c = record { count = c.count; sync_one = n; sync_two = c.sync_two }

abbrev pub syncs_two : ℕ → Cells → Cells
syncs_two n c = record { count = c.count; sync_one = c.sync_one; sync_two = n }

abbrev pub at : {A : Type 0} → (ℕ → A) → ℕ → A → ℕ → A
at u i v j = cond (eqb j i) v (u j)

-- king or queen of a pair
abbrev pub InPair : Phase → ℕ → Type 0
InPair idle j = ⊥
InPair (solo k) j = ⊥
InPair (pair k q) j = (j ≡ k) ⊎ (j ≡ q)
InPair (clean r a) j = ⊥
InPair (free r) j = ⊥
InPair (drain r) j = ⊥
InPair (prom p) j = ⊥

-- the promoted way, plus 1, or 0
abbrev pub promoted_of : Phase → ℕ
promoted_of idle = 0
promoted_of (solo k) = 0
promoted_of (pair k q) = 0
promoted_of (clean r a) = 0
promoted_of (free r) = 0
promoted_of (drain r) = 0
promoted_of (prom p) = p + 1

-- of a way that it has read: nothing was noted, or the way was struck out since, or the noted passage still waits, or it is
-- the king's or the queen's way
abbrev pub Noted : Phase → Stand → ℕ → Stand → Marks → Type 0
Noted f u j v x = 52 ≤ u.place → u.place ≤ 55 → ((u.place ≡ 55) ⊎ (j < u.scan))
    → (u.noted j ≡ 0) ⊎ ((x.listed ≡ 3) ⊎ ((Pawnish v x × (v.passage ≡ u.noted j)) ⊎ InPair f j))

abbrev pub Fresh : Phase → Stand → ℕ → Marks → Type 0
Fresh f u j x = u.place ≡ 70 → u.kept_way ≡ j → x.applied ≡ 1 → x.number ≡ u.kept_number → promoted_of f ≡ j + 1

pub record Gate (w h H : ℕ) (f : Phase) (c : Cells) (u : ℕ → Stand) (y : ℕ → Marks) : Type 0 where
  pub cells : CellsOk w h H f c
  pub ways : (j : ℕ) → j < w → WayOk h H f c j (u j) (y j)
  pub noted : (a j : ℕ) → a < w → j < w → Noted f (u a) j (u j) (y j)
  pub fresh : (a j : ℕ) → a < w → j < w → Fresh f (u a) j (y j)

-- a property of a function with another value at one way
pub at_both : {A : Type 0} (u : ℕ → A) (i j : ℕ) (v : A) (P : A → Type 0) → (j ≡ i → P v) → (j ≢ i → P (u j)) → P (at u i v j)
at_both u i j v P a b =
    elim (ℕ_discrete j i) [
      | yes e ↦ subst (λ t. P (cond t v (u j))) (sym (eq-eqb j i e)) (a e)
      | no e ↦ subst (λ t. P (cond t v (u j))) (sym (ne_eqb j i e)) (b e)
    ]

pub gate_same : (w h H : ℕ) (f : Phase) (c : Cells) (u u' : ℕ → Stand) (y y' : ℕ → Marks) → Gate w h H f c u y → ((j : ℕ) → j < w → u' j ≡ u j) → ((j : ℕ) → j < w → y' j ≡ y j) → Gate w h H f c u' y'
gate_same w h H f c u u' y y' g e d =
    record {
      cells = g.cells;
      ways = λ j l.
          subst (λ (v : Stand). WayOk h H f c j v (y' j)) (sym (e j l)) (subst (λ (x : Marks). WayOk h H f c j (u j) x) (sym (d j l)) (g.ways j l));
      noted = λ a j k l.
          subst (λ (v : Stand). Noted f v j (u' j) (y' j)) (sym (e a k))
          (subst (λ (v : Stand). Noted f (u a) j v (y' j)) (sym (e j l)) (subst (λ (x : Marks). Noted f (u a) j (u j) x) (sym (d j l)) (g.noted a j k l)));
      fresh = λ a j k l.
          subst (λ (v : Stand). Fresh f v j (y' j)) (sym (e a k)) (subst (λ (x : Marks). Fresh f (u a) j x) (sym (d j l)) (g.fresh a j k l));
    }

-- way i of a gate at height h
pub record Height (w h H i : ℕ) : Type 0 where
  pub low : 1 ≤ h
  pub high : h ≤ H
  pub most : H ≤ 3
  pub way : i < w

-- a move of way i into the phase f', which alters the marks of the others; E is what is known of those before
pub record Turn (w h H : ℕ) (f : Phase) (c : Cells) (i : ℕ) (v : Stand) (x : Marks) (f' : Phase) (c' : Cells) (v' : Stand) (x' : Marks) (E : ℕ → Stand → Marks → Type 0) (alter : ℕ → Marks → Marks) : Type 0 where
  pub own : CellsOk w h H f' c' × WayOk h H f' c' i v' x'
  pub others : (j : ℕ) (u : Stand) (y : Marks) → j < w → j ≢ i → WayOk h H f c j u y → Noted f v j u y → Fresh f v j y → E j u y → WayOk h H f' c' j u (alter j y)
  pub noted : (a : ℕ) (u : Stand) (y : Marks) → a < w → a ≢ i → WayOk h H f c a u y → Noted f u i v x → Noted f' u i v' x'
  pub fresh : (a : ℕ) (u : Stand) (y : Marks) → a < w → a ≢ i → WayOk h H f c a u y → E a u y → Fresh f u i x → Fresh f' u i x'
  pub noted_others : (a j : ℕ) (u t : Stand) (z y : Marks) → a < w → j < w → a ≢ i → j ≢ i → WayOk h H f c a u z → WayOk h H f c j t y → Fresh f v j y → Noted f u j t y → Noted f' u j t (alter j y)
  pub fresh-others : (a j : ℕ) (u : Stand) (z y : Marks) → a < w → j < w → a ≢ i → j ≢ i → WayOk h H f c a u z → Fresh f u j y → Fresh f' u j (alter j y)
  pub seen_noted : (j : ℕ) (u : Stand) (y : Marks) → j < w → j ≢ i → WayOk h H f c j u y → Noted f v j u y → E j u y → Noted f' v' j u (alter j y)
  pub seen_own : Noted f' v' i v' x'
  pub seen_fresh : (j : ℕ) (y : Marks) → Fresh f' v' j y

abbrev pub Turns : (w h H : ℕ) → Phase → Cells → ℕ → Stand → Marks → Cells → Stand → Marks → (ℕ → Stand → Marks → Type 0) → (ℕ → Marks → Marks) → Type 0
Turns w h H f c i v x c' v' x' E alter = (f' : Phase) × Turn w h H f c i v x f' c' v' x' E alter

abbrev pub Nothing : ℕ → Stand → Marks → Type 0
Nothing j u y = Unit {0}

-- a move of way i in a phase that stays, which leaves the marks of the others
pub record Calm (w h H : ℕ) (f : Phase) (c : Cells) (i : ℕ) (v : Stand) (x : Marks) (c' : Cells) (v' : Stand) (x' : Marks) : Type 0 where
  pub own : CellsOk w h H f c' × WayOk h H f c' i v' x'
  pub others : (j : ℕ) (u : Stand) (y : Marks) → j < w → j ≢ i → WayOk h H f c j u y → WayOk h H f c' j u y
  pub noted : (a : ℕ) (u : Stand) (y : Marks) → a < w → a ≢ i → WayOk h H f c a u y → Noted f u i v x → Noted f u i v' x'
  pub fresh : (a : ℕ) (u : Stand) (y : Marks) → a < w → a ≢ i → WayOk h H f c a u y → Fresh f u i x → Fresh f u i x'
  pub notes-nothing : (j : ℕ) (u : Stand) (y : Marks) → Noted f v' j u y
  pub tells_nobody : (j : ℕ) (y : Marks) → Fresh f v' j y

-- a calm move turns nothing
pub turn_from_calm : (w h H : ℕ) (f : Phase) (c : Cells) (i : ℕ) (v : Stand) (x : Marks) (c' : Cells) (v' : Stand) (x' : Marks) → Calm w h H f c i v x c' v' x' → Turn w h H f c i v x f c' v' x' Nothing (λ j y. y)
turn_from_calm w h H f c i v x c' v' x' m =
    record {
      own = m.own;
      others = λ j u y l n o d e g. m.others j u y l n o;
      noted = λ a u y l n o d. m.noted a u y l n o d;
      fresh = λ a u y l n o e d. m.fresh a u y l n o d;
      noted_others = λ a j u t z y l k n o d e g b. b;
      fresh-others = λ a j u z y l k n o d b. b;
      seen_noted = λ j u y l n o d e. m.notes-nothing j u y;
      seen_own = m.notes-nothing i v' x';
      seen_fresh = λ j y. m.tells_nobody j y;
    }

-- the gate after a move of way i
pub turned : (w h H : ℕ) (f : Phase) (c : Cells) (u : ℕ → Stand) (y : ℕ → Marks) (i : ℕ) (f' : Phase) (c' : Cells) (v' : Stand) (x' : Marks) (E : ℕ → Stand → Marks → Type 0) (alter : ℕ → Marks → Marks) → Gate w h H f c u y → i < w → ((j : ℕ) → j < w → j ≢ i → E j (u j) (y j)) → Turn w h H f c i (u i) (y i) f' c' v' x' E alter → Gate w h H f' c' (at u i v') (at (λ j. alter j (y j)) i x')
turned w h H f c u y i f' c' v' x' E alter g il known m =
    record {
      cells = m.own.0;
      ways = λ j l.
          elim (ℕ_discrete j i) [
            | yes e ↦ rw (eq-eqb j i e) (subst (λ (k : ℕ). WayOk h H f' c' k v' x') (sym e) m.own.1)
            | no e ↦ rw (ne_eqb j i e) (m.others j (u j) (y j) l e (g.ways j l) (g.noted i j il l) (g.fresh i j il l) (known j l e))
          ];
      noted = λ a j k l.
          elim (ℕ_discrete a i) [
            | yes d ↦ elim (ℕ_discrete j i) [
              | yes e ↦ rw (eq-eqb a i d, eq-eqb j i e) (subst (λ (n : ℕ). Noted f' v' n v' x') (sym e) m.seen_own)
              | no e ↦ rw (eq-eqb a i d, ne_eqb j i e) (m.seen_noted j (u j) (y j) l e (g.ways j l) (g.noted i j il l) (known j l e))
            ]
            | no d ↦ elim (ℕ_discrete j i) [
              | yes e ↦ rw (ne_eqb a i d, eq-eqb j i e) (subst (λ (n : ℕ). Noted f' (u a) n v' x') (sym e) (m.noted a (u a) (y a) k d (g.ways a k) (g.noted a i k il)))
              | no e ↦ rw (ne_eqb a i d, ne_eqb j i e) (m.noted_others a j (u a) (u j) (y a) (y j) k l d e (g.ways a k) (g.ways j l) (g.fresh i j il l) (g.noted a j k l))
            ]
          ];
      fresh = λ a j k l.
          elim (ℕ_discrete a i) [
            | yes d ↦ rw (eq-eqb a i d) (m.seen_fresh j (at (λ k. alter k (y k)) i x' j))
            | no d ↦ elim (ℕ_discrete j i) [
              | yes e ↦ rw (ne_eqb a i d, eq-eqb j i e) (subst (λ (n : ℕ). Fresh f' (u a) n x') (sym e) (m.fresh a (u a) (y a) k d (g.ways a k) (known a k d) (g.fresh a i k il)))
              | no e ↦ rw (ne_eqb a i d, ne_eqb j i e) (m.fresh-others a j (u a) (y a) (y j) k l d e (g.ways a k) (g.fresh a j k l))
            ]
          ];
    }

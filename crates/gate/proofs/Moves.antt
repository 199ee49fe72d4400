-- The moves of one gate: each step that is taken at it keeps what its phase says. Assumes nothing.
use Rattle.std.proofs.Common.{◌≡◌, ℕ, ◌+◌, ◌-◌, ◌≤◌, ◌≢◌, ◌⊎◌, arith}
use Rattle.gate.proofs.Phases.{Stand, Marks, Cells, Phase, idle, solo, pair, clean, free, drain, prom, WayOk, CellsOk}
use Rattle.gate.proofs.Gates.{to, aiming, scanning, keeping, still, closing, applies, plays, lists, syncs_one, syncs_two, Height, Calm}

-- a pawn, or a newcomer, that gives up
pawn_quits : (h H : ℕ) (f : Phase) (c : Cells) (i : ℕ) (v : Stand) (x : Marks) → v.stage ≡ 1 → 5 ≤ v.place → v.place ≤ 8 → WayOk h H f c i v x → WayOk h H f c i (to 19 v) x
pawn_quits h H idle c i v x a b d wo = grind arith
pawn_quits h H (solo k) c i v x a b d wo = grind arith
pawn_quits h H (pair k q) c i v x a b d wo = grind arith
pawn_quits h H (clean r e) c i v x a b d wo = grind arith
pawn_quits h H (free r) c i v x a b d wo = grind arith
pawn_quits h H (drain r) c i v x a b d wo = grind arith
pawn_quits h H (prom p) c i v x a b d wo = grind arith

module _ (w h H : ℕ) (f : Phase) (c : Cells) (i : ℕ) (l : Height w h H i) (v : Stand) (x : Marks) (co : CellsOk w h H f c) (wo : WayOk h H f c i v x) where
  pub become_pawn : v.stage ≡ 1 → v.place ≡ 5 → c.count ≡ 2 → Calm w h H f c i v x c (to 7 v) (plays 3 x)
  become_pawn k0 k1 k2 =
      record {
        own = (grind arith, grind arith);
        others = λ j u y m n z. z;
        noted = λ a u y m n z k p q r. grind arith;
        fresh = λ a u y m n z k p q r s. grind arith;
        notes-nothing = λ j u y p q r. absurd (grind arith);
        tells_nobody = λ j y p q r s. absurd (grind arith);
      }

  pub see_promotion : v.stage ≡ 1 → v.place ≡ 7 → x.applied ≡ 2 → Calm w h H f c i v x c (to 16 (aiming h v)) (plays 4 x)
  see_promotion k0 k1 k2 =
      record {
        own = (grind arith, grind arith);
        others = λ j u y m n z. z;
        noted = λ a u y m n z k p q r. grind arith;
        fresh = λ a u y m n z k p q r s. grind arith;
        notes-nothing = λ j u y p q r. absurd (grind arith);
        tells_nobody = λ j y p q r s. absurd (grind arith);
      }

  pub not_promoted : v.stage ≡ 1 → v.place ≡ 7 → x.applied ≡ 1 → Calm w h H f c i v x c (to 8 v) x
  not_promoted k0 k1 k2 =
      record {
        own = (grind arith, grind arith);
        others = λ j u y m n z. z;
        noted = λ a u y m n z k p q r. grind arith;
        fresh = λ a u y m n z k p q r s. grind arith;
        notes-nothing = λ j u y p q r. absurd (grind arith);
        tells_nobody = λ j y p q r s. absurd (grind arith);
      }

  pub still_taken : v.stage ≡ 1 → v.place ≡ 8 → c.count ≡ 2 → Calm w h H f c i v x c (to 7 v) x
  still_taken k0 k1 k2 =
      record {
        own = (grind arith, grind arith);
        others = λ j u y m n z. z;
        noted = λ a u y m n z k p q r. grind arith;
        fresh = λ a u y m n z k p q r s. grind arith;
        notes-nothing = λ j u y p q r. absurd (grind arith);
        tells_nobody = λ j y p q r s. absurd (grind arith);
      }

  pub race_again : v.stage ≡ 1 → v.place ≡ 8 → c.count ≢ 2 → Calm w h H f c i v x c (to 5 v) x
  race_again k0 k1 k2 =
      record {
        own = (grind arith, grind arith);
        others = λ j u y m n z. z;
        noted = λ a u y m n z k p q r. grind arith;
        fresh = λ a u y m n z k p q r s. grind arith;
        notes-nothing = λ j u y p q r. absurd (grind arith);
        tells_nobody = λ j y p q r s. absurd (grind arith);
      }

  pub read_hand_over : v.stage ≡ 1 → v.place ≡ 14 → c.sync_one ≢ 0 → Calm w h H f c i v x c (to 16 (aiming c.sync_one v)) x
  read_hand_over k0 k1 k2 =
      record {
        own = (grind arith, grind arith);
        others = λ j u y m n z. z;
        noted = λ a u y m n z k p q r. grind arith;
        fresh = λ a u y m n z k p q r s. grind arith;
        notes-nothing = λ j u y p q r. absurd (grind arith);
        tells_nobody = λ j y p q r s. absurd (grind arith);
      }

  pub capture : v.stage ≡ 1 → v.place ≡ 16 → Calm w h H f c i v x c (still 2) (applies 2 x.number x)
  capture k0 k1 =
      record {
        own = (grind arith, grind arith);
        others = λ j u y m n z. z;
        noted = λ a u y m n z k p q r. grind arith;
        fresh = λ a u y m n z k p q r s. grind arith;
        notes-nothing = λ j u y p q r. absurd (grind arith);
        tells_nobody = λ j y p q r s. absurd (grind arith);
      }

  pub give_up_queen : v.stage ≡ 1 → v.place ≡ 14 → Calm w h H f c i v x c (to 19 v) x
  give_up_queen k0 k1 =
      record {
        own = (grind arith, grind arith);
        others = λ j u y m n z. z;
        noted = λ a u y m n z k p q r. grind arith;
        fresh = λ a u y m n z k p q r s. grind arith;
        notes-nothing = λ j u y p q r. absurd (grind arith);
        tells_nobody = λ j y p q r s. absurd (grind arith);
      }

  pub give_up_pawn : v.stage ≡ 1 → 5 ≤ v.place → v.place ≤ 8 → Calm w h H f c i v x c (to 19 v) x
  give_up_pawn k0 k1 k2 =
      record {
        own = (co, pawn_quits h H f c i v x k0 k1 k2 wo);
        others = λ j u y m n z. z;
        noted = λ a u y m n z k p q r. grind arith;
        fresh = λ a u y m n z k p q r s. grind arith;
        notes-nothing = λ j u y p q r. absurd (grind arith);
        tells_nobody = λ j y p q r s. absurd (grind arith);
      }

  pub close_queen : v.stage ≡ 1 → v.place ≡ 19 → x.role ≡ 2 → Calm w h H f c i v x c (to 26 v) (applies 2 x.number x)
  close_queen k0 k1 k2 =
      record {
        own = (grind arith, grind arith);
        others = λ j u y m n z. z;
        noted = λ a u y m n z k p q r. grind arith;
        fresh = λ a u y m n z k p q r s. grind arith;
        notes-nothing = λ j u y p q r. absurd (grind arith);
        tells_nobody = λ j y p q r s. absurd (grind arith);
      }

  pub close_pawn : v.stage ≡ 1 → v.place ≡ 19 → x.role ≢ 2 → Calm w h H f c i v x c (to 21 v) (applies 2 x.number x)
  close_pawn k0 k1 k2 =
      record {
        own = (grind arith, grind arith);
        others = λ j u y m n z. z;
        noted = λ a u y m n z k p q r. grind arith;
        fresh = λ a u y m n z k p q r s. grind arith;
        notes-nothing = λ j u y p q r. absurd (grind arith);
        tells_nobody = λ j y p q r s. absurd (grind arith);
      }

  pub abort_pawn : v.stage ≡ 1 → v.place ≡ 21 → x.listed ≢ 2 → Calm w h H f c i v x c (to 32 v) (lists 3 v.passage x)
  abort_pawn k0 k1 k2 =
      record {
        own = (grind arith, grind arith);
        others = λ j u y m n z. z;
        noted = λ a u y m n z k p q r. grind arith;
        fresh = λ a u y m n z k p q r s. grind arith;
        notes-nothing = λ j u y p q r. absurd (grind arith);
        tells_nobody = λ j y p q r s. absurd (grind arith);
      }

  pub abort_late : v.stage ≡ 1 → v.place ≡ 21 → x.listed ≡ 2 → Calm w h H f c i v x c (still 2) (plays 4 x)
  abort_late k0 k1 k2 =
      record {
        own = (grind arith, grind arith);
        others = λ j u y m n z. z;
        noted = λ a u y m n z k p q r. grind arith;
        fresh = λ a u y m n z k p q r s. grind arith;
        notes-nothing = λ j u y p q r. absurd (grind arith);
        tells_nobody = λ j y p q r s. absurd (grind arith);
      }

  pub abort_queen : v.stage ≡ 1 → v.place ≡ 26 → c.sync_one ≡ 0 → Calm w h H f c i v x (syncs_one 15 c) (to 52 (scanning 0 v.noted v)) x
  abort_queen k0 k1 k2 =
      record {
        own = (grind arith, grind arith);
        others = λ j u y m n z. grind arith;
        noted = λ a u y m n z k p q r. grind arith;
        fresh = λ a u y m n z k p q r s. grind arith;
        notes-nothing = λ j u y p q r. absurd (grind arith);
        tells_nobody = λ j y p q r s. absurd (grind arith);
      }

  pub already_handed : v.stage ≡ 1 → v.place ≡ 26 → c.sync_one ≢ 0 → Calm w h H f c i v x c (to 27 v) x
  already_handed k0 k1 k2 =
      record {
        own = (grind arith, grind arith);
        others = λ j u y m n z. z;
        noted = λ a u y m n z k p q r. grind arith;
        fresh = λ a u y m n z k p q r s. grind arith;
        notes-nothing = λ j u y p q r. absurd (grind arith);
        tells_nobody = λ j y p q r s. absurd (grind arith);
      }

  pub accept_gate : v.stage ≡ 1 → v.place ≡ 27 → Calm w h H f c i v x c (still 2) x
  accept_gate k0 k1 =
      record {
        own = (grind arith, grind arith);
        others = λ j u y m n z. z;
        noted = λ a u y m n z k p q r. grind arith;
        fresh = λ a u y m n z k p q r s. grind arith;
        notes-nothing = λ j u y p q r. absurd (grind arith);
        tells_nobody = λ j y p q r s. absurd (grind arith);
      }

  pub withdraw_apply : v.stage ≡ 1 → v.place ≡ 32 → Calm w h H f c i v x c (still 0) (applies 0 0 x)
  withdraw_apply k0 k1 =
      record {
        own = (grind arith, grind arith);
        others = λ j u y m n z. z;
        noted = λ a u y m n z k p q r. grind arith;
        fresh = λ a u y m n z k p q r s. grind arith;
        notes-nothing = λ j u y p q r. absurd (grind arith);
        tells_nobody = λ j y p q r s. absurd (grind arith);
      }

  pub release_king : (t : Stand) → v.stage ≡ 2 → x.role ≡ 1 → t.stage ≡ 3 → Calm w h H f c i v x c (to 36 t) x
  release_king t k0 k1 k2 =
      record {
        own = (grind arith, grind arith);
        others = λ j u y m n z. z;
        noted = λ a u y m n z k p q r. grind arith;
        fresh = λ a u y m n z k p q r s. grind arith;
        notes-nothing = λ j u y p q r. absurd (grind arith);
        tells_nobody = λ j y p q r s. absurd (grind arith);
      }

  pub release_queen : (t : Stand) → v.stage ≡ 2 → x.role ≡ 2 → t.stage ≡ 3 → Calm w h H f c i v x c (to 56 t) x
  release_queen t k0 k1 k2 =
      record {
        own = (grind arith, grind arith);
        others = λ j u y m n z. z;
        noted = λ a u y m n z k p q r. grind arith;
        fresh = λ a u y m n z k p q r s. grind arith;
        notes-nothing = λ j u y p q r. absurd (grind arith);
        tells_nobody = λ j y p q r s. absurd (grind arith);
      }

  pub release_pawn : (t : Stand) → v.stage ≡ 2 → x.role ≡ 4 → t.stage ≡ 3 → Calm w h H f c i v x c (to 64 t) x
  release_pawn t k0 k1 k2 =
      record {
        own = (grind arith, grind arith);
        others = λ j u y m n z. z;
        noted = λ a u y m n z k p q r. grind arith;
        fresh = λ a u y m n z k p q r s. grind arith;
        notes-nothing = λ j u y p q r. absurd (grind arith);
        tells_nobody = λ j y p q r s. absurd (grind arith);
      }

  pub has_queen : v.stage ≡ 3 → v.place ≡ 36 → c.count ≢ 1 → Calm w h H f c i v x c (to 37 v) x
  has_queen k0 k1 k2 =
      record {
        own = (grind arith, grind arith);
        others = λ j u y m n z. z;
        noted = λ a u y m n z k p q r. grind arith;
        fresh = λ a u y m n z k p q r s. grind arith;
        notes-nothing = λ j u y p q r. absurd (grind arith);
        tells_nobody = λ j y p q r s. absurd (grind arith);
      }

  pub hand_over : (t : ℕ) → v.stage ≡ 3 → v.place ≡ 37 → c.sync_one ≡ 0 → h ≤ t → t ≤ H → Calm w h H f c i v x (syncs_one t c) (to 52 (scanning 0 v.noted v)) x
  hand_over t k0 k1 k2 k3 k4 =
      record {
        own = (grind arith, grind arith);
        others = λ j u y m n z. grind arith;
        noted = λ a u y m n z k p q r. grind arith;
        fresh = λ a u y m n z k p q r s. grind arith;
        notes-nothing = λ j u y p q r. absurd (grind arith);
        tells_nobody = λ j y p q r s. absurd (grind arith);
      }

  pub no_hand_over : v.stage ≡ 3 → v.place ≡ 37 → c.sync_one ≢ 0 → Calm w h H f c i v x c (to 56 v) x
  no_hand_over k0 k1 k2 =
      record {
        own = (grind arith, grind arith);
        others = λ j u y m n z. z;
        noted = λ a u y m n z k p q r. grind arith;
        fresh = λ a u y m n z k p q r s. grind arith;
        notes-nothing = λ j u y p q r. absurd (grind arith);
        tells_nobody = λ j y p q r s. absurd (grind arith);
      }

  pub read_apply : v.stage ≡ 3 → v.place ≡ 48 → Calm w h H f c i v x c (to 49 (keeping v.kept_way x.number v)) x
  read_apply k0 k1 =
      record {
        own = (grind arith, grind arith);
        others = λ j u y m n z. z;
        noted = λ a u y m n z k p q r. grind arith;
        fresh = λ a u y m n z k p q r s. grind arith;
        notes-nothing = λ j u y p q r. absurd (grind arith);
        tells_nobody = λ j y p q r s. absurd (grind arith);
      }

  pub clear_apply : v.stage ≡ 3 → v.place ≡ 49 → Calm w h H f c i v x c (still 0) (applies 0 0 x)
  clear_apply k0 k1 =
      record {
        own = (grind arith, grind arith);
        others = λ j u y m n z. z;
        noted = λ a u y m n z k p q r. grind arith;
        fresh = λ a u y m n z k p q r s. grind arith;
        notes-nothing = λ j u y p q r. absurd (grind arith);
        tells_nobody = λ j y p q r s. absurd (grind arith);
      }

  pub close_first : ((v.stage ≡ 1) ⊎ (v.stage ≡ 3)) → v.place ≡ 56 → c.sync_two ≡ 0 → Calm w h H f c i v x (syncs_two (i + 1) c) (to (closing v) v) x
  close_first k0 k1 k2 =
      record {
        own = (grind arith, grind arith);
        others = λ j u y m n z. grind arith;
        noted = λ a u y m n z k p q r. grind arith;
        fresh = λ a u y m n z k p q r s. grind arith;
        notes-nothing = λ j u y p q r. absurd (grind arith);
        tells_nobody = λ j y p q r s. absurd (grind arith);
      }

  pub come_second : ((v.stage ≡ 1) ⊎ (v.stage ≡ 3)) → v.place ≡ 56 → c.sync_two ≢ 0 → Calm w h H f c i v x c (to 58 v) x
  come_second k0 k1 k2 =
      record {
        own = (grind arith, grind arith);
        others = λ j u y m n z. z;
        noted = λ a u y m n z k p q r. grind arith;
        fresh = λ a u y m n z k p q r s. grind arith;
        notes-nothing = λ j u y p q r. absurd (grind arith);
        tells_nobody = λ j y p q r s. absurd (grind arith);
      }

  pub read_sync_two : ((v.stage ≡ 1) ⊎ (v.stage ≡ 3)) → v.place ≡ 59 → Calm w h H f c i v x c (to 60 (keeping (c.sync_two - 1) v.kept_number v)) x
  read_sync_two k0 k1 =
      record {
        own = (grind arith, grind arith);
        others = λ j u y m n z. z;
        noted = λ a u y m n z k p q r. grind arith;
        fresh = λ a u y m n z k p q r s. grind arith;
        notes-nothing = λ j u y p q r. absurd (grind arith);
        tells_nobody = λ j y p q r s. absurd (grind arith);
      }

  pub clear_sync_two : ((v.stage ≡ 1) ⊎ (v.stage ≡ 3)) → v.place ≡ 60 → Calm w h H f c i v x (syncs_two 0 c) (to 61 v) x
  clear_sync_two k0 k1 =
      record {
        own = (grind arith, grind arith);
        others = λ j u y m n z. grind arith;
        noted = λ a u y m n z k p q r. grind arith;
        fresh = λ a u y m n z k p q r s. grind arith;
        notes-nothing = λ j u y p q r. absurd (grind arith);
        tells_nobody = λ j y p q r s. absurd (grind arith);
      }

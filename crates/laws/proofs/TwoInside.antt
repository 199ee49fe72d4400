-- Two ways of a gate that are both inside are one. Assumes nothing.
--     two_inside  in every phase
use Rattle.std.proofs.Common.{◌≡◌, ℕ, ◌≤◌, arith}
use Rattle.laws.proofs.Phases.{Way, Cells, Phase, WayOk, CellsOk}

pub two_inside : (w h H : ℕ) (f : Phase) (c : Cells) (i j : ℕ) (v u : Way) → 1 ≤ h → h ≤ H → H ≤ 3 → CellsOk w h H f c → WayOk h H f c i v → WayOk h H f c j u → v.stage ≡ 2 → u.stage ≡ 2 → i ≡ j
two_inside w h H f c i j v u a b d co x y p q = grind arith

use Rattle.std.proofs.Common.{◌≡◌, refl, rules}
use Rattle.std.proofs.lemmas.List.{set-get_or}
use Rattle.steps.specs.declared.cells.Cell.TheVariants.{Pawns}
use Rattle.steps.specs.Outcomes.{put}
use Rattle.steps.proofs.gate.Gate.change_pawns.Goals as goal
use Rattle.steps.proofs.gate.Gate.change_pawns.Goals.{then-ne+in_ok-write, else-ne}

pub returns-clause-changes : goal.returns-clause-changes
returns-clause-changes g c =
    let after = c.change-answer.new.arg2 in
    let e : g.S.Store.words c.if-ne.self.store.now ≡ put (g.S.Store.words c.args.self.now.store.now) c.args.self.now.at Pawns after.0 =
    elim c.if-ne.branch [ then-ne+in_ok-write w ↦ search rules | else-ne w ↦ search (rules, set-get_or) ] in
    (c.change-answer.result, after, refl, record { shown = _; shows = search rules; left = _; met = c.change-answer.ensures; leaves = refl }, e)

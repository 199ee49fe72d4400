use Rattle.laws.proofs.LawOfRuns.{law_opened}
use Rattle.laws.proofs.runs.perform.Goals as goal

pub returns-clause-law : goal.returns-clause-law
returns-clause-law g c = λ k. law_opened _ _ _ _ c.in_ok-record.ensures.accepted

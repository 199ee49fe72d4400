use Rattle.std.proofs.Common.{◌≡◌, rules}
use Rattle.std.proofs.lemmas.Iterator.Adapters.{YieldsList-from_repeat_n, items_from_extend}
use Rattle.script.proofs.scripts.Reading.take.Goals as goal

pub returns-in_ok-extend : goal.returns-in_ok-extend
returns-in_ok-extend c =
    let h = items_from_extend c.extend.result c.extend.ensures.ran (YieldsList-from_repeat_n (λ x y. y ≡ x) _ _ c.repeat_n.ensures.count c.repeat_n.ensures.item (λ _ e. e)) in
    search rules

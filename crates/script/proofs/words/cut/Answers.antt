use Rattle.std.proofs.Common.{◌≡◌, take, drop, ap, ◌∙◌, rules, tests}
use Rattle.std.specs.List.{prefix_len}
use Rattle.std.proofs.lemmas.Iterator.{YieldsList-from_slice}
use Rattle.std.proofs.lemmas.Iterator.Consumers.{count_from_yields_List}
use Rattle.std.proofs.lemmas.Iterator.Search.{YieldsList-from_take_while}
use Rattle.std.proofs.lemmas.List.Folds.{length-prefix_len}
use Rattle.script.proofs.words.cut.Goals as goal

pub returns : goal.returns
returns g c = λ test h.
    let xs = c.args.text.now in
    let n : c.count-front.result ≡ prefix_len test xs = count_from_yields_List _ _ c.count-front.ensures.ran (YieldsList-from_take_while _ test (YieldsList-from_slice xs cc) c.take_while.ensures.closure c.take_while.ensures.done (λ x b q k. search (rules, tests))) ∙ length-prefix_len test xs in
    (c.split_at.ensures.front ∙ ap (λ k. take k xs) n, c.split_at.ensures.back ∙ ap (λ k. drop k xs) n)

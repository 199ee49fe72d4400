use Rattle.std.proofs.Common.{◌≡◌, ◌-◌, length, reverse, take, ap, ◌∙◌, rules, tests}
use Rattle.std.specs.List.{suffix_len}
use Rattle.std.proofs.lemmas.Iterator.Adapters.{YieldsList-from_rev_slice}
use Rattle.std.proofs.lemmas.Iterator.Consumers.{count_from_yields_List}
use Rattle.std.proofs.lemmas.Iterator.Search.{YieldsList-from_take_while}
use Rattle.std.proofs.lemmas.List.Folds.{length-prefix_len}
use Rattle.script.specs.Words.{is_blank_byte}
use Rattle.script.proofs.words.trimmed.Goals as goal

pub returns : goal.returns
returns c =
    let xs = c.args.text.now in
    let n : c.count-blanks.result ≡ suffix_len is_blank_byte xs = count_from_yields_List _ _ c.count-blanks.ensures.ran (YieldsList-from_take_while _ is_blank_byte (YieldsList-from_rev_slice xs cc) c.take_while.ensures.closure c.take_while.ensures.done (λ x b q k. search (rules, tests))) ∙ length-prefix_len is_blank_byte (reverse xs) in
    ap (λ k. take (length xs - k) xs) n

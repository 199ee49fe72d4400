use Rattle.std.proofs.Common.{◌≡◌, ℕ, zero, suc, ◌%◌, ◌==◌, [], take, ◌∙◌, rules, arith}
use borrow.Author.Tests.{tests}
use Rattle.std.proofs.Math.Seq.{take-nil}
use Rattle.std.proofs.lemmas.Iterator.{YieldsList-from_slice, YieldsList-from_take}
use Rattle.std.proofs.lemmas.Iterator.Search.{position_from_yields_List}
use Rattle.std.proofs.lemmas.Iterator.Adapters.{position_from-zero}
use Rattle.std.specs.List.{position_from}
use Rattle.steps.specs.Pawns.{lanes, first_waiting_way}
use Rattle.steps.proofs.pawns.first_waiting.Goals as goal

positions : (w n : ℕ) → position_from (λ x. x % 4 == 1) 0 (take n (lanes w)) ≡ first_waiting_way w n
positions w zero = cc
positions w (suc zero) = cc
positions w (suc (suc zero)) = cc
positions w (suc (suc (suc zero))) = cc
positions w (suc (suc (suc (suc n)))) = let e : take {A = ℕ} n [] ≡ [] = take-nil n in rw e (grind arith)

pub returns-clause-value : goal.returns-clause-value
returns-clause-value c =
    let e = position_from_yields_List (λ x. x % 4 == 1) _ _ c.position.result c.position.ensures.ran
    (YieldsList-from_take c.args.ways (YieldsList-from_slice (lanes c.args.word) (search rules)) (search rules))
    (λ x b q k. search (rules, tests)) in
    e ∙ (position_from-zero (λ x. x % 4 == 1) (take c.args.ways (lanes c.args.word)) ∙ positions c.args.word c.args.ways)

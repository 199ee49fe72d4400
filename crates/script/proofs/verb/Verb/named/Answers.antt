use Rattle.std.proofs.Common.{◌≡◌, ℕ, List, length, codes, sym, ap, arith, rules}
use Rattle.std.proofs.lemmas.Slice.Eq.{HasBytesAt, text_from_reads}
use Rattle.script.specs.Lines.{verb_of}
use Rattle.script.proofs.verb.Verb.named.Goals as goal

-- a word with the bytes of p has the verb of p
read : (w p : List ℕ) → length w ≡ length p → HasBytesAt w 0 p → verb_of p ≡ verb_of w
read w p l h = sym (ap verb_of (text_from_reads w p l h))

pub returns-in-ways : goal.returns-in-ways
returns-in-ways c = read c.args.word.now (codes "ways") (omega arith) (search rules)

pub returns-in-apply : goal.returns-in-apply
returns-in-apply c = read c.args.word.now (codes "apply") (omega arith) (search rules)

pub returns-in-poll : goal.returns-in-poll
returns-in-poll c = read c.args.word.now (codes "poll") (omega arith) (search rules)

pub returns-in-103 : goal.returns-in-103
returns-in-103 c = read c.args.word.now (codes "give-up") (omega arith) (search rules)

pub returns-in-leave : goal.returns-in-leave
returns-in-leave c = read c.args.word.now (codes "leave") (omega arith) (search rules)

pub returns-in-publish : goal.returns-in-publish
returns-in-publish c = read c.args.word.now (codes "publish") (omega arith) (search rules)

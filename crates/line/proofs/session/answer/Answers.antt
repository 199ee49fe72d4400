use Rattle.std.proofs.Common.{rules}
use Rattle.line.specs.Messages.{request_of}
use Rattle.line.proofs.SessionLaws.{answers-end, answers-replied, answers-over}
use Rattle.line.proofs.session.answer.Goals as goal

pub returns-in-Ok-None-clause-answers : goal.returns-in-Ok-None-clause-answers
returns-in-Ok-None-clause-answers g c =
    let f = c.in-Some.ensures.cases in
    answers-end _ _ c.args.input.now _ f.enough _ c.in-Ok-None.ensures.place _ (let h = c.in-Ok-None.ensures.answer in search rules) f.same

pub returns-in-Ok-Some-clause-answers : goal.returns-in-Ok-Some-clause-answers
returns-in-Ok-Some-clause-answers g c =
    let f = c.in-Some.ensures.cases in
    answers-replied _ _ c.args.input.now _ f.enough _ c.in-Ok-Some.ensures.place c.respond.new.room (request_of c.in-Ok-Some.message) _ _ (let h = c.in-Ok-Some.ensures.answer in search rules) (rw f.same at c.respond.ensures.responds)

pub returns-in-Err-clause-answers : goal.returns-in-Err-clause-answers
returns-in-Err-clause-answers g c =
    let f = c.in-Some.ensures.cases in
    answers-over _ _ c.args.input.now _ f.enough _ c.in-Err.ensures.place _ c.in-Err.fault _ c.in-Err.ensures.answer (rw f.same at c.refuse.ensures)

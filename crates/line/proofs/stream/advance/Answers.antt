use Rattle.std.proofs.Common.{Ok, Err, rules}
use Rattle.std.proofs.lemmas.Slice.{overwrites}
use Rattle.line.specs.declared.session.Answered.TheVariants.{End, Replied, Over}
use Rattle.line.proofs.StreamLaws.{turns_awaiting, answered_turn}
use Rattle.line.proofs.stream.advance.Goals as goal

pub returns-then-held_back : goal.returns-then-held_back
returns-then-held_back g c =
    record { turns = turns_awaiting _ _ _ _ _ _ c.if-held_back.ensures; within = search rules; loans = search rules }

pub overflow_add-written : goal.overflow_add-written
overflow_add-written g c =
    let t = answered_turn _ _ c.args.written.now _ _ c.args.replies.now (Ok (Replied c.in-Ok-Replied.size)) _ _ _ _ c.requires c.if-held_back.ensures (let e = c.in-Ok-Replied.ensures.answers.answer in search rules) c.in-Ok-Replied.ensures.answers in
    search (rules, overwrites, t.1)

pub overflow_add-written-in-Ok-Over : goal.overflow_add-written-in-Ok-Over
overflow_add-written-in-Ok-Over g c =
    let t = answered_turn _ _ c.args.written.now _ _ c.args.replies.now (Ok (Over c.in-Ok-Over.size)) _ _ _ _ c.requires c.if-held_back.ensures (let e = c.in-Ok-Over.ensures.answers.answer in search rules) c.in-Ok-Over.ensures.answers in
    search (rules, overwrites, t.1)

pub returns-in-Ok-Replied : goal.returns-in-Ok-Replied
returns-in-Ok-Replied g c =
    let t = answered_turn _ _ c.args.written.now _ _ c.args.replies.now (Ok (Replied c.in-Ok-Replied.size)) _ _ _ _ c.requires c.if-held_back.ensures (let e = c.in-Ok-Replied.ensures.answers.answer in search rules) c.in-Ok-Replied.ensures.answers in
    record { turns = t.0; within = t.1; loans = search rules }

pub returns-in-Ok-Over : goal.returns-in-Ok-Over
returns-in-Ok-Over g c =
    let t = answered_turn _ _ c.args.written.now _ _ c.args.replies.now (Ok (Over c.in-Ok-Over.size)) _ _ _ _ c.requires c.if-held_back.ensures (let e = c.in-Ok-Over.ensures.answers.answer in search rules) c.in-Ok-Over.ensures.answers in
    record { turns = t.0; within = t.1; loans = search rules }

pub returns-in-Ok-End-clause-turns : goal.returns-in-Ok-End-clause-turns
returns-in-Ok-End-clause-turns g c =
    (answered_turn _ _ _ _ _ c.args.replies.now (Ok End) _ _ _ _ c.requires c.if-held_back.ensures (let e = c.in-Ok-End.ensures.answers.answer in search rules) c.in-Ok-End.ensures.answers).0

pub returns-in-Err-clause-turns : goal.returns-in-Err-clause-turns
returns-in-Err-clause-turns g c =
    (answered_turn _ _ _ _ _ c.args.replies.now (Err c.in-Err.field-0) _ _ _ _ c.requires c.if-held_back.ensures (let e = c.in-Err.ensures.answers.answer in search rules) c.in-Err.ensures.answers).0

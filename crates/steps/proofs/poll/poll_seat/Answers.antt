use Rattle.std.proofs.Common.{sym, ◌∙◌, Ok, Err, rules}
use Rattle.layout.specs.Refusals.{refusal_of}
use Rattle.steps.specs.Outcomes.{Does}
use Rattle.steps.specs.Polls.{step_of, polled_seat}
use Rattle.steps.proofs.PollLaws.{does_poll, poll_refused}
use Rattle.steps.proofs.poll.poll_seat.Goals as goal

pub returns-in_err-due : goal.returns-in_err-due
unfolding polled_seat
returns-in_err-due g c = record { does = search rules; same = search rules }

pub returns-in_err-step : goal.returns-in_err-step
returns-in_err-step g c =
    let s : Does (step_of c.args.seat.now.place c.in_ok-due.due.coin c.in_ok-due.due.at c.args.seat.now (g.S.Store.words c.args.store.now)) (Err (refusal_of c.in_err-step.field-0.0)) (g.S.Store.words c.step.new.self.store.now) c.step.new.seat =
    rw (sym c.new.ensures.at) (rw (sym c.new.ensures.words) c.in_err-step.ensures.does) in
    let d = does_poll _ _ _ _ _ _ _ _ _ _ _ _ c.size.ensures c.in_ok-due.ensures s in
    let q = poll_refused _ _ _ _ _ _ _ (sym d.answer) in
    let cells = d.cells ∙ q.0 in
    let seat = d.seat ∙ q.1 in record { does = search rules; same = search rules }

pub returns : goal.returns
returns g c =
    let s : Does (step_of c.args.seat.now.place c.in_ok-due.due.coin c.in_ok-due.due.at c.args.seat.now (g.S.Store.words c.args.store.now)) (Ok tt) (g.S.Store.words c.step.new.self.store.now) c.step.new.seat =
    rw (sym c.new.ensures.at) (rw (sym c.new.ensures.words) c.in_ok-step.ensures.does) in
    let d = does_poll _ _ _ _ _ _ _ _ _ _ _ _ c.size.ensures c.in_ok-due.ensures s in search rules

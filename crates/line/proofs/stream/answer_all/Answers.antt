use Rattle.std.proofs.Common.{rules}
use Rattle.lock.specs.Locks.{state_in}
use Rattle.line.proofs.CutLaws.{cuts}
use Rattle.line.proofs.LoopLaws.{goes_on_still, nearer, stops}
use Rattle.line.proofs.PauseLaws.{stops_left}
use Rattle.line.proofs.stream.answer_all.Goals as goal

pub returns-in-Some : goal.returns-in-Some
returns-in-Some g c =
    let n = c.advance.new in
    let b = state_in g.S.Store.words n.lock in
    let t =
    stops _ c.args.input.now _ _ c.loop-pause.invariant.within c.loop-pause.invariant.turns n.written b n.place.at n.replies c.in-Some.pause c.in-Some.ensures.turns in
    record {
      turns = t;
      cut = cuts _ c.args.input.now _ c.args.place.now.at c.args.replies.now _ _ _ _ _ t;
      left = stops_left _ c.args.input.now _ c.args.place.now.at c.args.replies.now _ _ _ _ _ t;
      loans = search rules;
    }

pub loop-pause-smaller : goal.loop-pause-smaller
loop-pause-smaller g c =
    nearer _ c.args.input.now _ _ c.loop-pause.invariant.within c.loop-pause.invariant.turns _ _ _ _ c.in_default.ensures.turns

pub loop-pause-preserved : goal.loop-pause-preserved
loop-pause-preserved g c =
    record {
      turns = goes_on_still _ c.args.input.now _ _ c.loop-pause.invariant.within c.loop-pause.invariant.turns _ _ _ _ c.in_default.ensures.turns;
      within = c.advance.ensures.within;
      loans = search rules;
    }

use Rattle.std.proofs.Common.{◌≡◌, ◌≤◌, true, arith, rules}
use Rattle.seats.specs.Lawful.{lawful, ranged}
use Rattle.seats.specs.Places.{state_number}
use Rattle.seats.proofs.SeatLaws.{ranged-from_lawful}
use Rattle.steps.specs.Polls.{Asked, coin_of}
use Rattle.steps.proofs.PollLaws.{ready_from_ranged, low_from_ranged}
use Rattle.steps.proofs.poll.ask.Goals as goal

pub returns : goal.returns
returns c =
    let l : lawful c.args.path.ways.number c.args.seat.now ≡ true = search rules in
    let a : state_number c.args.seat.now.state ≡ 0 → ⊥ = λ e. grind arith in
    let k : ranged c.args.path.ways.number c.args.seat.now ≡ true = ranged-from_lawful c.args.path.ways.number c.args.seat.now l a in
    let asked : c.args.coin ≤ 2 → Asked c.args.path.ways.number c.args.path.seat.0 c.args.passage.0 c.args.coin c.args.seat.now c.args.size (coin_of c.args.coin) =
    λ h. record {
      accepted = search rules;
      coin = search rules;
      cells = search rules;
      low = low_from_ranged c.args.path.ways.number c.args.seat.now k;
      ready = ready_from_ranged c.args.path.ways.number c.args.seat.now k;
    } in
    search rules

use Rattle.std.proofs.Common.{refl, arith}
use Rattle.seats.specs.Lawful.{lawful}
use Rattle.steps.specs.Polls.{stepped, polled_seat}
use Rattle.lock.specs.Questions.{enter_refusal}
use Rattle.known.proofs.known_values.Goals as goal

pub returns : goal.returns
unfolding lawful stepped polled_seat enter_refusal
returns c =
    record {
      polls = rw c.polls_a_height.ensures refl;
      values = record { seats = refl; gates = refl; cells = refl; gates27 = refl; ways27 = refl; apply210 = refl; reg5 = refl; reg5_way1 = refl; promoted = refl; promotes = refl; nobody = refl; nobody_word = refl; abort_late = refl; aborts = refl; collects = refl; gives_up = λ s p t. grind arith; gives_up_call = refl; gives_up_seat = refl; fifth = refl; sixth = refl };
    }

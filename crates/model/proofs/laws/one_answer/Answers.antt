use Rattle.model.proofs.Turns.{either_way, exceeds_as_made}
use Rattle.model.proofs.Ending.{creations_end}
use Rattle.model.proofs.OneAnswer.{one_spread, one_outlook}
use Rattle.model.proofs.laws.one_answer.Goals as goal

pub returns : goal.returns
returns c = record {
  decided = either_way;
  made = exceeds_as_made;
  end = creations_end;
  spread = one_spread;
  outlook = one_outlook;
}

use Rattle.model.proofs.Lives.{lived}
use Rattle.model.proofs.laws.numbers_once.Goals as goal

pub returns : goal.returns
returns c = lived

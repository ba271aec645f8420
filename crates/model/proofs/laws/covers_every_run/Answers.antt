use Rattle.model.proofs.Covering.{covers}
use Rattle.model.proofs.laws.covers_every_run.Goals as goal

pub returns : goal.returns
returns c = covers

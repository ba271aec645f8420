use Rattle.model.proofs.Closures.{least, derives, sound_closure}
use Rattle.model.proofs.laws.closes_least.Goals as goal

pub returns : goal.returns
returns c = record {
  least = λ S m st t p. least S st m t p;
  derives = λ S m st t p. derives S st m t p;
  sound = λ S m st t p s. sound_closure S st s m t p;
}

use Rattle.model.proofs.Grants.{copy_exact, demand_exact, create_exact, copy_lowest, copy_step, demand_step, create_step}
use Rattle.model.proofs.laws.granted_exactly.Goals as goal

pub returns : goal.returns
returns c = record {
  copies = copy_exact;
  demands = demand_exact;
  creates = λ S w R st a b k. create_exact S R st a b k w;
  lowest = copy_lowest;
  adds = (copy_step, demand_step, λ S w R st. create_step S R st w);
}

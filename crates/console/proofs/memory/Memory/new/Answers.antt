use Rattle.std.proofs.Common.{rules}
use Rattle.console.proofs.memory.Memory.new.Goals as goal

pub invariant_of-result-clause-all_pairs : goal.invariant_of-result-clause-all_pairs
invariant_of-result-clause-all_pairs g c n p known = let lent = c.places.ensures n p known in search rules

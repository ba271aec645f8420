-- A walk as a chain of iterators reads it.
use Rattle.std.proofs.Common.{◌≡◌, List, Option, sym, ◌∙◌}
use Rattle.std.specs.Option.{option_map}
use Rattle.std.specs.Iterator.{YieldsFirst}
use Rattle.std.proofs.lemmas.Iterator.{YieldsList}
use Rattle.std.proofs.lemmas.Iterator.Adapters.{option_map_id}
use Rattle.std.proofs.lemmas.Iterator.Consumers.{YieldsList-from_first}
use Rattle.scheme_records.specs.declared.record.Record.{Record}
use Rattle.scheme_records.specs.declared.walk.Walk.{Walk}
use Rattle.scheme_records.specs.Walked.{left}

pub walks : {w : Walk} {rs : List Record} → left w ≡ rs → YieldsList (YieldsFirst left) (λ r. r) w rs
walks {w} {rs} e = YieldsList-from_first (λ r. r) left rs e

-- what was found, read as it stands
pub found_itself : {X : Type 0} (o p : Option X) → option_map (λ x. x) o ≡ p → o ≡ p
found_itself o p e = sym (option_map_id o) ∙ e

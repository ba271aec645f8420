use Rattle.std.proofs.Common.{◌∙◌}
use Rattle.scheme_records.specs.Listed.{listed}
use Rattle.scheme_records.proofs.Saying.{rules_count}
use Rattle.scheme_records.proofs.records.Records.rules.Goals as goal

pub returns : goal.returns
returns c = c.count.ensures ∙ rules_count (listed c.args.self)

use Rattle.std.proofs.Common.{rules}
use borrow.Author.Tests.{tests}
use Rattle.std.proofs.lemmas.Iterator.Consumers.{nth_from_yields_List, YieldsList-from_filter_map, YieldsList-at}
use Rattle.scheme_records.specs.Listed.{listed}
use Rattle.scheme_records.proofs.Walking.{walks, found_itself}
use Rattle.scheme_records.proofs.Saying.{rule_parts, rule_said}
use Rattle.scheme_records.proofs.records.Records.rule.Goals as goal

pub returns : goal.returns
returns c =
    rule_said (listed c.args.self) c.args.number c.nth.result
    (found_itself _ _
    (nth_from_yields_List c.nth.result c.nth.new.self c.args.number c.nth.ensures.ran
    (YieldsList-from_filter_map _ rule_parts (YieldsList-at c.filter_map.ensures.source (walks c.iter.ensures)) c.filter_map.ensures.closure (λ x r q k. search (rules, tests)))))

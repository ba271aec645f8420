use Rattle.std.proofs.Common.{rules, ◌∙◌}
use borrow.Author.Tests.{tests}
use Rattle.std.proofs.lemmas.List.Sums.{length-filter}
use Rattle.std.proofs.lemmas.Iterator.Consumers.{count_from_yields_List, YieldsList-from_filter, YieldsList-at}
use Rattle.scheme_records.specs.Listed.{listed}
use Rattle.scheme_records.specs.Said.{tagged, tag_number}
use Rattle.scheme_records.proofs.Walking.{walks}
use Rattle.scheme_records.proofs.records.Records.count.Goals as goal

pub returns : goal.returns
returns c =
    count_from_yields_List c.filter.result c.count.result c.count.ensures.ran
    (YieldsList-from_filter _ (tagged (tag_number c.args.tag)) (YieldsList-at c.filter.ensures.source (walks c.iter.ensures)) c.filter.ensures.closure (λ x b q k. search (rules, tests)))
    ∙ length-filter (tagged (tag_number c.args.tag)) (listed c.args.self)

use Rattle.std.proofs.Common.{rules, ap, ◌∙◌}
use borrow.Author.Tests.{tests}
use Rattle.std.proofs.lemmas.Iterator.Search.{find_from_yields_List}
use Rattle.scheme_records.specs.Listed.{listed}
use Rattle.scheme_records.specs.Said.{set_found, filter_for}
use Rattle.scheme_records.proofs.Walking.{walks, found_itself}
use Rattle.scheme_records.proofs.Saying.{looked_first}
use Rattle.scheme_records.proofs.records.Records.filter.Goals as goal

pub returns : goal.returns
returns c =
    let sought = filter_for c.args.key.link c.args.key.giver c.args.key.taker c.args.key.target in
    let found = found_itself _ _ (find_from_yields_List sought c.find.new.self _ c.find.result c.find.ensures.ran (walks c.iter.ensures) (λ x b q k. search (rules, tests))) in
    c.set_found.ensures ∙ ap set_found found ∙ looked_first sought (listed c.args.self)

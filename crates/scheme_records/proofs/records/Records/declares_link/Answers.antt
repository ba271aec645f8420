use Rattle.std.proofs.Common.{rules}
use borrow.Author.Tests.{tests}
use Rattle.std.proofs.lemmas.Iterator.Search.{any_from_yields_List}
use Rattle.scheme_records.specs.Said.{of_link}
use Rattle.scheme_records.proofs.Walking.{walks}
use Rattle.scheme_records.proofs.records.Records.declares_link.Goals as goal

pub returns : goal.returns
returns c = any_from_yields_List (of_link c.args.link) c.any.new.self _ c.any.result c.any.ensures.ran (walks c.iter.ensures) (λ x b q k. search (rules, tests))

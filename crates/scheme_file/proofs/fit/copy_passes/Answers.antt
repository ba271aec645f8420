use Rattle.std.proofs.Common.{rules, sym, ap, ◌∙◌}
use borrow.Author.Tests.{tests}
use Rattle.std.proofs.lemmas.Iterator.{YieldsList-from_slice}
use Rattle.std.proofs.lemmas.Iterator.Search.{all_from_yields_List}
use Rattle.scheme_records.specs.declared.record.Record.{Record}
use Rattle.scheme_records.specs.Said.{all_sets}
use Rattle.scheme_file.specs.Checks.{nested, copy_passes}
use Rattle.scheme_file.proofs.fit.copy_passes.Goals as goal

pub returns-in-Rule : goal.returns-in-Rule
unfolding copy_passes
returns-in-Rule c =
    all_from_yields_List nested c.all.new.self _ c.all.result c.all.ensures.ran (YieldsList-from_slice (all_sets c.in-Rule.sets) cc) (λ x b q k. search (rules, tests))
    ∙ ap (λ (r : Record). copy_passes r) (sym c.in-Rule.is)

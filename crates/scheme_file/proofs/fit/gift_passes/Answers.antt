use Rattle.std.proofs.Common.{Bool, ◌||◌, rules, sym, ap, ◌∙◌}
use Rattle.std.specs.List.{list_all}
use borrow.Author.Tests.{tests}
use Rattle.std.proofs.lemmas.Iterator.{YieldsList-from_slice}
use Rattle.std.proofs.lemmas.Iterator.Search.{all_from_yields_List}
use Rattle.scheme_records.specs.declared.record.Record.{Record}
use Rattle.scheme_records.specs.Listed.{listed}
use Rattle.scheme_records.specs.Said.{child_sets}
use Rattle.scheme_file.specs.Checks.{is_empty, gift_passes}
use Rattle.scheme_file.proofs.fit.gift_passes.Goals as goal

pub returns-else-is_subject : goal.returns-else-is_subject
unfolding gift_passes
returns-else-is_subject c =
    all_from_yields_List is_empty c.all.new.self _ c.all.result c.all.ensures.ran (YieldsList-from_slice (child_sets c.in-Rule.sets) cc) (λ x b q k. search (rules, tests))
    ∙ ap (λ (t : Bool). t || list_all is_empty (child_sets c.in-Rule.sets)) c.if-is_subject.ensures
    ∙ ap (λ (r : Record). gift_passes (listed c.args.before) r) (sym c.in-Rule.is)

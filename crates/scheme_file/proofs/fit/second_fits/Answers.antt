use Rattle.std.proofs.Common.{ℕ, Option, rules, sym, ap, ◌∙◌}
use borrow.Author.Tests.{tests}
use Rattle.std.proofs.lemmas.Iterator.{YieldsList-from_slice}
use Rattle.std.proofs.lemmas.Iterator.Search.{all_from_yields_List}
use Rattle.scheme_records.specs.Listed.{listed}
use Rattle.scheme_records.specs.Said.{said, parent_sets}
use Rattle.scheme_file.specs.Checks.{is_empty, second_fits}
use Rattle.scheme_file.proofs.fit.second_fits.Goals as goal

pub returns-in-None : goal.returns-in-None
returns-in-None c =
    all_from_yields_List is_empty c.all.new.self _ c.all.result c.all.ensures.ran (YieldsList-from_slice (parent_sets c.args.sets.second) cc) (λ x b q k. search (rules, tests))
    ∙ ap (λ (o : Option ℕ). second_fits (said (listed c.args.before)) o c.args.sets) (sym c.in-None.is)

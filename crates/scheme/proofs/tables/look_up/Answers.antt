use Rattle.std.proofs.Common.{Bool, rules}
use borrow.Author.Tests.{tests}
use Rattle.std.proofs.lemmas.Iterator.{YieldsList-from_slice}
use Rattle.std.proofs.lemmas.Iterator.Search.{find_from_yields_List}
use Rattle.scheme.specs.declared.tables.Entry.{Entry}
use Rattle.model.specs.Tickets.{tickets_of}
use Rattle.scheme.specs.Tables.{tickets_in}
use Rattle.scheme.proofs.Lookups.{looked_up_by}
use Rattle.scheme.proofs.tables.look_up.Goals as goal

pub returns : goal.returns
returns g c =
    let here : Entry g.row.K.Denot → Bool = λ e. g.K.PartialEq.eq e.key c.args.key.now in
    looked_up_by here (λ e. tickets_in e.set) c.args.table.now (λ y. y.now) c.find.result (tickets_of c.map_or.result)
    (find_from_yields_List here _ _ c.find.result c.find.ensures.ran (YieldsList-from_slice c.args.table.now cc) (λ x b q k. search (rules, tests)))
    (λ n. let h = rw n at c.map_or.ensures in search rules) (λ x s. let h = rw s at c.map_or.ensures in search rules)

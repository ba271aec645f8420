use Rattle.std.proofs.Common.{rules, sym, subst}
use Rattle.std.proofs.lemmas.List.Sorted.{answers_always}
use Rattle.ordered.specs.Entries.{Rising}
use Rattle.ordered.proofs.Places.{searched}
use Rattle.ordered.proofs.list.OrderedList.place.Goals as goal

pub returns-clause-location : goal.returns-clause-location
returns-clause-location g c =
    let s = c.args.self.now in
    let facts = c.binary_search_by_key.ensures in
    rw (← c.taken.ensures)
    (searched g.met.K.Ord.total c.args.key c.taken.result.now (subst (Rising g.K.Ord.cmp) (sym c.taken.ensures) s.rising) _ facts.bound
    (facts.position (λ e. e.key) (answers_always _ _ _ (λ f a r h called. search rules))))

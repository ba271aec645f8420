use Rattle.std.proofs.Common.{Some, sym, ap, ◌∙◌}
use Rattle.ordered.proofs.Places.{from_ok}
use Rattle.ordered.proofs.Changes.{found_value}
use Rattle.ordered.proofs.list.OrderedList.find.Goals as goal

pub returns : goal.returns
returns g c =
    ap (λ e. Some e.value) (sym c.index-self-place.is)
    ∙ found_value c.args.self.now g.met.K.Ord.total c.args.key c.in_ok-place.place (from_ok _ _ (sym c.in_ok-place.was ∙ c.ok.ensures.value) ∙ c.place.ensures.location)
    c.index-self-place.result c.index-self-place.is

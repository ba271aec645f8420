use Rattle.std.proofs.Common.{rules, List, sym, subst, ◌∙◌}
use Rattle.std.proofs.lemmas.Fn.{always_returns_same}
use Rattle.model.specs.declared.tickets.Entity.{Entity}
use Rattle.model.specs.Laws.{Rising}
use Rattle.holdings.proofs.Searches.{found}
use Rattle.holdings.proofs.rows.Rows.find.Goals as goal

pub returns : goal.returns
returns c =
    let s = c.args.self.now in
    let at = c.binary_search_by_key.ensures.position (λ e. e.number) (always_returns_same _ _ _ (λ x r f' k. search rules)) in
    c.ok.ensures.value ∙ rw (← c.taken.ensures) (found 1 s.next c.args.number _ (subst (λ (es : List Entity). Rising 1 es s.next) (sym c.taken.ensures) s.order.rising) _ c.binary_search_by_key.ensures.bound at)

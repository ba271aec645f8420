use Rattle.std.proofs.Common.{rules, sym, ap, ◌∙◌}
use borrow.Author.Tests.{tests}
use Rattle.std.proofs.lemmas.Iterator.Search.{any_from_yields_List}
use Rattle.scheme_records.specs.Listed.{listed}
use Rattle.scheme_records.specs.Said.{filter_for, demand_for, rule_for, repeats}
use Rattle.scheme_records.specs.declared.record.Record.{Record}
use Rattle.scheme_records.proofs.Walking.{walks}
use Rattle.scheme_records.proofs.records.Records.has_key_of.Goals as goal

pub returns-in-Filter : goal.returns-in-Filter
returns-in-Filter c =
    let q = c.in-Filter.key in
    any_from_yields_List (filter_for q.link q.giver q.taker q.target) c.any.new.self _ c.any.result c.any.ensures.ran (walks c.iter.ensures) (λ x b q k. search (rules, tests))
    ∙ ap (λ (r : Record). repeats (listed c.args.self) r) (sym c.in-Filter.is)

pub returns-in-Demand : goal.returns-in-Demand
returns-in-Demand c =
    let q = c.in-Demand.key in
    any_from_yields_List (demand_for q.demander q.target) c.any-in-Demand.new.self _ c.any-in-Demand.result c.any-in-Demand.ensures.ran (walks c.iter-in-Demand.ensures) (λ x b q k. search (rules, tests))
    ∙ ap (λ (r : Record). repeats (listed c.args.self) r) (sym c.in-Demand.is)

pub returns-in-Rule : goal.returns-in-Rule
returns-in-Rule c =
    let q = c.in-Rule.key in
    any_from_yields_List (rule_for q.first q.second q.child) c.any-in-Rule.new.self _ c.any-in-Rule.result c.any-in-Rule.ensures.ran (walks c.iter-in-Rule.ensures) (λ x b q k. search (rules, tests))
    ∙ ap (λ (r : Record). repeats (listed c.args.self) r) (sym c.in-Rule.is)

use Rattle.std.proofs.Common.{List, Some, refl, ap, ◌∙◌, rules}
use Rattle.std.specs.List.{slice_get}
use Rattle.model.specs.declared.rules.Rule.{Rule as RuleStruct}
use Rattle.scheme_records.specs.declared.record.Record.{Record}
use Rattle.scheme_records.specs.Said.{rules_of}
use Rattle.scheme_file.specs.Lawful.{file_scheme, file_well_formed}
use Rattle.scheme_file.proofs.Nested.{first_nested, second_nested, own_nested, stands, second_made, rule_made}
use Rattle.scheme_file.proofs.reader.SchemeFileScheme.rule.Goals as goal

pub part-requires : goal.part-requires
part-requires c =
    let file = c.args.self.now.bytes.now in
    first_nested (file_scheme file) (file_well_formed file c.args.self.now.sound) c.args.number c.in_ok-key.key c.in_ok-key.sets
    (c.in_ok-key.ensures ∙ ap (λ (rs : List Record). slice_get (rules_of rs) c.args.number) c.records.ensures)

pub map-requires : goal.map-requires
map-requires c =
    let file = c.args.self.now.bytes.now in
    let there = c.in_ok-key.ensures ∙ ap (λ (rs : List Record). slice_get (rules_of rs) c.args.number) c.records.ensures in
    λ kind e κ v r l u t. second_nested (file_scheme file) (file_well_formed file c.args.self.now.sound) c.args.number c.in_ok-key.key c.in_ok-key.sets there kind e

pub returns : goal.returns
returns c =
    let file = c.args.self.now.bytes.now in
    let there = c.in_ok-key.ensures ∙ ap (λ (rs : List Record). slice_get (rules_of rs) c.args.number) c.records.ensures in
    let own = c.into.ensures ∙ stands c.in_ok-key.sets.own (own_nested (file_scheme file) (file_well_formed file c.args.self.now.sound) c.args.number c.in_ok-key.key c.in_ok-key.sets there) in
    let second = second_made _ c.map.result c.in_ok-key.sets.second c.map.ensures.cases (λ k p h. search rules) in
    let made : RuleStruct = record { first = c.part.result; second = c.map.result; child = c.in_ok-key.key.child; own = c.into.result } in
    ap Some (rule_made made c.in_ok-key.key c.in_ok-key.sets c.part.ensures second refl own) ∙ there

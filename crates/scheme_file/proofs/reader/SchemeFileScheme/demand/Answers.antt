use Rattle.std.proofs.Common.{List, ap, ◌∙◌}
use Rattle.scheme_records.specs.declared.record.Record.{Record}
use Rattle.scheme_records.specs.Said.{said}
use Rattle.scheme_file.specs.Lawful.{file_scheme, file_well_formed}
use Rattle.scheme_file.proofs.Nested.{found_nested, stands}
use Rattle.scheme_file.proofs.reader.SchemeFileScheme.demand.Goals as goal

pub returns : goal.returns
returns c =
    let file = c.args.self.now.bytes.now in
    let said = c.demand.ensures ∙ ap (λ (rs : List Record). (said rs).demand c.args.key.demander c.args.key.target) c.records.ensures in
    let nested = found_nested (file_scheme file) c.demand.result _ said ((file_well_formed file c.args.self.now.sound).demands c.args.key.demander c.args.key.target) in
    c.into.ensures ∙ stands c.demand.result nested ∙ said

use Rattle.std.proofs.Common.{List, ap, ◌∙◌}
use Rattle.scheme_records.specs.declared.record.Record.{Record}
use Rattle.scheme_records.specs.Said.{said}
use Rattle.scheme_file.specs.Lawful.{file_scheme, file_well_formed}
use Rattle.scheme_file.proofs.Nested.{found_nested, stands}
use Rattle.scheme_file.proofs.reader.SchemeFileScheme.filter.Goals as goal

pub returns : goal.returns
returns c =
    let file = c.args.self.now.bytes.now in
    let said = c.filter.ensures ∙ ap (λ (rs : List Record). (said rs).filter c.args.key.link c.args.key.giver c.args.key.taker c.args.key.target) c.records.ensures in
    let nested = found_nested (file_scheme file) c.filter.result _ said ((file_well_formed file c.args.self.now.sound).filters c.args.key.link c.args.key.giver c.args.key.taker c.args.key.target) in
    c.into.ensures ∙ stands c.filter.result nested ∙ said

use Rattle.std.proofs.Common.{List, ap, ◌∙◌, arith}
use Rattle.scheme_records.specs.declared.record.Record.{Record}
use Rattle.scheme_records.specs.Said.{said}
use Rattle.scheme_file.specs.Lawful.{file_well_formed}
use Rattle.scheme_file.proofs.reader.SchemeFileScheme.rights.Goals as goal

pub overflow_cast-result : goal.overflow_cast-result
overflow_cast-result c =
    let e = c.rights.ensures ∙ ap (λ (rs : List Record). (said rs).rights) c.records.ensures in
    omega (arith, e, (file_well_formed c.args.self.now.bytes.now c.args.self.now.sound).few_rights)

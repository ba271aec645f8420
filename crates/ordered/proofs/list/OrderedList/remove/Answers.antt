use Rattle.std.proofs.Common.{sym, ◌∙◌}
use Rattle.ordered.proofs.Changes.{taken_out, taken_out_rises, not_out}
use Rattle.ordered.proofs.list.OrderedList.remove.Goals as goal

pub invariant_of-self-clause-rising : goal.invariant_of-self-clause-rising
invariant_of-self-clause-rising g c = taken_out_rises c.args.self.now g.met.K.Ord.total c.args.key c.in-Ok.place c.in-Ok.ensures.location _ c.rotate_left.ensures.after

pub returns-in-Ok-clause-listed : goal.returns-in-Ok-clause-listed
returns-in-Ok-clause-listed g c = taken_out c.args.self.now g.met.K.Ord.total c.args.key c.in-Ok.place c.in-Ok.ensures.location _ c.rotate_left.ensures.after

pub returns-in_default-clause-listed : goal.returns-in_default-clause-listed
returns-in_default-clause-listed g c = not_out c.args.self.now g.met.K.Ord.total c.args.key c.in_default.field-0 (sym c.in_default.is ∙ c.place.ensures.location)

use Rattle.std.proofs.Common.{arith}
use Rattle.ordered.proofs.Changes.{replaced, replaced_rises, let_in, let_in_rises}
use Rattle.ordered.proofs.list.OrderedList.put.Goals as goal

pub invariant_of-self-clause-rising : goal.invariant_of-self-clause-rising
invariant_of-self-clause-rising g c = replaced_rises c.args.self.now g.met.K.Ord.total c.args.key c.in-Ok.place c.in-Ok.ensures.location c.args.value

pub returns-in-Ok-clause-listed : goal.returns-in-Ok-clause-listed
returns-in-Ok-clause-listed g c = replaced c.args.self.now g.met.K.Ord.total c.args.key c.in-Ok.place c.in-Ok.ensures.location c.args.value

pub invariant_of-self-in-Err-2-clause-rising : goal.invariant_of-self-in-Err-2-clause-rising
invariant_of-self-in-Err-2-clause-rising g c =
    let l = c.args.self.now in
    let_in_rises l g.met.K.Ord.total c.args.key c.in-Err.place c.in-Err.ensures.location c.args.value (omega (arith, l.fits, c.if-self.false)) _ c.rotate_right.ensures.after

pub returns-else-self-clause-listed : goal.returns-else-self-clause-listed
returns-else-self-clause-listed g c =
    let l = c.args.self.now in
    let_in l g.met.K.Ord.total c.args.key c.in-Err.place c.in-Err.ensures.location c.args.value (omega (arith, l.fits, c.if-self.false)) _ c.rotate_right.ensures.after

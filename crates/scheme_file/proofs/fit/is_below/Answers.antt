use Rattle.std.proofs.Common.{arith}
use Rattle.scheme_file.proofs.Zeros.{below_all, below_shift}
use Rattle.scheme_file.proofs.fit.is_below.Goals as goal

pub returns-then-rights-ge16 : goal.returns-then-rights-ge16
returns-then-rights-ge16 c = below_all c.args.mask c.args.rights c.if-rights-ge16.true (omega arith)

pub returns-else-rights-ge16 : goal.returns-else-rights-ge16
returns-else-rights-ge16 c = below_shift c.args.mask c.args.rights

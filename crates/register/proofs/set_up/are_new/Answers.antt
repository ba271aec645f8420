use Rattle.std.proofs.Common.{rules}
use Rattle.register.proofs.News.{is_new}
use Rattle.register.proofs.set_up.are_new.Goals as goal

pub returns-then-standing-eq0-clause-new : goal.returns-then-standing-eq0-clause-new
returns-then-standing-eq0-clause-new g c t =
    is_new (g.H.Holdings.meaning c.args.holdings.now) (g.H.Holdings.orderly c.args.holdings.now) (search rules) (search rules)

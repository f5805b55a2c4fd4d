-- One is due of a server.
use Rattle.std.proofs.Common.{◌<◌, subst}
use Rattle.frang_base.specs.declared.limits.TheConstants.{SERVERS}
use Rattle.world_asks.specs.Asking.{core_of}
use Rattle.world_asks.proofs.Due.{answers}
use Rattle.world_asks.proofs.asking.Asking.may_answer.Goals as goal

pub returns : goal.returns
returns c =
    answers (core_of c.args.self.now) c.args.self.now.number c.due.result c.is_some.result (subst (λ n. n < SERVERS) c.number-number.ensures.number c.number-number.ensures.small) c.is_some.ensures c.due.ensures

-- Whom the taker may recover, and where that is none, nobody may.
use Rattle.std.proofs.Common.{◌≡◌, false, below_more, sym, ◌∙◌, arith}
use Rattle.core_definitions.specs.EndGuards.{may_recover}
use Rattle.core_laws.proofs.Guarding.{recover_can}
use Rattle.world_state.specs.States.{core_at}
use Rattle.world_next.specs.Over.{core_over}
use Rattle.world_next.proofs.Beginning.{no_recovery_begins}
use Rattle.world_next.proofs.recoveries.begin_recovery.Goals as goal

pub returns-then-may_recover : goal.returns-then-may_recover
returns-then-may_recover c = λ tree. recover_can (core_over c.args.world.now tree) c.loop-dead.dead c.taker-by.result.0 (sym c.may_recover.ensures ∙ c.if-may_recover.true)

pub loop-dead-preserved : goal.loop-dead-preserved
loop-dead-preserved c =
    below_more (λ d. may_recover (core_at c.args.world.now) d c.taker-by.result.0 ≡ false) c.loop-dead.dead c.loop-dead.invariant (sym c.may_recover.ensures ∙ c.if-may_recover.false)

pub returns : goal.returns
returns c = λ tree.
    no_recovery_begins (core_over c.args.world.now tree) c.taker-by.result.0 c.taker-by.ensures (λ d small. c.loop-dead.invariant d (omega arith))

-- The first that may be closed, and where there is none, none may.
use Rattle.std.proofs.Common.{◌≡◌, false, below_more, sym, ◌∙◌, arith}
use Rattle.core_definitions.specs.EndGuards.{may_close}
use Rattle.core_laws.proofs.Guarding.{close_can}
use Rattle.world_state.specs.States.{core_at}
use Rattle.world_next.specs.Over.{core_over}
use Rattle.world_next.proofs.Ending.{no_close}
use Rattle.world_next.proofs.ends.close_event.Goals as goal

pub returns-then-may_close : goal.returns-then-may_close
returns-then-may_close c = λ tree. close_can (core_over c.args.world.now tree) c.loop-a.a (sym c.may_close.ensures ∙ c.if-may_close.true)

pub loop-a-preserved : goal.loop-a-preserved
loop-a-preserved c = below_more (λ a. may_close (core_at c.args.world.now) a ≡ false) c.loop-a.a c.loop-a.invariant (sym c.may_close.ensures ∙ c.if-may_close.false)

pub returns : goal.returns
returns c = λ tree. no_close (core_over c.args.world.now tree) (λ a small. c.loop-a.invariant a (omega arith))

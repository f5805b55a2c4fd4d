-- A put that is answered below is answered so here, and counted.
use Rattle.std.proofs.Common.{Ok, subst}
use Rattle.frang_outside.specs.Outside.{PutOutcome}
use Rattle.quiet_outside.specs.KeptLines.{quiet_state, state_over}
use Rattle.quiet_outside.proofs.Passing.{put_keeps, put_over}
use Rattle.quiet_outside.proofs.quiet.Quiet.pass.Goals as goal

pub invariant_of-self : goal.invariant_of-self
invariant_of-self g c =
    put_keeps (g.O.Outside.state c.self.inside.out) (g.O.Outside.state c.put.new.self) c.self.inside.befores.items c.self.inside.lines.items c.self.inside.puts c.self.inside.fail_at c.self.inside.failed c.args.put.now c.in-Ok.taken c.in-Ok.ensures.outcome c.self.invariant

pub returns-in-Ok-clause-outcome : goal.returns-in-Ok-clause-outcome
returns-in-Ok-clause-outcome g c =
    subst (λ q. PutOutcome (quiet_state g.O.Outside.state q) (state_over (g.O.Outside.state c.put.new.self) c.self.inside.befores.items c.self.inside.lines.items c.self.inside.fail_at c.self.inside.failed) c.args.put.now (Ok c.in-Ok.taken))
    c.self.view_is
    (put_over (g.O.Outside.state c.self.inside.out) (g.O.Outside.state c.put.new.self) c.self.inside.befores.items c.self.inside.lines.items c.self.inside.fail_at c.self.inside.puts c.self.inside.failed c.args.put.now (Ok c.in-Ok.taken) c.self.invariant c.in-Ok.ensures.outcome)

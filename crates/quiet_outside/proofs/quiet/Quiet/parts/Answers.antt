-- What is given back is what it stood on, with the lines kept.
use Rattle.quiet_outside.proofs.Passing.{gives_back}
use Rattle.quiet_outside.proofs.quiet.Quiet.parts.Goals as goal

pub returns-clause-gives : goal.returns-clause-gives
returns-clause-gives g c =
    rw (← c.self.view_is)
    (gives_back (g.O.Outside.state c.self.inside.out) c.self.inside.befores.items c.self.inside.lines.items c.self.inside.puts c.self.inside.fail_at c.self.inside.failed c.self.invariant)

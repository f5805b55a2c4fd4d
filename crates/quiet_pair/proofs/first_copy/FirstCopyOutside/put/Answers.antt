-- What is counted of a first copy's puts goes on with this one.
use Rattle.quiet_pair.proofs.Counting.{put_keeps}
use Rattle.quiet_pair.proofs.first_copy.FirstCopyOutside.put.Goals as goal

pub invariant_of-self : goal.invariant_of-self
invariant_of-self g c =
    put_keeps g.O.Outside.state g.N.Naming.outset c.self.inside.quiet c.put.new.self c.args.put.now c.put.result c.self.invariant c.put.ensures.answer c.put.ensures.outcome c.put.ensures.below

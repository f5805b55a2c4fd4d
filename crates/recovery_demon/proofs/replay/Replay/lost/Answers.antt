-- What is kept stays true of the replay once a write is lost.
use Rattle.std.proofs.Common.{sym, subst}
use Rattle.recovery_demon.specs.Fields.{replaying_of}
use Rattle.recovery_demon.specs.Replays.{IsKept}
use Rattle.recovery_demon.proofs.Changing.{lost_kept}
use Rattle.recovery_demon.proofs.replay.Replay.lost.Goals as goal

pub invariant_of-self : goal.invariant_of-self
invariant_of-self c =
    let r = replaying_of c.self.inside in
    subst IsKept (λ i. record r { flying = sym c.in-Some.ensures.entries i; waiting = sym c.put.ensures.entries i }) (lost_kept r c.self.invariant c.args.sector.0 c.in-Some.block (sym c.in-Some.ensures.before))

pub returns-clause-kept : goal.returns-clause-kept
returns-clause-kept c =
    let r = replaying_of c.self.inside in
    subst IsKept (λ i. record r { flying = sym c.in-Some.ensures.entries i; waiting = sym c.put.ensures.entries i }) (lost_kept r c.self.invariant c.args.sector.0 c.in-Some.block (sym c.in-Some.ensures.before))

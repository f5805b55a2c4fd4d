-- The greatest operation is the one that is kept.
use Rattle.std.proofs.Common.{ap, ◌∙◌}
use Rattle.recovery_demon.specs.Recovering.{greatest_kept}
use Rattle.recovery_demon.proofs.Seen.{seen_greatest}
use Rattle.recovery_demon.proofs.Tied.{seen_as, tied_some}
use Rattle.recovery_demon.proofs.demon.Demon.greatest.Goals as goal

pub returns : goal.returns
returns c =
    let i = c.self.inside in
    let tied = tied_some i.dead.0 i.segments i.slots.entries i.replay c.in-Some.replay c.self.invariant c.in-Some.is in
    let seen = seen_as i.dead.0 i.segments i.slots i.replay c.in-Some.replay c.args.self.now c.in-Some.is c.self.view_is in
    c.greatest.ensures ∙ seen_greatest i.dead.0 i.segments i.slots.entries c.in-Some.replay.replay tied ∙ ap (λ d. greatest_kept d.recovery) seen

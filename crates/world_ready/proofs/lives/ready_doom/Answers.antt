-- By the guard, with the fate that the core settles.
use Rattle.std.proofs.Common.{sym, ◌∙◌}
use Rattle.core_definitions.specs.Cores.{writes}
use Rattle.core_definitions.specs.WriteEffects.{fate_of}
use Rattle.core_definitions.specs.WriteGuards.{may_doom}
use Rattle.world_ready.proofs.Asked.{of_world}
use Rattle.world_ready.proofs.LifeReady.{dooms, dooms_not}
use Rattle.world_ready.proofs.lives.ready_doom.Goals as goal

pub returns-then-not-may_doom : goal.returns-then-not-may_doom
returns-then-not-may_doom c =
    let s = c.args.world.now in
    dooms_not s c.args.a
    (sym (of_world c.new-asking.result s c.args.a.0 (λ d n. may_doom d n (writes d n)) c.new-asking.ensures.world c.new-asking.ensures.number) ∙ sym c.may_doom.ensures ∙ c.if-not-may_doom.true)

pub returns : goal.returns
returns c =
    let s = c.args.world.now in
    dooms s c.args.a c.fate.result
    (sym (of_world c.new-asking.result s c.args.a.0 (λ d n. may_doom d n (writes d n)) c.new-asking.ensures.world c.new-asking.ensures.number) ∙ sym c.may_doom.ensures ∙ c.if-not-may_doom.false)
    (c.fate.ensures ∙ of_world c.new-asking.result s c.args.a.0 fate_of c.new-asking.ensures.world c.new-asking.ensures.number)

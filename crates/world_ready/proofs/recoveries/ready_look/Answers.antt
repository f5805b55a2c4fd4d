-- By the guard, with room for what is seen.
use Rattle.std.proofs.Common.{◌&&◌, Bool, sym, ap, ◌∙◌}
use Rattle.core_definitions.specs.Cores.{Core}
use Rattle.core_definitions.specs.EndGuards.{is_recovery, wants_look}
use Rattle.core_definitions.specs.WriteGuards.{is_worker}
use Rattle.world_state.specs.States.{core_at}
use Rattle.world_ready.proofs.RecoveryReady.{looks, looks_not}
use Rattle.world_ready.proofs.recoveries.ready_look.Goals as goal

pub returns-then-not-may_look-clause-made : goal.returns-then-not-may_look-clause-made
returns-then-not-may_look-clause-made c =
    let test : Core → Bool = λ d. is_worker d c.args.by.0 && is_recovery (wants_look d c.args.sector.0) (d.servers c.args.by.0).recovery in
    looks_not (core_at c.args.world.now) c.ready_recovery.new.self c.args.by c.args.sector.0 (ap test (sym c.in_ok-ready_recovery.ensures.core) ∙ sym c.may_look.ensures ∙ c.if-not-may_look.true)

pub returns-clause-made : goal.returns-clause-made
returns-clause-made c =
    let test : Core → Bool = λ d. is_worker d c.args.by.0 && is_recovery (wants_look d c.args.sector.0) (d.servers c.args.by.0).recovery in
    looks (core_at c.args.world.now) c.ready_recovery.new.self c.args.by c.args.sector (ap test (sym c.in_ok-ready_recovery.ensures.core) ∙ sym c.may_look.ensures ∙ c.if-not-may_look.false) c.in_ok-ready_recovery.ensures.ready

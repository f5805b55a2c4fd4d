-- By the guard, with room for the slot.
use Rattle.std.proofs.Common.{sym, ap, subst, ◌∙◌}
use Rattle.std.proofs.lemmas.Bool.{and_parts}
use Rattle.core_definitions.specs.Cores.{Core}
use Rattle.core_definitions.specs.EndGuards.{is_recovery, wants_slot}
use Rattle.core_definitions.specs.Events.{Load}
use Rattle.core_definitions.specs.WriteGuards.{is_worker}
use Rattle.hall_runs.specs.Asking.{Asks}
use Rattle.world_state.specs.States.{core_at}
use Rattle.world_ready.proofs.RecoveryReady.{loads, loads_not}
use Rattle.world_ready.proofs.recoveries.ready_load.Goals as goal

pub returns-then-not-may_load-clause-made : goal.returns-then-not-may_load-clause-made
returns-then-not-may_load-clause-made c = loads_not (core_at c.args.world.now) c.args.world.now c.args.by c.args.slot (sym c.may_load.ensures ∙ c.if-not-may_load.true)

pub ready_recovery-requires : goal.ready_recovery-requires
ready_recovery-requires c =
    let d : Core = core_at c.args.world.now in
    (and_parts (is_worker d c.args.by.0) (is_recovery (wants_slot d c.args.slot) (d.servers c.args.by.0).recovery) (sym c.may_load.ensures ∙ c.if-not-may_load.false)).0

pub slot_call-requires : goal.slot_call-requires
slot_call-requires c =
    let d : Core = core_at c.args.world.now in
    ap (λ (e : Core). is_worker e c.args.by.0) c.in_ok-ready_recovery.ensures.core
    ∙ (and_parts (is_worker d c.args.by.0) (is_recovery (wants_slot d c.args.slot) (d.servers c.args.by.0).recovery) (sym c.may_load.ensures ∙ c.if-not-may_load.false)).0

pub returns-clause-made : goal.returns-clause-made
returns-clause-made c =
    loads (core_at c.args.world.now) c.ready_recovery.new.self c.args.by c.args.slot c.slot_call.result (sym c.may_load.ensures ∙ c.if-not-may_load.false) c.in_ok-ready_recovery.ensures.ready
    (subst (λ (e : Core). Asks e (Load c.args.by.0 c.args.slot) c.slot_call.result) c.in_ok-ready_recovery.ensures.core c.slot_call.ensures)

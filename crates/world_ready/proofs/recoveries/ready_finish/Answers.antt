-- By the guard, with its line.
use Rattle.std.proofs.Common.{sym, ap, subst, ◌∙◌}
use Rattle.core_definitions.specs.Cores.{Core}
use Rattle.core_definitions.specs.EndGuards.{may_finish}
use Rattle.core_definitions.specs.Events.{Finish}
use Rattle.hall_runs.specs.Asking.{Asks}
use Rattle.hall_runs.specs.declared.event.Call.TheVariants as call
use Rattle.world_state.specs.States.{core_at}
use Rattle.world_ready.proofs.RecoveryReady.{finishes, finishes_nobody, finishes_not, worker_is_party, works}
use Rattle.world_ready.proofs.recoveries.ready_finish.Goals as goal

pub returns-then-not-is_worker-clause-made : goal.returns-then-not-is_worker-clause-made
returns-then-not-is_worker-clause-made c =
    let s = c.args.world.now in
    finishes_nobody (core_at s) c.args.by s (sym (works s c.args.by.0 c.parties.result.now c.is_worker.result c.parties.ensures c.is_worker.ensures) ∙ c.if-not-is_worker.true)

pub refresh_recovery-requires : goal.refresh_recovery-requires
refresh_recovery-requires c =
    let s = c.args.world.now in
    worker_is_party (core_at s) c.args.by.0 (sym (works s c.args.by.0 c.parties.result.now c.is_worker.result c.parties.ensures c.is_worker.ensures) ∙ c.if-not-is_worker.false)

pub returns-then-not-may_finish-clause-made : goal.returns-then-not-may_finish-clause-made
returns-then-not-may_finish-clause-made c =
    finishes_not (core_at c.args.world.now) c.args.by c.refresh_recovery.new.self
    (ap (λ (d : Core). may_finish d c.args.by.0) (sym c.in_ok-refresh_recovery.ensures.core) ∙ sym c.may_finish.ensures ∙ c.if-not-may_finish.true)

pub returns-clause-made : goal.returns-clause-made
returns-clause-made c =
    finishes (core_at c.args.world.now) c.args.by c.refresh_recovery.new.self c.in_ok-text.text
    (ap (λ (d : Core). may_finish d c.args.by.0) (sym c.in_ok-refresh_recovery.ensures.core) ∙ sym c.may_finish.ensures ∙ c.if-not-may_finish.false)
    (subst (λ (d : Core). Asks d (Finish c.args.by.0) (call.Say c.in_ok-text.text)) c.in_ok-refresh_recovery.ensures.core c.in_ok-text.ensures)

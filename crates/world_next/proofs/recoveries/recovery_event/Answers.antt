-- It is over by the guard, and where nothing is found, nothing was.
use Rattle.std.proofs.Common.{ℕ, sym, ◌∙◌, subst}
use Rattle.core_definitions.specs.EndGuards.{CanLoad, CanLook}
use Rattle.core_laws.proofs.Guarding.{finish_can}
use Rattle.world_next.specs.Over.{core_over}
use Rattle.world_next.specs.Picking.{PicksOf}
use Rattle.world_next.proofs.Living.{finishes_not}
use Rattle.world_next.proofs.recoveries.recovery_event.Goals as goal

pub returns-then-may_finish : goal.returns-then-may_finish
returns-then-may_finish c = λ tree. finish_can (core_over c.args.world.now tree) c.args.by.0 (sym c.may_finish.ensures ∙ c.if-may_finish.true)

pub returns : goal.returns
returns c = λ tree.
    let s = c.args.world.now in
    let by = c.args.by.0 in
    record {
      load = subst (PicksOf s (λ d. (slot : ℕ) → CanLoad d by slot → ⊥)) c.in_default.is c.load_event.ensures tree;
      look = subst (PicksOf s (λ d. (sector : ℕ) → CanLook d by sector → ⊥)) c.in_default-look_event.is c.look_event.ensures tree;
      finish = finishes_not (core_over s tree) by (sym c.may_finish.ensures ∙ c.if-may_finish.false);
    }

-- One that is found waits, and till then none does.
use Rattle.std.proofs.Common.{ℕ, add-one, sym, ap, ◌∙◌}
use Rattle.std.specs.List.{list_any}
use Rattle.tree_definitions.specs.Numbers.{below}
use Rattle.core_definitions.specs.EndGuards.{is_to_recover}
use Rattle.world_state.specs.States.{core_at}
use Rattle.world_state.proofs.Recovering.{any_found, any_one_more}
use Rattle.world_state.proofs.world.World.is_one_below.Goals as goal

pub returns-then-is_to_recover : goal.returns-then-is_to_recover
returns-then-is_to_recover c =
    sym (any_found (is_to_recover (core_at c.args.self.now)) c.args.dead.0 c.loop-a.a c.loop-a-test.true (sym c.is_to_recover.ensures ∙ c.if-is_to_recover.true))

pub loop-a-preserved : goal.loop-a-preserved
loop-a-preserved c =
    ap (λ (n : ℕ). list_any (is_to_recover (core_at c.args.self.now)) (below n)) (add-one c.loop-a.a)
    ∙ any_one_more (is_to_recover (core_at c.args.self.now)) c.loop-a.a c.loop-a.invariant (sym c.is_to_recover.ensures ∙ c.if-is_to_recover.false)

-- One that is found is at the gate, and till then none is.
use Rattle.std.proofs.Common.{◌≡◌, ℕ, false, add-one, arith, sym, ap, ◌∙◌, subst}
use Rattle.std.specs.List.{list_any}
use Rattle.frang_base.specs.declared.limits.TheConstants.{SERVERS}
use Rattle.tree_definitions.specs.Numbers.{below}
use Rattle.core_definitions.specs.LineGuards.{is_at_gate}
use Rattle.world_state.specs.States.{core_at}
use Rattle.world_state.proofs.Recovering.{any_found, any_one_more}
use Rattle.world_list.proofs.clock.is_one_at_gate.Goals as goal

pub returns-then-is_at_gate : goal.returns-then-is_at_gate
returns-then-is_at_gate c = sym (any_found (is_at_gate (core_at c.args.world.now)) SERVERS c.loop-a.a (omega (arith, c.loop-a-test.true)) (sym c.is_at_gate.ensures ∙ c.if-is_at_gate.true))

pub loop-a-preserved : goal.loop-a-preserved
loop-a-preserved c =
    ap (λ (n : ℕ). list_any (is_at_gate (core_at c.args.world.now)) (below n)) (add-one c.loop-a.a)
    ∙ any_one_more (is_at_gate (core_at c.args.world.now)) c.loop-a.a c.loop-a.invariant (sym c.is_at_gate.ensures ∙ c.if-is_at_gate.false)

pub returns : goal.returns
returns c =
    let all : c.loop-a.a ≡ SERVERS = omega arith in
    sym (subst (λ (n : ℕ). list_any (is_at_gate (core_at c.args.world.now)) (below n) ≡ false) all c.loop-a.invariant)

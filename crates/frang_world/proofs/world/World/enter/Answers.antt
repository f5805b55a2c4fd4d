-- The next line passes the gate, whichever may enter, and nothing else changes.
use Rattle.std.proofs.Common.{ℕ, ◌≡◌, Some, None, true, sym, subst, ap, ◌∙◌}
use Rattle.frang_base.specs.Functions.{put}
use Rattle.core_definitions.specs.Cores.{Core}
use Rattle.core_definitions.specs.Runs.{CanEnter}
use Rattle.hall_runs.specs.Gates.{number_to_enter}
use Rattle.world_next.specs.Over.{core_over}
use Rattle.frang_world.specs.States.{State, core_of}
use Rattle.frang_world.proofs.Aside.{over}
use Rattle.frang_world.proofs.Entering.{enters_none, enters_this, number_is_next}
use Rattle.frang_world.proofs.Keeping.{kept_beside}
use Rattle.frang_world.proofs.world.World.enter.Goals as goal

pub pass-requires : goal.pass-requires
pass-requires c = number_is_next (core_over c.self.inside.world c.self.inside.tree) c.args.server.0 c.in-Some.number (sym (c.in-Some.ensures c.self.inside.tree))

pub invariant_of-self : goal.invariant_of-self
invariant_of-self c = kept_beside c.self.inside.world c.pass.new.self c.self.inside.tree (ap (λ (d : Core). d.setting.segments) c.pass.ensures) c.self.invariant c.put_ready.new.ready c.put_ready.ensures

pub returns-in-Some-clause-enters : goal.returns-in-Some-clause-enters
returns-in-Some-clause-enters c = λ line can.
    let tree = c.self.inside.tree in
    let core : Core = core_over c.self.inside.world tree in
    let P : State → Type 0 = λ s. CanEnter (core_of s) c.args.server.0 line in
    let same : c.in-Some.number ≡ line.number = enters_this core c.args.server.0 line c.in-Some.number (subst P (sym c.self.view_is) can) (sym (c.in-Some.ensures tree)) in
    ap (λ (d : Core). over d tree.read tree.shown) c.pass.ensures
    ∙ ap (λ (n : ℕ). record core { passed = put core.passed n true }) same
    ∙ ap (λ (s : State). record (core_of s) { passed = put (core_of s).passed line.number true }) c.self.view_is

pub returns-in-Some-clause-stays : goal.returns-in-Some-clause-stays
returns-in-Some-clause-stays c = λ none.
    let some : Some c.in-Some.number ≡ None = c.in-Some.ensures c.self.inside.tree ∙ ap (λ (s : State). number_to_enter (core_of s) c.args.server.0) c.self.view_is ∙ none in
    absurd (cc)

pub returns-in_default-clause-enters : goal.returns-in_default-clause-enters
returns-in_default-clause-enters c = λ line can.
    let tree = c.self.inside.tree in
    let P : State → Type 0 = λ s. CanEnter (core_of s) c.args.server.0 line in
    absurd (enters_none (core_over c.self.inside.world tree) c.args.server.0 line (subst P (sym c.self.view_is) can) (sym (c.to_enter.ensures tree) ∙ c.in_default.is))

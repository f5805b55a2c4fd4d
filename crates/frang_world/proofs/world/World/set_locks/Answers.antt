-- Another table stands in the place of the present one, and nothing is ready.
use Rattle.std.proofs.Common.{sym, ap, subst, ◌∙◌}
use Rattle.core_definitions.specs.Cores.{Core}
use Rattle.lock_definitions.specs.Same.{SameLocks}
use Rattle.frang_world.specs.States.{State, core_of}
use Rattle.frang_world.proofs.Aside.{over}
use Rattle.frang_world.proofs.Keeping.{kept_beside}
use Rattle.frang_world.proofs.world.World.set_locks.Goals as goal

pub set_locks-requires-clause-same : goal.set_locks-requires-clause-same
set_locks-requires-clause-same c =
    let P : State → Type 0 = λ s. SameLocks c.args.table.locks (core_of s).locks in
    subst P (sym c.self.view_is) c.requires.same

pub invariant_of-self : goal.invariant_of-self
invariant_of-self c = kept_beside c.self.inside.world c.set_locks.new.self c.self.inside.tree (ap (λ (d : Core). d.setting.segments) c.set_locks.ensures) c.self.invariant c.put_ready.new.ready c.put_ready.ensures

pub returns-clause-core : goal.returns-clause-core
returns-clause-core c =
    ap (λ (d : Core). over d c.self.inside.tree.read c.self.inside.tree.shown) c.set_locks.ensures
    ∙ ap (λ (s : State). record (core_of s) { locks = c.args.table.locks }) c.self.view_is

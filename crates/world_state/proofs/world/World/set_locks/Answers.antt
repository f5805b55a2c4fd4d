-- The table that comes has the same locks as the present one.
use Rattle.std.proofs.Common.{sym, subst}
use Rattle.lock_definitions.specs.Same.{SameLocks}
use Rattle.world_state.specs.States.{State}
use Rattle.world_state.proofs.world.World.set_locks.Goals as goal

pub set_locks-requires-clause-same : goal.set_locks-requires-clause-same
set_locks-requires-clause-same c =
    let P : State → Type 0 = λ s. SameLocks c.args.table.locks s.locks.locks in
    subst P (sym c.self.view_is) c.requires.same

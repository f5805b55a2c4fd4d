-- The list is of the core that it is made up to date.
use Rattle.std.proofs.Common.{◌≡◌, IfOk, map, subst}
use Rattle.core_definitions.specs.Enabled.{enabled}
use Rattle.hall_runs.specs.Asking.{event_of}
use Rattle.frang_world.specs.States.{State, core_of}
use Rattle.frang_world.proofs.world.World.enabled.Goals as goal

pub returns-clause-list : goal.returns-clause-list
returns-clause-list c =
    let P : State → Type 0 = λ s. IfOk c.enabled.result (λ list. map event_of list.items ≡ enabled (core_of s)) in
    subst P c.self.view_is c.enabled.ensures

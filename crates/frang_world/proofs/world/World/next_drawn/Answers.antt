-- An event that is drawn is one of those that may happen.
use Rattle.std.proofs.Common.{◌≡◌, IfOk, IfSome, Some, sym, subst}
use Rattle.core_definitions.specs.Enabled.{enabled}
use Rattle.core_definitions.specs.Guards.{Can}
use Rattle.hall_runs.specs.Asking.{event_of}
use Rattle.world_next.specs.Over.{core_over}
use Rattle.frang_world.specs.Picks.{drawn_from}
use Rattle.frang_world.specs.States.{State, core_of}
use Rattle.frang_world.proofs.Drawing.{all_can, all_drawn, none_can}
use Rattle.frang_world.proofs.world.World.next_drawn.Goals as goal

pub returns-clause-some : goal.returns-clause-some
returns-clause-some c =
    let P : State → Type 0 = λ s. IfOk c.drawn.result (λ found. IfSome found (λ event. Can (core_of s) (event_of event))) in
    subst P c.self.view_is (all_can (core_over c.self.inside.world c.self.inside.tree) c.args.draw c.drawn.result c.drawn.ensures)

pub returns-clause-drawn : goal.returns-clause-drawn
returns-clause-drawn c =
    let P : State → Type 0 = λ s. IfOk c.drawn.result (λ found. IfSome found (λ event. drawn_from (enabled (core_of s)) c.args.draw ≡ Some (event_of event))) in
    subst P c.self.view_is (all_drawn (core_over c.self.inside.world c.self.inside.tree) c.args.draw c.drawn.result c.drawn.ensures)

pub returns-clause-none : goal.returns-clause-none
returns-clause-none c = λ is event can.
    let P : State → Type 0 = λ s. Can (core_of s) event in
    none_can (core_over c.self.inside.world c.self.inside.tree) c.args.draw c.drawn.result c.drawn.ensures is event (subst P (sym c.self.view_is) can)

-- Another event before a tick, and a tick where there is no other.
use Rattle.std.proofs.Common.{subst}
use Rattle.core_definitions.specs.Cores.{Core}
use Rattle.core_definitions.specs.Guards.{CanTick}
use Rattle.world_next.specs.NoEvents.{NoneOther}
use Rattle.world_next.specs.Over.{core_over}
use Rattle.world_next.specs.Picking.{Picks}
use Rattle.world_next.proofs.Deciding.{goes, none_may, picked_goes}
use Rattle.world_next.proofs.choosing.next.Goals as goal

pub returns-in-Some : goal.returns-in-Some
returns-in-Some c =
    let core : Core = core_over c.args.world.now c.args.tree.now in
    record { some = goes core c.requires.going _ c.in-Some.ensures; none = λ is. absurd (cc) }

pub returns-in-None : goal.returns-in-None
returns-in-None c =
    let s = c.args.world.now in
    let tree = c.args.tree.now in
    let core : Core = core_over s tree in
    let other : NoneOther core = subst (Picks core NoneOther) c.in-None.is c.other_event.ensures in
    record {
      some = picked_goes core c.requires.going (λ d. CanTick d → ⊥) c.tick_event.result (c.tick_event.ensures tree other);
      none = none_may core c.tick_event.result other (c.tick_event.ensures tree other);
    }

-- As it is made ready for the event.
use Rattle.std.proofs.Common.{sym, subst}
use Rattle.world_state.specs.States.{core_at}
use Rattle.world_ready.specs.Asked.{event_for}
use Rattle.world_ready.specs.Making.{IsMadeOf}
use Rattle.world_ready.specs.declared.made.Asked.{Asked}
use Rattle.world_ready.proofs.made.ready_fresh.Goals as goal

pub returns-in-Doom-clause-made : goal.returns-in-Doom-clause-made
returns-in-Doom-clause-made c =
    let s = c.args.world.now in
    let Is : Asked → Type 0 = λ asked. IsMadeOf (core_at s) s (event_for c.args.a.0 asked) c.ready_doom.result in
    subst Is (sym c.in-Doom.is) c.ready_doom.ensures

-- Over the same core as before.
use Rattle.std.proofs.Common.{ap, ◌∙◌}
use Rattle.core_definitions.specs.Cores.{Core}
use Rattle.world_state.specs.States.{core_at}
use Rattle.world_ready.specs.Asked.{event_for}
use Rattle.world_ready.specs.Making.{IsMadeOf}
use Rattle.world_ready.proofs.AllReady.{made_of_over}
use Rattle.world_ready.proofs.Results.{if_ok}
use Rattle.world_ready.proofs.made.ready_asked.Goals as goal

pub ready_fresh-requires-clause-going : goal.ready_fresh-requires-clause-going
ready_fresh-requires-clause-going c = ap (λ (d : Core). d.over) c.in_ok-refresh.ensures.core ∙ c.requires.going

pub returns-clause-made : goal.returns-clause-made
returns-clause-made c =
    let old = core_at c.args.world.now in
    let new = c.ready_fresh.new.world in
    let mid = core_at c.refresh.new.world in
    let event = event_for c.args.a.0 c.args.asked in
    if_ok (IsMadeOf mid new event) (IsMadeOf old new event) c.ready_fresh.result (made_of_over old mid new event c.in_ok-refresh.ensures.core) c.ready_fresh.ensures.made

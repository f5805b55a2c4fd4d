-- Over the same core as before, and the same reading.
use Rattle.std.proofs.Common.{sym, ap, ◌∙◌}
use Rattle.core_definitions.specs.Cores.{Core}
use Rattle.core_definitions.specs.Events.{Tick}
use Rattle.world_state.specs.States.{core_at}
use Rattle.world_ready.proofs.AllReady.{made_over}
use Rattle.world_ready.proofs.made.ready_clock.Goals as goal

pub ready_tick-requires-clause-going : goal.ready_tick-requires-clause-going
ready_tick-requires-clause-going c = ap (λ (d : Core). d.over) c.in_ok-refresh.ensures.core ∙ c.requires.going

pub ready_tick-requires-clause-disk : goal.ready_tick-requires-clause-disk
ready_tick-requires-clause-disk c = c.in_ok-refresh.ensures.reading.segments ∙ c.requires.disk ∙ ap (λ (d : Core). d.setting.segments) (sym c.in_ok-refresh.ensures.core)

pub returns-clause-made : goal.returns-clause-made
returns-clause-made c =
    made_over (core_at c.args.world.now) (core_at c.refresh.new.world) c.refresh.new.world c.refresh.new.tree Tick c.ready_tick.result c.in_ok-refresh.ensures.core c.ready_tick.ensures

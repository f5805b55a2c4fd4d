-- The next one decides, or is stale.
use Rattle.std.proofs.Common.{◌≡◌, arith, length, sym, ◌∙◌}
use Rattle.core_definitions.specs.Guards.{is_stale}
use Rattle.hall_runs.specs.declared.event.Event.TheVariants as event
use Rattle.world_list.specs.Over.{core_over}
use Rattle.world_list.proofs.Stale.{all_pass, one_fails, one_passes}
use Rattle.world_list.proofs.clock.are_stale.Goals as goal

pub returns-then-not-is_stale : goal.returns-then-not-is_stale
returns-then-not-is_stale c tree =
    one_fails (is_stale (core_over c.args.world.now tree)) c.args.events.now c.loop-event.event-index (event.Begin (record { 0 = 0 })) c.loop-event-test.true (sym (c.is_stale.ensures tree) ∙ c.if-not-is_stale.true) (c.loop-event.invariant tree)

pub loop-event-preserved : goal.loop-event-preserved
loop-event-preserved c tree =
    one_passes (is_stale (core_over c.args.world.now tree)) c.args.events.now c.loop-event.event-index (event.Begin (record { 0 = 0 })) c.loop-event-test.true (sym (c.is_stale.ensures tree) ∙ c.if-not-is_stale.false) (c.loop-event.invariant tree)

pub returns : goal.returns
returns c tree =
    let all : c.loop-event.event-index ≡ length c.args.events.now = omega arith in
    all_pass (is_stale (core_over c.args.world.now tree)) c.args.events.now c.loop-event.event-index all (c.loop-event.invariant tree)

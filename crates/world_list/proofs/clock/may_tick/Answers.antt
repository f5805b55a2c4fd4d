-- A tick waits for both parts of the list.
use Rattle.std.proofs.Common.{sym, ◌∙◌}
use Rattle.world_list.specs.Listing.{events_of}
use Rattle.world_list.specs.Over.{core_over}
use Rattle.world_list.proofs.Ticking.{never_ticks, ticks_so}
use Rattle.world_list.proofs.clock.may_tick.Goals as goal

pub returns-then-are_both_stale : goal.returns-then-are_both_stale
returns-then-are_both_stale c tree =
    c.is_free.ensures ∙ ticks_so (core_over c.args.world.now tree) (events_of c.args.before.now) (events_of c.args.behind.now) (sym (c.are_both_stale.ensures tree) ∙ c.if-are_both_stale.true)

pub returns-else-are_both_stale : goal.returns-else-are_both_stale
returns-else-are_both_stale c tree =
    c.if-are_both_stale.false ∙ never_ticks (core_over c.args.world.now tree) (events_of c.args.before.now) (events_of c.args.behind.now) (sym (c.are_both_stale.ensures tree) ∙ c.if-are_both_stale.false)

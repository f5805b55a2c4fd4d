-- Where the first are not all stale, both are not.
use Rattle.std.proofs.Common.{◌&&◌, sym, ap, ◌∙◌}
use Rattle.std.specs.List.{list_all}
use Rattle.core_definitions.specs.Guards.{is_stale}
use Rattle.world_list.specs.Listing.{events_of}
use Rattle.world_list.specs.Over.{core_over}
use Rattle.world_list.proofs.clock.are_both_stale.Goals as goal

pub returns-then-are_stale : goal.returns-then-are_stale
returns-then-are_stale c tree =
    c.are_stale-then-are_stale.ensures tree ∙ sym (ap (λ b. b && list_all (is_stale (core_over c.args.world.now tree)) (events_of c.args.behind.now)) (sym (c.are_stale.ensures tree) ∙ c.if-are_stale.true))

pub returns-else-are_stale : goal.returns-else-are_stale
returns-else-are_stale c tree =
    c.if-are_stale.false ∙ sym (ap (λ b. b && list_all (is_stale (core_over c.args.world.now tree)) (events_of c.args.behind.now)) (sym (c.are_stale.ensures tree) ∙ c.if-are_stale.false))

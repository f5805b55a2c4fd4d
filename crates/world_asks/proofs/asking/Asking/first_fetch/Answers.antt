-- The first sector that it needs, or that its mount hasn't read.
use Rattle.std.proofs.Common.{sym, ◌∙◌}
use Rattle.core_definitions.specs.LineGuards.{needed_by}
use Rattle.world_asks.specs.Asking.{core_of, stage_in}
use Rattle.world_asks.specs.Fetches.{may_fetch, unread_of}
use Rattle.world_asks.proofs.NeededSectors.{fetches_down, fetches_up, first_passes}
use Rattle.world_asks.proofs.asking.Asking.first_fetch.Goals as goal

pub returns-then-is_up : goal.returns-then-is_up
returns-then-is_up c =
    let asked = c.args.self.now in
    first_passes (may_fetch (core_of asked) asked.number) (needed_by (stage_in asked)) c.first_needed.result
    (fetches_up asked c.party.result.now c.party.ensures (sym c.is_up.ensures ∙ c.if-is_up.true)) c.first_needed.ensures

pub returns-else-is_up : goal.returns-else-is_up
returns-else-is_up c =
    let asked = c.args.self.now in
    let server = c.party.result.now.server in
    first_passes (may_fetch (core_of asked) asked.number) (unread_of server.id server.server) c.first_unread.result
    (fetches_down asked c.party.result.now c.party.ensures (sym c.is_up.ensures ∙ c.if-is_up.false)) c.first_unread.ensures

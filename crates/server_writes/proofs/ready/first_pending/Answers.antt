-- The sectors that are pending are the keys.
use Rattle.std.proofs.Common.{ap, ◌∙◌}
use Rattle.ordered_map.specs.Chunks.{joined}
use Rattle.server_core.specs.States.{cached_in}
use Rattle.server_writes.specs.Wants.{first_of, ready_sector}
use Rattle.server_writes.proofs.Stepping.{first-map}
use Rattle.server_writes.proofs.ready.first_pending.Goals as goal

pub returns : goal.returns
returns c =
    let s = c.args.server.now in
    c.first_ready_piece.ensures ∙ first-map (ready_sector (cached_in s) s.server.ring.reached) (λ key. key.0) (joined c.pending.result.now)
    ∙ ap (first_of (ready_sector (cached_in s) s.server.ring.reached)) c.pending.ensures

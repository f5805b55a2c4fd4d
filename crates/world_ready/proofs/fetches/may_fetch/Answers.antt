-- As it is asked of the server.
use Rattle.std.proofs.Common.{◌∙◌}
use Rattle.world_asks.specs.Fetches.{may_fetch}
use Rattle.world_ready.proofs.Asked.{of_world}
use Rattle.world_ready.proofs.fetches.may_fetch.Goals as goal

pub returns : goal.returns
returns c = c.may_fetch.ensures ∙ of_world c.new-asking.result c.args.world.now c.args.a.0 (λ d n. may_fetch d n c.args.sector.0) c.new-asking.ensures.world c.new-asking.ensures.number

-- As it is asked of the server.
use Rattle.std.proofs.Common.{◌∙◌}
use Rattle.core_definitions.specs.Cores.{stage}
use Rattle.core_definitions.specs.LineEffects.{cover_needed}
use Rattle.world_ready.proofs.Asked.{of_world}
use Rattle.world_ready.proofs.fetches.cover_needed.Goals as goal

pub returns : goal.returns
returns c = c.cover_needed.ensures ∙ of_world c.new-asking.result c.args.world.now c.args.a.0 (λ d n. cover_needed (stage d n) c.args.sector.0) c.new-asking.ensures.world c.new-asking.ensures.number

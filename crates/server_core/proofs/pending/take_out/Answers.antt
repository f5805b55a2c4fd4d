-- It stood among them once at most.
use Rattle.std.proofs.Common.{ap, ◌∙◌}
use Rattle.std.specs.Map.{keys_of}
use Rattle.server_core.proofs.PendingSectors.{one_less}
use Rattle.server_core.proofs.pending.take_out.Goals as goal

pub returns-clause-sectors : goal.returns-clause-sectors
returns-clause-sectors c = ap keys_of c.remove.ensures.entries ∙ one_less c.args.pending.now.entries c.args.sector.0 c.count-count.ensures.ordered

-- The host is up to date too.
use Rattle.std.proofs.Common.{refl}
use Rattle.core_definitions.specs.Scripts.{host_party}
use Rattle.world_list.proofs.issues.may_issue.Goals as goal

pub host_write-requires-clause-fresh : goal.host_write-requires-clause-fresh
host_write-requires-clause-fresh c = (c.requires.fresh host_party refl).recovery

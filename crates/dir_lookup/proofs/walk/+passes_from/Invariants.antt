-- The names that are left grow fewer.
use Rattle.std.proofs.Common.{length}
use Rattle.dir_lookup.proofs.walk.+passes_from.Given as goal

abbrev pub decreases-passes_from : goal.decreases-passes_from
decreases-passes_from l = length l.names.now

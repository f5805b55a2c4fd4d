use Rattle.std.proofs.Common.{◌≡◌, ◌++◌, map}
use Rattle.wal_ring.proofs.names.listed.Given as goal

abbrev pub invariant-loop-sector : goal.invariant-loop-sector
invariant-loop-sector l = map (λ entry. (entry.0.0, entry.1)) l.list.items ++ l.sector-iterator ≡ l.versions.entries

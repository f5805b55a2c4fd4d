use Rattle.std.proofs.Common.{◌≡◌, ◌==◌, not, ◌&&◌}
use Rattle.lock_definitions.specs.Servers.{any_below}
use Rattle.lock_definitions.specs.Locks.{is_wished_in}
use Rattle.lock_table.specs.Asked.{claim_by}
use Rattle.lock_table.proofs.claimed.Claimed.is_wished_beside.Given as goal

abbrev pub invariant-loop-other : goal.invariant-loop-other
invariant-loop-other l = l.wished ≡ any_below (λ other. not (other == l.server.0) && is_wished_in (claim_by other l.self) l.mode) l.other

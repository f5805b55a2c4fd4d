use Rattle.std.proofs.Common.{◌≡◌, ◌==◌, not, ◌&&◌}
use Rattle.lock_definitions.specs.Servers.{bits_below}
use Rattle.lock_definitions.specs.Calls.{clashes}
use Rattle.lock_table.specs.Asked.{claim_by}
use Rattle.lock_table.proofs.claimed.Claimed.holders.Given as goal

abbrev pub invariant-loop-other : goal.invariant-loop-other
invariant-loop-other l = l.holders ≡ bits_below (λ other. not (other == l.server.0) && clashes l.mode (claim_by other l.self).held) l.other

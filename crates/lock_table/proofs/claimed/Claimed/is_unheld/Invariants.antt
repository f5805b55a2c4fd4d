use Rattle.std.proofs.Common.{◌≡◌, is_some}
use Rattle.lock_definitions.specs.Servers.{any_below}
use Rattle.lock_table.specs.Asked.{claim_by}
use Rattle.lock_table.proofs.claimed.Claimed.is_unheld.Given as goal

abbrev pub invariant-loop-server : goal.invariant-loop-server
invariant-loop-server l = l.held ≡ any_below (λ server. is_some (claim_by server l.self).held) l.server

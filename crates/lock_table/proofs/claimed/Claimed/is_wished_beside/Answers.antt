-- All sixteen servers were tried.
use Rattle.std.proofs.Common.{◌≡◌, ◌==◌, not, ◌&&◌, ap, ◌∙◌, arith}
use Rattle.lock_definitions.specs.Servers.{any_below, any_server}
use Rattle.lock_definitions.specs.Locks.{is_wished_in}
use Rattle.lock_table.specs.Asked.{claim_by}
use Rattle.lock_table.proofs.claimed.Claimed.is_wished_beside.Goals as goal

pub returns : goal.returns
unfolding any_server
returns c =
    let all : c.loop-other.other ≡ 16 = omega arith in
    c.loop-other.invariant ∙ ap (any_below (λ other. not (other == c.args.server.0) && is_wished_in (claim_by other c.args.self.now) c.args.mode)) all

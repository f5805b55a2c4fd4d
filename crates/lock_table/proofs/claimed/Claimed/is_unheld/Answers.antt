-- All sixteen servers were tried.
use Rattle.std.proofs.Common.{◌≡◌, not, is_some, ap, ◌∙◌, arith}
use Rattle.lock_definitions.specs.Servers.{any_below, any_server}
use Rattle.lock_table.specs.Asked.{claim_by}
use Rattle.lock_table.proofs.claimed.Claimed.is_unheld.Goals as goal

pub returns : goal.returns
unfolding any_server
returns c =
    let all : c.loop-server.server ≡ 16 = omega arith in
    ap not (c.loop-server.invariant ∙ ap (any_below (λ server. is_some (claim_by server c.args.self.now).held)) all)

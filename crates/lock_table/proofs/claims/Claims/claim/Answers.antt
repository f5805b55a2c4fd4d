-- Nobody has a claim on a lock that has no entry.
use Rattle.std.proofs.Common.{unwrap_or, sym, ap, ◌∙◌}
use Rattle.lock_table.specs.Asked.{unclaimed, claim_by}
use Rattle.lock_table.specs.Kept.{claimed_at}
use Rattle.lock_table.proofs.Claiming.{claim_by-unclaimed}
use Rattle.lock_table.proofs.claims.Claims.claim.Goals as goal

pub returns-in-None-clause-claim : goal.returns-in-None-clause-claim
returns-in-None-clause-claim c =
    c.no_claim.ensures ∙ sym (claim_by-unclaimed c.args.server.0) ∙ ap (λ o. claim_by c.args.server.0 (unwrap_or o unclaimed)) c.in-None.ensures.claims
    ∙ ap (λ kept. claim_by c.args.server.0 (claimed_at kept.entries c.args.lock)) c.self.view_is

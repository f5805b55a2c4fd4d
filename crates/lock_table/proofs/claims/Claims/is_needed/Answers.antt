-- Nobody claims a lock that has no entry.
use Rattle.std.proofs.Common.{◌||◌, not, unwrap_or, sym, ap, ◌∙◌}
use Rattle.lock_table.specs.Asked.{unclaimed, is_unclaimed}
use Rattle.lock_table.specs.Kept.{claimed_at, is_reserved}
use Rattle.lock_table.proofs.Claiming.{is_unclaimed-unclaimed}
use Rattle.lock_table.proofs.claims.Claims.is_needed.Goals as goal

pub returns-in-None : goal.returns-in-None
returns-in-None c =
    c.is_reserved-in-None.ensures ∙ ap (λ b. not b || is_reserved c.args.reserved c.args.lock) (sym is_unclaimed-unclaimed)
    ∙ ap (λ o. not (is_unclaimed (unwrap_or o unclaimed)) || is_reserved c.args.reserved c.args.lock) c.in-None.ensures.claims
    ∙ ap (λ kept. not (is_unclaimed (claimed_at kept.entries c.args.lock)) || is_reserved c.args.reserved c.args.lock) c.self.view_is

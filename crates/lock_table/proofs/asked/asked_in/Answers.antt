-- Nobody is asked for a lock that has no entry.
use Rattle.std.proofs.Common.{unwrap_or, sym, ap, ◌∙◌}
use Rattle.lock_table.specs.Asked.{unclaimed, asked_by}
use Rattle.lock_table.proofs.Keeping.{unasked_empty}
use Rattle.lock_table.proofs.asked.asked_in.Goals as goal

pub returns-in-None : goal.returns-in-None
returns-in-None c = sym (ap (λ o. asked_by c.args.server.0 (unwrap_or o unclaimed)) (sym c.in-None.ensures.claims) ∙ unasked_empty c.args.server.0)

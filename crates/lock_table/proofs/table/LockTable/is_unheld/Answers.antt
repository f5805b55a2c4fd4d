-- Nobody holds a lock where no claim on it has a hold.
use Rattle.std.proofs.Common.{ap, ◌∙◌}
use Rattle.lock_definitions.specs.Holders.{is_unheld}
use Rattle.lock_table.proofs.Viewing.{unheld_is}
use Rattle.lock_table.proofs.table.LockTable.is_unheld.Goals as goal

pub returns : goal.returns
returns c =
    c.is_unheld.ensures ∙ unheld_is c.self.inside.claims.entries c.self.invariant.ordered c.self.inside.logs c.args.lock
    ∙ ap (λ table. is_unheld table.locks c.args.lock) c.self.view_is

-- Nothing is refused where there is an entry.
use Rattle.std.proofs.Common.{sym}
use Rattle.lock_table.proofs.Claiming.{not_some}
use Rattle.lock_table.proofs.lock_map.LockMap.place.Goals as goal

pub returns-in_err-insert-clause-sure : goal.returns-in_err-insert-clause-sure
returns-in_err-insert-clause-sure c = λ some. absurd (not_some _ (sym c.in_default.ensures.claims) some)

-- Nobody is asked for anything where nobody claims anything.
use Rattle.std.proofs.Common.{sym, ◌∙◌, subst}
use Rattle.lock_table.specs.Asked.{Claimed}
use Rattle.lock_table.specs.Kept.{AreKept}
use Rattle.lock_table.proofs.Chosen.{sorted-none}
use Rattle.lock_table.proofs.Keeping.{asked-none}
use Rattle.lock_table.proofs.claims.Claims.new.Goals as goal

pub invariant_of-result : goal.invariant_of-result
invariant_of-result c = subst (λ entries. AreKept entries c.new-2.result.asked) (sym c.new.ensures) (record { ordered = sorted-none Claimed; asked = c.new-2.ensures ∙ asked-none })

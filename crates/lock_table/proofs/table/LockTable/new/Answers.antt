-- The fresh state is the state of a lock table.
use Rattle.std.proofs.Common.{[], None, sym, ap, ◌∙◌, subst}
use Rattle.lock_definitions.specs.Locks.{AreLocks}
use Rattle.lock_definitions.proofs.States.{AreLocks-no_locks}
use Rattle.lock_table.specs.Asked.{Claimed}
use Rattle.lock_table.specs.Table.{locks_of, IsTable}
use Rattle.lock_table.proofs.Chosen.{sorted-none}
use Rattle.lock_table.proofs.Viewing.{none_are}
use Rattle.lock_table.proofs.table.LockTable.new.Goals as goal

pub returns : goal.returns
returns c = (λ i. locks_of (c.new.ensures i) (c.new-2.ensures i)) ∙ none_are

pub invariant_of-result : goal.invariant_of-result
invariant_of-result c =
    subst (λ entries. IsTable entries None c.new-2.result) (sym c.new.ensures)
    (record { ordered = sorted-none Claimed; locks = subst AreLocks (sym (ap (locks_of []) c.new-2.ensures ∙ none_are)) AreLocks-no_locks; place = λ lock some. cc })

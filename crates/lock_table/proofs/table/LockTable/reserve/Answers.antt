-- The same locks are left, and the reserved one has a place.
use Rattle.std.proofs.Common.{◌≡◌, Some, IsSome, refl, sym, ap, ◌∙◌, subst}
use Rattle.std.specs.Map.{lookup}
use Rattle.lock_definitions.specs.Order.{is_lock}
use Rattle.lock_definitions.specs.Locks.{AreLocks}
use Rattle.lock_table.specs.Kept.{Entries}
use Rattle.lock_table.specs.Table.{locks_of}
use Rattle.lock_table.proofs.Viewing.{placed_same, freed_same, freed_keeps}
use Rattle.lock_table.proofs.table.LockTable.reserve.Goals as goal

same : (c : goal.After-self-1) → locks_of c.free.new.self.entries c.self.inside.logs ≡ locks_of c.self.inside.claims.entries c.self.inside.logs
same c =
    ap (λ (entries : Entries). locks_of entries c.self.inside.logs) c.free.ensures.entries
    ∙ freed_same c.place.new.self.entries c.in_ok-place.ensures.ordered c.self.inside.logs c.self.inside.reserved (Some c.args.lock)
    ∙ ap (λ (entries : Entries). locks_of entries c.self.inside.logs) c.in_ok-place.ensures.entries
    ∙ placed_same c.self.inside.claims.entries c.self.invariant.ordered c.self.inside.logs c.args.lock

pub invariant_of-self-2 : goal.invariant_of-self-2
invariant_of-self-2 c = record {
  ordered = c.free.ensures.ordered;
  locks = subst AreLocks (sym (same c)) c.self.invariant.locks;
  place = λ lock some. subst (λ (entries : Entries). IsSome (lookup (is_lock lock) entries)) (sym c.free.ensures.entries)
      (freed_keeps c.place.new.self.entries c.in_ok-place.ensures.ordered c.self.inside.reserved (Some c.args.lock) lock some
      (subst IsSome (sym (ap (λ l. lookup (is_lock l) c.place.new.self.entries) (cc some) ∙ c.in_ok-place.ensures.claimed)) refl));
}

pub returns-clause-locks : goal.returns-clause-locks
returns-clause-locks c = same c ∙ ap (λ table. table.locks) c.self.view_is

-- What is left is the state of a lock table again.
use Rattle.std.proofs.Common.{◌≡◌, IsSome, sym, ap, ◌∙◌, subst}
use Rattle.std.specs.Map.{lookup}
use Rattle.lock_definitions.specs.Order.{is_lock}
use Rattle.lock_definitions.specs.Locks.{AreLocks}
use Rattle.lock_definitions.specs.Calls.{cleared}
use Rattle.lock_definitions.proofs.States.{AreLocks-cleared}
use Rattle.lock_table.specs.Kept.{Entries}
use Rattle.lock_table.specs.Table.{locks_of}
use Rattle.lock_table.proofs.Viewing.{cleared_is, ended_keeps}
use Rattle.lock_table.proofs.table.LockTable.clear.Goals as goal

left : (c : goal.After-clear) → locks_of c.end_all.new.self.entries c.clear.new.self ≡ cleared (locks_of c.self.inside.claims.entries c.self.inside.logs) c.args.dead.0
left c =
    ap (λ (entries : Entries). locks_of entries c.clear.new.self) c.end_all.ensures.entries
    ∙ cleared_is c.self.inside.claims.entries c.self.invariant.ordered c.self.inside.logs c.args.dead.0 c.self.inside.reserved c.clear.new.self c.clear.ensures

pub invariant_of-self : goal.invariant_of-self
invariant_of-self c = record {
  ordered = c.end_all.ensures.ordered;
  locks = subst AreLocks (sym (left c)) (AreLocks-cleared (locks_of c.self.inside.claims.entries c.self.inside.logs) c.self.invariant.locks c.args.dead.0);
  place = λ lock some. subst (λ (entries : Entries). IsSome (lookup (is_lock lock) entries)) (sym c.end_all.ensures.entries)
      (ended_keeps c.args.dead.0 c.self.inside.reserved lock some c.self.inside.claims.entries (c.self.invariant.place lock some));
}

pub returns-clause-locks : goal.returns-clause-locks
returns-clause-locks c = left c ∙ ap (λ table. cleared table.locks c.args.dead.0) c.self.view_is

-- The lists are settled for the lock.
use Rattle.std.proofs.Common.{unwrap_or, sym, ap, ◌∙◌}
use Rattle.std.specs.Map.{lookup}
use Rattle.lock_definitions.specs.Order.{is_lock}
use Rattle.lock_table.specs.Asked.{unclaimed}
use Rattle.lock_table.specs.Kept.{asked_lists, settled}
use Rattle.lock_table.proofs.Keeping.{asked-replaced, are_listed, length-asked}
use Rattle.lock_table.proofs.claims.Claims.change.Goals as goal

pub settle-requires-clause-long : goal.settle-requires-clause-long
settle-requires-clause-long c = length-asked c.self.inside.map c.self.inside.asked.asked c.self.invariant.asked

pub settle-requires-clause-listed : goal.settle-requires-clause-listed
settle-requires-clause-listed c = are_listed c.self.inside.map c.self.invariant.ordered c.self.inside.asked.asked c.self.invariant.asked c.args.lock c.args.before
    (ap (λ o. unwrap_or o unclaimed) (ap (λ kept. lookup (is_lock c.args.lock) kept.entries) c.self.view_is ∙ c.requires.place))

pub invariant_of-self : goal.invariant_of-self
invariant_of-self c = record {
  ordered = c.replace.ensures.ordered;
  asked = c.settle.ensures.asked ∙ ap (λ lists. settled lists c.args.lock c.set.new.self) c.self.invariant.asked ∙ asked-replaced c.args.lock c.set.new.self c.args.reserved c.self.inside.map c.self.invariant.ordered ∙ ap asked_lists (sym c.replace.ensures.locks);
}

-- An entry that isn't needed asks nobody.
use Rattle.std.proofs.Common.{◌≡◌, false, if◌then◌else◌, sym, ap, ◌∙◌}
use Rattle.std.specs.Map.{remove_entry}
use Rattle.lock_definitions.specs.Order.{is_lock}
use Rattle.lock_table.specs.Kept.{claimed_at, asked_lists, is_needed}
use Rattle.lock_table.proofs.Keeping.{asked-tidied}
use Rattle.lock_table.proofs.claims.Claims.tidy.Goals as goal

pub invariant_of-self : goal.invariant_of-self
invariant_of-self c =
    let entries = c.self.inside.map in
    let unneeded : is_needed c.args.reserved (c.args.lock, claimed_at entries c.args.lock) ≡ false = ap (λ kept. is_needed c.args.reserved (c.args.lock, claimed_at kept.entries c.args.lock)) c.self.view_is ∙ sym c.is_needed.ensures ∙ c.if-not-is_needed.true in
    record {
      ordered = c.remove.ensures.ordered;
      asked = c.self.invariant.asked ∙ sym (asked-tidied c.args.lock c.args.reserved entries c.self.invariant.ordered) ∙ ap (λ b. asked_lists (if b then entries else remove_entry (is_lock c.args.lock) entries)) unneeded ∙ ap asked_lists (sym c.remove.ensures.locks);
    }

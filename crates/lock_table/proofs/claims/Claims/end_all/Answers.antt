-- The lists are made anew for what is left.
use Rattle.std.proofs.Common.{sym, ap, ◌∙◌, subst}
use Rattle.std.specs.List.Sorted.{IsStrictlySortedBy}
use Rattle.std.specs.Map.{keys_of}
use Rattle.lock_definitions.specs.Order.{lock_cmp}
use Rattle.lock_table.specs.Kept.{Entries, asked_lists, renewed_all, ended_all}
use Rattle.lock_table.proofs.Keeping.{asked-ended, length-asked}
use Rattle.lock_table.proofs.claims.Claims.end_all.Goals as goal

pub renew_all-requires : goal.renew_all-requires
renew_all-requires c = length-asked c.self.inside.map c.self.inside.asked.asked c.self.invariant.asked

pub invariant_of-self : goal.invariant_of-self
invariant_of-self c =
    let entries = c.self.inside.map in
    let left = ended_all entries c.args.dead.0 c.args.reserved in
    let after = subst (λ (es : Entries). IsStrictlySortedBy lock_cmp (keys_of es)) c.end_all.ensures.locks c.end_all.ensures.ordered in
    record {
      ordered = c.end_all.ensures.ordered;
      asked = c.renew_all.ensures.asked ∙ (λ i. renewed_all (c.self.invariant.asked i) (c.end_all.ensures.locks i)) ∙ asked-ended c.args.dead.0 c.args.reserved entries c.self.invariant.ordered after ∙ ap asked_lists (sym c.end_all.ensures.locks);
    }

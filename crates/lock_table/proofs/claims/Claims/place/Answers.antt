-- An entry without claims asks nobody.
use Rattle.std.proofs.Common.{sym, ap, ◌∙◌}
use Rattle.lock_table.specs.Kept.{asked_lists}
use Rattle.lock_table.proofs.Lists.{either_way}
use Rattle.lock_table.proofs.Keeping.{asked-placed}
use Rattle.lock_table.proofs.claims.Claims.place.Goals as goal

pub invariant_of-self-2 : goal.invariant_of-self-2
invariant_of-self-2 c =
    let entries = c.self.inside.map in
    let lists = c.in_ok-reserve.ensures.asked ∙ c.self.invariant.asked in
    record {
      ordered = c.place.ensures.ordered;
      asked = lists ∙ either_way c.place.result
          (λ ok. sym (asked-placed c.args.lock entries c.self.invariant.ordered) ∙ ap asked_lists (sym ok))
          (λ err. ap asked_lists (sym err)) c.place.ensures.ok c.place.ensures.err;
    }

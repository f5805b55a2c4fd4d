-- What was examined is seen, and the end is kept.
use Rattle.std.proofs.Common.{List, refl, ap, ◌∙◌}
use Rattle.frang_base.specs.declared.sector.Sector.{Sector}
use Rattle.set_definitions.specs.Seen.{SeenSectors, seen_more}
use Rattle.lock_sets.specs.Seen.{numbers}
use Rattle.plan_keeping.specs.Making.{basis_over}
use Rattle.plan_keeping.proofs.making.planned_line.Goals as goal

pub returns : goal.returns
returns c =
    let cached = c.args.usable.now.entries in
    let before = c.args.under.now.under.seen in
    let basis = basis_over c.args.line.now c.args.under.now.under cached in
    record {
      compares = c.requires.compared;
      sees =
          c.in_ok-seen.ensures
          ∙ ap (λ (seen : SeenSectors). seen_more cached seen (numbers c.deref.result.now)) c.seen.ensures
          ∙ ap (λ (sectors : List Sector). seen_more cached before (numbers sectors)) c.deref.ensures.value
          ∙ ap (seen_more cached before) c.in_ok-examined.ensures.examined;
      ends = c.in_ok-end.ensures basis refl c.in_ok-examined.ensures.ends;
    }

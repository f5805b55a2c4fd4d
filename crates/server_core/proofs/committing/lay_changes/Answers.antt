-- Each change is laid in turn.
use Rattle.std.proofs.Common.{◌≡◌, ◌+◌, ◌∷◌, drop, sym, ap, ◌∙◌, subst}
use Rattle.std.proofs.lemmas.List.{at_drop_more}
use Rattle.cache_laws.specs.Steps.{with_changes}
use Rattle.server_core.specs.Outcomes.{MayLay}
use Rattle.server_core.proofs.Laying.{others_may}
use Rattle.server_core.proofs.committing.lay_changes.Goals as goal

pub loop-change-preserved : goal.loop-change-preserved
loop-change-preserved c =
    let i = c.loop-change.change-index in
    let changes = c.args.changes.now in
    let first = c.change-item.result in
    let rest = drop (i + 1) changes in
    let split : drop i changes ≡ first ∷ rest = at_drop_more (λ cs. cs) changes i first c.loop-change-test.true ∙ ap (λ x. x ∷ rest) (sym c.change-item.is) in
    record {
      left = ap (λ cache. with_changes c.args.mark cache rest) c.lay_change.ensures.entries ∙ sym (ap (with_changes c.args.mark c.loop-change.cache.entries) split) ∙ c.loop-change.invariant.left;
      may = subst (λ cache. MayLay cache rest) (sym c.lay_change.ensures.entries)
          (others_may c.args.mark first rest c.loop-change.cache.entries (subst (MayLay c.loop-change.cache.entries) split c.loop-change.invariant.may));
      staying = c.lay_change.ensures.staying ∙ c.loop-change.invariant.staying;
      flying = c.lay_change.ensures.flying ∙ c.loop-change.invariant.flying;
      spare = c.lay_change.ensures.spare ∙ c.loop-change.invariant.spare;
    }

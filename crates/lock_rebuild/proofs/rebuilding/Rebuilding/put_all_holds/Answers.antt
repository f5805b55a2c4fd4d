-- One list more is put in, of a server whose number is that of a byte.
use Rattle.std.proofs.Common.{◌≡◌, ◌<◌, ◌+◌, ◌∷◌, drop, rules, sym, ap, ◌∙◌, subst}
use Rattle.std.proofs.lemmas.List.{drop_more}
use Rattle.lock_rebuild.specs.Steps.{AreNumbered}
use Rattle.lock_rebuild.proofs.rebuilding.Rebuilding.put_all_holds.Goals as goal

pub loop-clerk-preserved : goal.loop-clerk-preserved
loop-clerk-preserved c =
    let clerks = c.args.clerks.now in
    let i = c.loop-clerk.clerk-index in
    let clerk = c.clerk-item.result in
    let next : drop i clerks ≡ clerk ∷ drop (i + 1) clerks = drop_more clerks i clerk c.loop-clerk-test.true ∙ ap (λ x. x ∷ drop (i + 1) clerks) (sym c.clerk-item.is) in
    let small : clerk.server.0 < 256 = c.put_holds.ensures.number in
    record {
      holds = search rules;
      servers = search rules;
      numbered = λ rest. c.loop-clerk.invariant.numbered (subst AreNumbered (sym next) (small, rest));
    }

-- By whether there is a large block.
use Rattle.std.proofs.Common.{◌-◌, ◌∷◌, [], cond, eq-eqb, ne_eqb, sym, ap}
use Rattle.dir_lookup.proofs.Looking.{adds_as, adds_none}
use Rattle.plan_steps.specs.Looking.{looked_over}
use Rattle.plan_steps.proofs.segments.segment_of_large.Goals as goal

pub returns-then-large-eq0-clause-looks : goal.returns-then-large-eq0-clause-looks
returns-then-large-eq0-clause-looks c =
    let large = c.args.inode.now.large in
    adds_as _ _ [] _ (ap (λ b. looked_over c.args.held.now (cond b [] ((large - 1) ∷ []))) (sym (eq-eqb large 0 c.if-large-eq0.true))) (adds_none _)

pub returns-clause-looks : goal.returns-clause-looks
returns-clause-looks c =
    let large = c.args.inode.now.large in
    adds_as _ _ _ _ (ap (λ b. looked_over c.args.held.now (cond b [] ((large - 1) ∷ []))) (sym (ne_eqb large 0 c.if-large-eq0.false))) c.segment_held.ensures.looks

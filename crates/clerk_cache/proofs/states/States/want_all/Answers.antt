-- The first that doesn't stay yet does, until there is none.
use Rattle.std.proofs.Common.{length, sym, ap, ◌∙◌, arith}
use Rattle.clerk_cache.specs.Kept.{all_wanted, is_state_fresh, passing_marks}
use Rattle.clerk_cache.proofs.WantedAll.{fewer_fresh, least_is_fresh, none_fresh, wanted_same}
use Rattle.clerk_cache.proofs.states.States.want_all.Goals as goal

pub loop-mark-preserved : goal.loop-mark-preserved
loop-mark-preserved c =
    let states = c.loop-mark.self.entries in
    let one = least_is_fresh states c.in-Some.mark c.in-Some.ensures.ordered (sym c.in-Some.ensures.mark) in
    record {
      left = ap all_wanted c.edit.ensures.entries ∙ wanted_same states c.in-Some.mark.sector.0 one.state one.there one.dirty ∙ c.loop-mark.invariant.left;
      spare = c.edit.ensures.spare ∙ c.loop-mark.invariant.spare;
    }

pub loop-mark-smaller : goal.loop-mark-smaller
loop-mark-smaller c =
    let states = c.loop-mark.self.entries in
    let one = least_is_fresh states c.in-Some.mark c.in-Some.ensures.ordered (sym c.in-Some.ensures.mark) in
    omega (arith, ap (λ left. length (passing_marks is_state_fresh left)) c.edit.ensures.entries, fewer_fresh states c.in-Some.mark.sector.0 one.state one.there one.dirty one.fresh)

pub returns-clause-entries : goal.returns-clause-entries
returns-clause-entries c = none_fresh c.loop-mark.self.entries (sym c.in_default.ensures.mark) ∙ c.loop-mark.invariant.left

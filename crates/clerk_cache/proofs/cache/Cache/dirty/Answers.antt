-- The marks of the states are those of the sectors, in their order.
use Rattle.std.proofs.Common.{sym, ap, ◌∙◌, subst}
use Rattle.std.specs.List.Sorted.{IsStrictlySortedBy}
use Rattle.std.specs.Ordering.{nat_cmp, on}
use Rattle.sector_bytes.specs.SectorMaps.{Ascend}
use Rattle.clerk_cache.specs.Marks.{marks_of}
use Rattle.clerk_cache.specs.Kept.{state_marks}
use Rattle.clerk_cache.proofs.Joining.{ascend_joined}
use Rattle.clerk_cache.proofs.Dropped.{marks-joined, marks_ascend, if_ok}
use Rattle.clerk_cache.proofs.cache.Cache.dirty.Goals as goal

pub returns-clause-marks : goal.returns-clause-marks
returns-clause-marks c =
    let view = ap state_marks c.pieces.ensures ∙ marks-joined _ _ c.self.invariant.alike ∙ ap (λ cache. marks_of cache.entries) c.self.view_is in
    if_ok c.marks_of.result (λ marks is. is ∙ view) c.marks_of.ensures

pub returns-clause-ordered : goal.returns-clause-ordered
returns-clause-ordered c =
    let sorted = subst (λ cache. Ascend cache.entries) c.self.view_is (ascend_joined _ _ c.self.invariant) in
    if_ok c.marks_of.result (λ marks is. subst (IsStrictlySortedBy (on (λ mark. mark.sector.0) nat_cmp)) (sym is) (marks_ascend c.args.self.now.entries sorted)) (returns-clause-marks c)

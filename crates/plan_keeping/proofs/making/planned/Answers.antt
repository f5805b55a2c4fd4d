-- The bitmaps that are held are of segments that a disk may have.
use Rattle.std.proofs.Common.{◌≡◌, true, sym, ap, ◌∙◌, subst}
use Rattle.std.specs.List.{list_all}
use Rattle.disk_definitions.specs.Held.{AreSegments}
use Rattle.set_definitions.specs.Sets.{LockSet}
use Rattle.core_definitions.specs.Plans.{Sight}
use Rattle.plan_keeping.specs.Segments.{is_of_disk}
use Rattle.plan_keeping.proofs.Segments.{segments_fit}
use Rattle.plan_keeping.proofs.making.planned.Goals as goal

pub plan_for_core-requires-clause-held : goal.plan_for_core-requires-clause-held
plan_for_core-requires-clause-held c =
    let passes : list_all (λ need. is_of_disk need.0) c.as_slice.result.now ≡ true = sym c.are_of_disk.ensures ∙ c.if-not-are_of_disk.false in
    subst AreSegments (ap (λ (sight : Sight). sight.held) c.in_ok-sight.ensures)
    (segments_fit c.args.usable.now.entries c.set-set.result.now (ap (λ (set : LockSet). list_all (λ need. is_of_disk need.0) set) (sym c.as_slice.ensures.locks) ∙ passes))

-- A sector more is copied.
use Rattle.std.proofs.Common.{◌≡◌, ◌+◌, ◌∙◌, ◌∷◌, ap, sym, drop, drop-cons, slice_index_or, subst, add-one}
use Rattle.frang_base.specs.declared.sector.Sector.{Sector}
use Rattle.petal_pair.specs.Refilling.{CopiesSector, HasCopied}
use Rattle.petal_pair.proofs.CopyingOn.{copied_step}
use Rattle.petal_pair.proofs.refilling.copy_missed.Goals as goal

pub loop-sector-preserved : goal.loop-sector-preserved
loop-sector-preserved g c =
    let from = g.F.Outside.state c.args.from.now in
    let mid = g.F.Outside.state c.loop-sector.from in
    let from_after = g.F.Outside.state c.copy_sector.new.from in
    let to = g.T.Outside.state c.args.to.now in
    let now = g.T.Outside.state c.loop-sector.to in
    let to_after = g.T.Outside.state c.copy_sector.new.to in
    let missed = c.args.missed.now in
    let at = c.loop-sector.sector-index in
    let none : Sector = record { 0 = 0 } in
    let sector = slice_index_or missed at none in
    let next : drop at missed ≡ sector ∷ drop (at + 1) missed =
    drop-cons missed at none c.loop-sector-test.true ∙ ap (λ n. sector ∷ drop n missed) (sym (add-one at)) in
    copied_step from mid from_after to now to_after missed sector (drop (at + 1) missed) c.in-Ok.field-0
    (subst (λ left. HasCopied from mid to now missed left) next c.loop-sector.invariant)
    (subst (λ r. CopiesSector mid from_after now to_after sector r) c.in-Ok.is c.copy_sector.ensures)

-- One part more in each turn.
use Rattle.std.proofs.Common.{◌≡◌, ◌∙◌, ◌++◌, ap, arith, length}
use Rattle.report_definitions.specs.Sums.{gathered}
use Rattle.disk_check.specs.Told.{faults_told}
use Rattle.disk_check.proofs.Gathered.{part_more}
use Rattle.disk_check.proofs.checking.append_all.Goals as goal

pub loop-part-preserved : goal.loop-part-preserved
loop-part-preserved c = λ f each.
    part_more c.args.parts.now f c.loop-part.part-index (faults_told c.args.faults.now.items) c.loop-part.faults.items c.extend_from_slice.new.self.items c.part-item.result c.in-Ok.part
    each c.part-item.is c.in-Ok.is (c.in_ok-extend_from_slice-in-Ok.ensures.items ∙ ap (λ part. c.loop-part.faults.items ++ part) c.deref.ensures.value)
    (c.loop-part.invariant f (λ k d l. each k d (omega arith)))

pub returns : goal.returns
returns c = λ f each.
    let e : c.loop-part.part-index ≡ length c.args.parts.now = omega arith in
    c.loop-part.invariant f (λ k d l. each k d (omega arith)) ∙ ap (λ n. faults_told c.args.faults.now.items ++ gathered n f) e

-- Of the replayed disk, which has the same parameters.
use Rattle.std.proofs.Common.{◌≡◌, ◌↔◌, true, is_some, IfOk, ◌∙◌, ap, subst, arith, rules}
use Rattle.sector_bytes.specs.Sectors.{sectors_of}
use Rattle.disk_definitions.specs.Params.{param_in}
use Rattle.disk_definitions.specs.Replay.{replayed}
use Rattle.report_definitions.specs.Laws.{StandsForSome}
use Rattle.report_definitions.specs.Report.{IsReport}
use Rattle.disk_check.specs.Told.{told}
use Rattle.disk_check.proofs.Reported.{all_same, param_kept}
use Rattle.disk_check.proofs.checking.check.Goals as goal

pub check_sectors-requires : goal.check_sectors-requires
check_sectors-requires g c =
    let s = sectors_of c.args.disk.now in
    let same : sectors_of c.in_ok-new.new ≡ replayed s = all_same (sectors_of c.in_ok-new.new) (replayed s) c.in_ok-new.ensures in
    let h : is_some (param_in (sectors_of c.in_ok-new.new 0)) ≡ true = ap (λ t. is_some (param_in (t 0))) same ∙ ap is_some (param_kept s) ∙ c.requires in
    first_of (search (rules, h), assumption h, grind (arith, h))

pub returns-clause-report : goal.returns-clause-report
returns-clause-report g c =
    let s = replayed (sectors_of c.args.disk.now) in
    let same : sectors_of c.in_ok-new.new ≡ s = all_same (sectors_of c.in_ok-new.new) s c.in_ok-new.ensures in
    subst (λ t. IfOk c.check_sectors.result (λ r. IsReport t (told r))) same c.check_sectors.ensures.report

pub returns-clause-stands : goal.returns-clause-stands
returns-clause-stands g c =
    let s = replayed (sectors_of c.args.disk.now) in
    let same : sectors_of c.in_ok-new.new ≡ s = all_same (sectors_of c.in_ok-new.new) s c.in_ok-new.ensures in
    subst (λ t. IfOk c.check_sectors.result (λ r. (r.stands ≡ true) ↔ StandsForSome t)) same c.check_sectors.ensures.stands

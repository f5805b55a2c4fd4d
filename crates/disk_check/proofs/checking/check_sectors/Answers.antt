-- What is decoded once is the disk.
use Rattle.std.proofs.Common.{◌≡◌, Some, IfOk, refl, sym, ◌∙◌, ap, subst, arith, rules}
use Rattle.std.proofs.lemmas.Result.{IfOk-weaker}
use Rattle.sector_bytes.specs.Sectors.{sectors_of}
use Rattle.disk_definitions.specs.Params.{param_in}
use Rattle.report_definitions.specs.Report.{IsReport}
use Rattle.disk_check.specs.Told.{told}
use Rattle.disk_check.proofs.Stands.{stands_told}
use Rattle.disk_check.proofs.checking.check_sectors.Goals as goal

pub check_decoded-requires : goal.check_decoded-requires
check_decoded-requires g c =
    let e : param_in (sectors_of c.args.disk.now 0) ≡ Some c.in-Some.param = ap param_in (sym c.get.ensures) ∙ sym c.decode.ensures ∙ c.in-Some.is in
    let h : param_in (sectors_of c.in_ok-decoded.decoded 0) ≡ Some c.in-Some.param = ap (λ es. param_in (sectors_of es 0)) c.in_ok-decoded.ensures ∙ e in
    first_of (search (rules, h), assumption h, grind (arith, h))

pub returns-clause-report : goal.returns-clause-report
returns-clause-report g c = subst (λ es. IfOk c.check_decoded.result (λ r. IsReport (sectors_of es) (told r))) c.in_ok-decoded.ensures c.check_decoded.ensures

pub returns-clause-stands : goal.returns-clause-stands
returns-clause-stands g c =
    let is = subst (λ es. IfOk c.check_decoded.result (λ r. IsReport (sectors_of es) (told r))) c.in_ok-decoded.ensures c.check_decoded.ensures in
    IfOk-weaker c.check_decoded.result _ _ (λ r is. stands_told (sectors_of c.args.disk.now) c.args.disk.now (told r) c.len-sectors.ensures.blocks (λ sector. refl) is) is

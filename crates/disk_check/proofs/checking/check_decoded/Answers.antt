-- By what is seen of the disk.
use Rattle.std.proofs.Common.{◌*◌, subst}
use Rattle.std.proofs.lemmas.Result.{IfOk-weaker}
use Rattle.sector_bytes.specs.Sectors.{sectors_of}
use Rattle.disk_definitions.proofs.ParamLaws.{few_segments}
use Rattle.disk_reading.proofs.Treed.{some_segments}
use Rattle.report_rules.specs.Seen.{view_in}
use Rattle.disk_check.specs.PartsTold.{IsReportOf}
use Rattle.disk_check.proofs.Reported.{reported}
use Rattle.disk_check.proofs.checking.check_decoded.Goals as goal

pub report_of-requires-clause-few : goal.report_of-requires-clause-few
report_of-requires-clause-few g c = λ κs within. few_segments (sectors_of c.args.disk.now 0) c.args.param.now c.requires

pub report_of-requires-clause-some : goal.report_of-requires-clause-some
report_of-requires-clause-some g c = λ κs within. some_segments (sectors_of c.args.disk.now 0) c.args.param.now c.requires

pub returns : goal.returns
returns g c =
    IfOk-weaker c.report_of.result _ _
    (λ r is. reported c.args.disk.now c.args.param.now r c.requires (subst (λ n. IsReportOf (view_in (131072 * n) c.args.param.now.segments c.args.disk.now) r) c.from-most.ensures is))
    c.report_of.ensures

-- By the report of the replayed disk, which has the same parameters.
use Rattle.std.proofs.Common.{◌≡◌, ◌∙◌, [], ◌∷◌, ◌++◌, ap, subst, true, is_some, arith, rules}
use Rattle.frang_base.specs.declared.said.Said.TheVariants as said
use Rattle.disk_definitions.specs.Params.{param_in}
use Rattle.sector_bytes.specs.Sectors.{sectors_of}
use Rattle.disk_definitions.specs.Replay.{replayed}
use Rattle.report_definitions.specs.Report.{IsReport}
use Rattle.disk_check.specs.Told.{told}
use Rattle.disk_check.proofs.Reported.{all_same}
use Rattle.image_commands.proofs.LineLaws.{has_param}
use Rattle.image_commands.proofs.lines.check_said.Goals as goal

pub check_sectors-requires : goal.check_sectors-requires
check_sectors-requires g c =
    let h : is_some (param_in (sectors_of c.in_ok-new.new 0)) ≡ true = has_param c.args.disk c.in_ok-new.new [] c.in_ok-new.ensures c.requires in
    first_of (search (rules, h), assumption h, grind (arith, h))

pub returns : goal.returns
returns g c =
    let s = replayed (sectors_of c.args.disk) in
    let same : sectors_of c.in_ok-new.new ≡ s = all_same (sectors_of c.in_ok-new.new) s c.in_ok-new.ensures in
    record {
      report = told c.in_ok-report.report;
      told = subst (λ t. IsReport t (told c.in_ok-report.report)) same c.in_ok-report.ensures.report;
      is = c.in_ok-push.ensures.items ∙ ap (λ ls. ls ++ said.Shown c.in_ok-line.line ∷ []) c.new-lines.ensures.items ∙ ap (λ t. said.Shown t ∷ []) c.in_ok-line.ensures;
    }

-- Each block adds its faults to those of the blocks before it.
use Rattle.std.proofs.Common.{◌≡◌, ◌+◌, ◌*◌, [], ◌∙◌, ap, rules}
use Rattle.disk_reading.specs.Marks.{flag_at}
use Rattle.report_definitions.specs.Sums.{gathered}
use Rattle.report_definitions.specs.Report as report
use Rattle.report_rules.specs.Seen.{view_in}
use Rattle.disk_check.specs.Told.{faults_told}
use Rattle.disk_check.proofs.Gathered.{gathered_more}
use Rattle.disk_check.proofs.faults.part_faults.Goals as goal

pub loop-j-preserved : goal.loop-j-preserved
loop-j-preserved c =
    gathered_more [] (λ j. gathered 8 (report.part_faults (view_in c.args.most c.args.segments c.args.disk.now) (flag_at c.args.tables.now.reached) (1024 * c.args.k + j))) c.loop-j.j
    (faults_told c.loop-j.faults.items) (faults_told c.push_parts.new.faults.items) c.loop-j.invariant c.in_ok-push_parts.ensures

pub returns : goal.returns
returns c =
    let e : c.loop-j.j ≡ 1024 = search rules in
    c.loop-j.invariant ∙ ap (λ n. gathered n (λ j. gathered 8 (report.part_faults (view_in c.args.most c.args.segments c.args.disk.now) (flag_at c.args.tables.now.reached) (1024 * c.args.k + j)))) e

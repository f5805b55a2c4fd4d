-- Row by row.
use Rattle.std.proofs.Common.{◌≡◌, ℕ, ◌+◌, ◌++◌, ◌∙◌, List, Result, length, ap, subst, sym}
use Rattle.std.specs.Prelude.{Vec}
use Rattle.std.specs.Global.{Global}
use Rattle.frang_base.specs.declared.fault.NoMemory.{NoMemory}
use Rattle.disk_reading.specs.Marks.{flag_at}
use Rattle.report_definitions.specs.Sums.{Fault as Pair, gathered}
use Rattle.report_definitions.specs.Report as report
use Rattle.disk_check.specs.declared.report.Fault.{Fault}
use Rattle.report_rules.specs.Seen.{view_in}
use Rattle.disk_check.specs.Parts.{block_part}
use Rattle.disk_check.specs.Told.{faults_told}
use Rattle.disk_check.specs.PartsTold.{AreParts}
use Rattle.disk_check.proofs.Gathered.{gathered_rows}
use Rattle.disk_check.proofs.checking.append_blocks.Goals as goal

pub returns : goal.returns
unfolding block_part
returns g c =
    let f : ℕ → List Pair = block_part c.args.most c.args.segments c.args.disk.now c.args.tables.now.reached in
    let len : length c.deref.result.now ≡ c.args.segments = c.deref.ensures.len ∙ c.in_ok-parts.ensures.len in
    let all : AreParts c.args.segments c.deref.result.now f = subst (λ (ps : List (Result (Vec Fault Global) NoMemory)). AreParts c.args.segments ps f) (sym c.deref.ensures.value) c.in_ok-parts.ensures.parts in
    let these : AreParts (length c.deref.result.now) c.deref.result.now f = subst (λ (n : ℕ). AreParts n c.deref.result.now f) (sym len) all in
    c.in_ok-append_all.ensures f these ∙ ap (λ (n : ℕ). faults_told c.args.faults.now.items ++ gathered n f) len ∙ ap (λ (l : List Pair). faults_told c.args.faults.now.items ++ l) (gathered_rows 1024 c.args.segments (λ b. gathered 8 (report.part_faults (view_in c.args.most c.args.segments c.args.disk.now) (flag_at c.args.tables.now.reached) b)))

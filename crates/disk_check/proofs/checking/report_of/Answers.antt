-- By what is reached.
use Rattle.std.proofs.Common.{◌≡◌, ◌∙◌, ◌*◌, ap}
use Rattle.disk_reading.specs.Marks.{flag_at}
use Rattle.disk_reading.specs.Seen.{store_in}
use Rattle.report_definitions.specs.Report.{faults_of, is_nothing}
use Rattle.report_rules.specs.Seen.{view_in}
use Rattle.report_rules.proofs.UsedBlocks.{small_counted, large_counted}
use Rattle.disk_check.specs.Told.{faults_told}
use Rattle.disk_check.proofs.checking.report_of.Goals as goal

pub returns : goal.returns
returns g c =
    let n = c.args.segments in
    let t = c.in_ok-tables.tables in
    let are = c.in_ok-tables.ensures in
    let reached = flag_at t.reached in
    let s = store_in n c.args.disk.now in
    let v = view_in c.args.most n c.args.disk.now in
    let small = c.count.ensures ∙ small_counted n s t are in
    let large = c.count-2.ensures ∙ large_counted n s t are in
    let faults : faults_told c.in_ok-faults.faults.items ≡ faults_of v reached = c.in_ok-faults.ensures in
    let nothing : c.is_nothing-stands.result ≡ is_nothing (faults_of v reached) = c.is_nothing-stands.ensures ∙ ap (λ l. is_nothing (faults_told l)) c.deref.ensures.value ∙ ap is_nothing faults in
    record {
      reached = reached;
      reach = are.reach;
      is = λ i. record {
        segments = n;
        dirs = c.count_of_kind.ensures i;
        files = c.count_of_kind-2.ensures i;
        links = c.count_of_kind-3.ensures i;
        blocks = small i;
        larges = large i;
        faults = faults i;
        stands = nothing i;
      };
    }

use Rattle.std.proofs.Common.{◌≡◌, ℕ, ◌<◌, ◌++◌, List, Result, slice_index_or}
use Rattle.std.specs.Prelude.{Vec}
use Rattle.std.specs.Global.{Global}
use Rattle.frang_base.specs.declared.fault.NoMemory.{NoMemory}
use Rattle.report_definitions.specs.Sums as sums
use Rattle.disk_check.specs.declared.report.Fault.{Fault}
use Rattle.disk_check.specs.Told.{faults_told}
use Rattle.disk_check.specs.PartsTold.{IsPart}
use Rattle.disk_check.proofs.checking.append_all.Given as goal

abbrev pub invariant-loop-part : goal.invariant-loop-part
invariant-loop-part l =
    (f : ℕ → List sums.Fault) → ((k : ℕ) (d : Result (Vec Fault Global) NoMemory) → k < l.part-index → IsPart (slice_index_or l.parts k d) (f k))
    → faults_told l.faults.items ≡ faults_told l.initial.faults.items ++ sums.gathered l.part-index f

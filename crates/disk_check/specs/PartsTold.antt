-- The parts of a report in code, and the report, as the definition's.
use Rattle.std.specs.Prelude.{◌≡◌, ◌<◌, ◌+◌, ◌*◌, ℕ, Bool, List, slice_index_or, Result, Vec, IfOk}
use Rattle.std.specs.Global.{Global}
use Rattle.frang_base.specs.declared.fault.NoMemory.{NoMemory}
use Rattle.frang_base.specs.declared.limits.TheConstants.{SEGMENT_BLOCKS, SEGMENT_INODES, SMALL_BLOCK_SECTORS}
use Rattle.disk_definitions.specs.Store.{Store}
use Rattle.report_definitions.specs.Sums.{Fault as Pair, gathered}
use Rattle.report_definitions.specs.View.{View, IsReach}
use Rattle.report_definitions.specs.Report.{inode_faults, part_faults, report_by}
use Rattle.report_rules.specs.Seen.{stored}
use Rattle.disk_check.specs.declared.report.Fault.{Fault}
use Rattle.disk_check.specs.declared.report.Report.{Report}
use Rattle.disk_check.specs.Told.{faults_told, told}

-- the faults of a part, where there was memory for them
abbrev pub IsPart : Result (Vec Fault Global) NoMemory → List Pair → Type 0
IsPart part faults = IfOk part (λ v. faults_told v.items ≡ faults)

-- each of the first n of these parts has the faults that f has at its place, where there was memory for them
abbrev pub AreParts : ℕ → List (Result (Vec Fault Global) NoMemory) → (ℕ → List Pair) → Type 0
AreParts n parts f = (k : ℕ) (d : Result (Vec Fault Global) NoMemory) → k < n → IsPart (slice_index_or parts k d) (f k)

-- the faults of the inodes of a segment, and those of the parts of its small blocks
abbrev pub inodes_of : ℕ → Store → (ℕ → Bool) → ℕ → List Pair
inodes_of segments s reached k = gathered SEGMENT_INODES (λ j. inode_faults (stored segments s) reached (SEGMENT_INODES * k + j))

abbrev pub blocks_of : View → (ℕ → Bool) → ℕ → List Pair
blocks_of v reached k = gathered SEGMENT_BLOCKS (λ j. gathered SMALL_BLOCK_SECTORS (part_faults v reached (SEGMENT_BLOCKS * k + j)))

-- the report of what is seen, by what is reached there
pub record IsReportOf (v : View) (report : Report) : Type 0 where
  pub reached : ℕ → Bool
  pub reach : IsReach v.store reached
  pub is : told report ≡ report_by v reached

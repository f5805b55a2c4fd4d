-- The lines that each command says of a disk.
use Rattle.std.specs.Prelude.{◌≡◌, ℕ, Option, Some, None, List, [], ◌∷◌, ◌++◌, map}
use Rattle.std.specs.List.{flat_map}
use Rattle.frang_base.specs.declared.limits.TheConstants.{LOGS}
use Rattle.frang_base.specs.declared.change.Redo.{Redo}
use Rattle.frang_base.specs.declared.sector.OpNo.{OpNo}
use Rattle.frang_base.specs.declared.said.Said.{Said}
use Rattle.frang_base.specs.declared.said.Said.TheVariants as said
use Rattle.tree_definitions.specs.Numbers.{below}
use Rattle.tree_definitions.specs.Tree.{FileTree}
use Rattle.tree_definitions.specs.TreeLines.{tree_lines}
use Rattle.sector_bytes.specs.Sectors.{Sectors, sectors_of}
use Rattle.image_file.specs.Images.{Blocks}
use Rattle.disk_definitions.specs.Standing.{StandsFor}
use Rattle.disk_definitions.specs.Logs.{log_records, greatest_operation}
use Rattle.disk_definitions.specs.Replay.{replayed, slots_of}
use Rattle.disk_reading.specs.Lined.{AreLinesOf}
use Rattle.report_definitions.specs.Report.{Report, IsReport}
use Rattle.fsck_report.specs.Line.{report_text}

-- the records of a log
abbrev pub records_in : Sectors → ℕ → List Redo
records_in sectors server = log_records (slots_of sectors server)

-- the line of a record
abbrev pub redo_line : Redo → Said
redo_line r = said.Redo r.op

-- a log that holds records, with the greatest operation that it keeps
abbrev pub recovered_by : ℕ → List Redo → List Said
recovered_by server [] = []
recovered_by server (r ∷ rs) = said.Recovered (record { 0 = server }) (record { 0 = greatest_operation (r ∷ rs) }) ∷ []

-- the same by the greatest operation alone, none where the log holds no record
abbrev pub recovered_line : ℕ → Option OpNo → List Said
recovered_line server None = []
recovered_line server (Some op) = said.Recovered (record { 0 = server }) op ∷ []

-- the lines of the first logs, as far as they hold records
unfoldable pub recovered_below : Sectors → ℕ → List Said
recovered_below sectors logs = flat_map (λ server. recovered_by server (records_in sectors server)) (below logs)

-- the lines of the tree for which the disk stands once its logs are replayed, after some others, and the end
pub record IsTreeOf (sectors : Sectors) (before lines : List Said) : Type 0 where
  pub tree : FileTree
  pub stands : StandsFor (replayed sectors) tree
  pub is : lines ≡ before ++ tree_lines tree ++ said.End ∷ []

-- the lines of the tree for which a disk stands as it is, after some others, and the end
abbrev pub EndsWithTree : Sectors → List Said → List Said → Type 0
EndsWithTree sectors before lines = (told : List Said) × AreLinesOf sectors told × (lines ≡ before ++ told ++ said.End ∷ [])

abbrev pub IsTree : Blocks → List Said → Type 0
IsTree blocks lines = IsTreeOf (sectors_of blocks) [] lines

abbrev pub IsRecovery : Blocks → List Said → Type 0
IsRecovery blocks lines = IsTreeOf (sectors_of blocks) (recovered_below (sectors_of blocks) LOGS) lines

-- the records of a log in order, and the end
abbrev pub IsLog : ℕ → Blocks → List Said → Type 0
IsLog server blocks lines = lines ≡ map redo_line (records_in (sectors_of blocks) server) ++ said.End ∷ []

-- the report of the check of the disk once its logs are replayed, in one line
pub record IsCheck (blocks : Blocks) (lines : List Said) : Type 0 where
  pub report : Report
  pub told : IsReport (replayed (sectors_of blocks)) report
  pub is : lines ≡ said.Shown (report_text report) ∷ []

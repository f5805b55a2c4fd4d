-- The laws of reports.
use Rattle.std.specs.Prelude.{◌≡◌, ◌↔◌, ℕ, Bool, true, ◌&&◌, ◌||◌, ◌==◌, nat_lt, List, [], ◌∷◌, length}
use Rattle.frang_base.specs.declared.limits.TheConstants.{SECTOR_BYTES}
use Rattle.tree_definitions.specs.Tree.{FileTree}
use Rattle.sector_bytes.specs.Sectors.{Sectors}
use Rattle.disk_definitions.specs.Standing.{StandsFor}
use Rattle.report_definitions.specs.Sums.{Fault}
use Rattle.report_definitions.specs.Report.{Report, IsReport}

-- the sectors of a disk have 512 bytes each
abbrev pub AreBlocks : Sectors → Type 0
AreBlocks sectors = (sector : ℕ) → length (sectors sector) ≡ SECTOR_BYTES

-- the disk stands for some tree
abbrev pub StandsForSome : Sectors → Type 0
StandsForSome sectors = (tree : FileTree) × StandsFor sectors tree

-- a disk whose report has no faults stands for a tree, and the report of one that stands has none
abbrev pub NoFaultsWhereItStands : Type 0
NoFaultsWhereItStands = (sectors : Sectors) (report : Report) → AreBlocks sectors → IsReport sectors report → (report.faults ≡ []) ↔ StandsForSome sectors

-- a fault stands before another: its sector is less, or it is the same and its kind is less
abbrev pub is_before : Fault → Fault → Bool
is_before a b = nat_lt a.0 b.0 || (a.0 == b.0 && nat_lt a.1 b.1)

-- each stands before the next
abbrev pub ascend_from : Fault → List Fault → Bool
ascend_from a [] = true
ascend_from a (b ∷ faults) = is_before a b && ascend_from b faults

abbrev pub are_ascending : List Fault → Bool
are_ascending [] = true
are_ascending (a ∷ faults) = ascend_from a faults

-- the faults of a report stand in order, each once
abbrev pub FaultsAscend : Type 0
FaultsAscend = (sectors : Sectors) (report : Report) → IsReport sectors report → are_ascending report.faults ≡ true

-- a disk has one report at most
abbrev pub OneReport : Type 0
OneReport = (sectors : Sectors) (one two : Report) → IsReport sectors one → IsReport sectors two → one ≡ two

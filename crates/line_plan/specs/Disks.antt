-- How a line that the code has planned stands over sectors and bitmaps of a disk that stands for a tree.
use Rattle.std.specs.Prelude.{◌≡◌, ◌↔◌, ℕ, Bool, true, false, Option, Some, None, []}
use Rattle.std.specs.Option.{option_map}
use Rattle.frang_base.specs.declared.op.Op.{Op}
use Rattle.frang_base.specs.declared.sector.Sector.{Sector as CodeSector}
use Rattle.tree_definitions.specs.Apply.{Applied}
use Rattle.tree_definitions.specs.Perform.{Step, Goes, Stops, perform, resolved}
use Rattle.tree_definitions.specs.Tree.{FileTree}
use Rattle.tree_definitions.specs.WellFormed.{IsNew}
use Rattle.sector_bytes.specs.Sectors.{Sectors}
use Rattle.disk_definitions.specs.Allowed.{IsAllowed}
use Rattle.disk_definitions.specs.Ask.{Sector, looks, number_of}
use Rattle.disk_definitions.specs.Held.{Segments}
use Rattle.disk_definitions.specs.Lines.{plan_of_line}
use Rattle.disk_definitions.specs.Meets.{directory_blocks_in}
use Rattle.disk_definitions.specs.Missing.{first_missing}
use Rattle.disk_definitions.specs.OnDisk.{AreOfDisk, FinishStands, StandsBelow}
use Rattle.disk_definitions.specs.Picks.{picked_directory}
use Rattle.disk_definitions.specs.Plans.{must_clear}
use Rattle.disk_definitions.specs.Store.{store_of}
use Rattle.disk_definitions.specs.Written.{Cached, at_hand, hand_of}
use Rattle.plan_laws.specs.Exact.{FindsNothing}
use Rattle.plan_laws.specs.Wants.{Wants, wants}
use Rattle.plan_steps.specs.Edits.{edits_of}
use Rattle.line_plan.specs.declared.ending.LineEnd.{LineEnd}
use Rattle.line_plan.specs.declared.ending.LineEnd.TheVariants as ends

-- the line needs the first sector that it looks at, on its walks too, and that isn't at hand; or none is missing, and it lacks segments where not all are held, has a
-- block cleared that was never a directory's and isn't cached as zero, or is done: the reply is the tree's answer, the changes of its edits make a record, and the
-- disk with them and with the bytes stands for the tree after it
abbrev pub EndStands : Cached → Segments → Bool → Sectors → Applied → Option Sector → LineEnd → Type 0
EndStands cached held all disk applied missing (ends.Need s) = option_map number_of missing ≡ Some s.0
EndStands cached held all disk applied missing ends.Segments = (missing ≡ None) × (all ≡ false)
EndStands cached held all disk applied missing (ends.Clear k operation) = (missing ≡ None) × (must_clear (hand_of cached held all) k ≡ true)
EndStands cached held all disk applied missing (ends.Done outcome) =
    (missing ≡ None) × FinishStands cached held disk applied (record { reply = outcome.reply; edits = edits_of outcome.edits.items; locks = [] })

-- so it is of this line at a new birth and a time, over every disk that stands for a tree and of which the sectors and bitmaps are
abbrev pub LineStands : Op → ℕ → ℕ → Cached → Segments → Bool → LineEnd → Type 0
LineStands operation birth when cached held all end =
    (disk : Sectors) (tree : FileTree) (ever_directories : ℕ) → IsAllowed operation → AreOfDisk cached held all tree.segments disk → StandsBelow disk tree → IsNew tree birth →
    ever_directories ≡ directory_blocks_in (store_of tree.segments disk) tree.segments →
    EndStands cached held all disk (perform tree operation birth when ever_directories)
    (first_missing (at_hand cached held) (looks (plan_of_line (hand_of cached held all) birth when operation) (store_of tree.segments disk))) end

-- ---- exactly where

-- what a line takes of the disk, by the tree alone: what the operation takes to which its walks lead
abbrev pub step_wants : FileTree → Step → Option Wants
step_wants tree (Goes operation) = wants tree operation
step_wants tree (Stops reply) = None

abbrev pub line_wants : FileTree → Op → Option Wants
line_wants tree operation = step_wants tree (resolved tree operation).step

-- no sector is missing, and the line takes this of the disk, where the tree refuses it for nothing else
abbrev pub Takes : FileTree → Op → Option Sector → (Wants → Type 0) → Type 0
Takes tree operation missing Holds = (missing ≡ None) × (w : Wants) × (line_wants tree operation ≡ Some w) × Holds w

-- it needs this sector exactly where it is the first that is looked at and isn't at hand; it lacks segments exactly where not all are held and an allocation that the
-- tree asks for finds nothing in them; it has block k cleared exactly where a directory must grow, each allocation finds something, and that block is found, was never
-- a directory's, and isn't cached as zero
pub record EndIsExact (cached : Cached) (held : Segments) (all : Bool) (tree : FileTree) (operation : Op) (missing : Option Sector) (end : LineEnd) : Type 0 where
  pub need : (s : CodeSector) → (end ≡ ends.Need s) ↔ (option_map number_of missing ≡ Some s.0)
  pub segments : (end ≡ ends.Segments) ↔ Takes tree operation missing (λ w. (all ≡ false) × FindsNothing held w)
  pub clear : (k : ℕ) → ((over : Op) × (end ≡ ends.Clear k over)) ↔ Takes tree operation missing (λ w. (w.grows ≡ true) × (FindsNothing held w → ⊥) × (picked_directory held ≡ Some k) × (must_clear (hand_of cached held all) k ≡ true))

abbrev pub LineIsExact : Op → ℕ → ℕ → Cached → Segments → Bool → LineEnd → Type 0
LineIsExact operation birth when cached held all end =
    (disk : Sectors) (tree : FileTree) → AreOfDisk cached held all tree.segments disk → StandsBelow disk tree →
    EndIsExact cached held all tree operation
    (first_missing (at_hand cached held) (looks (plan_of_line (hand_of cached held all) birth when operation) (store_of tree.segments disk))) end

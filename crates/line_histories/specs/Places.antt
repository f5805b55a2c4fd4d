-- What a line writes into a sector of file bytes goes by the bytes of that sector alone: so the outcome tells it by what is read there.
use Rattle.std.specs.Prelude.{ℕ, ◌≡◌, ◌<◌, ◌^◌, Bool, if◌then◌else◌, Some, None, Option}
use Rattle.std.specs.Map.{keys_of}
use Rattle.frang_base.specs.declared.op.Op.{Op}
use Rattle.frang_base.specs.Functions.{member}
use Rattle.sector_bytes.specs.Blocks.{Block}
use Rattle.sector_bytes.specs.SectorMaps.{value_at, Ascend}
use Rattle.sector_bytes.specs.Sectors.{Sectors}
use Rattle.sector_world.specs.Plans.{Outcome, made_of}
use Rattle.tree_definitions.specs.Tree.{FileTree}
use Rattle.disk_definitions.specs.Naming.{Naming}
use Rattle.disk_definitions.specs.Store.{Store}
use Rattle.disk_definitions.specs.Held.{Segments}
use Rattle.disk_definitions.specs.Allowed.{IsAllowed}
use Rattle.disk_definitions.specs.Ask.{BytesAt, LargeAt, Has, part_of, run, meet, number_of}
use Rattle.disk_definitions.specs.Meets.{IsOfTree}
use Rattle.disk_definitions.specs.OnDisk.{AreOfDisk}
use Rattle.disk_definitions.specs.Plans.{Hand, Finish}
use Rattle.disk_definitions.specs.Plans.Plan.{Finishes}
use Rattle.disk_definitions.specs.Written.{Cached, at_hand, byte_writes, hand_of}
use Rattle.plan_laws.specs.Plans.{Planner}
use Rattle.line_laws.specs.Stores.{with_bytes}
use Rattle.line_laws.specs.Laws.{HasPath}
use Rattle.disk_definitions.specs.Lines.{plan_of_line}
use Rattle.line_histories.specs.LinePlans.{edits_in, fill_by, sector_plan}
use Rattle.line_histories.specs.Done.{IsWholeDisk}

-- two disks have the same bytes in the sector with this number
pub record SameBytesAt (byte large_byte other large_other : ℕ → ℕ → ℕ) (number : ℕ) : Type 0 where
  pub small : (block part : ℕ) → number_of (BytesAt block part) ≡ number → part_of other block part ≡ part_of byte block part
  pub large : (large part : ℕ) → number_of (LargeAt large part) ≡ number → part_of large_other large part ≡ part_of large_byte large part

-- then the same is written there, over the disk of a tree
abbrev pub WritesInPlace : Planner → Type 0
WritesInPlace planner =
    (operation : Op) (hand : Hand) (store : Store) (tree : FileTree) (naming : Naming) (birth when : ℕ) (byte large_byte other large_other : ℕ → ℕ → ℕ) (number : ℕ) → IsOfTree store tree naming →
    SameBytesAt byte large_byte other large_other number →
    value_at (byte_writes (edits_in (run (planner hand birth when operation) (with_bytes store other large_other)))) number
    ≡ value_at (byte_writes (edits_in (run (planner hand birth when operation) (with_bytes store byte large_byte)))) number

abbrev pub LinesWriteInPlace : Type 0
LinesWriteInPlace = WritesInPlace plan_of_line

-- the block that is cached for a sector, where it is one that the outcome reads
abbrev pub shown_of : Cached → Outcome → ℕ → Option Block
shown_of cached o number = if member number o.reads then value_at cached number else None

-- where a line is finished over what is at hand, what it writes and frees is what the outcome makes of the cached blocks that it reads
abbrev pub LineDoneIsMade : Type 0
LineDoneIsMade =
    (operation : Op) (cached : Cached) (held : Segments) (all : Bool) (segments : ℕ) (when : ℕ → ℕ) (n : ℕ) (disk : Sectors) (tree : FileTree) (naming : Naming) (finish : Finish) (o : Outcome) →
    IsAllowed operation → HasPath operation → n < 2 ^ 64 → when n < 2 ^ 64 → Ascend held → AreOfDisk cached held all segments disk → IsWholeDisk segments disk tree naming →
    meet (plan_of_line (hand_of cached held all) n (when n) operation) (at_hand cached held) ≡ Has (Finishes finish) →
    sector_plan segments when (keys_of held) n operation disk ≡ Some o →
    (number : ℕ) → made_of (o.makes number) (shown_of cached o number) ≡ fill_by finish.edits number

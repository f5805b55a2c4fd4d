-- A line that is finished over the cached sectors and the held bitmaps of a disk is the outcome of the plan over all its sectors.
use Rattle.std.specs.Prelude.{ℕ, ◌≡◌, ◌<◌, ◌^◌, ◌++◌, Bool, true, Some, map, length}
use Rattle.std.specs.List.{filter_map}
use Rattle.std.specs.Map.{keys_of}
use Rattle.frang_base.specs.declared.limits.TheConstants.{SECTOR_BYTES}
use Rattle.frang_base.specs.declared.op.Op.{Op}
use Rattle.frang_base.specs.Functions.{member}
use Rattle.sector_bytes.specs.SectorMaps.{Ascend}
use Rattle.sector_bytes.specs.Sectors.{Sectors}
use Rattle.sector_world.specs.Plans.{Outcome}
use Rattle.tree_definitions.specs.Tree.{FileTree}
use Rattle.disk_definitions.specs.Naming.{Naming}
use Rattle.disk_definitions.specs.Standing.{IsInGrammar}
use Rattle.disk_definitions.specs.Held.{Segments}
use Rattle.disk_definitions.specs.Allowed.{IsAllowed}
use Rattle.disk_definitions.specs.Ask.{Sector, Has, meet, number_of}
use Rattle.disk_definitions.specs.Missing.{is_at_hand}
use Rattle.disk_definitions.specs.OnDisk.{AreOfDisk}
use Rattle.disk_definitions.specs.Plans.{Finish}
use Rattle.disk_definitions.specs.Plans.Plan.{Finishes}
use Rattle.disk_definitions.specs.Written.{Cached, at_hand, changes_of, hand_of, sectors_at_hand}
use Rattle.plan_laws.specs.Plans.{Planner}
use Rattle.line_laws.specs.Laws.{HasPath}
use Rattle.disk_definitions.specs.Lines.{plan_of_line}
use Rattle.disk_definitions.specs.Numbered.{moves_of}
use Rattle.line_histories.specs.LinePlans.{without_bytes, blocks_told, claims_of, lock_in, sole_in, segment_lock, sector_plan_by}
use Rattle.line_histories.specs.Planners.{IsSoundPlanner}
use Rattle.line_histories.specs.Guards.{IsDiskOf}

-- the number of a sector that is at hand
pub record IsThere (cached : Cached) (held : Segments) (number : ℕ) : Type 0 where
  pub sector : Sector
  pub here : number ≡ number_of sector
  pub there : is_at_hand (at_hand cached held) sector ≡ true

-- the outcome says what the finished line does, but for bytes; and all that it looks at or reads is at hand
pub record IsOutcomeOf (segments : ℕ) (cached : Cached) (held : Segments) (finish : Finish) (o : Outcome) : Type 0 where
  pub reply : o.reply ≡ without_bytes finish.reply
  pub blocks : o.blocks ≡ blocks_told finish.reply
  pub looked : (number : ℕ) → member number o.looked ≡ true → IsThere cached held number
  pub changes : o.changes ≡ changes_of (sectors_at_hand cached held) finish.edits
  pub claims : o.claims ≡ claims_of segments held finish.edits
  pub moves : o.moves ≡ moves_of segments finish.edits
  pub read : (number : ℕ) → member number o.reads ≡ true → IsThere cached held number
  pub uses : o.uses ≡ map lock_in finish.locks ++ map segment_lock (keys_of held)
  pub alone : o.alone ≡ filter_map sole_in finish.locks

-- the sectors with versions are those of a tree but for the bytes of its files, in their grammar, and each sector is whole
pub record IsWholeDisk (segments : ℕ) (disk : Sectors) (tree : FileTree) (naming : Naming) : Type 0 where
  pub of : IsDiskOf segments disk tree naming
  pub grammar : IsInGrammar segments disk
  pub whole : (sector : ℕ) → length (disk sector) ≡ SECTOR_BYTES

-- so it is of a sound program, with the segments that are held for a hint
abbrev pub DoneIsOutcomeBy : Planner → Type 0
DoneIsOutcomeBy planner =
    (operation : Op) (cached : Cached) (held : Segments) (all : Bool) (segments : ℕ) (when : ℕ → ℕ) (n : ℕ) (disk : Sectors) (tree : FileTree) (naming : Naming) (finish : Finish) →
    IsAllowed operation → HasPath operation → n < 2 ^ 64 → when n < 2 ^ 64 → Ascend held → AreOfDisk cached held all segments disk → IsWholeDisk segments disk tree naming →
    meet (planner (hand_of cached held all) n (when n) operation) (at_hand cached held) ≡ Has (Finishes finish) →
    (o : Outcome) × (sector_plan_by planner segments when (keys_of held) n operation disk ≡ Some o) × IsOutcomeOf segments cached held finish o

abbrev pub DoneIsOutcome : Type 0
DoneIsOutcome = (planner : Planner) → IsSoundPlanner planner → DoneIsOutcomeBy planner

abbrev pub LineDoneIsOutcome : Type 0
LineDoneIsOutcome = DoneIsOutcomeBy plan_of_line

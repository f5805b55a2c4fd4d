-- What an outcome changes, writes and frees lies on the disk, and was under locks that it uses alone; so does what it looks at and reads, under locks that it uses.
use Rattle.std.specs.Prelude.{ℕ, ◌≡◌, ◌<◌, ◌^◌, Some, List, IsSome, IsTrue}
use Rattle.std.specs.List.{Contains}
use Rattle.frang_base.specs.declared.change.Change.{Change}
use Rattle.frang_base.specs.declared.lock.LockId.{LockId}
use Rattle.frang_base.specs.declared.op.Op.{Op}
use Rattle.frang_base.specs.Functions.{member}
use Rattle.sector_bytes.specs.Replays.{change_at}
use Rattle.sector_bytes.specs.Sectors.{Sectors}
use Rattle.sector_world.specs.Plans.{Outcome, looks}
use Rattle.tree_definitions.specs.Tree.{FileTree}
use Rattle.disk_definitions.specs.Naming.{Naming}
use Rattle.disk_definitions.specs.Ask.{Sector}
use Rattle.disk_definitions.specs.Covers.{cover_of}
use Rattle.plan_laws.specs.Plans.{Planner}
use Rattle.disk_definitions.specs.Numbered.{sector_at}
use Rattle.line_histories.specs.LinePlans.{sector_plan_by, sector_plan}
use Rattle.line_histories.specs.Planners.{IsSoundPlanner}
use Rattle.line_histories.specs.Done.{IsWholeDisk}

-- the number of a sector of the disk whose cover is one of these locks
pub record IsCoveredAt (segments : ℕ) (naming : Naming) (locks : List LockId) (number : ℕ) : Type 0 where
  pub sector : Sector
  pub here : sector_at segments number ≡ Some sector
  pub covered : Contains locks (cover_of naming sector)

pub record OwnsWhatItWrites (segments : ℕ) (naming : Naming) (o : Outcome) : Type 0 where
  pub changed : (number : ℕ) (change : Change) → change_at o.changes number ≡ Some change → IsCoveredAt segments naming o.alone number
  pub made : (number : ℕ) → IsSome (o.makes number) → IsCoveredAt segments naming o.alone number

-- so it is over the whole disk of a tree
abbrev pub OwnsWhenPlanned : Planner → Type 0
OwnsWhenPlanned planner =
    (segments : ℕ) (when : ℕ → ℕ) (hint : List ℕ) (n : ℕ) (operation : Op) (disk : Sectors) (tree : FileTree) (naming : Naming) (o : Outcome) → IsWholeDisk segments disk tree naming →
    n < 2 ^ 64 → when n < 2 ^ 64 → sector_plan_by planner segments when hint n operation disk ≡ Some o → OwnsWhatItWrites segments naming o

abbrev pub SoundPlansOwn : Type 0
SoundPlansOwn = (planner : Planner) → IsSoundPlanner planner → OwnsWhenPlanned planner

abbrev pub LinePlansOwn : Type 0
LinePlansOwn =
    (segments : ℕ) (when : ℕ → ℕ) (hint : List ℕ) (n : ℕ) (operation : Op) (disk : Sectors) (tree : FileTree) (naming : Naming) (o : Outcome) → IsWholeDisk segments disk tree naming →
    n < 2 ^ 64 → when n < 2 ^ 64 → sector_plan segments when hint n operation disk ≡ Some o → OwnsWhatItWrites segments naming o

-- what it looks at or changes, and the sectors of bytes that it reads
pub record LooksWhereItLies (segments : ℕ) (naming : Naming) (o : Outcome) : Type 0 where
  pub looked : (number : ℕ) → IsTrue (looks o number) → IsCoveredAt segments naming o.uses number
  pub read : (number : ℕ) → IsTrue (member number o.reads) → IsCoveredAt segments naming o.uses number

-- so it is of every line over the whole disk of a tree
abbrev pub LinePlansLookWhereTheyLie : Type 0
LinePlansLookWhereTheyLie =
    (segments : ℕ) (when : ℕ → ℕ) (hint : List ℕ) (n : ℕ) (operation : Op) (disk : Sectors) (tree : FileTree) (naming : Naming) (o : Outcome) → IsWholeDisk segments disk tree naming →
    sector_plan segments when hint n operation disk ≡ Some o → LooksWhereItLies segments naming o

-- That over a fresh disk every operation that may be asked may be planned.
use Rattle.std.specs.Prelude.{ℕ, ◌≤◌, ◌<◌, true, false, [], ◌∷◌}
use Rattle.frang_base.specs.declared.limits.TheConstants.{SEGMENTS_MAX}
use Rattle.frang_base.specs.declared.op.Op.{Op}
use Rattle.tree_definitions.specs.Tree.{fresh}
use Rattle.disk_definitions.specs.Allowed.{IsAllowed}
use Rattle.disk_definitions.specs.FreshDisk.{first_bitmap, fresh_disk, fresh_sectors}
use Rattle.disk_definitions.specs.OnDisk.{StandsBelow}
use Rattle.code_plan_laws.specs.CodeStands.{IsOverADisk}

-- a fresh disk stands for the tree of the root alone, each version below its bound
abbrev pub FreshStands : Type 0
FreshStands = (segments : ℕ) → 1 ≤ segments → segments ≤ SEGMENTS_MAX → StandsBelow (fresh_disk segments) (fresh segments)

-- over it every allowed operation may be planned, with nothing cached and no segment held
abbrev pub FreshIsAsked : Type 0
FreshIsAsked = (segments birth : ℕ) (o : Op) → 1 ≤ segments → segments ≤ SEGMENTS_MAX → 0 < birth → IsAllowed o → IsOverADisk o birth [] [] false

-- and, with one segment, with that held and its sectors cached
abbrev pub FreshIsAtHand : Type 0
FreshIsAtHand = (birth : ℕ) (o : Op) → 0 < birth → IsAllowed o → IsOverADisk o birth (fresh_sectors 1) ((0, first_bitmap) ∷ []) true

-- The operations on file bytes, and the disk over which they are planned.
use Rattle.std.specs.Prelude.{◌<◌, ◌^◌, ℕ, Bool}
use Rattle.frang_base.specs.declared.op.Op.{Op}
use Rattle.frang_base.specs.declared.op.Op.TheVariants as op
use Rattle.disk_definitions.specs.Held.{Segments}
use Rattle.disk_definitions.specs.Written.{Cached}
use Rattle.code_plan_laws.specs.CodeStands.{IsOverADisk}

abbrev pub IsOfBytes : Op → Type 0
IsOfBytes (op.Write path off bytes) = Unit {0}
IsOfBytes (op.Fill path off len byte) = Unit {0}
IsOfBytes (op.Truncate path len) = Unit {0}
IsOfBytes (op.Read path off len) = Unit {0}
IsOfBytes _ = ⊥

-- the sectors and bitmaps are those of some disk that stands for a tree, and the operation may be asked at some birth that the tree hasn't
pub record IsOverADiskForBytes (o : Op) (cached : Cached) (held : Segments) (all : Bool) : Type 0 where
  pub birth : ℕ
  pub small : birth < 2 ^ 64
  pub over : IsOverADisk o birth cached held all

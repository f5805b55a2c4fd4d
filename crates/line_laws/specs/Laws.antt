-- The plan of each operation stands on the disk.
use Rattle.frang_base.specs.declared.op.Op.{Op}
use Rattle.frang_base.specs.declared.op.Op.TheVariants as op
use Rattle.disk_definitions.specs.OnDisk.{StandsWhenPlanned}

-- an operation with a path
abbrev pub HasPath : Op → Type 0
HasPath (op.Create path) = Unit {0}
HasPath (op.Mkdir path) = Unit {0}
HasPath (op.Symlink path target) = Unit {0}
HasPath (op.Link path to) = Unit {0}
HasPath (op.Unlink path) = Unit {0}
HasPath (op.Rmdir path) = Unit {0}
HasPath (op.Rename path to) = Unit {0}
HasPath (op.Write path off bytes) = Unit {0}
HasPath (op.Fill path off len byte) = Unit {0}
HasPath (op.Truncate path len) = Unit {0}
HasPath (op.Read path off len) = Unit {0}
HasPath (op.Stat path) = Unit {0}
HasPath (op.List path) = Unit {0}
HasPath (op.Readlink path) = Unit {0}
HasPath (op.Time path) = Unit {0}
HasPath _ = ⊥

abbrev pub PlansStand : Type 0
PlansStand = (o : Op) → HasPath o → StandsWhenPlanned o

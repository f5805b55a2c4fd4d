-- The operations on names.
use Rattle.frang_base.specs.declared.op.Op.{Op}
use Rattle.frang_base.specs.declared.op.Op.TheVariants as op

abbrev pub IsOfNames : Op → Type 0
IsOfNames (op.Create path) = Unit {0}
IsOfNames (op.Mkdir path) = Unit {0}
IsOfNames (op.Symlink path target) = Unit {0}
IsOfNames (op.Link path to) = Unit {0}
IsOfNames (op.Unlink path) = Unit {0}
IsOfNames (op.Rmdir path) = Unit {0}
IsOfNames (op.Rename path to) = Unit {0}
IsOfNames _ = ⊥

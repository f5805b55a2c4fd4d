-- An operation on names has a path.
use Rattle.frang_base.specs.declared.op.Op.{Op}
use Rattle.frang_base.specs.declared.op.Op.TheVariants as op
use Rattle.line_laws.specs.Laws.{HasPath}
use Rattle.op_dir.specs.Names.{IsOfNames}

pub has_path : (o : Op) → IsOfNames o → HasPath o
has_path (op.Create path) n = tt
has_path (op.Mkdir path) n = tt
has_path (op.Symlink path target) n = tt
has_path (op.Link path to) n = tt
has_path (op.Unlink path) n = tt
has_path (op.Rmdir path) n = tt
has_path (op.Rename path to) n = tt
has_path (op.Write path off bytes) n = absurd n
has_path (op.Fill path off len byte) n = absurd n
has_path (op.Truncate path len) n = absurd n
has_path (op.Read path off len) n = absurd n
has_path (op.Stat path) n = absurd n
has_path (op.List path) n = absurd n
has_path (op.Readlink path) n = absurd n
has_path (op.Time path) n = absurd n
has_path op.Sync n = absurd n
has_path op.Mount n = absurd n
has_path op.Unmount n = absurd n
has_path op.Crash n = absurd n
has_path (op.CrashAt k) n = absurd n
has_path (op.CutAt k) n = absurd n
has_path op.Stall n = absurd n

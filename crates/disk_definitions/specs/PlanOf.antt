-- The plan of each operation.
use Rattle.std.specs.Prelude.{ℕ, []}
use Rattle.frang_base.specs.declared.op.Op.{Op}
use Rattle.frang_base.specs.declared.op.Op.TheVariants as op
use Rattle.frang_base.specs.declared.reply.Reply.TheVariants as reply
use Rattle.tree_definitions.specs.declared.node.Node.TheVariants.{Dir, File, Link}
use Rattle.disk_definitions.specs.Ask.{Ask}
use Rattle.disk_definitions.specs.Plans.{Hand, Plan, refused}
use Rattle.disk_definitions.specs.NamePlans.{plan_made, plan_linked, plan_unlinked, plan_dir_removed, plan_renamed}
use Rattle.disk_definitions.specs.FilePlans.{plan_written, plan_filled, plan_truncated, plan_read}
use Rattle.disk_definitions.specs.LookPlans.{plan_described, plan_listed, plan_target, plan_timed}

-- of an operation with a path at a time, whose new node would have this birth; an operation without one isn't planned
abbrev pub plan_of : Hand → ℕ → ℕ → Op → Ask Plan
plan_of hand birth when (op.Create path) = plan_made hand birth (File [] 1 0) path
plan_of hand birth when (op.Mkdir path) = plan_made hand birth (Dir [] 0) path
plan_of hand birth when (op.Symlink path target) = plan_made hand birth (Link target 1) path
plan_of hand birth when (op.Link path to) = plan_linked hand path to
plan_of hand birth when (op.Unlink path) = plan_unlinked path
plan_of hand birth when (op.Rmdir path) = plan_dir_removed path
plan_of hand birth when (op.Rename path to) = plan_renamed hand path to
plan_of hand birth when (op.Write path off bytes) = plan_written hand when path off bytes
plan_of hand birth when (op.Fill path off len byte) = plan_filled hand when path off len byte
plan_of hand birth when (op.Truncate path len) = plan_truncated when path len
plan_of hand birth when (op.Read path off len) = plan_read path off len
plan_of hand birth when (op.Stat path) = plan_described path
plan_of hand birth when (op.List path) = plan_listed path
plan_of hand birth when (op.Readlink path) = plan_target path
plan_of hand birth when (op.Time path) = plan_timed path
plan_of hand birth when op = refused reply.Ok []

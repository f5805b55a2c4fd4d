-- The locks of each plan cover it.
use Rattle.std.proofs.Common.{[], refl}
use Rattle.frang_base.specs.declared.op.Op.TheVariants as op
use Rattle.frang_base.specs.declared.reply.Reply.TheVariants as reply
use Rattle.plan_laws.specs.Locks.{LocksCover, WalksAreHeld}
use Rattle.plan_laws.proofs.Covering.{refuse_covered}
use Rattle.plan_laws.proofs.WalkLocks.{stat_held, list_held, readlink_held, time_held, reads_held, truncate_held, write_held, fill_held}
use Rattle.plan_laws.proofs.NameLocks.{create_covered, mkdir_covered, symlink_covered, link_covered, unlink_covered, rmdir_covered, rename_covered}
use Rattle.plan_laws.proofs.FileLocks.{write_covered, fill_covered, truncate_covered, read_covered, stat_covered, list_covered, readlink_covered, time_covered}

pub locks_cover : LocksCover
locks_cover (op.Create path) = create_covered path
locks_cover (op.Mkdir path) = mkdir_covered path
locks_cover (op.Symlink path target) = symlink_covered path target
locks_cover (op.Link path to) = link_covered path to
locks_cover (op.Unlink path) = unlink_covered path
locks_cover (op.Rmdir path) = rmdir_covered path
locks_cover (op.Rename path to) = rename_covered path to
locks_cover (op.Write path off bytes) = write_covered path off bytes
locks_cover (op.Fill path off len byte) = fill_covered path off len byte
locks_cover (op.Truncate path len) = truncate_covered path len
locks_cover (op.Read path off len) = read_covered path off len
locks_cover (op.Stat path) = stat_covered path
locks_cover (op.List path) = list_covered path
locks_cover (op.Readlink path) = readlink_covered path
locks_cover (op.Time path) = time_covered path
locks_cover op.Sync = λ h s birth when. refuse_covered h reply.Ok [] refl
locks_cover op.Mount = λ h s birth when. refuse_covered h reply.Ok [] refl
locks_cover op.Unmount = λ h s birth when. refuse_covered h reply.Ok [] refl
locks_cover op.Crash = λ h s birth when. refuse_covered h reply.Ok [] refl
locks_cover (op.CrashAt k) = λ h s birth when. refuse_covered h reply.Ok [] refl
locks_cover (op.CutAt k) = λ h s birth when. refuse_covered h reply.Ok [] refl
locks_cover op.Stall = λ h s birth when. refuse_covered h reply.Ok [] refl

pub walks_are_held : WalksAreHeld
walks_are_held = record {
  stat = stat_held;
  list = list_held;
  readlink = readlink_held;
  time = time_held;
  read = reads_held;
  truncate = truncate_held;
  write = write_held;
  fill = fill_held;
}

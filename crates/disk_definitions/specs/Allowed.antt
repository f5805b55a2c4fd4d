-- Which operations may be asked of a plan.
use Rattle.std.specs.Prelude.{◌≡◌, ◌≤◌, ◌<◌, ℕ, true, List, length}
use Rattle.std.specs.List.{AllByRecursion, list_all}
use Rattle.frang_base.specs.declared.limits.TheConstants.{TARGET_BYTES_MAX}
use Rattle.frang_base.specs.Name.{is_name, is_target_byte}
use Rattle.frang_base.specs.declared.op.Op.{Op}
use Rattle.frang_base.specs.declared.op.Op.TheVariants as op

-- a path of names
abbrev pub AreNames : List (List ℕ) → Type 0
AreNames path = AllByRecursion (λ name. is_name name ≡ true) path

-- a target of a link: at least one byte and at most as many as a link has, each above the blank and none the delete byte
pub record IsTarget (target : List ℕ) : Type 0 where
  pub some : 1 ≤ length target
  pub few : length target ≤ TARGET_BYTES_MAX
  pub bytes : list_all is_target_byte target ≡ true

-- bytes of a text
abbrev pub AreBytes : List ℕ → Type 0
AreBytes text = AllByRecursion (λ byte. byte < 256) text

-- the paths have names, a target may stand in an inode, bytes are bytes; offsets and lengths are whatever they are
abbrev pub IsAllowed : Op → Type 0
IsAllowed (op.Create path) = AreNames path
IsAllowed (op.Mkdir path) = AreNames path
IsAllowed (op.Symlink path target) = AreNames path × IsTarget target
IsAllowed (op.Link path to) = AreNames path × AreNames to
IsAllowed (op.Unlink path) = AreNames path
IsAllowed (op.Rmdir path) = AreNames path
IsAllowed (op.Rename path to) = AreNames path × AreNames to
IsAllowed (op.Write path off bytes) = AreNames path × AreBytes bytes
IsAllowed (op.Fill path off len byte) = AreNames path × (byte < 256)
IsAllowed (op.Truncate path len) = AreNames path
IsAllowed (op.Read path off len) = AreNames path
IsAllowed (op.Stat path) = AreNames path
IsAllowed (op.List path) = AreNames path
IsAllowed (op.Readlink path) = AreNames path
IsAllowed (op.Time path) = AreNames path
IsAllowed _ = Unit {0}

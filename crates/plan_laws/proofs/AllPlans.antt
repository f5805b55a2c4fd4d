-- What each plan comes to, and so where it lacks segments, has a block cleared, or says that there is no space.
use Rattle.std.proofs.Common.{ℕ, ◌-◌, [], length, slice_index, refl}
use Rattle.frang_base.specs.declared.op.Op.{Op}
use Rattle.frang_base.specs.declared.op.Op.TheVariants as op
use Rattle.tree_definitions.specs.declared.node.Node.TheVariants.{Dir, File, Link}
use Rattle.tree_definitions.specs.Tree.{FileTree}
use Rattle.disk_definitions.specs.Store.{Store}
use Rattle.disk_definitions.specs.Naming.{Naming}
use Rattle.disk_definitions.specs.Ask.{run}
use Rattle.disk_definitions.specs.Plans.{Hand}
use Rattle.disk_definitions.specs.PlanOf.{plan_of}
use Rattle.disk_definitions.specs.Meets.{IsOfTree}
use Rattle.plan_laws.specs.Wants.{wants}
use Rattle.plan_laws.specs.Exact.{LacksExactly, ClearsExactly, SaysFullExactly}
use Rattle.plan_laws.proofs.Outcomes.{Outcome, lacks_by, clears_by, full_by}
use Rattle.plan_laws.proofs.Plain.{unlink_plain, rmdir_plain, stat_plain, time_plain, list_plain, readlink_plain, read_plain, truncate_plain}
use Rattle.plan_laws.proofs.SpaceMaking.{made_outcome}
use Rattle.plan_laws.proofs.SpaceLinking.{linked_outcome}
use Rattle.plan_laws.proofs.SpaceMoving.{renamed_outcome}
use Rattle.plan_laws.proofs.SpaceWriting.{bytes_outcome}

module _ (h : Hand) (s : Store) (tree : FileTree) (n : Naming) (birth when : ℕ) (of : IsOfTree s tree n) where
  pub outcome : (o : Op) → Outcome h (wants tree o) (run (plan_of h birth when o) s)
  outcome (op.Create path) = made_outcome h s tree n of birth (File [] 1 0) path
  outcome (op.Mkdir path) = made_outcome h s tree n of birth (Dir [] 0) path
  outcome (op.Symlink path target) = made_outcome h s tree n of birth (Link target 1) path
  outcome (op.Link path to) = linked_outcome h s tree n of path to
  outcome (op.Unlink path) = unlink_plain s path
  outcome (op.Rmdir path) = rmdir_plain s path
  outcome (op.Rename path to) = renamed_outcome h s tree n of path to
  outcome (op.Write path off bytes) = bytes_outcome h s tree n of (record { off = off; len = length bytes; when = when; byte = λ j. slice_index bytes (j - off) }) path
  outcome (op.Fill path off len byte) = bytes_outcome h s tree n of (record { off = off; len = len; when = when; byte = λ j. byte }) path
  outcome (op.Truncate path len) = truncate_plain s when path len
  outcome (op.Read path off len) = read_plain s path off len
  outcome (op.Stat path) = stat_plain s path
  outcome (op.List path) = list_plain s path
  outcome (op.Readlink path) = readlink_plain s path
  outcome (op.Time path) = time_plain s path
  outcome op.Sync = refl
  outcome op.Mount = refl
  outcome op.Unmount = refl
  outcome op.Crash = refl
  outcome (op.CrashAt k) = refl
  outcome (op.CutAt k) = refl
  outcome op.Stall = refl

pub lacks_exactly : LacksExactly
lacks_exactly o h s tree n birth when of = lacks_by h (wants tree o) (run (plan_of h birth when o) s) (outcome h s tree n birth when of o)

pub clears_exactly : ClearsExactly
clears_exactly o h s tree n birth when of k = clears_by h k (wants tree o) (run (plan_of h birth when o) s) (outcome h s tree n birth when of o)

pub says_full_exactly : SaysFullExactly
says_full_exactly o h s tree n birth when of = full_by h (wants tree o) (run (plan_of h birth when o) s) (outcome h s tree n birth when of o)

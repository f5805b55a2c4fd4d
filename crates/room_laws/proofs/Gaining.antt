-- Each finished plan, and so each finished line, gains no block for directories or frees none.
use Rattle.std.proofs.Common.{ℕ, ◌==◌, ◌-◌, inl, if◌then◌else◌, List, [], length, slice_index, subst}
use Rattle.frang_base.specs.declared.op.Op.{Op}
use Rattle.frang_base.specs.declared.op.Op.TheVariants as op
use Rattle.frang_base.specs.declared.reply.Reply.TheVariants as reply
use Rattle.tree_definitions.specs.declared.node.Node.TheVariants.{Dir, File, Link}
use Rattle.tree_definitions.specs.Tree.{FileTree}
use Rattle.disk_definitions.specs.Store.{Store}
use Rattle.disk_definitions.specs.Naming.{Naming}
use Rattle.disk_definitions.specs.FilePlans.{Writing, at_file, cutting, plan_of_file, showing, writing}
use Rattle.disk_definitions.specs.LookPlans.{at_inode, described, listing, timed}
use Rattle.disk_definitions.specs.Meets.{IsOfTree}
use Rattle.disk_definitions.specs.PlanOf.{plan_of}
use Rattle.disk_definitions.specs.Plans.{Hand, refused}
use Rattle.plan_laws.specs.Plans.{OfEachFinish}
use Rattle.plan_laws.proofs.Telling.{Tells}
use Rattle.line_laws.proofs.Lifting.{lifted}
use Rattle.room_laws.specs.Growth.{GainsOrFrees, LinesGainOrFree}
use Rattle.room_laws.proofs.GainingNames.{Ends, link_fair, made_path_fair, refused_fair, rename_fair, rmdir_fair, unlink_fair}
use Rattle.room_laws.proofs.GainingFiles.{cutting_fair, file_fair, inode_fair, kind_fair, listing_fair, node_fair, showing_fair, writing_fair}

module _ (h : Hand) (s : Store) (tree : FileTree) (n : Naming) (of : IsOfTree s tree n) where
  write_fair : (w : Writing) (path : List (List ℕ)) → Ends h s tree n of (plan_of_file path (writing h w))
  write_fair w path = node_fair h s tree n of (at_file (writing h w)) (file_fair h s tree n of (writing h w) (writing_fair h s tree n of w)) path

  plan_fair : (o : Op) (birth when : ℕ) → Ends h s tree n of (plan_of h birth when o)
  plan_fair (op.Create path) birth when = made_path_fair h s tree n of birth (File [] 1 0) path
  plan_fair (op.Mkdir path) birth when = made_path_fair h s tree n of birth (Dir [] 0) path
  plan_fair (op.Symlink path target) birth when = made_path_fair h s tree n of birth (Link target 1) path
  plan_fair (op.Link path to) birth when = link_fair h s tree n of path to
  plan_fair (op.Unlink path) birth when = unlink_fair h s tree n of path
  plan_fair (op.Rmdir path) birth when = rmdir_fair h s tree n of path
  plan_fair (op.Rename path to) birth when = rename_fair h s tree n of path to
  plan_fair (op.Write path off bytes) birth when = write_fair (record { off = off; len = length bytes; when = when; byte = λ j. slice_index bytes (j - off) }) path
  plan_fair (op.Fill path off len byte) birth when = write_fair (record { off = off; len = len; when = when; byte = λ j. byte }) path
  plan_fair (op.Truncate path len) birth when = node_fair h s tree n of (at_file (cutting when len)) (file_fair h s tree n of (cutting when len) (cutting_fair h s tree n of when len)) path
  plan_fair (op.Read path off len) birth when = node_fair h s tree n of (at_file (showing off len)) (file_fair h s tree n of (showing off len) (showing_fair h s tree n of off len)) path
  plan_fair (op.Stat path) birth when =
      node_fair h s tree n of (at_inode (λ touched x. refused (described x) touched))
      (inode_fair h s tree n of (λ touched x. refused (described x) touched) (λ touched x. refused_fair h s tree n of (described x) touched)) path
  plan_fair (op.Time path) birth when =
      node_fair h s tree n of (at_inode (λ touched x. refused (timed x) touched))
      (inode_fair h s tree n of (λ touched x. refused (timed x) touched) (λ touched x. refused_fair h s tree n of (timed x) touched)) path
  plan_fair (op.List path) birth when =
      node_fair h s tree n of (λ t. if t.kind == 2 then at_inode listing t else refused reply.NotDir t.dirs)
      (kind_fair h s tree n of listing (listing_fair h s tree n of) 2 reply.NotDir) path
  plan_fair (op.Readlink path) birth when =
      node_fair h s tree n of (λ t. if t.kind == 3 then at_inode (λ touched x. refused (reply.Target x.target) touched) t else refused reply.Inval t.dirs)
      (kind_fair h s tree n of (λ touched x. refused (reply.Target x.target) touched) (λ touched x. refused_fair h s tree n of (reply.Target x.target) touched) 3 reply.Inval) path
  plan_fair op.Sync birth when = refused_fair h s tree n of reply.Ok []
  plan_fair op.Mount birth when = refused_fair h s tree n of reply.Ok []
  plan_fair op.Unmount birth when = refused_fair h s tree n of reply.Ok []
  plan_fair op.Crash birth when = refused_fair h s tree n of reply.Ok []
  plan_fair (op.CrashAt k) birth when = refused_fair h s tree n of reply.Ok []
  plan_fair (op.CutAt k) birth when = refused_fair h s tree n of reply.Ok []
  plan_fair op.Stall birth when = refused_fair h s tree n of reply.Ok []

plans_gain_or_free : OfEachFinish plan_of GainsOrFrees
plans_gain_or_free o h s tree n birth when f of hand is = subst (Tells (GainsOrFrees s n)) is (plan_fair h s tree n of o birth when)

pub lines_gain_or_free : LinesGainOrFree
lines_gain_or_free = lifted GainsOrFrees (λ s n trail f fair. fair) (λ s tree n r trail of. inl (λ k used. used)) plans_gain_or_free

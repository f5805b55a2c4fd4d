-- The plan of every operation is told where it looks, over the disk of a tree.
use Rattle.std.proofs.Common.{ℕ, ◌-◌, ◌==◌, List, [], length, slice_index, if◌then◌else◌}
use Rattle.frang_base.specs.declared.op.Op.{Op}
use Rattle.frang_base.specs.declared.op.Op.TheVariants as op
use Rattle.frang_base.specs.declared.reply.Reply.{Reply}
use Rattle.frang_base.specs.declared.reply.Reply.TheVariants as reply
use Rattle.tree_definitions.specs.declared.node.Node.TheVariants.{Dir, File, Link}
use Rattle.disk_definitions.specs.Store.{Store, StoredNode}
use Rattle.disk_definitions.specs.Naming.{Naming}
use Rattle.disk_definitions.specs.Ask.{Sector}
use Rattle.disk_definitions.specs.FilePlans.{Writing, writing, cutting, showing, plan_of_file}
use Rattle.disk_definitions.specs.LookPlans.{at_inode, described, listing, plan_of_node, timed}
use Rattle.disk_definitions.specs.PlanOf.{plan_of}
use Rattle.disk_definitions.specs.Plans.{Hand, refused}
use Rattle.plan_laws.proofs.Standing.{DiskStands}
use Rattle.line_laws.proofs.WalksTold.{Ends}
use Rattle.line_laws.proofs.NamesTold.{made_told, linked_told, unlinked_told, removed_told, renamed_told}
use Rattle.line_laws.proofs.FilesTold.{writing_told, cutting_told, showing_told, listing_told, node_told, inode_told, kind_told, file_told}

module _ (h : Hand) (s : Store) (n : Naming) (disk : DiskStands h s n) where
  written_told : (w : Writing) (path : List (List ℕ)) (before : List Sector) → Ends h s n disk (plan_of_file path (writing h w)) before
  written_told w path = file_told h s n disk (writing h w) (λ i x is file touched later c. writing_told h s n disk i x is file w touched later c) path

  shown_told : (reply : StoredNode → Reply) (path : List (List ℕ)) (before : List Sector) → Ends h s n disk (plan_of_node path (at_inode (λ touched x. refused (reply x) touched))) before
  shown_told reply path = node_told h s n disk path (at_inode (λ touched x. refused (reply x) touched)) (inode_told h s n disk (λ touched x. refused (reply x) touched) (λ i x is touched later c. tt))

  pub plan_told : (o : Op) (birth when : ℕ) (before : List Sector) → Ends h s n disk (plan_of h birth when o) before
  plan_told (op.Create path) birth when before = made_told h s n disk birth (File [] 1 0) path before
  plan_told (op.Mkdir path) birth when before = made_told h s n disk birth (Dir [] 0) path before
  plan_told (op.Symlink path target) birth when before = made_told h s n disk birth (Link target 1) path before
  plan_told (op.Link path to) birth when before = linked_told h s n disk path to before
  plan_told (op.Unlink path) birth when before = unlinked_told h s n disk path before
  plan_told (op.Rmdir path) birth when before = removed_told h s n disk path before
  plan_told (op.Rename path to) birth when before = renamed_told h s n disk path to before
  plan_told (op.Write path off bytes) birth when before = written_told (record { off = off; len = length bytes; when = when; byte = λ j. slice_index bytes (j - off) }) path before
  plan_told (op.Fill path off len byte) birth when before = written_told (record { off = off; len = len; when = when; byte = λ j. byte }) path before
  plan_told (op.Truncate path len) birth when before = file_told h s n disk (cutting when len) (λ i x is file touched later c. cutting_told h s n disk i x is when len touched later) path before
  plan_told (op.Read path off len) birth when before = file_told h s n disk (showing off len) (λ i x is file touched later c. showing_told h s n disk i x is file off len touched later c) path before
  plan_told (op.Stat path) birth when before = shown_told described path before
  plan_told (op.Time path) birth when before = shown_told timed path before
  plan_told (op.List path) birth when before =
      node_told h s n disk path (λ t. if t.kind == 2 then at_inode listing t else refused reply.NotDir t.dirs)
      (kind_told h s n disk (at_inode listing) 2 reply.NotDir (inode_told h s n disk listing (λ i x is touched later c. listing_told h s n disk i x is touched later c))) before
  plan_told (op.Readlink path) birth when before =
      node_told h s n disk path (λ t. if t.kind == 3 then at_inode (λ touched x. refused (reply.Target x.target) touched) t else refused reply.Inval t.dirs)
      (kind_told h s n disk (at_inode (λ touched x. refused (reply.Target x.target) touched)) 3 reply.Inval (inode_told h s n disk (λ touched x. refused (reply.Target x.target) touched) (λ i x is touched later c. tt))) before
  plan_told op.Sync birth when before = tt
  plan_told op.Mount birth when before = tt
  plan_told op.Unmount birth when before = tt
  plan_told op.Crash birth when before = tt
  plan_told (op.CrashAt k) birth when before = tt
  plan_told (op.CutAt k) birth when before = tt
  plan_told op.Stall birth when before = tt

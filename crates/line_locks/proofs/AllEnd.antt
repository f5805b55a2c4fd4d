-- The plan of every operation ends with the locks that are found, over the disk of a tree.
use Rattle.std.proofs.Common.{ℕ, ◌-◌, ◌==◌, Bool, false, List, [], length, slice_index, if◌then◌else◌, sym}
use Rattle.std.proofs.lemmas.List.{append-nil}
use Rattle.frang_base.specs.declared.op.Op.{Op}
use Rattle.frang_base.specs.declared.op.Op.TheVariants as op
use Rattle.frang_base.specs.declared.reply.Reply.{Reply}
use Rattle.frang_base.specs.declared.reply.Reply.TheVariants as reply
use Rattle.tree_definitions.specs.declared.node.Node.TheVariants.{Dir, File, Link}
use Rattle.disk_definitions.specs.Store.{Store, StoredNode}
use Rattle.disk_definitions.specs.Naming.{Naming}
use Rattle.disk_definitions.specs.FilePlans.{Writing, writing, cutting, showing, plan_of_file}
use Rattle.disk_definitions.specs.LookPlans.{at_inode, described, listing, plan_of_node, timed}
use Rattle.disk_definitions.specs.PlanOf.{plan_of}
use Rattle.disk_definitions.specs.Plans.{Hand, Plan, refused}
use Rattle.plan_laws.proofs.Standing.{DiskStands}
use Rattle.disk_definitions.specs.FoundLocks.{makes_node, nodes_behind}
use Rattle.line_locks.proofs.Ending.{Ends}
use Rattle.line_locks.proofs.FilesEnd.{cutting_ends, file_ends, inode_ends, kind_ends, listing_ends, node_ends, showing_ends, writing_ends}
use Rattle.line_locks.proofs.NamesEnd.{linked_ends_so, made_path_ends, rmdir_ends, unlink_ends}
use Rattle.line_locks.proofs.PlansEnd.{PlanEnds, refuse_ends}
use Rattle.line_locks.proofs.RenamesEnd.{rename_ends}

module _ (h : Hand) (s : Store) (n : Naming) (disk : DiskStands h s n) where
  -- of an operation over paths without links
  abbrev pub OpEnds : Op → List ℕ → List ℕ → Plan → Type 0
  OpEnds o before = PlanEnds h s (nodes_behind o) (makes_node o) before

  module _ (back : ℕ) (made : Bool) (before : List ℕ) where
    abbrev End : List ℕ → Plan → Type 0
    End = PlanEnds h s back made before

    nothing_ends : Ends s End (refused reply.Ok []) before
    nothing_ends = refuse_ends h s back made before [] before reply.Ok (sym (append-nil before))

    written_ends : (w : Writing) (path : List (List ℕ)) → Ends s End (plan_of_file path (writing h w)) before
    written_ends w path = file_ends h s n disk back made before (writing h w) (λ i x touched nodes e. writing_ends h s n disk back made before i x touched nodes e w) path

    shown_ends : (reply : StoredNode → Reply) (path : List (List ℕ)) → Ends s End (plan_of_node path (at_inode (λ touched x. refused (reply x) touched))) before
    shown_ends reply path =
        node_ends h s n disk back made before (at_inode (λ touched x. refused (reply x) touched))
        (inode_ends h s n disk back made before (λ touched x. refused (reply x) touched) (λ i x touched nodes e. refuse_ends h s back made before touched nodes (reply x) e)) path

  pub plan_ends : (o : Op) (birth when : ℕ) (before : List ℕ) → Ends s (OpEnds o before) (plan_of h birth when o) before
  plan_ends (op.Create path) birth when before = made_path_ends h s n disk birth (File [] 1 0) path before
  plan_ends (op.Mkdir path) birth when before = made_path_ends h s n disk birth (Dir [] 0) path before
  plan_ends (op.Symlink path target) birth when before = made_path_ends h s n disk birth (Link target 1) path before
  plan_ends (op.Link path to) birth when before = linked_ends_so h s n disk path to before
  plan_ends (op.Unlink path) birth when before = unlink_ends h s n disk 1 false before path
  plan_ends (op.Rmdir path) birth when before = rmdir_ends h s n disk 1 false before path
  plan_ends (op.Rename path to) birth when before = rename_ends h s n disk path to before
  plan_ends (op.Write path off bytes) birth when before = written_ends 1 false before (record { off = off; len = length bytes; when = when; byte = λ j. slice_index bytes (j - off) }) path
  plan_ends (op.Fill path off len byte) birth when before = written_ends 1 false before (record { off = off; len = len; when = when; byte = λ j. byte }) path
  plan_ends (op.Truncate path len) birth when before = file_ends h s n disk 1 false before (cutting when len) (λ i x touched nodes e. cutting_ends h s n disk 1 false before i x touched nodes e when len) path
  plan_ends (op.Read path off len) birth when before = file_ends h s n disk 1 false before (showing off len) (λ i x touched nodes e. showing_ends h s n disk 1 false before i x touched nodes e off len) path
  plan_ends (op.Stat path) birth when before = shown_ends 1 false before described path
  plan_ends (op.Time path) birth when before = shown_ends 1 false before timed path
  plan_ends (op.List path) birth when before =
      node_ends h s n disk 1 false before (λ t. if t.kind == 2 then at_inode listing t else refused reply.NotDir t.dirs)
      (kind_ends h s n disk 1 false before (at_inode listing) 2 reply.NotDir (inode_ends h s n disk 1 false before listing (λ i x touched nodes e. listing_ends h s n disk 1 false before i x touched nodes e))) path
  plan_ends (op.Readlink path) birth when before =
      node_ends h s n disk 1 false before (λ t. if t.kind == 3 then at_inode (λ touched x. refused (reply.Target x.target) touched) t else refused reply.Inval t.dirs)
      (kind_ends h s n disk 1 false before (at_inode (λ touched x. refused (reply.Target x.target) touched)) 3 reply.Inval
      (inode_ends h s n disk 1 false before (λ touched x. refused (reply.Target x.target) touched) (λ i x touched nodes e. refuse_ends h s 1 false before touched nodes (reply.Target x.target) e))) path
  plan_ends op.Sync birth when before = nothing_ends 1 false before
  plan_ends op.Mount birth when before = nothing_ends 1 false before
  plan_ends op.Unmount birth when before = nothing_ends 1 false before
  plan_ends op.Crash birth when before = nothing_ends 1 false before
  plan_ends (op.CrashAt k) birth when before = nothing_ends 1 false before
  plan_ends (op.CutAt k) birth when before = nothing_ends 1 false before
  plan_ends op.Stall birth when before = nothing_ends 1 false before

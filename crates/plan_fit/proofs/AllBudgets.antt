-- The plan of each operation makes a small record.
use Rattle.std.proofs.Common.{ℕ, ◌==◌, ◌-◌, if◌then◌else◌, List, [], length, slice_index}
use Rattle.frang_base.specs.declared.op.Op.{Op}
use Rattle.frang_base.specs.declared.op.Op.TheVariants as op
use Rattle.frang_base.specs.declared.reply.Reply.TheVariants as reply
use Rattle.tree_definitions.specs.declared.node.Node.TheVariants.{Dir, File, Link}
use Rattle.sector_bytes.specs.Sectors.{Sectors}
use Rattle.disk_definitions.specs.Store.{Store, store_of}
use Rattle.disk_definitions.specs.Ask.{run}
use Rattle.disk_definitions.specs.Plans.{Hand, Plan, refused}
use Rattle.disk_definitions.specs.Plans.Plan.{Lacks, Clears, Finishes}
use Rattle.disk_definitions.specs.FilePlans.{Writing, plan_of_file, at_file, writing, cutting, showing}
use Rattle.disk_definitions.specs.LookPlans.{at_inode, described, listing, timed}
use Rattle.disk_definitions.specs.PlanOf.{plan_of}
use Rattle.disk_definitions.specs.SmallRecords.{PlanIsSmall}
use Rattle.plan_fit.specs.SmallPlans.{PlansMakeSmallRecords}
use Rattle.plan_fit.proofs.Bounds.{small_record}
use Rattle.plan_fit.proofs.EditBudgets.{node_few}
use Rattle.plan_fit.proofs.NameBudgets.{MakesSmall, HasFewBlocks, refuse_small, made_path_small, linked_path_small, unlinked_small, dir_removed_small, renamed_small}
use Rattle.plan_fit.proofs.FileBudgets.{writing_makes_small, cutting_small, showing_small, node_small, file_small, inode_small, listing_small, by_kind}

module _ (h : Hand) (birth when : ℕ) (s : Store) (nodes : HasFewBlocks s) where
  write_small : (path : List (List ℕ)) (w : Writing) → MakesSmall (run (plan_of_file path (writing h w)) s)
  write_small path w = node_small s (at_file (writing h w)) (file_small s nodes (writing h w) (λ i touched x few. writing_makes_small s h w i touched x)) path

  all_small : (o : Op) → MakesSmall (run (plan_of h birth when o) s)
  all_small (op.Create path) = made_path_small h s birth (File [] 1 0) path
  all_small (op.Mkdir path) = made_path_small h s birth (Dir [] 0) path
  all_small (op.Symlink path target) = made_path_small h s birth (Link target 1) path
  all_small (op.Link path to) = linked_path_small h s path to
  all_small (op.Unlink path) = unlinked_small s nodes path
  all_small (op.Rmdir path) = dir_removed_small s nodes path
  all_small (op.Rename path to) = renamed_small h s nodes path to
  all_small (op.Write path off bytes) = write_small path (record { off = off; len = length bytes; when = when; byte = λ j. slice_index bytes (j - off) })
  all_small (op.Fill path off len byte) = write_small path (record { off = off; len = len; when = when; byte = λ j. byte })
  all_small (op.Truncate path len) = node_small s (at_file (cutting when len)) (file_small s nodes (cutting when len) (cutting_small s when len)) path
  all_small (op.Read path off len) = node_small s (at_file (showing off len)) (file_small s nodes (showing off len) (λ i touched x few. showing_small s off len i touched x)) path
  all_small (op.Stat path) = node_small s (at_inode (λ touched x. refused (described x) touched)) (inode_small s (λ touched x. refused (described x) touched) (λ touched x. refuse_small (described x) touched)) path
  all_small (op.List path) = node_small s (λ t. if t.kind == 2 then at_inode listing t else refused reply.NotDir t.dirs) (by_kind s (at_inode listing) 2 reply.NotDir (inode_small s listing (listing_small s))) path
  all_small (op.Readlink path) = node_small s (λ t. if t.kind == 3 then at_inode (λ touched x. refused (reply.Target x.target) touched) t else refused reply.Inval t.dirs)
      (by_kind s (at_inode (λ touched x. refused (reply.Target x.target) touched)) 3 reply.Inval (inode_small s (λ touched x. refused (reply.Target x.target) touched) (λ touched x. refuse_small (reply.Target x.target) touched))) path
  all_small (op.Time path) = node_small s (at_inode (λ touched x. refused (timed x) touched)) (inode_small s (λ touched x. refused (timed x) touched) (λ touched x. refuse_small (timed x) touched)) path
  all_small op.Sync = refuse_small reply.Ok []
  all_small op.Mount = refuse_small reply.Ok []
  all_small op.Unmount = refuse_small reply.Ok []
  all_small op.Crash = refuse_small reply.Ok []
  all_small (op.CrashAt k) = refuse_small reply.Ok []
  all_small (op.CutAt k) = refuse_small reply.Ok []
  all_small op.Stall = refuse_small reply.Ok []

by_plan : (most segments : ℕ) (sectors : Sectors) (plan : Plan) → MakesSmall plan → PlanIsSmall most segments sectors plan
by_plan most segments sectors Lacks m = tt
by_plan most segments sectors (Clears k locks) m = tt
by_plan most segments sectors (Finishes f) m = λ ready. small_record most segments sectors f.edits m ready

pub small_records : PlansMakeSmallRecords
small_records o h most segments sectors birth when fit =
    by_plan most segments sectors (run (plan_of h birth when o) (store_of segments sectors)) (all_small h birth when (store_of segments sectors) (λ i x e. node_few x (fit.nodes i x e).1) o)

-- The plans of stat, readlink and time answer as the tree has it.
use Rattle.std.proofs.Common.{ℕ, ◌≡◌, ◌==◌, if◌then◌else◌, Some, List, length}
use Rattle.frang_base.specs.declared.op.Op.TheVariants as op
use Rattle.frang_base.specs.declared.reply.Reply.TheVariants as reply
use Rattle.tree_definitions.specs.declared.node.Node.{Node}
use Rattle.tree_definitions.specs.declared.node.Node.TheVariants.{Dir, File, Link}
use Rattle.tree_definitions.specs.Tree.{FileTree, node_at}
use Rattle.tree_definitions.specs.Apply.{says, if_file, described as tree_described, target_of as tree_target, time_of}
use Rattle.tree_laws.proofs.StepsLaws.{apply_keeps}
use Rattle.disk_definitions.specs.Store.{Store}
use Rattle.disk_definitions.specs.Naming.{Naming, kind_of}
use Rattle.disk_definitions.specs.Ask.{run}
use Rattle.disk_definitions.specs.Plans.{Hand, refused}
use Rattle.disk_definitions.specs.LookPlans.{at_inode, described, timed}
use Rattle.disk_definitions.specs.Meets.{IsOfTree}
use Rattle.plan_laws.proofs.Refusing.{Meets, refuse_meets}
use Rattle.plan_laws.specs.FilesPlanned.{StatIsPlanned, ReadlinkIsPlanned, TimeIsPlanned}
use Rattle.plan_laws.proofs.Aiming.{target_of, at_inode_meets, node_meets}

module _ (h : Hand) (s : Store) (tree : FileTree) (n : Naming) (of : IsOfTree s tree n) where
  described_meets : (dirs : List ℕ) (b : ℕ) (node : Node) → node_at tree b ≡ Some node →
      Meets h s tree n (tree_described tree (Some node)) (run (at_inode (λ touched x. refused (described x) touched) (target_of h s tree n of dirs b (kind_of node))) s)
  described_meets dirs b (Dir entries blocks) is = at_inode_meets h s tree n of (λ touched x. refused (described x) touched) (tree_described tree (Some (Dir entries blocks))) b 2 (Dir entries blocks) is
      (λ touched well. refuse_meets h s tree n of (reply.Dir (length entries)) touched) dirs
  described_meets dirs b (File cells links when) is = at_inode_meets h s tree n of (λ touched x. refused (described x) touched) (tree_described tree (Some (File cells links when))) b 1 (File cells links when) is
      (λ touched well. refuse_meets h s tree n of (reply.File (length cells) links) touched) dirs
  described_meets dirs b (Link target links) is = at_inode_meets h s tree n of (λ touched x. refused (described x) touched) (tree_described tree (Some (Link target links))) b 3 (Link target links) is
      (λ touched well. refuse_meets h s tree n of (reply.Symlink (length target)) touched) dirs

  target_meets : (dirs : List ℕ) (b : ℕ) (node : Node) → node_at tree b ≡ Some node →
      Meets h s tree n (tree_target tree (Some node)) (run (let t = target_of h s tree n of dirs b (kind_of node) in if t.kind == 3 then at_inode (λ touched x. refused (reply.Target x.target) touched) t else refused reply.Inval t.dirs) s)
  target_meets dirs b (Dir entries blocks) is = λ well. refuse_meets h s tree n of reply.Inval dirs
  target_meets dirs b (File cells links when) is = λ well. refuse_meets h s tree n of reply.Inval dirs
  target_meets dirs b (Link target links) is = at_inode_meets h s tree n of (λ touched x. refused (reply.Target x.target) touched) (tree_target tree (Some (Link target links))) b 3 (Link target links) is
      (λ touched well. refuse_meets h s tree n of (reply.Target target) touched) dirs

  timed_meets : (dirs : List ℕ) (b : ℕ) (node : Node) → node_at tree b ≡ Some node →
      Meets h s tree n (if_file tree (λ b cells links at. says tree (time_of at)) b (Some node)) (run (at_inode (λ touched x. refused (timed x) touched) (target_of h s tree n of dirs b (kind_of node))) s)
  timed_meets dirs b (Dir entries blocks) is = at_inode_meets h s tree n of (λ touched x. refused (timed x) touched) (says tree reply.IsDir) b 2 (Dir entries blocks) is (λ touched well. refuse_meets h s tree n of reply.IsDir touched) dirs
  timed_meets dirs b (File cells links when) is = at_inode_meets h s tree n of (λ touched x. refused (timed x) touched) (says tree (time_of when)) b 1 (File cells links when) is (λ touched well. refuse_meets h s tree n of (time_of when) touched) dirs
  timed_meets dirs b (Link target links) is = at_inode_meets h s tree n of (λ touched x. refused (timed x) touched) (says tree reply.Inval) b 3 (Link target links) is (λ touched well. refuse_meets h s tree n of reply.Inval touched) dirs

pub stat_planned : StatIsPlanned
stat_planned path h s tree n birth when m of hand new =
    node_meets h s tree n of (at_inode (λ touched x. refused (described x) touched)) (λ b node. tree_described tree node) (described_meets h s tree n of) path (apply_keeps tree (op.Stat path) birth when m of.well_formed new)

pub readlink_planned : ReadlinkIsPlanned
readlink_planned path h s tree n birth when m of hand new =
    node_meets h s tree n of (λ t. if t.kind == 3 then at_inode (λ touched x. refused (reply.Target x.target) touched) t else refused reply.Inval t.dirs) (λ b node. tree_target tree node) (target_meets h s tree n of) path
    (apply_keeps tree (op.Readlink path) birth when m of.well_formed new)

pub time_planned : TimeIsPlanned
time_planned path h s tree n birth when m of hand new =
    node_meets h s tree n of (at_inode (λ touched x. refused (timed x) touched)) (λ b node. if_file tree (λ b cells links at. says tree (time_of at)) b node) (timed_meets h s tree n of) path (apply_keeps tree (op.Time path) birth when m of.well_formed new)

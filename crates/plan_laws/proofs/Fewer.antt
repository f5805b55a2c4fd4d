-- A node has a link fewer: with none left it goes, and a directory at once.
use Rattle.std.proofs.Common.{ℕ, ◌≡◌, ◌≢◌, ◌-◌, Bool, true, false, not, Option, Some, None, List, nat_le, nat_lt, if◌then◌else◌, refl, arith}
use Rattle.std.proofs.lemmas.Bool.Decides.{nat_tests}
use Rattle.tree_definitions.specs.declared.cells.Cell.{Cell}
use Rattle.tree_definitions.specs.declared.node.Node.{Node}
use Rattle.tree_definitions.specs.declared.node.Node.TheVariants.{Dir, File, Link}
use Rattle.tree_definitions.specs.Tree.{FileTree, node_at, with_node, without_node}
use Rattle.tree_definitions.specs.Apply.{one_link_fewer}
use Rattle.tree_definitions.specs.WellFormed.{BirthsAscend, put as put_node}
use Rattle.tree_laws.proofs.Nodes.{node_with, node_without}
use Rattle.disk_definitions.specs.Store.{Store}
use Rattle.disk_definitions.specs.Naming.{Naming, Nodes, kind_of}
use Rattle.disk_definitions.specs.Edits.{edited_all}
use Rattle.disk_definitions.specs.Changes.{relink, drop_node}
use Rattle.disk_definitions.specs.Namings.{named_less}
use Rattle.disk_definitions.specs.ChangeLaws.{HasInode, HasNoNames}
use Rattle.disk_definitions.specs.NamePlans.{fewer}
use Rattle.plan_laws.proofs.Cases.{inode_by, has_inode}
use Rattle.plan_laws.proofs.Stages.{IsStage, relinks, drops, restage}

-- a store that is on the way, and its naming, which keeps the inodes of another
pub record IsOnTheWay (t : Store) (segments : ℕ) (at : Nodes) (n : Naming) : Type 0 where
  pub naming : Naming
  pub stage : IsStage t segments at naming
  pub inodes : (c : ℕ) → naming.inode c ≡ n.inode c

pub segments_fewer : (tree : FileTree) (b : ℕ) (o : Option Node) → (one_link_fewer tree b o).segments ≡ tree.segments
segments_fewer tree b (Some (File cells links when)) = go (nat_lt 1 links)
  where
    go : (c : Bool) → (if c then with_node tree b (File cells (links - 1) when) else without_node tree b).segments ≡ tree.segments
    go true = refl
    go false = refl
segments_fewer tree b (Some (Link target links)) = go (nat_lt 1 links)
  where
    go : (c : Bool) → (if c then with_node tree b (Link target (links - 1)) else without_node tree b).segments ≡ tree.segments
    go true = refl
    go false = refl
segments_fewer tree b (Some (Dir entries blocks)) = refl
segments_fewer tree b None = refl

one_left : (links : ℕ) → nat_lt 1 links ≡ not (nat_le links 1)
one_left links = go (nat_le links 1) refl
  where
    go : (c : Bool) → nat_le links 1 ≡ c → nat_lt 1 links ≡ not c
    go true e = grind (arith, nat_tests)
    go false e = grind (arith, nat_tests)

module _ (s : Store) (segments : ℕ) (tree : FileTree) (n : Naming) (stage : IsStage s segments (node_at tree) n) (births : BirthsAscend tree) (b : ℕ) (away : b ≢ 0) where
  has : (node : Node) → node_at tree b ≡ Some node → HasInode s (node_at tree) n b node (inode_by n b node)
  has node is = has_inode s (node_at tree) n stage.pictures b node is

  gone : (node : Node) → node_at tree b ≡ Some node → HasNoNames node → IsOnTheWay (edited_all s (drop_node (n.inode b) (inode_by n b node))) segments (node_at (without_node tree b)) n
  gone node is bare =
      let r = drops s segments (node_at tree) n stage b (inode_by n b node) node (has node is) bare away in
      record { naming = named_less n b (kind_of node); stage = restage (edited_all s (drop_node (n.inode b) (inode_by n b node))) segments (put_node (node_at tree) b None) (node_at (without_node tree b)) (named_less n b (kind_of node)) r.0 (λ c. node_without tree b c births); inodes = λ c. refl }

  file_less : (cells : List Cell) (links when : ℕ) → node_at tree b ≡ Some (File cells links when) → IsOnTheWay (edited_all s (relink (n.inode b) (inode_by n b (File cells links when)) (links - 1))) segments (node_at (with_node tree b (File cells (links - 1) when))) n
  file_less cells links when is =
      let r = relinks s segments (node_at tree) n stage b (links - 1) (inode_by n b (File cells links when)) (File cells links when) (has (File cells links when) is) refl in
      record { naming = n; stage = restage (edited_all s (relink (n.inode b) (inode_by n b (File cells links when)) (links - 1))) segments (put_node (node_at tree) b (Some (File cells (links - 1) when))) (node_at (with_node tree b (File cells (links - 1) when))) n r.0 (node_with tree b (File cells (links - 1) when)); inodes = λ c. refl }

  link_less : (target : List ℕ) (links : ℕ) → node_at tree b ≡ Some (Link target links) → IsOnTheWay (edited_all s (relink (n.inode b) (inode_by n b (Link target links)) (links - 1))) segments (node_at (with_node tree b (Link target (links - 1)))) n
  link_less target links is =
      let r = relinks s segments (node_at tree) n stage b (links - 1) (inode_by n b (Link target links)) (Link target links) (has (Link target links) is) refl in
      record { naming = n; stage = restage (edited_all s (relink (n.inode b) (inode_by n b (Link target links)) (links - 1))) segments (put_node (node_at tree) b (Some (Link target (links - 1)))) (node_at (with_node tree b (Link target (links - 1)))) n r.0 (node_with tree b (Link target (links - 1))); inodes = λ c. refl }

  pub fewer_leads : (node : Node) → node_at tree b ≡ Some node → HasNoNames node → IsOnTheWay (edited_all s (fewer (n.inode b) (inode_by n b node))) segments (node_at (one_link_fewer tree b (Some node))) n
  fewer_leads (Dir entries blocks) is bare = gone (Dir entries blocks) is bare
  fewer_leads (File cells links when) is bare = rw (one_left links) (go (nat_le links 1))
    where
      go : (c : Bool) → IsOnTheWay (edited_all s (if c then drop_node (n.inode b) (inode_by n b (File cells links when)) else relink (n.inode b) (inode_by n b (File cells links when)) (links - 1))) segments
          (node_at (if not c then with_node tree b (File cells (links - 1) when) else without_node tree b)) n
      go true = gone (File cells links when) is bare
      go false = file_less cells links when is
  fewer_leads (Link target links) is bare = rw (one_left links) (go (nat_le links 1))
    where
      go : (c : Bool) → IsOnTheWay (edited_all s (if c then drop_node (n.inode b) (inode_by n b (Link target links)) else relink (n.inode b) (inode_by n b (Link target links)) (links - 1))) segments
          (node_at (if not c then with_node tree b (Link target (links - 1)) else without_node tree b)) n
      go true = gone (Link target links) is bare
      go false = link_less target links is

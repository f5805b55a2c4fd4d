-- A file with other cells, of which the store is the picture, makes the disk of the tree with this file.
use Rattle.std.proofs.Common.{ℕ, ◌≡◌, ◌<◌, ◌≤◌, ◌*◌, Bool, true, false, if◌then◌else◌, Option, Some, None, List, length, refl, ap, arith, is_some}
use Rattle.std.proofs.lemmas.Bool.Decides.{nat_tests}
use Rattle.tree_definitions.specs.declared.cells.Cell.{Cell}
use Rattle.tree_definitions.specs.declared.node.Node.TheVariants.{File}
use Rattle.tree_definitions.specs.Tree.{FileTree, node_at, with_node, small_blocks_of}
use Rattle.tree_definitions.specs.WellFormed.{IsWellFormed, put as put_node}
use Rattle.tree_laws.proofs.Nodes.{node_with}
use Rattle.disk_definitions.specs.Store.{Store}
use Rattle.disk_definitions.specs.Naming.{Naming}
use Rattle.disk_definitions.specs.Namings.{is_of}
use Rattle.disk_definitions.specs.ChangeLaws.{FilesFit}
use Rattle.disk_definitions.specs.Resizing.{index_of, is_large_of, named_resized, HasBlocks, IsResized}
use Rattle.disk_definitions.proofs.Indices.{index_hit}
use Rattle.disk_definitions.proofs.Resize.{files_are_resized}
use Rattle.disk_definitions.specs.Meets.{IsOfTree}
use Rattle.plan_laws.proofs.Stages.{IsWithin, IsStage, stage_of, of_stage, moved_on}

-- the blocks are the disk's
pub record AreWithin (segments : ℕ) (new : List Cell) (block : ℕ → ℕ) (large : ℕ) : Type 0 where
  pub smalls : (j : ℕ) → j < small_blocks_of (length new) → block j < 1024 * segments
  pub larges : 65536 < length new → large < segments

module _ (s t : Store) (tree : FileTree) (n : Naming) (of : IsOfTree s tree n) (b links before when large : ℕ) (old new : List Cell) (block : ℕ → ℕ) (is : node_at tree b ≡ Some (File old links before))
    (has : HasBlocks s n b old new block large) (after : IsResized s t n b new links when block large) (are : AreWithin tree.segments new block large) where
  abbrev m : Naming
  m = named_resized n b new block large

  stage : IsStage s tree.segments (node_at tree) n
  stage = stage_of s tree n of

  no_index : (k : ℕ) → 1024 * tree.segments ≤ k → index_of new block k ≡ None
  no_index k l = go (index_of new block k) refl
    where
      go : (o : Option ℕ) → index_of new block k ≡ o → o ≡ None
      go None e = refl
      go (Some i) e =
          let r = index_hit block (small_blocks_of (length new)) k i e in
          let w : block i < 1024 * tree.segments = are.smalls i r.1 in
          let q : block i ≡ k = r.0 in absurd (omega arith)

  larges_within : (g : ℕ) (c : Bool) → is_large_of new large g ≡ c → (o : Option ℕ) → n.large_owner g ≡ o → is_some (if c then Some b else (if is_of b o then None else o)) ≡ true → g < tree.segments
  larges_within g true e o i h =
      let l : 65536 < length new = grind (arith, nat_tests) in
      let q : g ≡ large = grind (arith, nat_tests) in
      let w : large < tree.segments = are.larges l in omega arith
  larges_within g false e None i h = absurd (cc)
  larges_within g false e (Some c) i h = stage.within.larges g (ap is_some i)

  within : IsWithin m tree.segments
  within = record {
    inodes = stage.within.inodes;
    blocks = λ k l. let w = stage.within.blocks k l in rw (no_index k l, w.0) (refl, w.1);
    larges = λ g h. larges_within g (is_large_of new large g) refl (n.large_owner g) refl h;
  }

  pub resized_tree : FilesFit (node_at tree) → IsWellFormed (with_node tree b (File new links when)) → IsOfTree t (with_node tree b (File new links when)) m
  resized_tree fit well =
      let leads = files_are_resized s t (node_at tree) n b links before when old new block large of.pictures fit is has after in
      of_stage t tree.segments (put_node (node_at tree) b (Some (File new links when))) m (with_node tree b (File new links when))
      (moved_on s t tree.segments (node_at tree) n m b (File new links when) stage leads within (ap is_some is)) (node_with tree b (File new links when)) well refl of.few

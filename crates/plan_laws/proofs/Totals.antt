-- As many inodes and small blocks of a disk are in use as its tree has.
use Rattle.std.proofs.Common.{ℕ, ◌≡◌, ◌<◌, ◌≤◌, ◌*◌, Bool, true, false, not, nat_lt, if◌then◌else◌, Option, Some, None, length, refl, sym, ◌∙◌, ap, subst, arith, is_some}
use Rattle.std.proofs.lemmas.Bool.Decides.{nat_tests}
use Rattle.std.specs.Ordering.{nat_cmp}
use Rattle.frang_base.proofs.Tests.{some_there}
use Rattle.tree_definitions.specs.declared.node.Node.{Node}
use Rattle.tree_definitions.specs.Tree.{FileTree, node_at, count_of, small_blocks}
use Rattle.tree_definitions.proofs.Pairs.{birth_exact}
use Rattle.disk_definitions.specs.Store.{Store, is_unused}
use Rattle.disk_definitions.specs.Store.Use.{Fresh, Empty}
use Rattle.disk_definitions.specs.Naming.{Naming, blocks_of, use_for}
use Rattle.disk_definitions.specs.Least.{count}
use Rattle.disk_definitions.proofs.Free.{in_use}
use Rattle.disk_definitions.specs.Meets.{IsOfTree}
use Rattle.plan_laws.proofs.Counting.{count_keys}
use Rattle.plan_laws.proofs.Blocks.{IsBlockOf, count_blocks}

pub free_if : (b : Bool) → is_unused (if b then Empty else Fresh) ≡ true
free_if true = refl
free_if false = refl

module _ (s : Store) (tree : FileTree) (n : Naming) (of : IsOfTree s tree n) where
  bit_of : (b : ℕ) → is_some (node_at tree b) ≡ true → s.bit (n.inode b) ≡ true
  bit_of b h = of.pictures.bits (n.inode b) ∙ ap is_some (of.pictures.numbered b h)

  pub inodes_counted : count s.bit (64 * tree.segments) ≡ length tree.nodes
  inodes_counted = count_keys nat_cmp birth_exact n.inode (64 * tree.segments) tree.nodes s.bit of.well_formed.births
      (λ b h. (of.inodes (n.inode b) (bit_of b h), bit_of b h))
      (λ b c h i e. let z : Some b ≡ Some c = sym (of.pictures.numbered b h) ∙ ap n.birth e ∙ of.pictures.numbered c i in cc)
      (λ q l e. let b = some_there (n.birth q) (sym (of.pictures.bits q) ∙ e) in let r = of.pictures.whose q b.0 b.1 in (b.0, r.1, r.0))

  abbrev taken : ℕ → Bool
  taken k = not (is_unused (s.use_of k))

  owned_at : (b j : ℕ) (x : Node) → node_at tree b ≡ Some x → j < small_blocks x → j < blocks_of (node_at tree b)
  owned_at b j x is l = rw is l

  use_at : (b j : ℕ) (x : Node) → node_at tree b ≡ Some x → j < small_blocks x → is_unused (s.use_of (n.block b j)) ≡ false
  use_at b j x is l =
      let own : n.owner (n.block b j) ≡ Some (b, j) = of.pictures.owned b j (owned_at b j x is l) in
      ap is_unused (of.pictures.uses (n.block b j) ∙ ap (use_for (n.was (n.block b j)) (node_at tree)) own) ∙ in_use (node_at tree b) j (owned_at b j x is l)

  pub in_range : (k : ℕ) → is_unused (s.use_of k) ≡ false → k < 1024 * tree.segments
  in_range k e = go (nat_lt k (1024 * tree.segments)) refl
    where
      go : (b : Bool) → nat_lt k (1024 * tree.segments) ≡ b → k < 1024 * tree.segments
      go true i = grind (arith, nat_tests)
      go false i = absurd (let l : 1024 * tree.segments ≤ k = grind (arith, nat_tests) in let f : is_unused (s.use_of k) ≡ true = ap is_unused (of.blocks k l) in cc)

  block_at : (k : ℕ) → not (is_unused (s.use_of k)) ≡ true → (o : Option (ℕ × ℕ)) → n.owner k ≡ o → IsBlockOf n.block small_blocks (node_at tree) k
  block_at k e None i = absurd (let f : is_unused (s.use_of k) ≡ true = ap is_unused (of.pictures.uses k ∙ ap (use_for (n.was k) (node_at tree)) i) ∙ free_if (n.was k) in let g : not (is_unused (s.use_of k)) ≡ false = ap not f in cc)
  block_at k e (Some o) i =
      let r = of.pictures.owners k o.0 o.1 i in
      let some : is_some (node_at tree o.0) ≡ true = there (node_at tree o.0) o.1 r.1 in
      let x = some_there (node_at tree o.0) some in
      record { birth = o.0; index = o.1; node = x.0; is = x.1; below = subst (λ z. o.1 < blocks_of z) x.1 r.1; at = r.0 }
    where
      there : (x : Option Node) (j : ℕ) → j < blocks_of x → is_some x ≡ true
      there None j l = absurd (omega arith)
      there (Some x) j l = refl

  pub blocks_counted : count taken (1024 * tree.segments) ≡ count_of small_blocks tree
  blocks_counted = count_blocks n.block small_blocks n.owner (1024 * tree.segments) tree.nodes taken of.well_formed.births
      (record {
        into = λ b j x i l. (in_range (n.block b j) (use_at b j x i l), ap not (use_at b j x i l));
        owned = λ b j x i l. of.pictures.owned b j (owned_at b j x i l);
        onto = λ q l e. block_at q e (n.owner q) refl;
      })

-- The inode, the uses and the large block of a file that gets other cells.
use Rattle.std.proofs.Common.{ℕ, ◌≡◌, ◌≢◌, ◌<◌, ◌≤◌, ◌+◌, ◌-◌, ◌==◌, ◌&&◌, Bool, true, false, nat_lt, if◌then◌else◌, Option, Some, None, List, [], length, slice_index, refl, sym, ◌∙◌, ap, subst, arith, is_some, eq-eqb}
use Rattle.std.proofs.Math.Path.{fun_ext}
use Rattle.std.proofs.lemmas.Bool.Decides.{nat_tests}
use Rattle.std.proofs.lemmas.Bool.{and_parts, eqb-true}
use Rattle.tree_definitions.specs.declared.cells.Cell.{Cell}
use Rattle.tree_definitions.specs.declared.node.Node.TheVariants.{File}
use Rattle.tree_definitions.specs.Tree.{small_blocks_of}
use Rattle.frang_base.proofs.Tests.{same_tests}
use Rattle.disk_definitions.specs.Store.{Store, StoredNode}
use Rattle.disk_definitions.specs.Store.Use.{Bytes}
use Rattle.disk_definitions.specs.Naming.{Naming, Nodes, Pictures, first_blocks, has_large, blocks_of, inode_of, use_for}
use Rattle.disk_definitions.specs.Namings.{is_of}
use Rattle.disk_definitions.specs.Resizing.{index_of, HasBlocks}
use Rattle.disk_definitions.proofs.Indices.{index_hit, own_index}
use Rattle.disk_definitions.specs.FilePlans.{small_after, large_after, resized}

-- ---- the inode

-- an inode of a file by its time, size, blocks and large block
abbrev shaped : ℕ → ℕ → ℕ → ℕ → (ℕ → ℕ) → ℕ → StoredNode
shaped stamp links when size small large = record { kind = 1; links = links; size = size; birth = stamp; blocks = small_blocks_of size; small = small; large = large; when = when; target = [] }

module _ (stamp links since when large before : ℕ) (block own : ℕ → ℕ) (old new : List Cell) where
  abbrev x : StoredNode
  x = inode_of stamp own before (File old links since)

  abbrev y : StoredNode
  y = inode_of stamp block large (File new links when)

  abbrev count : ℕ
  count = small_blocks_of (length new)

  abbrev had : ℕ
  had = small_blocks_of (length old)

  -- the blocks that stay, the blocks that were picked, and the large block
  pub record IsSized (picks : List ℕ) (more : Option ℕ) : Type 0 where
    pub kept : (j : ℕ) → j < count → j < had → block j ≡ own j
    pub picked : (j : ℕ) → j < count → had ≤ j → block j ≡ slice_index picks (j - had)
    pub large_is : 65536 < length new → large_after x more (length new) ≡ large + 1

  module _ (picks : List ℕ) (more : Option ℕ) (sized : IsSized picks more) where
    small_is : (j : ℕ) → small_after x picks count j ≡ first_blocks count block j
    small_is j = go (nat_lt j count) refl
      where
        inner : (c : Bool) → nat_lt j had ≡ c → j < count → (if c then (if c then own j else 0) else slice_index picks (j - had)) ≡ block j
        inner true e l = sym (sized.kept j l (grind (arith, nat_tests)))
        inner false e l = sym (sized.picked j l (grind (arith, nat_tests)))

        go : (c : Bool) → nat_lt j count ≡ c → (if c then (if nat_lt j had then (if nat_lt j had then own j else 0) else slice_index picks (j - had)) else 0) ≡ (if c then block j else 0)
        go true e = inner (nat_lt j had) refl (grind (arith, nat_tests))
        go false e = refl

    large_as : large_after x more (length new) ≡ (if nat_lt 65536 (length new) then large + 1 else 0)
    large_as = go (nat_lt 65536 (length new)) refl
      where
        go : (c : Bool) → nat_lt 65536 (length new) ≡ c → large_after x more (length new) ≡ (if c then large + 1 else 0)
        go true e = sized.large_is (grind (arith, nat_tests))
        go false e = rw e refl

    pub resized_is : resized x when (length new) picks more ≡ y
    resized_is = let smalls : small_after x picks count ≡ first_blocks count block = fun_ext small_is in (λ i. shaped stamp links when (length new) (smalls i) (large_as i))

-- ---- what stands where
module _ (s : Store) (at : Nodes) (n : Naming) (g : Pictures s at n) (b links since large : ℕ) (old new : List Cell) (block : ℕ → ℕ) (is : at b ≡ Some (File old links since)) (has : HasBlocks s n b old new block large) where
  -- a block that the file had and has
  pub mine : (k i : ℕ) → i < small_blocks_of (length old) → n.block b i ≡ k → n.owner k ≡ Some (b, i)
  mine k i l e = ap n.owner (sym e) ∙ g.owned b i (rw is l)

  pub mine_one : (k i j : ℕ) → i < small_blocks_of (length old) → n.block b i ≡ k → n.owner k ≡ Some (b, j) → i ≡ j
  mine_one k i j l e o = second (b, i) (b, j) (sym (mine k i l e) ∙ o)
    where
      second : (v w : ℕ × ℕ) → Some v ≡ Some w → v.1 ≡ w.1
      second v w h = let u : v ≡ w = cc in ap (λ z. z.1) u

  pub not_mine : (k i c j : ℕ) → c ≢ b → i < small_blocks_of (length old) → n.owner k ≡ Some (c, j) → n.block b i ≢ k
  not_mine k i c j f l o e = f (first (c, j) (b, i) (sym o ∙ mine k i l e))
    where
      first : (v w : ℕ × ℕ) → Some v ≡ Some w → v.0 ≡ w.0
      first v w h = let u : v ≡ w = cc in ap (λ z. z.0) u

  pub mine_used : (k j : ℕ) → n.owner k ≡ Some (b, j) → s.use_of k ≡ Bytes
  mine_used k j o = g.uses k ∙ ap (use_for (n.was k) at) o ∙ rw is refl

  pub mine_below : (k j : ℕ) → n.owner k ≡ Some (b, j) → (n.block b j ≡ k) × (j < small_blocks_of (length old))
  mine_below k j o = let r = g.owners k b j o in (r.0, subst (λ z. j < blocks_of z) is r.1)

  pub index_at : (k j : ℕ) → j < small_blocks_of (length new) → block j ≡ k → index_of new block k ≡ Some j
  index_at k j l e = subst (λ z. index_of new block z ≡ Some j) e (own_index s at n g b links since large old new block is has j l)

  pub index_none : (k : ℕ) → ((j : ℕ) → j < small_blocks_of (length new) → block j ≢ k) → index_of new block k ≡ None
  index_none k none = go (index_of new block k) refl
    where
      go : (o : Option ℕ) → index_of new block k ≡ o → o ≡ None
      go None e = refl
      go (Some j) e = let r = index_hit block (small_blocks_of (length new)) k j e in absurd (none j r.1 r.0)

  -- the large block is the file's exactly where it has one and this is it
  is_of_some : (o : Option ℕ) → is_of b o ≡ true → o ≡ Some b
  is_of_some None e = absurd (cc)
  is_of_some (Some c) e = ap Some (eqb-true c b e)

  abbrev is_its : ℕ → Bool
  is_its k = nat_lt 65536 (length old) && k == n.large b

  its_owner : (k : ℕ) → is_its k ≡ true → n.large_owner k ≡ Some b
  its_owner k e =
      let r = and_parts (nat_lt 65536 (length old)) (k == n.large b) e in
      ap n.large_owner (eqb-true k (n.large b) r.1) ∙ g.larges b (ap has_large is ∙ r.0)

  pub large_owned : (k : ℕ) → is_of b (n.large_owner k) ≡ is_its k
  large_owned k = same_tests (is_of b (n.large_owner k)) (is_its k)
      (λ e. let r = g.large_owners k b (is_of_some (n.large_owner k) e) in let l : nat_lt 65536 (length old) ≡ true = subst (λ z. has_large z ≡ true) is r.1 in rw (l, eq-eqb k (n.large b) (sym r.0)) refl)
      (λ e. ap (is_of b) (its_owner k e) ∙ eq-eqb b b refl)

  pub large_used : (k : ℕ) → is_its k ≡ true → s.large_bit k ≡ true
  large_used k e = g.large_bits k ∙ ap is_some (its_owner k e)

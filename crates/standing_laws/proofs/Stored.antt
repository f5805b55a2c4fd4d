-- In a store that pictures a tree each node has its inode, and each inode in use its node.
use Rattle.std.proofs.Common.{◌≡◌, ℕ, ◌+◌, ◌<◌, Bool, true, false, Option, Some, None, is_some, length, cond, refl, sym, ◌∙◌, ap, arith, nat_lt, lt-ltb}
use Rattle.std.proofs.lemmas.Bool.{cond-true, both_ways}
use Rattle.tree_definitions.specs.declared.node.Node.{Node}
use Rattle.tree_definitions.specs.declared.node.Node.TheVariants.{Dir, File, Link}
use Rattle.tree_definitions.specs.Tree.{small_blocks_of}
use Rattle.disk_definitions.specs.Store.{Store, StoredNode}
use Rattle.disk_definitions.specs.Naming.{Naming, Nodes, Pictures, kind_of, blocks_of, has_large, inode_of, inode_by, inode_for}

-- the inode that a node makes
abbrev pub made_by : Naming → ℕ → Node → StoredNode
made_by n b y = inode_of (n.stamp b) (n.block b) (n.large b) y

pub made_kind : (n : Naming) (b : ℕ) (y : Node) → (made_by n b y).kind ≡ kind_of y
made_kind n b (Dir es k) = refl
made_kind n b (File cells links when) = refl
made_kind n b (Link target links) = refl

pub made_blocks : (n : Naming) (b : ℕ) (y : Node) → (made_by n b y).blocks ≡ blocks_of (Some y)
made_blocks n b (Dir es k) = refl
made_blocks n b (File cells links when) = refl
made_blocks n b (Link target links) = refl

pub made_small : (n : Naming) (b : ℕ) (y : Node) (j : ℕ) → j < blocks_of (Some y) → (made_by n b y).small j ≡ n.block b j
made_small n b (Dir es k) j l = cond-true (nat_lt j k) (n.block b j) 0 (lt-ltb j k l)
made_small n b (File cells links when) j l = cond-true (nat_lt j (small_blocks_of (length cells))) (n.block b j) 0 (lt-ltb j (small_blocks_of (length cells)) l)
made_small n b (Link target links) j l = absurd (omega arith)

pub made_large : (n : Naming) (b : ℕ) (y : Node) → has_large (Some y) ≡ true → (made_by n b y).large ≡ n.large b + 1
made_large n b (Dir es k) h = absurd (cc)
made_large n b (File cells links when) h = cond-true (nat_lt 65536 (length cells)) (n.large b + 1) 0 h
made_large n b (Link target links) h = absurd (cc)

-- a large block is in the inode only where the node has one
pub large_made : (n : Naming) (b : ℕ) (y : Node) → nat_lt 0 (made_by n b y).large ≡ true → has_large (Some y) ≡ true
large_made n b (Dir es k) h = absurd (cc)
large_made n b (File cells links when) h = go (nat_lt 65536 (length cells)) h
  where
    go : (t : Bool) → nat_lt 0 (cond t (n.large b + 1) 0) ≡ true → t ≡ true
    go true h = refl
    go false h = absurd (cc)
large_made n b (Link target links) h = absurd (cc)

-- an inode in use with its node
pub record Has (n : Naming) (at : Nodes) (i : ℕ) (x : StoredNode) : Type 0 where
  pub birth : ℕ
  pub node : Node
  pub born : n.birth i ≡ Some birth
  pub found : at birth ≡ Some node
  pub numbered : n.inode birth ≡ i
  pub is : x ≡ made_by n birth node

module _ (s : Store) (at : Nodes) (n : Naming) (p : Pictures s at n) where
  pub of_birth : (b : ℕ) (y : Node) → at b ≡ Some y → s.inode (n.inode b) ≡ Some (made_by n b y)
  of_birth b y e = p.inodes (n.inode b) ∙ ap (inode_for n at) (p.numbered b (ap is_some e)) ∙ ap (inode_by n b) e

  pub of_inode : (i : ℕ) (x : StoredNode) → s.inode i ≡ Some x → Has n at i x
  of_inode i x e = go (n.birth i) refl
    where
      node : (b : ℕ) → n.birth i ≡ Some b → (o : Option Node) → at b ≡ o → Has n at i x
      node b h None f = absurd (both_ways (is_some (at b)) (ap is_some f) (p.whose i b h).1)
      node b h (Some y) f =
          let z : Some x ≡ Some (made_by n b y) = sym e ∙ p.inodes i ∙ ap (inode_for n at) h ∙ ap (inode_by n b) f in
          record { birth = b; node = y; born = h; found = f; numbered = (p.whose i b h).0; is = (let q : x ≡ made_by n b y = cc in q) }

      go : (o : Option ℕ) → n.birth i ≡ o → Has n at i x
      go None h = absurd (let z : Some x ≡ None = sym e ∙ p.inodes i ∙ ap (inode_for n at) h in cc)
      go (Some b) h = node b h (at b) refl

  -- births of nodes have inodes of their own
  pub one_inode : (a b : ℕ) → is_some (at a) ≡ true → is_some (at b) ≡ true → n.inode a ≡ n.inode b → a ≡ b
  one_inode a b h k e = let z : Some a ≡ Some b = sym (p.numbered a h) ∙ ap n.birth e ∙ p.numbered b k in cc

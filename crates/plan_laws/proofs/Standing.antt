-- What the disk of a tree says of its inodes, entries and free blocks, as far as locks go by it.
use Rattle.std.proofs.Common.{ℕ, ◌≡◌, ◌≢◌, ◌<◌, ◌+◌, ◌-◌, ◌*◌, Bool, true, false, if◌then◌else◌, nat_lt, Option, Some, None, List, length, slice_index_or, refl, sym, ◌∙◌, ap, subst, arith, is_some}
use Rattle.std.specs.List.{Contains}
use Rattle.std.proofs.lemmas.Bool.{lt-ltb}
use Rattle.frang_base.specs.declared.lock.LockId.TheVariants as lock
use Rattle.tree_definitions.specs.declared.node.Node.{Node}
use Rattle.tree_definitions.specs.declared.node.Node.TheVariants.{Dir, File, Link}
use Rattle.tree_definitions.specs.Tree.{FileTree, node_at, small_blocks_of}
use Rattle.tree_definitions.specs.Apply.{is_dir}
use Rattle.frang_base.proofs.Tests.{none_of}
use Rattle.tree_laws.proofs.Keeping.{names_nodes}
use Rattle.disk_definitions.specs.Store.{Store, StoredNode, StoredEntry, is_unused}
use Rattle.disk_definitions.specs.Store.Use.{Fresh}
use Rattle.disk_definitions.specs.Naming.{Naming, Nodes, Pictures, kind_of, blocks_of, has_large, find_in, inode_of, inode_by, inode_for, use_by, use_for, entry_of, place_of, dir_place, first_blocks}
use Rattle.disk_definitions.specs.Held.{state_in}
use Rattle.disk_definitions.specs.Picks.{picked_inode, picked_large, picked_directory, picked_many}
use Rattle.disk_definitions.proofs.PickLaws.{an_inode, a_large_block}
use Rattle.disk_definitions.proofs.ManyLaws.{picks_the_least}
use Rattle.disk_definitions.proofs.Kept.{inode_is}
use Rattle.disk_definitions.specs.Plans.{Hand}
use Rattle.disk_definitions.specs.Meets.{IsOfTree, IsHandOf, is_directory_use}
use Rattle.disk_definitions.proofs.NodeLaws.{first_is}
use Rattle.plan_laws.proofs.Picks.{block_some}
use Rattle.plan_laws.proofs.Spots.{as_inode}
use Rattle.disk_definitions.specs.Covers.{inode_cover, small_cover, large_cover}

-- a file has the blocks that its size takes, and none of them is or was a directory's
pub record IsFileNode (s : Store) (x : StoredNode) : Type 0 where
  pub blocks : x.blocks ≡ small_blocks_of x.size
  pub large : 65536 < x.size → x.large ≢ 0
  pub uses : (m : ℕ) → m < x.blocks → is_directory_use (s.use_of (x.small m)) ≡ false

-- the node of inode i and its blocks are under its lock
pub record NodeStands (s : Store) (n : Naming) (i : ℕ) (x : StoredNode) : Type 0 where
  pub own : inode_cover i (n.birth i) ≡ lock.Node i
  pub small : (m : ℕ) → m < x.blocks → small_cover n (x.small m) (n.owner (x.small m)) ≡ lock.Node i
  pub large : x.large ≢ 0 → large_cover n (x.large - 1) (n.large_owner (x.large - 1)) ≡ lock.Node i
  pub file : x.kind ≡ 1 → IsFileNode s x

-- inode i has a node of this kind
pub record HasKind (s : Store) (i kind : ℕ) : Type 0 where
  pub node : StoredNode
  pub is : s.inode i ≡ Some node
  pub kind_is : node.kind ≡ kind

pub record DiskStands (h : Hand) (s : Store) (n : Naming) : Type 0 where
  pub nodes : (i : ℕ) (x : StoredNode) → s.inode i ≡ Some x → NodeStands s n i x
  pub leads : (i : ℕ) (x : StoredNode) (q : ℕ) (e : StoredEntry) → s.inode i ≡ Some x → x.kind ≡ 2 → q < 56 * x.blocks → place_of s.place x.small q ≡ Some e → HasKind s e.inode e.kind
  pub root : HasKind s 0 2
  pub inode : (j : ℕ) → picked_inode h.held ≡ Some j → n.birth j ≡ None
  pub block : (k : ℕ) → picked_directory h.held ≡ Some k → n.owner k ≡ None
  pub blocks : (m : ℕ) (picks : List ℕ) → picked_many h.held m ≡ Some picks → (k : ℕ) → Contains picks k → (n.owner k ≡ None) × (is_directory_use (s.use_of k) ≡ false)
  pub large : (g : ℕ) → picked_large h.held ≡ Some g → n.large_owner g ≡ None

module _ (s : Store) (at : Nodes) (n : Naming) (g : Pictures s at n) where
  -- a block in neither of the free uses has an owner, and others have none
  free_unowned : (k : ℕ) → is_unused (s.use_of k) ≡ true → n.owner k ≡ None
  free_unowned k e = go (n.owner k) refl
    where
      by_node : (b j : ℕ) (o : Option Node) → at b ≡ o → n.owner k ≡ Some (b, j) → is_unused (use_by o) ≡ true → j < blocks_of o → ⊥
      by_node b j None p q e l = omega arith
      by_node b j (Some (Dir entries blocks)) p q e l = absurd (cc)
      by_node b j (Some (File cells links when)) p q e l = absurd (cc)
      by_node b j (Some (Link target links)) p q e l = omega arith

      go : (o : Option (ℕ × ℕ)) → n.owner k ≡ o → n.owner k ≡ None
      go None p = p
      go (Some (b, j)) p = absurd (by_node b j (at b) refl p (subst (λ u. is_unused u ≡ true) (g.uses k ∙ ap (use_for (n.was k) at) p) e) (g.owners k b j p).1)

  module _ (b : ℕ) (node : Node) (is : at b ≡ Some node) where
    abbrev x : StoredNode
    x = inode_of (n.stamp b) (n.block b) (n.large b) node

    there : is_some (at b) ≡ true
    there = ap is_some is

    own_is : inode_cover (n.inode b) (n.birth (n.inode b)) ≡ lock.Node (n.inode b)
    own_is = ap (inode_cover (n.inode b)) (g.numbered b there)

    block_is : (m k : ℕ) → m < blocks_of (Some node) → k ≡ n.block b m → small_cover n k (n.owner k) ≡ lock.Node (n.inode b)
    block_is m k l e = let o : n.owner k ≡ Some (b, m) = ap n.owner e ∙ g.owned b m (rw is l) in ap (small_cover n k) o

    large_is : has_large (Some node) ≡ true → (k : ℕ) → k ≡ n.large b → large_cover n k (n.large_owner k) ≡ lock.Node (n.inode b)
    large_is l k e = let o : n.large_owner k ≡ Some b = ap n.large_owner e ∙ g.larges b (rw is l) in ap (large_cover n k) o

  file_uses : (b : ℕ) (node : Node) → at b ≡ Some node → kind_of node ≡ 1 → (m k : ℕ) → m < blocks_of (Some node) → k ≡ n.block b m → is_directory_use (s.use_of k) ≡ false
  file_uses b (Dir entries blocks) is one m k l e = absurd (omega arith)
  file_uses b (Link target links) is one m k l e = absurd (omega arith)
  file_uses b (File cells links when) is one m k l e =
      let o : n.owner k ≡ Some (b, m) = ap n.owner e ∙ g.owned b m (rw is l) in
      let u : s.use_of k ≡ use_by (at b) = g.uses k ∙ ap (use_for (n.was k) at) o in
      ap is_directory_use (u ∙ ap use_by is)

  node_stands : (b : ℕ) (node : Node) → at b ≡ Some node → NodeStands s n (n.inode b) (inode_of (n.stamp b) (n.block b) (n.large b) node)
  node_stands b (Dir entries blocks) is = record {
    own = own_is b (Dir entries blocks) is;
    small = λ m l. block_is b (Dir entries blocks) is m (first_blocks blocks (n.block b) m) l (first_is blocks (n.block b) m l);
    large = λ f. absurd (f refl);
    file = λ e. absurd (omega arith);
  }
  node_stands b (Link target links) is = record {
    own = own_is b (Link target links) is;
    small = λ m l. absurd (omega arith);
    large = λ f. absurd (f refl);
    file = λ e. absurd (omega arith);
  }
  node_stands b (File cells links when) is = record {
    own = own_is b (File cells links when) is;
    small = λ m l. block_is b (File cells links when) is m (first_blocks count (n.block b) m) l (first_is count (n.block b) m l);
    large = by_size (nat_lt 65536 (length cells)) refl;
    file = λ e. record {
      blocks = refl;
      large = λ l. longer (nat_lt 65536 (length cells)) (lt-ltb 65536 (length cells) l);
      uses = λ m l. file_uses b (File cells links when) is refl m (first_blocks count (n.block b) m) l (first_is count (n.block b) m l);
    };
  }
    where
      count : ℕ
      count = small_blocks_of (length cells)

      by_size : (c : Bool) → nat_lt 65536 (length cells) ≡ c → (if c then n.large b + 1 else 0) ≢ 0 → large_cover n ((if c then n.large b + 1 else 0) - 1) (n.large_owner ((if c then n.large b + 1 else 0) - 1)) ≡ lock.Node (n.inode b)
      by_size true e f = large_is b (File cells links when) is e (n.large b + 1 - 1) (omega arith)
      by_size false e f = absurd (f refl)

      longer : (c : Bool) → c ≡ true → (if c then n.large b + 1 else 0) ≢ 0
      longer true e z = omega arith
      longer false e z = absurd (cc)

  -- the node of an inode in use
  pub record IsNodeAt (i : ℕ) (x : StoredNode) : Type 0 where
    pub birth : ℕ
    pub node : Node
    pub is : at birth ≡ Some node
    pub number : n.inode birth ≡ i
    pub inode : x ≡ inode_of (n.stamp birth) (n.block birth) (n.large birth) node

  pub node_of : (i : ℕ) (x : StoredNode) → s.inode i ≡ Some x → IsNodeAt i x
  node_of i x e = go (n.birth i) refl
    where
      by_node : (b : ℕ) (o : Option Node) → at b ≡ o → n.birth i ≡ Some b → inode_by n b o ≡ Some x → IsNodeAt i x
      by_node b None p q r = absurd (cc)
      by_node b (Some node) p q r = record { birth = b; node = node; is = p; number = (g.whose i b q).0; inode = cc }

      go : (o : Option ℕ) → n.birth i ≡ o → IsNodeAt i x
      go None p = absurd (let z : None ≡ Some x = sym (ap (inode_for n at) p) ∙ sym (g.inodes i) ∙ e in cc)
      go (Some b) p = by_node b (at b) refl p (sym (ap (inode_for n at) p) ∙ sym (g.inodes i) ∙ e)

  pub stands : (i : ℕ) (x : StoredNode) → s.inode i ≡ Some x → NodeStands s n i x
  stands i x e = let r = node_of i x e in subst (λ j. NodeStands s n j x) r.number (subst (λ z. NodeStands s n (n.inode r.birth) z) (sym r.inode) (node_stands r.birth r.node r.is))

  pub kind_at : (b : ℕ) (node : Node) → at b ≡ Some node → HasKind s (n.inode b) (n.kind b)
  kind_at b node is = record { node = inode_of (n.stamp b) (n.block b) (n.large b) node; is = inode_is s at n g b node is; kind_is = same node ∙ sym (g.kinds b node is) }
    where
      same : (node : Node) → (inode_of (n.stamp b) (n.block b) (n.large b) node).kind ≡ kind_of node
      same (Dir entries blocks) = refl
      same (File cells links when) = refl
      same (Link target links) = refl

module _ (h : Hand) (s : Store) (tree : FileTree) (n : Naming) (of : IsOfTree s tree n) (hand : IsHandOf h s tree.segments) where
  abbrev g : Pictures s (node_at tree) n
  g = of.pictures

  named : (b : ℕ) (o : Option Node) → node_at tree b ≡ o → is_some o ≡ true → HasKind s (n.inode b) (n.kind b)
  named b None p e = absurd (cc)
  named b (Some node) p e = kind_at s (node_at tree) n g b node p

  entry_leads : (i : ℕ) (x : StoredNode) (q : ℕ) (e : StoredEntry) → s.inode i ≡ Some x → x.kind ≡ 2 → q < 56 * x.blocks → place_of s.place x.small q ≡ Some e → HasKind s e.inode e.kind
  entry_leads i x q e is two l p = let r = node_of s (node_at tree) n g i x is in by_node r.birth r.node r.is r.inode
    where
      by_birth : (d : ℕ) → dir_place s n d q ≡ Some e → n.spot d e.name ≡ q → (o : Option ℕ) → find_in (node_at tree d) e.name ≡ o → is_some o ≡ true → ((b : ℕ) → find_in (node_at tree d) e.name ≡ Some b → is_some (node_at tree b) ≡ true) → HasKind s e.inode e.kind
      by_birth d p spot None f some there = absurd (cc)
      by_birth d p spot (Some b) f some there =
          let v = (g.names d b e.name f).1 in
          let z : Some e ≡ Some (entry_of n e.name b) = sym p ∙ ap (dir_place s n d) (sym spot) ∙ v in
          let y : e ≡ entry_of n e.name b = cc in
          let a : e.inode ≡ n.inode b = ap (λ e. e.inode) y in
          let k : e.kind ≡ n.kind b = ap (λ e. e.kind) y in
          subst (λ i. HasKind s i e.kind) (sym a) (subst (HasKind s (n.inode b)) (sym k) (named b (node_at tree b) refl (there b f)))

      by_node : (d : ℕ) (node : Node) → node_at tree d ≡ Some node → x ≡ inode_of (n.stamp d) (n.block d) (n.large d) node → HasKind s e.inode e.kind
      by_node d (File cells links when) is y = absurd (let k : x.kind ≡ 1 = ap (λ x. x.kind) y in omega arith)
      by_node d (Link target links) is y = absurd (let k : x.kind ≡ 3 = ap (λ x. x.kind) y in omega arith)
      by_node d (Dir entries blocks) is y =
          let size : q < 56 * blocks = subst (λ k. q < 56 * k) (ap (λ x. x.blocks) y) l in
          let here : dir_place s n d q ≡ Some e = sym (as_inode s (node_at tree) n g d blocks q size) ∙ sym (ap (λ x. place_of s.place x.small q) y) ∙ p in
          let v = g.places d q e (rw is size) here in
          by_birth d here v.0 (find_in (node_at tree d) e.name) refl v.1 (λ b f. names_nodes tree of.well_formed d entries blocks e.name b is (sym (ap (λ z. find_in z e.name) is) ∙ f))

  pub disk_stands : DiskStands h s n
  disk_stands = record {
    nodes = stands s (node_at tree) n g;
    leads = entry_leads;
    root = root_stands (node_at tree 0) refl of.well_formed.rooted;
    inode = λ j e. let bit : s.bit j ≡ false = hand.bits j false (an_inode h.held j e).1 in none_of (n.birth j) (sym (g.bits j) ∙ bit);
    block = λ k e. free_unowned s (node_at tree) n g k (block_some h s tree n of hand k e).0;
    blocks = λ m picks e k c. let u : s.use_of k ≡ Fresh = picked m picks e k c in (free_unowned s (node_at tree) n g k (ap is_unused u), ap is_directory_use u);
    large = λ k e. let bit : s.large_bit k ≡ false = hand.larges k false (a_large_block h.held k e).1 in none_of (n.large_owner k) (sym (g.large_bits k) ∙ bit);
  }
    where
      root_stands : (o : Option Node) → node_at tree 0 ≡ o → is_dir o ≡ true → HasKind s 0 2
      root_stands None p e = absurd (cc)
      root_stands (Some (File cells links when)) p e = absurd (cc)
      root_stands (Some (Link target links)) p e = absurd (cc)
      root_stands (Some (Dir entries blocks)) p e = subst (λ i. HasKind s i 2) of.root (subst (HasKind s (n.inode 0)) (g.kinds 0 (Dir entries blocks) p) (kind_at s (node_at tree) n g 0 (Dir entries blocks) p))

      picked : (m : ℕ) (picks : List ℕ) → picked_many h.held m ≡ Some picks → (k : ℕ) → Contains picks k → s.use_of k ≡ Fresh
      picked m picks e k c =
          let r = picks_the_least h.held m picks e in
          let a : state_in h.held (slice_index_or picks c.0 k) ≡ Some 0 = (r.2 c.0 k c.1).1 in
          hand.states k 0 (subst (λ z. state_in h.held z ≡ Some 0) c.2 a)

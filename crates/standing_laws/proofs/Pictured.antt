-- A consistent store is the picture of the tree that is read off it, with each node's birth its inode.
use Rattle.std.proofs.Common.{◌==◌, ◌≡◌, ℕ, zero, suc, ◌+◌, ◌-◌, ◌*◌, ◌/◌, ◌%◌, ◌<◌, ◌≤◌, ⊎_elim, Bool, true, false, Option, Some, None, List, [], ◌∷◌, ◌++◌, is_some, length, length-append, get_or, cond, refl, sym, ◌∙◌, ap, subst, arith, nat_lt, eqb-true, unwrap_or}
use Rattle.std.specs.Option.{option_map}
use Rattle.std.specs.List.{slice_get}
use Rattle.std.specs.BTreeMap.{is_at}
use Rattle.std.specs.Ordering.{nat_cmp}
use Rattle.std.specs.Cmp.Lexicographic.{slice_cmp}
use Rattle.std.proofs.Math.Seq.{get_or-append_seam}
use Rattle.std.proofs.lemmas.List.{get_or_append_left}
use Rattle.std.proofs.lemmas.Option.{slice_get_within, get_or_from_slice_get}
use Rattle.std.proofs.lemmas.Bool.{and_parts, cases_lt, cond-true, cond-false, both_ways}
use Rattle.tree_definitions.specs.declared.cells.Cell.{Cell}
use Rattle.tree_definitions.specs.declared.cells.Cell.TheVariants as cell
use Rattle.tree_definitions.specs.declared.node.Node.{Node}
use Rattle.tree_definitions.specs.declared.node.Node.TheVariants.{Dir, File, Link}
use Rattle.tree_definitions.specs.Tree.{FileTree, node_at, small_blocks_of}
use Rattle.disk_definitions.specs.Store.{Store, StoredNode, StoredEntry, Use}
use Rattle.disk_definitions.specs.Store.Use.{Fresh, Bytes, Empty, Entries as OfEntries}
use Rattle.disk_definitions.specs.Naming.{Naming, Nodes, kind_of, first_blocks, inode_of, inode_by, inode_for}
use Rattle.standing_laws.specs.Below.{find_below, holds}
use Rattle.standing_laws.specs.ReadTree.{place_at, byte_at, cells_to, entries_to, read_node, tree_in}
use Rattle.standing_laws.specs.Soundness.{agree, bit_agrees, block_at, large_at, directory_agrees, entries_agree, node_agrees, IsConsistent}
use Rattle.standing_laws.proofs.Bounded.{last_or_before, all_at}
use Rattle.standing_laws.proofs.NodesRead.{node_read}
use Rattle.standing_laws.proofs.Shapes.{Shape, OfFile, OfDir, OfLink, IsFileShape, IsDirShape, IsLinkShape}

-- ---- the node of an inode, by its shape
by_file : (k : ℕ) (a b c : Node) → k ≡ 1 → cond (k == 2) a (cond (k == 1) b c) ≡ b
by_file k a b c e = subst (λ k. cond (k == 2) a (cond (k == 1) b c) ≡ b) (sym e) refl

by_dir : (k : ℕ) (a b c : Node) → k ≡ 2 → cond (k == 2) a (cond (k == 1) b c) ≡ a
by_dir k a b c e = subst (λ k. cond (k == 2) a (cond (k == 1) b c) ≡ a) (sym e) refl

by_link : (k : ℕ) (a b c : Node) → k ≡ 3 → cond (k == 2) a (cond (k == 1) b c) ≡ c
by_link k a b c e = subst (λ k. cond (k == 2) a (cond (k == 1) b c) ≡ c) (sym e) refl

abbrev pub cells_of : Store → StoredNode → List Cell
cells_of s x = cells_to (byte_at s x) x.size

pub read_file : (s : Store) (x : StoredNode) → x.kind ≡ 1 → read_node s x ≡ File (cells_of s x) x.links x.when
read_file s x e = by_file x.kind (Dir (entries_to (place_at s x) (56 * x.blocks)) x.blocks) (File (cells_of s x) x.links x.when) (Link x.target x.links) e

pub read_dir : (s : Store) (x : StoredNode) → x.kind ≡ 2 → read_node s x ≡ Dir (entries_to (place_at s x) (56 * x.blocks)) x.blocks
read_dir s x e = by_dir x.kind (Dir (entries_to (place_at s x) (56 * x.blocks)) x.blocks) (File (cells_of s x) x.links x.when) (Link x.target x.links) e

pub read_link : (s : Store) (x : StoredNode) → x.kind ≡ 3 → read_node s x ≡ Link x.target x.links
read_link s x e = by_link x.kind (Dir (entries_to (place_at s x) (56 * x.blocks)) x.blocks) (File (cells_of s x) x.links x.when) (Link x.target x.links) e

-- as many cells as bytes, each of them its byte
pub length_cells : (f : ℕ → ℕ) (n : ℕ) → length (cells_to f n) ≡ n
length_cells f zero = refl
length_cells f (suc n) = let l : length (cells_to f n) ≡ n = length_cells f n in let a : length (cells_to f n ++ cell.Byte (f n) ∷ []) ≡ length (cells_to f n) + 1 = length-append (cells_to f n) (cell.Byte (f n) ∷ []) in omega arith

pub byte_in : (f : ℕ → ℕ) (n j : ℕ) (d : Cell) → j < n → get_or (cells_to f n) j d ≡ cell.Byte (f j)
byte_in f zero j d l = absurd (omega arith)
byte_in f (suc n) j d l = ⊎_elim
    (λ e. subst (λ k. get_or (cells_to f (suc n)) k d ≡ cell.Byte (f k)) (sym e) (subst (λ k. get_or (cells_to f n ++ cell.Byte (f n) ∷ []) k d ≡ cell.Byte (f n)) (length_cells f n) (get_or-append_seam (cells_to f n) (cell.Byte (f n)) [] d)))
    (λ h. get_or_append_left (cells_to f n) (cell.Byte (f n) ∷ []) d j (subst (λ m. j < m) (sym (length_cells f n)) h) ∙ byte_in f n j d h) (last_or_before j n l)

pub cell_at : (f : ℕ → ℕ) (n j : ℕ) (c : Cell) → slice_get (cells_to f n) j ≡ Some c → c ≡ cell.Byte (f j)
cell_at f n j c e = sym (get_or_from_slice_get (cells_to f n) j c c e) ∙ byte_in f n j c (subst (λ m. j < m) (length_cells f n) (slice_get_within (cells_to f n) j c e))

-- ---- the naming
abbrev pub nothing : StoredNode
nothing = record { kind = 0; links = 0; size = 0; birth = 0; blocks = 0; small = λ j. 0; large = 0; when = 0; target = [] }

-- the node of an inode, or nothing
abbrev pub at_inode : Store → ℕ → StoredNode
at_inode s i = unwrap_or (s.inode i) nothing

-- it has this name
abbrev pub is_named : Option StoredEntry → List ℕ → Bool
is_named None name = false
is_named (Some e) name = is_at (slice_cmp nat_cmp e.name) name

abbrev pub is_emptied : Use → Bool
is_emptied Fresh = false
is_emptied Bytes = false
is_emptied Empty = true
is_emptied OfEntries = false

abbrev pub slot_pair : ℕ → ℕ × ℕ
slot_pair t = (t / 16, t % 16)

abbrev pub naming_of : ℕ → Store → Naming
naming_of segments s = record {
  inode = λ b. b;
  birth = λ i. option_map (λ x. i) (s.inode i);
  kind = λ b. (at_inode s b).kind;
  stamp = λ b. (at_inode s b).birth;
  block = λ b. (at_inode s b).small;
  owner = λ k. option_map slot_pair (find_below (1024 * segments) (λ t. holds (block_at s t) k));
  was = λ k. is_emptied (s.use_of k);
  large = λ b. (at_inode s b).large - 1;
  large_owner = λ g. find_below (64 * segments) (λ i. holds (large_at s i) g);
  spot = λ d name. unwrap_or (find_below (56 * (at_inode s d).blocks) (λ q. is_named (place_at s (at_inode s d) q) name)) 0;
}

-- what lies past the segments says nothing
pub record IsInRange (segments : ℕ) (s : Store) : Type 0 where
  pub inodes : (i : ℕ) → 64 * segments ≤ i → s.inode i ≡ None
  pub bits : (i : ℕ) → 64 * segments ≤ i → s.bit i ≡ false
  pub uses : (k : ℕ) → 1024 * segments ≤ k → s.use_of k ≡ Fresh
  pub larges : (g : ℕ) → segments ≤ g → s.large_bit g ≡ false

module _ (segments : ℕ) (s : Store) (range : IsInRange segments s) (shapes : (i : ℕ) (x : StoredNode) → s.inode i ≡ Some x → Shape x) (c : IsConsistent segments s) where
  abbrev pub tree : FileTree
  tree = tree_in segments s

  abbrev pub at : Nodes
  at = node_at tree

  abbrev pub n : Naming
  n = naming_of segments s

  pub at_is : (b : ℕ) → at b ≡ option_map (read_node s) (s.inode b)
  at_is b = node_read s segments range.inodes b

  pub at_some : (b : ℕ) (x : StoredNode) → s.inode b ≡ Some x → at b ≡ Some (read_node s x)
  at_some b x e = at_is b ∙ ap (option_map (read_node s)) e

  pub at_none : (b : ℕ) → s.inode b ≡ None → at b ≡ None
  at_none b e = at_is b ∙ ap (option_map (read_node s)) e

  pub node : (b : ℕ) (x : StoredNode) → s.inode b ≡ Some x → at_inode s b ≡ x
  node b x e = ap (λ o. unwrap_or o nothing) e

  pub below : (b : ℕ) (x : StoredNode) → s.inode b ≡ Some x → b < 64 * segments
  below b x e = ⊎_elim (λ l. l) (λ l. absurd (let z : None ≡ Some x = sym (range.inodes b l) ∙ e in cc)) (cases_lt b (64 * segments))

  pub agreed : (b : ℕ) (x : StoredNode) → s.inode b ≡ Some x → node_agrees s (Some x) ≡ true
  agreed b x e = sym (ap (node_agrees s) e) ∙ all_at (64 * segments) (λ i. node_agrees s (s.inode i)) c.nodes b (below b x e)

  -- the births of nodes are inodes in use
  pub known : (b : ℕ) → is_some (at b) ≡ true → (x : StoredNode) × (s.inode b ≡ Some x)
  known b h = go (s.inode b) refl
    where
      go : (o : Option StoredNode) → s.inode b ≡ o → (x : StoredNode) × (s.inode b ≡ Some x)
      go (Some x) e = (x, e)
      go None e = absurd (let z : is_some (at b) ≡ false = ap is_some (at_none b e) in both_ways (is_some (at b)) z h)

  -- ---- a node makes its inode again
  pub dir_size : (x : StoredNode) → x.kind ≡ 2 → node_agrees s (Some x) ≡ true → (entries_agree s (place_at s x) (56 * x.blocks) ≡ true) × (length (entries_to (place_at s x) (56 * x.blocks)) ≡ x.size)
  dir_size x k h =
      let a : directory_agrees s x ≡ true = sym (cond-true (x.kind == 2) (directory_agrees s x) (cond (x.kind == 3) (length x.target == x.size) true) (ap (λ k. k == 2) k)) ∙ h in
      let p = and_parts (entries_agree s (place_at s x) (56 * x.blocks)) (length (entries_to (place_at s x) (56 * x.blocks)) == x.size) a in
      (p.0, eqb-true (length (entries_to (place_at s x) (56 * x.blocks))) x.size p.1)

  pub link_size : (x : StoredNode) → x.kind ≡ 3 → node_agrees s (Some x) ≡ true → length x.target ≡ x.size
  link_size x k h =
      let a : (length x.target == x.size) ≡ true = sym (cond-true (x.kind == 3) (length x.target == x.size) true (ap (λ k. k == 3) k)) ∙ sym (cond-false (x.kind == 2) (directory_agrees s x) (cond (x.kind == 3) (length x.target == x.size) true) (ap (λ k. k == 2) k)) ∙ h in
      eqb-true (length x.target) x.size a

  file_again : (x : StoredNode) → IsFileShape x → inode_of x.birth x.small (x.large - 1) (File (cells_of s x) x.links x.when) ≡ x
  file_again x f =
      let l : length (cells_of s x) ≡ x.size = length_cells (byte_at s x) x.size in
      let b : small_blocks_of (length (cells_of s x)) ≡ x.blocks = ap small_blocks_of l ∙ sym f.blocks in
      let m : first_blocks (small_blocks_of (length (cells_of s x))) x.small ≡ x.small = ap (λ n. first_blocks n x.small) b ∙ sym f.small in
      let g : cond (nat_lt 65536 (length (cells_of s x))) (x.large - 1 + 1) 0 ≡ x.large = ap (λ n. cond (nat_lt 65536 n) (x.large - 1 + 1) 0) l ∙ sym f.large in
      λ i. record { kind = sym f.kind i; links = x.links; size = l i; birth = x.birth; blocks = b i; small = m i; large = g i; when = x.when; target = sym f.target i }

  dir_again : (x : StoredNode) → IsDirShape x → length (entries_to (place_at s x) (56 * x.blocks)) ≡ x.size → inode_of x.birth x.small (x.large - 1) (Dir (entries_to (place_at s x) (56 * x.blocks)) x.blocks) ≡ x
  dir_again x f l = λ i. record { kind = sym f.kind i; links = sym f.links i; size = l i; birth = x.birth; blocks = x.blocks; small = sym f.small i; large = sym f.large i; when = sym f.when i; target = sym f.target i }

  link_again : (x : StoredNode) → IsLinkShape x → length x.target ≡ x.size → inode_of x.birth x.small (x.large - 1) (Link x.target x.links) ≡ x
  link_again x f l = λ i. record { kind = sym f.kind i; links = x.links; size = l i; birth = x.birth; blocks = sym f.blocks i; small = sym f.small i; large = sym f.large i; when = sym f.when i; target = x.target }

  again : (x : StoredNode) → Shape x → node_agrees s (Some x) ≡ true → inode_of x.birth x.small (x.large - 1) (read_node s x) ≡ x
  again x (OfFile f) h = ap (inode_of x.birth x.small (x.large - 1)) (read_file s x f.kind) ∙ file_again x f
  again x (OfDir f) h = ap (inode_of x.birth x.small (x.large - 1)) (read_dir s x f.kind) ∙ dir_again x f (dir_size x f.kind h).1
  again x (OfLink f) h = ap (inode_of x.birth x.small (x.large - 1)) (read_link s x f.kind) ∙ link_again x f (link_size x f.kind h)

  pub inodes_are : (i : ℕ) → s.inode i ≡ inode_for n at (n.birth i)
  inodes_are i = go (s.inode i) refl
    where
      go : (o : Option StoredNode) → s.inode i ≡ o → s.inode i ≡ inode_for n at (option_map (λ x. i) (s.inode i))
      go None e = e ∙ sym (ap (λ o. inode_for n at (option_map (λ x. i) o)) e)
      go (Some x) e =
          let a : inode_by n i (at i) ≡ inode_by n i (Some (read_node s x)) = ap (inode_by n i) (at_some i x e) in
          let b : inode_of (n.stamp i) (n.block i) (n.large i) (read_node s x) ≡ inode_of x.birth x.small (x.large - 1) (read_node s x) = ap (λ y. inode_of y.birth y.small (y.large - 1) (read_node s x)) (node i x e) in
          e ∙ sym (ap (λ o. inode_for n at (option_map (λ x. i) o)) e ∙ a ∙ ap (λ y. Some y) (b ∙ again x (shapes i x e) (agreed i x e)))

  pub bits_are : (i : ℕ) → s.bit i ≡ is_some (n.birth i)
  bits_are i = ⊎_elim
      (λ l. same (s.bit i) (s.inode i) (all_at (64 * segments) (bit_agrees s) c.bits i l))
      (λ l. range.bits i l ∙ sym (ap (λ o. is_some (option_map (λ x. i) o)) (range.inodes i l))) (cases_lt i (64 * segments))
    where
      same : (b : Bool) (o : Option StoredNode) → agree b (is_some o) ≡ true → b ≡ is_some (option_map (λ x. i) o)
      same true None h = sym h
      same true (Some x) h = refl
      same false None h = refl
      same false (Some x) h = h

  pub numbered_are : (b : ℕ) → is_some (at b) ≡ true → n.birth (n.inode b) ≡ Some b
  numbered_are b h = let k = known b h in ap (option_map (λ x. b)) k.1

  pub whose_are : (i b : ℕ) → n.birth i ≡ Some b → (n.inode b ≡ i) × (is_some (at b) ≡ true)
  whose_are i b h = go (s.inode i) refl
    where
      go : (o : Option StoredNode) → s.inode i ≡ o → (b ≡ i) × (is_some (at b) ≡ true)
      go None e = absurd (let z : None ≡ Some b = sym (ap (option_map (λ x. i)) e) ∙ h in cc)
      go (Some x) e =
          let z : Some i ≡ Some b = sym (ap (option_map (λ x. i)) e) ∙ h in
          let q : i ≡ b = cc in
          (sym q, ap is_some (subst (λ j. at j ≡ Some (read_node s x)) q (at_some i x e)))

  kind_is : (x : StoredNode) → Shape x → kind_of (read_node s x) ≡ x.kind
  kind_is x (OfFile f) = ap kind_of (read_file s x f.kind) ∙ sym f.kind
  kind_is x (OfDir f) = ap kind_of (read_dir s x f.kind) ∙ sym f.kind
  kind_is x (OfLink f) = ap kind_of (read_link s x f.kind) ∙ sym f.kind

  pub kinds_are : (b : ℕ) (y : Node) → at b ≡ Some y → n.kind b ≡ kind_of y
  kinds_are b y h =
      let k = known b (ap is_some h) in
      let z : Some (read_node s k.0) ≡ Some y = sym (at_some b k.0 k.1) ∙ h in
      let q : read_node s k.0 ≡ y = cc in
      ap (λ v. v.kind) (node b k.0 k.1) ∙ sym (kind_is k.0 (shapes b k.0 k.1)) ∙ ap kind_of q

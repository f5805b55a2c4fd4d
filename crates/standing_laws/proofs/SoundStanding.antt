-- A sound disk stands for the tree that is read off it.
use Rattle.std.proofs.Common.{◌≡◌, ◌≢◌, ℕ, ◌+◌, ◌*◌, ◌/◌, ◌%◌, ◌<◌, ◌≤◌, ⊎_elim, true, Option, Some, None, List, is_some, refl, sym, ◌∙◌, ap, subst, arith, nat_lt, eqb-true, le-ltb}
use Rattle.std.specs.Map.{keys_of}
use Rattle.std.specs.Ordering.{nat_cmp}
use Rattle.std.specs.Cmp.Lexicographic.{slice_cmp}
use Rattle.std.specs.List.Sorted.{IsStrictlySortedBy}
use Rattle.std.proofs.lemmas.Bool.{and_left, cases_lt, cond-false, both_ways}
use Rattle.tree_definitions.specs.declared.node.Node.{Node}
use Rattle.tree_definitions.specs.declared.node.Node.TheVariants.{Dir, File, Link}
use Rattle.tree_definitions.specs.Entries.{Entries, entry_at}
use Rattle.tree_definitions.specs.Tree.{FileTree, node_at}
use Rattle.tree_definitions.specs.Apply.{is_dir, links_of}
use Rattle.tree_definitions.specs.WellFormed.{NamesAscend, IsRooted, LinksAreNames, IsWellFormed, one_at, names_in, names_of}
use Rattle.tree_definitions.proofs.Pairs.{name_exact, birth_exact}
use Rattle.tree_laws.proofs.Balance.{one_other}
use Rattle.disk_definitions.proofs.ParamLaws.{few_segments}
use Rattle.sector_bytes.specs.Sectors.{Sectors}
use Rattle.disk_definitions.specs.Store.{Store, StoredNode, store_of, segment_at, bit_in, large_in}
use Rattle.disk_definitions.specs.Store.Use.{Fresh}
use Rattle.disk_definitions.specs.Naming.{Nodes}
use Rattle.disk_definitions.specs.Standing.{StandsFor}
use Rattle.standing_laws.specs.ReadTree.{place_at, entries_to, tree_in, read_tree}
use Rattle.standing_laws.specs.Soundness.{has_kind, links_agree, IsConsistent}
use Rattle.standing_laws.specs.Laws.{SoundStands}
use Rattle.standing_laws.proofs.Bounded.{all_at}
use Rattle.standing_laws.proofs.Entered.{found_at, new_name, sorted_to}
use Rattle.standing_laws.proofs.Sums.{zero_sum}
use Rattle.standing_laws.proofs.NodesRead.{births_read}
use Rattle.standing_laws.proofs.Shapes.{Shape, OfFile, OfDir, OfLink, disk_shape}
use Rattle.standing_laws.proofs.Pictured.{IsInRange, cells_of, naming_of, read_file, read_dir, read_link, at_some, at_none, known, below, agreed, dir_size}
use Rattle.standing_laws.proofs.PicturedNames.{pictures}

-- what lies past the segments of a disk says nothing
pub disk_range : (segments : ℕ) (sectors : Sectors) → IsInRange segments (store_of segments sectors)
disk_range segments sectors = record {
  inodes = λ i h. cond-false (nat_lt i (64 * segments)) _ None (le-ltb i (64 * segments) h);
  bits = λ i h. and_left (nat_lt i (64 * segments)) (bit_in (segment_at sectors (i / 64)) (i % 64)) (le-ltb i (64 * segments) h);
  uses = λ k h. cond-false (nat_lt k (1024 * segments)) _ Fresh (le-ltb k (1024 * segments) h);
  larges = λ g h. and_left (nat_lt g segments) (large_in (segment_at sectors g)) (le-ltb g segments h);
}

module _ (segments : ℕ) (s : Store) (range : IsInRange segments s) (shapes : (i : ℕ) (x : StoredNode) → s.inode i ≡ Some x → Shape x) (c : IsConsistent segments s) where
  abbrev tree : FileTree
  tree = tree_in segments s

  abbrev nodes : Nodes
  nodes = node_at tree

  -- a directory of the tree with its inode
  pub is_directory : (d : ℕ) (es : Entries) (k : ℕ) → nodes d ≡ Some (Dir es k) → (x : StoredNode) × (s.inode d ≡ Some x) × (x.kind ≡ 2) × (es ≡ entries_to (place_at s x) (56 * x.blocks)) × (k ≡ x.blocks)
  is_directory d es k h =
      let t = known segments s range shapes c d (ap is_some h) in
      shaped t.0 t.1 (shapes d t.0 t.1)
    where
      shaped : (x : StoredNode) → s.inode d ≡ Some x → Shape x → (x : StoredNode) × (s.inode d ≡ Some x) × (x.kind ≡ 2) × (es ≡ entries_to (place_at s x) (56 * x.blocks)) × (k ≡ x.blocks)
      shaped x e (OfFile f) = absurd (let z : Some (File (cells_of s x) x.links x.when) ≡ Some (Dir es k) = sym (at_some segments s range shapes c d x e ∙ ap (λ y. Some y) (read_file s x f.kind)) ∙ h in cc)
      shaped x e (OfDir f) =
          let z : Some (Dir (entries_to (place_at s x) (56 * x.blocks)) x.blocks) ≡ Some (Dir es k) = sym (at_some segments s range shapes c d x e ∙ ap (λ y. Some y) (read_dir s x f.kind)) ∙ h in
          let p : entries_to (place_at s x) (56 * x.blocks) ≡ es = cc in
          let q : x.blocks ≡ k = cc in
          (x, e, f.kind, sym p, sym q)
      shaped x e (OfLink f) = absurd (let z : Some (Link x.target x.links) ≡ Some (Dir es k) = sym (at_some segments s range shapes c d x e ∙ ap (λ y. Some y) (read_link s x f.kind)) ∙ h in cc)

  names_ascend : NamesAscend tree
  names_ascend d es k h =
      let t = is_directory d es k h in
      subst (λ es. IsStrictlySortedBy (slice_cmp nat_cmp) (keys_of es)) (sym t.3) (sorted_to (place_at s t.0) (56 * t.0.blocks))

  -- an entry names an inode in use
  pub names_used : (d : ℕ) (es : Entries) (k : ℕ) (name : List ℕ) (b : ℕ) → nodes d ≡ Some (Dir es k) → entry_at es name ≡ Some b → (kind : ℕ) × (has_kind (s.inode b) kind ≡ true)
  names_used d es k name b h e =
      let t = is_directory d es k h in
      let x = t.0 in
      let f = found_at (place_at s x) (56 * x.blocks) name b (ap (λ es. entry_at es name) (sym t.3) ∙ e) in
      let a = (dir_size segments s range shapes c x t.2 (agreed segments s range shapes c d x t.1)).0 in
      let n = (new_name s (place_at s x) (56 * x.blocks) a f.spot f.entry f.within f.is).1 in
      (f.entry.kind, subst (λ i. has_kind (s.inode i) f.entry.kind ≡ true) f.inode n)

  unnamed : (b : ℕ) → s.inode b ≡ None → names_of tree b ≡ 0
  unnamed b e = zero_sum nat_cmp birth_exact (names_in b) tree.nodes (births_read s segments) weighs
    where
      never : (c : ℕ) (kind : ℕ) → has_kind (s.inode c) kind ≡ true → c ≢ b
      never c kind h q = both_ways (has_kind (s.inode c) kind) (ap (λ o. has_kind o kind) (ap s.inode q ∙ e)) h

      weighs : (d : ℕ) (x : Node) → nodes d ≡ Some x → names_in b x ≡ 0
      weighs d (File cells links when) h = refl
      weighs d (Link target links) h = refl
      weighs d (Dir es k) h = zero_sum (slice_cmp nat_cmp) name_exact (one_at b) es (names_ascend d es k h) (λ name v i. (let u = names_used d es k name v h i in one_other b v (never v u.0 u.1)))

  links_are : LinksAreNames tree
  links_are b = ⊎_elim (λ l. eqb-true (names_of tree b + one_at 0 b) (links_of (nodes b)) (all_at (64 * segments) (links_agree tree) c.links b l)) past (cases_lt b (64 * segments))
    where
      rooted : (x : StoredNode) × (s.inode 0 ≡ Some x)
      rooted = go (s.inode 0) refl
        where
          go : (o : Option StoredNode) → s.inode 0 ≡ o → (x : StoredNode) × (s.inode 0 ≡ Some x)
          go (Some x) e = (x, e)
          go None e = absurd (both_ways (has_kind (s.inode 0) 2) (ap (λ o. has_kind o 2) e) c.rooted)

      past : 64 * segments ≤ b → names_of tree b + one_at 0 b ≡ links_of (nodes b)
      past l =
          let r = rooted in
          let z : 0 < 64 * segments = below segments s range shapes c 0 r.0 r.1 in
          let n : names_of tree b ≡ 0 = unnamed b (range.inodes b l) in
          let o : one_at 0 b ≡ 0 = one_other 0 b (λ e. omega arith) in
          let k : links_of (nodes b) ≡ 0 = ap links_of (at_none segments s range shapes c b (range.inodes b l)) in
          omega arith

  is_rooted : IsRooted tree
  is_rooted = go (s.inode 0) refl
    where
      shaped : (x : StoredNode) → s.inode 0 ≡ Some x → x.kind ≡ 2 → is_dir (nodes 0) ≡ true
      shaped x e k = ap is_dir (at_some segments s range shapes c 0 x e ∙ ap (λ y. Some y) (read_dir s x k))

      go : (o : Option StoredNode) → s.inode 0 ≡ o → is_dir (nodes 0) ≡ true
      go None e = absurd (both_ways (has_kind (s.inode 0) 2) (ap (λ o. has_kind o 2) e) c.rooted)
      go (Some x) e = shaped x e (eqb-true x.kind 2 (sym (ap (λ o. has_kind o 2) e) ∙ c.rooted))

  pub is_well : IsWellFormed tree
  is_well = record { births = births_read s segments; names = names_ascend; rooted = is_rooted; links = links_are }

pub sound_stands : SoundStands
sound_stands param sectors is sound =
    let s = store_of param.segments sectors in
    let range = disk_range param.segments sectors in
    let shapes = disk_shape param.segments sectors in
    let stands : StandsFor sectors (read_tree param.segments sectors) = record {
      param = param;
      parameters = is;
      segments = refl;
      grammar = sound.grammar;
      versions = sound.versions;
      well_formed = is_well param.segments s range shapes sound.consistent;
      reached = sound.consistent.reached;
      naming = naming_of param.segments s;
      picture = pictures param.segments s range shapes sound.consistent;
      root = refl;
      births = λ b h l. absurd (
          let k = known param.segments s range shapes sound.consistent b h in
          let w : b < 64 * param.segments = below param.segments s range shapes sound.consistent b k.0 k.1 in
          let f : param.segments ≤ 64 = few_segments (sectors 0) param is in
          let l2 : 4294967296 ≤ b = l in
          omega arith);
    } in
    (stands, λ b h. refl)

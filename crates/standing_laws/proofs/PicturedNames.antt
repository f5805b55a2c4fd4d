-- The names and bytes of a consistent store are those of the tree that is read off it: it is the tree's picture.
use Rattle.std.proofs.Common.{◌≡◌, ℕ, ◌*◌, ◌<◌, true, Option, Some, None, List, is_some, refl, sym, ◌∙◌, ap, subst, arith, eqb-true, unwrap_or}
use Rattle.std.specs.BTreeMap.{is_at}
use Rattle.std.specs.Ordering.{nat_cmp}
use Rattle.std.specs.Cmp.Lexicographic.{slice_cmp}
use Rattle.tree_definitions.specs.declared.cells.Cell.{Cell}
use Rattle.tree_definitions.specs.declared.cells.Cell.TheVariants as cell
use Rattle.tree_definitions.specs.declared.node.Node.{Node}
use Rattle.tree_definitions.specs.declared.node.Node.TheVariants.{Dir, File, Link}
use Rattle.disk_definitions.specs.Store.{Store, StoredNode, StoredEntry}
use Rattle.disk_definitions.specs.Naming.{Naming, Nodes, Pictures, room_in, find_in, cell_in, entry_of, dir_place, file_byte, Allows}
use Rattle.standing_laws.specs.Below.{find_below}
use Rattle.standing_laws.specs.ReadTree.{place_at, byte_at, entries_to, read_node}
use Rattle.standing_laws.specs.Soundness.{has_kind, entries_agree, IsConsistent}
use Rattle.standing_laws.proofs.Bounded.{find_only}
use Rattle.standing_laws.proofs.Entered.{StandsAt, found_at, at_found, new_name, one_spot}
use Rattle.standing_laws.proofs.Shapes.{Shape, OfFile, OfDir, OfLink}
use Rattle.tree_definitions.proofs.Pairs.{tie, self, name_exact}
use Rattle.standing_laws.proofs.Pictured.{IsInRange, nothing, at_inode, naming_of, is_named, cells_of, cell_at, read_file, read_dir, read_link, at, at_some, at_none, node, agreed, dir_size, inodes_are, bits_are, numbered_are, whose_are, kinds_are}
use Rattle.standing_laws.proofs.PicturedBlocks.{owned_are, owners_are, uses_are, emptied_are, larges_are, large_owners_are, large_bits_are}

named_at : (o : Option StoredEntry) (name : List ℕ) → is_named o name ≡ true → (e : StoredEntry) × (o ≡ Some e) × (e.name ≡ name)
named_at None name h = absurd (cc)
named_at (Some e) name h = (e, refl, tie (slice_cmp nat_cmp) name_exact e.name name h)

named_from : (o : Option StoredEntry) (e : StoredEntry) (name : List ℕ) → o ≡ Some e → e.name ≡ name → is_named o name ≡ true
named_from o e name i h = ap (λ o. is_named o name) i ∙ ap (is_at (slice_cmp nat_cmp e.name)) (sym h) ∙ self (slice_cmp nat_cmp) name_exact e.name

kind_at : (o : Option StoredNode) (k : ℕ) → has_kind o k ≡ true → (unwrap_or o nothing).kind ≡ k
kind_at None k h = absurd (cc)
kind_at (Some x) k h = eqb-true x.kind k h

same_entry : (e : StoredEntry) (name : List ℕ) (i k : ℕ) → e.name ≡ name → e.inode ≡ i → e.kind ≡ k → e ≡ record { name = name; inode = i; kind = k }
same_entry e name i k a b c = λ j. record { name = a j; inode = b j; kind = c j }

module _ (segments : ℕ) (s : Store) (range : IsInRange segments s) (shapes : (i : ℕ) (x : StoredNode) → s.inode i ≡ Some x → Shape x) (c : IsConsistent segments s) where
  abbrev nodes : Nodes
  nodes = at segments s range shapes c

  abbrev m : Naming
  m = naming_of segments s

  abbrev its_node : (b : ℕ) (x : StoredNode) → s.inode b ≡ Some x → nodes b ≡ Some (read_node s x)
  its_node b x e = at_some segments s range shapes c b x e

  -- a directory with its inode
  abbrev IsDirectory : ℕ → StoredNode → Type 0
  IsDirectory d x = (s.inode d ≡ Some x) × (x.kind ≡ 2) × (nodes d ≡ Some (Dir (entries_to (place_at s x) (56 * x.blocks)) x.blocks))

  -- what finds no name and has no room is no directory
  directory : (d : ℕ) → (room_in (nodes d) ≡ 0 → ((name : List ℕ) → find_in (nodes d) name ≡ None) → ⊥) → (x : StoredNode) × IsDirectory d x
  directory d never = go (s.inode d) refl
    where
      shaped : (x : StoredNode) → s.inode d ≡ Some x → Shape x → (x : StoredNode) × IsDirectory d x
      shaped x e (OfFile f) = absurd (let z : nodes d ≡ Some (File (cells_of s x) x.links x.when) = its_node d x e ∙ ap (λ y. Some y) (read_file s x f.kind) in never (ap room_in z) (λ name. ap (λ o. find_in o name) z))
      shaped x e (OfDir f) = (x, (e, f.kind, its_node d x e ∙ ap (λ y. Some y) (read_dir s x f.kind)))
      shaped x e (OfLink f) = absurd (let z : nodes d ≡ Some (Link x.target x.links) = its_node d x e ∙ ap (λ y. Some y) (read_link s x f.kind) in never (ap room_in z) (λ name. ap (λ o. find_in o name) z))

      go : (o : Option StoredNode) → s.inode d ≡ o → (x : StoredNode) × IsDirectory d x
      go None e = absurd (let z : nodes d ≡ None = at_none segments s range shapes c d e in never (ap room_in z) (λ name. ap (λ o. find_in o name) z))
      go (Some x) e = shaped x e (shapes d x e)

  agrees : (d : ℕ) (x : StoredNode) → IsDirectory d x → entries_agree s (place_at s x) (56 * x.blocks) ≡ true
  agrees d x i = (dir_size segments s range shapes c x i.1 (agreed segments s range shapes c d x i.0)).0

  -- a name of a directory is looked for at its place
  spot_is : (d : ℕ) (x : StoredNode) → IsDirectory d x → (q : ℕ) (e : StoredEntry) → q < 56 * x.blocks → place_at s x q ≡ Some e → m.spot d e.name ≡ q
  spot_is d x i q e l h =
      ap (λ y. unwrap_or (find_below (56 * y.blocks) (λ q. is_named (place_at s y q) e.name)) 0) (node segments s range shapes c d x i.0)
      ∙ ap (λ o. unwrap_or o 0) (find_only (56 * x.blocks) (λ q. is_named (place_at s x q) e.name) q l (named_from (place_at s x q) e e.name h refl)
      (λ k v t. (let r = named_at (place_at s x k) e.name t in one_spot s (place_at s x) (56 * x.blocks) (agrees d x i) k q r.0 e v l r.1 h r.2)))

  dir_place_is : (d : ℕ) (x : StoredNode) → s.inode d ≡ Some x → (q : ℕ) → dir_place s m d q ≡ place_at s x q
  dir_place_is d x e q = ap (λ y. place_at s y q) (node segments s range shapes c d x e)

  names_are : (d b : ℕ) (name : List ℕ) → find_in (nodes d) name ≡ Some b → (m.spot d name < 56 * room_in (nodes d)) × (dir_place s m d (m.spot d name) ≡ Some (entry_of m name b))
  names_are d b name h =
      let t = directory d (λ r f. (let z : None ≡ Some b = sym (f name) ∙ h in cc)) in
      let x = t.0 in
      let i : IsDirectory d x = t.1 in
      let f : StandsAt (place_at s x) (56 * x.blocks) name b = found_at (place_at s x) (56 * x.blocks) name b (sym (ap (λ o. find_in o name) i.2) ∙ h) in
      let w : f.spot < 56 * x.blocks = f.within in
      let q : m.spot d name ≡ f.spot = subst (λ k. m.spot d k ≡ f.spot) f.named (spot_is d x i f.spot f.entry f.within f.is) in
      let k : has_kind (s.inode f.entry.inode) f.entry.kind ≡ true = (new_name s (place_at s x) (56 * x.blocks) (agrees d x i) f.spot f.entry f.within f.is).1 in
      let j : (at_inode s b).kind ≡ f.entry.kind = ap (λ i. (at_inode s i).kind) (sym f.inode) ∙ kind_at (s.inode f.entry.inode) f.entry.kind k in (
        subst (λ k. k < 56 * room_in (nodes d)) (sym q) (subst (λ r. f.spot < 56 * r) (sym (ap room_in i.2)) w),
        ap (dir_place s m d) q ∙ dir_place_is d x i.0 f.spot ∙ f.is ∙ ap (λ e. Some e) (same_entry f.entry name b (m.kind b) f.named f.inode (sym j)),
      )

  places_are : (d q : ℕ) (e : StoredEntry) → q < 56 * room_in (nodes d) → dir_place s m d q ≡ Some e → (m.spot d e.name ≡ q) × (is_some (find_in (nodes d) e.name) ≡ true)
  places_are d q e l h =
      let t = directory d (λ r f. (let z : room_in (nodes d) ≡ 0 = r in omega arith)) in
      let x = t.0 in
      let i : IsDirectory d x = t.1 in
      let w : q < 56 * x.blocks = subst (λ r. q < 56 * r) (ap room_in i.2) l in
      let g : place_at s x q ≡ Some e = sym (dir_place_is d x i.0 q) ∙ h in
      (spot_is d x i q e w g, ap is_some (ap (λ o. find_in o e.name) i.2) ∙ at_found (place_at s x) (56 * x.blocks) q e w g)

  file_byte_is : (b : ℕ) (x : StoredNode) → s.inode b ≡ Some x → (j : ℕ) → file_byte s m b j ≡ byte_at s x j
  file_byte_is b x e j = ap (λ y. byte_at s y j) (node segments s range shapes c b x e)

  bytes_are : (b j : ℕ) (v : Cell) → cell_in (nodes b) j ≡ Some v → Allows v (file_byte s m b j)
  bytes_are b j v h = go (s.inode b) refl
    where
      none : (o : Option Node) → nodes b ≡ o → cell_in o j ≡ None → Allows v (file_byte s m b j)
      none o e z = absurd (let y : None ≡ Some v = sym z ∙ sym (ap (λ o. cell_in o j) e) ∙ h in cc)

      shaped : (x : StoredNode) → s.inode b ≡ Some x → Shape x → Allows v (file_byte s m b j)
      shaped x e (OfFile f) =
          let z : nodes b ≡ Some (File (cells_of s x) x.links x.when) = its_node b x e ∙ ap (λ y. Some y) (read_file s x f.kind) in
          let g : v ≡ cell.Byte (byte_at s x j) = cell_at (byte_at s x) x.size j v (sym (ap (λ o. cell_in o j) z) ∙ h) in
          subst (λ v. Allows v (file_byte s m b j)) (sym g) (file_byte_is b x e j)
      shaped x e (OfDir f) = none (Some (Dir (entries_to (place_at s x) (56 * x.blocks)) x.blocks)) (its_node b x e ∙ ap (λ y. Some y) (read_dir s x f.kind)) refl
      shaped x e (OfLink f) = none (Some (Link x.target x.links)) (its_node b x e ∙ ap (λ y. Some y) (read_link s x f.kind)) refl

      go : (o : Option StoredNode) → s.inode b ≡ o → Allows v (file_byte s m b j)
      go None e = none None (at_none segments s range shapes c b e) refl
      go (Some x) e = shaped x e (shapes b x e)

  pub pictures : Pictures s nodes m
  pictures = record {
    inodes = inodes_are segments s range shapes c;
    bits = bits_are segments s range shapes c;
    numbered = numbered_are segments s range shapes c;
    whose = whose_are segments s range shapes c;
    kinds = kinds_are segments s range shapes c;
    owned = owned_are segments s range shapes c;
    owners = owners_are segments s range shapes c;
    uses = uses_are segments s range shapes c;
    emptied = emptied_are segments s range shapes c;
    larges = larges_are segments s range shapes c;
    large_owners = large_owners_are segments s range shapes c;
    large_bits = large_bits_are segments s range shapes c;
    names = names_are;
    places = places_are;
    bytes = bytes_are;
  }

-- A disk stands for one tree, but for births: two trees that become the one that is read become each other.
use Rattle.std.proofs.Common.{◌==◌, ◌≡◌, ℕ, ◌*◌, ◌<◌, Bool, true, false, Option, Some, None, List, is_some, length, cond, refl, sym, ◌∙◌, ap, subst, get_or}
use Rattle.std.specs.Option.{option_map}
use Rattle.std.specs.List.{slice_get}
use Rattle.std.proofs.lemmas.Option.{slice_get_within, slice_get-get_or}
use Rattle.frang_base.proofs.Tests.{some_there}
use Rattle.tree_definitions.specs.declared.cells.Cell.{Cell}
use Rattle.tree_definitions.specs.declared.cells.Cell.TheVariants as cell
use Rattle.tree_definitions.specs.declared.node.Node.{Node}
use Rattle.tree_definitions.specs.declared.node.Node.TheVariants.{Dir, File, Link}
use Rattle.tree_definitions.specs.Entries.{Entries, entry_at}
use Rattle.tree_definitions.specs.Tree.{FileTree, node_at}
use Rattle.tree_definitions.specs.WellFormed.{IsWellFormed}
use Rattle.tree_laws.proofs.Keeping.{names_nodes}
use Rattle.tree_laws.proofs.Places.{dir_is_some}
use Rattle.disk_definitions.specs.Store.{Store, StoredNode, store_of}
use Rattle.standing_laws.specs.ReadTree.{place_at, byte_at, entries_to, read_node, tree_in, read_tree}
use Rattle.standing_laws.specs.Renaming.{CellsAgree, EntriesAgree, SameNode, IsRenaming}
use Rattle.disk_definitions.specs.Standing.{AllBytes, HasBytes}
use Rattle.standing_laws.specs.Laws.{ReadingHasNoDoubt, StandsForOne}
use Rattle.standing_laws.proofs.NodesRead.{node_read}
use Rattle.standing_laws.proofs.Pictured.{cells_of, cell_at, IsInRange}
use Rattle.standing_laws.proofs.SoundStanding.{disk_range}
use Rattle.standing_laws.proofs.StandingNames.{back_of}
use Rattle.standing_laws.proofs.StandingTree.{standing_renamed}

pub read_bytes : (s : Store) (x : StoredNode) → HasBytes (read_node s x)
read_bytes s x = go (x.kind == 2) (x.kind == 1)
  where
    go : (a b : Bool) → HasBytes (cond a (Dir (entries_to (place_at s x) (56 * x.blocks)) x.blocks) (cond b (File (cells_of s x) x.links x.when) (Link x.target x.links)))
    go true b = tt
    go false true = λ j c e. (byte_at s x j, cell_at (byte_at s x) x.size j c e)
    go false false = tt

-- each node that is read has bytes alone
pub tree_bytes : (segments : ℕ) (s : Store) → IsInRange segments s → (b : ℕ) (y : Node) → node_at (tree_in segments s) b ≡ Some y → HasBytes y
tree_bytes segments s range b y e = go (s.inode b) refl
  where
    go : (o : Option StoredNode) → s.inode b ≡ o → HasBytes y
    go None f = absurd (let q : Some y ≡ None = sym e ∙ node_read s segments range.inodes b ∙ ap (option_map (read_node s)) f in cc)
    go (Some x) f =
        let q : Some (read_node s x) ≡ Some y = sym (sym e ∙ node_read s segments range.inodes b ∙ ap (option_map (read_node s)) f) in
        let r : read_node s x ≡ y = cc in
        subst HasBytes r (read_bytes s x)

module _ (to back too home : ℕ → ℕ) where
  -- entries that become the same become each other
  same_entries : (one two read : Entries) → EntriesAgree to one read → EntriesAgree too two read → ((name : List ℕ) (v : ℕ) → entry_at two name ≡ Some v → home (too v) ≡ v) → EntriesAgree (λ b. home (to b)) one two
  same_entries one two read p q again name = go (entry_at one name) refl (entry_at two name) refl
    where
      met : option_map to (entry_at one name) ≡ option_map too (entry_at two name)
      met = sym (p name) ∙ q name

      go : (a : Option ℕ) → entry_at one name ≡ a → (b : Option ℕ) → entry_at two name ≡ b → entry_at two name ≡ option_map (λ b. home (to b)) (entry_at one name)
      go None e None f = f ∙ sym (ap (option_map (λ b. home (to b))) e)
      go None e (Some v) f = absurd (let z : None ≡ Some (too v) = sym (ap (option_map to) e) ∙ met ∙ ap (option_map too) f in cc)
      go (Some u) e None f = absurd (let z : Some (to u) ≡ None = sym (ap (option_map to) e) ∙ met ∙ ap (option_map too) f in cc)
      go (Some u) e (Some v) f =
          let z : Some (to u) ≡ Some (too v) = sym (ap (option_map to) e) ∙ met ∙ ap (option_map too) f in
          let y : to u ≡ too v = cc in
          f ∙ ap (λ b. Some b) (sym (again name v f) ∙ ap home (sym y)) ∙ sym (ap (option_map (λ b. home (to b))) e)

  same_cells : (one two read : List Cell) → CellsAgree one read → CellsAgree two read → AllBytes read → CellsAgree one two
  same_cells one two read p q bytes = (
    p.0 ∙ sym q.0,
    λ j u v e f. (
        let l : j < length read = subst (λ n. j < n) p.0 (slice_get_within one j (cell.Byte u) e) in
        let g : slice_get read j ≡ Some (get_or read j (cell.Byte u)) = slice_get-get_or read j (cell.Byte u) l in
        let b = bytes j (get_or read j (cell.Byte u)) g in
        let h : slice_get read j ≡ Some (cell.Byte b.0) = g ∙ ap (λ c. Some c) b.1 in
        p.1 j u b.0 e h ∙ sym (q.1 j v b.0 f h)),
  )

  same_dirs : (es : Entries) (k : ℕ) (x y : Node) → SameNode to x (Dir es k) → SameNode too y (Dir es k) → ((fs : Entries) (n : ℕ) → y ≡ Dir fs n → (name : List ℕ) (v : ℕ) → entry_at fs name ≡ Some v → home (too v) ≡ v) → SameNode (λ b. home (to b)) x y
  same_dirs es k (Dir one n) (Dir two m) p q again = (same_entries one two es p.0 q.0 (again two m refl), p.1 ∙ sym q.1)
  same_dirs es k (Dir one n) (File cells links when) p q again = absurd q
  same_dirs es k (Dir one n) (Link target links) p q again = absurd q
  same_dirs es k (File cells links when) y p q again = absurd p
  same_dirs es k (Link target links) y p q again = absurd p

  same_files : (cells : List Cell) (links when : ℕ) (x y : Node) → SameNode to x (File cells links when) → SameNode too y (File cells links when) → AllBytes cells → SameNode (λ b. home (to b)) x y
  same_files cells links when (File one n w) (File two m v) p q bytes = (same_cells one two cells p.0 q.0 bytes, p.1 ∙ sym q.1, p.2 ∙ sym q.2)
  same_files cells links when (File one n w) (Dir es k) p q bytes = absurd q
  same_files cells links when (File one n w) (Link target l) p q bytes = absurd q
  same_files cells links when (Dir es k) y p q bytes = absurd p
  same_files cells links when (Link target l) y p q bytes = absurd p

  same_links : (target : List ℕ) (links : ℕ) (x y : Node) → SameNode to x (Link target links) → SameNode too y (Link target links) → SameNode (λ b. home (to b)) x y
  same_links target links (Link one n) (Link two m) p q = (p.0 ∙ sym q.0, p.1 ∙ sym q.1)
  same_links target links (Link one n) (Dir es k) p q = absurd q
  same_links target links (Link one n) (File cells l when) p q = absurd q
  same_links target links (Dir es k) y p q = absurd p
  same_links target links (File cells l when) y p q = absurd p

  same_nodes : (x y z : Node) → SameNode to x z → SameNode too y z → HasBytes z → ((fs : Entries) (n : ℕ) → y ≡ Dir fs n → (name : List ℕ) (v : ℕ) → entry_at fs name ≡ Some v → home (too v) ≡ v) → SameNode (λ b. home (to b)) x y
  same_nodes x y (Dir es k) p q bytes again = same_dirs es k x y p q again
  same_nodes x y (File cells links when) p q bytes again = same_files cells links when x y p q bytes
  same_nodes x y (Link target links) p q bytes again = same_links target links x y p q

  -- trees that become one tree of bytes become each other
  pub both_renamed : (one two read : FileTree) → IsWellFormed two → IsRenaming to back one read → IsRenaming too home two read → ((b : ℕ) (y : Node) → node_at read b ≡ Some y → HasBytes y) → IsRenaming (λ b. home (to b)) (λ b. back (too b)) one two
  both_renamed one two read w r q bytes = record {
    segments = r.segments ∙ sym q.segments;
    root = ap home (r.root ∙ sym q.root) ∙ (q.forth 0 (dir_is_some (node_at two 0) w.rooted)).1;
    forth = λ b h. (let a = r.forth b h in let c = q.home (to b) a.0 in (c.0, ap back c.1 ∙ a.1));
    home = λ b h. (let a = q.forth b h in let c = r.home (too b) a.0 in (c.0, ap home c.1 ∙ a.1));
    nodes = λ b x y e f. (
        let a = r.forth b (ap is_some e) in
        let z = some_there (node_at read (to b)) a.0 in
        let c = q.home (to b) a.0 in
        same_nodes x y z.0 (r.nodes b x z.0 e z.1) (q.nodes (home (to b)) y z.0 f (ap (node_at read) c.1 ∙ z.1)) (bytes (to b) z.0 z.1)
        (λ fs n g name v i. (q.forth v (names_nodes two w (home (to b)) fs n name v (f ∙ ap (λ y. Some y) g) i)).1));
  }

pub stands_for_one : StandsForOne
stands_for_one sectors one two h k =
    let z : Some h.param ≡ Some k.param = sym h.parameters ∙ k.parameters in
    let q : h.param ≡ k.param = cc in
    let r = subst (λ p. IsRenaming k.naming.inode (back_of k.naming) two (read_tree p.segments sectors)) (sym q) (standing_renamed sectors two k) in
    let s = store_of h.param.segments sectors in (
      λ b. back_of k.naming (h.naming.inode b),
      λ b. back_of h.naming (k.naming.inode b),
      both_renamed h.naming.inode (back_of h.naming) k.naming.inode (back_of k.naming) one two (read_tree h.param.segments sectors) k.well_formed (standing_renamed sectors one h) r (tree_bytes h.param.segments s (disk_range h.param.segments sectors)),
    )

pub reading_has_no_doubt : ReadingHasNoDoubt
reading_has_no_doubt segments sectors = tree_bytes segments (store_of segments sectors) (disk_range segments sectors)

-- The lines of a node that is read off its inode, and of the whole tree.
use Rattle.std.proofs.Common.{◌≡◌, ◌≢◌, ℕ, zero, suc, ◌+◌, ◌-◌, ◌*◌, ◌<◌, ◌≤◌, ◌==◌, ⊎_elim, Bool, true, false, ◌&&◌, ◌||◌, nat_le, cond, Option, Some, None, is_some, List, [], ◌∷◌, ◌++◌, length, refl, sym, ◌∙◌, ap, subst, arith, add-one, append-nil, append_assoc, leb-true, eqb-true, eq-eqb, ne_eqb}
use Rattle.std.specs.List.{flat_map}
use Rattle.std.specs.Option.{option_map}
use Rattle.std.specs.Ordering.{nat_cmp}
use Rattle.std.proofs.lemmas.Bool.{and_parts, cases_lt, cond-true, cond-false, or_cases}
use Rattle.frang_base.specs.declared.said.Said.{Said}
use Rattle.frang_base.specs.declared.said.Said.TheVariants as said
use Rattle.tree_definitions.specs.declared.node.Node.{Node}
use Rattle.tree_definitions.specs.declared.node.Node.TheVariants.{Dir, File, Link}
use Rattle.tree_definitions.specs.Entries.{Entries}
use Rattle.tree_definitions.specs.Tree.{FileTree, node_at}
use Rattle.tree_definitions.specs.TreeLines.{path_text, name_below, lines_with, lines_from, tree_lines}
use Rattle.tree_definitions.proofs.Pairs.{birth_exact, length_put}
use Rattle.tree_lines.specs.Shown.{lines_by, lines_shown}
use Rattle.tree_lines.specs.declared.left.Left.{Left}
use Rattle.tree_lines.specs.Waiting.{Waiting, lines_left, lines_of, next_birth}
use Rattle.tree_lines.proofs.LeftLaws.{flat_map_same}
use Rattle.disk_definitions.specs.declared.inode.Inode.{Inode}
use Rattle.disk_definitions.specs.declared.param.Param.{Param}
use Rattle.disk_definitions.specs.Inodes.{is_free_inode, is_file_inode, is_directory_inode, is_link_inode, inode_fits}
use Rattle.disk_definitions.specs.Params.{param_in}
use Rattle.disk_definitions.proofs.Readings.{and_l, and_r}
use Rattle.sector_bytes.specs.Sectors.{Sectors}
use Rattle.disk_definitions.specs.Store.{Store, StoredNode, store_of}
use Rattle.disk_definitions.specs.Standing.{StandsFor}
use Rattle.standing_laws.specs.Laws.{IsSoundDisk}
use Rattle.standing_laws.specs.ReadTree.{place_at, entries_to, byte_at, cells_to, read_node, nodes_to, with_inode, tree_in, read_tree}
use Rattle.standing_laws.specs.Soundness.{entries_agree, directory_agrees, node_agrees, IsSound}
use Rattle.standing_laws.proofs.Bounded.{all_at}
use Rattle.standing_laws.proofs.NodesRead.{node_read, past}
use Rattle.standing_laws.proofs.Pictured.{read_file, read_dir, read_link, length_cells}
use Rattle.standing_laws.proofs.Shapes.{IsFileShape, IsDirShape, IsLinkShape, Shape, disk_shape}
use Rattle.standing_laws.proofs.Shapes.Shape.{OfFile, OfDir, OfLink}
use Rattle.standing_laws.proofs.SoundStanding.{disk_range, sound_stands}
use Rattle.standing_laws.proofs.StandingTree.{standing_is_sound}
use Rattle.disk_reading.specs.Lined.{AreLinesOf, IsNext, NodesAgree, listed, shown_by, shown_in}

-- ---- what an inode holds is counted in 32 bits

small_free : (x : Inode) → is_free_inode x ≡ true → x.size < 4294967296
small_free x h =
    let e : (x.size == 0) ≡ true = search (and_l, and_r) depth 10 in
    let z : x.size ≡ 0 = eqb-true x.size 0 e in
    omega arith

small_file : (x : Inode) → is_file_inode x ≡ true → x.size < 4294967296
small_file x h =
    let e : nat_le x.size 1114112 ≡ true = search (and_l, and_r) depth 10 in
    let l = leb-true x.size 1114112 e in
    omega arith

small_directory : (x : Inode) → is_directory_inode x ≡ true → x.size < 4294967296
small_directory x h =
    let e : nat_le x.size (56 * x.blocks) ≡ true = search (and_l, and_r) depth 10 in
    let f : nat_le x.blocks 16 ≡ true = search (and_l, and_r) depth 10 in
    let l = leb-true x.size (56 * x.blocks) e in
    let m = leb-true x.blocks 16 f in
    omega arith

small_link : (x : Inode) → is_link_inode x ≡ true → x.size < 4294967296
small_link x h =
    let e : nat_le x.size 384 ≡ true = search (and_l, and_r) depth 10 in
    let l = leb-true x.size 384 e in
    omega arith

pub small_size : (x : Inode) → inode_fits x ≡ true → x.size < 4294967296
small_size x h =
    ⊎_elim
    (λ r. ⊎_elim (λ r. ⊎_elim (small_free x) (small_file x) (or_cases (is_free_inode x) (is_file_inode x) r)) (small_directory x) (or_cases (is_free_inode x || is_file_inode x) (is_directory_inode x) r))
    (small_link x) (or_cases (is_free_inode x || is_file_inode x || is_directory_inode x) (is_link_inode x) h)

-- ---- a node's own line, and what it lists

module _ (s : Store) (x : StoredNode) (text : List ℕ) (f : List ℕ × ℕ → List Said) where
  abbrev entries : Entries
  entries = entries_to (place_at s x) (56 * x.blocks)

  as_kind : (k : ℕ) → x.kind ≡ k → said.Node (path_text text) k x.size (cond (k == 1) x.links 0) ∷ flat_map f (cond (k == 2) entries []) ≡ lines_shown text (Some (shown_by s x)) f
  as_kind k e = ap (λ k. said.Node (path_text text) k x.size (cond (k == 1) x.links 0) ∷ flat_map f (cond (k == 2) entries [])) (sym e)

  dir_long : x.kind ≡ 2 → node_agrees s (Some x) ≡ true → length entries ≡ x.size
  dir_long k h =
      let a : directory_agrees s x ≡ true = sym (cond-true (x.kind == 2) (directory_agrees s x) (cond (x.kind == 3) (length x.target == x.size) true) (ap (λ k. k == 2) k)) ∙ h in
      eqb-true (length entries) x.size (and_parts (entries_agree s (place_at s x) (56 * x.blocks)) (length entries == x.size) a).1

  link_long : x.kind ≡ 3 → node_agrees s (Some x) ≡ true → length x.target ≡ x.size
  link_long k h =
      let b : (length x.target == x.size) ≡ true =
      sym (cond-false (x.kind == 2) (directory_agrees s x) (cond (x.kind == 3) (length x.target == x.size) true) (ap (λ k. k == 2) k) ∙ cond-true (x.kind == 3) (length x.target == x.size) true (ap (λ k. k == 3) k)) ∙ h in
      eqb-true (length x.target) x.size b

  pub node_lines : Shape x → node_agrees s (Some x) ≡ true → lines_with text (Some (read_node s x)) f ≡ lines_shown text (Some (shown_by s x)) f
  node_lines (OfFile shape) h =
      ap (λ n. lines_with text (Some n) f) (read_file s x shape.kind) ∙ ap (λ n. said.Node (path_text text) 1 n x.links ∷ []) (length_cells (byte_at s x) x.size) ∙ as_kind 1 shape.kind
  node_lines (OfDir shape) h =
      ap (λ n. lines_with text (Some n) f) (read_dir s x shape.kind) ∙ ap (λ n. said.Node (path_text text) 2 n 0 ∷ flat_map f entries) (dir_long shape.kind h) ∙ as_kind 2 shape.kind
  node_lines (OfLink shape) h =
      ap (λ n. lines_with text (Some n) f) (read_link s x shape.kind) ∙ ap (λ n. said.Node (path_text text) 3 n 0 ∷ []) (link_long shape.kind h) ∙ as_kind 3 shape.kind

pub listed_other : (s : Store) (x : StoredNode) → x.kind ≢ 2 → [] ≡ listed s x
listed_other s x other = sym (cond-false (x.kind == 2) (entries_to (place_at s x) (56 * x.blocks)) [] (ne_eqb x.kind 2 other))

pub listed_dir : (s : Store) (x : StoredNode) (es : Entries) → x.kind ≡ 2 → es ≡ entries_to (place_at s x) (56 * x.blocks) → es ≡ listed s x
listed_dir s x es k e = e ∙ sym (cond-true (x.kind == 2) (entries_to (place_at s x) (56 * x.blocks)) [] (eq-eqb x.kind 2 k))

-- ---- the lines from a node on

module _ (segments : ℕ) (sectors : Sectors) where
  abbrev s : Store
  s = store_of segments sectors

  abbrev tree : FileTree
  tree = tree_in segments s

  read : (b : ℕ) (o : Option StoredNode) → s.inode b ≡ o → node_at tree b ≡ option_map (read_node s) o
  read b o e = node_read s segments (disk_range segments sectors).inodes b ∙ ap (option_map (read_node s)) e

  same_from : NodesAgree s → (text : List ℕ) (birth : ℕ) (f g : List ℕ × ℕ → List Said) → ((e : List ℕ × ℕ) → f e ≡ g e) → (o : Option StoredNode) → s.inode birth ≡ o
      → lines_with text (node_at tree birth) f ≡ lines_shown text (shown_in s birth) g
  same_from agree text birth f g same None e = ap (λ o. lines_with text o f) (read birth None e) ∙ sym (ap (λ o. lines_shown text (option_map (shown_by s) o) g) e)
  same_from agree text birth f g same (Some x) e =
      ap (λ o. lines_with text o f) (read birth (Some x) e)
      ∙ node_lines s x text f (disk_shape segments sectors birth x e) (sym (ap (node_agrees s) e) ∙ agree birth)
      ∙ ap (λ ls. said.Node (path_text text) x.kind x.size (cond (x.kind == 1) x.links 0) ∷ ls) (flat_map_same f g (listed s x) same)
      ∙ sym (ap (λ o. lines_shown text (option_map (shown_by s) o) g) e)

  pub same_lines : NodesAgree s → (n : ℕ) (text : List ℕ) (birth : ℕ) → lines_from n tree text birth ≡ lines_by (shown_in s) n text birth
  same_lines agree zero text birth = refl
  same_lines agree (suc n) text birth =
      same_from agree text birth (λ e. lines_from n tree (name_below text e.0) e.1) (λ e. lines_by (shown_in s) n (name_below text e.0) e.1) (λ e. same_lines agree n (name_below text e.0) e.1) (s.inode birth) refl

  pub nodes_agree : (most : ℕ) → IsSound most segments sectors → NodesAgree s
  nodes_agree most sound i =
      ⊎_elim (λ l. all_at (64 * segments) (λ i. node_agrees s (s.inode i)) sound.consistent.nodes i l) (λ l. ap (node_agrees s) ((disk_range segments sectors).inodes i l)) (cases_lt i (64 * segments))

-- ---- the next node

pub none_next : (s : Store) (w : Waiting) → next_birth w.nodes ≡ None → lines_left (shown_in s) w ≡ []
none_next s w none = go w.nodes none
  where
    go : (nodes : List Left) → next_birth nodes ≡ None → flat_map (lines_of (shown_in s) w.text) nodes ≡ []
    go [] none = refl
    go (l ∷ ls) none = absurd (cc)

pub inode_shown : (s : Store) (x : StoredNode) (birth : ℕ) → s.inode birth ≡ Some x → shown_in s birth ≡ Some (shown_by s x)
inode_shown s x birth e = ap (option_map (shown_by s)) e

pub inode_gone : (s : Store) (birth : ℕ) → s.inode birth ≡ None → shown_in s birth ≡ None
inode_gone s birth e = ap (option_map (shown_by s)) e

-- ---- the whole

pub standing_sound : (sectors : Sectors) (p : Param) (tree : FileTree) → param_in (sectors 0) ≡ Some p → StandsFor sectors tree → IsSoundDisk p sectors
standing_sound sectors p tree e h =
    let z : Some h.param ≡ Some p = sym h.parameters ∙ e in
    let q : h.param ≡ p = cc in
    subst (λ p. IsSound (131072 * p.run) p.segments sectors) q (standing_is_sound sectors tree h)

pub lines_told : (sectors : Sectors) (p : Param) (tree : FileTree) (lines : List Said) → param_in (sectors 0) ≡ Some p → StandsFor sectors tree → lines ≡ tree_lines (read_tree p.segments sectors) → AreLinesOf sectors lines
lines_told sectors p tree lines e h is = record { tree = read_tree p.segments sectors; stands = (sound_stands p sectors e (standing_sound sectors p tree e h)).0; is = is }

one_more : (s : Store) (n : ℕ) (o : Option StoredNode) → s.inode n ≡ o → length (nodes_to s (suc n)) ≡ length (nodes_to s n) + cond (is_some o) 1 0
one_more s n None e = ap (λ o. length (with_inode s (nodes_to s n) n o)) e ∙ (let z : length (nodes_to s n) ≡ length (nodes_to s n) + 0 = omega arith in z)
one_more s n (Some x) e = ap (λ o. length (with_inode s (nodes_to s n) n o)) e ∙ length_put nat_cmp birth_exact (nodes_to s n) n (read_node s x) (past s n n (omega arith))

pub one_node_more : (s : Store) (n : ℕ) → length (nodes_to s (n + 1)) ≡ length (nodes_to s n) + cond (is_some (s.inode n)) 1 0
one_node_more s n = ap (λ k. length (nodes_to s k)) (add-one n) ∙ one_more s n (s.inode n) refl

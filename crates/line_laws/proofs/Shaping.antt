-- A store is the picture of the shape of its tree, whatever bytes it has.
use Rattle.std.proofs.Common.{ℕ, ◌≡◌, ◌≤◌, ◌<◌, ◌+◌, ◌*◌, Bool, true, nat_lt, if◌then◌else◌, Option, Some, None, List, [], ◌∷◌, length, is_some, refl, sym, ◌∙◌, ap, subst}
use Rattle.frang_base.specs.declared.limits.TheConstants.{BLOCK_ENTRIES, FILE_BYTES_MAX, KIND_FILE, SMALL_BYTES_MAX}
use Rattle.std.specs.Option.{option_and_then}
use Rattle.std.proofs.Math.Path.{fun_ext}
use Rattle.std.proofs.lemmas.List.{length-map}
use Rattle.tree_definitions.specs.declared.cells.Cell.{Cell}
use Rattle.tree_definitions.specs.declared.cells.Cell.TheVariants as cell
use Rattle.tree_definitions.specs.declared.node.Node.{Node}
use Rattle.tree_definitions.specs.declared.node.Node.TheVariants.{Dir, File, Link}
use Rattle.tree_definitions.specs.Tree.{FileTree, node_at, small_blocks_of}
use Rattle.tree_definitions.specs.Touched.{node_shape, shape_of, shaped, doubts}
use Rattle.tree_laws.proofs.ShapeNodes.{found}
use Rattle.tree_laws.proofs.ShapeKeeping.{well_shape}
use Rattle.disk_definitions.specs.Store.{Store, StoredNode, store_of}
use Rattle.disk_definitions.specs.Naming.{Naming, Nodes, Pictures, kind_of, blocks_of, has_large, room_in, find_in, first_blocks, inode_by, inode_for, use_by, use_for, file_byte}
use Rattle.disk_definitions.specs.Standing.{IsReached, reached_from}
use Rattle.disk_definitions.specs.Meets.{IsOfTree}
use Rattle.disk_definitions.proofs.NodeLaws.{any_cell, kind_shape}
use Rattle.line_laws.specs.Stores.{with_bytes, ShapesStand, BlankHandsStay, BlankFilesStay, DisksStandForShapes, DisksStandBelowForShapes}

-- ---- what a picture has of a node, it has of its shape
pub some_shaped : (o : Option Node) → is_some (shaped o) ≡ is_some o
some_shaped (Some x) = refl
some_shaped None = refl

blocks_shape : (o : Option Node) → blocks_of (shaped o) ≡ blocks_of o
blocks_shape (Some (Dir es n)) = refl
blocks_shape (Some (File cells links when)) = ap small_blocks_of (length-map cells (λ c. cell.Doubtful))
blocks_shape (Some (Link target links)) = refl
blocks_shape None = refl

large_shape : (o : Option Node) → has_large (shaped o) ≡ has_large o
large_shape (Some (Dir es n)) = refl
large_shape (Some (File cells links when)) = ap (λ size. nat_lt SMALL_BYTES_MAX size) (length-map cells (λ c. cell.Doubtful))
large_shape (Some (Link target links)) = refl
large_shape None = refl

room_shape : (o : Option Node) → room_in (shaped o) ≡ room_in o
room_shape (Some (Dir es n)) = refl
room_shape (Some (File cells links when)) = refl
room_shape (Some (Link target links)) = refl
room_shape None = refl

pub find_shape : (o : Option Node) (name : List ℕ) → find_in (shaped o) name ≡ find_in o name
find_shape (Some (Dir es n)) name = refl
find_shape (Some (File cells links when)) name = refl
find_shape (Some (Link target links)) name = refl
find_shape None name = refl

use_shape : (o : Option Node) → use_by (shaped o) ≡ use_by o
use_shape (Some (Dir es n)) = refl
use_shape (Some (File cells links when)) = refl
use_shape (Some (Link target links)) = refl
use_shape None = refl

inode_shape : (n : Naming) (b : ℕ) (o : Option Node) → inode_by n b (shaped o) ≡ inode_by n b o
inode_shape n b (Some (Dir es blocks)) = refl
inode_shape n b (Some (File cells links when)) = ap (λ size. Some (sized_inode size)) (length-map cells (λ c. cell.Doubtful))
  where
    sized_inode : ℕ → StoredNode
    sized_inode size = record {
      kind = KIND_FILE;
      links = links;
      size = size;
      birth = n.stamp b;
      blocks = small_blocks_of size;
      small = first_blocks (small_blocks_of size) (n.block b);
      large = if nat_lt SMALL_BYTES_MAX size then n.large b + 1 else 0;
      when = when;
      target = [];
    }
inode_shape n b (Some (Link target links)) = refl
inode_shape n b None = refl

-- ---- the picture
module _ (s : Store) (at : Nodes) (n : Naming) (g : Pictures s at n) (byte large_byte : ℕ → ℕ → ℕ) where
  abbrev alike : Nodes
  alike b = shaped (at b)

  for_shape : (o : Option ℕ) → inode_for n at o ≡ inode_for n alike o
  for_shape None = refl
  for_shape (Some b) = sym (inode_shape n b (at b))

  uses_shape : (was : Bool) (o : Option (ℕ × ℕ)) → use_for was at o ≡ use_for was alike o
  uses_shape was None = refl
  uses_shape was (Some o) = sym (use_shape (at o.0))

  kinds_shape : (b : ℕ) (o : Option Node) → at b ≡ o → (y : Node) → shaped o ≡ Some y → n.kind b ≡ kind_of y
  kinds_shape b (Some x) is y e = let f : node_shape x ≡ y = cc in g.kinds b x is ∙ sym (kind_shape x) ∙ ap kind_of f
  kinds_shape b None is y e = absurd (cc)

  pub pictures_shape : Pictures (with_bytes s byte large_byte) alike n
  pictures_shape = record {
    inodes = λ i. g.inodes i ∙ for_shape (n.birth i);
    bits = g.bits;
    numbered = λ b some. g.numbered b (sym (some_shaped (at b)) ∙ some);
    whose = λ i b e. let w = g.whose i b e in (w.0, some_shaped (at b) ∙ w.1);
    kinds = λ b x e. kinds_shape b (at b) refl x e;
    owned = λ b j l. g.owned b j (subst (λ k. j < k) (blocks_shape (at b)) l);
    owners = λ k b j e. let w = g.owners k b j e in (w.0, subst (λ k. j < k) (sym (blocks_shape (at b))) w.1);
    uses = λ k. g.uses k ∙ uses_shape (n.was k) (n.owner k);
    emptied = g.emptied;
    larges = λ b h. g.larges b (sym (large_shape (at b)) ∙ h);
    large_owners = λ k b e. let w = g.large_owners k b e in (w.0, large_shape (at b) ∙ w.1);
    large_bits = g.large_bits;
    names = λ d b m e. let w = g.names d b m (sym (find_shape (at d) m) ∙ e) in (subst (λ k. n.spot d m < BLOCK_ENTRIES * k) (sym (room_shape (at d))) w.0, w.1);
    places = λ d q e l h. let w = g.places d q e (subst (λ k. q < BLOCK_ENTRIES * k) (room_shape (at d)) l) h in (w.0, ap is_some (find_shape (at d) e.name) ∙ w.1);
    bytes = λ b j c e. any_cell (at b) j c (file_byte (with_bytes s byte large_byte) n b j) e;
  }

-- the nodes of the shape, as a function of their births
same_nodes : (t : FileTree) → node_at (shape_of t) ≡ (λ b. shaped (node_at t b))
same_nodes t = fun_ext (found t)

module _ (s : Store) (t : FileTree) (n : Naming) (of : IsOfTree s t n) where
  births_shape : (b : ℕ) → is_some (node_at (shape_of t) b) ≡ true → is_some (node_at t b) ≡ true
  births_shape b some = sym (some_shaped (node_at t b)) ∙ ap is_some (sym (found t b)) ∙ some

  pub of_shape : (byte large_byte : ℕ → ℕ → ℕ) → IsOfTree (with_bytes s byte large_byte) (shape_of t) n
  of_shape byte large_byte = record {
    well_formed = well_shape t of.well_formed;
    few = of.few;
    pictures = subst (λ at. Pictures (with_bytes s byte large_byte) at n) (sym (same_nodes t)) (pictures_shape s (node_at t) n of.pictures byte large_byte);
    root = of.root;
    births = λ b some late. of.births b (births_shape b some) late;
    inodes = of.inodes;
    blocks = of.blocks;
    larges = of.larges;
  }

pub shapes_stand : ShapesStand
shapes_stand s t n of = record {
  left = of_shape s t n of s.byte s.large_byte;
  blank = of_shape s t n of (λ block index. 0) (λ large index. 0);
  others = of_shape s t n of;
}

-- ---- what is at hand, and files
pub hands_stay : BlankHandsStay
hands_stay h s segments at = record { within = at.within; all = at.all; bits = at.bits; states = at.states; larges = at.larges; zeroed = at.zeroed }

fit_by : (o : Option Node) → ((links when : ℕ) (cells : List Cell) → o ≡ Some (File cells links when) → length cells ≤ FILE_BYTES_MAX)
    → (links when : ℕ) (cells : List Cell) → shaped o ≡ Some (File cells links when) → length cells ≤ FILE_BYTES_MAX
fit_by (Some (File old l w)) fit links when cells e =
    let size : length old ≤ FILE_BYTES_MAX = fit l w old refl in
    let same : doubts old ≡ cells = cc in
    subst (λ k. k ≤ FILE_BYTES_MAX) (sym (length-map old (λ c. cell.Doubtful)) ∙ ap length same) size
fit_by (Some (Dir es n)) fit links when cells e = absurd (cc)
fit_by (Some (Link target l)) fit links when cells e = absurd (cc)
fit_by None fit links when cells e = absurd (cc)

pub files_stay : BlankFilesStay
files_stay s t m files = record {
  fit = λ b links when cells e. fit_by (node_at t b) (files.fit b) links when cells (sym (found t b) ∙ e);
  directories = files.directories;
}

-- ---- disks
reached_shape : (at : Nodes) (b : ℕ) (names : List (List ℕ)) → reached_from (λ c. shaped (at c)) b names ≡ reached_from at b names
reached_shape at b [] = refl
reached_shape at b (name ∷ names) = ap (option_and_then (λ next. reached_from (λ c. shaped (at c)) next names)) (find_shape (at b) name) ∙ onward (find_in (at b) name) (λ c. reached_shape at c names)
  where
    onward : (o : Option ℕ) → ((c : ℕ) → reached_from (λ d. shaped (at d)) c names ≡ reached_from at c names)
        → option_and_then (λ next. reached_from (λ c. shaped (at c)) next names) o ≡ option_and_then (λ next. reached_from at next names) o
    onward (Some c) later = later c
    onward None later = refl

pub all_reached : (at : Nodes) → IsReached at → IsReached (λ b. shaped (at b))
all_reached at reached b some = let r = reached b (sym (some_shaped (at b)) ∙ some) in (r.0, reached_shape at 0 r.0 ∙ r.1)

pub disks_stand : DisksStandForShapes
disks_stand sectors t stands = record {
  param = stands.param;
  parameters = stands.parameters;
  segments = stands.segments;
  grammar = stands.grammar;
  versions = stands.versions;
  well_formed = well_shape t stands.well_formed;
  reached = subst IsReached (sym (same_nodes t)) (all_reached (node_at t) stands.reached);
  naming = stands.naming;
  picture = subst (λ at. Pictures s at stands.naming) (sym (same_nodes t)) (pictures_shape s (node_at t) stands.naming stands.picture s.byte s.large_byte);
  root = stands.root;
  births = λ b some late. stands.births b (sym (some_shaped (node_at t b)) ∙ ap is_some (sym (found t b)) ∙ some) late;
}
  where
    s : Store
    s = store_of stands.param.segments sectors

pub disks_stand_below : DisksStandBelowForShapes
unfolding disks_stand
disks_stand_below sectors t below = record { stands = disks_stand sectors t below.stands; most = below.most; below = below.below; versions = below.versions; whole = below.whole }

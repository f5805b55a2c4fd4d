-- The nodes of a shape, and what they take of the disk.
use Rattle.std.proofs.Common.{ℕ, ◌≡◌, ◌+◌, Bool, true, false, List, [], ◌∷◌, map, cond, refl, sym, ◌∙◌, ap, ap₂}
use Rattle.std.specs.Prelude.{sum_by}
use Rattle.std.specs.Ordering.{nat_cmp, match_ordering}
use Rattle.std.specs.declared.cmp.Ordering.{Ordering}
use Rattle.std.specs.declared.cmp.Ordering.TheVariants.{Less, Equal, Greater}
use Rattle.std.specs.Map.{remove_entry, keys_of, values_of}
use Rattle.std.specs.BTreeMap.{is_at, insert_entry}
use Rattle.std.proofs.lemmas.List.{length-map}
use Rattle.std.proofs.lemmas.List.Sums.{sum_by-cons}
use Rattle.std.proofs.lemmas.Map.Made.{lookup-map_values, keys_of-map_values}
use Rattle.tree_definitions.specs.declared.cells.Cell.{Cell}
use Rattle.tree_definitions.specs.declared.cells.Cell.TheVariants.{Doubtful}
use Rattle.tree_definitions.specs.declared.node.Node.{Node}
use Rattle.tree_definitions.specs.declared.node.Node.TheVariants.{Dir, File, Link}
use Rattle.tree_definitions.specs.Tree.{FileTree, node_at, with_node, without_node, count_of, small_blocks_of, large_blocks_of, small_blocks, large_blocks, file_blocks, dir_blocks}
use Rattle.tree_definitions.specs.Touched.{doubts, node_shape, shape_of, shaped}
use Rattle.tree_laws.specs.Rooms.{SameRoom}

abbrev pub shapes : List (ℕ × Node) → List (ℕ × Node)
shapes nodes = map (λ n. (n.0, node_shape n.1)) nodes

pub found : (t : FileTree) (b : ℕ) → node_at (shape_of t) b ≡ shaped (node_at t b)
found t b = lookup-map_values node_shape (is_at (nat_cmp b)) t.nodes

pub keys_stay : (t : FileTree) → keys_of (shape_of t).nodes ≡ keys_of t.nodes
keys_stay t = keys_of-map_values node_shape t.nodes

-- ---- a shape is its own shape
pub doubts_again : (cells : List Cell) → doubts (doubts cells) ≡ doubts cells
doubts_again [] = refl
doubts_again (c ∷ cells) = ap (λ l. Doubtful ∷ l) (doubts_again cells)

pub node_again : (x : Node) → node_shape (node_shape x) ≡ node_shape x
node_again (Dir es n) = refl
node_again (File cells links when) = ap (λ c. File c links when) (doubts_again cells)
node_again (Link target links) = refl

nodes_again : (ns : List (ℕ × Node)) → shapes (shapes ns) ≡ shapes ns
nodes_again [] = refl
nodes_again (n ∷ ns) = ap₂ (λ x l. (n.0, x) ∷ l) (node_again n.1) (nodes_again ns)

pub again : (t : FileTree) → shape_of (shape_of t) ≡ shape_of t
again t = ap (λ ns. record t { nodes = ns }) (nodes_again t.nodes)

-- ---- a node comes or goes
nodes_with : (ns : List (ℕ × Node)) (b : ℕ) (x : Node) → insert_entry nat_cmp (shapes ns) b (node_shape x) ≡ shapes (insert_entry nat_cmp ns b x)
nodes_with [] b x = refl
nodes_with (n ∷ ns) b x = go (nat_cmp b n.0) (nodes_with ns b x)
  where
    go : (o : Ordering) → insert_entry nat_cmp (shapes ns) b (node_shape x) ≡ shapes (insert_entry nat_cmp ns b x)
        → match_ordering o ((b, node_shape x) ∷ shapes (n ∷ ns)) ((n.0, node_shape x) ∷ shapes ns) ((n.0, node_shape n.1) ∷ insert_entry nat_cmp (shapes ns) b (node_shape x))
        ≡ shapes (match_ordering o ((b, x) ∷ n ∷ ns) ((n.0, x) ∷ ns) (n ∷ insert_entry nat_cmp ns b x))
    go Less later = refl
    go Equal later = refl
    go Greater later = ap (λ l. (n.0, node_shape n.1) ∷ l) later

nodes_without : (ns : List (ℕ × Node)) (b : ℕ) → remove_entry (is_at (nat_cmp b)) (shapes ns) ≡ shapes (remove_entry (is_at (nat_cmp b)) ns)
nodes_without [] b = refl
nodes_without (n ∷ ns) b = go (is_at (nat_cmp b) n.0) (nodes_without ns b)
  where
    go : (c : Bool) → remove_entry (is_at (nat_cmp b)) (shapes ns) ≡ shapes (remove_entry (is_at (nat_cmp b)) ns)
        → cond c (shapes ns) ((n.0, node_shape n.1) ∷ remove_entry (is_at (nat_cmp b)) (shapes ns)) ≡ shapes (cond c ns (n ∷ remove_entry (is_at (nat_cmp b)) ns))
    go true later = refl
    go false later = ap (λ l. (n.0, node_shape n.1) ∷ l) later

pub with_shape : (t : FileTree) (b : ℕ) (x : Node) → with_node (shape_of t) b (node_shape x) ≡ shape_of (with_node t b x)
with_shape t b x = ap (λ ns. record t { nodes = ns }) (nodes_with t.nodes b x)

pub without_shape : (t : FileTree) (b : ℕ) → without_node (shape_of t) b ≡ shape_of (without_node t b)
without_shape t b = ap (λ ns. record t { nodes = ns }) (nodes_without t.nodes b)

-- nodes of one shape come to trees of one shape
pub with_alike : (t u : FileTree) (b : ℕ) (x y : Node) → shape_of t ≡ shape_of u → node_shape x ≡ node_shape y → shape_of (with_node t b x) ≡ shape_of (with_node u b y)
with_alike t u b x y e f = sym (with_shape t b x) ∙ ap₂ (λ v z. with_node v b z) e f ∙ with_shape u b y

-- ---- counts
values_count : (count : Node → ℕ) → ((x : Node) → count (node_shape x) ≡ count x) → (ns : List (ℕ × Node)) → sum_by count (values_of (shapes ns)) ≡ sum_by count (values_of ns)
values_count count same [] = refl
values_count count same (n ∷ ns) =
    sum_by-cons count (node_shape n.1) (values_of (shapes ns)) ∙ ap₂ (λ a b. a + b) (same n.1) (values_count count same ns) ∙ sym (sum_by-cons count n.1 (values_of ns))

pub count_stays : (count : Node → ℕ) (t : FileTree) → ((x : Node) → count (node_shape x) ≡ count x) → count_of count (shape_of t) ≡ count_of count t
count_stays count t same = values_count count same t.nodes

pub small_stays : (x : Node) → small_blocks (node_shape x) ≡ small_blocks x
small_stays (Dir es n) = refl
small_stays (File cells links when) = ap small_blocks_of (length-map cells (λ c. Doubtful))
small_stays (Link target links) = refl

pub large_stays : (x : Node) → large_blocks (node_shape x) ≡ large_blocks x
large_stays (Dir es n) = refl
large_stays (File cells links when) = ap large_blocks_of (length-map cells (λ c. Doubtful))
large_stays (Link target links) = refl

pub file_stays : (x : Node) → file_blocks (node_shape x) ≡ file_blocks x
file_stays (Dir es n) = refl
file_stays (File cells links when) = ap small_blocks_of (length-map cells (λ c. Doubtful))
file_stays (Link target links) = refl

pub dir_stays : (x : Node) → dir_blocks (node_shape x) ≡ dir_blocks x
dir_stays (Dir es n) = refl
dir_stays (File cells links when) = refl
dir_stays (Link target links) = refl

-- the shape takes the same of the disk
pub room_stays : (t : FileTree) → SameRoom (shape_of t) t
room_stays t = record {
  segments = refl;
  nodes = length-map t.nodes (λ n. (n.0, node_shape n.1));
  small = count_stays small_blocks t small_stays;
  files = count_stays file_blocks t file_stays;
  dirs = count_stays dir_blocks t dir_stays;
  large = count_stays large_blocks t large_stays;
}

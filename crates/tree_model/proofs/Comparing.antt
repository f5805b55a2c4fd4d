-- Nodes that are compared as the code compares them: names by their order, shapes by their sizes.
use Rattle.std.proofs.Common.{◌≡◌, ℕ, not, ◌&&◌, ◌==◌, nat_eq, Option, List, [], ◌∷◌, length, map, refl, ◌∙◌, ap, arith}
use Rattle.std.proofs.lemmas.Bool.Decides.{nat_tests}
use Rattle.std.specs.Cmp.Lexicographic.{pointwise, slice_cmp}
use Rattle.std.specs.Ordering.{nat_cmp, eq_by_cmp}
use Rattle.std.specs.Option.{option_map}
use Rattle.std.specs.BTreeMap.{is_at}
use Rattle.std.proofs.lemmas.Map.Text.{is_eq-slice_cmp}
use Rattle.std.proofs.lemmas.Map.Made.{lookup-map_values}
use Rattle.tree_definitions.specs.declared.cells.Cell.{Cell}
use Rattle.tree_definitions.specs.declared.cells.Cell.TheVariants.{Doubtful}
use Rattle.tree_definitions.specs.declared.node.Node.{Node}
use Rattle.tree_definitions.specs.declared.node.Node.TheVariants.{File}
use Rattle.tree_definitions.specs.Tree.{FileTree, node_at}
use Rattle.tree_definitions.specs.Touched.{same_cell, same_node, same_where, node_shape, shape_of, differs}

-- entries of a directory, whose names are compared by their order
pub entries_same : (es fs : List (List ℕ × ℕ)) → pointwise (λ e f. eq_by_cmp (slice_cmp nat_cmp) e.0 f.0 && nat_eq e.1 f.1) es fs ≡ pointwise (λ e f. pointwise nat_eq e.0 f.0 && e.1 == f.1) es fs
entries_same [] [] = refl
entries_same [] (f ∷ fs) = refl
entries_same (e ∷ es) [] = refl
entries_same (e ∷ es) (f ∷ fs) = ap (λ b. (b && nat_eq e.1 f.1) && pointwise (λ e f. eq_by_cmp (slice_cmp nat_cmp) e.0 f.0 && nat_eq e.1 f.1) es fs) (is_eq-slice_cmp e.0 f.0) ∙ ap (λ rest. (pointwise nat_eq e.0 f.0 && nat_eq e.1 f.1) && rest) (entries_same es fs)

pub names_same : (names others : List (List ℕ)) → pointwise (eq_by_cmp (slice_cmp nat_cmp)) names others ≡ pointwise (pointwise nat_eq) names others
names_same [] [] = refl
names_same [] (other ∷ others) = refl
names_same (name ∷ names) [] = refl
names_same (name ∷ names) (other ∷ others) =
    ap (λ b. b && pointwise (eq_by_cmp (slice_cmp nat_cmp)) names others) (is_eq-slice_cmp name other) ∙ ap (λ rest. pointwise nat_eq name other && rest) (names_same names others)

-- cells without their bytes are the same where they are as many
shapes_same : (cs ds : List Cell) → pointwise same_cell (map (λ c. Doubtful) cs) (map (λ c. Doubtful) ds) ≡ nat_eq (length cs) (length ds)
shapes_same [] [] = refl
shapes_same [] (d ∷ ds) = grind (arith, nat_tests)
shapes_same (c ∷ cs) [] = grind (arith, nat_tests)
shapes_same (c ∷ cs) (d ∷ ds) = shapes_same cs ds ∙ grind (arith, nat_tests)

pub files_same : (cs ds : List Cell) (n m w v : ℕ) → same_node (node_shape (File cs n w)) (node_shape (File ds m v)) ≡ (nat_eq (length cs) (length ds) && nat_eq n m && nat_eq w v)
files_same cs ds n m w v = ap (λ b. b && nat_eq n m && nat_eq w v) (shapes_same cs ds)

-- the shape of a node is that of the tree
pub node_at_shape : (tree : FileTree) (birth : ℕ) → node_at (shape_of tree) birth ≡ option_map node_shape (node_at tree birth)
node_at_shape tree birth = lookup-map_values node_shape (is_at (nat_cmp birth)) tree.nodes

pub differs_shape : (old new : FileTree) (birth : ℕ) (a b : Option Node) → node_at old birth ≡ a → node_at new birth ≡ b → differs (shape_of old) (shape_of new) birth ≡ not (same_where (option_map node_shape a) (option_map node_shape b))
differs_shape old new birth a b is_a is_b =
    ap (λ o. not (same_where o (node_at (shape_of new) birth))) (node_at_shape old birth ∙ ap (option_map node_shape) is_a) ∙ ap (λ o. not (same_where (option_map node_shape a) o)) (node_at_shape new birth ∙ ap (option_map node_shape) is_b)

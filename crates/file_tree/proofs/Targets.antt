-- Every symbolic link goes on having a target where one node is changed.
use Rattle.std.proofs.Common.{◌≡◌, ℕ, ◌≤◌, Bool, true, false, cond, Option, Some, None, IfSome, IsTrue, List, sum_by, refl, ap, arith}
use Rattle.std.specs.Option.{option_map, unwrap_or}
use Rattle.std.specs.Map.{values_of}
use Rattle.frang_base.specs.Name.{is_target}
use Rattle.tree_definitions.specs.declared.cells.Cell.{Cell}
use Rattle.tree_definitions.specs.declared.node.Node.{Node}
use Rattle.tree_definitions.specs.declared.node.Node.TheVariants.{Dir, File, Link}
use Rattle.tree_definitions.specs.Tree.{FileTree, node_at}
use Rattle.tree_edits.specs.Counts.{taken_in, IsSwapped}
use Rattle.tree_edits.specs.Edits.{IsEdited, without_name, with_name, with_blocks, with_links, with_cells, with_first, with_doubt}
use Rattle.tree_edits.proofs.Swaps.{taken_le, edited_swapped, edited_le}
use Rattle.file_tree.specs.Proper.{odd_target, HasTarget, HasTargets}

-- a node with a target isn't odd, and the other way round
pub not_odd : (node : Node) → HasTarget node → odd_target node ≡ 0
not_odd (Link target links) h = ap (λ b. cond b 0 1) h
not_odd (Dir entries blocks) h = refl
not_odd (File cells links when) h = refl

has_target : (node : Node) → odd_target node ≡ 0 → HasTarget node
has_target (Link target links) h = go (is_target target) h
  where
    go : (b : Bool) → ◌≡◌ {A = ℕ} (cond b 0 1) 0 → IsTrue b
    go true e = refl
    go false e = cc
has_target (Dir entries blocks) h = tt
has_target (File cells links when) h = tt

-- the node of a birth has one
pub node_has_target : (tree : FileTree) (birth : ℕ) → HasTargets tree → IfSome (node_at tree birth) HasTarget
node_has_target tree birth none = go (node_at tree birth) refl
  where
    few : taken_in odd_target tree.nodes birth ≤ sum_by odd_target (values_of tree.nodes)
    few = taken_le odd_target tree.nodes birth

    go : (o : Option Node) → node_at tree birth ≡ o → IfSome o HasTarget
    go (Some node) found =
        let taken : taken_in odd_target tree.nodes birth ≡ odd_target node = ap (λ o. unwrap_or (option_map odd_target o) 0) found in
        has_target node (omega (arith, few, none, taken))
    go None found = tt

-- a change that leaves no odd node at a birth
pub none_after : (tree : FileTree) (birth : ℕ) (after : List (ℕ × Node)) → HasTargets tree → IsSwapped tree.nodes birth after → taken_in odd_target after birth ≤ taken_in odd_target tree.nodes birth → HasTargets (record { segments = tree.segments; nodes = after })
none_after tree birth after none swapped fewer = omega (arith, none, swapped odd_target, fewer, taken_le odd_target tree.nodes birth)

pub targets_after : (edit : Node → Node) → ((node : Node) → odd_target (edit node) ≤ odd_target node) → (tree : FileTree) (birth : ℕ) (after : List (ℕ × Node)) → HasTargets tree → IsEdited edit tree.nodes birth after → HasTargets (record { segments = tree.segments; nodes = after })
targets_after edit keeps tree birth after none is = none_after tree birth after none (edited_swapped edit tree.nodes birth after is) (edited_le odd_target edit tree.nodes birth after keeps is)

pub name_odd : (name : List ℕ) (node : Node) → odd_target (without_name name node) ≤ odd_target node
name_odd name (Dir entries blocks) = omega arith
name_odd name (File cells links when) = omega arith
name_odd name (Link target links) = omega arith

pub set_name_odd : (name : List ℕ) (birth : ℕ) (node : Node) → odd_target (with_name name birth node) ≤ odd_target node
set_name_odd name birth (Dir entries blocks) = omega arith
set_name_odd name birth (File cells links when) = omega arith
set_name_odd name birth (Link target links) = omega arith

pub blocks_odd : (n : ℕ) (node : Node) → odd_target (with_blocks n node) ≤ odd_target node
blocks_odd n (Dir entries blocks) = omega arith
blocks_odd n (File cells links when) = omega arith
blocks_odd n (Link target links) = omega arith

pub links_odd : (n : ℕ) (node : Node) → odd_target (with_links n node) ≤ odd_target node
links_odd n (Dir entries blocks) = omega arith
links_odd n (File cells links when) = omega arith
links_odd n (Link target links) = omega arith

pub cells_odd : (when off : ℕ) (new : List Cell) (node : Node) → odd_target (with_cells when off new node) ≤ odd_target node
cells_odd when off new (Dir entries blocks) = omega arith
cells_odd when off new (File cells links before) = omega arith
cells_odd when off new (Link target links) = omega arith

pub first_odd : (when len : ℕ) (node : Node) → odd_target (with_first when len node) ≤ odd_target node
first_odd when len (Dir entries blocks) = omega arith
first_odd when len (File cells links before) = omega arith
first_odd when len (Link target links) = omega arith

pub doubt_odd : (from count : ℕ) (node : Node) → odd_target (with_doubt from count node) ≤ odd_target node
doubt_odd from count (Dir entries blocks) = omega arith
doubt_odd from count (File cells links when) = omega arith
doubt_odd from count (Link target links) = omega arith

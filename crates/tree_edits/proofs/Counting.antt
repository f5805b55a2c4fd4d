-- The counts of a tree stay right where one node is changed.
use Rattle.std.proofs.Common.{◌≡◌, ℕ, ◌+◌, ◌≤◌, take, Option, Some, None, List, [], ◌∷◌, length, sum_by, sym, refl, ◌∙◌, ap, subst, arith, IfSome}
use Rattle.std.specs.Option.{option_map, unwrap_or}
use Rattle.std.specs.Ordering.{nat_cmp}
use Rattle.std.specs.Map.{lookup, values_of}
use Rattle.std.specs.BTreeMap.{is_at}
use Rattle.std.proofs.lemmas.Bool.Decides.{nat_tests}
use Rattle.std.proofs.lemmas.List.{length-append, length-map, length-take, length-drop}
use Rattle.std.proofs.lemmas.List.Sums.{sum_by-cons}
use Rattle.tree_definitions.specs.declared.cells.Cell.{Cell}
use Rattle.tree_definitions.specs.declared.node.Node.{Node}
use Rattle.tree_definitions.specs.declared.node.Node.TheVariants.{Dir, File, Link}
use Rattle.tree_definitions.proofs.NodeBlocks.{small_blocks_are}
use Rattle.tree_definitions.specs.Tree.{FileTree, node_at, file_blocks, dir_blocks, large_blocks, small_blocks, small_blocks_of, large_blocks_of}
use Rattle.tree_definitions.specs.History.{doubted_cells}
use Rattle.tree_edits.specs.declared.counts.Blocks.{Blocks}
use Rattle.tree_edits.specs.Counts.{blocks_of, taken_in, blocks_in, IsSwapped, IsWithin, IsCounted, HasRoom, CanCount, Counts}
use Rattle.tree_edits.specs.Edits.{IsEdited, without_name, with_name, with_links, with_first, with_doubt}
use Rattle.tree_edits.proofs.Swaps.{taken_le, found_edited, edited_swapped, edited_le, edited_same}

-- the small blocks are those of directories and those of files
pub small_blocks_both : (nodes : List (ℕ × Node)) → sum_by small_blocks (values_of nodes) ≡ sum_by dir_blocks (values_of nodes) + sum_by file_blocks (values_of nodes)
small_blocks_both [] = refl
small_blocks_both (n ∷ nodes) =
    let rest = small_blocks_both nodes in
    let values = values_of nodes in
    omega (arith, rest, small_blocks_are n.1, sum_by-cons small_blocks n.1 values, sum_by-cons dir_blocks n.1 values, sum_by-cons file_blocks n.1 values)

module _ (tree : FileTree) (taken before after : Blocks) (birth : ℕ) (nodes : List (ℕ × Node)) where
  pub can_count : IsCounted taken tree → before ≡ blocks_in tree.nodes birth → after ≡ blocks_in nodes birth → HasRoom tree birth (blocks_in nodes birth) → CanCount taken before after
  can_count counted was is room =
      let within = counted.within in
      let few = within.few in
      let f = taken_le file_blocks tree.nodes birth in
      let d = taken_le dir_blocks tree.nodes birth in
      let l = taken_le large_blocks tree.nodes birth in
      let bf = ap (λ b. b.files) was in
      let bd = ap (λ b. b.dirs) was in
      let bl = ap (λ b. b.larges) was in
      let af = ap (λ b. b.files) is in
      let ad = ap (λ b. b.dirs) is in
      let al = ap (λ b. b.larges) is in
      record { files = omega arith; files_fit = omega arith; dirs = omega arith; dirs_fit = omega arith; larges = omega arith; larges_fit = omega arith }

  pub counted_after : (result : Blocks) → IsCounted taken tree → IsSwapped tree.nodes birth nodes → before ≡ blocks_in tree.nodes birth → after ≡ blocks_in nodes birth → HasRoom tree birth (blocks_in nodes birth) → Counts taken before after result
      → IsCounted result (record { segments = tree.segments; nodes = nodes })
  counted_after result counted swapped was is room counts =
      let within = counted.within in
      let few = within.few in
      let f = swapped file_blocks in
      let d = swapped dir_blocks in
      let l = swapped large_blocks in
      let bf = ap (λ b. b.files) was in
      let bd = ap (λ b. b.dirs) was in
      let bl = ap (λ b. b.larges) was in
      let af = ap (λ b. b.files) is in
      let ad = ap (λ b. b.dirs) is in
      let al = ap (λ b. b.larges) is in
      record {
        files = omega arith;
        dirs = omega arith;
        larges = omega arith;
        within = record { few = within.few; files = omega arith; dirs = omega arith; larges = omega arith };
      }

-- what takes no more than before has room
pub shrunk_room : (tree : FileTree) (birth : ℕ) (blocks : Blocks) → IsWithin tree → blocks.files ≤ taken_in file_blocks tree.nodes birth → blocks.dirs ≤ taken_in dir_blocks tree.nodes birth → blocks.larges ≤ taken_in large_blocks tree.nodes birth → HasRoom tree birth blocks
shrunk_room tree birth blocks within f d l =
    let files_in = within.files in
    let dirs_in = within.dirs in
    let larges_in = within.larges in
    record { files = omega arith; dirs = omega arith; larges = omega arith }

-- an edit of a node that takes what it took
module _ (edit : Node → Node) (same : (node : Node) → blocks_of (edit node) ≡ blocks_of node) where
  pub same_counted : (tree : FileTree) (taken : Blocks) (birth : ℕ) (nodes : List (ℕ × Node)) → IsCounted taken tree → IsEdited edit tree.nodes birth nodes → IsCounted taken (record { segments = tree.segments; nodes = nodes })
  same_counted tree taken birth nodes counted is =
      let f = edited_same file_blocks edit tree.nodes birth nodes (λ node. ap (λ b. b.files) (same node)) is in
      let d = edited_same dir_blocks edit tree.nodes birth nodes (λ node. ap (λ b. b.dirs) (same node)) is in
      let l = edited_same large_blocks edit tree.nodes birth nodes (λ node. ap (λ b. b.larges) (same node)) is in
      let stays : blocks_in tree.nodes birth ≡ blocks_in nodes birth = cc in
      let room = shrunk_room tree birth (blocks_in nodes birth) counted.within (omega arith) (omega arith) (omega arith) in
      counted_after tree taken (blocks_in tree.nodes birth) (blocks_in tree.nodes birth) birth nodes taken counted (edited_swapped edit tree.nodes birth nodes is) refl stays room (record { files = refl; dirs = refl; larges = refl })

pub name_same : (name : List ℕ) (node : Node) → blocks_of (without_name name node) ≡ blocks_of node
name_same name (Dir entries blocks) = refl
name_same name (File cells links when) = refl
name_same name (Link target links) = refl

pub set_name_same : (name : List ℕ) (birth : ℕ) (node : Node) → blocks_of (with_name name birth node) ≡ blocks_of node
set_name_same name birth (Dir entries blocks) = refl
set_name_same name birth (File cells links when) = refl
set_name_same name birth (Link target links) = refl

pub links_same : (n : ℕ) (node : Node) → blocks_of (with_links n node) ≡ blocks_of node
links_same n (Dir entries blocks) = refl
links_same n (File cells links when) = refl
links_same n (Link target links) = refl

-- cells in doubt are as many
as_many : (from count : ℕ) (cells : List Cell) → length (doubted_cells cells from count) ≡ length cells
as_many from count cells = simp (length-append, length-map, length-take, length-drop) (omega arith)

pub doubt_same : (from count : ℕ) (node : Node) → blocks_of (with_doubt from count node) ≡ blocks_of node
doubt_same from count (File cells links when) = ap (λ n. record { files = small_blocks_of n; dirs = 0; larges = large_blocks_of n }) (as_many from count cells)
doubt_same from count (Dir entries blocks) = refl
doubt_same from count (Link target links) = refl

-- fewer bytes take no more blocks
fewer_small : (m n : ℕ) → m ≤ n → small_blocks_of m ≤ small_blocks_of n
fewer_small m n h = omega arith

fewer_large : (m n : ℕ) → m ≤ n → large_blocks_of m ≤ large_blocks_of n
fewer_large m n h = grind (arith, nat_tests)

first_le : (len : ℕ) (cells : List Cell) → length (take len cells) ≤ length cells
first_le len cells = omega (arith, length-take len cells)

first_files : (when len : ℕ) (node : Node) → file_blocks (with_first when len node) ≤ file_blocks node
first_files when len (File cells links before) = fewer_small _ _ (first_le len cells)
first_files when len (Dir entries blocks) = omega arith
first_files when len (Link target links) = omega arith

first_dirs : (when len : ℕ) (node : Node) → dir_blocks (with_first when len node) ≤ dir_blocks node
first_dirs when len (File cells links before) = omega arith
first_dirs when len (Dir entries blocks) = omega arith
first_dirs when len (Link target links) = omega arith

first_larges : (when len : ℕ) (node : Node) → large_blocks (with_first when len node) ≤ large_blocks node
first_larges when len (File cells links before) = fewer_large _ _ (first_le len cells)
first_larges when len (Dir entries blocks) = omega arith
first_larges when len (Link target links) = omega arith

pub cut_room : (when len : ℕ) (tree : FileTree) (birth : ℕ) (nodes : List (ℕ × Node)) → IsWithin tree → IsEdited (with_first when len) tree.nodes birth nodes → HasRoom tree birth (blocks_in nodes birth)
cut_room when len tree birth nodes within is =
    shrunk_room tree birth (blocks_in nodes birth) within (edited_le file_blocks (with_first when len) tree.nodes birth nodes (first_files when len) is) (edited_le dir_blocks (with_first when len) tree.nodes birth nodes (first_dirs when len) is)
    (edited_le large_blocks (with_first when len) tree.nodes birth nodes (first_larges when len) is)

-- what is asked for the edited node is asked for what is there then
pub edited_room : (edit : Node → Node) (tree : FileTree) (birth : ℕ) (nodes : List (ℕ × Node)) → IsWithin tree → IfSome (node_at tree birth) (λ node. HasRoom tree birth (blocks_of (edit node))) → IsEdited edit tree.nodes birth nodes → HasRoom tree birth (blocks_in nodes birth)
edited_room edit tree birth nodes within asked is = go (node_at tree birth) refl asked
  where
    go : (o : Option Node) → node_at tree birth ≡ o → IfSome o (λ node. HasRoom tree birth (blocks_of (edit node))) → HasRoom tree birth (blocks_in nodes birth)
    go (Some node) found room =
        let now : lookup (is_at (nat_cmp birth)) nodes ≡ Some (edit node) = found_edited edit tree.nodes birth nodes is ∙ ap (option_map edit) found in
        subst (HasRoom tree birth) (ap (λ o. record { files = unwrap_or (option_map file_blocks o) 0; dirs = unwrap_or (option_map dir_blocks o) 0; larges = unwrap_or (option_map large_blocks o) 0 }) (sym now)) room
    go None found room =
        let now : lookup (is_at (nat_cmp birth)) nodes ≡ None = found_edited edit tree.nodes birth nodes is ∙ ap (option_map edit) found in
        let none : blocks_in nodes birth ≡ record { files = 0; dirs = 0; larges = 0 }
        = ap (λ o. record { files = unwrap_or (option_map file_blocks o) 0; dirs = unwrap_or (option_map dir_blocks o) 0; larges = unwrap_or (option_map large_blocks o) 0 }) now in
        subst (HasRoom tree birth) (sym none) (shrunk_room tree birth (record { files = 0; dirs = 0; larges = 0 }) within (omega arith) (omega arith) (omega arith))

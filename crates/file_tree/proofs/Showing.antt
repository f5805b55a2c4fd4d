-- Bytes that the cells of a file show can be put in their place.
use Rattle.std.proofs.Common.{◌≡◌, ℕ, ◌+◌, ◌≤◌, true, Option, Some, None, IfSome, List, [], ◌∷◌, length, map, take, drop, sym, refl, ap, subst, arith, ◌<◌, false}
use Rattle.std.proofs.lemmas.Bool.{and_parts, false_from_ne_true}
use Rattle.std.proofs.lemmas.Bool.Decides.{nat_tests}
use Rattle.std.proofs.lemmas.List.{length-append, length-take, length-drop, length-map}
use Rattle.tree_definitions.specs.declared.cells.Cell.{Cell}
use Rattle.tree_definitions.specs.declared.cells.Cell.TheVariants.{Byte}
use Rattle.tree_definitions.specs.declared.node.Node.{Node}
use Rattle.tree_definitions.specs.declared.node.Node.TheVariants.{Dir, File, Link}
use Rattle.tree_definitions.specs.Tree.{FileTree, node_at, small_blocks_of, large_blocks_of}
use Rattle.tree_definitions.specs.Apply.{overwritten}
use Rattle.tree_definitions.specs.History.{cell_shows, cells_show, file_of}
use Rattle.tree_edits.specs.Counts.{blocks_of, IsWithin, HasRoom}
use Rattle.tree_edits.specs.Edits.{with_cells, CanPut}
use Rattle.file_tree.specs.Shown.{file_shows}
use Rattle.file_tree.proofs.Rooms.{same_room}

-- cells that show bytes are as many
shows_length : (cells : List Cell) (bytes : List ℕ) → cells_show cells bytes ≡ true → length cells ≡ length bytes
shows_length [] [] h = refl
shows_length [] (b ∷ bytes) h = cc
shows_length (c ∷ cells) [] h = cc
shows_length (c ∷ cells) (b ∷ bytes) h = let rest = shows_length cells bytes (and_parts (cell_shows c b) (cells_show cells bytes) h).1 in omega arith

-- too few bytes aren't shown
pub too_few : (cells : List Cell) (bytes : List ℕ) → length bytes < length cells → cells_show cells bytes ≡ false
too_few cells bytes less = false_from_ne_true (cells_show cells bytes) (λ h. (let e = shows_length cells bytes h in omega arith))

-- so they end where the file does, or before
shown_ends : (cells : List Cell) (off len : ℕ) (bytes : List ℕ) → off ≤ length cells → cells_show (take len (drop off cells)) bytes ≡ true → off + length (map Byte bytes) ≤ length cells
shown_ends cells off len bytes begins h = simp length-map (omega (arith, shows_length (take len (drop off cells)) bytes h, length-take len (drop off cells), length-drop off cells))

pub shown_fits : (tree : FileTree) (birth off len links when : ℕ) (bytes : List ℕ) (cells : List Cell) → node_at tree birth ≡ Some (File cells links when) → off ≤ length cells → length cells ≤ 1114112 → cells_show (take len (drop off cells)) bytes ≡ true
    → IfSome (node_at tree birth) (CanPut off (map Byte bytes))
shown_fits tree birth off len links when bytes cells found begins small h =
    let ends = shown_ends cells off len bytes begins h in
    let fits : off + length (map Byte bytes) ≤ 1114112 = omega arith in
    subst (λ o. IfSome o (CanPut off (map Byte bytes))) (sym found) (begins, fits)

-- the size stays
same_size : (cells new : List Cell) (off : ℕ) → off + length new ≤ length cells → length (overwritten cells off new) ≡ length cells
same_size cells new off ends = simp (length-append, length-take, length-drop) (omega arith)

pub shown_room : (tree : FileTree) (birth at off len : ℕ) (bytes : List ℕ) → IsWithin tree → file_shows (file_of birth (node_at tree birth)) off len bytes ≡ true
    → IfSome (node_at tree birth) (λ node. HasRoom tree birth (blocks_of (with_cells at off (map Byte bytes) node)))
shown_room tree birth at off len bytes within h = go (node_at tree birth) refl h
  where
    new : List Cell
    new = map Byte bytes

    go : (o : Option Node) → node_at tree birth ≡ o → file_shows (file_of birth o) off len bytes ≡ true → IfSome o (λ node. HasRoom tree birth (blocks_of (with_cells at off new node)))
    go (Some (File cells links when)) found is =
        let begins : off ≤ length cells = grind (arith, nat_tests, is) in
        let shows : cells_show (take len (drop off cells)) bytes ≡ true = grind (arith, nat_tests, is) in
        let size = same_size cells new off (shown_ends cells off len bytes begins shows) in
        same_room tree birth (File cells links when) (File (overwritten cells off new) links at) within found
        (ap (λ n. record { files = small_blocks_of n; dirs = 0; larges = large_blocks_of n }) size)
    go (Some (Dir entries blocks)) found is = cc
    go (Some (Link target links)) found is = cc
    go None found is = tt

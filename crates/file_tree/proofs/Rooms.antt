-- There is room for a directory that grows, also where another node was changed before.
use Rattle.std.proofs.Common.{◌≡◌, ℕ, ◌+◌, ◌*◌, ◌≤◌, ◌<◌, Bool, true, false, cond, Option, Some, None, ◌⊎◌, inl, inr, ⊎_elim, IsSome, sym, refl, ◌∙◌, ap, subst, arith}
use Rattle.std.specs.Option.{option_map, unwrap_or}
use Rattle.std.proofs.lemmas.Bool.{cases_eq}
use Rattle.std.proofs.lemmas.Bool.Decides.{nat_tests}
use Rattle.tree_definitions.specs.declared.node.Node.{Node}
use Rattle.tree_definitions.specs.declared.node.Node.TheVariants.{Dir}
use Rattle.tree_definitions.specs.Entries.{Entries}
use Rattle.tree_definitions.specs.Tree.{FileTree, node_at, with_node, file_blocks, dir_blocks, large_blocks, count_of, must_grow, grown, lacks_block, blocks_full}
use Rattle.tree_definitions.specs.Apply.{is_dir}
use Rattle.tree_edits.specs.declared.counts.Blocks.{Blocks}
use Rattle.tree_edits.specs.Counts.{blocks_of, taken_in, IsSwapped, IsWithin, HasRoom}
use Rattle.tree_edits.specs.Edits.{edited, edited_by, with_links}
use Rattle.file_tree.proofs.Finds.{found_here, found_elsewhere}
use Rattle.tree_edits.proofs.Counting.{small_blocks_both, shrunk_room, links_same}

abbrev pub nothing : Blocks
nothing = record { files = 0; dirs = 0; larges = 0 }

-- a node that takes nothing has room everywhere
pub bare_room : (tree : FileTree) (birth : ℕ) (node : Node) → IsWithin tree → blocks_of node ≡ nothing → HasRoom tree birth (blocks_of node)
bare_room tree birth node within bare = subst (HasRoom tree birth) (sym bare) (shrunk_room tree birth nothing within (omega arith) (omega arith) (omega arith))

-- one that takes what was there
pub same_room : (tree : FileTree) (birth : ℕ) (node new : Node) → IsWithin tree → node_at tree birth ≡ Some node → blocks_of new ≡ blocks_of node → HasRoom tree birth (blocks_of new)
same_room tree birth node new within found same =
    let f : taken_in file_blocks tree.nodes birth ≡ file_blocks node = ap (λ o. unwrap_or (option_map file_blocks o) 0) found in
    let d : taken_in dir_blocks tree.nodes birth ≡ dir_blocks node = ap (λ o. unwrap_or (option_map dir_blocks o) 0) found in
    let l : taken_in large_blocks tree.nodes birth ≡ large_blocks node = ap (λ o. unwrap_or (option_map large_blocks o) 0) found in
    subst (HasRoom tree birth) (sym same) (shrunk_room tree birth (blocks_of node) within (omega arith) (omega arith) (omega arith))

-- a directory that gets one entry more
pub grown_room : (tree : FileTree) (dir : ℕ) (entries more : Entries) (blocks : ℕ) → IsWithin tree → node_at tree dir ≡ Some (Dir entries blocks) → lacks_block tree entries blocks ≡ false → HasRoom tree dir (blocks_of (Dir more (grown entries blocks)))
grown_room tree dir entries more blocks within found lacks = go (must_grow entries blocks) lacks
  where
    files_in : count_of file_blocks tree ≤ 1024 * tree.segments
    files_in = within.files

    dirs_in : count_of dir_blocks tree ≤ 1024 * tree.segments
    dirs_in = within.dirs

    larges_in : count_of large_blocks tree ≤ tree.segments
    larges_in = within.larges

    had : taken_in dir_blocks tree.nodes dir ≡ blocks
    had = ap (λ o. unwrap_or (option_map dir_blocks o) 0) found

    not_full : blocks_full tree ≡ false → count_of dir_blocks tree < 1024 * tree.segments
    not_full h = grind (arith, nat_tests, small_blocks_both tree.nodes, h)

    go : (b : Bool) → cond b (blocks_full tree) false ≡ false → HasRoom tree dir (record { files = 0; dirs = cond b (blocks + 1) blocks; larges = 0 })
    go true h =
        let less = not_full h in
        let f = files_in in
        let l = larges_in in
        let d = had in
        record { files = omega arith; dirs = omega arith; larges = omega arith }
    go false h =
        let f = files_in in
        let l = larges_in in
        let d = had in
        let e = dirs_in in
        record { files = omega arith; dirs = omega arith; larges = omega arith }

-- room stays where another node, or the same one, came to take no more
pub room_after : (tree after : FileTree) (birth dir : ℕ) (blocks : Blocks) → after.segments ≡ tree.segments → IsSwapped tree.nodes birth after.nodes
    → taken_in file_blocks after.nodes birth ≤ taken_in file_blocks tree.nodes birth → taken_in dir_blocks after.nodes birth ≤ taken_in dir_blocks tree.nodes birth → taken_in large_blocks after.nodes birth ≤ taken_in large_blocks tree.nodes birth
    → (birth ≡ dir) ⊎ (node_at after dir ≡ node_at tree dir) → HasRoom tree dir blocks → HasRoom after dir blocks
room_after tree after birth dir blocks segments swapped files dirs larges which room = ⊎_elim same other which
  where
    same : birth ≡ dir → HasRoom after dir blocks
    same e =
        let f = swapped file_blocks in
        let d = swapped dir_blocks in
        let l = swapped large_blocks in
        let f0 = ap (taken_in file_blocks tree.nodes) e in
        let d0 = ap (taken_in dir_blocks tree.nodes) e in
        let l0 = ap (taken_in large_blocks tree.nodes) e in
        let f1 = ap (taken_in file_blocks after.nodes) e in
        let d1 = ap (taken_in dir_blocks after.nodes) e in
        let l1 = ap (taken_in large_blocks after.nodes) e in
        let rf = room.files in
        let rd = room.dirs in
        let rl = room.larges in
        record { files = omega arith; dirs = omega arith; larges = omega arith }

    other : node_at after dir ≡ node_at tree dir → HasRoom after dir blocks
    other e =
        let f = swapped file_blocks in
        let d = swapped dir_blocks in
        let l = swapped large_blocks in
        let f1 : taken_in file_blocks after.nodes dir ≡ taken_in file_blocks tree.nodes dir = ap (λ o. unwrap_or (option_map file_blocks o) 0) e in
        let d1 : taken_in dir_blocks after.nodes dir ≡ taken_in dir_blocks tree.nodes dir = ap (λ o. unwrap_or (option_map dir_blocks o) 0) e in
        let l1 : taken_in large_blocks after.nodes dir ≡ taken_in large_blocks tree.nodes dir = ap (λ o. unwrap_or (option_map large_blocks o) 0) e in
        let rf = room.files in
        let rd = room.dirs in
        let rl = room.larges in
        record { files = omega arith; dirs = omega arith; larges = omega arith }

-- after a node that takes nothing was put
pub put_room : (tree after : FileTree) (birth dir : ℕ) (node : Node) (blocks : Blocks) → blocks_of node ≡ nothing → after ≡ with_node tree birth node → IsSwapped tree.nodes birth after.nodes → HasRoom tree dir blocks → HasRoom after dir blocks
put_room tree after birth dir node blocks bare is swapped room =
    let here : node_at after birth ≡ Some node = ap (λ t. node_at t birth) is ∙ found_here tree birth node in
    let f : taken_in file_blocks after.nodes birth ≡ 0 = ap (λ o. unwrap_or (option_map file_blocks o) 0) here ∙ ap (λ b. b.files) bare in
    let d : taken_in dir_blocks after.nodes birth ≡ 0 = ap (λ o. unwrap_or (option_map dir_blocks o) 0) here ∙ ap (λ b. b.dirs) bare in
    let l : taken_in large_blocks after.nodes birth ≡ 0 = ap (λ o. unwrap_or (option_map large_blocks o) 0) here ∙ ap (λ b. b.larges) bare in
    room_after tree after birth dir blocks (ap (λ t. t.segments) is) swapped (omega arith) (omega arith) (omega arith)
    (⊎_elim inl (λ differ. inr (ap (λ t. node_at t dir) is ∙ found_elsewhere tree birth dir node (λ same. differ (sym same)))) (cases_eq birth dir)) room

-- and the directory is still there, or the node
pub put_there : (tree after : FileTree) (birth dir : ℕ) (node old : Node) → after ≡ with_node tree birth node → node_at tree dir ≡ Some old → IsSome (node_at after dir)
put_there tree after birth dir node old is found = ⊎_elim same other (cases_eq birth dir)
  where
    some : (o : Option Node) (n : Node) → o ≡ Some n → IsSome o
    some o n e = subst IsSome (sym e) refl

    same : birth ≡ dir → IsSome (node_at after dir)
    same e = some _ node (ap (λ t. node_at t dir) is ∙ ap (node_at (with_node tree birth node)) (sym e) ∙ found_here tree birth node)

    other : (birth ≡ dir → ⊥) → IsSome (node_at after dir)
    other differ = some _ old (ap (λ t. node_at t dir) is ∙ found_elsewhere tree birth dir node (λ e. differ (sym e)) ∙ found)

-- a node that is no directory isn't one that is
pub no_dir : (tree : FileTree) (birth dir : ℕ) (entries : Entries) (blocks : ℕ) → node_at tree dir ≡ Some (Dir entries blocks) → is_dir (node_at tree birth) ≡ false → dir ≡ birth → ⊥
no_dir tree birth dir entries blocks found none same =
    let there : is_dir (node_at tree birth) ≡ true = ap (λ b. is_dir (node_at tree b)) (sym same) ∙ ap is_dir found in
    cc

-- elsewhere than at a birth that is edited nothing changes
pub elsewhere_edited : (tree : FileTree) (birth q : ℕ) (edit : Node → Node) → (q ≡ birth → ⊥) → node_at (edited tree birth edit) q ≡ node_at tree q
elsewhere_edited tree birth q edit differ = go (node_at tree birth)
  where
    go : (o : Option Node) → node_at (edited_by tree birth edit o) q ≡ node_at tree q
    go (Some node) = found_elsewhere tree birth q (edit node) differ
    go None = refl

pub here_edited : (tree : FileTree) (birth : ℕ) (edit : Node → Node) → node_at (edited tree birth edit) birth ≡ option_map edit (node_at tree birth)
here_edited tree birth edit = go (node_at tree birth) refl
  where
    go : (o : Option Node) → node_at tree birth ≡ o → node_at (edited_by tree birth edit o) birth ≡ option_map edit o
    go (Some node) found = found_here tree birth (edit node)
    go None found = found

segments_edited : (tree : FileTree) (birth : ℕ) (edit : Node → Node) → (edited tree birth edit).segments ≡ tree.segments
segments_edited tree birth edit = go (node_at tree birth)
  where
    go : (o : Option Node) → (edited_by tree birth edit o).segments ≡ tree.segments
    go (Some node) = refl
    go None = refl

-- after the number of a node's names was changed
pub links_room : (tree after : FileTree) (birth dir n : ℕ) (blocks : Blocks) → after ≡ edited tree birth (with_links n) → IsSwapped tree.nodes birth after.nodes → (dir ≡ birth → ⊥) → HasRoom tree dir blocks → HasRoom after dir blocks
links_room tree after birth dir n blocks is swapped differ room =
    let now : node_at after birth ≡ option_map (with_links n) (node_at tree birth) = ap (λ t. node_at t birth) is ∙ here_edited tree birth (with_links n) in
    let f : taken_in file_blocks after.nodes birth ≡ taken_in file_blocks tree.nodes birth = ap (λ o. unwrap_or (option_map file_blocks o) 0) now ∙ files (node_at tree birth) in
    let d : taken_in dir_blocks after.nodes birth ≡ taken_in dir_blocks tree.nodes birth = ap (λ o. unwrap_or (option_map dir_blocks o) 0) now ∙ dirs (node_at tree birth) in
    let l : taken_in large_blocks after.nodes birth ≡ taken_in large_blocks tree.nodes birth = ap (λ o. unwrap_or (option_map large_blocks o) 0) now ∙ larges (node_at tree birth) in
    room_after tree after birth dir blocks (ap (λ t. t.segments) is ∙ segments_edited tree birth (with_links n)) swapped (omega arith) (omega arith) (omega arith) (inr (ap (λ t. node_at t dir) is ∙ elsewhere_edited tree birth dir (with_links n) differ)) room
  where
    files : (o : Option Node) → unwrap_or (option_map file_blocks (option_map (with_links n) o)) 0 ≡ unwrap_or (option_map file_blocks o) 0
    files (Some node) = ap (λ b. b.files) (links_same n node)
    files None = refl

    dirs : (o : Option Node) → unwrap_or (option_map dir_blocks (option_map (with_links n) o)) 0 ≡ unwrap_or (option_map dir_blocks o) 0
    dirs (Some node) = ap (λ b. b.dirs) (links_same n node)
    dirs None = refl

    larges : (o : Option Node) → unwrap_or (option_map large_blocks (option_map (with_links n) o)) 0 ≡ unwrap_or (option_map large_blocks o) 0
    larges (Some node) = ap (λ b. b.larges) (links_same n node)
    larges None = refl

-- The plans of the operations on names make small records.
use Rattle.std.proofs.Common.{ℕ, ◌≡◌, ◌≤◌, ◌+◌, ◌==◌, ◌&&◌, not, Bool, true, false, nat_le, nat_lt, if◌then◌else◌, Option, Some, None, List, [], ◌∷◌, ◌++◌, refl, arith}
use Rattle.std.specs.Map.{keys_of}
use Rattle.frang_base.specs.declared.reply.Reply.{Reply}
use Rattle.frang_base.specs.declared.reply.Reply.TheVariants as reply
use Rattle.tree_definitions.specs.declared.node.Node.{Node}
use Rattle.disk_definitions.specs.Store.{Store, StoredNode, StoredEntry}
use Rattle.disk_definitions.specs.Naming.{kind_of}
use Rattle.disk_definitions.specs.Changes.{new_node, take_entry, replace_entry, relink}
use Rattle.disk_definitions.specs.Picks.{picked_inode}
use Rattle.disk_definitions.specs.Ask.{Got, ReadInode, ReadDirectory, bind, run}
use Rattle.disk_definitions.specs.Walks.{Spot, walk}
use Rattle.disk_definitions.specs.Walks.Spot.{AtRoot, AtName, AtGap, Lost}
use Rattle.disk_definitions.specs.Plans.{Hand, Plan, Finish, Room, refuse, refused, none_left, read_held, find_room, finish_in, enter, must_clear, is_full, shared_nodes, sole_segments}
use Rattle.disk_definitions.specs.Plans.Plan.{Lacks, Clears, Finishes}
use Rattle.disk_definitions.specs.Plans.Room.{Inside, InBlock, NoRoom}
use Rattle.disk_definitions.specs.NamePlans.{made_by, making_in, making_with, making, plan_made, linked_by, linking_in, linking_node, linking_to, linking, plan_linked, fewer, fewer_segments, finish_over, removed_by, unlinking_node, unlinking, plan_unlinked, removing_node, removing, plan_dir_removed, Moving, renamed_entry, moved_onto_by, replacing_node, moving_onto, moved_within, moved_between, moving_in, moving_to, goes_through, renaming_to, renaming, plan_renamed}
use Rattle.plan_laws.proofs.Asking.{run-bind, run-segments}
use Rattle.plan_fit.proofs.Bounds.{AreSmall}
use Rattle.plan_fit.proofs.EditBudgets.{small_within, within_join, no_edits, new_within, take_within, replace_within, relink_within, enter_within, fewer_within}

-- what it finishes makes a small record
abbrev pub MakesSmall : Plan → Type 0
MakesSmall Lacks = Unit {0}
MakesSmall (Clears k locks) = Unit {0}
MakesSmall (Finishes f) = AreSmall f.edits

-- ---- refusals

pub refuse_small : (r : Reply) (touched : List ℕ) → MakesSmall (refuse r touched)
refuse_small r touched = small_within [] 0 0 (omega arith) (omega arith) no_edits

pub none_small : (h : Hand) (s : Store) (r : Reply) (touched : List ℕ) → MakesSmall (run (none_left h r touched) s)
none_small h s r touched = go h.all
  where
    go : (b : Bool) → MakesSmall (run (Got (if b then Finishes (record { reply = r; edits = []; locks = shared_nodes touched ++ sole_segments (keys_of h.held) }) else Lacks)) s)
    go true = small_within [] 0 0 (omega arith) (omega arith) no_edits
    go false = tt

-- the nodes of a store have at most 16 blocks
abbrev pub HasFewBlocks : Store → Type 0
HasFewBlocks s = (i : ℕ) (x : StoredNode) → s.inode i ≡ Some x → x.blocks ≤ 16

module _ (h : Hand) (s : Store) where
  room_small : (room : Room) (f : Finish) → AreSmall f.edits → MakesSmall (run (finish_in h room f) s)
  room_small NoRoom f c = c
  room_small (Inside q) f c = c
  room_small (InBlock k) f c = go (must_clear h k)
    where
      go : (b : Bool) → MakesSmall (run (if b then Got (Clears k f.locks) else ReadDirectory k 0 (λ p. Got (Finishes f))) s)
      go true = tt
      go false = c

  -- ---- create, mkdir, symlink
  module _ (i : ℕ) (x : StoredNode) (name : List ℕ) (birth : ℕ) (node : Node) (dirs : List ℕ) where
    made_small : (j : ℕ) (room : Room) → AreSmall (made_by i x name birth node dirs j room).edits
    made_small j room =
        let e : StoredEntry = record { name = name; inode = j; kind = kind_of node } in
        small_within (new_node j birth node ++ enter i x e room) (2 + 4) (1338 + 1681) (omega arith) (omega arith)
        (within_join (new_node j birth node) (enter i x e room) 2 1338 4 1681 (new_within j birth node) (enter_within i x e room))

    making_in_small : (j : ℕ) (room : Room) → MakesSmall (run (making_in h i x name birth node dirs j room) s)
    making_in_small j NoRoom = none_small h s reply.NoDirBlock dirs
    making_in_small j (Inside q) = room_small (Inside q) (made_by i x name birth node dirs j (Inside q)) (made_small j (Inside q))
    making_in_small j (InBlock k) = room_small (InBlock k) (made_by i x name birth node dirs j (InBlock k)) (made_small j (InBlock k))

    making_with_small : (o : Option ℕ) → MakesSmall (run (making_with h i x name birth node dirs o) s)
    making_with_small None = none_small h s reply.NoInode dirs
    making_with_small (Some j) = rw (run-bind (find_room h x) (making_in h i x name birth node dirs j) s) (making_in_small j (run (find_room h x) s))

  making_small : (birth : ℕ) (node : Node) (dirs : List ℕ) (v : Spot) → MakesSmall (run (making h birth node dirs v) s)
  making_small birth node dirs AtRoot = refuse_small reply.Exist dirs
  making_small birth node dirs (Lost r) = refuse_small r dirs
  making_small birth node dirs (AtName i x name q e) = refuse_small reply.Exist dirs
  making_small birth node dirs (AtGap i x name) = go (is_full x)
    where
      go : (b : Bool) → MakesSmall (run (if b then refused reply.DirFull dirs else read_held h (making_with h i x name birth node dirs (picked_inode h.held))) s)
      go true = refuse_small reply.DirFull dirs
      go false = rw (run-segments (keys_of h.held) (making_with h i x name birth node dirs (picked_inode h.held)) s) (making_with_small i x name birth node dirs (picked_inode h.held))

  pub made_path_small : (birth : ℕ) (node : Node) (path : List (List ℕ)) → MakesSmall (run (plan_made h birth node path) s)
  made_path_small birth node path = let w = run (walk path) s in rw (run-bind (walk path) (λ w. making h birth node w.dirs w.spot) s) (making_small birth node w.dirs w.spot)

  -- ---- link
  module _ (i : ℕ) (x : StoredNode) (name : List ℕ) (j : ℕ) (dirs : List ℕ) where
    linked_small : (y : StoredNode) (room : Room) → AreSmall (linked_by i x name j y dirs room).edits
    linked_small y room =
        let e : StoredEntry = record { name = name; inode = j; kind = y.kind } in
        small_within (relink j y (y.links + 1) ++ enter i x e room) (1 + 4) (1280 + 1681) (omega arith) (omega arith)
        (within_join (relink j y (y.links + 1)) (enter i x e room) 1 1280 4 1681 (relink_within j y (y.links + 1)) (enter_within i x e room))

    linking_in_small : (y : StoredNode) (room : Room) → MakesSmall (run (linking_in h i x name j y dirs room) s)
    linking_in_small y NoRoom = none_small h s reply.NoDirBlock (dirs ++ j ∷ [])
    linking_in_small y (Inside q) = room_small (Inside q) (linked_by i x name j y dirs (Inside q)) (linked_small y (Inside q))
    linking_in_small y (InBlock k) = room_small (InBlock k) (linked_by i x name j y dirs (InBlock k)) (linked_small y (InBlock k))

    linking_node_small : (o : Option StoredNode) → MakesSmall (run (linking_node h i x name j dirs o) s)
    linking_node_small None = refuse_small reply.NoEnt dirs
    linking_node_small (Some y) = go (nat_le 1000 y.links) (is_full x)
      where
        go : (a b : Bool) → MakesSmall (run (if a then refused reply.MLink (dirs ++ j ∷ []) else (if b then refused reply.DirFull (dirs ++ j ∷ []) else bind (find_room h x) (linking_in h i x name j y dirs))) s)
        go true b = refuse_small reply.MLink (dirs ++ j ∷ [])
        go false true = refuse_small reply.DirFull (dirs ++ j ∷ [])
        go false false = rw (run-bind (find_room h x) (linking_in h i x name j y dirs) s) (linking_in_small y (run (find_room h x) s))

  linking_to_small : (j : ℕ) (dirs : List ℕ) (v : Spot) → MakesSmall (run (linking_to h j dirs v) s)
  linking_to_small j dirs AtRoot = refuse_small reply.Exist dirs
  linking_to_small j dirs (Lost r) = refuse_small r dirs
  linking_to_small j dirs (AtName i x name q e) = refuse_small reply.Exist dirs
  linking_to_small j dirs (AtGap i x name) = linking_node_small i x name j dirs (s.inode j)

  linking_small : (to : List (List ℕ)) (dirs : List ℕ) (v : Spot) → MakesSmall (run (linking h to dirs v) s)
  linking_small to dirs AtRoot = refuse_small reply.IsDir dirs
  linking_small to dirs (Lost r) = refuse_small r dirs
  linking_small to dirs (AtGap i x name) = refuse_small reply.NoEnt dirs
  linking_small to dirs (AtName i x name q e) = go (e.kind == 2)
    where
      go : (b : Bool) → MakesSmall (run (if b then refused reply.IsDir dirs else bind (walk to) (λ w. linking_to h e.inode (dirs ++ w.dirs) w.spot)) s)
      go true = refuse_small reply.IsDir dirs
      go false = let w = run (walk to) s in rw (run-bind (walk to) (λ w. linking_to h e.inode (dirs ++ w.dirs) w.spot) s) (linking_to_small e.inode (dirs ++ w.dirs) w.spot)

  pub linked_path_small : (path to : List (List ℕ)) → MakesSmall (run (plan_linked h path to) s)
  linked_path_small path to = let w = run (walk path) s in rw (run-bind (walk path) (λ w. linking h to w.dirs w.spot) s) (linking_small to w.dirs w.spot)

-- ---- unlink, rmdir
module _ (s : Store) (nodes : HasFewBlocks s) where
  removed_small : (i : ℕ) (x : StoredNode) (q j : ℕ) (y : StoredNode) (dirs : List ℕ) → y.blocks ≤ 16 → MakesSmall (run (finish_over (fewer_segments j y) (removed_by i x q j y dirs)) s)
  removed_small i x q j y dirs few = rw (run-segments (fewer_segments j y) (Got (Finishes (removed_by i x q j y dirs))) s)
      (small_within (take_entry i x q ++ fewer j y) (2 + 19) (1658 + 1729) (omega arith) (omega arith) (within_join (take_entry i x q) (fewer j y) 2 1658 19 1729 (take_within i x q) (fewer_within j y few)))

  unlinking_node_small : (i : ℕ) (x : StoredNode) (q j : ℕ) (dirs : List ℕ) (o : Option StoredNode) → s.inode j ≡ o → MakesSmall (run (unlinking_node i x q j dirs o) s)
  unlinking_node_small i x q j dirs None e = refuse_small reply.NoEnt dirs
  unlinking_node_small i x q j dirs (Some y) e = removed_small i x q j y dirs (nodes j y e)

  unlinking_small : (dirs : List ℕ) (v : Spot) → MakesSmall (run (unlinking dirs v) s)
  unlinking_small dirs AtRoot = refuse_small reply.IsDir dirs
  unlinking_small dirs (Lost r) = refuse_small r dirs
  unlinking_small dirs (AtGap i x name) = refuse_small reply.NoEnt dirs
  unlinking_small dirs (AtName i x name q e) = go (e.kind == 2)
    where
      go : (b : Bool) → MakesSmall (run (if b then refused reply.IsDir dirs else ReadInode e.inode (unlinking_node i x q e.inode dirs)) s)
      go true = refuse_small reply.IsDir dirs
      go false = unlinking_node_small i x q e.inode dirs (s.inode e.inode) refl

  pub unlinked_small : (path : List (List ℕ)) → MakesSmall (run (plan_unlinked path) s)
  unlinked_small path = let w = run (walk path) s in rw (run-bind (walk path) (λ w. unlinking w.dirs w.spot) s) (unlinking_small w.dirs w.spot)

  removing_node_small : (i : ℕ) (x : StoredNode) (q j : ℕ) (dirs : List ℕ) (o : Option StoredNode) → s.inode j ≡ o → MakesSmall (run (removing_node i x q j dirs o) s)
  removing_node_small i x q j dirs None e = refuse_small reply.NoEnt dirs
  removing_node_small i x q j dirs (Some y) e = go (nat_lt 0 y.size)
    where
      go : (b : Bool) → MakesSmall (run (if b then refused reply.NotEmpty (dirs ++ j ∷ []) else finish_over (fewer_segments j y) (removed_by i x q j y dirs)) s)
      go true = refuse_small reply.NotEmpty (dirs ++ j ∷ [])
      go false = removed_small i x q j y dirs (nodes j y e)

  removing_small : (dirs : List ℕ) (v : Spot) → MakesSmall (run (removing dirs v) s)
  removing_small dirs AtRoot = refuse_small reply.Inval dirs
  removing_small dirs (Lost r) = refuse_small r dirs
  removing_small dirs (AtGap i x name) = refuse_small reply.NoEnt dirs
  removing_small dirs (AtName i x name q e) = go (e.kind == 2)
    where
      go : (b : Bool) → MakesSmall (run (if b then ReadInode e.inode (removing_node i x q e.inode dirs) else refused reply.NotDir dirs) s)
      go true = removing_node_small i x q e.inode dirs (s.inode e.inode) refl
      go false = refuse_small reply.NotDir dirs

  pub dir_removed_small : (path : List (List ℕ)) → MakesSmall (run (plan_dir_removed path) s)
  dir_removed_small path = let w = run (walk path) s in rw (run-bind (walk path) (λ w. removing w.dirs w.spot) s) (removing_small w.dirs w.spot)

-- ---- rename
module _ (h : Hand) (s : Store) (nodes : HasFewBlocks s) (m : Moving) where
  onto_small : (i : ℕ) (x : StoredNode) (name : List ℕ) (q j : ℕ) (y : StoredNode) (dirs : List ℕ) → y.blocks ≤ 16 → AreSmall (moved_onto_by m i x name q j y dirs).edits
  onto_small i x name q j y dirs few =
      let e = renamed_entry m name in
      small_within (take_entry m.dir m.directory m.slot ++ (replace_entry x q e ++ fewer j y)) (2 + (1 + 19)) (1658 + (378 + 1729)) (omega arith) (omega arith)
      (within_join (take_entry m.dir m.directory m.slot) (replace_entry x q e ++ fewer j y) 2 1658 (1 + 19) (378 + 1729) (take_within m.dir m.directory m.slot)
      (within_join (replace_entry x q e) (fewer j y) 1 378 19 1729 (replace_within x q e) (fewer_within j y few)))

  replacing_small : (i : ℕ) (x : StoredNode) (name : List ℕ) (q j : ℕ) (dirs : List ℕ) (o : Option StoredNode) → s.inode j ≡ o → MakesSmall (run (replacing_node m i x name q j dirs o) s)
  replacing_small i x name q j dirs None e = refuse_small reply.NoEnt dirs
  replacing_small i x name q j dirs (Some y) e = go (y.kind == 2 && nat_lt 0 y.size)
    where
      go : (b : Bool) → MakesSmall (run (if b then refused reply.NotEmpty (dirs ++ j ∷ []) else finish_over (fewer_segments j y) (moved_onto_by m i x name q j y dirs)) s)
      go true = refuse_small reply.NotEmpty (dirs ++ j ∷ [])
      go false = rw (run-segments (fewer_segments j y) (Got (Finishes (moved_onto_by m i x name q j y dirs))) s) (onto_small i x name q j y dirs (nodes j y e))

  moving_onto_small : (i : ℕ) (x : StoredNode) (name : List ℕ) (q : ℕ) (e : StoredEntry) (dirs : List ℕ) → MakesSmall (run (moving_onto m i x name q e dirs) s)
  moving_onto_small i x name q e dirs = go (e.inode == m.entry.inode) (m.entry.kind == 2 && not (e.kind == 2)) (e.kind == 2 && not (m.entry.kind == 2))
    where
      go : (a b c : Bool) → MakesSmall (run (if a then refused reply.Ok dirs else (if b then refused reply.NotDir dirs else (if c then refused reply.IsDir dirs else ReadInode e.inode (replacing_node m i x name q e.inode dirs)))) s)
      go true b c = refuse_small reply.Ok dirs
      go false true c = refuse_small reply.NotDir dirs
      go false false true = refuse_small reply.IsDir dirs
      go false false false = replacing_small i x name q e.inode dirs (s.inode e.inode) refl

  between_small : (i : ℕ) (x : StoredNode) (name dirs : List ℕ) (room : Room) → AreSmall (moved_between m i x name dirs room).edits
  between_small i x name dirs room =
      let e = renamed_entry m name in
      small_within (enter i x e room ++ take_entry m.dir m.directory m.slot) (4 + 2) (1681 + 1658) (omega arith) (omega arith)
      (within_join (enter i x e room) (take_entry m.dir m.directory m.slot) 4 1681 2 1658 (enter_within i x e room) (take_within m.dir m.directory m.slot))

  moving_in_small : (i : ℕ) (x : StoredNode) (name dirs : List ℕ) (room : Room) → MakesSmall (run (moving_in h m i x name dirs room) s)
  moving_in_small i x name dirs NoRoom = none_small h s reply.NoDirBlock dirs
  moving_in_small i x name dirs (Inside q) = room_small h s (Inside q) (moved_between m i x name dirs (Inside q)) (between_small i x name dirs (Inside q))
  moving_in_small i x name dirs (InBlock k) = room_small h s (InBlock k) (moved_between m i x name dirs (InBlock k)) (between_small i x name dirs (InBlock k))

  moving_to_small : (i : ℕ) (x : StoredNode) (name dirs : List ℕ) → MakesSmall (run (moving_to h m i x name dirs) s)
  moving_to_small i x name dirs = go (i == m.dir) (is_full x)
    where
      go : (a b : Bool) → MakesSmall (run (if a then Got (Finishes (moved_within m name dirs)) else (if b then refused reply.DirFull dirs else bind (find_room h x) (moving_in h m i x name dirs))) s)
      go true b = small_within (replace_entry m.directory m.slot (renamed_entry m name)) 1 378 (omega arith) (omega arith) (replace_within m.directory m.slot (renamed_entry m name))
      go false true = refuse_small reply.DirFull dirs
      go false false = rw (run-bind (find_room h x) (moving_in h m i x name dirs) s) (moving_in_small i x name dirs (run (find_room h x) s))

  renaming_to_small : (to_dirs dirs : List ℕ) (v : Spot) → MakesSmall (run (renaming_to h m to_dirs dirs v) s)
  renaming_to_small to_dirs dirs AtRoot = refuse_small reply.Inval dirs
  renaming_to_small to_dirs dirs (Lost r) = refuse_small r dirs
  renaming_to_small to_dirs dirs (AtName i x name q e) = go (goes_through m to_dirs)
    where
      go : (b : Bool) → MakesSmall (run (if b then refused reply.Inval dirs else moving_onto m i x name q e dirs) s)
      go true = refuse_small reply.Inval dirs
      go false = moving_onto_small i x name q e dirs
  renaming_to_small to_dirs dirs (AtGap i x name) = go (goes_through m to_dirs)
    where
      go : (b : Bool) → MakesSmall (run (if b then refused reply.Inval dirs else moving_to h m i x name dirs) s)
      go true = refuse_small reply.Inval dirs
      go false = moving_to_small i x name dirs

module _ (h : Hand) (s : Store) (nodes : HasFewBlocks s) where
  renaming_small : (to : List (List ℕ)) (dirs : List ℕ) (v : Spot) → MakesSmall (run (renaming h to dirs v) s)
  renaming_small to dirs AtRoot = refuse_small reply.Inval dirs
  renaming_small to dirs (Lost r) = refuse_small r dirs
  renaming_small to dirs (AtGap i x name) = refuse_small reply.NoEnt dirs
  renaming_small to dirs (AtName i x name q e) =
      let m : Moving = record { dir = i; directory = x; slot = q; entry = e } in
      let w = run (walk to) s in
      rw (run-bind (walk to) (λ w. renaming_to h m w.dirs (dirs ++ w.dirs) w.spot) s) (renaming_to_small h s nodes m w.dirs (dirs ++ w.dirs) w.spot)

  pub renamed_small : (path to : List (List ℕ)) → MakesSmall (run (plan_renamed h path to) s)
  renamed_small [] to = refuse_small reply.Inval []
  renamed_small (name ∷ names) [] = refuse_small reply.Inval []
  renamed_small (name ∷ names) (new ∷ news) =
      let w = run (walk (name ∷ names)) s in rw (run-bind (walk (name ∷ names)) (λ w. renaming h (new ∷ news) w.dirs w.spot) s) (renaming_small (new ∷ news) w.dirs w.spot)

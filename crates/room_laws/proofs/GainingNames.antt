-- The plans of the operations on names either gain no block for directories or free none: with room for an entry they free none, and where a node goes they gain none.
use Rattle.std.proofs.Common.{ℕ, ◌≡◌, ◌==◌, ◌+◌, ◌&&◌, not, inl, inr, Bool, true, false, nat_le, nat_lt, if◌then◌else◌, Option, Some, None, List, [], ◌∷◌, ◌++◌, refl}
use Rattle.std.specs.Map.{keys_of}
use Rattle.frang_base.specs.declared.reply.Reply.{Reply}
use Rattle.frang_base.specs.declared.reply.Reply.TheVariants as reply
use Rattle.tree_definitions.specs.declared.node.Node.{Node}
use Rattle.tree_definitions.specs.Tree.{FileTree}
use Rattle.disk_definitions.specs.Store.{Store, StoredEntry, StoredNode}
use Rattle.disk_definitions.specs.Naming.{Naming, kind_of}
use Rattle.disk_definitions.specs.Picks.{picked_inode}
use Rattle.disk_definitions.specs.Changes.{new_node, relink, replace_entry, take_entry}
use Rattle.disk_definitions.specs.Ask.{Ask, Got, ReadDirectory, ReadInode, bind, run}
use Rattle.disk_definitions.specs.Meets.{IsOfTree}
use Rattle.disk_definitions.specs.Walks.{Spot, walk}
use Rattle.disk_definitions.specs.Walks.Spot.{AtRoot, AtName, AtGap, Lost}
use Rattle.disk_definitions.specs.Plans.{Finish, Hand, Plan, Room, find_room, finish_in, is_full, must_clear, none_left, read_held, refused, shared_nodes, sole_segments}
use Rattle.disk_definitions.specs.Plans.Plan.{Lacks, Clears, Finishes}
use Rattle.disk_definitions.specs.Plans.Room.{Inside, InBlock, NoRoom}
use Rattle.disk_definitions.specs.NamePlans.{Moving, fewer_segments, finish_over, goes_through, linked_by, linking, linking_in, linking_node, linking_to, made_by, making, making_in, making_with, moved_between, moved_onto_by, moved_within, moving_in, moving_onto, moving_to, plan_dir_removed, plan_linked, plan_made, plan_renamed, plan_unlinked, removed_by, removing, removing_node, renamed_entry, renaming, renaming_to, replacing_node, unlinking, unlinking_node}
use Rattle.plan_laws.proofs.Asking.{run-bind, run-segments}
use Rattle.plan_laws.proofs.Telling.{Tells}
use Rattle.room_laws.specs.Growth.{GainsOrFrees}
use Rattle.room_laws.proofs.Entering.{entered_then, then_entered, then_gone}

module _ (h : Hand) (s : Store) (tree : FileTree) (n : Naming) (of : IsOfTree s tree n) where
  abbrev pub Fair : Finish → Type 0
  Fair = GainsOrFrees s n

  abbrev pub Ends : Ask Plan → Type 0
  Ends p = Tells Fair (run p s)

  -- nothing is edited
  pub refused_fair : (r : Reply) (touched : List ℕ) → Ends (refused r touched)
  refused_fair r touched = inl (λ k used. used)

  pub none_fair : (r : Reply) (touched : List ℕ) → Ends (none_left h r touched)
  none_fair r touched = go h.all
    where
      go : (b : Bool) → Tells Fair (run (Got (if b then Finishes (record { reply = r; edits = []; locks = shared_nodes touched ++ sole_segments (keys_of h.held) }) else Lacks)) s)
      go true = inl (λ k used. used)
      go false = tt

  -- once the room is clear
  ended_fair : (room : Room) (f : Finish) → Fair f → Ends (finish_in h room f)
  ended_fair NoRoom f fair = fair
  ended_fair (Inside q) f fair = fair
  ended_fair (InBlock k) f fair = go (must_clear h k)
    where
      go : (b : Bool) → Tells Fair (run (if b then Got (Clears k f.locks) else ReadDirectory k 0 (λ slots. Got (Finishes f))) s)
      go true = tt
      go false = fair

  -- ---- create, mkdir, symlink
  module _ (i : ℕ) (x : StoredNode) (name : List ℕ) (birth : ℕ) (node : Node) (dirs : List ℕ) where
    made_fair : (j : ℕ) (room : Room) → Fair (made_by i x name birth node dirs j room)
    made_fair j room = inr (then_entered s (new_node j birth node) i x (record { name = name; inode = j; kind = kind_of node }) room refl)

    making_in_fair : (j : ℕ) (room : Room) → Ends (making_in h i x name birth node dirs j room)
    making_in_fair j NoRoom = none_fair reply.NoDirBlock dirs
    making_in_fair j (Inside q) = made_fair j (Inside q)
    making_in_fair j (InBlock k) = ended_fair (InBlock k) (made_by i x name birth node dirs j (InBlock k)) (made_fair j (InBlock k))

    making_with_fair : (o : Option ℕ) → Ends (making_with h i x name birth node dirs o)
    making_with_fair None = none_fair reply.NoInode dirs
    making_with_fair (Some j) = rw (run-bind (find_room h x) (making_in h i x name birth node dirs j) s) (making_in_fair j (run (find_room h x) s))

  making_fair : (birth : ℕ) (node : Node) (dirs : List ℕ) (v : Spot) → Ends (making h birth node dirs v)
  making_fair birth node dirs AtRoot = refused_fair reply.Exist dirs
  making_fair birth node dirs (Lost r) = refused_fair r dirs
  making_fair birth node dirs (AtName i x name q e) = refused_fair reply.Exist dirs
  making_fair birth node dirs (AtGap i x name) = go (is_full x)
    where
      go : (b : Bool) → Ends (if b then refused reply.DirFull dirs else read_held h (making_with h i x name birth node dirs (picked_inode h.held)))
      go true = refused_fair reply.DirFull dirs
      go false =
          rw (run-segments (keys_of h.held) (making_with h i x name birth node dirs (picked_inode h.held)) s) (making_with_fair i x name birth node dirs (picked_inode h.held))

  pub made_path_fair : (birth : ℕ) (node : Node) (path : List (List ℕ)) → Ends (plan_made h birth node path)
  made_path_fair birth node path = let w = run (walk path) s in rw (run-bind (walk path) (λ w. making h birth node w.dirs w.spot) s) (making_fair birth node w.dirs w.spot)

  -- ---- link
  module _ (i : ℕ) (x : StoredNode) (name : List ℕ) (j : ℕ) (y : StoredNode) (dirs : List ℕ) where
    linked_fair : (room : Room) → Fair (linked_by i x name j y dirs room)
    linked_fair room = inr (then_entered s (relink j y (y.links + 1)) i x (record { name = name; inode = j; kind = y.kind }) room refl)

    linking_in_fair : (room : Room) → Ends (linking_in h i x name j y dirs room)
    linking_in_fair NoRoom = none_fair reply.NoDirBlock (dirs ++ j ∷ [])
    linking_in_fair (Inside q) = linked_fair (Inside q)
    linking_in_fair (InBlock k) = ended_fair (InBlock k) (linked_by i x name j y dirs (InBlock k)) (linked_fair (InBlock k))

  linking_node_fair : (i : ℕ) (x : StoredNode) (name : List ℕ) (j : ℕ) (dirs : List ℕ) (o : Option StoredNode) → Ends (linking_node h i x name j dirs o)
  linking_node_fair i x name j dirs None = refused_fair reply.NoEnt dirs
  linking_node_fair i x name j dirs (Some y) = go (nat_le 1000 y.links) (is_full x)
    where
      go : (a b : Bool) → Ends (if a then refused reply.MLink (dirs ++ j ∷ []) else (if b then refused reply.DirFull (dirs ++ j ∷ []) else bind (find_room h x) (linking_in h i x name j y dirs)))
      go true b = refused_fair reply.MLink (dirs ++ j ∷ [])
      go false true = refused_fair reply.DirFull (dirs ++ j ∷ [])
      go false false = rw (run-bind (find_room h x) (linking_in h i x name j y dirs) s) (linking_in_fair i x name j y dirs (run (find_room h x) s))

  linking_to_fair : (j : ℕ) (dirs : List ℕ) (v : Spot) → Ends (linking_to h j dirs v)
  linking_to_fair j dirs AtRoot = refused_fair reply.Exist dirs
  linking_to_fair j dirs (Lost r) = refused_fair r dirs
  linking_to_fair j dirs (AtName i x name q e) = refused_fair reply.Exist dirs
  linking_to_fair j dirs (AtGap i x name) = linking_node_fair i x name j dirs (s.inode j)

  linking_fair : (to : List (List ℕ)) (dirs : List ℕ) (v : Spot) → Ends (linking h to dirs v)
  linking_fair to dirs AtRoot = refused_fair reply.IsDir dirs
  linking_fair to dirs (Lost r) = refused_fair r dirs
  linking_fair to dirs (AtGap i x name) = refused_fair reply.NoEnt dirs
  linking_fair to dirs (AtName i x name q e) = go (e.kind == 2)
    where
      go : (b : Bool) → Ends (if b then refused reply.IsDir dirs else bind (walk to) (λ w. linking_to h e.inode (dirs ++ w.dirs) w.spot))
      go true = refused_fair reply.IsDir dirs
      go false = let w = run (walk to) s in rw (run-bind (walk to) (λ w. linking_to h e.inode (dirs ++ w.dirs) w.spot) s) (linking_to_fair e.inode (dirs ++ w.dirs) w.spot)

  pub link_fair : (path to : List (List ℕ)) → Ends (plan_linked h path to)
  link_fair path to = let w = run (walk path) s in rw (run-bind (walk path) (λ w. linking h to w.dirs w.spot) s) (linking_fair to w.dirs w.spot)

  -- ---- unlink, rmdir
  removed_fair : (i : ℕ) (x : StoredNode) (q j : ℕ) (y : StoredNode) (dirs : List ℕ) → s.inode j ≡ Some y → Ends (finish_over (fewer_segments j y) (removed_by i x q j y dirs))
  removed_fair i x q j y dirs is = rw (run-segments (fewer_segments j y) (Got (Finishes (removed_by i x q j y dirs))) s) (inl (then_gone s tree n of (take_entry i x q) j y is refl))

  unlinking_node_fair : (i : ℕ) (x : StoredNode) (q j : ℕ) (dirs : List ℕ) (o : Option StoredNode) → s.inode j ≡ o → Ends (unlinking_node i x q j dirs o)
  unlinking_node_fair i x q j dirs None is = refused_fair reply.NoEnt dirs
  unlinking_node_fair i x q j dirs (Some y) is = removed_fair i x q j y dirs is

  unlinking_fair : (dirs : List ℕ) (v : Spot) → Ends (unlinking dirs v)
  unlinking_fair dirs AtRoot = refused_fair reply.IsDir dirs
  unlinking_fair dirs (Lost r) = refused_fair r dirs
  unlinking_fair dirs (AtGap i x name) = refused_fair reply.NoEnt dirs
  unlinking_fair dirs (AtName i x name q e) = go (e.kind == 2)
    where
      go : (b : Bool) → Ends (if b then refused reply.IsDir dirs else ReadInode e.inode (unlinking_node i x q e.inode dirs))
      go true = refused_fair reply.IsDir dirs
      go false = unlinking_node_fair i x q e.inode dirs (s.inode e.inode) refl

  pub unlink_fair : (path : List (List ℕ)) → Ends (plan_unlinked path)
  unlink_fair path = let w = run (walk path) s in rw (run-bind (walk path) (λ w. unlinking w.dirs w.spot) s) (unlinking_fair w.dirs w.spot)

  removing_node_fair : (i : ℕ) (x : StoredNode) (q j : ℕ) (dirs : List ℕ) (o : Option StoredNode) → s.inode j ≡ o → Ends (removing_node i x q j dirs o)
  removing_node_fair i x q j dirs None is = refused_fair reply.NoEnt dirs
  removing_node_fair i x q j dirs (Some y) is = go (nat_lt 0 y.size)
    where
      go : (b : Bool) → Ends (if b then refused reply.NotEmpty (dirs ++ j ∷ []) else finish_over (fewer_segments j y) (removed_by i x q j y dirs))
      go true = refused_fair reply.NotEmpty (dirs ++ j ∷ [])
      go false = removed_fair i x q j y dirs is

  removing_fair : (dirs : List ℕ) (v : Spot) → Ends (removing dirs v)
  removing_fair dirs AtRoot = refused_fair reply.Inval dirs
  removing_fair dirs (Lost r) = refused_fair r dirs
  removing_fair dirs (AtGap i x name) = refused_fair reply.NoEnt dirs
  removing_fair dirs (AtName i x name q e) = go (e.kind == 2)
    where
      go : (b : Bool) → Ends (if b then ReadInode e.inode (removing_node i x q e.inode dirs) else refused reply.NotDir dirs)
      go true = removing_node_fair i x q e.inode dirs (s.inode e.inode) refl
      go false = refused_fair reply.NotDir dirs

  pub rmdir_fair : (path : List (List ℕ)) → Ends (plan_dir_removed path)
  rmdir_fair path = let w = run (walk path) s in rw (run-bind (walk path) (λ w. removing w.dirs w.spot) s) (removing_fair w.dirs w.spot)

  -- ---- rename
  module _ (m : Moving) where
    replacing_fair : (i : ℕ) (x : StoredNode) (name : List ℕ) (q j : ℕ) (dirs : List ℕ) (o : Option StoredNode) → s.inode j ≡ o → Ends (replacing_node m i x name q j dirs o)
    replacing_fair i x name q j dirs None is = refused_fair reply.NoEnt dirs
    replacing_fair i x name q j dirs (Some y) is = go (y.kind == 2 && nat_lt 0 y.size)
      where
        moved_fair : Fair (moved_onto_by m i x name q j y dirs)
        moved_fair = inl (then_gone s tree n of (take_entry m.dir m.directory m.slot ++ replace_entry x q (renamed_entry m name)) j y is refl)

        go : (b : Bool) → Ends (if b then refused reply.NotEmpty (dirs ++ j ∷ []) else finish_over (fewer_segments j y) (moved_onto_by m i x name q j y dirs))
        go true = refused_fair reply.NotEmpty (dirs ++ j ∷ [])
        go false = rw (run-segments (fewer_segments j y) (Got (Finishes (moved_onto_by m i x name q j y dirs))) s) moved_fair

    moving_onto_fair : (i : ℕ) (x : StoredNode) (name : List ℕ) (q : ℕ) (e : StoredEntry) (dirs : List ℕ) → Ends (moving_onto m i x name q e dirs)
    moving_onto_fair i x name q e dirs = go (e.inode == m.entry.inode) (m.entry.kind == 2 && not (e.kind == 2)) (e.kind == 2 && not (m.entry.kind == 2))
      where
        go : (a b c : Bool) → Ends (if a then refused reply.Ok dirs else (if b then refused reply.NotDir dirs else (if c then refused reply.IsDir dirs
            else ReadInode e.inode (replacing_node m i x name q e.inode dirs))))
        go true b c = refused_fair reply.Ok dirs
        go false true c = refused_fair reply.NotDir dirs
        go false false true = refused_fair reply.IsDir dirs
        go false false false = replacing_fair i x name q e.inode dirs (s.inode e.inode) refl

    between_fair : (i : ℕ) (x : StoredNode) (name dirs : List ℕ) (room : Room) → Fair (moved_between m i x name dirs room)
    between_fair i x name dirs room = inr (entered_then s i x (renamed_entry m name) room (take_entry m.dir m.directory m.slot) (λ t. refl))

    moving_in_fair : (i : ℕ) (x : StoredNode) (name dirs : List ℕ) (room : Room) → Ends (moving_in h m i x name dirs room)
    moving_in_fair i x name dirs NoRoom = none_fair reply.NoDirBlock dirs
    moving_in_fair i x name dirs (Inside q) = between_fair i x name dirs (Inside q)
    moving_in_fair i x name dirs (InBlock k) = ended_fair (InBlock k) (moved_between m i x name dirs (InBlock k)) (between_fair i x name dirs (InBlock k))

    moving_to_fair : (i : ℕ) (x : StoredNode) (name dirs : List ℕ) → Ends (moving_to h m i x name dirs)
    moving_to_fair i x name dirs = go (i == m.dir) (is_full x)
      where
        go : (a b : Bool) → Ends (if a then Got (Finishes (moved_within m name dirs)) else (if b then refused reply.DirFull dirs else bind (find_room h x) (moving_in h m i x name dirs)))
        go true b = inl (λ k used. used)
        go false true = refused_fair reply.DirFull dirs
        go false false = rw (run-bind (find_room h x) (moving_in h m i x name dirs) s) (moving_in_fair i x name dirs (run (find_room h x) s))

    renaming_to_fair : (to_dirs dirs : List ℕ) (v : Spot) → Ends (renaming_to h m to_dirs dirs v)
    renaming_to_fair to_dirs dirs AtRoot = refused_fair reply.Inval dirs
    renaming_to_fair to_dirs dirs (Lost r) = refused_fair r dirs
    renaming_to_fair to_dirs dirs (AtName i x name q e) = go (goes_through m to_dirs)
      where
        go : (b : Bool) → Ends (if b then refused reply.Inval dirs else moving_onto m i x name q e dirs)
        go true = refused_fair reply.Inval dirs
        go false = moving_onto_fair i x name q e dirs
    renaming_to_fair to_dirs dirs (AtGap i x name) = go (goes_through m to_dirs)
      where
        go : (b : Bool) → Ends (if b then refused reply.Inval dirs else moving_to h m i x name dirs)
        go true = refused_fair reply.Inval dirs
        go false = moving_to_fair i x name dirs

  renaming_fair : (to : List (List ℕ)) (dirs : List ℕ) (v : Spot) → Ends (renaming h to dirs v)
  renaming_fair to dirs AtRoot = refused_fair reply.Inval dirs
  renaming_fair to dirs (Lost r) = refused_fair r dirs
  renaming_fair to dirs (AtGap i x name) = refused_fair reply.NoEnt dirs
  renaming_fair to dirs (AtName i x name q e) =
      let m : Moving = record { dir = i; directory = x; slot = q; entry = e } in
      let w = run (walk to) s in
      rw (run-bind (walk to) (λ w. renaming_to h m w.dirs (dirs ++ w.dirs) w.spot) s) (renaming_to_fair m w.dirs (dirs ++ w.dirs) w.spot)

  pub rename_fair : (path to : List (List ℕ)) → Ends (plan_renamed h path to)
  rename_fair [] to = refused_fair reply.Inval []
  rename_fair (name ∷ names) [] = refused_fair reply.Inval []
  rename_fair (name ∷ names) (new ∷ news) =
      let w = run (walk (name ∷ names)) s in
      rw (run-bind (walk (name ∷ names)) (λ w. renaming h (new ∷ news) w.dirs w.spot) s) (renaming_fair (new ∷ news) w.dirs w.spot)

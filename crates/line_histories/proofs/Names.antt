-- The edits of the plans of the operations on names but rename leave no sector of a file unwritten.
use Rattle.std.proofs.Common.{ℕ, ◌≡◌, ◌+◌, ◌==◌, Bool, true, false, nat_lt, nat_le, if◌then◌else◌, Option, Some, None, List, [], ◌∷◌, ◌++◌, sym, subst}
use Rattle.std.specs.Map.{keys_of}
use Rattle.frang_base.specs.declared.reply.Reply.{Reply}
use Rattle.frang_base.specs.declared.reply.Reply.TheVariants as reply
use Rattle.tree_definitions.specs.declared.node.Node.{Node}
use Rattle.disk_definitions.specs.Store.{Store, StoredNode, StoredEntry, Use}
use Rattle.disk_definitions.specs.Store.Use.{Fresh, Entries}
use Rattle.disk_definitions.specs.Naming.{Naming, kind_of}
use Rattle.disk_definitions.specs.Picks.{picked_inode}
use Rattle.disk_definitions.specs.Edits.{Edit}
use Rattle.disk_definitions.specs.Changes.{new_node, take_entry, relink, freed}
use Rattle.disk_definitions.specs.ChangeLaws.{IsBare}
use Rattle.disk_definitions.specs.Ask.{Ask, Got, ReadInode, ReadDirectory, bind, run}
use Rattle.disk_definitions.specs.Walks.{Spot, walk}
use Rattle.disk_definitions.specs.Walks.Spot.{AtRoot, AtName, AtGap, Lost}
use Rattle.disk_definitions.specs.Plans.{Hand, Plan, Finish, Room, enter, refused, none_left, read_held, find_room, finish_in, must_clear, is_full}
use Rattle.disk_definitions.specs.Plans.Plan.{Lacks, Clears, Finishes}
use Rattle.disk_definitions.specs.Plans.Room.{Inside, InBlock, NoRoom}
use Rattle.disk_definitions.specs.NamePlans.{made_by, making_in, making_with, making, plan_made, linked_by, linking_in, linking_node, linking_to, linking, plan_linked, fewer, fewer_segments, finish_over, removed_by, unlinking_node, unlinking, plan_unlinked, removing_node, removing, plan_dir_removed}
use Rattle.plan_laws.proofs.Asking.{run-bind, run-segments}
use Rattle.plan_laws.proofs.Standing.{DiskStands}
use Rattle.plan_laws.proofs.WalksFine.{SpotStands, walk_stands}
use Rattle.plan_laws.proofs.RoomsFine.{wider}
use Rattle.line_histories.proofs.Fine.{AreFine, both_fine, take_fine, relink_fine, enter_fine, new_fine, fewer_fine}

-- where the plan finishes, its edits are fine
abbrev pub IsFinePlan : (Finish → Edit → Type 0) → Store → Plan → Type 0
IsFinePlan P s Lacks = Unit {0}
IsFinePlan P s (Clears k locks) = Unit {0}
IsFinePlan P s (Finishes f) = (state : Use) × AreFine (P f) s f.edits state f.edits

abbrev pub Ends : (Finish → Edit → Type 0) → Store → Ask Plan → Type 0
Ends P s p = IsFinePlan P s (run p s)

module _ (P : Finish → Edit → Type 0) (h : Hand) (s : Store) (n : Naming) (disk : DiskStands h s n) where
  pub none_ends : (r : Reply) (touched : List ℕ) → Ends P s (none_left h r touched)
  none_ends r touched = go h.all
    where
      go : (b : Bool) → Ends P s (none_left (record h { all = b }) r touched)
      go true = (Fresh, tt)
      go false = tt

  pub room_ends : (room : Room) (f : Finish) → IsFinePlan P s (Finishes f) → Ends P s (finish_in h room f)
  room_ends NoRoom f r = r
  room_ends (Inside q) f r = r
  room_ends (InBlock k) f r = go (must_clear h k)
    where
      go : (b : Bool) → Ends P s (if b then Got (Clears k f.locks) else ReadDirectory k 0 (λ p. Got (Finishes f)))
      go true = tt
      go false = r

  -- ---- create, mkdir, symlink
  module _ (birth : ℕ) (node : Node) (bare : IsBare node) where
    making_in_fine : (i : ℕ) (x : StoredNode) (two : x.kind ≡ 2) (name dirs : List ℕ) (j : ℕ) (room : Room) → Ends P s (making_in h i x name birth node dirs j room)
    making_in_fine i x two name dirs j room = go room
      where
        made : (room : Room) → Ends P s (finish_in h room (made_by i x name birth node dirs j room))
        made room =
            let entry : StoredEntry = record { name = name; inode = j; kind = kind_of node } in
            let f = made_by i x name birth node dirs j room in
            room_ends room f (Entries, both_fine (P f) s f.edits Entries (new_node j birth node) (enter i x entry room) (new_fine (P f) s f.edits Entries j birth node bare) (enter_fine (P f) s f.edits i x entry room two))

        go : (room : Room) → Ends P s (making_in h i x name birth node dirs j room)
        go NoRoom = none_ends reply.NoDirBlock dirs
        go (Inside q) = made (Inside q)
        go (InBlock k) = made (InBlock k)

    making_with_fine : (i : ℕ) (x : StoredNode) (two : x.kind ≡ 2) (name dirs : List ℕ) (o : Option ℕ) → Ends P s (making_with h i x name birth node dirs o)
    making_with_fine i x two name dirs None = none_ends reply.NoInode dirs
    making_with_fine i x two name dirs (Some j) =
        subst (IsFinePlan P s) (sym (run-bind (find_room h x) (making_in h i x name birth node dirs j) s)) (making_in_fine i x two name dirs j (run (find_room h x) s))

    making_fine : (dirs : List ℕ) (v : Spot) → SpotStands h s n disk dirs v → Ends P s (making h birth node dirs v)
    making_fine dirs AtRoot t = (Fresh, tt)
    making_fine dirs (Lost r) t = (Fresh, tt)
    making_fine dirs (AtName i x name q e) t = (Fresh, tt)
    making_fine dirs (AtGap i x name) t = go (is_full x)
      where
        go : (b : Bool) → Ends P s (if b then refused reply.DirFull dirs else read_held h (making_with h i x name birth node dirs (picked_inode h.held)))
        go true = (Fresh, tt)
        go false = subst (IsFinePlan P s) (sym (run-segments (keys_of h.held) (making_with h i x name birth node dirs (picked_inode h.held)) s)) (making_with_fine i x t.kind_is name dirs (picked_inode h.held))

    pub made_path_fine : (path : List (List ℕ)) → Ends P s (plan_made h birth node path)
    made_path_fine path =
        let w = run (walk path) s in
        subst (IsFinePlan P s) (sym (run-bind (walk path) (λ w. making h birth node w.dirs w.spot) s)) (making_fine w.dirs w.spot (walk_stands h s n disk path).spot)

  -- ---- link
  module _ (i : ℕ) (x : StoredNode) (two : x.kind ≡ 2) (name : List ℕ) (j : ℕ) (y : StoredNode) (node : s.inode j ≡ Some y) (dirs : List ℕ) where
    linked_fine : (room : Room) → Ends P s (finish_in h room (linked_by i x name j y dirs room))
    linked_fine room =
        let entry : StoredEntry = record { name = name; inode = j; kind = y.kind } in
        let f = linked_by i x name j y dirs room in
        room_ends room f (Entries, both_fine (P f) s f.edits Entries (relink j y (y.links + 1)) (enter i x entry room) (relink_fine (P f) s f.edits Entries j y (y.links + 1) node) (enter_fine (P f) s f.edits i x entry room two))

    linking_in_fine : (room : Room) → Ends P s (linking_in h i x name j y dirs room)
    linking_in_fine NoRoom = none_ends reply.NoDirBlock (dirs ++ j ∷ [])
    linking_in_fine (Inside q) = linked_fine (Inside q)
    linking_in_fine (InBlock k) = linked_fine (InBlock k)

    linking_node_fine : Ends P s (linking_node h i x name j dirs (Some y))
    linking_node_fine = go (nat_le 1000 y.links) (is_full x)
      where
        go : (a b : Bool) → Ends P s (if a then refused reply.MLink (dirs ++ j ∷ []) else (if b then refused reply.DirFull (dirs ++ j ∷ []) else bind (find_room h x) (linking_in h i x name j y dirs)))
        go true b = (Fresh, tt)
        go false true = (Fresh, tt)
        go false false = subst (IsFinePlan P s) (sym (run-bind (find_room h x) (linking_in h i x name j y dirs) s)) (linking_in_fine (run (find_room h x) s))

  linking_to_fine : (j : ℕ) (y : StoredNode) (node : s.inode j ≡ Some y) (dirs : List ℕ) (v : Spot) → SpotStands h s n disk dirs v → Ends P s (linking_to h j dirs v)
  linking_to_fine j y node dirs AtRoot t = (Fresh, tt)
  linking_to_fine j y node dirs (Lost r) t = (Fresh, tt)
  linking_to_fine j y node dirs (AtName i x name q e) t = (Fresh, tt)
  linking_to_fine j y node dirs (AtGap i x name) t = subst (λ o. Ends P s (linking_node h i x name j dirs o)) (sym node) (linking_node_fine i x t.kind_is name j y node dirs)

  linking_fine : (to : List (List ℕ)) (dirs : List ℕ) (v : Spot) → SpotStands h s n disk dirs v → Ends P s (linking h to dirs v)
  linking_fine to dirs AtRoot t = (Fresh, tt)
  linking_fine to dirs (Lost r) t = (Fresh, tt)
  linking_fine to dirs (AtGap i x name) t = (Fresh, tt)
  linking_fine to dirs (AtName i x name q e) t = go (e.kind == 2)
    where
      go : (b : Bool) → Ends P s (if b then refused reply.IsDir dirs else bind (walk to) (λ w. linking_to h e.inode (dirs ++ w.dirs) w.spot))
      go true = (Fresh, tt)
      go false =
          let w = run (walk to) s in
          subst (IsFinePlan P s) (sym (run-bind (walk to) (λ w. linking_to h e.inode (dirs ++ w.dirs) w.spot) s))
          (linking_to_fine e.inode t.2.node t.2.is (dirs ++ w.dirs) w.spot (wider h s n disk dirs w.dirs w.spot (walk_stands h s n disk to).spot))

  pub link_fine : (path to : List (List ℕ)) → Ends P s (plan_linked h path to)
  link_fine path to =
      let w = run (walk path) s in
      subst (IsFinePlan P s) (sym (run-bind (walk path) (λ w. linking h to w.dirs w.spot) s)) (linking_fine to w.dirs w.spot (walk_stands h s n disk path).spot)

  -- ---- unlink, rmdir
  module _ (i : ℕ) (x : StoredNode) (two : x.kind ≡ 2) (q j : ℕ) (y : StoredNode) (node : s.inode j ≡ Some y) (dirs : List ℕ) where
    removed_fine : Ends P s (finish_over (fewer_segments j y) (removed_by i x q j y dirs))
    removed_fine =
        let f = removed_by i x q j y dirs in
        subst (IsFinePlan P s) (sym (run-segments (fewer_segments j y) (Got (Finishes f)) s))
        (freed y.kind, both_fine (P f) s f.edits (freed y.kind) (take_entry i x q) (fewer j y) (take_fine (P f) s f.edits (freed y.kind) i x q two) (fewer_fine (P f) s f.edits j y node))

    removing_node_fine : Ends P s (removing_node i x q j dirs (Some y))
    removing_node_fine = go (nat_lt 0 y.size)
      where
        go : (b : Bool) → Ends P s (if b then refused reply.NotEmpty (dirs ++ j ∷ []) else finish_over (fewer_segments j y) (removed_by i x q j y dirs))
        go true = (Fresh, tt)
        go false = removed_fine

  unlinking_fine : (dirs : List ℕ) (v : Spot) → SpotStands h s n disk dirs v → Ends P s (unlinking dirs v)
  unlinking_fine dirs AtRoot t = (Fresh, tt)
  unlinking_fine dirs (Lost r) t = (Fresh, tt)
  unlinking_fine dirs (AtGap i x name) t = (Fresh, tt)
  unlinking_fine dirs (AtName i x name q e) t = go (e.kind == 2)
    where
      go : (b : Bool) → Ends P s (if b then refused reply.IsDir dirs else ReadInode e.inode (unlinking_node i x q e.inode dirs))
      go true = (Fresh, tt)
      go false = subst (λ o. Ends P s (unlinking_node i x q e.inode dirs o)) (sym t.2.is) (removed_fine i x t.0.kind_is q e.inode t.2.node t.2.is dirs)

  pub unlink_fine : (path : List (List ℕ)) → Ends P s (plan_unlinked path)
  unlink_fine path =
      let w = run (walk path) s in
      subst (IsFinePlan P s) (sym (run-bind (walk path) (λ w. unlinking w.dirs w.spot) s)) (unlinking_fine w.dirs w.spot (walk_stands h s n disk path).spot)

  removing_fine : (dirs : List ℕ) (v : Spot) → SpotStands h s n disk dirs v → Ends P s (removing dirs v)
  removing_fine dirs AtRoot t = (Fresh, tt)
  removing_fine dirs (Lost r) t = (Fresh, tt)
  removing_fine dirs (AtGap i x name) t = (Fresh, tt)
  removing_fine dirs (AtName i x name q e) t = go (e.kind == 2)
    where
      go : (b : Bool) → Ends P s (if b then ReadInode e.inode (removing_node i x q e.inode dirs) else refused reply.NotDir dirs)
      go true = subst (λ o. Ends P s (removing_node i x q e.inode dirs o)) (sym t.2.is) (removing_node_fine i x t.0.kind_is q e.inode t.2.node t.2.is dirs)
      go false = (Fresh, tt)

  pub rmdir_fine : (path : List (List ℕ)) → Ends P s (plan_dir_removed path)
  rmdir_fine path =
      let w = run (walk path) s in
      subst (IsFinePlan P s) (sym (run-bind (walk path) (λ w. removing w.dirs w.spot) s)) (removing_fine w.dirs w.spot (walk_stands h s n disk path).spot)

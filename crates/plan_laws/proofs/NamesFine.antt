-- The locks of the plans of the operations on names but rename cover what these look at and edit, over the disk of a tree.
use Rattle.std.proofs.Common.{ℕ, ◌≡◌, ◌<◌, ◌*◌, ◌/◌, ◌==◌, inl, ⊎_elim, Bool, true, false, nat_le, nat_lt, if◌then◌else◌, Option, Some, None, List, [], ◌∷◌, ◌++◌, refl, sym, subst}
use Rattle.std.proofs.lemmas.List.Elements.{Contains-append_left, Contains-append_right}
use Rattle.std.specs.List.{Contains}
use Rattle.frang_base.specs.declared.lock.LockId.TheVariants as lock
use Rattle.frang_base.specs.declared.lock.Mode.TheVariants.{Sole}
use Rattle.frang_base.specs.declared.reply.Reply.TheVariants as reply
use Rattle.tree_definitions.specs.declared.node.Node.{Node}
use Rattle.disk_definitions.specs.Store.{Store, StoredNode}
use Rattle.disk_definitions.specs.Naming.{Naming, kind_of}
use Rattle.disk_definitions.specs.Picks.{picked_inode}
use Rattle.disk_definitions.specs.Ask.{InodeAt, ReadInode, bind, run, looks}
use Rattle.disk_definitions.specs.Walks.{Spot, walk}
use Rattle.disk_definitions.specs.Walks.Spot.{AtRoot, AtName, AtGap, Lost}
use Rattle.disk_definitions.specs.Plans.{Hand, Room, refused, read_held, find_room, finish_in, room_segments, is_full, shared_nodes, sole_nodes, sole_segments}
use Rattle.disk_definitions.specs.Plans.Room.{Inside, InBlock, NoRoom}
use Rattle.disk_definitions.specs.NamePlans.{made_by, making_in, making_with, making, plan_made, linked_by, linking_in, linking_node, linking_to, linking, plan_linked, fewer_segments, finish_over, removed_by, unlinking_node, unlinking, plan_unlinked, removing_node, removing, plan_dir_removed}
use Rattle.plan_laws.specs.Locks.{IsSole}
use Rattle.plan_laws.proofs.Covering.{has_head, has_more, node_sole, segment_sole}
use Rattle.disk_definitions.specs.Covers.{inode_cover}
use Rattle.plan_laws.specs.Covers.{PlanHolds}
use Rattle.plan_laws.proofs.Standing.{DiskStands}
use Rattle.plan_laws.proofs.Fine.{first_held, Fine, FinishFits, seen_more, past_held, refuse_fine, none_fine, over}
use Rattle.plan_laws.proofs.WalksFine.{either, RoomStands, room_stands, DirStands, SpotStands, walk_stands, on_walk}
use Rattle.plan_laws.proofs.RoomsFine.{own_sole, place_sole, enter_fits, fewer_fits, on_room, finish_holds, room_fine, wider, alone, read_node, without_last}

module _ (h : Hand) (s : Store) (n : Naming) (disk : DiskStands h s n) where
  -- ---- create, mkdir, symlink
  module _ (i : ℕ) (x : StoredNode) (name : List ℕ) (birth : ℕ) (node : Node) (dirs : List ℕ) (dir : DirStands h s n disk dirs i x) where
    made_segments : (j : ℕ) (room : Room) (k : ℕ) → Contains (room_segments room) k → IsSole (made_by i x name birth node dirs j room).locks (lock.Segment k)
    made_segments j room k c = segment_sole (shared_nodes dirs ++ sole_nodes (i ∷ j ∷ [])) ((j / 64) ∷ room_segments room) k (has_more (j / 64) k (room_segments room) c)

    made_bit : (j : ℕ) (room : Room) → IsSole (made_by i x name birth node dirs j room).locks (lock.Segment (j / 64))
    made_bit j room = segment_sole (shared_nodes dirs ++ sole_nodes (i ∷ j ∷ [])) ((j / 64) ∷ room_segments room) (j / 64) (has_head (j / 64) (room_segments room))

    made_fits : (j : ℕ) (room : Room) → n.birth j ≡ None → RoomStands h s n disk x room → FinishFits h s n dirs (made_by i x name birth node dirs j room)
    made_fits j room free r =
        let f = made_by i x name birth node dirs j room in
        let sole : IsSole f.locks (lock.Node i) = node_sole (shared_nodes dirs) (i ∷ j ∷ []) (sole_segments ((j / 64) ∷ room_segments room)) i (has_head i (j ∷ [])) in
        record {
          nodes = first_held dirs (sole_nodes (i ∷ j ∷ [])) (sole_segments ((j / 64) ∷ room_segments room));
          edits = (subst (λ o. IsSole f.locks (inode_cover j o)) (sym free) (made_bit j room), (made_bit j room, enter_fits h s n disk f.locks i x (record { name = name; inode = j; kind = kind_of node }) room dir.is sole r (made_segments j room)));
        }

    making_read : (j : ℕ) (room : Room) → n.birth j ≡ None → RoomStands h s n disk x room → Fine h s n dirs (ReadInode j (λ free. finish_in h room (made_by i x name birth node dirs j room)))
    making_read j room free r =
        let f = made_by i x name birth node dirs j room in
        let v = run (finish_in h room f) s in
        seen_more h s n dirs (InodeAt j) (looks (finish_in h room f) s) v (inl (subst (λ o. PlanHolds v (inode_cover j o)) (sym free) (finish_holds h s n disk room f (lock.Segment (j / 64)) (made_bit j room)))) (room_fine h s n disk dirs x room f (made_fits j room free r) r (made_segments j room))

    making_in_fine : (j : ℕ) (room : Room) → n.birth j ≡ None → RoomStands h s n disk x room → Fine h s n dirs (making_in h i x name birth node dirs j room)
    making_in_fine j NoRoom free r = none_fine h s n dirs dirs reply.NoDirBlock (λ i c. c)
    making_in_fine j (Inside q) free r = making_read j (Inside q) free r
    making_in_fine j (InBlock k) free r = making_read j (InBlock k) free r

    making_with_fine : (o : Option ℕ) → picked_inode h.held ≡ o → Fine h s n dirs (making_with h i x name birth node dirs o)
    making_with_fine None e = none_fine h s n dirs dirs reply.NoInode (λ i c. c)
    making_with_fine (Some j) e = on_room h s n disk dirs i x (making_in h i x name birth node dirs j) dir.is dir.walked (making_in_fine j (run (find_room h x) s) (disk.inode j e) (room_stands h s n disk x))

  making_fine : (birth : ℕ) (node : Node) (dirs : List ℕ) (v : Spot) → SpotStands h s n disk dirs v → Fine h s n dirs (making h birth node dirs v)
  making_fine birth node dirs AtRoot t = refuse_fine h s n dirs dirs reply.Exist (λ i c. c)
  making_fine birth node dirs (Lost r) t = refuse_fine h s n dirs dirs r (λ i c. c)
  making_fine birth node dirs (AtName i x name q e) t = refuse_fine h s n dirs dirs reply.Exist (λ i c. c)
  making_fine birth node dirs (AtGap i x name) t = go (is_full x)
    where
      go : (b : Bool) → Fine h s n dirs (if b then refused reply.DirFull dirs else read_held h (making_with h i x name birth node dirs (picked_inode h.held)))
      go true = refuse_fine h s n dirs dirs reply.DirFull (λ i c. c)
      go false = past_held h s n dirs (making_with h i x name birth node dirs (picked_inode h.held)) (making_with_fine i x name birth node dirs t (picked_inode h.held) refl)

  pub made_path_fine : (birth : ℕ) (node : Node) (path : List (List ℕ)) → Fine h s n (run (walk path) s).dirs (plan_made h birth node path)
  made_path_fine birth node path = let w = run (walk path) s in on_walk h s n disk w.dirs path (λ w. making h birth node w.dirs w.spot) (λ i c. c) (making_fine birth node w.dirs w.spot (walk_stands h s n disk path).spot)

  -- ---- link
  module _ (i : ℕ) (x : StoredNode) (name : List ℕ) (j : ℕ) (y : StoredNode) (dirs : List ℕ) (dir : DirStands h s n disk dirs i x) (node : s.inode j ≡ Some y) where
    abbrev both : List ℕ
    both = dirs ++ j ∷ []

    linked_segments : (room : Room) (k : ℕ) → Contains (room_segments room) k → IsSole (linked_by i x name j y dirs room).locks (lock.Segment k)
    linked_segments room k c = segment_sole (shared_nodes dirs ++ sole_nodes (i ∷ j ∷ [])) (room_segments room) k c

    linked_own : (room : Room) → IsSole (linked_by i x name j y dirs room).locks (lock.Node j)
    linked_own room = node_sole (shared_nodes dirs) (i ∷ j ∷ []) (sole_segments (room_segments room)) j (has_more i j (j ∷ []) (has_head j []))

    linked_fits : (room : Room) → RoomStands h s n disk x room → FinishFits h s n both (linked_by i x name j y dirs room)
    linked_fits room r =
        let f = linked_by i x name j y dirs room in
        let sole : IsSole f.locks (lock.Node i) = node_sole (shared_nodes dirs) (i ∷ j ∷ []) (sole_segments (room_segments room)) i (has_head i (j ∷ [])) in
        record {
          nodes = λ c d. ⊎_elim (first_held dirs (sole_nodes (i ∷ j ∷ [])) (sole_segments (room_segments room)) c) (λ e. (Sole, node_sole (shared_nodes dirs) (i ∷ j ∷ []) (sole_segments (room_segments room)) c (has_more i c (j ∷ []) e))) (either dirs (j ∷ []) c d);
          edits = (own_sole h s n disk f.locks j y node (linked_own room), enter_fits h s n disk f.locks i x (record { name = name; inode = j; kind = y.kind }) room dir.is sole r (linked_segments room));
        }

    linking_in_fine : (room : Room) → RoomStands h s n disk x room → Fine h s n both (linking_in h i x name j y dirs room)
    linking_in_fine NoRoom r = none_fine h s n both both reply.NoDirBlock (λ i c. c)
    linking_in_fine (Inside q) r = room_fine h s n disk both x (Inside q) (linked_by i x name j y dirs (Inside q)) (linked_fits (Inside q) r) r (linked_segments (Inside q))
    linking_in_fine (InBlock k) r = room_fine h s n disk both x (InBlock k) (linked_by i x name j y dirs (InBlock k)) (linked_fits (InBlock k) r) r (linked_segments (InBlock k))

    pub linking_node_fine : Fine h s n both (linking_node h i x name j dirs (Some y))
    linking_node_fine = go (nat_le 1000 y.links) (is_full x)
      where
        go : (a b : Bool) → Fine h s n both (if a then refused reply.MLink both else (if b then refused reply.DirFull both else bind (find_room h x) (linking_in h i x name j y dirs)))
        go true b = refuse_fine h s n both both reply.MLink (λ i c. c)
        go false true = refuse_fine h s n both both reply.DirFull (λ i c. c)
        go false false = on_room h s n disk both i x (linking_in h i x name j y dirs) dir.is (Contains-append_left dirs (j ∷ []) i dir.walked) (linking_in_fine (run (find_room h x) s) (room_stands h s n disk x))

  linking_to_fine : (j : ℕ) (y : StoredNode) (dirs : List ℕ) (v : Spot) → s.inode j ≡ Some y → SpotStands h s n disk dirs v → Fine h s n dirs (linking_to h j dirs v)
  linking_to_fine j y dirs AtRoot is t = refuse_fine h s n dirs dirs reply.Exist (λ i c. c)
  linking_to_fine j y dirs (Lost r) is t = refuse_fine h s n dirs dirs r (λ i c. c)
  linking_to_fine j y dirs (AtName i x name q e) is t = refuse_fine h s n dirs dirs reply.Exist (λ i c. c)
  linking_to_fine j y dirs (AtGap i x name) is t = without_last h s n disk dirs j (ReadInode j (linking_node h i x name j dirs)) (read_node h s n disk dirs j y (linking_node h i x name j dirs) is (linking_node_fine i x name j y dirs t is))

  -- the directories of the second walk of a link
  abbrev pub link_dirs : List (List ℕ) → Spot → List ℕ
  link_dirs to (AtName i x name q e) = if e.kind == 2 then [] else (run (walk to) s).dirs
  link_dirs to _ = []

  linking_fine : (to : List (List ℕ)) (dirs : List ℕ) (v : Spot) → SpotStands h s n disk dirs v → Fine h s n (dirs ++ link_dirs to v) (linking h to dirs v)
  linking_fine to dirs AtRoot t = refuse_fine h s n (dirs ++ []) dirs reply.IsDir (alone h s n disk dirs)
  linking_fine to dirs (Lost r) t = refuse_fine h s n (dirs ++ []) dirs r (alone h s n disk dirs)
  linking_fine to dirs (AtGap i x name) t = refuse_fine h s n (dirs ++ []) dirs reply.NoEnt (alone h s n disk dirs)
  linking_fine to dirs (AtName i x name q e) t = go (e.kind == 2)
    where
      go : (b : Bool) → Fine h s n (dirs ++ (if b then [] else (run (walk to) s).dirs)) (if b then refused reply.IsDir dirs else bind (walk to) (λ w. linking_to h e.inode (dirs ++ w.dirs) w.spot))
      go true = refuse_fine h s n (dirs ++ []) dirs reply.IsDir (alone h s n disk dirs)
      go false =
          let w = run (walk to) s in
          on_walk h s n disk (dirs ++ w.dirs) to (λ w. linking_to h e.inode (dirs ++ w.dirs) w.spot) (λ i c. Contains-append_right dirs w.dirs i c)
          (linking_to_fine e.inode t.2.node (dirs ++ w.dirs) w.spot t.2.is (wider h s n disk dirs w.dirs w.spot (walk_stands h s n disk to).spot))

  pub link_fine : (path to : List (List ℕ)) → Fine h s n ((run (walk path) s).dirs ++ link_dirs to (run (walk path) s).spot) (plan_linked h path to)
  link_fine path to = let w = run (walk path) s in on_walk h s n disk (w.dirs ++ link_dirs to w.spot) path (λ w. linking h to w.dirs w.spot) (λ i c. Contains-append_left w.dirs (link_dirs to w.spot) i c) (linking_fine to w.dirs w.spot (walk_stands h s n disk path).spot)

  -- ---- unlink, rmdir
  module _ (i : ℕ) (x : StoredNode) (q j : ℕ) (y : StoredNode) (dirs : List ℕ) (dir : DirStands h s n disk dirs i x) (inside : q < 56 * x.blocks) (node : s.inode j ≡ Some y) where
    removed_fine : Fine h s n (dirs ++ j ∷ []) (finish_over (fewer_segments j y) (removed_by i x q j y dirs))
    removed_fine =
        let f = removed_by i x q j y dirs in
        let segments = sole_segments (fewer_segments j y) in
        let sole : IsSole f.locks (lock.Node i) = node_sole (shared_nodes dirs) (i ∷ j ∷ []) segments i (has_head i (j ∷ [])) in
        let own : IsSole f.locks (lock.Node j) = node_sole (shared_nodes dirs) (i ∷ j ∷ []) segments j (has_more i j (j ∷ []) (has_head j [])) in
        let parts = segment_sole (shared_nodes dirs ++ sole_nodes (i ∷ j ∷ [])) (fewer_segments j y) in
        over h s n (dirs ++ j ∷ []) (fewer_segments j y) f parts
        (record {
          nodes = λ c d. ⊎_elim (first_held dirs (sole_nodes (i ∷ j ∷ [])) segments c) (λ e. (Sole, node_sole (shared_nodes dirs) (i ∷ j ∷ []) segments c (has_more i c (j ∷ []) e))) (either dirs (j ∷ []) c d);
          edits = (own_sole h s n disk f.locks i x dir.is sole, (place_sole h s n disk f.locks i x q dir.is inside sole, fewer_fits h s n disk f.locks j y node own parts));
        })

    removing_node_fine : Fine h s n (dirs ++ j ∷ []) (removing_node i x q j dirs (Some y))
    removing_node_fine = go (nat_lt 0 y.size)
      where
        go : (b : Bool) → Fine h s n (dirs ++ j ∷ []) (if b then refused reply.NotEmpty (dirs ++ j ∷ []) else finish_over (fewer_segments j y) (removed_by i x q j y dirs))
        go true = refuse_fine h s n (dirs ++ j ∷ []) (dirs ++ j ∷ []) reply.NotEmpty (λ i c. c)
        go false = removed_fine

  unlinking_fine : (dirs : List ℕ) (v : Spot) → SpotStands h s n disk dirs v → Fine h s n dirs (unlinking dirs v)
  unlinking_fine dirs AtRoot t = refuse_fine h s n dirs dirs reply.IsDir (λ i c. c)
  unlinking_fine dirs (Lost r) t = refuse_fine h s n dirs dirs r (λ i c. c)
  unlinking_fine dirs (AtGap i x name) t = refuse_fine h s n dirs dirs reply.NoEnt (λ i c. c)
  unlinking_fine dirs (AtName i x name q e) t = go (e.kind == 2)
    where
      go : (b : Bool) → Fine h s n dirs (if b then refused reply.IsDir dirs else ReadInode e.inode (unlinking_node i x q e.inode dirs))
      go true = refuse_fine h s n dirs dirs reply.IsDir (λ i c. c)
      go false = without_last h s n disk dirs e.inode (ReadInode e.inode (unlinking_node i x q e.inode dirs)) (read_node h s n disk dirs e.inode t.2.node (unlinking_node i x q e.inode dirs) t.2.is (removed_fine i x q e.inode t.2.node dirs t.0 t.1 t.2.is))

  pub unlink_fine : (path : List (List ℕ)) → Fine h s n (run (walk path) s).dirs (plan_unlinked path)
  unlink_fine path = let w = run (walk path) s in on_walk h s n disk w.dirs path (λ w. unlinking w.dirs w.spot) (λ i c. c) (unlinking_fine w.dirs w.spot (walk_stands h s n disk path).spot)

  -- the directory that is to go
  abbrev pub removed_dir : Spot → List ℕ
  removed_dir (AtName i x name q e) = if e.kind == 2 then e.inode ∷ [] else []
  removed_dir _ = []

  removing_fine : (dirs : List ℕ) (v : Spot) → SpotStands h s n disk dirs v → Fine h s n (dirs ++ removed_dir v) (removing dirs v)
  removing_fine dirs AtRoot t = refuse_fine h s n (dirs ++ []) dirs reply.Inval (alone h s n disk dirs)
  removing_fine dirs (Lost r) t = refuse_fine h s n (dirs ++ []) dirs r (alone h s n disk dirs)
  removing_fine dirs (AtGap i x name) t = refuse_fine h s n (dirs ++ []) dirs reply.NoEnt (alone h s n disk dirs)
  removing_fine dirs (AtName i x name q e) t = go (e.kind == 2)
    where
      go : (b : Bool) → Fine h s n (dirs ++ (if b then e.inode ∷ [] else [])) (if b then ReadInode e.inode (removing_node i x q e.inode dirs) else refused reply.NotDir dirs)
      go true = read_node h s n disk dirs e.inode t.2.node (removing_node i x q e.inode dirs) t.2.is (removing_node_fine i x q e.inode t.2.node dirs t.0 t.1 t.2.is)
      go false = refuse_fine h s n (dirs ++ []) dirs reply.NotDir (alone h s n disk dirs)

  pub rmdir_fine : (path : List (List ℕ)) → Fine h s n ((run (walk path) s).dirs ++ removed_dir (run (walk path) s).spot) (plan_dir_removed path)
  rmdir_fine path = let w = run (walk path) s in on_walk h s n disk (w.dirs ++ removed_dir w.spot) path (λ w. removing w.dirs w.spot) (λ i c. Contains-append_left w.dirs (removed_dir w.spot) i c) (removing_fine w.dirs w.spot (walk_stands h s n disk path).spot)

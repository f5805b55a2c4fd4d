-- The plans of the operations on names are told where they look, over the disk of a tree.
use Rattle.std.proofs.Common.{ℕ, ◌≡◌, ◌==◌, ◌&&◌, not, inl, inr, Bool, true, false, nat_le, nat_lt, if◌then◌else◌, Option, Some, None, List, [], ◌∷◌, ◌++◌, refl}
use Rattle.std.specs.List.{Contains}
use Rattle.frang_base.specs.declared.reply.Reply.TheVariants as reply
use Rattle.tree_definitions.specs.declared.node.Node.{Node}
use Rattle.disk_definitions.specs.Store.{Store, StoredNode, StoredEntry}
use Rattle.disk_definitions.specs.Naming.{Naming}
use Rattle.disk_definitions.specs.Picks.{picked_inode}
use Rattle.disk_definitions.proofs.PickLaws.{an_inode}
use Rattle.disk_definitions.specs.Ask.{Sector, InodeAt, Ask, Got, ReadInode, bind}
use Rattle.disk_definitions.specs.Walks.{Spot, Walked, walk}
use Rattle.disk_definitions.specs.Walks.Spot.{AtRoot, AtName, AtGap, Lost}
use Rattle.disk_definitions.specs.Plans.{Hand, Plan, Finish, Room, refused, read_held, find_room, is_full}
use Rattle.disk_definitions.specs.Plans.Plan.{Finishes}
use Rattle.disk_definitions.specs.Plans.Room.{Inside, InBlock, NoRoom}
use Rattle.disk_definitions.specs.NamePlans.{made_by, making_in, making_with, making, plan_made, linked_by, linking_in, linking_node, linking_to, linking, plan_linked, fewer_segments, finish_over, removed_by, unlinking_node, unlinking, plan_unlinked, removing_node, removing, plan_dir_removed, Moving, moved_onto_by, replacing_node, moving_onto, moved_within, moved_between, moving_in, moving_to, goes_through, renaming_to, renaming, plan_renamed}
use Rattle.plan_laws.proofs.Covering.{has_more}
use Rattle.plan_laws.proofs.Standing.{HasKind, DiskStands}
use Rattle.plan_laws.proofs.WalksFine.{SpotStands}
use Rattle.line_laws.proofs.Tells.{tells_segments}
use Rattle.line_laws.proofs.WalksTold.{Ends, IsRoomTold, AreSeen, room_then, finish_told, held_told, walk_then}

module _ (h : Hand) (s : Store) (n : Naming) (disk : DiskStands h s n) where
  abbrev All : Ask Plan → List Sector → Type 0
  All p before = Ends h s n disk p before

  pub over_told : (segments : List ℕ) (f : Finish) (before : List Sector) → All (finish_over segments f) before
  over_told segments f before = tells_segments s h.held (λ later v. Unit {0}) segments (Got (Finishes f)) before (λ later a. tt)

  -- a node's inode is read, and then a plan that looks at nothing by itself
  pub read_told : (j kind : ℕ) → HasKind s j kind → (next : Option StoredNode → Ask Plan) (before : List Sector) → ((o : Option StoredNode) → All (next o) (InodeAt j ∷ before)) → All (ReadInode j next) before
  read_told j kind k next before f = (inl (k.node, k.is), f (s.inode j))

  -- ---- create, mkdir, symlink
  module _ (i : ℕ) (x : StoredNode) (name : List ℕ) (birth : ℕ) (node : Node) (dirs : List ℕ) (is : s.inode i ≡ Some x) where
    making_room : (j : ℕ) → picked_inode h.held ≡ Some j → (later : List Sector) (room : Room) → IsRoomTold h s n disk room → All (making_in h i x name birth node dirs j room) later
    making_room j e later NoRoom r = tt
    making_room j e later (Inside q) r = (inr (an_inode h.held j e).1, tt)
    making_room j e later (InBlock k) r = (inr (an_inode h.held j e).1, finish_told h s n disk (InBlock k) (made_by i x name birth node dirs j (InBlock k)) (InodeAt j ∷ later) r)

    making_inode : (o : Option ℕ) → picked_inode h.held ≡ o → (before : List Sector) → Contains before (InodeAt i) → All (making_with h i x name birth node dirs o) before
    making_inode None e before c = tt
    making_inode (Some j) e before c = room_then h s n disk i x is (making_in h i x name birth node dirs j) before c (making_room j e)

    making_gap : (before : List Sector) → Contains before (InodeAt i) → All (making h birth node dirs (AtGap i x name)) before
    making_gap before c = go (is_full x)
      where
        go : (b : Bool) → All (if b then refused reply.DirFull dirs else read_held h (making_with h i x name birth node dirs (picked_inode h.held))) before
        go true = tt
        go false = held_told h s n disk (making_with h i x name birth node dirs (picked_inode h.held)) before (λ later a. making_inode (picked_inode h.held) refl later (a (InodeAt i) c))

  making_told : (birth : ℕ) (node : Node) (later : List Sector) (w : Walked) → AreSeen h s n disk w.dirs later → SpotStands h s n disk w.dirs w.spot → All (making h birth node w.dirs w.spot) later
  making_told birth node later w a t = go w.spot t
    where
      go : (v : Spot) → SpotStands h s n disk w.dirs v → All (making h birth node w.dirs v) later
      go AtRoot t = tt
      go (Lost r) t = tt
      go (AtName i x name q e) t = tt
      go (AtGap i x name) t = making_gap i x name birth node w.dirs t.is later (a i t.walked)

  pub made_told : (birth : ℕ) (node : Node) (path : List (List ℕ)) (before : List Sector) → All (plan_made h birth node path) before
  made_told birth node path before = walk_then h s n disk path (λ w. making h birth node w.dirs w.spot) before (making_told birth node)

  -- ---- link
  module _ (i : ℕ) (x : StoredNode) (name : List ℕ) (j : ℕ) (dirs : List ℕ) (is : s.inode i ≡ Some x) where
    linking_room : (y : StoredNode) (later : List Sector) (room : Room) → IsRoomTold h s n disk room → All (linking_in h i x name j y dirs room) later
    linking_room y later NoRoom r = tt
    linking_room y later (Inside q) r = tt
    linking_room y later (InBlock k) r = finish_told h s n disk (InBlock k) (linked_by i x name j y dirs (InBlock k)) later r

    linking_inode : (before : List Sector) → Contains before (InodeAt i) → (o : Option StoredNode) → All (linking_node h i x name j dirs o) before
    linking_inode before c None = tt
    linking_inode before c (Some y) = go (nat_le 1000 y.links) (is_full x)
      where
        go : (a b : Bool) → All (if a then refused reply.MLink (dirs ++ j ∷ []) else (if b then refused reply.DirFull (dirs ++ j ∷ []) else bind (find_room h x) (linking_in h i x name j y dirs))) before
        go true b = tt
        go false true = tt
        go false false = room_then h s n disk i x is (linking_in h i x name j y dirs) before c (linking_room y)

  linking_to_told : (j kind : ℕ) → HasKind s j kind → (dirs : List ℕ) (later : List Sector) (w : Walked) → AreSeen h s n disk w.dirs later → SpotStands h s n disk w.dirs w.spot → All (linking_to h j (dirs ++ w.dirs) w.spot) later
  linking_to_told j kind k dirs later w a t = go w.spot t
    where
      go : (v : Spot) → SpotStands h s n disk w.dirs v → All (linking_to h j (dirs ++ w.dirs) v) later
      go AtRoot t = tt
      go (Lost r) t = tt
      go (AtName i x name q e) t = tt
      go (AtGap i x name) t =
          read_told j kind k (linking_node h i x name j (dirs ++ w.dirs)) later (linking_inode i x name j (dirs ++ w.dirs) t.is (InodeAt j ∷ later) (has_more (InodeAt j) (InodeAt i) later (a i t.walked)))

  linking_told : (to : List (List ℕ)) (later : List Sector) (w : Walked) → SpotStands h s n disk w.dirs w.spot → All (linking h to w.dirs w.spot) later
  linking_told to later w t = go w.spot t
    where
      second : (j kind : ℕ) → HasKind s j kind → (b : Bool) → All (if b then refused reply.IsDir w.dirs else bind (walk to) (λ v. linking_to h j (w.dirs ++ v.dirs) v.spot)) later
      second j kind k true = tt
      second j kind k false = walk_then h s n disk to (λ v. linking_to h j (w.dirs ++ v.dirs) v.spot) later (linking_to_told j kind k w.dirs)

      go : (v : Spot) → SpotStands h s n disk w.dirs v → All (linking h to w.dirs v) later
      go AtRoot t = tt
      go (Lost r) t = tt
      go (AtGap i x name) t = tt
      go (AtName i x name q e) t = second e.inode e.kind t.2 (e.kind == 2)

  pub linked_told : (path to : List (List ℕ)) (before : List Sector) → All (plan_linked h path to) before
  linked_told path to before = walk_then h s n disk path (λ w. linking h to w.dirs w.spot) before (λ later w a t. linking_told to later w t)

  -- ---- unlink, rmdir
  unlinking_told : (later : List Sector) (w : Walked) → SpotStands h s n disk w.dirs w.spot → All (unlinking w.dirs w.spot) later
  unlinking_told later w t = go w.spot t
    where
      node : (i : ℕ) (x : StoredNode) (q j : ℕ) (before : List Sector) (o : Option StoredNode) → All (unlinking_node i x q j w.dirs o) before
      node i x q j before None = tt
      node i x q j before (Some y) = over_told (fewer_segments j y) (removed_by i x q j y w.dirs) before

      named : (i : ℕ) (x : StoredNode) (q : ℕ) (e : StoredEntry) → HasKind s e.inode e.kind → (b : Bool) → All (if b then refused reply.IsDir w.dirs else ReadInode e.inode (unlinking_node i x q e.inode w.dirs)) later
      named i x q e k true = tt
      named i x q e k false = read_told e.inode e.kind k (unlinking_node i x q e.inode w.dirs) later (node i x q e.inode (InodeAt e.inode ∷ later))

      go : (v : Spot) → SpotStands h s n disk w.dirs v → All (unlinking w.dirs v) later
      go AtRoot t = tt
      go (Lost r) t = tt
      go (AtGap i x name) t = tt
      go (AtName i x name q e) t = named i x q e t.2 (e.kind == 2)

  pub unlinked_told : (path : List (List ℕ)) (before : List Sector) → All (plan_unlinked path) before
  unlinked_told path before = walk_then h s n disk path (λ w. unlinking w.dirs w.spot) before (λ later w a t. unlinking_told later w t)

  removing_told : (later : List Sector) (w : Walked) → SpotStands h s n disk w.dirs w.spot → All (removing w.dirs w.spot) later
  removing_told later w t = go w.spot t
    where
      by_size : (i : ℕ) (x : StoredNode) (q j : ℕ) (y : StoredNode) (before : List Sector) (b : Bool) → All (if b then refused reply.NotEmpty (w.dirs ++ j ∷ []) else finish_over (fewer_segments j y) (removed_by i x q j y w.dirs)) before
      by_size i x q j y before true = tt
      by_size i x q j y before false = over_told (fewer_segments j y) (removed_by i x q j y w.dirs) before

      node : (i : ℕ) (x : StoredNode) (q j : ℕ) (before : List Sector) (o : Option StoredNode) → All (removing_node i x q j w.dirs o) before
      node i x q j before None = tt
      node i x q j before (Some y) = by_size i x q j y before (nat_lt 0 y.size)

      named : (i : ℕ) (x : StoredNode) (q : ℕ) (e : StoredEntry) → HasKind s e.inode e.kind → (b : Bool) → All (if b then ReadInode e.inode (removing_node i x q e.inode w.dirs) else refused reply.NotDir w.dirs) later
      named i x q e k true = read_told e.inode e.kind k (removing_node i x q e.inode w.dirs) later (node i x q e.inode (InodeAt e.inode ∷ later))
      named i x q e k false = tt

      go : (v : Spot) → SpotStands h s n disk w.dirs v → All (removing w.dirs v) later
      go AtRoot t = tt
      go (Lost r) t = tt
      go (AtGap i x name) t = tt
      go (AtName i x name q e) t = named i x q e t.2 (e.kind == 2)

  pub removed_told : (path : List (List ℕ)) (before : List Sector) → All (plan_dir_removed path) before
  removed_told path before = walk_then h s n disk path (λ w. removing w.dirs w.spot) before (λ later w a t. removing_told later w t)

  -- ---- rename
  module _ (m : Moving) (dirs : List ℕ) where
    replacing_told : (i : ℕ) (x : StoredNode) (name : List ℕ) (q j : ℕ) (before : List Sector) (o : Option StoredNode) → All (replacing_node m i x name q j dirs o) before
    replacing_told i x name q j before None = tt
    replacing_told i x name q j before (Some y) = go (y.kind == 2 && nat_lt 0 y.size)
      where
        go : (b : Bool) → All (if b then refused reply.NotEmpty (dirs ++ j ∷ []) else finish_over (fewer_segments j y) (moved_onto_by m i x name q j y dirs)) before
        go true = tt
        go false = over_told (fewer_segments j y) (moved_onto_by m i x name q j y dirs) before

    onto_told : (i : ℕ) (x : StoredNode) (name : List ℕ) (q : ℕ) (e : StoredEntry) → HasKind s e.inode e.kind → (later : List Sector) → All (moving_onto m i x name q e dirs) later
    onto_told i x name q e k later = go (e.inode == m.entry.inode) (m.entry.kind == 2 && not (e.kind == 2)) (e.kind == 2 && not (m.entry.kind == 2))
      where
        go : (a b c : Bool) → All (if a then refused reply.Ok dirs else (if b then refused reply.NotDir dirs else (if c then refused reply.IsDir dirs else ReadInode e.inode (replacing_node m i x name q e.inode dirs)))) later
        go true b c = tt
        go false true c = tt
        go false false true = tt
        go false false false = read_told e.inode e.kind k (replacing_node m i x name q e.inode dirs) later (replacing_told i x name q e.inode (InodeAt e.inode ∷ later))

    moving_room : (i : ℕ) (x : StoredNode) (name : List ℕ) (later : List Sector) (room : Room) → IsRoomTold h s n disk room → All (moving_in h m i x name dirs room) later
    moving_room i x name later NoRoom r = tt
    moving_room i x name later (Inside q) r = tt
    moving_room i x name later (InBlock k) r = finish_told h s n disk (InBlock k) (moved_between m i x name dirs (InBlock k)) later r

    to_told : (i : ℕ) (x : StoredNode) (name : List ℕ) → s.inode i ≡ Some x → (before : List Sector) → Contains before (InodeAt i) → All (moving_to h m i x name dirs) before
    to_told i x name is before c = go (i == m.dir) (is_full x)
      where
        go : (a b : Bool) → All (if a then Got (Finishes (moved_within m name dirs)) else (if b then refused reply.DirFull dirs else bind (find_room h x) (moving_in h m i x name dirs))) before
        go true b = tt
        go false true = tt
        go false false = room_then h s n disk i x is (moving_in h m i x name dirs) before c (moving_room i x name)

    renaming_to_told : (to_dirs : List ℕ) (later : List Sector) → AreSeen h s n disk to_dirs later → (v : Spot) → SpotStands h s n disk to_dirs v → All (renaming_to h m to_dirs dirs v) later
    renaming_to_told to_dirs later a AtRoot t = tt
    renaming_to_told to_dirs later a (Lost r) t = tt
    renaming_to_told to_dirs later a (AtName i x name q e) t = go (goes_through m to_dirs)
      where
        go : (b : Bool) → All (if b then refused reply.Inval dirs else moving_onto m i x name q e dirs) later
        go true = tt
        go false = onto_told i x name q e t.2 later
    renaming_to_told to_dirs later a (AtGap i x name) t = go (goes_through m to_dirs)
      where
        go : (b : Bool) → All (if b then refused reply.Inval dirs else moving_to h m i x name dirs) later
        go true = tt
        go false = to_told i x name t.is later (a i t.walked)

  renaming_told : (to : List (List ℕ)) (later : List Sector) (dirs : List ℕ) (v : Spot) → All (renaming h to dirs v) later
  renaming_told to later dirs AtRoot = tt
  renaming_told to later dirs (Lost r) = tt
  renaming_told to later dirs (AtGap i x name) = tt
  renaming_told to later dirs (AtName i x name q e) =
      let m : Moving = record { dir = i; directory = x; slot = q; entry = e } in
      walk_then h s n disk to (λ w. renaming_to h m w.dirs (dirs ++ w.dirs) w.spot) later (λ most w a t. renaming_to_told m (dirs ++ w.dirs) w.dirs most a w.spot t)

  pub renamed_told : (path to : List (List ℕ)) (before : List Sector) → All (plan_renamed h path to) before
  renamed_told [] to before = tt
  renamed_told (name ∷ names) [] before = tt
  renamed_told (name ∷ names) (new ∷ news) before = walk_then h s n disk (name ∷ names) (λ w. renaming h (new ∷ news) w.dirs w.spot) before (λ later w a t. renaming_told (new ∷ news) later w.dirs w.spot)

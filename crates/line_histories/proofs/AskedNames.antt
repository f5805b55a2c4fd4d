-- Walks and plans of names ask for inodes, for the eight parts of directories' blocks and for segments, and for nothing else.
use Rattle.std.proofs.Common.{ℕ, zero, suc, ◌<◌, ◌+◌, ◌*◌, ◌/◌, ◌%◌, ◌==◌, ◌&&◌, not, Bool, true, false, nat_le, nat_lt, if◌then◌else◌, Option, Some, None, List, [], ◌∷◌, ◌++◌, arith}
use Rattle.std.specs.List.{Contains}
use Rattle.std.specs.Map.{keys_of}
use Rattle.frang_base.specs.declared.reply.Reply.TheVariants as reply
use Rattle.tree_definitions.specs.declared.node.Node.{Node}
use Rattle.disk_definitions.specs.Store.{StoredNode, StoredEntry}
use Rattle.disk_definitions.specs.Least.{least}
use Rattle.disk_definitions.specs.Picks.{picked_inode, picked_directory}
use Rattle.disk_definitions.specs.Ask.{Sector, InodeAt, DirectoryAt, SegmentAt, Ask, Got, ReadInode, ReadDirectory, bind}
use Rattle.disk_definitions.specs.Walks.{Spot, Walked, Found, or_on, hit, search, is_named, is_vacant, spot_by, look_up, in_inode, onward, walk_from, walk}
use Rattle.disk_definitions.specs.Walks.Spot.{AtRoot, AtName, AtGap, Lost}
use Rattle.disk_definitions.specs.Plans.{Hand, Plan, Finish, Room, refused, read_held, room_in, room_at, find_room, finish_in, must_clear, is_full}
use Rattle.disk_definitions.specs.Plans.Plan.{Clears, Finishes}
use Rattle.disk_definitions.specs.Plans.Room.{Inside, InBlock, NoRoom}
use Rattle.disk_definitions.specs.NamePlans.{made_by, making_in, making_with, making, plan_made, linked_by, linking_in, linking_node, linking_to, linking, plan_linked, fewer_segments, finish_over, removed_by, unlinking_node, unlinking, plan_unlinked, removing_node, removing, plan_dir_removed, Moving, moved_onto_by, replacing_node, moving_onto, moved_within, moved_between, moving_in, moving_to, goes_through, renaming_to, renaming, plan_renamed}
use Rattle.line_histories.proofs.Asking.{AsksOnly, asks_bind, asks_segments}

module _ (P : Sector → Type 0) (inode : (i : ℕ) → P (InodeAt i)) (directory : (k part : ℕ) → part < 8 → P (DirectoryAt k part)) where
  -- ---- walks

  pub search_asks : (small : ℕ → ℕ) (test : Option StoredEntry → Bool) (n j : ℕ) → AsksOnly P (search small test j n)
  search_asks small test zero j = tt
  search_asks small test (suc n) j = (directory (small (j / 8)) (j % 8) (omega arith), λ f. go (search_asks small test n (j + 1)) (hit test j f (least (λ r. test (f r)) 7)))
    where
      go : AsksOnly P (search small test (j + 1) n) → (o : Option Found) → AsksOnly P (or_on o (search small test (j + 1) n))
      go rest None = rest
      go rest (Some found) = tt

  look_up_asks : (dirs : List ℕ) (i : ℕ) (x : StoredNode) (name : List ℕ) → AsksOnly P (look_up dirs i x name)
  look_up_asks dirs i x name =
      asks_bind P (search x.small (is_named name) 0 (8 * x.blocks)) (λ found. Got (record { spot = spot_by i x name found; dirs = dirs ++ i ∷ [] })) (search_asks x.small (is_named name) (8 * x.blocks) 0) (λ found. tt)

  in_inode_asks : (dirs : List ℕ) (i : ℕ) (name : List ℕ) (o : Option StoredNode) → AsksOnly P (in_inode dirs i name o)
  in_inode_asks dirs i name None = tt
  in_inode_asks dirs i name (Some x) = go (x.kind == 2)
    where
      go : (b : Bool) → AsksOnly P (if b then look_up dirs i x name else Got (record { spot = Lost reply.NotDir; dirs = dirs }))
      go true = look_up_asks dirs i x name
      go false = tt

  onward_asks : (next : List ℕ → ℕ → Ask Walked) → ((more : List ℕ) (j : ℕ) → AsksOnly P (next more j)) → (dirs : List ℕ) (v : Spot) → AsksOnly P (onward next dirs v)
  onward_asks next each dirs AtRoot = each dirs 0
  onward_asks next each dirs (AtGap i x name) = tt
  onward_asks next each dirs (Lost r) = tt
  onward_asks next each dirs (AtName i x name q e) = go (e.kind == 2)
    where
      go : (b : Bool) → AsksOnly P (if b then next dirs e.inode else Got (record { spot = Lost reply.NotDir; dirs = dirs }))
      go true = each dirs e.inode
      go false = tt

  from_asks : (path : List (List ℕ)) (dirs : List ℕ) (i : ℕ) → AsksOnly P (walk_from dirs i path)
  from_asks [] dirs i = tt
  from_asks (name ∷ []) dirs i = (inode i, in_inode_asks dirs i name)
  from_asks (name ∷ next ∷ names) dirs i =
      asks_bind P (ReadInode i (in_inode dirs i name)) (λ w. onward (λ more j. walk_from more j (next ∷ names)) w.dirs w.spot) (inode i, in_inode_asks dirs i name)
      (λ w. onward_asks (λ more j. walk_from more j (next ∷ names)) (λ more j. from_asks (next ∷ names) more j) w.dirs w.spot)

  pub walk_asks : (path : List (List ℕ)) → AsksOnly P (walk path)
  walk_asks path = from_asks path [] 0

  -- ---- what ends a plan

  pub over_asks : (ks : List ℕ) → ((k : ℕ) → Contains ks k → P (SegmentAt k)) → (f : Finish) → AsksOnly P (finish_over ks f)
  over_asks ks segment f = asks_segments P ks segment (Got (Finishes f)) tt

  module _ (h : Hand) (held : (k : ℕ) → Contains (keys_of h.held) k → P (SegmentAt k)) where
    pub held_asks : {A : Type 0} (p : Ask A) → AsksOnly P p → AsksOnly P (read_held h p)
    held_asks p a = asks_segments P (keys_of h.held) held p a

    finish_asks : (room : Room) (f : Finish) → AsksOnly P (finish_in h room f)
    finish_asks NoRoom f = tt
    finish_asks (Inside q) f = tt
    finish_asks (InBlock k) f = go (must_clear h k)
      where
        go : (b : Bool) → AsksOnly P (if b then Got (Clears k f.locks) else ReadDirectory k 0 (λ slots. Got (Finishes f)))
        go true = tt
        go false = (directory k 0 (omega arith), λ slots. tt)

    room_at_asks : (x : StoredNode) (o : Option Found) → AsksOnly P (room_at h x o)
    room_at_asks x (Some found) = tt
    room_at_asks x None = go (nat_lt x.blocks 16)
      where
        go : (b : Bool) → AsksOnly P (if b then read_held h (Got (room_in (picked_directory h.held))) else Got NoRoom)
        go true = held_asks (Got (room_in (picked_directory h.held))) tt
        go false = tt

    room_asks : (x : StoredNode) → AsksOnly P (find_room h x)
    room_asks x = asks_bind P (search x.small is_vacant 0 (8 * x.blocks)) (room_at h x) (search_asks x.small is_vacant (8 * x.blocks) 0) (room_at_asks x)

    -- ---- create, mkdir, symlink
    making_in_asks : (i : ℕ) (x : StoredNode) (name : List ℕ) (birth : ℕ) (node : Node) (dirs : List ℕ) (j : ℕ) (room : Room) → AsksOnly P (making_in h i x name birth node dirs j room)
    making_in_asks i x name birth node dirs j NoRoom = tt
    making_in_asks i x name birth node dirs j (Inside q) = (inode j, λ free. tt)
    making_in_asks i x name birth node dirs j (InBlock k) = (inode j, λ free. finish_asks (InBlock k) (made_by i x name birth node dirs j (InBlock k)))

    making_with_asks : (i : ℕ) (x : StoredNode) (name : List ℕ) (birth : ℕ) (node : Node) (dirs : List ℕ) (o : Option ℕ) → AsksOnly P (making_with h i x name birth node dirs o)
    making_with_asks i x name birth node dirs None = tt
    making_with_asks i x name birth node dirs (Some j) = asks_bind P (find_room h x) (making_in h i x name birth node dirs j) (room_asks x) (making_in_asks i x name birth node dirs j)

    making_asks : (birth : ℕ) (node : Node) (dirs : List ℕ) (v : Spot) → AsksOnly P (making h birth node dirs v)
    making_asks birth node dirs AtRoot = tt
    making_asks birth node dirs (Lost r) = tt
    making_asks birth node dirs (AtName i x name q e) = tt
    making_asks birth node dirs (AtGap i x name) = go (is_full x)
      where
        p : Ask Plan
        p = making_with h i x name birth node dirs (picked_inode h.held)

        go : (b : Bool) → AsksOnly P (if b then refused reply.DirFull dirs else read_held h p)
        go true = tt
        go false = held_asks p (making_with_asks i x name birth node dirs (picked_inode h.held))

    pub made_asks : (birth : ℕ) (node : Node) (path : List (List ℕ)) → AsksOnly P (plan_made h birth node path)
    made_asks birth node path = asks_bind P (walk path) (λ w. making h birth node w.dirs w.spot) (walk_asks path) (λ w. making_asks birth node w.dirs w.spot)

    -- ---- link
    linking_in_asks : (i : ℕ) (x : StoredNode) (name : List ℕ) (j : ℕ) (y : StoredNode) (dirs : List ℕ) (room : Room) → AsksOnly P (linking_in h i x name j y dirs room)
    linking_in_asks i x name j y dirs NoRoom = tt
    linking_in_asks i x name j y dirs (Inside q) = tt
    linking_in_asks i x name j y dirs (InBlock k) = finish_asks (InBlock k) (linked_by i x name j y dirs (InBlock k))

    linking_node_asks : (i : ℕ) (x : StoredNode) (name : List ℕ) (j : ℕ) (dirs : List ℕ) (o : Option StoredNode) → AsksOnly P (linking_node h i x name j dirs o)
    linking_node_asks i x name j dirs None = tt
    linking_node_asks i x name j dirs (Some y) = go (nat_le 1000 y.links) (is_full x)
      where
        go : (a b : Bool) → AsksOnly P (if a then refused reply.MLink (dirs ++ j ∷ []) else (if b then refused reply.DirFull (dirs ++ j ∷ []) else bind (find_room h x) (linking_in h i x name j y dirs)))
        go true b = tt
        go false true = tt
        go false false = asks_bind P (find_room h x) (linking_in h i x name j y dirs) (room_asks x) (linking_in_asks i x name j y dirs)

    linking_to_asks : (j : ℕ) (dirs : List ℕ) (v : Spot) → AsksOnly P (linking_to h j dirs v)
    linking_to_asks j dirs AtRoot = tt
    linking_to_asks j dirs (Lost r) = tt
    linking_to_asks j dirs (AtName i x name q e) = tt
    linking_to_asks j dirs (AtGap i x name) = (inode j, linking_node_asks i x name j dirs)

    linking_asks : (to : List (List ℕ)) (dirs : List ℕ) (v : Spot) → AsksOnly P (linking h to dirs v)
    linking_asks to dirs AtRoot = tt
    linking_asks to dirs (Lost r) = tt
    linking_asks to dirs (AtGap i x name) = tt
    linking_asks to dirs (AtName i x name q e) = go (e.kind == 2)
      where
        go : (b : Bool) → AsksOnly P (if b then refused reply.IsDir dirs else bind (walk to) (λ w. linking_to h e.inode (dirs ++ w.dirs) w.spot))
        go true = tt
        go false = asks_bind P (walk to) (λ w. linking_to h e.inode (dirs ++ w.dirs) w.spot) (walk_asks to) (λ w. linking_to_asks e.inode (dirs ++ w.dirs) w.spot)

    pub linked_asks : (path to : List (List ℕ)) → AsksOnly P (plan_linked h path to)
    linked_asks path to = asks_bind P (walk path) (λ w. linking h to w.dirs w.spot) (walk_asks path) (λ w. linking_asks to w.dirs w.spot)

    -- ---- rename
    moving_in_asks : (moved : Moving) (i : ℕ) (x : StoredNode) (name : List ℕ) (dirs : List ℕ) (room : Room) → AsksOnly P (moving_in h moved i x name dirs room)
    moving_in_asks moved i x name dirs NoRoom = tt
    moving_in_asks moved i x name dirs (Inside q) = tt
    moving_in_asks moved i x name dirs (InBlock k) = finish_asks (InBlock k) (moved_between moved i x name dirs (InBlock k))

    pub moving_to_asks : (moved : Moving) (i : ℕ) (x : StoredNode) (name : List ℕ) (dirs : List ℕ) → AsksOnly P (moving_to h moved i x name dirs)
    moving_to_asks moved i x name dirs = go (i == moved.dir) (is_full x)
      where
        go : (a b : Bool) → AsksOnly P (if a then Got (Finishes (moved_within moved name dirs)) else (if b then refused reply.DirFull dirs else bind (find_room h x) (moving_in h moved i x name dirs)))
        go true b = tt
        go false true = tt
        go false false = asks_bind P (find_room h x) (moving_in h moved i x name dirs) (room_asks x) (moving_in_asks moved i x name dirs)

    module _ (segment : (k : ℕ) → P (SegmentAt k)) where
      replacing_asks : (moved : Moving) (i : ℕ) (x : StoredNode) (name : List ℕ) (q j : ℕ) (dirs : List ℕ) (o : Option StoredNode) → AsksOnly P (replacing_node moved i x name q j dirs o)
      replacing_asks moved i x name q j dirs None = tt
      replacing_asks moved i x name q j dirs (Some y) = go (y.kind == 2 && nat_lt 0 y.size)
        where
          go : (b : Bool) → AsksOnly P (if b then refused reply.NotEmpty (dirs ++ j ∷ []) else finish_over (fewer_segments j y) (moved_onto_by moved i x name q j y dirs))
          go true = tt
          go false = over_asks (fewer_segments j y) (λ k c. segment k) (moved_onto_by moved i x name q j y dirs)

      moving_onto_asks : (moved : Moving) (i : ℕ) (x : StoredNode) (name : List ℕ) (q : ℕ) (e : StoredEntry) (dirs : List ℕ) → AsksOnly P (moving_onto moved i x name q e dirs)
      moving_onto_asks moved i x name q e dirs = go (e.inode == moved.entry.inode) (moved.entry.kind == 2 && not (e.kind == 2)) (e.kind == 2 && not (moved.entry.kind == 2))
        where
          go : (a b c : Bool) → AsksOnly P (if a then refused reply.Ok dirs else (if b then refused reply.NotDir dirs else (if c then refused reply.IsDir dirs else ReadInode e.inode (replacing_node moved i x name q e.inode dirs))))
          go true b c = tt
          go false true c = tt
          go false false true = tt
          go false false false = (inode e.inode, replacing_asks moved i x name q e.inode dirs)

      renaming_to_asks : (moved : Moving) (to_dirs dirs : List ℕ) (v : Spot) → AsksOnly P (renaming_to h moved to_dirs dirs v)
      renaming_to_asks moved to_dirs dirs AtRoot = tt
      renaming_to_asks moved to_dirs dirs (Lost r) = tt
      renaming_to_asks moved to_dirs dirs (AtName i x name q e) = go (goes_through moved to_dirs)
        where
          go : (b : Bool) → AsksOnly P (if b then refused reply.Inval dirs else moving_onto moved i x name q e dirs)
          go true = tt
          go false = moving_onto_asks moved i x name q e dirs
      renaming_to_asks moved to_dirs dirs (AtGap i x name) = go (goes_through moved to_dirs)
        where
          go : (b : Bool) → AsksOnly P (if b then refused reply.Inval dirs else moving_to h moved i x name dirs)
          go true = tt
          go false = moving_to_asks moved i x name dirs

      renaming_asks : (to : List (List ℕ)) (dirs : List ℕ) (v : Spot) → AsksOnly P (renaming h to dirs v)
      renaming_asks to dirs AtRoot = tt
      renaming_asks to dirs (Lost r) = tt
      renaming_asks to dirs (AtGap i x name) = tt
      renaming_asks to dirs (AtName i x name q e) =
          let moved : Moving = record { dir = i; directory = x; slot = q; entry = e } in
          asks_bind P (walk to) (λ w. renaming_to h moved w.dirs (dirs ++ w.dirs) w.spot) (walk_asks to) (λ w. renaming_to_asks moved w.dirs (dirs ++ w.dirs) w.spot)

      pub renamed_asks : (path to : List (List ℕ)) → AsksOnly P (plan_renamed h path to)
      renamed_asks [] to = tt
      renamed_asks (name ∷ names) [] = tt
      renamed_asks (name ∷ names) (new ∷ news) =
          asks_bind P (walk (name ∷ names)) (λ w. renaming h (new ∷ news) w.dirs w.spot) (walk_asks (name ∷ names)) (λ w. renaming_asks (new ∷ news) w.dirs w.spot)

  -- ---- unlink, rmdir

  module _ (segment : (k : ℕ) → P (SegmentAt k)) where
    unlinking_node_asks : (i : ℕ) (x : StoredNode) (q j : ℕ) (dirs : List ℕ) (o : Option StoredNode) → AsksOnly P (unlinking_node i x q j dirs o)
    unlinking_node_asks i x q j dirs None = tt
    unlinking_node_asks i x q j dirs (Some y) = over_asks (fewer_segments j y) (λ k c. segment k) (removed_by i x q j y dirs)

    removing_node_asks : (i : ℕ) (x : StoredNode) (q j : ℕ) (dirs : List ℕ) (o : Option StoredNode) → AsksOnly P (removing_node i x q j dirs o)
    removing_node_asks i x q j dirs None = tt
    removing_node_asks i x q j dirs (Some y) = go (nat_lt 0 y.size)
      where
        go : (b : Bool) → AsksOnly P (if b then refused reply.NotEmpty (dirs ++ j ∷ []) else finish_over (fewer_segments j y) (removed_by i x q j y dirs))
        go true = tt
        go false = over_asks (fewer_segments j y) (λ k c. segment k) (removed_by i x q j y dirs)

    unlinking_asks : (dirs : List ℕ) (v : Spot) → AsksOnly P (unlinking dirs v)
    unlinking_asks dirs AtRoot = tt
    unlinking_asks dirs (Lost r) = tt
    unlinking_asks dirs (AtGap i x name) = tt
    unlinking_asks dirs (AtName i x name q e) = go (e.kind == 2)
      where
        go : (b : Bool) → AsksOnly P (if b then refused reply.IsDir dirs else ReadInode e.inode (unlinking_node i x q e.inode dirs))
        go true = tt
        go false = (inode e.inode, unlinking_node_asks i x q e.inode dirs)

    pub unlinked_asks : (path : List (List ℕ)) → AsksOnly P (plan_unlinked path)
    unlinked_asks path = asks_bind P (walk path) (λ w. unlinking w.dirs w.spot) (walk_asks path) (λ w. unlinking_asks w.dirs w.spot)

    removing_asks : (dirs : List ℕ) (v : Spot) → AsksOnly P (removing dirs v)
    removing_asks dirs AtRoot = tt
    removing_asks dirs (Lost r) = tt
    removing_asks dirs (AtGap i x name) = tt
    removing_asks dirs (AtName i x name q e) = go (e.kind == 2)
      where
        go : (b : Bool) → AsksOnly P (if b then ReadInode e.inode (removing_node i x q e.inode dirs) else refused reply.NotDir dirs)
        go true = (inode e.inode, removing_node_asks i x q e.inode dirs)
        go false = tt

    pub removed_asks : (path : List (List ℕ)) → AsksOnly P (plan_dir_removed path)
    removed_asks path = asks_bind P (walk path) (λ w. removing w.dirs w.spot) (walk_asks path) (λ w. removing_asks w.dirs w.spot)

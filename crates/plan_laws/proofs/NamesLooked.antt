-- The plans of the operations on names have looked at what they edit.
use Rattle.std.proofs.Common.{ℕ, ◌≡◌, ◌/◌, ◌%◌, ◌==◌, ◌&&◌, not, Bool, true, false, nat_le, nat_lt, if◌then◌else◌, Option, Some, None, List, [], ◌∷◌, ◌++◌, refl}
use Rattle.std.specs.List.{Contains}
use Rattle.std.specs.Map.{keys_of}
use Rattle.frang_base.specs.declared.reply.Reply.{Reply}
use Rattle.frang_base.specs.declared.reply.Reply.TheVariants as reply
use Rattle.tree_definitions.specs.declared.node.Node.{Node}
use Rattle.disk_definitions.specs.Store.{Store, StoredNode, StoredEntry}
use Rattle.disk_definitions.specs.Naming.{kind_of}
use Rattle.disk_definitions.specs.Changes.{take_entry}
use Rattle.disk_definitions.specs.Picks.{picked_inode}
use Rattle.disk_definitions.specs.Ask.{Sector, InodeAt, DirectoryAt, SegmentAt, Ask, Got, ReadInode, ReadDirectory, bind, run, looks}
use Rattle.disk_definitions.specs.Walks.{Spot, walk}
use Rattle.disk_definitions.specs.Walks.Spot.{AtRoot, AtName, AtGap, Lost}
use Rattle.disk_definitions.specs.Plans.{Hand, Plan, Finish, Room, refused, none_left, read_held, find_room, finish_in, enter, must_clear, is_full, shared_nodes, sole_segments}
use Rattle.disk_definitions.specs.Plans.Plan.{Lacks, Clears, Finishes}
use Rattle.disk_definitions.specs.Plans.Room.{Inside, InBlock, NoRoom}
use Rattle.disk_definitions.specs.NamePlans.{made_by, making_in, making_with, making, plan_made, linked_by, linking_in, linking_node, linking_to, linking, plan_linked, fewer_segments, finish_over, removed_by, unlinking_node, unlinking, plan_unlinked, removing_node, removing, plan_dir_removed, Moving, renamed_entry, moved_onto_by, replacing_node, moving_onto, moved_within, moved_between, moving_in, moving_to, goes_through, renaming_to, renaming, plan_renamed}
use Rattle.plan_laws.proofs.Asking.{run-bind, run-segments}
use Rattle.plan_laws.proofs.Within.{Within, first_of, rest_of, left_of, right_of, segment_of, past_segments}
use Rattle.plan_laws.proofs.Searched.{inode_is_held, SpotLooked, RoomLooked, walk_looked, room_looked}
use Rattle.plan_laws.proofs.Edited.{AreLooked, PlanLooked, join, FirstLooked, enter_looked, fewer_looked}

module _ (all : List Sector) where
  module _ (h : Hand) (s : Store) where
    abbrev pub Goes : Ask Plan → Type 0
    Goes p = Within (looks p s) all → PlanLooked all (run p s)

    pub none_looked : (r : Reply) (touched : List ℕ) → Goes (none_left h r touched)
    none_looked r touched = go h.all
      where
        go : (b : Bool) → Goes (Got (if b then Finishes (record { reply = r; edits = []; locks = shared_nodes touched ++ sole_segments (keys_of h.held) }) else Lacks))
        go true w = tt
        go false w = tt

    finish_looked : (room : Room) (f : Finish) → (FirstLooked all room → AreLooked all f.edits) → Goes (finish_in h room f)
    finish_looked NoRoom f g w = g tt
    finish_looked (Inside q) f g w = g tt
    finish_looked (InBlock k) f g w = go (must_clear h k) w
      where
        go : (b : Bool) → Goes (if b then Got (Clears k f.locks) else ReadDirectory k 0 (λ p. Got (Finishes f)))
        go true w = tt
        go false w = g (first_of all (DirectoryAt k 0) [] w)

    pub over_looked : (ks : List ℕ) (f : Finish) → (((k : ℕ) → Contains ks k → Contains all (SegmentAt k)) → AreLooked all f.edits) → Goes (finish_over ks f)
    over_looked ks f g w = rw (run-segments ks (Got (Finishes f)) s) (g (segment_of all ks (Got (Finishes f)) s w))

    -- one computation and then a plan by its value
    pub on : {A : Type 0} (p : Ask A) (f : A → Ask Plan) → (Within (looks p s) all → Goes (f (run p s))) → Goes (bind p f)
    on p f g w = rw (run-bind p f s) (g (left_of all p f s w) (right_of all p f s w))

    -- ---- create, mkdir, symlink
    module _ (i : ℕ) (x : StoredNode) (name : List ℕ) (birth : ℕ) (node : Node) (dirs : List ℕ) (dir : Contains all (InodeAt i)) where
      made_looked : (j : ℕ) (room : Room) → Contains all (SegmentAt (j / 64)) → RoomLooked all x room → Contains all (InodeAt j) → FirstLooked all room → AreLooked all (made_by i x name birth node dirs j room).edits
      made_looked j room bit r own f = (own, (bit, enter_looked all i x (record { name = name; inode = j; kind = kind_of node }) room dir r f))

      making_read : (j : ℕ) (room : Room) → Contains all (SegmentAt (j / 64)) → RoomLooked all x room → Goes (ReadInode j (λ free. finish_in h room (made_by i x name birth node dirs j room)))
      making_read j room bit r w =
          let f = made_by i x name birth node dirs j room in
          let rest = looks (finish_in h room f) s in
          finish_looked room f (made_looked j room bit r (first_of all (InodeAt j) rest w)) (rest_of all (InodeAt j) rest w)

      making_in_looked : (j : ℕ) (room : Room) → Contains all (SegmentAt (j / 64)) → RoomLooked all x room → Goes (making_in h i x name birth node dirs j room)
      making_in_looked j NoRoom bit r w = none_looked reply.NoDirBlock dirs w
      making_in_looked j (Inside q) bit r w = making_read j (Inside q) bit r w
      making_in_looked j (InBlock k) bit r w = making_read j (InBlock k) bit r w

      making_with_looked : (o : Option ℕ) → picked_inode h.held ≡ o → ((k : ℕ) → Contains (keys_of h.held) k → Contains all (SegmentAt k)) → Goes (making_with h i x name birth node dirs o)
      making_with_looked None e segments w = none_looked reply.NoInode dirs w
      making_with_looked (Some j) e segments w =
          on (find_room h x) (making_in h i x name birth node dirs j) (λ v. making_in_looked j (run (find_room h x) s) (segments (j / 64) (inode_is_held h.held j e)) (room_looked all s h x v)) w

    making_looked : (birth : ℕ) (node : Node) (dirs : List ℕ) (v : Spot) → SpotLooked all v → Goes (making h birth node dirs v)
    making_looked birth node dirs AtRoot c w = tt
    making_looked birth node dirs (Lost r) c w = tt
    making_looked birth node dirs (AtName i x name q e) c w = tt
    making_looked birth node dirs (AtGap i x name) c w = go (is_full x) w
      where
        p : Ask Plan
        p = making_with h i x name birth node dirs (picked_inode h.held)

        go : (b : Bool) → Goes (if b then refused reply.DirFull dirs else read_held h p)
        go true w = tt
        go false w = rw (run-segments (keys_of h.held) p s) (making_with_looked i x name birth node dirs c (picked_inode h.held) refl (segment_of all (keys_of h.held) p s w) (past_segments all (keys_of h.held) p s w))

    pub made_path_looked : (birth : ℕ) (node : Node) (path : List (List ℕ)) → Goes (plan_made h birth node path)
    made_path_looked birth node path = let v = run (walk path) s in on (walk path) (λ w. making h birth node w.dirs w.spot) (λ l. making_looked birth node v.dirs v.spot (walk_looked all s path l))

    -- ---- link
    module _ (i : ℕ) (x : StoredNode) (name : List ℕ) (j : ℕ) (dirs : List ℕ) (dir : Contains all (InodeAt i)) (own : Contains all (InodeAt j)) where
      linking_in_looked : (y : StoredNode) (room : Room) → RoomLooked all x room → Goes (linking_in h i x name j y dirs room)
      linking_in_looked y NoRoom r w = none_looked reply.NoDirBlock (dirs ++ j ∷ []) w
      linking_in_looked y (Inside q) r w = (own, enter_looked all i x (record { name = name; inode = j; kind = y.kind }) (Inside q) dir r tt)
      linking_in_looked y (InBlock k) r w = finish_looked (InBlock k) (linked_by i x name j y dirs (InBlock k)) (λ f. (own, enter_looked all i x (record { name = name; inode = j; kind = y.kind }) (InBlock k) dir r f)) w

      linking_node_looked : (o : Option StoredNode) → Goes (linking_node h i x name j dirs o)
      linking_node_looked None w = tt
      linking_node_looked (Some y) w = go (nat_le 1000 y.links) (is_full x) w
        where
          go : (a b : Bool) → Goes (if a then refused reply.MLink (dirs ++ j ∷ []) else (if b then refused reply.DirFull (dirs ++ j ∷ []) else bind (find_room h x) (linking_in h i x name j y dirs)))
          go true b w = tt
          go false true w = tt
          go false false w = on (find_room h x) (linking_in h i x name j y dirs) (λ v. linking_in_looked y (run (find_room h x) s) (room_looked all s h x v)) w

    linking_to_looked : (j : ℕ) (dirs : List ℕ) (v : Spot) → SpotLooked all v → Goes (linking_to h j dirs v)
    linking_to_looked j dirs AtRoot c w = tt
    linking_to_looked j dirs (Lost r) c w = tt
    linking_to_looked j dirs (AtName i x name q e) c w = tt
    linking_to_looked j dirs (AtGap i x name) c w =
        let rest = looks (linking_node h i x name j dirs (s.inode j)) s in
        linking_node_looked i x name j dirs c (first_of all (InodeAt j) rest w) (s.inode j) (rest_of all (InodeAt j) rest w)

    linking_looked : (to : List (List ℕ)) (dirs : List ℕ) (v : Spot) → Goes (linking h to dirs v)
    linking_looked to dirs AtRoot w = tt
    linking_looked to dirs (Lost r) w = tt
    linking_looked to dirs (AtGap i x name) w = tt
    linking_looked to dirs (AtName i x name q e) w = go (e.kind == 2) w
      where
        go : (b : Bool) → Goes (if b then refused reply.IsDir dirs else bind (walk to) (λ w. linking_to h e.inode (dirs ++ w.dirs) w.spot))
        go true w = tt
        go false w = let v = run (walk to) s in on (walk to) (λ w. linking_to h e.inode (dirs ++ w.dirs) w.spot) (λ l. linking_to_looked e.inode (dirs ++ v.dirs) v.spot (walk_looked all s to l)) w

    pub link_looked : (path to : List (List ℕ)) → Goes (plan_linked h path to)
    link_looked path to = let v = run (walk path) s in on (walk path) (λ w. linking h to w.dirs w.spot) (λ l. linking_looked to v.dirs v.spot)

    -- ---- unlink, rmdir
    module _ (i : ℕ) (x : StoredNode) (q j : ℕ) (dirs : List ℕ) (dir : Contains all (InodeAt i)) (place : Contains all (DirectoryAt (x.small (q / 56)) (q % 56 / 7))) (own : Contains all (InodeAt j)) where
      removed_looked : (y : StoredNode) → Goes (finish_over (fewer_segments j y) (removed_by i x q j y dirs))
      removed_looked y = over_looked (fewer_segments j y) (removed_by i x q j y dirs) (λ f. (dir, (place, fewer_looked all j y own f)))

      unlinking_node_looked : (o : Option StoredNode) → Goes (unlinking_node i x q j dirs o)
      unlinking_node_looked None w = tt
      unlinking_node_looked (Some y) w = removed_looked y w

      removing_node_looked : (o : Option StoredNode) → Goes (removing_node i x q j dirs o)
      removing_node_looked None w = tt
      removing_node_looked (Some y) w = go (nat_lt 0 y.size) w
        where
          go : (b : Bool) → Goes (if b then refused reply.NotEmpty (dirs ++ j ∷ []) else finish_over (fewer_segments j y) (removed_by i x q j y dirs))
          go true w = tt
          go false w = removed_looked y w

    unlinking_looked : (dirs : List ℕ) (v : Spot) → SpotLooked all v → Goes (unlinking dirs v)
    unlinking_looked dirs AtRoot c w = tt
    unlinking_looked dirs (Lost r) c w = tt
    unlinking_looked dirs (AtGap i x name) c w = tt
    unlinking_looked dirs (AtName i x name q e) c w = go (e.kind == 2) w
      where
        go : (b : Bool) → Goes (if b then refused reply.IsDir dirs else ReadInode e.inode (unlinking_node i x q e.inode dirs))
        go true w = tt
        go false w = let rest = looks (unlinking_node i x q e.inode dirs (s.inode e.inode)) s in
            unlinking_node_looked i x q e.inode dirs c.0 c.1 (first_of all (InodeAt e.inode) rest w) (s.inode e.inode) (rest_of all (InodeAt e.inode) rest w)

    removing_looked : (dirs : List ℕ) (v : Spot) → SpotLooked all v → Goes (removing dirs v)
    removing_looked dirs AtRoot c w = tt
    removing_looked dirs (Lost r) c w = tt
    removing_looked dirs (AtGap i x name) c w = tt
    removing_looked dirs (AtName i x name q e) c w = go (e.kind == 2) w
      where
        go : (b : Bool) → Goes (if b then ReadInode e.inode (removing_node i x q e.inode dirs) else refused reply.NotDir dirs)
        go false w = tt
        go true w = let rest = looks (removing_node i x q e.inode dirs (s.inode e.inode)) s in
            removing_node_looked i x q e.inode dirs c.0 c.1 (first_of all (InodeAt e.inode) rest w) (s.inode e.inode) (rest_of all (InodeAt e.inode) rest w)

    pub unlink_looked : (path : List (List ℕ)) → Goes (plan_unlinked path)
    unlink_looked path = let v = run (walk path) s in on (walk path) (λ w. unlinking w.dirs w.spot) (λ l. unlinking_looked v.dirs v.spot (walk_looked all s path l))

    pub rmdir_looked : (path : List (List ℕ)) → Goes (plan_dir_removed path)
    rmdir_looked path = let v = run (walk path) s in on (walk path) (λ w. removing w.dirs w.spot) (λ l. removing_looked v.dirs v.spot (walk_looked all s path l))

    -- ---- rename
    module _ (m : Moving) (from : Contains all (InodeAt m.dir)) (old : Contains all (DirectoryAt (m.directory.small (m.slot / 56)) (m.slot % 56 / 7))) where
      replacing_looked : (i : ℕ) (x : StoredNode) (name : List ℕ) (q j : ℕ) (dirs : List ℕ) (o : Option StoredNode) → Contains all (DirectoryAt (x.small (q / 56)) (q % 56 / 7)) → Contains all (InodeAt j) →
          Goes (replacing_node m i x name q j dirs o)
      replacing_looked i x name q j dirs None place own w = tt
      replacing_looked i x name q j dirs (Some y) place own w = go (y.kind == 2 && nat_lt 0 y.size) w
        where
          f : Finish
          f = moved_onto_by m i x name q j y dirs

          go : (b : Bool) → Goes (if b then refused reply.NotEmpty (dirs ++ j ∷ []) else finish_over (fewer_segments j y) f)
          go true w = tt
          go false w = over_looked (fewer_segments j y) f (λ g. (from, (old, (place, fewer_looked all j y own g)))) w

      moving_onto_looked : (i : ℕ) (x : StoredNode) (name : List ℕ) (q : ℕ) (e : StoredEntry) (dirs : List ℕ) → Contains all (DirectoryAt (x.small (q / 56)) (q % 56 / 7)) → Goes (moving_onto m i x name q e dirs)
      moving_onto_looked i x name q e dirs place = go (e.inode == m.entry.inode) (m.entry.kind == 2 && not (e.kind == 2)) (e.kind == 2 && not (m.entry.kind == 2))
        where
          go : (a b c : Bool) → Goes (if a then refused reply.Ok dirs else (if b then refused reply.NotDir dirs else (if c then refused reply.IsDir dirs else ReadInode e.inode (replacing_node m i x name q e.inode dirs))))
          go true b c w = tt
          go false true c w = tt
          go false false true w = tt
          go false false false w = let rest = looks (replacing_node m i x name q e.inode dirs (s.inode e.inode)) s in
              replacing_looked i x name q e.inode dirs (s.inode e.inode) place (first_of all (InodeAt e.inode) rest w) (rest_of all (InodeAt e.inode) rest w)

      moving_in_looked : (i : ℕ) (x : StoredNode) (name dirs : List ℕ) (room : Room) → Contains all (InodeAt i) → RoomLooked all x room → Goes (moving_in h m i x name dirs room)
      moving_in_looked i x name dirs room dir r = go room r
        where
          both : (room : Room) → RoomLooked all x room → FirstLooked all room → AreLooked all (moved_between m i x name dirs room).edits
          both room r f = join all (enter i x (renamed_entry m name) room) (take_entry m.dir m.directory m.slot) (enter_looked all i x (renamed_entry m name) room dir r f) (from, (old, tt))

          go : (room : Room) → RoomLooked all x room → Goes (moving_in h m i x name dirs room)
          go NoRoom r w = none_looked reply.NoDirBlock dirs w
          go (Inside q) r w = both (Inside q) r tt
          go (InBlock k) r w = finish_looked (InBlock k) (moved_between m i x name dirs (InBlock k)) (both (InBlock k) r) w

      moving_to_looked : (i : ℕ) (x : StoredNode) (name dirs : List ℕ) → Contains all (InodeAt i) → Goes (moving_to h m i x name dirs)
      moving_to_looked i x name dirs dir = go (i == m.dir) (is_full x)
        where
          go : (a b : Bool) → Goes (if a then Got (Finishes (moved_within m name dirs)) else (if b then refused reply.DirFull dirs else bind (find_room h x) (moving_in h m i x name dirs)))
          go true b w = (old, tt)
          go false true w = tt
          go false false w = on (find_room h x) (moving_in h m i x name dirs) (λ v. moving_in_looked i x name dirs (run (find_room h x) s) dir (room_looked all s h x v)) w

      renaming_to_looked : (to_dirs dirs : List ℕ) (v : Spot) → SpotLooked all v → Goes (renaming_to h m to_dirs dirs v)
      renaming_to_looked to_dirs dirs AtRoot c w = tt
      renaming_to_looked to_dirs dirs (Lost r) c w = tt
      renaming_to_looked to_dirs dirs (AtName i x name q e) c w = go (goes_through m to_dirs) w
        where
          go : (b : Bool) → Goes (if b then refused reply.Inval dirs else moving_onto m i x name q e dirs)
          go true w = tt
          go false w = moving_onto_looked i x name q e dirs c.1 w
      renaming_to_looked to_dirs dirs (AtGap i x name) c w = go (goes_through m to_dirs) w
        where
          go : (b : Bool) → Goes (if b then refused reply.Inval dirs else moving_to h m i x name dirs)
          go true w = tt
          go false w = moving_to_looked i x name dirs c w

    renaming_looked : (to : List (List ℕ)) (dirs : List ℕ) (v : Spot) → SpotLooked all v → Goes (renaming h to dirs v)
    renaming_looked to dirs AtRoot c w = tt
    renaming_looked to dirs (Lost r) c w = tt
    renaming_looked to dirs (AtGap i x name) c w = tt
    renaming_looked to dirs (AtName i x name q e) c w =
        let m : Moving = record { dir = i; directory = x; slot = q; entry = e } in
        let v = run (walk to) s in
        on (walk to) (λ w. renaming_to h m w.dirs (dirs ++ w.dirs) w.spot) (λ l. renaming_to_looked m c.0 c.1 v.dirs (dirs ++ v.dirs) v.spot (walk_looked all s to l)) w

    pub rename_looked : (path to : List (List ℕ)) → Goes (plan_renamed h path to)
    rename_looked [] to w = tt
    rename_looked (name ∷ names) [] w = tt
    rename_looked (name ∷ names) (new ∷ news) w =
        let v = run (walk (name ∷ names)) s in
        on (walk (name ∷ names)) (λ w. renaming h (new ∷ news) w.dirs w.spot) (λ l. renaming_looked (new ∷ news) v.dirs v.spot (walk_looked all s (name ∷ names) l)) w

-- The plans of the operations on names are covered by their locks.
use Rattle.std.proofs.Common.{ℕ, zero, suc, ◌<◌, ◌-◌, ◌/◌, ◌==◌, ◌&&◌, not, Bool, true, false, nat_le, nat_lt, if◌then◌else◌, Option, Some, None, List, [], ◌∷◌, ◌++◌, map, refl, arith}
use Rattle.std.proofs.lemmas.List.Elements.{Contains-append_left, Contains-append_right}
use Rattle.std.specs.List.{Contains}
use Rattle.std.specs.Map.{keys_of}
use Rattle.frang_base.specs.declared.lock.LockId.TheVariants as lock
use Rattle.frang_base.specs.declared.op.Op.TheVariants as op
use Rattle.frang_base.specs.declared.reply.Reply.TheVariants as reply
use Rattle.tree_definitions.specs.declared.node.Node.{Node}
use Rattle.tree_definitions.specs.declared.node.Node.TheVariants.{Dir, File, Link}
use Rattle.tree_definitions.specs.Numbers.{below}
use Rattle.disk_definitions.specs.Store.{Store, StoredNode, StoredEntry, Use}
use Rattle.disk_definitions.specs.Naming.{kind_of}
use Rattle.disk_definitions.specs.Edits.Edit.{SetInode, SetBit, SetLarge}
use Rattle.disk_definitions.specs.Changes.{freed, uses_to, large_gone, drop_node, relink, take_entry}
use Rattle.disk_definitions.specs.Picks.{picked_inode}
use Rattle.disk_definitions.specs.Ask.{Got, ReadInode, ReadDirectory, bind, run}
use Rattle.disk_definitions.specs.Walks.{Spot, walk}
use Rattle.disk_definitions.specs.Walks.Spot.{AtRoot, AtName, AtGap, Lost}
use Rattle.disk_definitions.specs.Plans.{Hand, Lock, Finish, Room, refused, read_held, find_room, finish_in, enter, must_clear, room_segments, is_full, shared_nodes, sole_nodes, sole_segments}
use Rattle.disk_definitions.specs.Plans.Plan.{Clears, Finishes}
use Rattle.disk_definitions.specs.Plans.Room.{Inside, InBlock, NoRoom}
use Rattle.disk_definitions.specs.NamePlans.{made_by, making_in, making_with, making, plan_made, linked_by, linking_in, linking_node, linking_to, linking, segments_of, is_last, fewer, fewer_segments, finish_over, removed_by, unlinking_node, unlinking, removing_node, removing, Moving, renamed_entry, moved_onto_by, replacing_node, moving_onto, moved_within, moved_between, moving_in, moving_to, goes_through, renaming_to, renaming}
use Rattle.plan_laws.proofs.Asking.{run-bind, run-segments}
use Rattle.plan_laws.specs.Locks.{IsSole, FinishIsCovered, PlanIsCovered, IsCoveredPlan}
use Rattle.plan_laws.proofs.Covering.{has_head, has_more, map_has, below_has, node_sole, segment_sole, Covers, covers_join, refuse_covered, none_covered, IsFine, walk_fine}

-- ---- changes

enter_covered : (locks : List Lock) (i : ℕ) (x : StoredNode) (e : StoredEntry) (room : Room) → IsSole locks (lock.Node i) → ((k : ℕ) → Contains (room_segments room) k → IsSole locks (lock.Segment k)) → Covers locks (enter i x e room)
enter_covered locks i x e NoRoom sole f = tt
enter_covered locks i x e (Inside q) sole f = (sole, (tt, tt))
enter_covered locks i x e (InBlock k) sole f = (f (k / 1024) (has_head (k / 1024) []), (sole, (sole, (tt, tt))))

uses_gone : (locks : List Lock) (small : ℕ → ℕ) (u : Use) (m : ℕ) → ((n : ℕ) → n < m → IsSole locks (lock.Segment (small n / 1024))) → Covers locks (uses_to small u m)
uses_gone locks small u zero f = tt
uses_gone locks small u (suc m) f = (f m (omega arith), uses_gone locks small u m (λ n l. f n (omega arith)))

large_is_gone : (locks : List Lock) (large : ℕ) → ((k : ℕ) → Contains (if large == 0 then [] else (large - 1) ∷ []) k → IsSole locks (lock.Segment k)) → Covers locks (large_gone large)
large_is_gone locks large = go (large == 0)
  where
    go : (b : Bool) → ((k : ℕ) → Contains (if b then [] else (large - 1) ∷ []) k → IsSole locks (lock.Segment k)) → Covers locks (if b then [] else SetLarge (large - 1) false ∷ [])
    go true f = tt
    go false f = (f (large - 1) (has_head (large - 1) []), tt)

drop_covered : (locks : List Lock) (j : ℕ) (y : StoredNode) → IsSole locks (lock.Node j) → ((k : ℕ) → Contains (segments_of j y) k → IsSole locks (lock.Segment k)) → Covers locks (drop_node j y)
drop_covered locks j y sole f =
    let smalls = map (λ n. y.small n / 1024) (below y.blocks) in
    let large = if y.large == 0 then [] else (y.large - 1) ∷ [] in
    covers_join locks (uses_to y.small (freed y.kind) y.blocks) (large_gone y.large ++ (SetInode j None false ∷ SetBit j false ∷ []))
    (uses_gone locks y.small (freed y.kind) y.blocks (λ n l. f (y.small n / 1024) (has_more (j / 64) (y.small n / 1024) (smalls ++ large) (Contains-append_left smalls large (y.small n / 1024) (map_has (λ n. y.small n / 1024) (below y.blocks) n (below_has y.blocks n l))))))
    (covers_join locks (large_gone y.large) (SetInode j None false ∷ SetBit j false ∷ []) (large_is_gone locks y.large (λ k c. f k (has_more (j / 64) k (smalls ++ large) (Contains-append_right smalls large k c)))) (sole, (f (j / 64) (has_head (j / 64) (smalls ++ large)), tt)))

fewer_covered : (locks : List Lock) (j : ℕ) (y : StoredNode) → IsSole locks (lock.Node j) → ((k : ℕ) → Contains (fewer_segments j y) k → IsSole locks (lock.Segment k)) → Covers locks (fewer j y)
fewer_covered locks j y sole = go (is_last y)
  where
    go : (b : Bool) → ((k : ℕ) → Contains (if b then segments_of j y else []) k → IsSole locks (lock.Segment k)) → Covers locks (if b then drop_node j y else relink j y (y.links - 1))
    go true f = drop_covered locks j y sole f
    go false f = (sole, tt)

module _ (h : Hand) (s : Store) where
  room_covered : (room : Room) (f : Finish) → FinishIsCovered h f → ((k : ℕ) → Contains (room_segments room) k → IsSole f.locks (lock.Segment k)) → PlanIsCovered h (run (finish_in h room f) s)
  room_covered NoRoom f c g = c
  room_covered (Inside q) f c g = c
  room_covered (InBlock k) f c g = go (must_clear h k)
    where
      go : (b : Bool) → PlanIsCovered h (run (if b then Got (Clears k f.locks) else ReadDirectory k 0 (λ p. Got (Finishes f))) s)
      go true = g (k / 1024) (has_head (k / 1024) [])
      go false = c

  -- ---- create, mkdir, symlink
  module _ (i : ℕ) (x : StoredNode) (name : List ℕ) (birth : ℕ) (node : Node) (dirs : List ℕ) where
    made_segments : (j : ℕ) (room : Room) (k : ℕ) → Contains (room_segments room) k → IsSole (made_by i x name birth node dirs j room).locks (lock.Segment k)
    made_segments j room k c = segment_sole (shared_nodes dirs ++ sole_nodes (i ∷ j ∷ [])) ((j / 64) ∷ room_segments room) k (has_more (j / 64) k (room_segments room) c)

    made_covered : (j : ℕ) (room : Room) → FinishIsCovered h (made_by i x name birth node dirs j room)
    made_covered j room =
        let f = made_by i x name birth node dirs j room in
        let dir : IsSole f.locks (lock.Node i) = node_sole (shared_nodes dirs) (i ∷ j ∷ []) (sole_segments ((j / 64) ∷ room_segments room)) i (has_head i (j ∷ [])) in
        let own : IsSole f.locks (lock.Node j) = node_sole (shared_nodes dirs) (i ∷ j ∷ []) (sole_segments ((j / 64) ∷ room_segments room)) j (has_more i j (j ∷ []) (has_head j [])) in
        let bit : IsSole f.locks (lock.Segment (j / 64)) = segment_sole (shared_nodes dirs ++ sole_nodes (i ∷ j ∷ [])) ((j / 64) ∷ room_segments room) (j / 64) (has_head (j / 64) (room_segments room)) in
        record { edits = (own, (bit, enter_covered f.locks i x (record { name = name; inode = j; kind = kind_of node }) room dir (made_segments j room))); full = λ e. absurd (cc) }

    making_in_covered : (j : ℕ) (room : Room) → PlanIsCovered h (run (making_in h i x name birth node dirs j room) s)
    making_in_covered j NoRoom = none_covered h s reply.NoDirBlock dirs
    making_in_covered j (Inside q) = room_covered (Inside q) (made_by i x name birth node dirs j (Inside q)) (made_covered j (Inside q)) (made_segments j (Inside q))
    making_in_covered j (InBlock k) = room_covered (InBlock k) (made_by i x name birth node dirs j (InBlock k)) (made_covered j (InBlock k)) (made_segments j (InBlock k))

    making_with_covered : (o : Option ℕ) → PlanIsCovered h (run (making_with h i x name birth node dirs o) s)
    making_with_covered None = none_covered h s reply.NoInode dirs
    making_with_covered (Some j) = rw (run-bind (find_room h x) (making_in h i x name birth node dirs j) s) (making_in_covered j (run (find_room h x) s))

  making_covered : (birth : ℕ) (node : Node) (dirs : List ℕ) (v : Spot) → IsFine v → PlanIsCovered h (run (making h birth node dirs v) s)
  making_covered birth node dirs AtRoot f = refuse_covered h reply.Exist dirs refl
  making_covered birth node dirs (Lost r) f = refuse_covered h r dirs f
  making_covered birth node dirs (AtName i x name q e) f = refuse_covered h reply.Exist dirs refl
  making_covered birth node dirs (AtGap i x name) f = go (is_full x)
    where
      go : (b : Bool) → PlanIsCovered h (run (if b then refused reply.DirFull dirs else read_held h (making_with h i x name birth node dirs (picked_inode h.held))) s)
      go true = refuse_covered h reply.DirFull dirs refl
      go false = rw (run-segments (keys_of h.held) (making_with h i x name birth node dirs (picked_inode h.held)) s) (making_with_covered i x name birth node dirs (picked_inode h.held))

  pub made_path_covered : (birth : ℕ) (node : Node) (path : List (List ℕ)) → PlanIsCovered h (run (plan_made h birth node path) s)
  made_path_covered birth node path = let w = run (walk path) s in rw (run-bind (walk path) (λ w. making h birth node w.dirs w.spot) s) (making_covered birth node w.dirs w.spot (walk_fine s path))

  -- ---- link
  module _ (i : ℕ) (x : StoredNode) (name : List ℕ) (j : ℕ) (dirs : List ℕ) where
    module _ (y : StoredNode) where
      linked_segments : (room : Room) (k : ℕ) → Contains (room_segments room) k → IsSole (linked_by i x name j y dirs room).locks (lock.Segment k)
      linked_segments room k c = segment_sole (shared_nodes dirs ++ sole_nodes (i ∷ j ∷ [])) (room_segments room) k c

      linked_covered : (room : Room) → FinishIsCovered h (linked_by i x name j y dirs room)
      linked_covered room =
          let f = linked_by i x name j y dirs room in
          let dir : IsSole f.locks (lock.Node i) = node_sole (shared_nodes dirs) (i ∷ j ∷ []) (sole_segments (room_segments room)) i (has_head i (j ∷ [])) in
          let own : IsSole f.locks (lock.Node j) = node_sole (shared_nodes dirs) (i ∷ j ∷ []) (sole_segments (room_segments room)) j (has_more i j (j ∷ []) (has_head j [])) in
          record { edits = (own, enter_covered f.locks i x (record { name = name; inode = j; kind = y.kind }) room dir (linked_segments room)); full = λ e. absurd (cc) }

      linking_in_covered : (room : Room) → PlanIsCovered h (run (linking_in h i x name j y dirs room) s)
      linking_in_covered NoRoom = none_covered h s reply.NoDirBlock (dirs ++ j ∷ [])
      linking_in_covered (Inside q) = room_covered (Inside q) (linked_by i x name j y dirs (Inside q)) (linked_covered (Inside q)) (linked_segments (Inside q))
      linking_in_covered (InBlock k) = room_covered (InBlock k) (linked_by i x name j y dirs (InBlock k)) (linked_covered (InBlock k)) (linked_segments (InBlock k))

    linking_node_covered : (o : Option StoredNode) → PlanIsCovered h (run (linking_node h i x name j dirs o) s)
    linking_node_covered None = refuse_covered h reply.NoEnt dirs refl
    linking_node_covered (Some y) = go (nat_le 1000 y.links) (is_full x)
      where
        go : (a b : Bool) → PlanIsCovered h (run (if a then refused reply.MLink (dirs ++ j ∷ []) else (if b then refused reply.DirFull (dirs ++ j ∷ []) else bind (find_room h x) (linking_in h i x name j y dirs))) s)
        go true b = refuse_covered h reply.MLink (dirs ++ j ∷ []) refl
        go false true = refuse_covered h reply.DirFull (dirs ++ j ∷ []) refl
        go false false = rw (run-bind (find_room h x) (linking_in h i x name j y dirs) s) (linking_in_covered y (run (find_room h x) s))

  linking_to_covered : (j : ℕ) (dirs : List ℕ) (v : Spot) → IsFine v → PlanIsCovered h (run (linking_to h j dirs v) s)
  linking_to_covered j dirs AtRoot f = refuse_covered h reply.Exist dirs refl
  linking_to_covered j dirs (Lost r) f = refuse_covered h r dirs f
  linking_to_covered j dirs (AtName i x name q e) f = refuse_covered h reply.Exist dirs refl
  linking_to_covered j dirs (AtGap i x name) f = linking_node_covered i x name j dirs (s.inode j)

  linking_covered : (to : List (List ℕ)) (dirs : List ℕ) (v : Spot) → IsFine v → PlanIsCovered h (run (linking h to dirs v) s)
  linking_covered to dirs AtRoot f = refuse_covered h reply.IsDir dirs refl
  linking_covered to dirs (Lost r) f = refuse_covered h r dirs f
  linking_covered to dirs (AtGap i x name) f = refuse_covered h reply.NoEnt dirs refl
  linking_covered to dirs (AtName i x name q e) f = go (e.kind == 2)
    where
      go : (b : Bool) → PlanIsCovered h (run (if b then refused reply.IsDir dirs else bind (walk to) (λ w. linking_to h e.inode (dirs ++ w.dirs) w.spot)) s)
      go true = refuse_covered h reply.IsDir dirs refl
      go false = let w = run (walk to) s in rw (run-bind (walk to) (λ w. linking_to h e.inode (dirs ++ w.dirs) w.spot) s) (linking_to_covered e.inode (dirs ++ w.dirs) w.spot (walk_fine s to))

  -- ---- unlink, rmdir
  removed_covered : (i : ℕ) (x : StoredNode) (q j : ℕ) (y : StoredNode) (dirs : List ℕ) → FinishIsCovered h (removed_by i x q j y dirs)
  removed_covered i x q j y dirs =
      let f = removed_by i x q j y dirs in
      let dir : IsSole f.locks (lock.Node i) = node_sole (shared_nodes dirs) (i ∷ j ∷ []) (sole_segments (fewer_segments j y)) i (has_head i (j ∷ [])) in
      let own : IsSole f.locks (lock.Node j) = node_sole (shared_nodes dirs) (i ∷ j ∷ []) (sole_segments (fewer_segments j y)) j (has_more i j (j ∷ []) (has_head j [])) in
      record { edits = (dir, (tt, fewer_covered f.locks j y own (segment_sole (shared_nodes dirs ++ sole_nodes (i ∷ j ∷ [])) (fewer_segments j y)))); full = λ e. absurd (cc) }

  removing_all : (i : ℕ) (x : StoredNode) (q j : ℕ) (y : StoredNode) (dirs : List ℕ) → PlanIsCovered h (run (finish_over (fewer_segments j y) (removed_by i x q j y dirs)) s)
  removing_all i x q j y dirs = rw (run-segments (fewer_segments j y) (Got (Finishes (removed_by i x q j y dirs))) s) (removed_covered i x q j y dirs)

  unlinking_node_covered : (i : ℕ) (x : StoredNode) (q j : ℕ) (dirs : List ℕ) (o : Option StoredNode) → PlanIsCovered h (run (unlinking_node i x q j dirs o) s)
  unlinking_node_covered i x q j dirs None = refuse_covered h reply.NoEnt dirs refl
  unlinking_node_covered i x q j dirs (Some y) = removing_all i x q j y dirs

  unlinking_covered : (dirs : List ℕ) (v : Spot) → IsFine v → PlanIsCovered h (run (unlinking dirs v) s)
  unlinking_covered dirs AtRoot f = refuse_covered h reply.IsDir dirs refl
  unlinking_covered dirs (Lost r) f = refuse_covered h r dirs f
  unlinking_covered dirs (AtGap i x name) f = refuse_covered h reply.NoEnt dirs refl
  unlinking_covered dirs (AtName i x name q e) f = go (e.kind == 2)
    where
      go : (b : Bool) → PlanIsCovered h (run (if b then refused reply.IsDir dirs else ReadInode e.inode (unlinking_node i x q e.inode dirs)) s)
      go true = refuse_covered h reply.IsDir dirs refl
      go false = unlinking_node_covered i x q e.inode dirs (s.inode e.inode)

  removing_node_covered : (i : ℕ) (x : StoredNode) (q j : ℕ) (dirs : List ℕ) (o : Option StoredNode) → PlanIsCovered h (run (removing_node i x q j dirs o) s)
  removing_node_covered i x q j dirs None = refuse_covered h reply.NoEnt dirs refl
  removing_node_covered i x q j dirs (Some y) = go (nat_lt 0 y.size)
    where
      go : (b : Bool) → PlanIsCovered h (run (if b then refused reply.NotEmpty (dirs ++ j ∷ []) else finish_over (fewer_segments j y) (removed_by i x q j y dirs)) s)
      go true = refuse_covered h reply.NotEmpty (dirs ++ j ∷ []) refl
      go false = removing_all i x q j y dirs

  removing_covered : (dirs : List ℕ) (v : Spot) → IsFine v → PlanIsCovered h (run (removing dirs v) s)
  removing_covered dirs AtRoot f = refuse_covered h reply.Inval dirs refl
  removing_covered dirs (Lost r) f = refuse_covered h r dirs f
  removing_covered dirs (AtGap i x name) f = refuse_covered h reply.NoEnt dirs refl
  removing_covered dirs (AtName i x name q e) f = go (e.kind == 2)
    where
      go : (b : Bool) → PlanIsCovered h (run (if b then ReadInode e.inode (removing_node i x q e.inode dirs) else refused reply.NotDir dirs) s)
      go true = removing_node_covered i x q e.inode dirs (s.inode e.inode)
      go false = refuse_covered h reply.NotDir dirs refl

  -- ---- rename
  module _ (m : Moving) where
    onto_covered : (i : ℕ) (x : StoredNode) (name : List ℕ) (q j : ℕ) (y : StoredNode) (dirs : List ℕ) → FinishIsCovered h (moved_onto_by m i x name q j y dirs)
    onto_covered i x name q j y dirs =
        let f = moved_onto_by m i x name q j y dirs in
        let is = m.dir ∷ i ∷ j ∷ [] in
        let dir : IsSole f.locks (lock.Node m.dir) = node_sole (shared_nodes dirs) is (sole_segments (fewer_segments j y)) m.dir (has_head m.dir (i ∷ j ∷ [])) in
        let own : IsSole f.locks (lock.Node j) = node_sole (shared_nodes dirs) is (sole_segments (fewer_segments j y)) j (has_more m.dir j (i ∷ j ∷ []) (has_more i j (j ∷ []) (has_head j []))) in
        record { edits = (dir, (tt, (tt, fewer_covered f.locks j y own (segment_sole (shared_nodes dirs ++ sole_nodes is) (fewer_segments j y))))); full = λ e. absurd (cc) }

    replacing_covered : (i : ℕ) (x : StoredNode) (name : List ℕ) (q j : ℕ) (dirs : List ℕ) (o : Option StoredNode) → PlanIsCovered h (run (replacing_node m i x name q j dirs o) s)
    replacing_covered i x name q j dirs None = refuse_covered h reply.NoEnt dirs refl
    replacing_covered i x name q j dirs (Some y) = go (y.kind == 2 && nat_lt 0 y.size)
      where
        go : (b : Bool) → PlanIsCovered h (run (if b then refused reply.NotEmpty (dirs ++ j ∷ []) else finish_over (fewer_segments j y) (moved_onto_by m i x name q j y dirs)) s)
        go true = refuse_covered h reply.NotEmpty (dirs ++ j ∷ []) refl
        go false = rw (run-segments (fewer_segments j y) (Got (Finishes (moved_onto_by m i x name q j y dirs))) s) (onto_covered i x name q j y dirs)

    moving_onto_covered : (i : ℕ) (x : StoredNode) (name : List ℕ) (q : ℕ) (e : StoredEntry) (dirs : List ℕ) → PlanIsCovered h (run (moving_onto m i x name q e dirs) s)
    moving_onto_covered i x name q e dirs = go (e.inode == m.entry.inode) (m.entry.kind == 2 && not (e.kind == 2)) (e.kind == 2 && not (m.entry.kind == 2))
      where
        go : (a b c : Bool) → PlanIsCovered h (run (if a then refused reply.Ok dirs else (if b then refused reply.NotDir dirs else (if c then refused reply.IsDir dirs else ReadInode e.inode (replacing_node m i x name q e.inode dirs)))) s)
        go true b c = refuse_covered h reply.Ok dirs refl
        go false true c = refuse_covered h reply.NotDir dirs refl
        go false false true = refuse_covered h reply.IsDir dirs refl
        go false false false = replacing_covered i x name q e.inode dirs (s.inode e.inode)

    between_segments : (i : ℕ) (x : StoredNode) (name dirs : List ℕ) (room : Room) (k : ℕ) → Contains (room_segments room) k → IsSole (moved_between m i x name dirs room).locks (lock.Segment k)
    between_segments i x name dirs room k c = segment_sole (shared_nodes dirs ++ sole_nodes (m.dir ∷ i ∷ [])) (room_segments room) k c

    between_covered : (i : ℕ) (x : StoredNode) (name dirs : List ℕ) (room : Room) → FinishIsCovered h (moved_between m i x name dirs room)
    between_covered i x name dirs room =
        let f = moved_between m i x name dirs room in
        let dir : IsSole f.locks (lock.Node m.dir) = node_sole (shared_nodes dirs) (m.dir ∷ i ∷ []) (sole_segments (room_segments room)) m.dir (has_head m.dir (i ∷ [])) in
        let own : IsSole f.locks (lock.Node i) = node_sole (shared_nodes dirs) (m.dir ∷ i ∷ []) (sole_segments (room_segments room)) i (has_more m.dir i (i ∷ []) (has_head i [])) in
        record { edits = covers_join f.locks (enter i x (renamed_entry m name) room) (take_entry m.dir m.directory m.slot) (enter_covered f.locks i x (renamed_entry m name) room own (between_segments i x name dirs room)) (dir, (tt, tt)); full = λ e. absurd (cc) }

    moving_in_covered : (i : ℕ) (x : StoredNode) (name dirs : List ℕ) (room : Room) → PlanIsCovered h (run (moving_in h m i x name dirs room) s)
    moving_in_covered i x name dirs NoRoom = none_covered h s reply.NoDirBlock dirs
    moving_in_covered i x name dirs (Inside q) = room_covered (Inside q) (moved_between m i x name dirs (Inside q)) (between_covered i x name dirs (Inside q)) (between_segments i x name dirs (Inside q))
    moving_in_covered i x name dirs (InBlock k) = room_covered (InBlock k) (moved_between m i x name dirs (InBlock k)) (between_covered i x name dirs (InBlock k)) (between_segments i x name dirs (InBlock k))

    moving_to_covered : (i : ℕ) (x : StoredNode) (name dirs : List ℕ) → PlanIsCovered h (run (moving_to h m i x name dirs) s)
    moving_to_covered i x name dirs = go (i == m.dir) (is_full x)
      where
        go : (a b : Bool) → PlanIsCovered h (run (if a then Got (Finishes (moved_within m name dirs)) else (if b then refused reply.DirFull dirs else bind (find_room h x) (moving_in h m i x name dirs))) s)
        go true b = record { edits = (tt, tt); full = λ e. absurd (cc) }
        go false true = refuse_covered h reply.DirFull dirs refl
        go false false = rw (run-bind (find_room h x) (moving_in h m i x name dirs) s) (moving_in_covered i x name dirs (run (find_room h x) s))

    renaming_to_covered : (to_dirs dirs : List ℕ) (v : Spot) → IsFine v → PlanIsCovered h (run (renaming_to h m to_dirs dirs v) s)
    renaming_to_covered to_dirs dirs AtRoot f = refuse_covered h reply.Inval dirs refl
    renaming_to_covered to_dirs dirs (Lost r) f = refuse_covered h r dirs f
    renaming_to_covered to_dirs dirs (AtName i x name q e) f = go (goes_through m to_dirs)
      where
        go : (b : Bool) → PlanIsCovered h (run (if b then refused reply.Inval dirs else moving_onto m i x name q e dirs) s)
        go true = refuse_covered h reply.Inval dirs refl
        go false = moving_onto_covered i x name q e dirs
    renaming_to_covered to_dirs dirs (AtGap i x name) f = go (goes_through m to_dirs)
      where
        go : (b : Bool) → PlanIsCovered h (run (if b then refused reply.Inval dirs else moving_to h m i x name dirs) s)
        go true = refuse_covered h reply.Inval dirs refl
        go false = moving_to_covered i x name dirs

  renaming_covered : (to : List (List ℕ)) (dirs : List ℕ) (v : Spot) → IsFine v → PlanIsCovered h (run (renaming h to dirs v) s)
  renaming_covered to dirs AtRoot f = refuse_covered h reply.Inval dirs refl
  renaming_covered to dirs (Lost r) f = refuse_covered h r dirs f
  renaming_covered to dirs (AtGap i x name) f = refuse_covered h reply.NoEnt dirs refl
  renaming_covered to dirs (AtName i x name q e) f =
      let m : Moving = record { dir = i; directory = x; slot = q; entry = e } in
      let w = run (walk to) s in
      rw (run-bind (walk to) (λ w. renaming_to h m w.dirs (dirs ++ w.dirs) w.spot) s) (renaming_to_covered m w.dirs (dirs ++ w.dirs) w.spot (walk_fine s to))

pub create_covered : (path : List (List ℕ)) → IsCoveredPlan (op.Create path)
create_covered path h s birth when = made_path_covered h s birth (File [] 1 0) path

pub mkdir_covered : (path : List (List ℕ)) → IsCoveredPlan (op.Mkdir path)
mkdir_covered path h s birth when = made_path_covered h s birth (Dir [] 0) path

pub symlink_covered : (path : List (List ℕ)) (target : List ℕ) → IsCoveredPlan (op.Symlink path target)
symlink_covered path target h s birth when = made_path_covered h s birth (Link target 1) path

pub link_covered : (path to : List (List ℕ)) → IsCoveredPlan (op.Link path to)
link_covered path to h s birth when = let w = run (walk path) s in rw (run-bind (walk path) (λ w. linking h to w.dirs w.spot) s) (linking_covered h s to w.dirs w.spot (walk_fine s path))

pub unlink_covered : (path : List (List ℕ)) → IsCoveredPlan (op.Unlink path)
unlink_covered path h s birth when = let w = run (walk path) s in rw (run-bind (walk path) (λ w. unlinking w.dirs w.spot) s) (unlinking_covered h s w.dirs w.spot (walk_fine s path))

pub rmdir_covered : (path : List (List ℕ)) → IsCoveredPlan (op.Rmdir path)
rmdir_covered path h s birth when = let w = run (walk path) s in rw (run-bind (walk path) (λ w. removing w.dirs w.spot) s) (removing_covered h s w.dirs w.spot (walk_fine s path))

pub rename_covered : (path to : List (List ℕ)) → IsCoveredPlan (op.Rename path to)
rename_covered [] to h s birth when = refuse_covered h reply.Inval [] refl
rename_covered (name ∷ names) [] h s birth when = refuse_covered h reply.Inval [] refl
rename_covered (name ∷ names) (new ∷ news) h s birth when =
    let w = run (walk (name ∷ names)) s in rw (run-bind (walk (name ∷ names)) (λ w. renaming h (new ∷ news) w.dirs w.spot) s) (renaming_covered h s (new ∷ news) w.dirs w.spot (walk_fine s (name ∷ names)))

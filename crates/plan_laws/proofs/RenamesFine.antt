-- The locks of the plan of rename cover what it looks at and edits, over the disk of a tree.
use Rattle.std.proofs.Common.{ℕ, ◌≡◌, ◌<◌, ◌*◌, ◌==◌, ◌&&◌, not, ⊎_elim, Bool, true, false, nat_lt, if◌then◌else◌, Some, List, [], ◌∷◌, ◌++◌}
use Rattle.std.proofs.lemmas.List.Elements.{Contains-append_left, Contains-append_right}
use Rattle.std.specs.List.{Contains}
use Rattle.frang_base.specs.declared.lock.LockId.TheVariants as lock
use Rattle.frang_base.specs.declared.lock.Mode.TheVariants.{Sole}
use Rattle.frang_base.specs.declared.reply.Reply.TheVariants as reply
use Rattle.disk_definitions.specs.Store.{Store, StoredNode, StoredEntry}
use Rattle.disk_definitions.specs.Naming.{Naming}
use Rattle.disk_definitions.specs.Changes.{take_entry}
use Rattle.disk_definitions.specs.Ask.{Got, ReadInode, bind, run}
use Rattle.disk_definitions.specs.Walks.{Spot, walk}
use Rattle.disk_definitions.specs.Walks.Spot.{AtRoot, AtName, AtGap, Lost}
use Rattle.disk_definitions.specs.Plans.{Hand, Lock, Finish, Room, refused, find_room, enter, room_segments, is_full, shared_nodes, sole_nodes, sole_segments}
use Rattle.disk_definitions.specs.Plans.Plan.{Finishes}
use Rattle.disk_definitions.specs.Plans.Room.{Inside, InBlock, NoRoom}
use Rattle.disk_definitions.specs.NamePlans.{fewer_segments, finish_over, Moving, renamed_entry, moved_onto_by, replacing_node, moving_onto, moved_within, moved_between, moving_in, moving_to, goes_through, renaming_to, renaming, plan_renamed}
use Rattle.plan_laws.specs.Locks.{IsSole}
use Rattle.plan_laws.proofs.Covering.{has_head, has_more, node_sole, segment_sole}
use Rattle.plan_laws.proofs.Standing.{HasKind, DiskStands}
use Rattle.plan_laws.proofs.Fine.{shared_held, first_held, join, Fine, FinishFits, refuse_fine, none_fine, done, over}
use Rattle.plan_laws.proofs.WalksFine.{either, RoomStands, room_stands, DirStands, SpotStands, walk_stands, on_walk}
use Rattle.plan_laws.proofs.RoomsFine.{own_sole, place_sole, enter_fits, fewer_fits, on_room, room_fine, wider, alone, read_node, without_last}

module _ (h : Hand) (s : Store) (n : Naming) (disk : DiskStands h s n) where
  -- ---- rename
  module _ (m : Moving) (source : s.inode m.dir ≡ Some m.directory) (old : m.slot < 56 * m.directory.blocks) where
    replacing_fine : (i : ℕ) (x : StoredNode) (name : List ℕ) (q j : ℕ) (y : StoredNode) (dirs : List ℕ) → DirStands h s n disk dirs i x → q < 56 * x.blocks → s.inode j ≡ Some y → Fine h s n (dirs ++ j ∷ []) (replacing_node m i x name q j dirs (Some y))
    replacing_fine i x name q j y dirs dir inside node = go (y.kind == 2 && nat_lt 0 y.size)
      where
        f : Finish
        f = moved_onto_by m i x name q j y dirs

        is : List ℕ
        is = m.dir ∷ i ∷ j ∷ []

        segments : List Lock
        segments = sole_segments (fewer_segments j y)

        parts : (k : ℕ) → Contains (fewer_segments j y) k → IsSole f.locks (lock.Segment k)
        parts k c = segment_sole (shared_nodes dirs ++ sole_nodes is) (fewer_segments j y) k c

        fits : FinishFits h s n (dirs ++ j ∷ []) f
        fits =
            let from : IsSole f.locks (lock.Node m.dir) = node_sole (shared_nodes dirs) is segments m.dir (has_head m.dir (i ∷ j ∷ [])) in
            let sole : IsSole f.locks (lock.Node i) = node_sole (shared_nodes dirs) is segments i (has_more m.dir i (i ∷ j ∷ []) (has_head i (j ∷ []))) in
            let own : IsSole f.locks (lock.Node j) = node_sole (shared_nodes dirs) is segments j (has_more m.dir j (i ∷ j ∷ []) (has_more i j (j ∷ []) (has_head j []))) in
            record {
              nodes = λ c d. ⊎_elim (first_held dirs (sole_nodes is) segments c) (λ e. (Sole, node_sole (shared_nodes dirs) is segments c (has_more m.dir c (i ∷ j ∷ []) (has_more i c (j ∷ []) e)))) (either dirs (j ∷ []) c d);
              edits = (own_sole h s n disk f.locks m.dir m.directory source from, (place_sole h s n disk f.locks m.dir m.directory m.slot source old from, (place_sole h s n disk f.locks i x q dir.is inside sole, fewer_fits h s n disk f.locks j y node own parts)));
            }

        go : (b : Bool) → Fine h s n (dirs ++ j ∷ []) (if b then refused reply.NotEmpty (dirs ++ j ∷ []) else finish_over (fewer_segments j y) f)
        go true = refuse_fine h s n (dirs ++ j ∷ []) (dirs ++ j ∷ []) reply.NotEmpty (λ i c. c)
        go false = over h s n (dirs ++ j ∷ []) (fewer_segments j y) f parts fits

    moving_onto_fine : (i : ℕ) (x : StoredNode) (name : List ℕ) (q : ℕ) (e : StoredEntry) (dirs : List ℕ) → DirStands h s n disk dirs i x → q < 56 * x.blocks → HasKind s e.inode e.kind → Fine h s n dirs (moving_onto m i x name q e dirs)
    moving_onto_fine i x name q e dirs dir inside k = go (e.inode == m.entry.inode) (m.entry.kind == 2 && not (e.kind == 2)) (e.kind == 2 && not (m.entry.kind == 2))
      where
        go : (a b c : Bool) → Fine h s n dirs (if a then refused reply.Ok dirs else (if b then refused reply.NotDir dirs else (if c then refused reply.IsDir dirs else ReadInode e.inode (replacing_node m i x name q e.inode dirs))))
        go true b c = refuse_fine h s n dirs dirs reply.Ok (λ i c. c)
        go false true c = refuse_fine h s n dirs dirs reply.NotDir (λ i c. c)
        go false false true = refuse_fine h s n dirs dirs reply.IsDir (λ i c. c)
        go false false false = without_last h s n disk dirs e.inode (ReadInode e.inode (replacing_node m i x name q e.inode dirs)) (read_node h s n disk dirs e.inode k.node (replacing_node m i x name q e.inode dirs) k.is (replacing_fine i x name q e.inode k.node dirs dir inside k.is))

    between_segments : (i : ℕ) (x : StoredNode) (name dirs : List ℕ) (room : Room) (k : ℕ) → Contains (room_segments room) k → IsSole (moved_between m i x name dirs room).locks (lock.Segment k)
    between_segments i x name dirs room k c = segment_sole (shared_nodes dirs ++ sole_nodes (m.dir ∷ i ∷ [])) (room_segments room) k c

    between_fits : (i : ℕ) (x : StoredNode) (name dirs : List ℕ) (room : Room) → DirStands h s n disk dirs i x → RoomStands h s n disk x room → FinishFits h s n dirs (moved_between m i x name dirs room)
    between_fits i x name dirs room dir r =
        let f = moved_between m i x name dirs room in
        let from : IsSole f.locks (lock.Node m.dir) = node_sole (shared_nodes dirs) (m.dir ∷ i ∷ []) (sole_segments (room_segments room)) m.dir (has_head m.dir (i ∷ [])) in
        let sole : IsSole f.locks (lock.Node i) = node_sole (shared_nodes dirs) (m.dir ∷ i ∷ []) (sole_segments (room_segments room)) i (has_more m.dir i (i ∷ []) (has_head i [])) in
        record {
          nodes = first_held dirs (sole_nodes (m.dir ∷ i ∷ [])) (sole_segments (room_segments room));
          edits = join h s n f.locks (enter i x (renamed_entry m name) room) (take_entry m.dir m.directory m.slot) (enter_fits h s n disk f.locks i x (renamed_entry m name) room dir.is sole r (between_segments i x name dirs room))
              (own_sole h s n disk f.locks m.dir m.directory source from, (place_sole h s n disk f.locks m.dir m.directory m.slot source old from, tt));
        }

    moving_in_fine : (i : ℕ) (x : StoredNode) (name dirs : List ℕ) (room : Room) → DirStands h s n disk dirs i x → RoomStands h s n disk x room → Fine h s n dirs (moving_in h m i x name dirs room)
    moving_in_fine i x name dirs NoRoom dir r = none_fine h s n dirs dirs reply.NoDirBlock (λ i c. c)
    moving_in_fine i x name dirs (Inside q) dir r = room_fine h s n disk dirs x (Inside q) (moved_between m i x name dirs (Inside q)) (between_fits i x name dirs (Inside q) dir r) r (between_segments i x name dirs (Inside q))
    moving_in_fine i x name dirs (InBlock k) dir r = room_fine h s n disk dirs x (InBlock k) (moved_between m i x name dirs (InBlock k)) (between_fits i x name dirs (InBlock k) dir r) r (between_segments i x name dirs (InBlock k))

    within_fits : (name dirs : List ℕ) → FinishFits h s n dirs (moved_within m name dirs)
    within_fits name dirs = record {
      nodes = shared_held dirs (sole_nodes (m.dir ∷ []));
      edits = (place_sole h s n disk (moved_within m name dirs).locks m.dir m.directory m.slot source old (Contains-append_right (shared_nodes dirs) (sole_nodes (m.dir ∷ [])) (lock.Node m.dir, Sole) (has_head (lock.Node m.dir, Sole) [])), tt);
    }

    moving_to_fine : (i : ℕ) (x : StoredNode) (name dirs : List ℕ) → DirStands h s n disk dirs i x → Fine h s n dirs (moving_to h m i x name dirs)
    moving_to_fine i x name dirs dir = go (i == m.dir) (is_full x)
      where
        go : (a b : Bool) → Fine h s n dirs (if a then Got (Finishes (moved_within m name dirs)) else (if b then refused reply.DirFull dirs else bind (find_room h x) (moving_in h m i x name dirs)))
        go true b = done h s n dirs (moved_within m name dirs) (within_fits name dirs)
        go false true = refuse_fine h s n dirs dirs reply.DirFull (λ i c. c)
        go false false = on_room h s n disk dirs i x (moving_in h m i x name dirs) dir.is dir.walked (moving_in_fine i x name dirs (run (find_room h x) s) dir (room_stands h s n disk x))

    renaming_to_fine : (to_dirs dirs : List ℕ) (v : Spot) → SpotStands h s n disk dirs v → Fine h s n dirs (renaming_to h m to_dirs dirs v)
    renaming_to_fine to_dirs dirs AtRoot t = refuse_fine h s n dirs dirs reply.Inval (λ i c. c)
    renaming_to_fine to_dirs dirs (Lost r) t = refuse_fine h s n dirs dirs r (λ i c. c)
    renaming_to_fine to_dirs dirs (AtName i x name q e) t = go (goes_through m to_dirs)
      where
        go : (b : Bool) → Fine h s n dirs (if b then refused reply.Inval dirs else moving_onto m i x name q e dirs)
        go true = refuse_fine h s n dirs dirs reply.Inval (λ i c. c)
        go false = moving_onto_fine i x name q e dirs t.0 t.1 t.2
    renaming_to_fine to_dirs dirs (AtGap i x name) t = go (goes_through m to_dirs)
      where
        go : (b : Bool) → Fine h s n dirs (if b then refused reply.Inval dirs else moving_to h m i x name dirs)
        go true = refuse_fine h s n dirs dirs reply.Inval (λ i c. c)
        go false = moving_to_fine i x name dirs t

  -- the directories of the second walk of a rename
  abbrev pub rename_dirs : List (List ℕ) → Spot → List ℕ
  rename_dirs to (AtName i x name q e) = (run (walk to) s).dirs
  rename_dirs to _ = []

  renaming_fine : (to : List (List ℕ)) (dirs : List ℕ) (v : Spot) → SpotStands h s n disk dirs v → Fine h s n (dirs ++ rename_dirs to v) (renaming h to dirs v)
  renaming_fine to dirs AtRoot t = refuse_fine h s n (dirs ++ []) dirs reply.Inval (alone h s n disk dirs)
  renaming_fine to dirs (Lost r) t = refuse_fine h s n (dirs ++ []) dirs r (alone h s n disk dirs)
  renaming_fine to dirs (AtGap i x name) t = refuse_fine h s n (dirs ++ []) dirs reply.NoEnt (alone h s n disk dirs)
  renaming_fine to dirs (AtName i x name q e) t =
      let m : Moving = record { dir = i; directory = x; slot = q; entry = e } in
      let w = run (walk to) s in
      on_walk h s n disk (dirs ++ w.dirs) to (λ w. renaming_to h m w.dirs (dirs ++ w.dirs) w.spot) (λ i c. Contains-append_right dirs w.dirs i c)
      (renaming_to_fine m t.0.is t.1 w.dirs (dirs ++ w.dirs) w.spot (wider h s n disk dirs w.dirs w.spot (walk_stands h s n disk to).spot))

  -- the nodes that a rename touches while it walks
  abbrev pub rename_touched : List (List ℕ) → List (List ℕ) → List ℕ
  rename_touched [] to = []
  rename_touched (name ∷ names) [] = []
  rename_touched (name ∷ names) (new ∷ news) = (run (walk (name ∷ names)) s).dirs ++ rename_dirs (new ∷ news) (run (walk (name ∷ names)) s).spot

  pub rename_fine : (path to : List (List ℕ)) → Fine h s n (rename_touched path to) (plan_renamed h path to)
  rename_fine [] to = refuse_fine h s n [] [] reply.Inval (λ i c. c)
  rename_fine (name ∷ names) [] = refuse_fine h s n [] [] reply.Inval (λ i c. c)
  rename_fine (name ∷ names) (new ∷ news) =
      let w = run (walk (name ∷ names)) s in
      on_walk h s n disk (w.dirs ++ rename_dirs (new ∷ news) w.spot) (name ∷ names) (λ w. renaming h (new ∷ news) w.dirs w.spot) (λ i c. Contains-append_left w.dirs (rename_dirs (new ∷ news) w.spot) i c)
      (renaming_fine (new ∷ news) w.dirs w.spot (walk_stands h s n disk (name ∷ names)).spot)

-- The plans of the operations on names look only at inodes and blocks that the disk has.
use Rattle.std.proofs.Common.{◌≡◌, ◌<◌, ◌*◌, ◌==◌, ◌&&◌, not, ℕ, Bool, true, false, nat_le, nat_lt, Option, Some, None, List, [], ◌∷◌, ◌++◌, if◌then◌else◌, length, refl}
use Rattle.std.specs.Map.{keys_of}
use Rattle.frang_base.specs.declared.reply.Reply.{Reply}
use Rattle.frang_base.specs.declared.reply.Reply.TheVariants as reply
use Rattle.tree_definitions.specs.declared.node.Node.{Node}
use Rattle.tree_definitions.specs.declared.node.Node.TheVariants.{Dir}
use Rattle.tree_definitions.specs.Entries.{Entries, entry_at}
use Rattle.tree_definitions.specs.Place.{place}
use Rattle.tree_definitions.specs.Tree.{FileTree, node_at}
use Rattle.tree_laws.proofs.Keeping.{names_nodes}
use Rattle.disk_definitions.specs.Store.{Store, StoredNode}
use Rattle.disk_definitions.specs.Naming.{Naming, entry_of}
use Rattle.disk_definitions.specs.Picks.{picked_inode, picked_directory}
use Rattle.disk_definitions.specs.Ask.{Sector, Ask, Got, ReadInode, ReadDirectory, bind, read_segments, run, looks}
use Rattle.disk_definitions.specs.Walks.{Spot, Found, search, is_vacant, walk}
use Rattle.disk_definitions.specs.Plans.{Hand, Plan, Finish, Room, refused, read_held, room_in, room_at, find_room, finish_in, must_clear, is_full}
use Rattle.disk_definitions.specs.Plans.Plan.{Clears, Finishes}
use Rattle.disk_definitions.specs.Plans.Room.{Inside, InBlock, NoRoom}
use Rattle.disk_definitions.specs.NamePlans.{made_by, making_in, making_with, making, plan_made, linked_by, linking_in, linking_node, linking_to, linking, plan_linked, fewer_segments, finish_over, removed_by, unlinking_node, unlinking, plan_unlinked, removing_node, removing, plan_dir_removed, Moving, moved_onto_by, replacing_node, moving_onto, moved_within, moved_between, moving_in, moving_to, goes_through, renaming_to, renaming, plan_renamed}
use Rattle.disk_definitions.specs.Meets.{IsOfTree, IsHandOf}
use Rattle.plan_laws.proofs.Cases.{inode_by, by_spot}
use Rattle.plan_laws.proofs.Entering.{IsRoomFor, room_found}
use Rattle.plan_laws.proofs.Picks.{inode_some}
use Rattle.plan_laws.proofs.Walking.{walks_lead}
use Rattle.plan_laws.specs.Inside.{AreInside}
use Rattle.plan_laws.proofs.WalksInside.{inside_bind, inode_inside, directory_inside, walk_inside}

pub segments_inside : {A : Type 0} (segments : ℕ) (s : Store) (ks : List ℕ) (p : Ask A) → AreInside segments (looks p s) → AreInside segments (looks (read_segments ks p) s)
segments_inside segments s [] p a = a
segments_inside segments s (k ∷ ks) p a = (tt, segments_inside segments s ks p a)

module _ (h : Hand) (s : Store) (tree : FileTree) (n : Naming) (of : IsOfTree s tree n) (hand : IsHandOf h s tree.segments) where
  abbrev AllInside : List Sector → Type 0
  AllInside = AreInside tree.segments

  -- one walk, and then a plan by where it leads
  pub walk_then : {A : Type 0} (path : List (List ℕ)) (next : List ℕ → Spot → Ask A) → ((dirs : List ℕ) → AllInside (looks (next dirs (run (walk path) s).spot) s)) → AllInside (looks (bind (walk path) (λ w. next w.dirs w.spot)) s)
  walk_then path next f = inside_bind tree.segments (walk path) (λ w. next w.dirs w.spot) s (walk_inside s tree n of path) (f (run (walk path) s).dirs)

  -- ---- room for an entry
  module _ (d blocks : ℕ) (entries : Entries) (is : node_at tree d ≡ Some (Dir entries blocks)) where
    abbrev x : StoredNode
    x = inode_by n d (Dir entries blocks)

    room_inside : AllInside (looks (find_room h x) s)
    room_inside = inside_bind tree.segments (search x.small is_vacant 0 (8 * blocks)) (room_at h x) s (directory_inside s tree n of d blocks entries is is_vacant) (at_found (run (search x.small is_vacant 0 (8 * blocks)) s))
      where
        by_blocks : (c : Bool) → AllInside (looks (if c then read_held h (Got (room_in (picked_directory h.held))) else Got NoRoom) s)
        by_blocks true = segments_inside tree.segments s (keys_of h.held) (Got (room_in (picked_directory h.held))) tt
        by_blocks false = tt

        at_found : (o : Option Found) → AllInside (looks (room_at h x o) s)
        at_found (Some found) = tt
        at_found None = by_blocks (nat_lt blocks 16)

    finish_inside : (room : Room) (f : Finish) → IsRoomFor h s tree n d entries blocks room → AllInside (looks (finish_in h room f) s)
    finish_inside (Inside q) f r = tt
    finish_inside NoRoom f r = tt
    finish_inside (InBlock k) f r = by_clear (must_clear h k)
      where
        by_clear : (c : Bool) → AllInside (looks (if c then Got (Clears k f.locks) else ReadDirectory k 0 (λ p. Got (Finishes f))) s)
        by_clear true = tt
        by_clear false = (r.1, tt)

    -- a plan that goes on with room in a directory that isn't full
    room_then : (next : Room → Ask Plan) → nat_le 896 (length entries) ≡ false → ((room : Room) → IsRoomFor h s tree n d entries blocks room → AllInside (looks (next room) s)) → AllInside (looks (bind (find_room h x) next) s)
    room_then next few f = inside_bind tree.segments (find_room h x) next s room_inside (f (run (find_room h x) s) (room_found h s tree n of hand d blocks entries is few))

    -- and where it is full the plan refuses
    pub unless_full : (r : Reply) (touched : List ℕ) (next : Room → Ask Plan) → ((room : Room) → IsRoomFor h s tree n d entries blocks room → AllInside (looks (next room) s)) →
        AllInside (looks (if is_full x then refused r touched else bind (find_room h x) next) s)
    unless_full r touched next f = by_size (nat_le 896 (length entries)) refl
      where
        by_size : (c : Bool) → nat_le 896 (length entries) ≡ c → AllInside (looks (if c then refused r touched else bind (find_room h x) next) s)
        by_size true e = tt
        by_size false e = room_then next e f

    -- ---- create, mkdir, symlink
    module _ (name : List ℕ) (birth : ℕ) (node : Node) (dirs : List ℕ) where
      making_room : (j : ℕ) → j < 64 * tree.segments → (room : Room) → IsRoomFor h s tree n d entries blocks room → AllInside (looks (making_in h (n.inode d) x name birth node dirs j room) s)
      making_room j l NoRoom r = tt
      making_room j l (Inside q) r = (l, tt)
      making_room j l (InBlock k) r = (l, finish_inside (InBlock k) (made_by (n.inode d) x name birth node dirs j (InBlock k)) r)

      making_inode : nat_le 896 (length entries) ≡ false → (o : Option ℕ) → picked_inode h.held ≡ o → AllInside (looks (making_with h (n.inode d) x name birth node dirs o) s)
      making_inode few None e = tt
      making_inode few (Some j) e = room_then (making_in h (n.inode d) x name birth node dirs j) few (making_room j (inode_some h s tree n of hand j e).1)

      pub making_gap : AllInside (looks (if is_full x then refused reply.DirFull dirs else read_held h (making_with h (n.inode d) x name birth node dirs (picked_inode h.held))) s)
      making_gap = by_size (nat_le 896 (length entries)) refl
        where
          by_size : (c : Bool) → nat_le 896 (length entries) ≡ c → AllInside (looks (if c then refused reply.DirFull dirs else read_held h (making_with h (n.inode d) x name birth node dirs (picked_inode h.held))) s)
          by_size true e = tt
          by_size false e = segments_inside tree.segments s (keys_of h.held) (making_with h (n.inode d) x name birth node dirs (picked_inode h.held)) (making_inode e (picked_inode h.held) refl)

    -- ---- link
    module _ (name : List ℕ) (j : ℕ) (dirs : List ℕ) where
      linking_room : (y : StoredNode) (room : Room) → IsRoomFor h s tree n d entries blocks room → AllInside (looks (linking_in h (n.inode d) x name j y dirs room) s)
      linking_room y NoRoom r = tt
      linking_room y (Inside q) r = tt
      linking_room y (InBlock k) r = finish_inside (InBlock k) (linked_by (n.inode d) x name j y dirs (InBlock k)) r

      pub linking_inode : (o : Option StoredNode) → AllInside (looks (linking_node h (n.inode d) x name j dirs o) s)
      linking_inode None = tt
      linking_inode (Some y) = by_links (nat_le 1000 y.links)
        where
          by_links : (c : Bool) → AllInside (looks (if c then refused reply.MLink (dirs ++ j ∷ []) else (if is_full x then refused reply.DirFull (dirs ++ j ∷ []) else bind (find_room h x) (linking_in h (n.inode d) x name j y dirs))) s)
          by_links true = tt
          by_links false = unless_full reply.DirFull (dirs ++ j ∷ []) (linking_in h (n.inode d) x name j y dirs) (linking_room y)

    -- ---- rename to a name that isn't there
    pub moving_gap : (m : Moving) (name dirs : List ℕ) → AllInside (looks (moving_to h m (n.inode d) x name dirs) s)
    moving_gap m name dirs = by_place (n.inode d == m.dir)
      where
        room : (room : Room) → IsRoomFor h s tree n d entries blocks room → AllInside (looks (moving_in h m (n.inode d) x name dirs room) s)
        room NoRoom r = tt
        room (Inside q) r = tt
        room (InBlock k) r = finish_inside (InBlock k) (moved_between m (n.inode d) x name dirs (InBlock k)) r

        by_place : (c : Bool) → AllInside (looks (if c then Got (Finishes (moved_within m name dirs)) else (if is_full x then refused reply.DirFull dirs else bind (find_room h x) (moving_in h m (n.inode d) x name dirs))) s)
        by_place true = tt
        by_place false = unless_full reply.DirFull dirs (moving_in h m (n.inode d) x name dirs) room

  -- ---- the plans
  pub over_inside : (segments : List ℕ) (f : Finish) → AllInside (looks (finish_over segments f) s)
  over_inside segments f = segments_inside tree.segments s segments (Got (Finishes f)) tt

  -- the inode of a name's node
  named_inside : (d blocks : ℕ) (entries : Entries) (name : List ℕ) (b : ℕ) → node_at tree d ≡ Some (Dir entries blocks) → entry_at entries name ≡ Some b → n.inode b < 64 * tree.segments
  named_inside d blocks entries name b is at = inode_inside s tree n of b (names_nodes tree of.well_formed d entries blocks name b is at)

  pub made_inside : (birth : ℕ) (node : Node) (path : List (List ℕ)) → AllInside (looks (plan_made h birth node path) s)
  made_inside birth node path = walk_then path (making h birth node) (λ dirs. by_spot s (node_at tree) n of.pictures (λ v p. AllInside (looks (making h birth node dirs v) s)) tt (λ r. tt)
      (λ d blocks entries name b is at. tt) (λ d blocks entries name is at. making_gap d blocks entries is name birth node dirs) (run (walk path) s).spot (place tree path) (walks_lead s tree n path of).0)

  pub unlinked_inside : (path : List (List ℕ)) → AllInside (looks (plan_unlinked path) s)
  unlinked_inside path = walk_then path unlinking (λ dirs. by_spot s (node_at tree) n of.pictures (λ v p. AllInside (looks (unlinking dirs v) s)) tt (λ r. tt)
      (λ d blocks entries name b is at. by_kind dirs d blocks entries name b is at (n.kind b == 2)) (λ d blocks entries name is at. tt) (run (walk path) s).spot (place tree path) (walks_lead s tree n path of).0)
    where
      node : (dirs : List ℕ) (i : ℕ) (x : StoredNode) (q j : ℕ) (o : Option StoredNode) → AllInside (looks (unlinking_node i x q j dirs o) s)
      node dirs i x q j None = tt
      node dirs i x q j (Some y) = over_inside (fewer_segments j y) (removed_by i x q j y dirs)

      by_kind : (dirs : List ℕ) (d blocks : ℕ) (entries : Entries) (name : List ℕ) (b : ℕ) → node_at tree d ≡ Some (Dir entries blocks) → entry_at entries name ≡ Some b → (c : Bool) →
          AllInside (looks (if c then refused reply.IsDir dirs else ReadInode (n.inode b) (unlinking_node (n.inode d) (inode_by n d (Dir entries blocks)) (n.spot d name) (n.inode b) dirs)) s)
      by_kind dirs d blocks entries name b is at true = tt
      by_kind dirs d blocks entries name b is at false = (named_inside d blocks entries name b is at, node dirs (n.inode d) (inode_by n d (Dir entries blocks)) (n.spot d name) (n.inode b) (s.inode (n.inode b)))

  pub removed_inside : (path : List (List ℕ)) → AllInside (looks (plan_dir_removed path) s)
  removed_inside path = walk_then path removing (λ dirs. by_spot s (node_at tree) n of.pictures (λ v p. AllInside (looks (removing dirs v) s)) tt (λ r. tt)
      (λ d blocks entries name b is at. by_kind dirs d blocks entries name b is at (n.kind b == 2)) (λ d blocks entries name is at. tt) (run (walk path) s).spot (place tree path) (walks_lead s tree n path of).0)
    where
      by_size : (dirs : List ℕ) (i : ℕ) (x : StoredNode) (q j : ℕ) (y : StoredNode) (c : Bool) → AllInside (looks (if c then refused reply.NotEmpty (dirs ++ j ∷ []) else finish_over (fewer_segments j y) (removed_by i x q j y dirs)) s)
      by_size dirs i x q j y true = tt
      by_size dirs i x q j y false = over_inside (fewer_segments j y) (removed_by i x q j y dirs)

      node : (dirs : List ℕ) (i : ℕ) (x : StoredNode) (q j : ℕ) (o : Option StoredNode) → AllInside (looks (removing_node i x q j dirs o) s)
      node dirs i x q j None = tt
      node dirs i x q j (Some y) = by_size dirs i x q j y (nat_lt 0 y.size)

      by_kind : (dirs : List ℕ) (d blocks : ℕ) (entries : Entries) (name : List ℕ) (b : ℕ) → node_at tree d ≡ Some (Dir entries blocks) → entry_at entries name ≡ Some b → (c : Bool) →
          AllInside (looks (if c then ReadInode (n.inode b) (removing_node (n.inode d) (inode_by n d (Dir entries blocks)) (n.spot d name) (n.inode b) dirs) else refused reply.NotDir dirs) s)
      by_kind dirs d blocks entries name b is at false = tt
      by_kind dirs d blocks entries name b is at true = (named_inside d blocks entries name b is at, node dirs (n.inode d) (inode_by n d (Dir entries blocks)) (n.spot d name) (n.inode b) (s.inode (n.inode b)))

  pub linked_inside : (path to : List (List ℕ)) → AllInside (looks (plan_linked h path to) s)
  linked_inside path to = walk_then path (linking h to) (λ dirs. by_spot s (node_at tree) n of.pictures (λ v p. AllInside (looks (linking h to dirs v) s)) tt (λ r. tt)
      (λ d blocks entries name b is at. by_kind dirs b (named_inside d blocks entries name b is at) (n.kind b == 2)) (λ d blocks entries name is at. tt) (run (walk path) s).spot (place tree path) (walks_lead s tree n path of).0)
    where
      second : (dirs : List ℕ) (b : ℕ) → n.inode b < 64 * tree.segments → AllInside (looks (linking_to h (n.inode b) dirs (run (walk to) s).spot) s)
      second dirs b l = by_spot s (node_at tree) n of.pictures (λ v p. AllInside (looks (linking_to h (n.inode b) dirs v) s)) tt (λ r. tt) (λ d blocks entries name c is at. tt)
          (λ d blocks entries name is at. (l, linking_inode d blocks entries is name (n.inode b) dirs (s.inode (n.inode b)))) (run (walk to) s).spot (place tree to) (walks_lead s tree n to of).0

      by_kind : (dirs : List ℕ) (b : ℕ) → n.inode b < 64 * tree.segments → (c : Bool) → AllInside (looks (if c then refused reply.IsDir dirs else bind (walk to) (λ w. linking_to h (n.inode b) (dirs ++ w.dirs) w.spot)) s)
      by_kind dirs b l true = tt
      by_kind dirs b l false = walk_then to (λ more v. linking_to h (n.inode b) (dirs ++ more) v) (λ more. second (dirs ++ more) b l)

  -- ---- rename onto a name
  module _ (m : Moving) (dirs : List ℕ) (d blocks : ℕ) (entries : Entries) (name : List ℕ) (b : ℕ) (l : n.inode b < 64 * tree.segments) where
    abbrev dir : StoredNode
    dir = inode_by n d (Dir entries blocks)

    abbrev replacing : Option StoredNode → Ask Plan
    replacing = replacing_node m (n.inode d) dir name (n.spot d name) (n.inode b) dirs

    by_size : (y : StoredNode) (c : Bool) → AllInside (looks (if c then refused reply.NotEmpty (dirs ++ n.inode b ∷ []) else finish_over (fewer_segments (n.inode b) y) (moved_onto_by m (n.inode d) dir name (n.spot d name) (n.inode b) y dirs)) s)
    by_size y true = tt
    by_size y false = over_inside (fewer_segments (n.inode b) y) (moved_onto_by m (n.inode d) dir name (n.spot d name) (n.inode b) y dirs)

    replaced : (o : Option StoredNode) → AllInside (looks (replacing o) s)
    replaced None = tt
    replaced (Some y) = by_size y (y.kind == 2 && nat_lt 0 y.size)

    pub onto_inside : (p q r : Bool) → AllInside (looks (if p then refused reply.Ok dirs else (if q then refused reply.NotDir dirs else (if r then refused reply.IsDir dirs else ReadInode (n.inode b) replacing))) s)
    onto_inside true q r = tt
    onto_inside false true r = tt
    onto_inside false false true = tt
    onto_inside false false false = (l, replaced (s.inode (n.inode b)))

  renaming_inside : (m : Moving) (to_dirs dirs : List ℕ) (to : List (List ℕ)) → AllInside (looks (renaming_to h m to_dirs dirs (run (walk to) s).spot) s)
  renaming_inside m to_dirs dirs to = by_spot s (node_at tree) n of.pictures (λ v p. AllInside (looks (renaming_to h m to_dirs dirs v) s)) tt (λ r. tt)
      (λ d blocks entries name b is at. onto (goes_through m to_dirs) d blocks entries name b (named_inside d blocks entries name b is at))
      (λ d blocks entries name is at. gap (goes_through m to_dirs) d blocks entries name is) (run (walk to) s).spot (place tree to) (walks_lead s tree n to of).0
    where
      onto : (c : Bool) (d blocks : ℕ) (entries : Entries) (name : List ℕ) (b : ℕ) → n.inode b < 64 * tree.segments →
          AllInside (looks (if c then refused reply.Inval dirs else moving_onto m (n.inode d) (inode_by n d (Dir entries blocks)) name (n.spot d name) (entry_of n name b) dirs) s)
      onto true d blocks entries name b l = tt
      onto false d blocks entries name b l = onto_inside m dirs d blocks entries name b l (n.inode b == m.entry.inode) (m.entry.kind == 2 && not (n.kind b == 2)) (n.kind b == 2 && not (m.entry.kind == 2))

      gap : (c : Bool) (d blocks : ℕ) (entries : Entries) (name : List ℕ) → node_at tree d ≡ Some (Dir entries blocks) → AllInside (looks (if c then refused reply.Inval dirs else moving_to h m (n.inode d) (inode_by n d (Dir entries blocks)) name dirs) s)
      gap true d blocks entries name is = tt
      gap false d blocks entries name is = moving_gap d blocks entries is m name dirs

  pub renamed_inside : (path to : List (List ℕ)) → AllInside (looks (plan_renamed h path to) s)
  renamed_inside [] to = tt
  renamed_inside (name ∷ names) [] = tt
  renamed_inside (name ∷ names) (new ∷ news) = walk_then (name ∷ names) (renaming h (new ∷ news)) (λ dirs. by_spot s (node_at tree) n of.pictures (λ v p. AllInside (looks (renaming h (new ∷ news) dirs v) s)) tt (λ r. tt)
      (λ d blocks entries u b is at. walk_then (new ∷ news) (λ more v. renaming_to h (record { dir = n.inode d; directory = inode_by n d (Dir entries blocks); slot = n.spot d u; entry = entry_of n u b }) more (dirs ++ more) v)
      (λ more. renaming_inside (record { dir = n.inode d; directory = inode_by n d (Dir entries blocks); slot = n.spot d u; entry = entry_of n u b }) more (dirs ++ more) (new ∷ news)))
      (λ d blocks entries u is at. tt) (run (walk (name ∷ names)) s).spot (place tree (name ∷ names)) (walks_lead s tree n (name ∷ names) of).0)

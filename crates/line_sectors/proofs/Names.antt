-- The plans of the operations on names look only at sectors of blocks that are a directory's, or become one's and are known to be zero.
use Rattle.std.proofs.Common.{◌≡◌, ◌*◌, ◌==◌, ◌&&◌, not, ℕ, inl, inr, Bool, true, false, nat_le, nat_lt, Option, Some, None, List, [], ◌∷◌, ◌++◌, if◌then◌else◌, refl, sym, ap, ◌∙◌, subst}
use Rattle.std.specs.Map.{keys_of}
use Rattle.frang_base.specs.declared.reply.Reply.{Reply}
use Rattle.frang_base.specs.declared.reply.Reply.TheVariants as reply
use Rattle.tree_definitions.specs.declared.node.Node.{Node}
use Rattle.tree_definitions.specs.declared.node.Node.TheVariants.{Dir}
use Rattle.tree_definitions.specs.Entries.{Entries}
use Rattle.tree_definitions.specs.Place.{place}
use Rattle.tree_definitions.specs.Tree.{FileTree, node_at}
use Rattle.disk_definitions.specs.Store.{Store, StoredNode}
use Rattle.disk_definitions.specs.Naming.{Naming, entry_of}
use Rattle.disk_definitions.specs.Held.{state_in}
use Rattle.disk_definitions.specs.Picks.{is_in_state, least_in_state, or_else, picked_inode, picked_directory}
use Rattle.disk_definitions.proofs.PickLaws.{in_state}
use Rattle.disk_definitions.specs.Ask.{Sector, DirectoryAt, Ask, Got, ReadInode, ReadDirectory, bind, read_segments, run, looks}
use Rattle.disk_definitions.specs.Walks.{Spot, Found, search, is_vacant, walk}
use Rattle.disk_definitions.specs.Plans.{Hand, Plan, Finish, Room, refused, read_held, room_in, room_at, find_room, finish_in, must_clear, is_full}
use Rattle.disk_definitions.specs.Plans.Plan.{Clears, Finishes}
use Rattle.disk_definitions.specs.Plans.Room.{Inside, InBlock, NoRoom}
use Rattle.disk_definitions.specs.NamePlans.{made_by, making_in, making_with, making, plan_made, linked_by, linking_in, linking_node, linking_to, linking, plan_linked, fewer_segments, finish_over, removed_by, unlinking_node, unlinking, plan_unlinked, removing_node, removing, plan_dir_removed, Moving, moved_onto_by, replacing_node, moving_onto, moved_within, moved_between, moving_in, moving_to, goes_through, renaming_to, renaming, plan_renamed}
use Rattle.disk_definitions.specs.Meets.{IsOfTree, IsHandOf, is_directory_use}
use Rattle.plan_laws.proofs.Asking.{run-bind, run-segments}
use Rattle.plan_laws.proofs.Cases.{inode_by, by_spot}
use Rattle.plan_laws.proofs.Walking.{walks_lead}
use Rattle.line_sectors.specs.Looks.{IsOfDirectory}
use Rattle.line_sectors.proofs.Walks.{AreOfDirectories, then_of, directory_of, walk_of}

pub segments_of : {A : Type 0} (h : Hand) (s : Store) (ks : List ℕ) (p : Ask A) → AreOfDirectories h s (looks p s) → AreOfDirectories h s (looks (read_segments ks p) s)
segments_of h s [] p a = a
segments_of h s (k ∷ ks) p a = (tt, segments_of h s ks p a)

-- ---- a block that a directory takes

module _ (h : Hand) (s : Store) (segments : ℕ) (hand : IsHandOf h s segments) where
  abbrev All : List Sector → Type 0
  All = AreOfDirectories h s

  -- it was a directory's, or it is known to be zero where it needs no clearing
  abbrev pub IsClear : Room → Type 0
  IsClear (Inside slot) = Unit {0}
  IsClear (InBlock k) = must_clear h k ≡ false → IsOfDirectory h s (DirectoryAt k 0)
  IsClear NoRoom = Unit {0}

  known : (k : ℕ) (z : Bool) → state_in h.held k ≡ Some 0 → (is_in_state 0 (state_in h.held k) && not z) ≡ false → z ≡ true
  known k true q c = refl
  known k false q c = absurd (let t : (is_in_state 0 (state_in h.held k) && true) ≡ true = ap (λ o. is_in_state 0 o && true) q in cc)

  picked_clear : (o : Option ℕ) → picked_directory h.held ≡ o → IsClear (room_in o)
  picked_clear None e = tt
  picked_clear (Some k) e = go (least_in_state 2 (state_in h.held)) refl e
    where
      go : (o : Option ℕ) → least_in_state 2 (state_in h.held) ≡ o → or_else o (least_in_state 0 (state_in h.held)) ≡ Some k → must_clear h k ≡ false → IsOfDirectory h s (DirectoryAt k 0)
      go None i f clear = let p = (in_state h.held 0 k f).1 in inr (hand.states k 0 p, known k (h.zeroed k) p clear)
      go (Some c) i f clear = inl (ap is_directory_use (hand.states k 2 (in_state h.held 2 k (i ∙ f)).1))

  room_clear : (x : StoredNode) → IsClear (run (find_room h x) s)
  room_clear x = subst IsClear (sym (run-bind (search x.small is_vacant 0 (8 * x.blocks)) (room_at h x) s)) (at_found (run (search x.small is_vacant 0 (8 * x.blocks)) s))
    where
      by_blocks : (c : Bool) → IsClear (run (if c then read_held h (Got (room_in (picked_directory h.held))) else Got NoRoom) s)
      by_blocks true = subst IsClear (sym (run-segments (keys_of h.held) (Got (room_in (picked_directory h.held))) s)) (picked_clear (picked_directory h.held) refl)
      by_blocks false = tt

      at_found : (o : Option Found) → IsClear (run (room_at h x o) s)
      at_found (Some found) = tt
      at_found None = by_blocks (nat_lt x.blocks 16)

  finish_of : (room : Room) (f : Finish) → IsClear room → All (looks (finish_in h room f) s)
  finish_of (Inside q) f r = tt
  finish_of NoRoom f r = tt
  finish_of (InBlock k) f r = by_clear (must_clear h k) refl
    where
      by_clear : (c : Bool) → must_clear h k ≡ c → All (looks (if c then Got (Clears k f.locks) else ReadDirectory k 0 (λ p. Got (Finishes f))) s)
      by_clear true e = tt
      by_clear false e = (r e, tt)

module _ (h : Hand) (s : Store) (tree : FileTree) (n : Naming) (of : IsOfTree s tree n) (hand : IsHandOf h s tree.segments) where
  abbrev AllOf : List Sector → Type 0
  AllOf = AreOfDirectories h s

  abbrev IsClearFor : Room → Type 0
  IsClearFor = IsClear h s tree.segments hand

  -- one walk, and then a plan by where it leads
  pub walk_then : {A : Type 0} (path : List (List ℕ)) (next : List ℕ → Spot → Ask A) → ((dirs : List ℕ) → AllOf (looks (next dirs (run (walk path) s).spot) s)) → AllOf (looks (bind (walk path) (λ w. next w.dirs w.spot)) s)
  walk_then path next f = then_of h s (walk path) (λ w. next w.dirs w.spot) (walk_of h s tree n of path) (f (run (walk path) s).dirs)

  -- ---- room for an entry
  module _ (d blocks : ℕ) (entries : Entries) (is : node_at tree d ≡ Some (Dir entries blocks)) where
    abbrev x : StoredNode
    x = inode_by n d (Dir entries blocks)

    room_of : AllOf (looks (find_room h x) s)
    room_of = then_of h s (search x.small is_vacant 0 (8 * blocks)) (room_at h x) (directory_of h s tree n of d blocks entries is is_vacant) (at_found (run (search x.small is_vacant 0 (8 * blocks)) s))
      where
        by_blocks : (c : Bool) → AllOf (looks (if c then read_held h (Got (room_in (picked_directory h.held))) else Got NoRoom) s)
        by_blocks true = segments_of h s (keys_of h.held) (Got (room_in (picked_directory h.held))) tt
        by_blocks false = tt

        at_found : (o : Option Found) → AllOf (looks (room_at h x o) s)
        at_found (Some found) = tt
        at_found None = by_blocks (nat_lt blocks 16)

    -- a plan that goes on with room
    room_then : (next : Room → Ask Plan) → ((room : Room) → IsClearFor room → AllOf (looks (next room) s)) → AllOf (looks (bind (find_room h x) next) s)
    room_then next f = then_of h s (find_room h x) next room_of (f (run (find_room h x) s) (room_clear h s tree.segments hand x))

    -- and where the directory is full the plan refuses
    unless_full : (r : Reply) (touched : List ℕ) (next : Room → Ask Plan) → ((room : Room) → IsClearFor room → AllOf (looks (next room) s)) → AllOf (looks (if is_full x then refused r touched else bind (find_room h x) next) s)
    unless_full r touched next f = by_size (is_full x)
      where
        by_size : (c : Bool) → AllOf (looks (if c then refused r touched else bind (find_room h x) next) s)
        by_size true = tt
        by_size false = room_then next f

    -- ---- create, mkdir, symlink
    module _ (name : List ℕ) (birth : ℕ) (node : Node) (dirs : List ℕ) where
      making_room : (j : ℕ) (room : Room) → IsClearFor room → AllOf (looks (making_in h (n.inode d) x name birth node dirs j room) s)
      making_room j NoRoom r = tt
      making_room j (Inside q) r = (tt, tt)
      making_room j (InBlock k) r = (tt, finish_of h s tree.segments hand (InBlock k) (made_by (n.inode d) x name birth node dirs j (InBlock k)) r)

      making_inode : (o : Option ℕ) → AllOf (looks (making_with h (n.inode d) x name birth node dirs o) s)
      making_inode None = tt
      making_inode (Some j) = room_then (making_in h (n.inode d) x name birth node dirs j) (making_room j)

      pub making_gap : AllOf (looks (if is_full x then refused reply.DirFull dirs else read_held h (making_with h (n.inode d) x name birth node dirs (picked_inode h.held))) s)
      making_gap = by_size (is_full x)
        where
          by_size : (c : Bool) → AllOf (looks (if c then refused reply.DirFull dirs else read_held h (making_with h (n.inode d) x name birth node dirs (picked_inode h.held))) s)
          by_size true = tt
          by_size false = segments_of h s (keys_of h.held) (making_with h (n.inode d) x name birth node dirs (picked_inode h.held)) (making_inode (picked_inode h.held))

    -- ---- link
    module _ (name : List ℕ) (j : ℕ) (dirs : List ℕ) where
      linking_room : (y : StoredNode) (room : Room) → IsClearFor room → AllOf (looks (linking_in h (n.inode d) x name j y dirs room) s)
      linking_room y NoRoom r = tt
      linking_room y (Inside q) r = tt
      linking_room y (InBlock k) r = finish_of h s tree.segments hand (InBlock k) (linked_by (n.inode d) x name j y dirs (InBlock k)) r

      pub linking_inode : (o : Option StoredNode) → AllOf (looks (linking_node h (n.inode d) x name j dirs o) s)
      linking_inode None = tt
      linking_inode (Some y) = by_links (nat_le 1000 y.links)
        where
          by_links : (c : Bool) → AllOf (looks (if c then refused reply.MLink (dirs ++ j ∷ []) else (if is_full x then refused reply.DirFull (dirs ++ j ∷ []) else bind (find_room h x) (linking_in h (n.inode d) x name j y dirs))) s)
          by_links true = tt
          by_links false = unless_full reply.DirFull (dirs ++ j ∷ []) (linking_in h (n.inode d) x name j y dirs) (linking_room y)

    -- ---- rename to a name that isn't there
    pub moving_gap : (m : Moving) (name dirs : List ℕ) → AllOf (looks (moving_to h m (n.inode d) x name dirs) s)
    moving_gap m name dirs = by_place (n.inode d == m.dir)
      where
        room : (room : Room) → IsClearFor room → AllOf (looks (moving_in h m (n.inode d) x name dirs room) s)
        room NoRoom r = tt
        room (Inside q) r = tt
        room (InBlock k) r = finish_of h s tree.segments hand (InBlock k) (moved_between m (n.inode d) x name dirs (InBlock k)) r

        by_place : (c : Bool) → AllOf (looks (if c then Got (Finishes (moved_within m name dirs)) else (if is_full x then refused reply.DirFull dirs else bind (find_room h x) (moving_in h m (n.inode d) x name dirs))) s)
        by_place true = tt
        by_place false = unless_full reply.DirFull dirs (moving_in h m (n.inode d) x name dirs) room

  -- ---- the plans
  over_of : (segments : List ℕ) (f : Finish) → AllOf (looks (finish_over segments f) s)
  over_of segments f = segments_of h s segments (Got (Finishes f)) tt

  pub made_of : (birth : ℕ) (node : Node) (path : List (List ℕ)) → AllOf (looks (plan_made h birth node path) s)
  made_of birth node path = walk_then path (making h birth node) (λ dirs. by_spot s (node_at tree) n of.pictures (λ v p. AllOf (looks (making h birth node dirs v) s)) tt (λ r. tt)
      (λ d blocks entries name b is at. tt) (λ d blocks entries name is at. making_gap d blocks entries is name birth node dirs) (run (walk path) s).spot (place tree path) (walks_lead s tree n path of).0)

  pub unlinked_of : (path : List (List ℕ)) → AllOf (looks (plan_unlinked path) s)
  unlinked_of path = walk_then path unlinking (λ dirs. by_spot s (node_at tree) n of.pictures (λ v p. AllOf (looks (unlinking dirs v) s)) tt (λ r. tt)
      (λ d blocks entries name b is at. by_kind dirs d blocks entries name b (n.kind b == 2)) (λ d blocks entries name is at. tt) (run (walk path) s).spot (place tree path) (walks_lead s tree n path of).0)
    where
      node : (dirs : List ℕ) (i : ℕ) (x : StoredNode) (q j : ℕ) (o : Option StoredNode) → AllOf (looks (unlinking_node i x q j dirs o) s)
      node dirs i x q j None = tt
      node dirs i x q j (Some y) = over_of (fewer_segments j y) (removed_by i x q j y dirs)

      by_kind : (dirs : List ℕ) (d blocks : ℕ) (entries : Entries) (name : List ℕ) (b : ℕ) (c : Bool) →
          AllOf (looks (if c then refused reply.IsDir dirs else ReadInode (n.inode b) (unlinking_node (n.inode d) (inode_by n d (Dir entries blocks)) (n.spot d name) (n.inode b) dirs)) s)
      by_kind dirs d blocks entries name b true = tt
      by_kind dirs d blocks entries name b false = (tt, node dirs (n.inode d) (inode_by n d (Dir entries blocks)) (n.spot d name) (n.inode b) (s.inode (n.inode b)))

  pub removed_of : (path : List (List ℕ)) → AllOf (looks (plan_dir_removed path) s)
  removed_of path = walk_then path removing (λ dirs. by_spot s (node_at tree) n of.pictures (λ v p. AllOf (looks (removing dirs v) s)) tt (λ r. tt)
      (λ d blocks entries name b is at. by_kind dirs d blocks entries name b (n.kind b == 2)) (λ d blocks entries name is at. tt) (run (walk path) s).spot (place tree path) (walks_lead s tree n path of).0)
    where
      by_size : (dirs : List ℕ) (i : ℕ) (x : StoredNode) (q j : ℕ) (y : StoredNode) (c : Bool) → AllOf (looks (if c then refused reply.NotEmpty (dirs ++ j ∷ []) else finish_over (fewer_segments j y) (removed_by i x q j y dirs)) s)
      by_size dirs i x q j y true = tt
      by_size dirs i x q j y false = over_of (fewer_segments j y) (removed_by i x q j y dirs)

      node : (dirs : List ℕ) (i : ℕ) (x : StoredNode) (q j : ℕ) (o : Option StoredNode) → AllOf (looks (removing_node i x q j dirs o) s)
      node dirs i x q j None = tt
      node dirs i x q j (Some y) = by_size dirs i x q j y (nat_lt 0 y.size)

      by_kind : (dirs : List ℕ) (d blocks : ℕ) (entries : Entries) (name : List ℕ) (b : ℕ) (c : Bool) →
          AllOf (looks (if c then ReadInode (n.inode b) (removing_node (n.inode d) (inode_by n d (Dir entries blocks)) (n.spot d name) (n.inode b) dirs) else refused reply.NotDir dirs) s)
      by_kind dirs d blocks entries name b false = tt
      by_kind dirs d blocks entries name b true = (tt, node dirs (n.inode d) (inode_by n d (Dir entries blocks)) (n.spot d name) (n.inode b) (s.inode (n.inode b)))

  pub linked_of : (path to : List (List ℕ)) → AllOf (looks (plan_linked h path to) s)
  linked_of path to = walk_then path (linking h to) (λ dirs. by_spot s (node_at tree) n of.pictures (λ v p. AllOf (looks (linking h to dirs v) s)) tt (λ r. tt)
      (λ d blocks entries name b is at. by_kind dirs b (n.kind b == 2)) (λ d blocks entries name is at. tt) (run (walk path) s).spot (place tree path) (walks_lead s tree n path of).0)
    where
      second : (dirs : List ℕ) (b : ℕ) → AllOf (looks (linking_to h (n.inode b) dirs (run (walk to) s).spot) s)
      second dirs b = by_spot s (node_at tree) n of.pictures (λ v p. AllOf (looks (linking_to h (n.inode b) dirs v) s)) tt (λ r. tt) (λ d blocks entries name c is at. tt)
          (λ d blocks entries name is at. (tt, linking_inode d blocks entries is name (n.inode b) dirs (s.inode (n.inode b)))) (run (walk to) s).spot (place tree to) (walks_lead s tree n to of).0

      by_kind : (dirs : List ℕ) (b : ℕ) (c : Bool) → AllOf (looks (if c then refused reply.IsDir dirs else bind (walk to) (λ w. linking_to h (n.inode b) (dirs ++ w.dirs) w.spot)) s)
      by_kind dirs b true = tt
      by_kind dirs b false = walk_then to (λ more v. linking_to h (n.inode b) (dirs ++ more) v) (λ more. second (dirs ++ more) b)

  -- ---- rename onto a name
  module _ (m : Moving) (dirs : List ℕ) (d blocks : ℕ) (entries : Entries) (name : List ℕ) (b : ℕ) where
    abbrev dir : StoredNode
    dir = inode_by n d (Dir entries blocks)

    abbrev replacing : Option StoredNode → Ask Plan
    replacing = replacing_node m (n.inode d) dir name (n.spot d name) (n.inode b) dirs

    by_size : (y : StoredNode) (c : Bool) → AllOf (looks (if c then refused reply.NotEmpty (dirs ++ n.inode b ∷ []) else finish_over (fewer_segments (n.inode b) y) (moved_onto_by m (n.inode d) dir name (n.spot d name) (n.inode b) y dirs)) s)
    by_size y true = tt
    by_size y false = over_of (fewer_segments (n.inode b) y) (moved_onto_by m (n.inode d) dir name (n.spot d name) (n.inode b) y dirs)

    replaced : (o : Option StoredNode) → AllOf (looks (replacing o) s)
    replaced None = tt
    replaced (Some y) = by_size y (y.kind == 2 && nat_lt 0 y.size)

    pub onto_of : (p q r : Bool) → AllOf (looks (if p then refused reply.Ok dirs else (if q then refused reply.NotDir dirs else (if r then refused reply.IsDir dirs else ReadInode (n.inode b) replacing))) s)
    onto_of true q r = tt
    onto_of false true r = tt
    onto_of false false true = tt
    onto_of false false false = (tt, replaced (s.inode (n.inode b)))

  renaming_of : (m : Moving) (to_dirs dirs : List ℕ) (to : List (List ℕ)) → AllOf (looks (renaming_to h m to_dirs dirs (run (walk to) s).spot) s)
  renaming_of m to_dirs dirs to = by_spot s (node_at tree) n of.pictures (λ v p. AllOf (looks (renaming_to h m to_dirs dirs v) s)) tt (λ r. tt)
      (λ d blocks entries name b is at. onto (goes_through m to_dirs) d blocks entries name b)
      (λ d blocks entries name is at. gap (goes_through m to_dirs) d blocks entries name is) (run (walk to) s).spot (place tree to) (walks_lead s tree n to of).0
    where
      onto : (c : Bool) (d blocks : ℕ) (entries : Entries) (name : List ℕ) (b : ℕ) →
          AllOf (looks (if c then refused reply.Inval dirs else moving_onto m (n.inode d) (inode_by n d (Dir entries blocks)) name (n.spot d name) (entry_of n name b) dirs) s)
      onto true d blocks entries name b = tt
      onto false d blocks entries name b = onto_of m dirs d blocks entries name b (n.inode b == m.entry.inode) (m.entry.kind == 2 && not (n.kind b == 2)) (n.kind b == 2 && not (m.entry.kind == 2))

      gap : (c : Bool) (d blocks : ℕ) (entries : Entries) (name : List ℕ) → node_at tree d ≡ Some (Dir entries blocks) → AllOf (looks (if c then refused reply.Inval dirs else moving_to h m (n.inode d) (inode_by n d (Dir entries blocks)) name dirs) s)
      gap true d blocks entries name is = tt
      gap false d blocks entries name is = moving_gap d blocks entries is m name dirs

  pub renamed_of : (path to : List (List ℕ)) → AllOf (looks (plan_renamed h path to) s)
  renamed_of [] to = tt
  renamed_of (name ∷ names) [] = tt
  renamed_of (name ∷ names) (new ∷ news) = walk_then (name ∷ names) (renaming h (new ∷ news)) (λ dirs. by_spot s (node_at tree) n of.pictures (λ v p. AllOf (looks (renaming h (new ∷ news) dirs v) s)) tt (λ r. tt)
      (λ d blocks entries u b is at. walk_then (new ∷ news) (λ more v. renaming_to h (record { dir = n.inode d; directory = inode_by n d (Dir entries blocks); slot = n.spot d u; entry = entry_of n u b }) more (dirs ++ more) v)
      (λ more. renaming_of (record { dir = n.inode d; directory = inode_by n d (Dir entries blocks); slot = n.spot d u; entry = entry_of n u b }) more (dirs ++ more) (new ∷ news)))
      (λ d blocks entries u is at. tt) (run (walk (name ∷ names)) s).spot (place tree (name ∷ names)) (walks_lead s tree n (name ∷ names) of).0)

-- What the reply of a finished plan tells of its locks: of `ok` the nodes that change are held alone.
use Rattle.std.proofs.Common.{ℕ, ◌≡◌, ◌/◌, ◌==◌, ◌&&◌, not, ⊎_elim, Bool, true, false, nat_le, nat_lt, if◌then◌else◌, Option, Some, None, List, [], ◌∷◌, ◌++◌, refl, sym, ◌∙◌, subst, eqb-true}
use Rattle.std.proofs.lemmas.List.Elements.{Contains-append_left, Contains-append_right}
use Rattle.std.specs.List.{Contains}
use Rattle.std.specs.Map.{keys_of}
use Rattle.frang_base.specs.declared.lock.LockId.TheVariants as lock
use Rattle.frang_base.specs.declared.lock.Mode.TheVariants.{Sole}
use Rattle.frang_base.specs.declared.reply.Reply.{Reply}
use Rattle.frang_base.specs.declared.reply.Reply.TheVariants as reply
use Rattle.tree_definitions.specs.declared.node.Node.{Node}
use Rattle.tree_definitions.specs.Touched.{is_ok}
use Rattle.disk_definitions.specs.Store.{Store, StoredNode, StoredEntry}
use Rattle.disk_definitions.specs.Picks.{picked_inode}
use Rattle.disk_definitions.specs.Ask.{Got, ReadInode, ReadDirectory, bind, run}
use Rattle.disk_definitions.specs.Walks.{Spot, walk}
use Rattle.disk_definitions.specs.Walks.Spot.{AtRoot, AtName, AtGap, Lost}
use Rattle.disk_definitions.specs.Plans.{Hand, Plan, Finish, Room, refuse, refused, none_left, read_held, find_room, finish_in, must_clear, room_segments, is_full, shared_nodes, sole_nodes, sole_segments}
use Rattle.disk_definitions.specs.Plans.Plan.{Lacks, Clears, Finishes}
use Rattle.disk_definitions.specs.Plans.Room.{Inside, InBlock, NoRoom}
use Rattle.disk_definitions.specs.NamePlans.{made_by, making_in, making_with, making, plan_made, linked_by, linking_in, linking_node, linking_to, linking, fewer_segments, finish_over, removed_by, unlinking_node, unlinking, plan_unlinked, removing_node, removing, plan_dir_removed, Moving, moved_onto_by, replacing_node, moving_onto, moved_within, moved_between, moving_in, moving_to, goes_through, renaming_to, renaming}
use Rattle.plan_laws.proofs.Asking.{run-bind, run-segments}
use Rattle.plan_laws.specs.Locks.{IsSole}
use Rattle.plan_laws.proofs.Covering.{has_head, has_cases, node_sole, not_in_none}
use Rattle.plan_laws.specs.Covers.{IsHeld}
use Rattle.plan_laws.proofs.Fine.{only_held, shared_held}
use Rattle.plan_laws.proofs.Targets.{is_kind, spot_target, gap_dir, name_nodes, link_changed, rename_changed}
use Rattle.plan_laws.proofs.Quiet.{IsQuiet, walk_quiet}

-- of a finished plan
abbrev pub Tells : (Finish → Type 0) → Plan → Type 0
Tells P Lacks = Unit {0}
Tells P (Clears k locks) = Unit {0}
Tells P (Finishes f) = P f

pub tells_map : {P Q : Finish → Type 0} (v : Plan) → ((f : Finish) → P f → Q f) → Tells P v → Tells Q v
tells_map Lacks g t = tt
tells_map (Clears k locks) g t = tt
tells_map (Finishes f) g t = g f t

-- where these replies are said these nodes are held alone, or held
abbrev pub Alone : List ℕ → Finish → Type 0
Alone js f = is_ok f.reply ≡ true → (j : ℕ) → Contains js j → IsSole f.locks (lock.Node j)

abbrev pub Held : (Reply → Bool) → List ℕ → Finish → Type 0
Held wants js f = wants f.reply ≡ true → (j : ℕ) → Contains js j → IsHeld f.locks (lock.Node j)

-- replies of a link and of a rename by which a further node is held
abbrev pub has_linked : Reply → Bool
has_linked reply.MLink = true
has_linked reply.DirFull = true
has_linked reply.NoDirBlock = true
has_linked _ = false

abbrev pub is_not_empty : Reply → Bool
is_not_empty reply.NotEmpty = true
is_not_empty _ = false

pub empty_alone : (v : Plan) → Tells (Alone []) v
empty_alone Lacks = tt
empty_alone (Clears k locks) = tt
empty_alone (Finishes f) = λ ok j c. absurd (not_in_none j c)

pub refuse_alone : (js : List ℕ) (r : Reply) (touched : List ℕ) → is_ok r ≡ false → Tells (Alone js) (refuse r touched)
refuse_alone js r touched e = λ ok j c. absurd (cc)

pub none_alone : (h : Hand) (s : Store) (js : List ℕ) (r : Reply) (touched : List ℕ) → is_ok r ≡ false → Tells (Alone js) (run (none_left h r touched) s)
none_alone h s js r touched e = go h.all
  where
    go : (b : Bool) → Tells (Alone js) (run (Got (if b then Finishes (record { reply = r; edits = []; locks = shared_nodes touched ++ sole_segments (keys_of h.held) }) else Lacks)) s)
    go true = λ ok j c. absurd (cc)
    go false = tt

module _ (h : Hand) (s : Store) where
  tells_in : (P : Finish → Type 0) (room : Room) (f : Finish) → P f → Tells P (run (finish_in h room f) s)
  tells_in P NoRoom f p = p
  tells_in P (Inside q) f p = p
  tells_in P (InBlock k) f p = go (must_clear h k)
    where
      go : (b : Bool) → Tells P (run (if b then Got (Clears k f.locks) else ReadDirectory k 0 (λ x. Got (Finishes f))) s)
      go true = tt
      go false = p

  -- ---- create, mkdir, symlink
  module _ (i : ℕ) (x : StoredNode) (name : List ℕ) (birth : ℕ) (node : Node) (dirs : List ℕ) where
    made_alone : (j : ℕ) (room : Room) → Alone (i ∷ []) (made_by i x name birth node dirs j room)
    made_alone j room ok k c = node_sole (shared_nodes dirs) (i ∷ j ∷ []) (sole_segments ((j / 64) ∷ room_segments room)) k (Contains-append_left (i ∷ []) (j ∷ []) k c)

    making_in_alone : (j : ℕ) (room : Room) → Tells (Alone (i ∷ [])) (run (making_in h i x name birth node dirs j room) s)
    making_in_alone j NoRoom = none_alone h s (i ∷ []) reply.NoDirBlock dirs refl
    making_in_alone j (Inside q) = made_alone j (Inside q)
    making_in_alone j (InBlock k) = tells_in (Alone (i ∷ [])) (InBlock k) (made_by i x name birth node dirs j (InBlock k)) (made_alone j (InBlock k))

    making_with_alone : (o : Option ℕ) → Tells (Alone (i ∷ [])) (run (making_with h i x name birth node dirs o) s)
    making_with_alone None = none_alone h s (i ∷ []) reply.NoInode dirs refl
    making_with_alone (Some j) = rw (run-bind (find_room h x) (making_in h i x name birth node dirs j) s) (making_in_alone j (run (find_room h x) s))

  making_alone : (birth : ℕ) (node : Node) (dirs : List ℕ) (v : Spot) → Tells (Alone (gap_dir v)) (run (making h birth node dirs v) s)
  making_alone birth node dirs AtRoot = empty_alone (refuse reply.Exist dirs)
  making_alone birth node dirs (Lost r) = empty_alone (refuse r dirs)
  making_alone birth node dirs (AtName i x name q e) = empty_alone (refuse reply.Exist dirs)
  making_alone birth node dirs (AtGap i x name) = go (is_full x)
    where
      go : (b : Bool) → Tells (Alone (i ∷ [])) (run (if b then refused reply.DirFull dirs else read_held h (making_with h i x name birth node dirs (picked_inode h.held))) s)
      go true = refuse_alone (i ∷ []) reply.DirFull dirs refl
      go false = rw (run-segments (keys_of h.held) (making_with h i x name birth node dirs (picked_inode h.held)) s) (making_with_alone i x name birth node dirs (picked_inode h.held))

  pub made_path_alone : (birth : ℕ) (node : Node) (path : List (List ℕ)) → Tells (Alone (gap_dir (run (walk path) s).spot)) (run (plan_made h birth node path) s)
  made_path_alone birth node path = let w = run (walk path) s in rw (run-bind (walk path) (λ w. making h birth node w.dirs w.spot) s) (making_alone birth node w.dirs w.spot)

  -- ---- link: the node is held too where its links or the new name's directory are full
  pub record LinkTells (j : ℕ) (v : Spot) (f : Finish) : Type 0 where
    pub alone : Alone (link_changed j v) f
    pub held : Held has_linked (j ∷ []) f

  quiet_link : (j : ℕ) (v : Spot) (r : Reply) (touched : List ℕ) → is_ok r ≡ false → has_linked r ≡ false → Tells (LinkTells j v) (refuse r touched)
  quiet_link j v r touched a b = record { alone = refuse_alone (link_changed j v) r touched a; held = λ e. absurd (cc) }

  held_link : (j : ℕ) (v : Spot) (r : Reply) (dirs : List ℕ) → is_ok r ≡ false → Tells (LinkTells j v) (refuse r (dirs ++ j ∷ []))
  held_link j v r dirs a = record { alone = refuse_alone (link_changed j v) r (dirs ++ j ∷ []) a; held = λ e i c. only_held (dirs ++ j ∷ []) i (Contains-append_right dirs (j ∷ []) i c) }

  module _ (i : ℕ) (x : StoredNode) (name : List ℕ) (j : ℕ) (y : StoredNode) (dirs : List ℕ) where
    abbrev L : Finish → Type 0
    L = LinkTells j (AtGap i x name)

    linked_tells : (room : Room) → L (linked_by i x name j y dirs room)
    linked_tells room = record { alone = λ ok k c. node_sole (shared_nodes dirs) (i ∷ j ∷ []) (sole_segments (room_segments room)) k c; held = λ e. absurd (cc) }

    linking_in_tells : (room : Room) → Tells L (run (linking_in h i x name j y dirs room) s)
    linking_in_tells (Inside q) = linked_tells (Inside q)
    linking_in_tells (InBlock k) = tells_in L (InBlock k) (linked_by i x name j y dirs (InBlock k)) (linked_tells (InBlock k))
    linking_in_tells NoRoom = go h.all
      where
        go : (b : Bool) → Tells L (run (Got (if b then Finishes (record { reply = reply.NoDirBlock; edits = []; locks = shared_nodes (dirs ++ j ∷ []) ++ sole_segments (keys_of h.held) }) else Lacks)) s)
        go true = record { alone = λ ok. absurd (cc); held = λ e k c. shared_held (dirs ++ j ∷ []) (sole_segments (keys_of h.held)) k (Contains-append_right dirs (j ∷ []) k c) }
        go false = tt

  linking_node_tells : (i : ℕ) (x : StoredNode) (name : List ℕ) (j : ℕ) (dirs : List ℕ) (o : Option StoredNode) → Tells (LinkTells j (AtGap i x name)) (run (linking_node h i x name j dirs o) s)
  linking_node_tells i x name j dirs None = quiet_link j (AtGap i x name) reply.NoEnt dirs refl refl
  linking_node_tells i x name j dirs (Some y) = go (nat_le 1000 y.links) (is_full x)
    where
      go : (a b : Bool) → Tells (LinkTells j (AtGap i x name)) (run (if a then refused reply.MLink (dirs ++ j ∷ []) else (if b then refused reply.DirFull (dirs ++ j ∷ []) else bind (find_room h x) (linking_in h i x name j y dirs))) s)
      go true b = held_link j (AtGap i x name) reply.MLink dirs refl
      go false true = held_link j (AtGap i x name) reply.DirFull dirs refl
      go false false = rw (run-bind (find_room h x) (linking_in h i x name j y dirs) s) (linking_in_tells i x name j y dirs (run (find_room h x) s))

  linking_to_tells : (j : ℕ) (dirs : List ℕ) (v : Spot) → IsQuiet has_linked refl refl v → IsQuiet is_ok refl refl v → Tells (LinkTells j v) (run (linking_to h j dirs v) s)
  linking_to_tells j dirs AtRoot a b = quiet_link j AtRoot reply.Exist dirs refl refl
  linking_to_tells j dirs (Lost r) a b = quiet_link j (Lost r) r dirs b a
  linking_to_tells j dirs (AtName i x name q e) a b = quiet_link j (AtName i x name q e) reply.Exist dirs refl refl
  linking_to_tells j dirs (AtGap i x name) a b = linking_node_tells i x name j dirs (s.inode j)

  -- of a node that is no directory
  pub linking_tells : (to : List (List ℕ)) (dirs : List ℕ) (i : ℕ) (x : StoredNode) (name : List ℕ) (q : ℕ) (e : StoredEntry) → Tells (LinkTells e.inode (run (walk to) s).spot) (run (linking h to dirs (AtName i x name q e)) s)
  linking_tells to dirs i x name q e = go (e.kind == 2)
    where
      go : (b : Bool) → Tells (LinkTells e.inode (run (walk to) s).spot) (run (if b then refused reply.IsDir dirs else bind (walk to) (λ w. linking_to h e.inode (dirs ++ w.dirs) w.spot)) s)
      go true = quiet_link e.inode (run (walk to) s).spot reply.IsDir dirs refl refl
      go false = let w = run (walk to) s in
          rw (run-bind (walk to) (λ w. linking_to h e.inode (dirs ++ w.dirs) w.spot) s) (linking_to_tells e.inode (dirs ++ w.dirs) w.spot (walk_quiet has_linked refl refl s to) (walk_quiet is_ok refl refl s to))

  -- ---- unlink, rmdir
  removed_alone : (i : ℕ) (x : StoredNode) (q j : ℕ) (y : StoredNode) (dirs : List ℕ) → Tells (Alone (i ∷ j ∷ [])) (run (finish_over (fewer_segments j y) (removed_by i x q j y dirs)) s)
  removed_alone i x q j y dirs = rw (run-segments (fewer_segments j y) (Got (Finishes (removed_by i x q j y dirs))) s) (λ ok k c. node_sole (shared_nodes dirs) (i ∷ j ∷ []) (sole_segments (fewer_segments j y)) k c)

  unlinking_node_alone : (i : ℕ) (x : StoredNode) (q j : ℕ) (dirs : List ℕ) (o : Option StoredNode) → Tells (Alone (i ∷ j ∷ [])) (run (unlinking_node i x q j dirs o) s)
  unlinking_node_alone i x q j dirs None = refuse_alone (i ∷ j ∷ []) reply.NoEnt dirs refl
  unlinking_node_alone i x q j dirs (Some y) = removed_alone i x q j y dirs

  unlinking_alone : (dirs : List ℕ) (v : Spot) → Tells (Alone (name_nodes v)) (run (unlinking dirs v) s)
  unlinking_alone dirs AtRoot = empty_alone (refuse reply.IsDir dirs)
  unlinking_alone dirs (Lost r) = empty_alone (refuse r dirs)
  unlinking_alone dirs (AtGap i x name) = empty_alone (refuse reply.NoEnt dirs)
  unlinking_alone dirs (AtName i x name q e) = go (e.kind == 2)
    where
      go : (b : Bool) → Tells (Alone (i ∷ e.inode ∷ [])) (run (if b then refused reply.IsDir dirs else ReadInode e.inode (unlinking_node i x q e.inode dirs)) s)
      go true = refuse_alone (i ∷ e.inode ∷ []) reply.IsDir dirs refl
      go false = unlinking_node_alone i x q e.inode dirs (s.inode e.inode)

  pub unlink_alone : (path : List (List ℕ)) → Tells (Alone (name_nodes (run (walk path) s).spot)) (run (plan_unlinked path) s)
  unlink_alone path = let w = run (walk path) s in rw (run-bind (walk path) (λ w. unlinking w.dirs w.spot) s) (unlinking_alone w.dirs w.spot)

  removing_node_alone : (i : ℕ) (x : StoredNode) (q j : ℕ) (dirs : List ℕ) (o : Option StoredNode) → Tells (Alone (i ∷ j ∷ [])) (run (removing_node i x q j dirs o) s)
  removing_node_alone i x q j dirs None = refuse_alone (i ∷ j ∷ []) reply.NoEnt dirs refl
  removing_node_alone i x q j dirs (Some y) = go (nat_lt 0 y.size)
    where
      go : (b : Bool) → Tells (Alone (i ∷ j ∷ [])) (run (if b then refused reply.NotEmpty (dirs ++ j ∷ []) else finish_over (fewer_segments j y) (removed_by i x q j y dirs)) s)
      go true = refuse_alone (i ∷ j ∷ []) reply.NotEmpty (dirs ++ j ∷ []) refl
      go false = removed_alone i x q j y dirs

  removing_alone : (dirs : List ℕ) (v : Spot) → Tells (Alone (name_nodes v)) (run (removing dirs v) s)
  removing_alone dirs AtRoot = empty_alone (refuse reply.Inval dirs)
  removing_alone dirs (Lost r) = empty_alone (refuse r dirs)
  removing_alone dirs (AtGap i x name) = empty_alone (refuse reply.NoEnt dirs)
  removing_alone dirs (AtName i x name q e) = go (e.kind == 2)
    where
      go : (b : Bool) → Tells (Alone (i ∷ e.inode ∷ [])) (run (if b then ReadInode e.inode (removing_node i x q e.inode dirs) else refused reply.NotDir dirs) s)
      go false = refuse_alone (i ∷ e.inode ∷ []) reply.NotDir dirs refl
      go true = removing_node_alone i x q e.inode dirs (s.inode e.inode)

  pub rmdir_alone : (path : List (List ℕ)) → Tells (Alone (name_nodes (run (walk path) s).spot)) (run (plan_dir_removed path) s)
  rmdir_alone path = let w = run (walk path) s in rw (run-bind (walk path) (λ w. removing w.dirs w.spot) s) (removing_alone w.dirs w.spot)

  -- ---- rename: a directory that isn't empty is held too
  pub record RenameTells (m : Moving) (v : Spot) (f : Finish) : Type 0 where
    pub alone : Alone (rename_changed m v) f
    pub held : Held is_not_empty (spot_target (is_kind 2) v) f

  module _ (m : Moving) where
    quiet_rename : (v : Spot) (r : Reply) (touched : List ℕ) → is_ok r ≡ false → is_not_empty r ≡ false → Tells (RenameTells m v) (refuse r touched)
    quiet_rename v r touched a b = record { alone = refuse_alone (rename_changed m v) r touched a; held = λ e. absurd (cc) }

    -- onto another node
    record Onto (i j : ℕ) (f : Finish) : Type 0 where
      alone : Alone (m.dir ∷ i ∷ j ∷ []) f
      held : Held is_not_empty (j ∷ []) f

    replacing_tells : (i : ℕ) (x : StoredNode) (name : List ℕ) (q j : ℕ) (dirs : List ℕ) (o : Option StoredNode) → Tells (Onto i j) (run (replacing_node m i x name q j dirs o) s)
    replacing_tells i x name q j dirs None = record { alone = refuse_alone (m.dir ∷ i ∷ j ∷ []) reply.NoEnt dirs refl; held = λ e. absurd (cc) }
    replacing_tells i x name q j dirs (Some y) = go (y.kind == 2 && nat_lt 0 y.size)
      where
        go : (b : Bool) → Tells (Onto i j) (run (if b then refused reply.NotEmpty (dirs ++ j ∷ []) else finish_over (fewer_segments j y) (moved_onto_by m i x name q j y dirs)) s)
        go true = record { alone = refuse_alone (m.dir ∷ i ∷ j ∷ []) reply.NotEmpty (dirs ++ j ∷ []) refl; held = λ e k c. only_held (dirs ++ j ∷ []) k (Contains-append_right dirs (j ∷ []) k c) }
        go false = rw (run-segments (fewer_segments j y) (Got (Finishes (moved_onto_by m i x name q j y dirs))) s)
            (record { alone = λ ok k c. node_sole (shared_nodes dirs) (m.dir ∷ i ∷ j ∷ []) (sole_segments (fewer_segments j y)) k c; held = λ e. absurd (cc) })

    among : (b : Bool) (j k : ℕ) → Contains (if b then j ∷ [] else []) k → Contains (j ∷ []) k
    among true j k c = c
    among false j k c = absurd (not_in_none k c)

    as_spot : (i : ℕ) (x : StoredNode) (name : List ℕ) (q : ℕ) (e : StoredEntry) (v : Plan) → e.inode == m.entry.inode ≡ false → Tells (Onto i e.inode) v → Tells (RenameTells m (AtName i x name q e)) v
    as_spot i x name q e Lacks f t = tt
    as_spot i x name q e (Clears k locks) f t = tt
    as_spot i x name q e (Finishes g) f t = record { alone = rw f t.alone; held = λ n k c. t.held n k (among (is_kind 2 e.kind) e.inode k c) }

    moving_onto_tells : (i : ℕ) (x : StoredNode) (name : List ℕ) (q : ℕ) (e : StoredEntry) (dirs : List ℕ) → Tells (RenameTells m (AtName i x name q e)) (run (moving_onto m i x name q e dirs) s)
    moving_onto_tells i x name q e dirs = go (e.inode == m.entry.inode) refl (m.entry.kind == 2 && not (e.kind == 2)) (e.kind == 2 && not (m.entry.kind == 2))
      where
        go : (a : Bool) → e.inode == m.entry.inode ≡ a → (b c : Bool) → Tells (RenameTells m (AtName i x name q e)) (run (if a then refused reply.Ok dirs else (if b then refused reply.NotDir dirs else (if c then refused reply.IsDir dirs else ReadInode e.inode (replacing_node m i x name q e.inode dirs)))) s)
        go true p b c = record { alone = rw p (λ ok k d. absurd (not_in_none k d)); held = λ n. absurd (cc) }
        go false p true c = quiet_rename (AtName i x name q e) reply.NotDir dirs refl refl
        go false p false true = quiet_rename (AtName i x name q e) reply.IsDir dirs refl refl
        go false p false false = as_spot i x name q e (run (replacing_node m i x name q e.inode dirs (s.inode e.inode)) s) p (replacing_tells i x name q e.inode dirs (s.inode e.inode))

    moving_in_alone : (i : ℕ) (x : StoredNode) (name dirs : List ℕ) (room : Room) → Tells (Alone (m.dir ∷ i ∷ [])) (run (moving_in h m i x name dirs room) s)
    moving_in_alone i x name dirs NoRoom = none_alone h s (m.dir ∷ i ∷ []) reply.NoDirBlock dirs refl
    moving_in_alone i x name dirs (Inside q) = λ ok k c. node_sole (shared_nodes dirs) (m.dir ∷ i ∷ []) (sole_segments (room_segments (Inside q))) k c
    moving_in_alone i x name dirs (InBlock b) = tells_in (Alone (m.dir ∷ i ∷ [])) (InBlock b) (moved_between m i x name dirs (InBlock b)) (λ ok k c. node_sole (shared_nodes dirs) (m.dir ∷ i ∷ []) (sole_segments (room_segments (InBlock b))) k c)

    moving_to_alone : (i : ℕ) (x : StoredNode) (name dirs : List ℕ) → Tells (Alone (m.dir ∷ i ∷ [])) (run (moving_to h m i x name dirs) s)
    moving_to_alone i x name dirs = go (i == m.dir) refl (is_full x)
      where
        both : IsSole (moved_within m name dirs).locks (lock.Node m.dir) → i ≡ m.dir → (k : ℕ) → Contains (m.dir ∷ i ∷ []) k → IsSole (moved_within m name dirs).locks (lock.Node k)
        both own e k c = ⊎_elim (λ p. subst (λ z. IsSole (moved_within m name dirs).locks (lock.Node z)) p own)
            (λ d. ⊎_elim (λ p. subst (λ z. IsSole (moved_within m name dirs).locks (lock.Node z)) (sym e ∙ p) own) (λ g. absurd (not_in_none k g)) (has_cases i k [] d)) (has_cases m.dir k (i ∷ []) c)

        go : (a : Bool) → i == m.dir ≡ a → (b : Bool) → Tells (Alone (m.dir ∷ i ∷ [])) (run (if a then Got (Finishes (moved_within m name dirs)) else (if b then refused reply.DirFull dirs else bind (find_room h x) (moving_in h m i x name dirs))) s)
        go true p b = λ ok k c. both (Contains-append_right (shared_nodes dirs) (sole_nodes (m.dir ∷ [])) (lock.Node m.dir, Sole) (has_head (lock.Node m.dir, Sole) [])) (eqb-true i m.dir p) k c
        go false p true = refuse_alone (m.dir ∷ i ∷ []) reply.DirFull dirs refl
        go false p false = rw (run-bind (find_room h x) (moving_in h m i x name dirs) s) (moving_in_alone i x name dirs (run (find_room h x) s))

    as_gap : (i : ℕ) (x : StoredNode) (name : List ℕ) (v : Plan) → Tells (Alone (m.dir ∷ i ∷ [])) v → Tells (RenameTells m (AtGap i x name)) v
    as_gap i x name Lacks t = tt
    as_gap i x name (Clears k locks) t = tt
    as_gap i x name (Finishes g) t = record { alone = t; held = λ n k c. absurd (not_in_none k c) }

    renaming_to_tells : (to_dirs dirs : List ℕ) (v : Spot) → Tells (RenameTells m v) (run (renaming_to h m to_dirs dirs v) s)
    renaming_to_tells to_dirs dirs AtRoot = quiet_rename AtRoot reply.Inval dirs refl refl
    renaming_to_tells to_dirs dirs (Lost r) = record { alone = λ ok k c. absurd (not_in_none k c); held = λ n k c. absurd (not_in_none k c) }
    renaming_to_tells to_dirs dirs (AtName i x name q e) = go (goes_through m to_dirs)
      where
        go : (b : Bool) → Tells (RenameTells m (AtName i x name q e)) (run (if b then refused reply.Inval dirs else moving_onto m i x name q e dirs) s)
        go true = quiet_rename (AtName i x name q e) reply.Inval dirs refl refl
        go false = moving_onto_tells i x name q e dirs
    renaming_to_tells to_dirs dirs (AtGap i x name) = go (goes_through m to_dirs)
      where
        go : (b : Bool) → Tells (RenameTells m (AtGap i x name)) (run (if b then refused reply.Inval dirs else moving_to h m i x name dirs) s)
        go true = quiet_rename (AtGap i x name) reply.Inval dirs refl refl
        go false = as_gap i x name (run (moving_to h m i x name dirs) s) (moving_to_alone i x name dirs)

  pub renaming_tells : (to : List (List ℕ)) (dirs : List ℕ) (i : ℕ) (x : StoredNode) (name : List ℕ) (q : ℕ) (e : StoredEntry) →
      Tells (RenameTells (record { dir = i; directory = x; slot = q; entry = e }) (run (walk to) s).spot) (run (renaming h to dirs (AtName i x name q e)) s)
  renaming_tells to dirs i x name q e =
      let m : Moving = record { dir = i; directory = x; slot = q; entry = e } in
      let w = run (walk to) s in
      rw (run-bind (walk to) (λ w. renaming_to h m w.dirs (dirs ++ w.dirs) w.spot) s) (renaming_to_tells m w.dirs (dirs ++ w.dirs) w.spot)

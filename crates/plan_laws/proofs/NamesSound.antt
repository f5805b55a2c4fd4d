-- The edits of the plans of the operations on names but rename are sound, over the disk of a tree.
use Rattle.std.proofs.Common.{ℕ, ◌≡◌, ◌≢◌, ◌<◌, ◌+◌, ◌==◌, ⊎_elim, Bool, true, false, nat_lt, nat_le, nat_eq, if◌then◌else◌, Option, Some, None, List, [], ◌∷◌, ◌++◌, length, refl, sym, ◌∙◌, ap, subst, arith}
use Rattle.std.specs.Option.{option_or}
use Rattle.std.specs.Map.{keys_of}
use Rattle.std.proofs.lemmas.Bool.{cases_eq, eqb-true}
use Rattle.frang_base.specs.declared.reply.Reply.{Reply}
use Rattle.frang_base.specs.declared.reply.Reply.TheVariants as reply
use Rattle.frang_base.proofs.Basics.{put_same, put_other}
use Rattle.tree_definitions.specs.declared.node.Node.{Node}
use Rattle.tree_definitions.specs.declared.node.Node.TheVariants.{Dir, File, Link}
use Rattle.tree_definitions.specs.Tree.{small_blocks_of}
use Rattle.disk_definitions.specs.Store.{Store, StoredNode, StoredEntry, Use}
use Rattle.disk_definitions.specs.Store.Use.{Entries}
use Rattle.disk_definitions.specs.Naming.{Naming, Nodes, Pictures, inode_of, inode_for, kind_of}
use Rattle.disk_definitions.specs.Picks.{picked_inode}
use Rattle.disk_definitions.specs.Edits.{Edit, edited_all}
use Rattle.disk_definitions.specs.Changes.{new_node, take_entry, relink}
use Rattle.disk_definitions.specs.ChangeLaws.{IsBare}
use Rattle.disk_definitions.proofs.Puts.{edited_append}
use Rattle.disk_definitions.specs.Ask.{Ask, Got, ReadInode, ReadDirectory, bind, run}
use Rattle.disk_definitions.specs.Walks.{Spot, walk}
use Rattle.disk_definitions.specs.Walks.Spot.{AtRoot, AtName, AtGap, Lost}
use Rattle.disk_definitions.specs.Plans.{Hand, Plan, Finish, Room, enter, refused, none_left, read_held, find_room, finish_in, must_clear, is_full}
use Rattle.disk_definitions.specs.Plans.Plan.{Lacks, Clears, Finishes}
use Rattle.disk_definitions.specs.Plans.Room.{Inside, InBlock, NoRoom}
use Rattle.disk_definitions.specs.NamePlans.{made_by, making_in, making_with, making, plan_made, linked_by, linking_in, linking_node, linking_to, linking, plan_linked, fewer, fewer_segments, finish_over, removed_by, unlinking_node, unlinking, plan_unlinked, removing_node, removing, plan_dir_removed}
use Rattle.plan_laws.proofs.Asking.{run-bind, run-segments}
use Rattle.plan_laws.proofs.Standing.{DiskStands}
use Rattle.plan_laws.proofs.WalksFine.{RoomStands, room_stands, SpotStands, walk_stands}
use Rattle.plan_laws.proofs.RoomsFine.{wider}
use Rattle.disk_definitions.specs.Moves.{first_said, bit_said, use_said, large_said}
use Rattle.plan_laws.proofs.Joining.{AreSound, AreApart, joined, quiet_then, no_some}
use Rattle.plan_laws.proofs.OneNode.{not_small_of}
use Rattle.plan_laws.proofs.Sound.{StandsFor, IsNobodys, IsFreeRoom, KeepsBlocks, none_sound, take_sound, relink_sound, new_sound, enter_sound}
use Rattle.plan_laws.proofs.OnDisk.{itself, taken_same, relinked_same, nobodys, stands_for, free_room, may_go, fewer_sound, fewer_frees, before_freeing}

-- where the plan finishes, its edits are sound
abbrev pub IsSoundPlan : Store → Plan → Type 0
IsSoundPlan s Lacks = Unit {0}
IsSoundPlan s (Clears k locks) = Unit {0}
IsSoundPlan s (Finishes f) = AreSound s (edited_all s f.edits) f.edits

abbrev pub Ends : Store → Ask Plan → Type 0
Ends s p = IsSoundPlan s (run p s)

-- one list of edits and then another, each over the store that it finds
pub then_sound : (s : Store) (es fs : List Edit) → AreSound s (edited_all s es) es → AreSound (edited_all s es) (edited_all (edited_all s es) fs) fs → AreApart es fs → AreSound s (edited_all s (es ++ fs)) (es ++ fs)
then_sound s es fs a b apart =
    let t = edited_all s es in
    subst (λ z. AreSound s z (es ++ fs)) (sym (edited_append s es fs)) (joined s t (edited_all t fs) es fs a b apart)

-- ---- what an entry that comes says

module _ (i : ℕ) (x : StoredNode) (e : StoredEntry) where
  pub enter_bits : (room : Room) (a : ℕ) → first_said (bit_said a) (enter i x e room) ≡ None
  enter_bits (Inside q) a = refl
  enter_bits (InBlock k) a = refl
  enter_bits NoRoom a = refl

  pub enter_larges : (room : Room) (g : ℕ) → first_said (large_said g) (enter i x e room) ≡ None
  enter_larges (Inside q) g = refl
  enter_larges (InBlock k) g = refl
  enter_larges NoRoom g = refl

  pub enter_uses : (room : Room) (a : ℕ) (u : Use) → first_said (use_said a) (enter i x e room) ≡ Some u → room ≡ InBlock a
  enter_uses (Inside q) a u f = absurd (cc)
  enter_uses NoRoom a u f = absurd (cc)
  enter_uses (InBlock k) a u f = go (nat_eq a k) refl f
    where
      go : (b : Bool) → nat_eq a k ≡ b → option_or (if b then Some Entries else None) None ≡ Some u → InBlock k ≡ InBlock a
      go true q f = ap InBlock (sym (eqb-true a k q))
      go false q f = absurd (cc)

-- ---- a new node has no blocks

bare_blocks : (stamp : ℕ) (node : Node) → IsBare node → (inode_of stamp (λ j. 0) 0 node).blocks ≡ 0
bare_blocks stamp (Dir entries blocks) b = b.1
bare_blocks stamp (File cells links when) b = ap (λ c. small_blocks_of (length c)) b
bare_blocks stamp (Link target links) b = refl

module _ (h : Hand) (s : Store) (at : Nodes) (n : Naming) (g : Pictures s at n) (disk : DiskStands h s n) where
  pub none_ends : (r : Reply) (touched : List ℕ) → Ends s (none_left h r touched)
  none_ends r touched = go h.all
    where
      go : (b : Bool) → Ends s (none_left (record h { all = b }) r touched)
      go true = none_sound s
      go false = tt

  pub owner_of : (x : StoredNode) (room : Room) → RoomStands h s n disk x room → (k : ℕ) → room ≡ InBlock k → n.owner k ≡ None
  owner_of x (Inside q) r k e = absurd (cc)
  owner_of x NoRoom r k e = absurd (cc)
  owner_of x (InBlock c) r k e = let q : c ≡ k = cc in ap n.owner (sym q) ∙ r

  pub room_ends : (room : Room) (f : Finish) → AreSound s (edited_all s f.edits) f.edits → Ends s (finish_in h room f)
  room_ends NoRoom f r = r
  room_ends (Inside q) f r = r
  room_ends (InBlock k) f r = go (must_clear h k)
    where
      go : (b : Bool) → Ends s (if b then Got (Clears k f.locks) else ReadDirectory k 0 (λ p. Got (Finishes f)))
      go true = tt
      go false = r

  -- ---- create, mkdir, symlink
  module _ (birth : ℕ) (node : Node) (bare : IsBare node) (i : ℕ) (x : StoredNode) (is : s.inode i ≡ Some x) (name dirs : List ℕ) (j : ℕ) (free : s.inode j ≡ None) where
    abbrev y : StoredNode
    y = inode_of birth (λ j. 0) 0 node

    abbrev t : Store
    t = edited_all s (new_node j birth node)

    abbrev entry : StoredEntry
    entry = record { name = name; inode = j; kind = kind_of node }

    no_block : (m : ℕ) → m < y.blocks → ⊥
    no_block m l = let z : y.blocks ≡ 0 = bare_blocks birth node bare in omega arith

    still : (k : ℕ) → IsNobodys s k → IsNobodys t k
    still k nobody a h = ⊎_elim
        (λ q. let new : Some y ≡ Some h.node = sym (put_same s.inode j (Some y)) ∙ ap t.inode (sym q) ∙ h.is in
        let it : h.node ≡ y = cc in
        no_block h.index (subst (λ z. h.index < z.blocks) it h.inside))
        (λ d. nobody a (record { node = h.node; is = sym (put_other s.inode j (Some y) a d) ∙ h.is; index = h.index; inside = h.inside; here = h.here })) (cases_eq a j)

    there : StandsFor t i x
    there z e =
        let apart : i ≢ j = λ q. (let w : Some x ≡ None = sym is ∙ ap s.inode q ∙ free in cc) in
        let it : x ≡ z = (let w : Some x ≡ Some z = sym is ∙ sym (put_other s.inode j (Some y) i apart) ∙ e in cc) in
        subst (λ v. KeepsBlocks v x) it (record { small = λ m l. (l, refl); large = refl })

    free_after : (room : Room) → RoomStands h s n disk x room → IsFreeRoom t room
    free_after (Inside q) r = tt
    free_after NoRoom r = tt
    free_after (InBlock k) r = still k (nobodys s at n g k r)

    made_apart : (room : Room) → AreApart (new_node j birth node) (enter i x entry room)
    made_apart room = record {
      bits = λ a b f. enter_bits i x entry room a;
      uses = λ k u f. absurd (cc);
      larges = λ k b f. enter_larges i x entry room k;
      takers = λ k u f v. rw (not_small_of k y (λ m l q. no_block m l)) refl;
      large_takers = λ k f. absurd (no_some true (first_said (large_said k) (enter i x entry room)) (enter_larges i x entry room k) f);
    }

    made_sound : (room : Room) → RoomStands h s n disk x room → Ends s (finish_in h room (made_by i x name birth node dirs j room))
    made_sound room r = room_ends room (made_by i x name birth node dirs j room)
        (then_sound s (new_node j birth node) (enter i x entry room) (new_sound s j birth node free) (enter_sound t i x entry room there (free_after room r)) (made_apart room))

    pub making_in_sound : (room : Room) → RoomStands h s n disk x room → Ends s (making_in h i x name birth node dirs j room)
    making_in_sound NoRoom r = none_ends reply.NoDirBlock dirs
    making_in_sound (Inside q) r = made_sound (Inside q) r
    making_in_sound (InBlock k) r = made_sound (InBlock k) r

  module _ (birth : ℕ) (node : Node) (bare : IsBare node) where
    making_with_sound : (i : ℕ) (x : StoredNode) (name dirs : List ℕ) (o : Option ℕ) → picked_inode h.held ≡ o → s.inode i ≡ Some x → Ends s (making_with h i x name birth node dirs o)
    making_with_sound i x name dirs None e is = none_ends reply.NoInode dirs
    making_with_sound i x name dirs (Some j) e is =
        let free : s.inode j ≡ None = g.inodes j ∙ ap (inode_for n at) (disk.inode j e) in
        subst (IsSoundPlan s) (sym (run-bind (find_room h x) (making_in h i x name birth node dirs j) s))
        (making_in_sound birth node bare i x is name dirs j free (run (find_room h x) s) (room_stands h s n disk x))

    making_sound : (dirs : List ℕ) (v : Spot) → SpotStands h s n disk dirs v → Ends s (making h birth node dirs v)
    making_sound dirs AtRoot t = none_sound s
    making_sound dirs (Lost r) t = none_sound s
    making_sound dirs (AtName i x name q e) t = none_sound s
    making_sound dirs (AtGap i x name) t = go (is_full x)
      where
        go : (b : Bool) → Ends s (if b then refused reply.DirFull dirs else read_held h (making_with h i x name birth node dirs (picked_inode h.held)))
        go true = none_sound s
        go false = subst (IsSoundPlan s) (sym (run-segments (keys_of h.held) (making_with h i x name birth node dirs (picked_inode h.held)) s)) (making_with_sound i x name dirs (picked_inode h.held) refl t.is)

    pub made_path_sound : (path : List (List ℕ)) → Ends s (plan_made h birth node path)
    made_path_sound path =
        let w = run (walk path) s in
        subst (IsSoundPlan s) (sym (run-bind (walk path) (λ w. making h birth node w.dirs w.spot) s)) (making_sound w.dirs w.spot (walk_stands h s n disk path).spot)

  -- ---- link
  module _ (i : ℕ) (x : StoredNode) (is : s.inode i ≡ Some x) (name : List ℕ) (j : ℕ) (y : StoredNode) (node : s.inode j ≡ Some y) (dirs : List ℕ) where
    abbrev linked : StoredNode
    linked = record y { links = y.links + 1 }

    abbrev link_entry : StoredEntry
    link_entry = record { name = name; inode = j; kind = y.kind }

    linked_apart : (room : Room) → RoomStands h s n disk x room → AreApart (relink j y (y.links + 1)) (enter i x link_entry room)
    linked_apart room r = quiet_then (relink j y (y.links + 1)) (enter i x link_entry room) (record { bits = λ a. refl; uses = λ k. refl; larges = λ k. refl })
        (λ k u e f. let q : n.owner k ≡ None = owner_of x room r k (enter_uses i x link_entry room k u e) in
        rw (not_small_of k linked (λ m l w. nobodys s at n g k q j (record { node = y; is = node; index = m; inside = l; here = w }))) refl)
        (λ k e. absurd (no_some true (first_said (large_said k) (enter i x link_entry room)) (enter_larges i x link_entry room k) e))

    linked_sound : (room : Room) → RoomStands h s n disk x room → Ends s (finish_in h room (linked_by i x name j y dirs room))
    linked_sound room r =
        let t = edited_all s (relink j y (y.links + 1)) in
        let same = relinked_same s j y (y.links + 1) node in
        room_ends room (linked_by i x name j y dirs room)
        (then_sound s (relink j y (y.links + 1)) (enter i x link_entry room) (relink_sound s j y (y.links + 1) (stands_for s at n g s (itself s) j y node))
        (enter_sound t i x link_entry room (stands_for s at n g t same i x is) (free_room s at n g t same room (owner_of x room r))) (linked_apart room r))

    linking_in_sound : (room : Room) → RoomStands h s n disk x room → Ends s (linking_in h i x name j y dirs room)
    linking_in_sound NoRoom r = none_ends reply.NoDirBlock (dirs ++ j ∷ [])
    linking_in_sound (Inside q) r = linked_sound (Inside q) r
    linking_in_sound (InBlock k) r = linked_sound (InBlock k) r

    pub linking_node_sound : Ends s (linking_node h i x name j dirs (Some y))
    linking_node_sound = go (nat_le 1000 y.links) (is_full x)
      where
        go : (a b : Bool) → Ends s (if a then refused reply.MLink (dirs ++ j ∷ []) else (if b then refused reply.DirFull (dirs ++ j ∷ []) else bind (find_room h x) (linking_in h i x name j y dirs)))
        go true b = none_sound s
        go false true = none_sound s
        go false false = subst (IsSoundPlan s) (sym (run-bind (find_room h x) (linking_in h i x name j y dirs) s)) (linking_in_sound (run (find_room h x) s) (room_stands h s n disk x))

  linking_to_sound : (j : ℕ) (y : StoredNode) (node : s.inode j ≡ Some y) (dirs : List ℕ) (v : Spot) → SpotStands h s n disk dirs v → Ends s (linking_to h j dirs v)
  linking_to_sound j y node dirs AtRoot t = none_sound s
  linking_to_sound j y node dirs (Lost r) t = none_sound s
  linking_to_sound j y node dirs (AtName i x name q e) t = none_sound s
  linking_to_sound j y node dirs (AtGap i x name) t = subst (λ o. Ends s (linking_node h i x name j dirs o)) (sym node) (linking_node_sound i x t.is name j y node dirs)

  linking_sound : (to : List (List ℕ)) (dirs : List ℕ) (v : Spot) → SpotStands h s n disk dirs v → Ends s (linking h to dirs v)
  linking_sound to dirs AtRoot t = none_sound s
  linking_sound to dirs (Lost r) t = none_sound s
  linking_sound to dirs (AtGap i x name) t = none_sound s
  linking_sound to dirs (AtName i x name q e) t = go (e.kind == 2)
    where
      go : (b : Bool) → Ends s (if b then refused reply.IsDir dirs else bind (walk to) (λ w. linking_to h e.inode (dirs ++ w.dirs) w.spot))
      go true = none_sound s
      go false =
          let w = run (walk to) s in
          subst (IsSoundPlan s) (sym (run-bind (walk to) (λ w. linking_to h e.inode (dirs ++ w.dirs) w.spot) s))
          (linking_to_sound e.inode t.2.node t.2.is (dirs ++ w.dirs) w.spot (wider h s n disk dirs w.dirs w.spot (walk_stands h s n disk to).spot))

  pub link_sound : (path to : List (List ℕ)) → Ends s (plan_linked h path to)
  link_sound path to =
      let w = run (walk path) s in
      subst (IsSoundPlan s) (sym (run-bind (walk path) (λ w. linking h to w.dirs w.spot) s)) (linking_sound to w.dirs w.spot (walk_stands h s n disk path).spot)

  -- ---- unlink, rmdir
  module _ (i : ℕ) (x : StoredNode) (is : s.inode i ≡ Some x) (q j : ℕ) (y : StoredNode) (node : s.inode j ≡ Some y) (dirs : List ℕ) where
    removed_sound : Ends s (finish_over (fewer_segments j y) (removed_by i x q j y dirs))
    removed_sound =
        let t = edited_all s (take_entry i x q) in
        let f = removed_by i x q j y dirs in
        subst (IsSoundPlan s) (sym (run-segments (fewer_segments j y) (Got (Finishes f)) s))
        (then_sound s (take_entry i x q) (fewer j y) (take_sound s i x q (stands_for s at n g s (itself s) i x is)) (fewer_sound t j y (may_go s at n g t (taken_same s i x q is) j y node))
        (before_freeing (take_entry i x q) (fewer j y) (record { bits = λ a. refl; uses = λ k. refl; larges = λ k. refl }) (fewer_frees t j y)))

    removing_node_sound : Ends s (removing_node i x q j dirs (Some y))
    removing_node_sound = go (nat_lt 0 y.size)
      where
        go : (b : Bool) → Ends s (if b then refused reply.NotEmpty (dirs ++ j ∷ []) else finish_over (fewer_segments j y) (removed_by i x q j y dirs))
        go true = none_sound s
        go false = removed_sound

  unlinking_sound : (dirs : List ℕ) (v : Spot) → SpotStands h s n disk dirs v → Ends s (unlinking dirs v)
  unlinking_sound dirs AtRoot t = none_sound s
  unlinking_sound dirs (Lost r) t = none_sound s
  unlinking_sound dirs (AtGap i x name) t = none_sound s
  unlinking_sound dirs (AtName i x name q e) t = go (e.kind == 2)
    where
      go : (b : Bool) → Ends s (if b then refused reply.IsDir dirs else ReadInode e.inode (unlinking_node i x q e.inode dirs))
      go true = none_sound s
      go false = subst (λ o. Ends s (unlinking_node i x q e.inode dirs o)) (sym t.2.is) (removed_sound i x t.0.is q e.inode t.2.node t.2.is dirs)

  pub unlink_sound : (path : List (List ℕ)) → Ends s (plan_unlinked path)
  unlink_sound path =
      let w = run (walk path) s in
      subst (IsSoundPlan s) (sym (run-bind (walk path) (λ w. unlinking w.dirs w.spot) s)) (unlinking_sound w.dirs w.spot (walk_stands h s n disk path).spot)

  removing_sound : (dirs : List ℕ) (v : Spot) → SpotStands h s n disk dirs v → Ends s (removing dirs v)
  removing_sound dirs AtRoot t = none_sound s
  removing_sound dirs (Lost r) t = none_sound s
  removing_sound dirs (AtGap i x name) t = none_sound s
  removing_sound dirs (AtName i x name q e) t = go (e.kind == 2)
    where
      go : (b : Bool) → Ends s (if b then ReadInode e.inode (removing_node i x q e.inode dirs) else refused reply.NotDir dirs)
      go true = subst (λ o. Ends s (removing_node i x q e.inode dirs o)) (sym t.2.is) (removing_node_sound i x t.0.is q e.inode t.2.node t.2.is dirs)
      go false = none_sound s

  pub rmdir_sound : (path : List (List ℕ)) → Ends s (plan_dir_removed path)
  rmdir_sound path =
      let w = run (walk path) s in
      subst (IsSoundPlan s) (sym (run-bind (walk path) (λ w. removing w.dirs w.spot) s)) (removing_sound w.dirs w.spot (walk_stands h s n disk path).spot)

-- The plans of the operations on names but rename end with the locks that are found.
use Rattle.std.proofs.Common.{ℕ, ◌≡◌, ◌<◌, ◌+◌, ◌-◌, ◌*◌, ◌/◌, ◌==◌, inl, inr, ⊎_elim, Bool, true, false, nat_le, nat_lt, if◌then◌else◌, Option, Some, None, List, [], ◌∷◌, ◌++◌, refl, sym, ap, ◌∙◌, subst}
use Rattle.std.proofs.lemmas.List.{append_assoc}
use Rattle.std.proofs.lemmas.List.Elements.{Contains-append_left, Contains-append_right}
use Rattle.std.specs.List.{Contains}
use Rattle.frang_base.specs.declared.lock.LockId.TheVariants as lock
use Rattle.frang_base.specs.declared.lock.Mode.TheVariants.{Sole}
use Rattle.frang_base.specs.declared.reply.Reply.{Reply}
use Rattle.frang_base.specs.declared.reply.Reply.TheVariants as reply
use Rattle.tree_definitions.specs.declared.node.Node.{Node}
use Rattle.disk_definitions.specs.Store.{Store, StoredNode, StoredEntry}
use Rattle.disk_definitions.specs.Naming.{Naming, kind_of}
use Rattle.disk_definitions.specs.Changes.{new_node, relink, take_entry}
use Rattle.disk_definitions.specs.Edits.{Edit}
use Rattle.disk_definitions.specs.Picks.{picked_inode}
use Rattle.disk_definitions.specs.Ask.{Ask, ReadInode, bind}
use Rattle.disk_definitions.specs.NamePlans.{made_by, making_in, making_with, making, plan_made, linked_by, linking_in, linking_node, linking_to, linking, plan_linked, fewer, fewer_segments, finish_over, removed_by, unlinking_node, unlinking, plan_unlinked, removing_node, removing, plan_dir_removed}
use Rattle.disk_definitions.specs.Plans.{Hand, Plan, Finish, Room, enter, refused, read_held, find_room, finish_in, room_segments, is_full}
use Rattle.disk_definitions.specs.Plans.Room.{Inside, InBlock, NoRoom}
use Rattle.disk_definitions.specs.Walks.{Spot, Walked, walk}
use Rattle.disk_definitions.specs.Walks.Spot.{AtRoot, AtName, AtGap, Lost}
use Rattle.plan_laws.proofs.Covering.{has_head, has_more}
use Rattle.plan_laws.proofs.Standing.{HasKind, DiskStands}
use Rattle.plan_laws.proofs.WalksFine.{either, SpotStands}
use Rattle.disk_definitions.specs.FoundLocks.{from_end}
use Rattle.line_locks.proofs.Edited.{IsEdited, IsRoom, bit_second, edited_left, edited_right, node_first, segments_right, enter_node, enter_segments, fewer_inode, fewer_segments_edited}
use Rattle.line_locks.proofs.Ending.{Ends}
use Rattle.line_locks.proofs.PlansEnd.{AreEdited, AreTouched, FinishEnds, PlanEnds, block_ends, clear_ends, finish_ends, from_end_is, held_ends, last_of, none_ends, over_ends, refuse_ends}
use Rattle.line_locks.proofs.WalksEnd.{EndIn, SpotEnds, WalkIs, room_then, walk_then}

-- ---- nodes in a row

-- this node was looked at last
pub record LastIs (nodes : List ℕ) (i : ℕ) : Type 0 where
  pub front : List ℕ
  pub is : nodes ≡ front ++ i ∷ []

pub last_is : (before dirs front : List ℕ) (i : ℕ) → dirs ≡ front ++ i ∷ [] → LastIs (before ++ dirs) i
last_is before dirs front i e = record { front = before ++ front; is = last_of before dirs front i e }

pub one_before : (nodes : List ℕ) (i j : ℕ) → LastIs nodes i → from_end (nodes ++ j ∷ []) 1 ≡ i
one_before nodes i j l = ap (λ z. from_end z 1) (ap (λ z. z ++ j ∷ []) l.is ∙ append_assoc l.front (i ∷ []) (j ∷ [])) ∙ from_end_is l.front (j ∷ []) i 1 refl

pub read_are : (before dirs nodes : List ℕ) (j : ℕ) → nodes ≡ before ++ dirs → nodes ++ j ∷ [] ≡ before ++ (dirs ++ j ∷ [])
read_are before dirs nodes j e = ap (λ z. z ++ j ∷ []) e ∙ append_assoc before dirs (j ∷ [])

-- the directories, and a node whose inode was read
pub node_touched : (before dirs nodes : List ℕ) (i j : ℕ) → nodes ≡ before ++ dirs → AreTouched before (dirs ++ j ∷ []) (nodes ++ j ∷ []) dirs (i ∷ j ∷ [])
node_touched before dirs nodes i j e = record {
  are = read_are before dirs nodes j e;
  dirs_in = λ c d. Contains-append_left dirs (j ∷ []) c d;
  one_of = λ c d. ⊎_elim (λ a. inl a) (λ b. inr (has_more i c (j ∷ []) b)) (either dirs (j ∷ []) c d);
}

module _ (h : Hand) (s : Store) (n : Naming) (disk : DiskStands h s n) where
  -- ---- create, mkdir, symlink
  module _ (i : ℕ) (x : StoredNode) (name : List ℕ) (birth : ℕ) (node : Node) (before dirs nodes : List ℕ) (e : nodes ≡ before ++ dirs) (last : LastIs nodes i) where
    abbrev MadeEnd : List ℕ → Plan → Type 0
    MadeEnd = PlanEnds h s 1 true before

    made_ends : (j : ℕ) (room : Room) → IsRoom room → FinishEnds h s before (nodes ++ j ∷ []) (made_by i x name birth node dirs j room)
    made_ends j room r =
        let entry : StoredEntry = record { name = name; inode = j; kind = kind_of node } in
        let new = new_node j birth node in
        let there = enter i x entry room in
        let all = nodes ++ j ∷ [] in
        finish_ends h s before (dirs ++ j ∷ []) all dirs (i ∷ j ∷ []) ((j / 64) ∷ room_segments room) (node_touched before dirs nodes i j e) reply.Ok (new ++ there) (
          (edited_right h s all new there (lock.Node i) (enter_node h s all i x entry room r), (edited_left h s all new there (lock.Node j) (node_first h s all new j _ _ _ refl), tt)),
          (
            edited_left h s all new there (lock.Segment (j / 64)) (bit_second h s all new j _ _ _ _ refl),
            segments_right h s all new there (room_segments room) (enter_segments h s all i x entry room),
          ),
        )

    making_in_ends : (j : ℕ) (room : Room) → Ends s MadeEnd (making_in h i x name birth node dirs j room) nodes
    making_in_ends j NoRoom = none_ends h s 1 true before dirs nodes reply.NoDirBlock e refl
    making_in_ends j (Inside q) = made_ends j (Inside q) tt
    making_in_ends j (InBlock k) =
        block_ends h s 1 true before (nodes ++ j ∷ []) k (made_by i x name birth node dirs j (InBlock k)) (made_ends j (InBlock k) tt)
        (clear_ends h s 1 true before (dirs ++ j ∷ []) (nodes ++ j ∷ []) dirs i j k (node_touched before dirs nodes i j e) (one_before nodes i j last) (from_end_is nodes [] j 0 refl))

    making_with_ends : (o : Option ℕ) → Ends s MadeEnd (making_with h i x name birth node dirs o) nodes
    making_with_ends None = none_ends h s 1 true before dirs nodes reply.NoInode e refl
    making_with_ends (Some j) = room_then h s n disk MadeEnd x (making_in h i x name birth node dirs j) nodes (making_in_ends j)

    making_gap : Ends s MadeEnd (making h birth node dirs (AtGap i x name)) nodes
    making_gap = go (is_full x)
      where
        go : (b : Bool) → Ends s MadeEnd (if b then refused reply.DirFull dirs else read_held h (making_with h i x name birth node dirs (picked_inode h.held))) nodes
        go true = refuse_ends h s 1 true before dirs nodes reply.DirFull e
        go false = held_ends h s 1 true before nodes (making_with h i x name birth node dirs (picked_inode h.held)) (making_with_ends (picked_inode h.held))

  making_ends : (birth : ℕ) (node : Node) (before dirs : List ℕ) (count : ℕ) (v : Spot) → SpotEnds h s n disk (Unit {0}) count dirs v → Ends s (PlanEnds h s 1 true before) (making h birth node dirs v) (before ++ dirs)
  making_ends birth node before dirs count AtRoot t = refuse_ends h s 1 true before dirs (before ++ dirs) reply.Exist refl
  making_ends birth node before dirs count (Lost r) t = refuse_ends h s 1 true before dirs (before ++ dirs) r refl
  making_ends birth node before dirs count (AtName i x name q e) t = refuse_ends h s 1 true before dirs (before ++ dirs) reply.Exist refl
  making_ends birth node before dirs count (AtGap i x name) t = making_gap i x name birth node before dirs (before ++ dirs) refl (last_is before dirs t.front i t.is)

  pub made_path_ends : (birth : ℕ) (node : Node) (path : List (List ℕ)) (before : List ℕ) → Ends s (PlanEnds h s 1 true before) (plan_made h birth node path) before
  made_path_ends birth node path before =
      walk_then h s n disk (PlanEnds h s 1 true before) path (λ w. making h birth node w.dirs w.spot) before (λ w is. making_ends birth node before w.dirs _ w.spot is.ends)

  -- ---- link
  module _ (i : ℕ) (x : StoredNode) (name : List ℕ) (j : ℕ) (y : StoredNode) (before dirs nodes : List ℕ) (e : nodes ≡ before ++ dirs) (last : LastIs nodes i) where
    abbrev LinkEnd : List ℕ → Plan → Type 0
    LinkEnd = PlanEnds h s 1 false before

    abbrev all : List ℕ
    all = nodes ++ j ∷ []

    linked_ends : (room : Room) → IsRoom room → FinishEnds h s before all (linked_by i x name j y dirs room)
    linked_ends room r =
        let entry : StoredEntry = record { name = name; inode = j; kind = y.kind } in
        let new = relink j y (y.links + 1) in
        let there = enter i x entry room in
        finish_ends h s before (dirs ++ j ∷ []) all dirs (i ∷ j ∷ []) (room_segments room) (node_touched before dirs nodes i j e) reply.Ok (new ++ there) (
          (edited_right h s all new there (lock.Node i) (enter_node h s all i x entry room r), (edited_left h s all new there (lock.Node j) (node_first h s all new j _ _ _ refl), tt)),
          segments_right h s all new there (room_segments room) (enter_segments h s all i x entry room),
        )

    linking_in_ends : (room : Room) → Ends s LinkEnd (linking_in h i x name j y dirs room) all
    linking_in_ends NoRoom = none_ends h s 1 false before (dirs ++ j ∷ []) all reply.NoDirBlock (read_are before dirs nodes j e) refl
    linking_in_ends (Inside q) = linked_ends (Inside q) tt
    linking_in_ends (InBlock k) =
        block_ends h s 1 false before all k (linked_by i x name j y dirs (InBlock k)) (linked_ends (InBlock k) tt)
        (clear_ends h s 1 false before (dirs ++ j ∷ []) all dirs i j k (node_touched before dirs nodes i j e) (one_before nodes i j last) (from_end_is nodes [] j 0 refl))

    linking_node_ends : Ends s LinkEnd (linking_node h i x name j dirs (Some y)) all
    linking_node_ends = go (nat_le 1000 y.links) (is_full x)
      where
        go : (a b : Bool) → Ends s LinkEnd (if a then refused reply.MLink (dirs ++ j ∷ []) else (if b then refused reply.DirFull (dirs ++ j ∷ []) else bind (find_room h x) (linking_in h i x name j y dirs))) all
        go true b = refuse_ends h s 1 false before (dirs ++ j ∷ []) all reply.MLink (read_are before dirs nodes j e)
        go false true = refuse_ends h s 1 false before (dirs ++ j ∷ []) all reply.DirFull (read_are before dirs nodes j e)
        go false false = room_then h s n disk LinkEnd x (linking_in h i x name j y dirs) all linking_in_ends

  linking_to_ends : (j : ℕ) (y : StoredNode) → s.inode j ≡ Some y → (before first second : List ℕ) (count : ℕ) (v : Spot) → SpotEnds h s n disk (Unit {0}) count second v →
      Ends s (PlanEnds h s 1 false before) (linking_to h j (first ++ second) v) (before ++ first ++ second)
  linking_to_ends j y is before first second count v t = go v t
    where
      e : before ++ first ++ second ≡ before ++ (first ++ second)
      e = append_assoc before first second

      refuses : (r : Reply) → Ends s (PlanEnds h s 1 false before) (refused r (first ++ second)) (before ++ first ++ second)
      refuses r = refuse_ends h s 1 false before (first ++ second) (before ++ first ++ second) r e

      go : (v : Spot) → SpotEnds h s n disk (Unit {0}) count second v → Ends s (PlanEnds h s 1 false before) (linking_to h j (first ++ second) v) (before ++ first ++ second)
      go AtRoot t = refuses reply.Exist
      go (Lost r) t = refuses r
      go (AtName i x name q entry) t = refuses reply.Exist
      go (AtGap i x name) t =
          subst (λ o. Ends s (PlanEnds h s 1 false before) (linking_node h i x name j (first ++ second) o) (before ++ first ++ second ++ j ∷ [])) (sym is)
          (linking_node_ends i x name j y before (first ++ second) (before ++ first ++ second) e (last_is (before ++ first) second t.front i t.is))

  linking_ends : (to : List (List ℕ)) (before dirs : List ℕ) (v : Spot) → SpotStands h s n disk dirs v → Ends s (PlanEnds h s 1 false before) (linking h to dirs v) (before ++ dirs)
  linking_ends to before dirs AtRoot t = refuse_ends h s 1 false before dirs (before ++ dirs) reply.IsDir refl
  linking_ends to before dirs (Lost r) t = refuse_ends h s 1 false before dirs (before ++ dirs) r refl
  linking_ends to before dirs (AtGap i x name) t = refuse_ends h s 1 false before dirs (before ++ dirs) reply.NoEnt refl
  linking_ends to before dirs (AtName i x name q e) t = go (e.kind == 2)
    where
      go : (b : Bool) → Ends s (PlanEnds h s 1 false before) (if b then refused reply.IsDir dirs else bind (walk to) (λ w. linking_to h e.inode (dirs ++ w.dirs) w.spot)) (before ++ dirs)
      go true = refuse_ends h s 1 false before dirs (before ++ dirs) reply.IsDir refl
      go false = walk_then h s n disk (PlanEnds h s 1 false before) to (λ w. linking_to h e.inode (dirs ++ w.dirs) w.spot) (before ++ dirs)
          (λ w is. linking_to_ends e.inode t.2.node t.2.is before dirs w.dirs _ w.spot is.ends)

  pub linked_ends_so : (path to : List (List ℕ)) (before : List ℕ) → Ends s (PlanEnds h s 1 false before) (plan_linked h path to) before
  linked_ends_so path to before = walk_then h s n disk (PlanEnds h s 1 false before) path (λ w. linking h to w.dirs w.spot) before (λ w is. linking_ends to before w.dirs w.spot is.stands)

  -- ---- unlink, rmdir
  module _ (back : ℕ) (made : Bool) (before : List ℕ) where
    abbrev End : List ℕ → Plan → Type 0
    End = PlanEnds h s back made before

    module _ (i : ℕ) (x : StoredNode) (q j : ℕ) (y : StoredNode) (dirs : List ℕ) where
      removed_ends : Ends s End (finish_over (fewer_segments j y) (removed_by i x q j y dirs)) (before ++ dirs ++ j ∷ [])
      removed_ends =
          let all = before ++ dirs ++ j ∷ [] in
          let taken = take_entry i x q in
          over_ends h s back made before all (fewer_segments j y) (removed_by i x q j y dirs)
          (finish_ends h s before (dirs ++ j ∷ []) all dirs (i ∷ j ∷ []) (fewer_segments j y) (node_touched before dirs (before ++ dirs) i j refl) reply.Ok (taken ++ fewer j y) (
            (edited_left h s all taken (fewer j y) (lock.Node i) (node_first h s all taken i _ _ _ refl), (edited_right h s all taken (fewer j y) (lock.Node j) (fewer_inode h s all j y), tt)),
            segments_right h s all taken (fewer j y) (fewer_segments j y) (fewer_segments_edited h s all j y),
          ))

      removing_node_ends : Ends s End (removing_node i x q j dirs (Some y)) (before ++ dirs ++ j ∷ [])
      removing_node_ends = go (nat_lt 0 y.size)
        where
          go : (b : Bool) → Ends s End (if b then refused reply.NotEmpty (dirs ++ j ∷ []) else finish_over (fewer_segments j y) (removed_by i x q j y dirs)) (before ++ dirs ++ j ∷ [])
          go true = refuse_ends h s back made before (dirs ++ j ∷ []) (before ++ dirs ++ j ∷ []) reply.NotEmpty (append_assoc before dirs (j ∷ []))
          go false = removed_ends

    refuses : (dirs : List ℕ) (r : Reply) → Ends s End (refused r dirs) (before ++ dirs)
    refuses dirs r = refuse_ends h s back made before dirs (before ++ dirs) r refl

    unlinking_ends : (dirs : List ℕ) (v : Spot) → SpotStands h s n disk dirs v → Ends s End (unlinking dirs v) (before ++ dirs)
    unlinking_ends dirs AtRoot t = refuses dirs reply.IsDir
    unlinking_ends dirs (Lost r) t = refuses dirs r
    unlinking_ends dirs (AtGap i x name) t = refuses dirs reply.NoEnt
    unlinking_ends dirs (AtName i x name q e) t = go (e.kind == 2)
      where
        go : (b : Bool) → Ends s End (if b then refused reply.IsDir dirs else ReadInode e.inode (unlinking_node i x q e.inode dirs)) (before ++ dirs)
        go true = refuses dirs reply.IsDir
        go false = subst (λ o. Ends s End (unlinking_node i x q e.inode dirs o) (before ++ dirs ++ e.inode ∷ [])) (sym t.2.is) (removed_ends i x q e.inode t.2.node dirs)

    pub unlink_ends : (path : List (List ℕ)) → Ends s End (plan_unlinked path) before
    unlink_ends path = walk_then h s n disk End path (λ w. unlinking w.dirs w.spot) before (λ w is. unlinking_ends w.dirs w.spot is.stands)

    removing_ends : (dirs : List ℕ) (v : Spot) → SpotStands h s n disk dirs v → Ends s End (removing dirs v) (before ++ dirs)
    removing_ends dirs AtRoot t = refuses dirs reply.Inval
    removing_ends dirs (Lost r) t = refuses dirs r
    removing_ends dirs (AtGap i x name) t = refuses dirs reply.NoEnt
    removing_ends dirs (AtName i x name q e) t = go (e.kind == 2)
      where
        go : (b : Bool) → Ends s End (if b then ReadInode e.inode (removing_node i x q e.inode dirs) else refused reply.NotDir dirs) (before ++ dirs)
        go true = subst (λ o. Ends s End (removing_node i x q e.inode dirs o) (before ++ dirs ++ e.inode ∷ [])) (sym t.2.is) (removing_node_ends i x q e.inode t.2.node dirs)
        go false = refuses dirs reply.NotDir

    pub rmdir_ends : (path : List (List ℕ)) → Ends s End (plan_dir_removed path) before
    rmdir_ends path = walk_then h s n disk End path (λ w. removing w.dirs w.spot) before (λ w is. removing_ends w.dirs w.spot is.stands)

-- The plan of rename ends with the locks that are found.
use Rattle.std.proofs.Common.{ℕ, ◌≡◌, ◌<◌, ◌*◌, ◌/◌, ◌%◌, ◌==◌, ◌&&◌, not, inl, inr, ⊎_elim, Bool, true, false, nat_lt, if◌then◌else◌, Some, List, [], ◌∷◌, ◌++◌, length, refl, sym, ap, ◌∙◌, subst}
use Rattle.std.proofs.lemmas.List.{append-nil, append_assoc}
use Rattle.std.proofs.lemmas.List.Elements.{Contains-append_left, Contains-append_right}
use Rattle.std.specs.List.{Contains}
use Rattle.frang_base.specs.declared.lock.LockId.TheVariants as lock
use Rattle.frang_base.specs.declared.lock.Mode.TheVariants.{Sole}
use Rattle.frang_base.specs.declared.reply.Reply.{Reply}
use Rattle.frang_base.specs.declared.reply.Reply.TheVariants as reply
use Rattle.disk_definitions.specs.Store.{Store, StoredNode, StoredEntry}
use Rattle.disk_definitions.specs.Naming.{Naming}
use Rattle.disk_definitions.specs.Changes.{replace_entry, take_entry}
use Rattle.disk_definitions.specs.Ask.{Ask, Got, ReadInode, bind}
use Rattle.disk_definitions.specs.NamePlans.{fewer, fewer_segments, finish_over, Moving, renamed_entry, moved_onto_by, replacing_node, moving_onto, moved_within, moved_between, moving_in, moving_to, goes_through, renaming_to, renaming, plan_renamed}
use Rattle.disk_definitions.specs.Plans.{Hand, Plan, Finish, Room, enter, refused, find_room, finish_in, room_segments, is_full, shared_nodes, sole_nodes}
use Rattle.disk_definitions.specs.Plans.Plan.{Finishes}
use Rattle.disk_definitions.specs.Plans.Room.{Inside, InBlock, NoRoom}
use Rattle.disk_definitions.specs.Walks.{Spot, walk}
use Rattle.disk_definitions.specs.Walks.Spot.{AtRoot, AtName, AtGap, Lost}
use Rattle.plan_laws.proofs.Covering.{has_head, has_more}
use Rattle.plan_laws.proofs.Fine.{only_held}
use Rattle.plan_laws.proofs.Standing.{HasKind, DiskStands}
use Rattle.plan_laws.proofs.WalksFine.{either, SpotStands}
use Rattle.disk_definitions.specs.FoundLocks.{from_end}
use Rattle.line_locks.proofs.Alike.{held_left, within_join, within_nodes, within_shared}
use Rattle.line_locks.proofs.Edited.{IsEdited, IsRoom, edited_left, edited_right, node_first, segments_left, segments_right, place_edited, enter_node, enter_segments, fewer_inode, fewer_segments_edited}
use Rattle.line_locks.proofs.Ending.{Ends}
use Rattle.line_locks.proofs.NamesEnd.{LastIs, last_is, read_are}
use Rattle.line_locks.proofs.PlansEnd.{AreTouched, FinishEnds, PlanEnds, block_ends, clear_ends, edit_found, finish_ends, found, from_end_is, none_ends, over_ends, refuse_ends, touched_found}
use Rattle.line_locks.proofs.WalksEnd.{EndIn, SpotEnds, WalkIs, room_then, walk_then}

-- the first walk ended here, and the second behind it
pub before_second : (base second : List ℕ) (i count : ℕ) → LastIs base i → length second ≡ count → from_end (base ++ second) count ≡ i
before_second base second i count l e = ap (λ z. from_end z count) (ap (λ z. z ++ second) l.is ∙ append_assoc l.front (i ∷ []) second) ∙ from_end_is l.front second i count e

pub at_last : (nodes : List ℕ) (i : ℕ) → LastIs nodes i → from_end nodes 0 ≡ i
at_last nodes i l = ap (λ z. from_end z 0) l.is ∙ from_end_is l.front [] i 0 refl

module _ (h : Hand) (s : Store) (n : Naming) (disk : DiskStands h s n) where
  module _ (m : Moving) (source : s.inode m.dir ≡ Some m.directory) (old : m.slot < 56 * m.directory.blocks)
      (before first second : List ℕ) (count : ℕ) (from : Contains first m.dir) (last : LastIs (before ++ first) m.dir) where
    abbrev End : List ℕ → Plan → Type 0
    End = PlanEnds h s count false before

    abbrev dirs : List ℕ
    dirs = first ++ second

    abbrev nodes : List ℕ
    nodes = before ++ first ++ second

    are : nodes ≡ before ++ dirs
    are = append_assoc before first second

    refuses : (r : Reply) → Ends s End (refused r dirs) nodes
    refuses r = refuse_ends h s count false before dirs nodes r are

    in_nodes : (i : ℕ) → Contains dirs i → Contains nodes i
    in_nodes i c = subst (λ l. Contains l i) (sym are) (Contains-append_right before dirs i c)

    -- ---- onto a name

    module _ (i : ℕ) (x : StoredNode) (name : List ℕ) (q j : ℕ) (y : StoredNode) (is : s.inode i ≡ Some x) (inside : q < 56 * x.blocks) (to : Contains second i) where
      abbrev all : List ℕ
      all = nodes ++ j ∷ []

      abbrev soles : List ℕ
      soles = m.dir ∷ i ∷ j ∷ []

      onto_touched : AreTouched before (dirs ++ j ∷ []) all dirs soles
      onto_touched = record {
        are = read_are before dirs nodes j are;
        dirs_in = λ c d. Contains-append_left dirs (j ∷ []) c d;
        one_of = λ c d. ⊎_elim (λ a. inl a) (λ b. inr (has_more m.dir c (i ∷ j ∷ []) (has_more i c (j ∷ []) b))) (either dirs (j ∷ []) c d);
      }

      onto_ends : FinishEnds h s before all (moved_onto_by m i x name q j y dirs)
      onto_ends =
          let taken = take_entry m.dir m.directory m.slot in
          let put = replace_entry x q (renamed_entry m name) in
          let here : Contains all i = Contains-append_left nodes (j ∷ []) i (in_nodes i (Contains-append_right first second i to)) in
          finish_ends h s before (dirs ++ j ∷ []) all dirs soles (fewer_segments j y) onto_touched reply.Ok (taken ++ put ++ fewer j y) (
            (
              edited_left h s all (taken ++ put) (fewer j y) (lock.Node m.dir) (edited_left h s all taken put (lock.Node m.dir) (node_first h s all taken m.dir _ _ _ refl)),
              (
                edited_left h s all (taken ++ put) (fewer j y) (lock.Node i) (edited_right h s all taken put (lock.Node i) (place_edited h s all i x q (q % 56) (Some (renamed_entry m name)) [] here is inside)),
                (edited_right h s all (taken ++ put) (fewer j y) (lock.Node j) (fewer_inode h s all j y), tt),
              ),
            ),
            segments_right h s all (taken ++ put) (fewer j y) (fewer_segments j y) (fewer_segments_edited h s all j y),
          )

      replacing_ends : Ends s End (replacing_node m i x name q j dirs (Some y)) all
      replacing_ends = go (y.kind == 2 && nat_lt 0 y.size)
        where
          go : (b : Bool) → Ends s End (if b then refused reply.NotEmpty (dirs ++ j ∷ []) else finish_over (fewer_segments j y) (moved_onto_by m i x name q j y dirs)) all
          go true = refuse_ends h s count false before (dirs ++ j ∷ []) all reply.NotEmpty (read_are before dirs nodes j are)
          go false = over_ends h s count false before all (fewer_segments j y) (moved_onto_by m i x name q j y dirs) onto_ends

    moving_onto_ends : (i : ℕ) (x : StoredNode) (name : List ℕ) (q : ℕ) (e : StoredEntry) → s.inode i ≡ Some x → q < 56 * x.blocks → Contains second i → HasKind s e.inode e.kind → Ends s End (moving_onto m i x name q e dirs) nodes
    moving_onto_ends i x name q e is inside to k = go (e.inode == m.entry.inode) (m.entry.kind == 2 && not (e.kind == 2)) (e.kind == 2 && not (m.entry.kind == 2))
      where
        go : (a b c : Bool) → Ends s End (if a then refused reply.Ok dirs else (if b then refused reply.NotDir dirs else (if c then refused reply.IsDir dirs else ReadInode e.inode (replacing_node m i x name q e.inode dirs)))) nodes
        go true b c = refuses reply.Ok
        go false true c = refuses reply.NotDir
        go false false true = refuses reply.IsDir
        go false false false = subst (λ o. Ends s End (replacing_node m i x name q e.inode dirs o) (nodes ++ e.inode ∷ [])) (sym k.is) (replacing_ends i x name q e.inode k.node is inside to)

    -- ---- to a name that isn't there

    within_ends : (name : List ℕ) → FinishEnds h s before nodes (moved_within m name dirs)
    within_ends name =
        let f : Finish = moved_within m name dirs in
        record {
          looked = record { touched = dirs; are = are; held = λ i c. held_left (shared_nodes dirs) (sole_nodes (m.dir ∷ [])) (lock.Node i) (only_held dirs i c) };
          within = within_join (shared_nodes dirs) (sole_nodes (m.dir ∷ [])) (found h s nodes f) (within_shared dirs (found h s nodes f) (touched_found h s before dirs nodes f are))
              (within_nodes (m.dir ∷ []) (found h s nodes f)
              (edit_found h s nodes f (lock.Node m.dir) (place_edited h s nodes m.dir m.directory m.slot (m.slot % 56) (Some (renamed_entry m name)) [] (in_nodes m.dir (Contains-append_left first second m.dir from)) source old), tt));
        }

    module _ (i : ℕ) (x : StoredNode) (name : List ℕ) (end : EndIn h s n disk count second i) where
      between_touched : AreTouched before dirs nodes dirs (m.dir ∷ i ∷ [])
      between_touched = record { are = are; dirs_in = λ c d. d; one_of = λ c d. inl d }

      between_ends : (room : Room) → IsRoom room → FinishEnds h s before nodes (moved_between m i x name dirs room)
      between_ends room r =
          let there = enter i x (renamed_entry m name) room in
          let taken = take_entry m.dir m.directory m.slot in
          finish_ends h s before dirs nodes dirs (m.dir ∷ i ∷ []) (room_segments room) between_touched reply.Ok (there ++ taken) (
            (edited_right h s nodes there taken (lock.Node m.dir) (node_first h s nodes taken m.dir _ _ _ refl), (edited_left h s nodes there taken (lock.Node i) (enter_node h s nodes i x (renamed_entry m name) room r), tt)),
            segments_left h s nodes there taken (room_segments room) (enter_segments h s nodes i x (renamed_entry m name) room),
          )

      moving_in_ends : (room : Room) → Ends s End (moving_in h m i x name dirs room) nodes
      moving_in_ends NoRoom = none_ends h s count false before dirs nodes reply.NoDirBlock are refl
      moving_in_ends (Inside q) = between_ends (Inside q) tt
      moving_in_ends (InBlock k) =
          block_ends h s count false before nodes k (moved_between m i x name dirs (InBlock k)) (between_ends (InBlock k) tt)
          (clear_ends h s count false before dirs nodes dirs m.dir i k between_touched (before_second (before ++ first) second m.dir count last end.counted)
          (at_last nodes i (last_is (before ++ first) second end.front i end.is)))

      moving_to_ends : Ends s End (moving_to h m i x name dirs) nodes
      moving_to_ends = go (i == m.dir) (is_full x)
        where
          go : (a b : Bool) → Ends s End (if a then Got (Finishes (moved_within m name dirs)) else (if b then refused reply.DirFull dirs else bind (find_room h x) (moving_in h m i x name dirs))) nodes
          go true b = within_ends name
          go false true = refuses reply.DirFull
          go false false = room_then h s n disk End x (moving_in h m i x name dirs) nodes moving_in_ends

    renaming_to_ends : (v : Spot) → SpotEnds h s n disk (Unit {0}) count second v → SpotStands h s n disk second v → Ends s End (renaming_to h m second dirs v) nodes
    renaming_to_ends AtRoot t u = refuses reply.Inval
    renaming_to_ends (Lost r) t u = refuses r
    renaming_to_ends (AtName i x name q e) t u = go (goes_through m second)
      where
        go : (b : Bool) → Ends s End (if b then refused reply.Inval dirs else moving_onto m i x name q e dirs) nodes
        go true = refuses reply.Inval
        go false = moving_onto_ends i x name q e u.0.is u.1 u.0.walked u.2
    renaming_to_ends (AtGap i x name) t u = go (goes_through m second)
      where
        go : (b : Bool) → Ends s End (if b then refused reply.Inval dirs else moving_to h m i x name dirs) nodes
        go true = refuses reply.Inval
        go false = moving_to_ends i x name t

  renaming_ends : (to : List (List ℕ)) (before dirs : List ℕ) (count : ℕ) (v : Spot) → SpotEnds h s n disk (Unit {0}) count dirs v → SpotStands h s n disk dirs v →
      Ends s (PlanEnds h s (length to) false before) (renaming h to dirs v) (before ++ dirs)
  renaming_ends to before dirs count AtRoot t u = refuse_ends h s (length to) false before dirs (before ++ dirs) reply.Inval refl
  renaming_ends to before dirs count (Lost r) t u = refuse_ends h s (length to) false before dirs (before ++ dirs) r refl
  renaming_ends to before dirs count (AtGap i x name) t u = refuse_ends h s (length to) false before dirs (before ++ dirs) reply.NoEnt refl
  renaming_ends to before dirs count (AtName i x name q e) t u =
      let m : Moving = record { dir = i; directory = x; slot = q; entry = e } in
      walk_then h s n disk (PlanEnds h s (length to) false before) to (λ w. renaming_to h m w.dirs (dirs ++ w.dirs) w.spot) (before ++ dirs)
      (λ w is. renaming_to_ends m u.0.is u.1 before dirs w.dirs (length to) u.0.walked (last_is before dirs t.front i t.is) w.spot is.ends is.stands)

  pub rename_ends : (path to : List (List ℕ)) (before : List ℕ) → Ends s (PlanEnds h s (length to) false before) (plan_renamed h path to) before
  rename_ends [] to before = refuse_ends h s (length to) false before [] before reply.Inval (sym (append-nil before))
  rename_ends (name ∷ names) [] before = refuse_ends h s 0 false before [] before reply.Inval (sym (append-nil before))
  rename_ends (name ∷ names) (new ∷ news) before =
      walk_then h s n disk (PlanEnds h s (length (new ∷ news)) false before) (name ∷ names) (λ w. renaming h (new ∷ news) w.dirs w.spot) before
      (λ w is. renaming_ends (new ∷ news) before w.dirs _ w.spot is.ends is.stands)

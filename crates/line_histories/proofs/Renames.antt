-- The edits of the plan of rename leave no sector of a file unwritten.
use Rattle.std.proofs.Common.{ℕ, ◌≡◌, ◌==◌, ◌&&◌, not, Bool, true, false, nat_lt, if◌then◌else◌, Some, List, [], ◌∷◌, ◌++◌, sym, subst}
use Rattle.frang_base.specs.declared.reply.Reply.TheVariants as reply
use Rattle.disk_definitions.specs.Store.{Store, StoredNode, StoredEntry}
use Rattle.disk_definitions.specs.Store.Use.{Fresh, Entries}
use Rattle.disk_definitions.specs.Naming.{Naming}
use Rattle.disk_definitions.specs.Edits.{Edit}
use Rattle.disk_definitions.specs.Changes.{take_entry, replace_entry, freed}
use Rattle.disk_definitions.specs.Ask.{Got, ReadInode, bind, run}
use Rattle.disk_definitions.specs.Walks.{Spot, walk}
use Rattle.disk_definitions.specs.Walks.Spot.{AtRoot, AtName, AtGap, Lost}
use Rattle.disk_definitions.specs.Plans.{Hand, Finish, Room, enter, refused, find_room, finish_in, is_full}
use Rattle.disk_definitions.specs.Plans.Plan.{Finishes}
use Rattle.disk_definitions.specs.Plans.Room.{Inside, InBlock, NoRoom}
use Rattle.disk_definitions.specs.NamePlans.{fewer, fewer_segments, finish_over, Moving, renamed_entry, moved_onto_by, replacing_node, moving_onto, moved_within, moved_between, moving_in, moving_to, goes_through, renaming_to, renaming, plan_renamed}
use Rattle.plan_laws.proofs.Asking.{run-bind, run-segments}
use Rattle.plan_laws.proofs.Standing.{HasKind, DiskStands}
use Rattle.plan_laws.proofs.WalksFine.{SpotStands, walk_stands}
use Rattle.plan_laws.proofs.RoomsFine.{wider}
use Rattle.line_histories.proofs.Fine.{both_fine, take_fine, replace_fine, enter_fine, fewer_fine}
use Rattle.line_histories.proofs.Names.{IsFinePlan, Ends, none_ends, room_ends}

module _ (P : Finish → Edit → Type 0) (h : Hand) (s : Store) (n : Naming) (disk : DiskStands h s n) where
  module _ (m : Moving) (source : m.directory.kind ≡ 2) where
    -- ---- onto a name that is there
    onto_fine : (i : ℕ) (x : StoredNode) (name : List ℕ) (q j : ℕ) (y : StoredNode) (dirs : List ℕ) → s.inode j ≡ Some y → Ends P s (finish_over (fewer_segments j y) (moved_onto_by m i x name q j y dirs))
    onto_fine i x name q j y dirs node =
        let f = moved_onto_by m i x name q j y dirs in
        let first = take_entry m.dir m.directory m.slot in
        let second = replace_entry x q (renamed_entry m name) in
        subst (IsFinePlan P s) (sym (run-segments (fewer_segments j y) (Got (Finishes f)) s)) (
          freed y.kind,
          both_fine (P f) s f.edits (freed y.kind) first (second ++ fewer j y) (take_fine (P f) s f.edits (freed y.kind) m.dir m.directory m.slot source)
              (both_fine (P f) s f.edits (freed y.kind) second (fewer j y) (replace_fine (P f) s f.edits (freed y.kind) x q (renamed_entry m name)) (fewer_fine (P f) s f.edits j y node)),
        )

    replacing_fine : (i : ℕ) (x : StoredNode) (name : List ℕ) (q j : ℕ) (y : StoredNode) (dirs : List ℕ) → s.inode j ≡ Some y → Ends P s (replacing_node m i x name q j dirs (Some y))
    replacing_fine i x name q j y dirs node = go (y.kind == 2 && nat_lt 0 y.size)
      where
        go : (b : Bool) → Ends P s (if b then refused reply.NotEmpty (dirs ++ j ∷ []) else finish_over (fewer_segments j y) (moved_onto_by m i x name q j y dirs))
        go true = (Fresh, tt)
        go false = onto_fine i x name q j y dirs node

    moving_onto_fine : (i : ℕ) (x : StoredNode) (name : List ℕ) (q : ℕ) (e : StoredEntry) (dirs : List ℕ) → HasKind s e.inode e.kind → Ends P s (moving_onto m i x name q e dirs)
    moving_onto_fine i x name q e dirs k = go (e.inode == m.entry.inode) (m.entry.kind == 2 && not (e.kind == 2)) (e.kind == 2 && not (m.entry.kind == 2))
      where
        go : (a b c : Bool) → Ends P s (if a then refused reply.Ok dirs else (if b then refused reply.NotDir dirs else (if c then refused reply.IsDir dirs else ReadInode e.inode (replacing_node m i x name q e.inode dirs))))
        go true b c = (Fresh, tt)
        go false true c = (Fresh, tt)
        go false false true = (Fresh, tt)
        go false false false = subst (λ o. Ends P s (replacing_node m i x name q e.inode dirs o)) (sym k.is) (replacing_fine i x name q e.inode k.node dirs k.is)

    -- ---- to a name that isn't there
    module _ (i : ℕ) (x : StoredNode) (two : x.kind ≡ 2) (name dirs : List ℕ) where
      between_fine : (room : Room) → Ends P s (finish_in h room (moved_between m i x name dirs room))
      between_fine room =
          let f = moved_between m i x name dirs room in
          room_ends P h s n disk room f (
            Entries,
            both_fine (P f) s f.edits Entries (enter i x (renamed_entry m name) room) (take_entry m.dir m.directory m.slot) (enter_fine (P f) s f.edits i x (renamed_entry m name) room two)
                (take_fine (P f) s f.edits Entries m.dir m.directory m.slot source),
          )

      moving_in_fine : (room : Room) → Ends P s (moving_in h m i x name dirs room)
      moving_in_fine NoRoom = none_ends P h s n disk reply.NoDirBlock dirs
      moving_in_fine (Inside q) = between_fine (Inside q)
      moving_in_fine (InBlock k) = between_fine (InBlock k)

    moving_to_fine : (i : ℕ) (x : StoredNode) (name dirs : List ℕ) → x.kind ≡ 2 → Ends P s (moving_to h m i x name dirs)
    moving_to_fine i x name dirs two = go (i == m.dir) (is_full x)
      where
        go : (a b : Bool) → Ends P s (if a then Got (Finishes (moved_within m name dirs)) else (if b then refused reply.DirFull dirs else bind (find_room h x) (moving_in h m i x name dirs)))
        go true b = (Entries, replace_fine (P (moved_within m name dirs)) s (moved_within m name dirs).edits Entries m.directory m.slot (renamed_entry m name))
        go false true = (Fresh, tt)
        go false false = subst (IsFinePlan P s) (sym (run-bind (find_room h x) (moving_in h m i x name dirs) s)) (moving_in_fine i x two name dirs (run (find_room h x) s))

    -- ---- by where the new name leads
    renaming_to_fine : (to_dirs dirs : List ℕ) (v : Spot) → SpotStands h s n disk dirs v → Ends P s (renaming_to h m to_dirs dirs v)
    renaming_to_fine to_dirs dirs AtRoot t = (Fresh, tt)
    renaming_to_fine to_dirs dirs (Lost r) t = (Fresh, tt)
    renaming_to_fine to_dirs dirs (AtName i x name q e) t = go (goes_through m to_dirs)
      where
        go : (b : Bool) → Ends P s (if b then refused reply.Inval dirs else moving_onto m i x name q e dirs)
        go true = (Fresh, tt)
        go false = moving_onto_fine i x name q e dirs t.2
    renaming_to_fine to_dirs dirs (AtGap i x name) t = go (goes_through m to_dirs)
      where
        go : (b : Bool) → Ends P s (if b then refused reply.Inval dirs else moving_to h m i x name dirs)
        go true = (Fresh, tt)
        go false = moving_to_fine i x name dirs t.kind_is

  renaming_fine : (to : List (List ℕ)) (dirs : List ℕ) (v : Spot) → SpotStands h s n disk dirs v → Ends P s (renaming h to dirs v)
  renaming_fine to dirs AtRoot t = (Fresh, tt)
  renaming_fine to dirs (Lost r) t = (Fresh, tt)
  renaming_fine to dirs (AtGap i x name) t = (Fresh, tt)
  renaming_fine to dirs (AtName i x name q e) t =
      let m : Moving = record { dir = i; directory = x; slot = q; entry = e } in
      let w = run (walk to) s in
      subst (IsFinePlan P s) (sym (run-bind (walk to) (λ w. renaming_to h m w.dirs (dirs ++ w.dirs) w.spot) s))
      (renaming_to_fine m t.0.kind_is w.dirs (dirs ++ w.dirs) w.spot (wider h s n disk dirs w.dirs w.spot (walk_stands h s n disk to).spot))

  pub rename_fine : (path to : List (List ℕ)) → Ends P s (plan_renamed h path to)
  rename_fine [] to = (Fresh, tt)
  rename_fine (name ∷ names) [] = (Fresh, tt)
  rename_fine (name ∷ names) (new ∷ news) =
      let w = run (walk (name ∷ names)) s in
      subst (IsFinePlan P s) (sym (run-bind (walk (name ∷ names)) (λ w. renaming h (new ∷ news) w.dirs w.spot) s)) (renaming_fine (new ∷ news) w.dirs w.spot (walk_stands h s n disk (name ∷ names)).spot)

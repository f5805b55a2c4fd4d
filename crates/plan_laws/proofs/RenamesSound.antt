-- The edits of the plan of rename are sound, over the disk of a tree.
use Rattle.std.proofs.Common.{ℕ, ◌≡◌, ◌≢◌, ◌+◌, ◌==◌, ◌&&◌, not, Bool, true, false, nat_lt, nat_eq, if◌then◌else◌, Some, List, [], ◌∷◌, ◌++◌, refl, sym, ◌∙◌, subst}
use Rattle.std.proofs.lemmas.Bool.{eqb-false}
use Rattle.frang_base.specs.declared.reply.Reply.TheVariants as reply
use Rattle.frang_base.proofs.Basics.{put_other}
use Rattle.disk_definitions.specs.Store.{Store, StoredNode, StoredEntry}
use Rattle.disk_definitions.specs.Naming.{Naming, Nodes, Pictures}
use Rattle.disk_definitions.specs.Edits.{edited_all}
use Rattle.disk_definitions.specs.Changes.{take_entry, replace_entry, grow}
use Rattle.disk_definitions.specs.Ask.{Got, ReadInode, bind, run}
use Rattle.disk_definitions.specs.Walks.{Spot, walk}
use Rattle.disk_definitions.specs.Walks.Spot.{AtRoot, AtName, AtGap, Lost}
use Rattle.disk_definitions.specs.Plans.{Hand, Room, enter, refused, find_room, finish_in, is_full, with_block}
use Rattle.disk_definitions.specs.Plans.Plan.{Finishes}
use Rattle.disk_definitions.specs.Plans.Room.{Inside, InBlock, NoRoom}
use Rattle.disk_definitions.specs.NamePlans.{fewer, fewer_segments, finish_over, Moving, renamed_entry, moved_onto_by, replacing_node, moving_onto, moved_within, moved_between, moving_in, moving_to, goes_through, renaming_to, renaming, plan_renamed}
use Rattle.plan_laws.proofs.Asking.{run-bind, run-segments}
use Rattle.plan_laws.proofs.Standing.{HasKind, DiskStands}
use Rattle.plan_laws.proofs.WalksFine.{RoomStands, room_stands, SpotStands, walk_stands}
use Rattle.plan_laws.proofs.RoomsFine.{wider}
use Rattle.plan_laws.proofs.Joining.{then_quiet}
use Rattle.plan_laws.proofs.Sound.{StandsFor, none_sound, take_sound, replace_sound, enter_sound}
use Rattle.plan_laws.proofs.OnDisk.{HasSameNodes, itself, taken_same, stands_for, free_room, may_go, fewer_sound, fewer_frees, before_freeing}
use Rattle.plan_laws.proofs.NamesSound.{IsSoundPlan, Ends, then_sound, none_ends, owner_of, room_ends}

-- an entry that comes leaves the inodes of other nodes
enter_other : (s : Store) (i : ℕ) (x : StoredNode) (e : StoredEntry) (room : Room) (a : ℕ) → a ≢ i → (edited_all s (enter i x e room)).inode a ≡ s.inode a
enter_other s i x e NoRoom a d = refl
enter_other s i x e (Inside q) a d = put_other s.inode i (Some (record x { size = x.size + 1 })) a d
enter_other s i x e (InBlock k) a d =
    let y = with_block x k in
    let grown = edited_all s (grow i x k) in
    put_other grown.inode i (Some (record y { size = y.size + 1 })) a d ∙ put_other s.inode i (Some y) a d

module _ (h : Hand) (s : Store) (at : Nodes) (n : Naming) (g : Pictures s at n) (disk : DiskStands h s n) where
  module _ (m : Moving) (source : s.inode m.dir ≡ Some m.directory) where
    -- ---- onto a name that is there
    onto_sound : (i : ℕ) (x : StoredNode) (name : List ℕ) (q j : ℕ) (y : StoredNode) (dirs : List ℕ) → s.inode j ≡ Some y → Ends s (finish_over (fewer_segments j y) (moved_onto_by m i x name q j y dirs))
    onto_sound i x name q j y dirs node =
        let f = moved_onto_by m i x name q j y dirs in
        let first = take_entry m.dir m.directory m.slot in
        let second = replace_entry x q (renamed_entry m name) in
        let t = edited_all s first in
        let u = edited_all t second in
        let kept = taken_same s m.dir m.directory m.slot source in
        let same : HasSameNodes s u = record { back = kept.back; uses = kept.uses } in
        let taken = take_sound s m.dir m.directory m.slot (stands_for s at n g s (itself s) m.dir m.directory source) in
        let later = then_sound t second (fewer j y) (replace_sound t x q (renamed_entry m name)) (fewer_sound u j y (may_go s at n g u same j y node))
        (before_freeing second (fewer j y) (record { bits = λ a. refl; uses = λ k. refl; larges = λ k. refl }) (fewer_frees u j y)) in
        subst (IsSoundPlan s) (sym (run-segments (fewer_segments j y) (Got (Finishes f)) s))
        (then_sound s first (second ++ fewer j y) taken later (before_freeing first (second ++ fewer j y) (record { bits = λ a. refl; uses = λ k. refl; larges = λ k. refl })
        (let r = fewer_frees u j y in record { uses = λ k w e. r.uses k w e; larges = λ k e. r.larges k e })))

    replacing_sound : (i : ℕ) (x : StoredNode) (name : List ℕ) (q j : ℕ) (y : StoredNode) (dirs : List ℕ) → s.inode j ≡ Some y → Ends s (replacing_node m i x name q j dirs (Some y))
    replacing_sound i x name q j y dirs node = go (y.kind == 2 && nat_lt 0 y.size)
      where
        go : (b : Bool) → Ends s (if b then refused reply.NotEmpty (dirs ++ j ∷ []) else finish_over (fewer_segments j y) (moved_onto_by m i x name q j y dirs))
        go true = none_sound s
        go false = onto_sound i x name q j y dirs node

    moving_onto_sound : (i : ℕ) (x : StoredNode) (name : List ℕ) (q : ℕ) (e : StoredEntry) (dirs : List ℕ) → HasKind s e.inode e.kind → Ends s (moving_onto m i x name q e dirs)
    moving_onto_sound i x name q e dirs k = go (e.inode == m.entry.inode) (m.entry.kind == 2 && not (e.kind == 2)) (e.kind == 2 && not (m.entry.kind == 2))
      where
        go : (a b c : Bool) → Ends s (if a then refused reply.Ok dirs else (if b then refused reply.NotDir dirs else (if c then refused reply.IsDir dirs else ReadInode e.inode (replacing_node m i x name q e.inode dirs))))
        go true b c = none_sound s
        go false true c = none_sound s
        go false false true = none_sound s
        go false false false = subst (λ o. Ends s (replacing_node m i x name q e.inode dirs o)) (sym k.is) (replacing_sound i x name q e.inode k.node dirs k.is)

    -- ---- to a name that isn't there
    module _ (i : ℕ) (x : StoredNode) (is : s.inode i ≡ Some x) (name dirs : List ℕ) (apart : i ≢ m.dir) where
      between_sound : (room : Room) → RoomStands h s n disk x room → Ends s (finish_in h room (moved_between m i x name dirs room))
      between_sound room r =
          let first = enter i x (renamed_entry m name) room in
          let second = take_entry m.dir m.directory m.slot in
          let t = edited_all s first in
          let left : StandsFor t m.dir m.directory = λ z e. stands_for s at n g s (itself s) m.dir m.directory source z (sym (enter_other s i x (renamed_entry m name) room m.dir (λ q. apart (sym q))) ∙ e) in
          room_ends h s at n g disk room (moved_between m i x name dirs room)
          (then_sound s first second (enter_sound s i x (renamed_entry m name) room (stands_for s at n g s (itself s) i x is) (free_room s at n g s (itself s) room (owner_of h s at n g disk x room r)))
          (take_sound t m.dir m.directory m.slot left) (then_quiet first second (record { bits = λ a. refl; uses = λ k. refl; larges = λ k. refl })))

      moving_in_sound : (room : Room) → RoomStands h s n disk x room → Ends s (moving_in h m i x name dirs room)
      moving_in_sound NoRoom r = none_ends h s at n g disk reply.NoDirBlock dirs
      moving_in_sound (Inside q) r = between_sound (Inside q) r
      moving_in_sound (InBlock k) r = between_sound (InBlock k) r

    moving_to_sound : (i : ℕ) (x : StoredNode) (name dirs : List ℕ) → s.inode i ≡ Some x → Ends s (moving_to h m i x name dirs)
    moving_to_sound i x name dirs is = go (nat_eq i m.dir) refl (is_full x)
      where
        go : (a : Bool) → nat_eq i m.dir ≡ a → (b : Bool) → Ends s (if a then Got (Finishes (moved_within m name dirs)) else (if b then refused reply.DirFull dirs else bind (find_room h x) (moving_in h m i x name dirs)))
        go true e b = replace_sound s m.directory m.slot (renamed_entry m name)
        go false e true = none_sound s
        go false e false = subst (IsSoundPlan s) (sym (run-bind (find_room h x) (moving_in h m i x name dirs) s))
            (moving_in_sound i x is name dirs (eqb-false i m.dir e) (run (find_room h x) s) (room_stands h s n disk x))

    -- ---- by where the new name leads
    renaming_to_sound : (to_dirs dirs : List ℕ) (v : Spot) → SpotStands h s n disk dirs v → Ends s (renaming_to h m to_dirs dirs v)
    renaming_to_sound to_dirs dirs AtRoot t = none_sound s
    renaming_to_sound to_dirs dirs (Lost r) t = none_sound s
    renaming_to_sound to_dirs dirs (AtName i x name q e) t = go (goes_through m to_dirs)
      where
        go : (b : Bool) → Ends s (if b then refused reply.Inval dirs else moving_onto m i x name q e dirs)
        go true = none_sound s
        go false = moving_onto_sound i x name q e dirs t.2
    renaming_to_sound to_dirs dirs (AtGap i x name) t = go (goes_through m to_dirs)
      where
        go : (b : Bool) → Ends s (if b then refused reply.Inval dirs else moving_to h m i x name dirs)
        go true = none_sound s
        go false = moving_to_sound i x name dirs t.is

  renaming_sound : (to : List (List ℕ)) (dirs : List ℕ) (v : Spot) → SpotStands h s n disk dirs v → Ends s (renaming h to dirs v)
  renaming_sound to dirs AtRoot t = none_sound s
  renaming_sound to dirs (Lost r) t = none_sound s
  renaming_sound to dirs (AtGap i x name) t = none_sound s
  renaming_sound to dirs (AtName i x name q e) t =
      let m : Moving = record { dir = i; directory = x; slot = q; entry = e } in
      let w = run (walk to) s in
      subst (IsSoundPlan s) (sym (run-bind (walk to) (λ w. renaming_to h m w.dirs (dirs ++ w.dirs) w.spot) s))
      (renaming_to_sound m t.0.is w.dirs (dirs ++ w.dirs) w.spot (wider h s n disk dirs w.dirs w.spot (walk_stands h s n disk to).spot))

  pub rename_sound : (path to : List (List ℕ)) → Ends s (plan_renamed h path to)
  rename_sound [] to = none_sound s
  rename_sound (name ∷ names) [] = none_sound s
  rename_sound (name ∷ names) (new ∷ news) =
      let w = run (walk (name ∷ names)) s in
      subst (IsSoundPlan s) (sym (run-bind (walk (name ∷ names)) (λ w. renaming h (new ∷ news) w.dirs w.spot) s)) (renaming_sound (new ∷ news) w.dirs w.spot (walk_stands h s n disk (name ∷ names)).spot)

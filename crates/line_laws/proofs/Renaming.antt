-- The plan of rename tells what it does.
use Rattle.std.proofs.Common.{ℕ, ◌≡◌, ◌≢◌, ◌<◌, ◌-◌, ◌*◌, ◌/◌, ◌%◌, ◌==◌, ◌&&◌, not, inr, Bool, true, false, Option, Some, None, List, [], ◌∷◌, ◌++◌, if◌then◌else◌, nat_lt, length, refl, sym, ◌∙◌, ap, ap₂, subst, arith, is_some, eqb-true}
use Rattle.std.proofs.lemmas.Bool.{eqb-false, lt-ltb}
use Rattle.frang_base.specs.declared.limits.TheConstants.{BLOCK_ENTRIES, KIND_DIRECTORY}
use Rattle.frang_base.specs.declared.reply.Reply.TheVariants as reply
use Rattle.frang_base.proofs.Basics.{put_same}
use Rattle.tree_definitions.specs.declared.node.Node.TheVariants.{Dir}
use Rattle.tree_definitions.specs.Entries.{Entries, entry_at}
use Rattle.tree_definitions.specs.Tree.{FileTree, node_at}
use Rattle.tree_definitions.specs.Place.{Free, Taken, place}
use Rattle.tree_definitions.specs.Apply.{Applied, renamed_to, renamed_from, renamed}
use Rattle.tree_definitions.specs.Touched.{is_ok}
use Rattle.tree_laws.proofs.Keeping.{names_nodes}
use Rattle.disk_definitions.specs.Store.{Store, StoredNode, StoredEntry}
use Rattle.disk_definitions.specs.Store.Use.{Entries as OfEntries}
use Rattle.disk_definitions.specs.Naming.{Naming, find_in, room_in, entry_of}
use Rattle.disk_definitions.specs.Standing.{IsMetadata}
use Rattle.disk_definitions.specs.Edits.{Edit, edited_all}
use Rattle.disk_definitions.specs.Changes.{take_entry, replace_entry}
use Rattle.disk_definitions.proofs.Kept.{inode_is}
use Rattle.disk_definitions.proofs.Puts.{put2_same}
use Rattle.disk_definitions.proofs.Rooms.{which_block, dir_use}
use Rattle.disk_definitions.specs.Ask.{Got, ReadInode, bind, run}
use Rattle.disk_definitions.specs.Walks.{AtName, AtGap, walk}
use Rattle.disk_definitions.specs.Plans.{Hand, Room, enter, find_room, is_full, refused}
use Rattle.disk_definitions.specs.Plans.Plan.{Finishes}
use Rattle.disk_definitions.specs.Plans.Room.{Inside, InBlock, NoRoom}
use Rattle.disk_definitions.specs.NamePlans.{Moving, renamed_entry, fewer, fewer_segments, finish_over, moved_onto_by, replacing_node, moved_within, moved_between, moving_in, goes_through, renaming_to, renaming, plan_renamed}
use Rattle.disk_definitions.specs.Meets.{IsOfTree}
use Rattle.plan_laws.proofs.Asking.{run-bind, run-segments}
use Rattle.plan_laws.proofs.Cases.{inode_by, by_spot}
use Rattle.plan_laws.proofs.MovingOnto.{moving_of}
use Rattle.plan_laws.proofs.Quiet.{IsQuiet, walk_quiet}
use Rattle.plan_laws.proofs.Tests.{own_inode}
use Rattle.plan_laws.proofs.Walking.{walks_lead}
use Rattle.line_laws.proofs.Telling.{NameTells, Renames, Stays, Apart, ok_said, refuse_tells, none_tells, finished_tells, sized}
use Rattle.line_laws.proofs.ChangedNames.{has_some, renamed_free_names, renamed_stays, renamed_onto_names}
use Rattle.line_laws.proofs.Entering.{then_edited, IsRoom, entered, taken_else, fewer_elsewhere, far_inode}

module _ (h : Hand) (s : Store) (tree : FileTree) (n : Naming) (of : IsOfTree s tree n) where
  -- ---- what is moved, and how the walk to its new name goes
  module _ (path : List (List ℕ)) (dirs : List ℕ) (from fblocks : ℕ) (fentries : Entries) (name : List ℕ) (b : ℕ) (fis : node_at tree from ≡ Some (Dir fentries fblocks)) (fhad : entry_at fentries name ≡ Some b) where
    abbrev m : Moving
    m = moving_of n from fblocks fentries name b

    there : is_some (node_at tree b) ≡ true
    there = names_nodes tree of.well_formed from fentries fblocks name b fis fhad

    abbrev less : StoredNode
    less = record m.directory { size = m.directory.size - 1 }

    fewer_there : length fentries - 1 ≡ length fentries → ⊥
    fewer_there same = let some : 0 < length fentries = has_some fentries name b fhad in omega arith

    -- ---- to a name that isn't there
    module _ (d blocks : ℕ) (entries : Entries) (new : List ℕ) (is : node_at tree d ≡ Some (Dir entries blocks)) (absent : entry_at entries new ≡ None) where
      abbrev a : Applied
      a = renamed_to tree from name b path (Free d entries blocks new)

      abbrev x : StoredNode
      x = inode_by n d (Dir entries blocks)

      -- in its own directory its place has another name
      inside : n.spot from name < BLOCK_ENTRIES * fblocks
      inside = subst (λ o. n.spot from name < BLOCK_ENTRIES * room_in o) fis (of.pictures.names from b name (ap (λ o. find_in o name) fis ∙ fhad)).0

      own_block : m.directory.small (m.slot / BLOCK_ENTRIES) ≡ n.block from (m.slot / BLOCK_ENTRIES)
      own_block = rw (lt-ltb (m.slot / BLOCK_ENTRIES) fblocks (which_block m.slot fblocks inside)) refl

      in_use : s.use_of (m.directory.small (m.slot / BLOCK_ENTRIES)) ≡ OfEntries
      in_use = ap s.use_of own_block ∙ dir_use s (node_at tree) n of.pictures from m.slot (subst (λ o. m.slot < BLOCK_ENTRIES * room_in o) (sym fis) inside)

      was : s.place (m.directory.small (m.slot / BLOCK_ENTRIES)) (m.slot % BLOCK_ENTRIES) ≡ Some (entry_of n name b)
      was = ap (λ k. s.place k (m.slot % BLOCK_ENTRIES)) own_block ∙ (of.pictures.names from b name (ap (λ o. find_in o name) fis ∙ fhad)).1

      other_name : d ≡ from → new ≢ name
      other_name q e =
          let same : find_in (node_at tree d) new ≡ find_in (node_at tree from) name = ap₂ (λ k w. find_in (node_at tree k) w) q e in
          let z : None ≡ Some b = sym (ap (λ o. find_in o new) is ∙ absent) ∙ same ∙ ap (λ o. find_in o name) fis ∙ fhad in cc

      within_apart : d ≡ from → Apart s (edited_all s (replace_entry m.directory m.slot (renamed_entry m new)))
      within_apart q =
          let k = m.directory.small (m.slot / BLOCK_ENTRIES) in
          let p = m.slot % BLOCK_ENTRIES in
          let e = renamed_entry m new in
          inr (record {
            block = k;
            slot = p;
            inside = omega arith;
            metadata = subst IsMetadata (sym in_use) tt;
            differs = λ f.
                let z : Some e ≡ Some (entry_of n name b) = sym (put2_same s.place k p (Some e)) ∙ f ∙ was in
                let same : e ≡ entry_of n name b = cc in
                other_name q (ap (λ (c : StoredEntry). c.name) same);
          })

      within_tells : d ≡ from → NameTells tree a s (Finishes (moved_within m new dirs))
      within_tells q said = Renames refl (renamed_free_names tree from name b path d entries blocks new is absent (ok_said a.answer said)) (within_apart q)

      -- another directory has one more
      between_apart : d ≢ from → (room : Room) → IsRoom room → Apart s (edited_all s (enter (n.inode d) x (renamed_entry m new) room ++ take_entry m.dir m.directory m.slot))
      between_apart far room is_room =
          let puts = enter (n.inode d) x (renamed_entry m new) room in
          let takes = take_entry m.dir m.directory m.slot in
          let t = edited_all s puts in
          let r = entered s (n.inode d) x (renamed_entry m new) room is_room in
          let away = far_inode s (node_at tree) n of.pictures d from (ap is_some is) (ap is_some fis) far in
          sized s (edited_all s (puts ++ takes)) (n.inode d) x r.node (inode_is s (node_at tree) n of.pictures d (Dir entries blocks) is)
          (then_edited s puts takes (n.inode d) (Some r.node) (taken_else t m.dir m.directory m.slot (n.inode d) away ∙ r.is)) (λ same. let more = r.more in omega arith)

      between_tells : d ≢ from → (room : Room) → IsRoom room → NameTells tree a s (Finishes (moved_between m (n.inode d) x new dirs room))
      between_tells far room is_room said = Renames refl (renamed_free_names tree from name b path d entries blocks new is absent (ok_said a.answer said)) (between_apart far room is_room)

      room_case : d ≢ from → (room : Room) → NameTells tree a s (run (moving_in h m (n.inode d) x new dirs room) s)
      room_case far NoRoom = none_tells tree a s h reply.NoDirBlock dirs refl
      room_case far (Inside q) = finished_tells tree a s h (Inside q) (moved_between m (n.inode d) x new dirs (Inside q)) (between_tells far (Inside q) tt)
      room_case far (InBlock k) = finished_tells tree a s h (InBlock k) (moved_between m (n.inode d) x new dirs (InBlock k)) (between_tells far (InBlock k) tt)

      gap_tells : (to_dirs : List ℕ) → NameTells tree a s (run (renaming_to h m to_dirs dirs (AtGap (n.inode d) x new)) s)
      gap_tells to_dirs = go (goes_through m to_dirs) (n.inode d == m.dir) refl (is_full x)
        where
          go : (through same : Bool) → n.inode d == m.dir ≡ same → (full : Bool) → NameTells tree a s
              (run (if through then refused reply.Inval dirs else (if same then Got (Finishes (moved_within m new dirs)) else (if full then refused reply.DirFull dirs else bind (find_room h x) (moving_in h m (n.inode d) x new dirs)))) s)
          go true same q full = refuse_tells tree a s reply.Inval dirs refl
          go false true q full = within_tells (own_inode s (node_at tree) n of.pictures d from (ap is_some is) (ap is_some fis) (eqb-true (n.inode d) m.dir q))
          go false false q true = refuse_tells tree a s reply.DirFull dirs refl
          go false false q false =
              rw (run-bind (find_room h x) (moving_in h m (n.inode d) x new dirs) s) (room_case (λ e. eqb-false (n.inode d) m.dir q (ap n.inode e)) (run (find_room h x) s))

    -- ---- onto a name that is there
    module _ (d blocks : ℕ) (entries : Entries) (new : List ℕ) (old : ℕ) (is : node_at tree d ≡ Some (Dir entries blocks)) (had : entry_at entries new ≡ Some old) where
      abbrev c : Applied
      c = renamed_to tree from name b path (Taken d entries blocks new old)

      abbrev z : StoredNode
      z = inode_by n d (Dir entries blocks)

      old_there : is_some (node_at tree old) ≡ true
      old_there = names_nodes tree of.well_formed d entries blocks new old is had

      -- the old directory has one less
      onto_apart : (y : StoredNode) → (old ≡ from → ⊥) → Apart s (edited_all s (take_entry m.dir m.directory m.slot ++ replace_entry z (n.spot d new) (renamed_entry m new) ++ fewer (n.inode old) y))
      onto_apart y far =
          let changes : List Edit = take_entry m.dir m.directory m.slot ++ replace_entry z (n.spot d new) (renamed_entry m new) in
          let t = edited_all s changes in
          let away = far_inode s (node_at tree) n of.pictures from old (ap is_some fis) old_there (λ q. far (sym q)) in
          sized s (edited_all s (changes ++ fewer (n.inode old) y)) m.dir m.directory less (inode_is s (node_at tree) n of.pictures from (Dir fentries fblocks) fis)
          (then_edited s changes (fewer (n.inode old) y) m.dir (Some less) (fewer_elsewhere t (n.inode old) y m.dir away ∙ put_same s.inode m.dir (Some less))) fewer_there

      onto_tells : old ≢ b → (y : StoredNode) → NameTells tree c s (run (finish_over (fewer_segments (n.inode old) y) (moved_onto_by m (n.inode d) z new (n.spot d new) (n.inode old) y dirs)) s)
      onto_tells other y = rw (run-segments (fewer_segments (n.inode old) y) (Got (Finishes (moved_onto_by m (n.inode d) z new (n.spot d new) (n.inode old) y dirs))) s)
          (λ said. let r = renamed_onto_names tree from name b path fentries fblocks fis fhad d entries blocks new old is had other (ok_said c.answer said) in Renames refl r.names (onto_apart y r.apart))

      read_case : old ≢ b → (o : Option StoredNode) → NameTells tree c s (run (replacing_node m (n.inode d) z new (n.spot d new) (n.inode old) dirs o) s)
      read_case other None = refuse_tells tree c s reply.NoEnt dirs refl
      read_case other (Some y) = go (y.kind == KIND_DIRECTORY && nat_lt 0 y.size)
        where
          go : (some : Bool) → NameTells tree c s (run (if some then refused reply.NotEmpty (dirs ++ n.inode old ∷ []) else finish_over (fewer_segments (n.inode old) y) (moved_onto_by m (n.inode d) z new (n.spot d new) (n.inode old) y dirs)) s)
          go true = refuse_tells tree c s reply.NotEmpty (dirs ++ n.inode old ∷ []) refl
          go false = onto_tells other y

      name_case : (to_dirs : List ℕ) → NameTells tree c s (run (renaming_to h m to_dirs dirs (AtName (n.inode d) z new (n.spot d new) (entry_of n new old))) s)
      name_case to_dirs = go (goes_through m to_dirs) (n.inode old == n.inode b) refl (n.kind b == KIND_DIRECTORY && not (n.kind old == KIND_DIRECTORY)) (n.kind old == KIND_DIRECTORY && not (n.kind b == KIND_DIRECTORY))
        where
          go : (through same : Bool) → n.inode old == n.inode b ≡ same → (plain dir : Bool) → NameTells tree c s
              (run (if through then refused reply.Inval dirs else (if same then refused reply.Ok dirs else (if plain then refused reply.NotDir dirs else (if dir then refused reply.IsDir dirs
              else ReadInode (n.inode old) (replacing_node m (n.inode d) z new (n.spot d new) (n.inode old) dirs))))) s)
          go true same q plain dir = refuse_tells tree c s reply.Inval dirs refl
          go false true q plain dir =
              λ said. Stays refl refl (renamed_stays tree from name b path d entries blocks new old (own_inode s (node_at tree) n of.pictures old b old_there there (eqb-true (n.inode old) (n.inode b) q)))
          go false false q true dir = refuse_tells tree c s reply.NotDir dirs refl
          go false false q false true = refuse_tells tree c s reply.IsDir dirs refl
          go false false q false false = read_case (λ e. eqb-false (n.inode old) (n.inode b) q (ap n.inode e)) (s.inode (n.inode old))

  -- ---- by where the new name leads
  from_name : (to : List (List ℕ)) (dirs : List ℕ) (from fblocks : ℕ) (fentries : Entries) (name : List ℕ) (b : ℕ) → node_at tree from ≡ Some (Dir fentries fblocks) → entry_at fentries name ≡ Some b
      → NameTells tree (renamed_to tree from name b to (place tree to)) s (run (renaming h to dirs (AtName (n.inode from) (inode_by n from (Dir fentries fblocks)) name (n.spot from name) (entry_of n name b))) s)
  from_name to dirs from fblocks fentries name b fis fhad =
      let w = run (walk to) s in
      let m = moving_of n from fblocks fentries name b in
      rw (run-bind (walk to) (λ w. renaming_to h m w.dirs (dirs ++ w.dirs) w.spot) s)
      (by_spot s (node_at tree) n of.pictures (λ v p. IsQuiet is_ok refl refl v → NameTells tree (renamed_to tree from name b to p) s (run (renaming_to h m w.dirs (dirs ++ w.dirs) v) s))
      (λ quiet. refuse_tells tree _ s reply.Inval (dirs ++ w.dirs) refl)
      (λ r quiet. refuse_tells tree _ s r (dirs ++ w.dirs) quiet)
      (λ d blocks entries new old is had quiet. name_case to (dirs ++ w.dirs) from fblocks fentries name b fis fhad d blocks entries new old is had w.dirs)
      (λ d blocks entries new is absent quiet. gap_tells to (dirs ++ w.dirs) from fblocks fentries name b fis fhad d blocks entries new is absent w.dirs)
      w.spot (place tree to) (walks_lead s tree n to of).0 (walk_quiet is_ok refl refl s to))

  pub plan_renamed_tells : (path to : List (List ℕ)) → NameTells tree (renamed tree path to) s (run (plan_renamed h path to) s)
  plan_renamed_tells [] to = refuse_tells tree _ s reply.Inval [] refl
  plan_renamed_tells (p ∷ ps) [] = refuse_tells tree _ s reply.Inval [] refl
  plan_renamed_tells (p ∷ ps) (q ∷ qs) =
      let w = run (walk (p ∷ ps)) s in
      rw (run-bind (walk (p ∷ ps)) (λ w. renaming h (q ∷ qs) w.dirs w.spot) s)
      (by_spot s (node_at tree) n of.pictures (λ v z. IsQuiet is_ok refl refl v → NameTells tree (renamed_from tree z (q ∷ qs)) s (run (renaming h (q ∷ qs) w.dirs v) s))
      (λ quiet. refuse_tells tree _ s reply.Inval w.dirs refl)
      (λ r quiet. refuse_tells tree _ s r w.dirs quiet)
      (λ d blocks entries name b is had quiet. from_name (q ∷ qs) w.dirs d blocks entries name b is had)
      (λ d blocks entries name is absent quiet. refuse_tells tree _ s reply.NoEnt w.dirs refl)
      w.spot (place tree (p ∷ ps)) (walks_lead s tree n (p ∷ ps) of).0 (walk_quiet is_ok refl refl s (p ∷ ps)))

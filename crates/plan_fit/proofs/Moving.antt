-- What rename does with a name, once both places are known, is fit.
use Rattle.std.proofs.Common.{◌≡◌, ℕ, ◌-◌, ◌*◌, ◌/◌, ◌≤◌, inl, Bool, true, false, not, ◌&&◌, ◌==◌, nat_lt, if◌then◌else◌, Some, List, [], ◌∷◌, ◌++◌, length, refl, sym, ◌∙◌, ap, subst, arith}
use Rattle.frang_base.specs.Name.{is_name}
use Rattle.frang_base.specs.declared.reply.Reply.TheVariants as reply
use Rattle.frang_base.proofs.Tests.{some_there}
use Rattle.tree_definitions.specs.declared.node.Node.{Node}
use Rattle.tree_definitions.specs.declared.node.Node.TheVariants.{Dir}
use Rattle.tree_definitions.specs.Entries.{Entries, entry_at}
use Rattle.tree_definitions.specs.Tree.{FileTree, node_at}
use Rattle.tree_laws.proofs.Keeping.{names_nodes}
use Rattle.disk_definitions.specs.Store.{Store, StoredNode}
use Rattle.disk_definitions.specs.Naming.{Naming, entry_of}
use Rattle.disk_definitions.specs.Edits.{edited_all}
use Rattle.disk_definitions.specs.Changes.{take_entry, replace_entry}
use Rattle.disk_definitions.proofs.Kept.{inode_is}
use Rattle.disk_definitions.proofs.Puts.{edited_append}
use Rattle.disk_definitions.specs.Ask.{Got, ReadInode, bind, run}
use Rattle.disk_definitions.specs.Plans.{Hand, Room, enter, find_room, is_full, refused}
use Rattle.disk_definitions.specs.Plans.Plan.{Finishes}
use Rattle.disk_definitions.specs.Plans.Room.{Inside, InBlock, NoRoom}
use Rattle.disk_definitions.specs.NamePlans.{fewer, fewer_segments, finish_over, Moving, moved_onto_by, replacing_node, moving_onto, moved_within, moved_between, moving_in, moving_to}
use Rattle.disk_definitions.specs.Meets.{IsOfTree, IsHandOf, is_directory_use}
use Rattle.plan_laws.proofs.Asking.{run-bind, run-segments}
use Rattle.plan_laws.proofs.Cases.{inode_by}
use Rattle.plan_laws.proofs.MovingOnto.{moving_of}
use Rattle.disk_definitions.specs.FitEdits.{IsFitEntry, IsFitNode, AreFit}
use Rattle.disk_definitions.specs.FitPlans.{IsFitStore, IsFitFinish, PlanIsFit}
use Rattle.plan_fit.proofs.Uses.{metadata_is, is_metadata, KeepsDirectories, keeps_fewer}
use Rattle.plan_fit.proofs.Pieces.{IsPlaced, fit_join, take_entry_fits, replace_entry_fits, enter_fits, fewer_fits}
use Rattle.plan_fit.proofs.OnDisk.{freed_alike, node_fits, on_disk, entry_fits, bounds, sized_fits, placed, spot_inside}
use Rattle.plan_fit.proofs.FoundRooms.{Becomes, IsFound, IsClear, stays_used, finished_fits, room_found, clear_after, may_enter}
use Rattle.plan_fit.proofs.Refusing.{refuse_fits, none_fits}
use Rattle.plan_fit.proofs.Removing.{not_last}

module _ (h : Hand) (s : Store) (tree : FileTree) (n : Naming) (of : IsOfTree s tree n) (fit : IsFitStore tree.segments s) (dirs : List ℕ)
    (from fblocks : ℕ) (fentries : Entries) (name : List ℕ) (b : ℕ) (fis : node_at tree from ≡ Some (Dir fentries fblocks)) (fhad : entry_at fentries name ≡ Some b) (new : List ℕ) (named : is_name new ≡ true) where
  abbrev m : Moving
  m = moving_of n from fblocks fentries name b

  moved_fits : IsFitEntry (entry_of n new b)
  moved_fits = let r = some_there (node_at tree b) (names_nodes tree of.well_formed from fentries fblocks name b fis fhad) in entry_fits s tree n of fit new b r.0 r.1 named

  from_placed : IsPlaced tree.segments s (m.directory.small (m.slot / 56))
  from_placed = placed s tree n of fit from fblocks fentries fis m.slot (spot_inside s tree n of fit from fblocks fentries fis name b fhad)

  less_fits : IsFitNode (record m.directory { size = m.directory.size - 1 })
  less_fits =
      let most : length fentries ≤ 56 * fblocks = (bounds s tree n of fit from fblocks fentries fis).1 in
      sized_fits s tree n of fit from fblocks fentries fis (length fentries - 1) (omega arith)

  -- the old name goes
  taken_fits : (end : Store) → is_directory_use (end.use_of (m.directory.small (m.slot / 56))) ≡ true → AreFit tree.segments end (take_entry m.dir m.directory m.slot)
  taken_fits end used = take_entry_fits tree.segments end m.dir m.directory m.slot (node_fits s tree n of fit from (Dir fentries fblocks) fis).0 less_fits (from_placed.0, used)

  -- ---- within a directory
  within_fits : IsFitFinish h tree.segments s (moved_within m new dirs)
  within_fits = record { edits = replace_entry_fits tree.segments (edited_all s (moved_within m new dirs).edits) m.directory m.slot (entry_of n new b) from_placed moved_fits; clear = λ k w. inl w }

  -- ---- from one directory to another
  module _ (hand : IsHandOf h s tree.segments) (to blocks : ℕ) (entries : Entries) (is : node_at tree to ≡ Some (Dir entries blocks)) where
    abbrev x : StoredNode
    x = inode_by n to (Dir entries blocks)

    abbrev end : Room → Store
    end room = edited_all s (enter (n.inode to) x (entry_of n new b) room ++ take_entry m.dir m.directory m.slot)

    becomes : (room : Room) → Becomes s (end room) room
    becomes (Inside q) = refl
    becomes (InBlock k) = refl
    becomes NoRoom = refl

    between_fits : (room : Room) → IsFound h blocks entries room → IsClear h room → IsFitFinish h tree.segments s (moved_between m (n.inode to) x new dirs room)
    between_fits room found clear = record {
      edits = fit_join tree.segments (end room) (enter (n.inode to) x (entry_of n new b) room) (take_entry m.dir m.directory m.slot)
          (enter_fits tree.segments (end room) (n.inode to) x (entry_of n new b) room (node_fits s tree n of fit to (Dir entries blocks) is).0 moved_fits (may_enter h s tree n of hand to blocks entries is fit (end room) room found (becomes room)))
          (taken_fits (end room) (stays_used s (end room) room (becomes room) (m.directory.small (m.slot / 56)) from_placed.1));
      clear = clear_after h s tree n of hand to blocks entries is (end room) room found clear (becomes room);
    }

    room_case : (room : Room) → IsFound h blocks entries room → PlanIsFit h tree.segments s (run (moving_in h m (n.inode to) x new dirs room) s)
    room_case NoRoom found = none_fits h tree.segments s reply.NoDirBlock dirs
    room_case (Inside q) found = finished_fits h tree.segments s (Inside q) (moved_between m (n.inode to) x new dirs (Inside q)) (between_fits (Inside q) found)
    room_case (InBlock k) found = finished_fits h tree.segments s (InBlock k) (moved_between m (n.inode to) x new dirs (InBlock k)) (between_fits (InBlock k) found)

    tested : (a c : Bool) → PlanIsFit h tree.segments s (run (if a then Got (Finishes (moved_within m new dirs)) else (if c then refused reply.DirFull dirs else bind (find_room h x) (moving_in h m (n.inode to) x new dirs))) s)
    tested true c = within_fits
    tested false true = refuse_fits h tree.segments s reply.DirFull dirs
    tested false false = rw (run-bind (find_room h x) (moving_in h m (n.inode to) x new dirs) s) (room_case (run (find_room h x) s) (room_found h s tree n of hand to blocks entries is))

    pub moving_to_fits : PlanIsFit h tree.segments s (run (moving_to h m (n.inode to) x new dirs) s)
    moving_to_fits = tested (n.inode to == m.dir) (is_full x)

  -- ---- onto a name that is there
  module _ (to blocks : ℕ) (entries : Entries) (old : ℕ) (is : node_at tree to ≡ Some (Dir entries blocks)) (had : entry_at entries new ≡ Some old) where
    abbrev z : StoredNode
    z = inode_by n to (Dir entries blocks)

    module _ (node : Node) (at : node_at tree old ≡ Some node) where
      abbrev y : StoredNode
      y = inode_by n old node

      abbrev last : Store
      last = edited_all s (take_entry m.dir m.directory m.slot ++ replace_entry z (n.spot to new) (entry_of n new b) ++ fewer (n.inode old) y)

      keeps : KeepsDirectories s last
      keeps k =
          let names = take_entry m.dir m.directory m.slot ++ replace_entry z (n.spot to new) (entry_of n new b) in
          ap (λ (w : Store). is_directory_use (w.use_of k)) (edited_append s names (fewer (n.inode old) y)) ∙ keeps_fewer (edited_all s names) (n.inode old) y (freed_alike s tree n of old node at) k

      onto_fits : IsFitFinish h tree.segments s (moved_onto_by m (n.inode to) z new (n.spot to new) (n.inode old) y dirs)
      onto_fits =
          let takes = take_entry m.dir m.directory m.slot in
          let puts = replace_entry z (n.spot to new) (entry_of n new b) in
          let p = placed s tree n of fit to blocks entries is (n.spot to new) (spot_inside s tree n of fit to blocks entries is new old had) in
          let c = z.small (n.spot to new / 56) in
          record {
            edits = fit_join tree.segments last (takes ++ puts) (fewer (n.inode old) y)
                (fit_join tree.segments last takes puts (taken_fits last (keeps (m.directory.small (m.slot / 56)) ∙ from_placed.1)) (replace_entry_fits tree.segments last z (n.spot to new) (entry_of n new b) (p.0, keeps c ∙ p.1) moved_fits))
                (fewer_fits tree.segments last (n.inode old) y (on_disk s tree n of fit old node at) (not_last n old node));
            clear = λ k w. inl (metadata_is (s.use_of k) (sym (keeps k) ∙ is_metadata (last.use_of k) w));
          }

      by_size : (c : Bool) → PlanIsFit h tree.segments s (run (if c then refused reply.NotEmpty (dirs ++ n.inode old ∷ []) else finish_over (fewer_segments (n.inode old) y) (moved_onto_by m (n.inode to) z new (n.spot to new) (n.inode old) y dirs)) s)
      by_size true = refuse_fits h tree.segments s reply.NotEmpty (dirs ++ n.inode old ∷ [])
      by_size false = rw (run-segments (fewer_segments (n.inode old) y) (Got (Finishes (moved_onto_by m (n.inode to) z new (n.spot to new) (n.inode old) y dirs))) s) onto_fits

      onto_read : PlanIsFit h tree.segments s (run (ReadInode (n.inode old) (replacing_node m (n.inode to) z new (n.spot to new) (n.inode old) dirs)) s)
      onto_read = subst (λ o. PlanIsFit h tree.segments s (run (replacing_node m (n.inode to) z new (n.spot to new) (n.inode old) dirs o) s)) (sym (inode_is s (node_at tree) n of.pictures old node at)) (by_size (y.kind == 2 && nat_lt 0 y.size))

    onto_any : PlanIsFit h tree.segments s (run (ReadInode (n.inode old) (replacing_node m (n.inode to) z new (n.spot to new) (n.inode old) dirs)) s)
    onto_any = let r = some_there (node_at tree old) (names_nodes tree of.well_formed to entries blocks new old is had) in onto_read r.0 r.1

    refused_or : (a c e : Bool) → PlanIsFit h tree.segments s (run (if a then refused reply.Ok dirs else (if c then refused reply.NotDir dirs else (if e then refused reply.IsDir dirs else ReadInode (n.inode old) (replacing_node m (n.inode to) z new (n.spot to new) (n.inode old) dirs)))) s)
    refused_or true c e = refuse_fits h tree.segments s reply.Ok dirs
    refused_or false true e = refuse_fits h tree.segments s reply.NotDir dirs
    refused_or false false true = refuse_fits h tree.segments s reply.IsDir dirs
    refused_or false false false = onto_any

    pub moving_onto_fits : PlanIsFit h tree.segments s (run (moving_onto m (n.inode to) z new (n.spot to new) (entry_of n new old) dirs) s)
    moving_onto_fits = refused_or (n.inode old == n.inode b) (n.kind b == 2 && not (n.kind old == 2)) (n.kind old == 2 && not (n.kind b == 2))

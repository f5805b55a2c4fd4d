-- The plan of rename to a name that isn't there: within a directory the entry gets the name where it stands; else the new name comes into the other directory,
-- and then the old one goes.
use Rattle.std.proofs.Common.{ℕ, ◌≡◌, ◌≢◌, Bool, true, false, Option, Some, None, List, [], ◌++◌, length, nat_eq, nat_le, if◌then◌else◌, refl, sym, ◌∙◌, ap, ap₂, subst, is_some, eqb-true}
use Rattle.std.proofs.Math.Path.{fun_ext}
use Rattle.std.proofs.lemmas.Bool.{eqb-false}
use Rattle.frang_base.specs.declared.reply.Reply.TheVariants as reply
use Rattle.tree_definitions.specs.declared.node.Node.{Node}
use Rattle.tree_definitions.specs.declared.node.Node.TheVariants.{Dir}
use Rattle.tree_definitions.specs.Entries.{Entries, entry_at, with_entry, without_entry}
use Rattle.tree_definitions.specs.Tree.{FileTree, node_at, with_node, grown, lacks_block}
use Rattle.tree_definitions.specs.Apply.{Applied, says, moved, room_made, moved_to}
use Rattle.tree_definitions.specs.WellFormed.{IsWellFormed, put as put_node}
use Rattle.tree_laws.proofs.Nodes.{node_with, with_same, with_other}
use Rattle.disk_definitions.specs.Store.{Store, StoredNode}
use Rattle.disk_definitions.specs.Naming.{Naming, entry_of}
use Rattle.disk_definitions.specs.Edits.{edited_all}
use Rattle.disk_definitions.specs.Changes.{take_entry, replace_entry}
use Rattle.disk_definitions.specs.Namings.{named_at}
use Rattle.disk_definitions.proofs.Names.{names_go, names_move}
use Rattle.disk_definitions.proofs.Puts.{put_twice, put_apart, edited_append}
use Rattle.disk_definitions.specs.Ask.{Ask, Got, bind, run}
use Rattle.disk_definitions.specs.Plans.{Hand, Plan, Room, enter, find_room, finish_in, must_clear, refused}
use Rattle.disk_definitions.specs.Plans.Plan.{Finishes}
use Rattle.disk_definitions.specs.Plans.Room.{Inside, InBlock, NoRoom}
use Rattle.disk_definitions.specs.NamePlans.{Moving, moved_within, moved_between, moving_in, moving_to}
use Rattle.disk_definitions.specs.Meets.{IsOfTree, IsHandOf}
use Rattle.plan_laws.specs.Keeping.{FinishKeeps}
use Rattle.plan_laws.proofs.Asking.{run-bind}
use Rattle.plan_laws.proofs.Cases.{inode_by, has_inode}
use Rattle.plan_laws.proofs.Refusing.{Meets, passes, refuse_meets, none_meets}
use Rattle.plan_laws.proofs.Stages.{IsStage, stage_of, of_stage, loses, replaces, still}
use Rattle.plan_laws.proofs.Entering.{IsRoomFor, room_found, lacks_none_inside, lacks_by_blocks, TakesEntry, enters}
use Rattle.plan_laws.proofs.Tests.{same_inode_test, same_order}
use Rattle.plan_laws.proofs.MovingOnto.{moving_of, moved_is}

module _ (h : Hand) (s : Store) (tree : FileTree) (n : Naming) (of : IsOfTree s tree n) (dirs : List ℕ)
    (from fblocks : ℕ) (fentries : Entries) (name : List ℕ) (b : ℕ) (fis : node_at tree from ≡ Some (Dir fentries fblocks)) (fhad : entry_at fentries name ≡ Some b) (new : List ℕ) where
  abbrev m : Moving
  m = moving_of n from fblocks fentries name b

  abbrev left : Node
  left = Dir (without_entry fentries name) fblocks

  -- ---- within the directory
  module _ (absent : entry_at fentries new ≡ None) where
    abbrev renamed : Node
    renamed = Dir (with_entry (without_entry fentries name) new b) fblocks

    abbrev t : Store
    t = edited_all s (replace_entry m.directory m.slot (entry_of n new b))

    abbrev end : FileTree
    end = with_node (with_node tree from left) from renamed

    in_place : IsStage t tree.segments (put_node (node_at tree) from (Some renamed)) (named_at n from new (n.spot from name))
    in_place = (replaces s tree.segments (node_at tree) n (stage_of s tree n of) from fblocks b m.directory fentries (with_entry (without_entry fentries name) new b) name new (has_inode s (node_at tree) n of.pictures from (Dir fentries fblocks) fis)
        (names_move fentries name new b (of.well_formed.names from fentries fblocks fis) (ap is_some fhad) absent)).0

    same_nodes : (c : ℕ) → node_at end c ≡ put_node (node_at tree) from (Some renamed) c
    same_nodes c =
        let z : node_at (with_node tree from left) ≡ put_node (node_at tree) from (Some left) = fun_ext (node_with tree from left) in
        node_with (with_node tree from left) from renamed c ∙ ap (λ f. put_node f from (Some renamed) c) z ∙ ap (λ f. f c) (put_twice (node_at tree) from (Some left) (Some renamed))

    result_is : moved tree from name from new b ≡ end
    result_is = moved_is tree from fblocks fentries name from fblocks (without_entry fentries name) new b fis (with_same tree from left)

    pub within_meets : Meets h s tree n (says (moved tree from name from new b) reply.Ok) (Finishes (moved_within m new dirs))
    within_meets = subst (λ r. Meets h s tree n (says r reply.Ok) (Finishes (moved_within m new dirs))) (sym result_is)
        (λ well. record {
          meets = record {
            answer = refl;
            naming = named_at n from new (n.spot from name);
            tree = of_stage t tree.segments (put_node (node_at tree) from (Some renamed)) (named_at n from new (n.spot from name)) end in_place same_nodes well refl of.few;
          };
          inodes = λ c there stays. refl;
        })

  -- ---- from one directory to another
  module _ (hand : IsHandOf h s tree.segments) (to blocks : ℕ) (entries : Entries) (is : node_at tree to ≡ Some (Dir entries blocks)) (absent : entry_at entries new ≡ None) where
    abbrev x : StoredNode
    x = inode_by n to (Dir entries blocks)

    abbrev more : Node
    more = Dir (with_entry entries new b) (grown entries blocks)

    module _ (apart : from ≢ to) where
      abbrev room_tree : FileTree
      room_tree = room_made tree to entries blocks

      abbrev last : FileTree
      last = with_node (with_node room_tree from left) to more

      still_from : node_at room_tree from ≡ Some (Dir fentries fblocks)
      still_from = with_other tree to (Dir entries (grown entries blocks)) from apart ∙ fis

      still_to : node_at (with_node room_tree from left) to ≡ Some (Dir entries (grown entries blocks))
      still_to = with_other room_tree from left to (λ e. apart (sym e)) ∙ with_same tree to (Dir entries (grown entries blocks))

      last_is : moved room_tree from name to new b ≡ last
      last_is = moved_is room_tree from fblocks fentries name to (grown entries blocks) entries new b still_from still_to

      last_nodes : (c : ℕ) → node_at last c ≡ put_node (put_node (node_at tree) to (Some more)) from (Some left) c
      last_nodes c =
          let roomy : Node = Dir entries (grown entries blocks) in
          let one : node_at room_tree ≡ put_node (node_at tree) to (Some roomy) = fun_ext (node_with tree to roomy) in
          let two : node_at (with_node room_tree from left) ≡ put_node (put_node (node_at tree) to (Some roomy)) from (Some left) = fun_ext (node_with room_tree from left) ∙ ap (λ f. put_node f from (Some left)) one in
          node_with (with_node room_tree from left) to more c ∙ ap (λ f. put_node f to (Some more) c) two
          ∙ ap (λ f. f c) (put_apart (put_node (node_at tree) to (Some roomy)) from to (Some left) (Some more) apart)
          ∙ ap (λ f. put_node f from (Some left) c) (put_twice (node_at tree) to (Some roomy) (Some more))

      -- the new name comes, and the old one goes
      finished : (room : Room) → TakesEntry s tree.segments n to entries blocks room → IsWellFormed last → FinishKeeps s tree n (says last reply.Ok) (moved_between m (n.inode to) x new dirs room)
      finished room takes well =
          let entry = enter (n.inode to) x (entry_of n new b) room in
          let t = edited_all s entry in
          let at = put_node (node_at tree) to (Some more) in
          let r = enters s tree.segments (node_at tree) n (stage_of s tree n of) to b blocks entries (has_inode s (node_at tree) n of.pictures to (Dir entries blocks) is) new absent room takes in
          let k = r.naming in
          let f = still s t (node_at tree) n k to from (Some more) (Dir fentries fblocks) m.directory of.pictures r.stage.pictures r.others apart (has_inode s (node_at tree) n of.pictures from (Dir fentries fblocks) fis) in
          let spot : k.spot from name ≡ n.spot from name = ap (λ g. g name) (r.others.spot from apart) in
          let l = loses t tree.segments at k r.stage from fblocks m.directory fentries (without_entry fentries name) name f.1 (names_go fentries name (of.well_formed.names from fentries fblocks fis) (ap is_some fhad)) in
          let takes_name : take_entry (k.inode from) m.directory (k.spot from name) ≡ take_entry m.dir m.directory m.slot = ap₂ (λ i q. take_entry i m.directory q) f.0 spot in
          let edits : edited_all s (entry ++ take_entry m.dir m.directory m.slot) ≡ edited_all t (take_entry (k.inode from) m.directory (k.spot from name)) = edited_append s entry (take_entry m.dir m.directory m.slot) ∙ ap (edited_all t) (sym takes_name) in
          record {
            meets = record {
              answer = refl;
              naming = k;
              tree = subst (λ z. IsOfTree z last k) (sym edits) (of_stage (edited_all t (take_entry (k.inode from) m.directory (k.spot from name))) tree.segments (put_node at from (Some left)) k last l.0 last_nodes well refl of.few);
            };
            inodes = λ c there stays. r.others.inode c there;
          }

      room_case : (room : Room) → IsRoomFor h s tree n to entries blocks room → Meets h s tree n (if lacks_block tree entries blocks then says tree reply.NoDirBlock else says last reply.Ok) (run (moving_in h m (n.inode to) x new dirs room) s)
      room_case NoRoom r = λ well. none_meets h s tree n of reply.NoDirBlock dirs (lacks_block tree entries blocks) (says last reply.Ok) (λ all. lacks_by_blocks tree entries blocks true r.0 (r.1 all))
      room_case (Inside q) r = passes h s tree n (lacks_block tree entries blocks) (says tree reply.NoDirBlock) (says last reply.Ok) (run (moving_in h m (n.inode to) x new dirs (Inside q)) s) (lacks_none_inside tree entries blocks r.1) (finished (Inside q) r)
      room_case (InBlock k) r = passes h s tree n (lacks_block tree entries blocks) (says tree reply.NoDirBlock) (says last reply.Ok) (run (moving_in h m (n.inode to) x new dirs (InBlock k)) s) (lacks_by_blocks tree entries blocks false r.0 r.2)
          (by_clear (must_clear h k) refl)
        where
          by_clear : (c : Bool) → must_clear h k ≡ c → Meets h s tree n (says last reply.Ok) (run (finish_in h (InBlock k) (moved_between m (n.inode to) x new dirs (InBlock k))) s)
          by_clear true e well = rw e e
          by_clear false e well = rw e (finished (InBlock k) (r.0, r.3 e, r.1) well)

      by_size : (c : Bool) → nat_le 896 (length entries) ≡ c → Meets h s tree n (if c then says tree reply.DirFull else (if lacks_block tree entries blocks then says tree reply.NoDirBlock else says last reply.Ok))
          (run (if c then refused reply.DirFull dirs else bind (find_room h x) (moving_in h m (n.inode to) x new dirs)) s)
      by_size true few = λ well. refuse_meets h s tree n of reply.DirFull dirs
      by_size false few = rw (run-bind (find_room h x) (moving_in h m (n.inode to) x new dirs) s) (room_case (run (find_room h x) s) (room_found h s tree n of hand to blocks entries is few))

      between_meets : Meets h s tree n (if nat_le 896 (length entries) then says tree reply.DirFull else (if lacks_block tree entries blocks then says tree reply.NoDirBlock else says (moved room_tree from name to new b) reply.Ok))
          (run (if nat_le 896 (length entries) then refused reply.DirFull dirs else bind (find_room h x) (moving_in h m (n.inode to) x new dirs)) s)
      between_meets = subst (λ r. Meets h s tree n (if nat_le 896 (length entries) then says tree reply.DirFull else (if lacks_block tree entries blocks then says tree reply.NoDirBlock else says r reply.Ok))
          (run (if nat_le 896 (length entries) then refused reply.DirFull dirs else bind (find_room h x) (moving_in h m (n.inode to) x new dirs)) s)) (sym last_is) (by_size (nat_le 896 (length entries)) refl)

    -- the same directory, or another
    abbrev tested : Bool → Applied
    tested one =
        if one then says (moved tree from name to new b) reply.Ok
        else (if nat_le 896 (length entries) then says tree reply.DirFull
        else (if lacks_block tree entries blocks then says tree reply.NoDirBlock
        else says (moved (room_made tree to entries blocks) from name to new b) reply.Ok))

    abbrev planned : Bool → Ask Plan
    planned one = if one then Got (Finishes (moved_within m new dirs)) else (if nat_le 896 (length entries) then refused reply.DirFull dirs else bind (find_room h x) (moving_in h m (n.inode to) x new dirs))

    same_entries : from ≡ to → fentries ≡ entries
    same_entries e = let z : Some (Dir fentries fblocks) ≡ Some (Dir entries blocks) = sym fis ∙ ap (node_at tree) e ∙ is in ap entries_of z
      where
        entries_of : Option Node → Entries
        entries_of (Some (Dir es k)) = es
        entries_of _ = []

    by_test : (one : Bool) → nat_eq from to ≡ one → Meets h s tree n (tested one) (run (planned one) s)
    by_test true e =
        let i : from ≡ to = eqb-true from to e in
        subst (λ c. Meets h s tree n (says (moved tree from name c new b) reply.Ok) (Finishes (moved_within m new dirs))) i (within_meets (ap (λ l. entry_at l new) (same_entries i) ∙ absent))
    by_test false e = between_meets (eqb-false from to e)

    pub to_meets : Meets h s tree n (moved_to tree from name b to entries blocks new) (run (moving_to h m (n.inode to) x new dirs) s)
    to_meets =
        let e : nat_eq (n.inode to) (n.inode from) ≡ nat_eq from to = same_inode_test s (node_at tree) n of.pictures to from (ap is_some is) (ap is_some fis) ∙ same_order to from in
        subst (λ c. Meets h s tree n (tested (nat_eq from to)) (run (planned c) s)) (sym e) (by_test (nat_eq from to) refl)

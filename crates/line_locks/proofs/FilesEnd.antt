-- The plans of looks and of file bytes end with the locks that are found.
use Rattle.std.proofs.Common.{ℕ, zero, suc, ◌≡◌, ◌+◌, ◌-◌, ◌*◌, ◌/◌, ◌%◌, ◌==◌, ◌&&◌, inl, Bool, true, false, nat_lt, min, max, if◌then◌else◌, Option, Some, None, List, [], ◌∷◌, ◌++◌, map, take, drop, refl, sym, subst}
use Rattle.std.proofs.lemmas.List.{append_assoc}
use Rattle.std.proofs.lemmas.List.Elements.{Contains-append_right}
use Rattle.std.specs.List.{AllByRecursion, Contains}
use Rattle.frang_base.specs.declared.lock.LockId.TheVariants as lock
use Rattle.frang_base.specs.declared.lock.Mode.TheVariants.{Sole}
use Rattle.frang_base.specs.declared.reply.Reply.{Reply}
use Rattle.frang_base.specs.declared.reply.Reply.TheVariants as reply
use Rattle.frang_base.proofs.Lists.{all_append}
use Rattle.tree_definitions.specs.Numbers.{below}
use Rattle.tree_definitions.specs.Tree.{small_blocks_of}
use Rattle.disk_definitions.specs.Naming.{Naming}
use Rattle.disk_definitions.specs.Store.{Store, StoredNode, StoredEntry, Use}
use Rattle.disk_definitions.specs.Store.Use.{Bytes, Fresh}
use Rattle.disk_definitions.specs.Edits.{Edit}
use Rattle.disk_definitions.specs.Edits.Edit.{SetUse, SetLarge}
use Rattle.disk_definitions.specs.Picks.{picked_large, picked_many}
use Rattle.disk_definitions.specs.Ask.{Ask, Got, ReadBytes, ReadInode, ReadLarge, seven}
use Rattle.disk_definitions.specs.FilePlans.{Writing, at_file, blocks_between, cut_by, cut_segments, cutting, directory_blocks, end_of, file_dated, keeps_bytes, large_cut, large_segment, large_taken, mixed, plan_of_file, read_sector, read_sectors, resized, sectors_met, set_sector, showing, with_file, write_sector, write_sectors, writing, writing_in, writing_large, writing_picked, writing_small, written_by}
use Rattle.disk_definitions.specs.LookPlans.{at_inode, entries_of, listing, plan_of_node, read_entries, sorted_names, with_inode}
use Rattle.disk_definitions.specs.NamePlans.{finish_over}
use Rattle.disk_definitions.specs.Plans.{Hand, Plan, Finish, read_held, refused}
use Rattle.disk_definitions.specs.Plans.Plan.{Finishes}
use Rattle.disk_definitions.specs.Walks.{Spot, Target, at_spot, at_target, walk}
use Rattle.disk_definitions.specs.Walks.Spot.{AtRoot, AtName, AtGap, Lost}
use Rattle.plan_laws.proofs.Covering.{has_head}
use Rattle.plan_laws.proofs.Standing.{HasKind, DiskStands}
use Rattle.plan_laws.proofs.WalksFine.{SpotStands}
use Rattle.line_locks.proofs.Edited.{IsEdited, Segments, edited_left, edited_right, segments_left, segments_right, edited_later, inode_edited, large_edited, use_edited}
use Rattle.line_locks.proofs.Ending.{Ends}
use Rattle.line_locks.proofs.PlansEnd.{AreTouched, FinishEnds, PlanEnds, finish_ends, held_ends, none_ends, over_ends, refuse_ends}
use Rattle.line_locks.proofs.WalksEnd.{walk_then}

module _ (h : Hand) (s : Store) (nodes : List ℕ) where
  -- one edit more in front
  segments_later : (e : Edit) (edits : List Edit) (segments : List ℕ) → Segments h s nodes edits segments → Segments h s nodes (e ∷ edits) segments
  segments_later e edits [] a = tt
  segments_later e edits (k ∷ ks) a = (edited_later h s nodes e edits (lock.Segment k) a.0, segments_later e edits ks a.1)

  pub uses_edited : (u : Use) (ks : List ℕ) → Segments h s nodes (map (λ k. SetUse k u) ks) (map (λ k. k / 1024) ks)
  uses_edited u [] = tt
  uses_edited u (k ∷ ks) = (use_edited h s nodes k u (map (λ k. SetUse k u) ks), segments_later (SetUse k u) (map (λ k. SetUse k u) ks) (map (λ k. k / 1024) ks) (uses_edited u ks))

  pub larges_edited : (b : Bool) (gs : List ℕ) → Segments h s nodes (map (λ g. SetLarge g b) gs) gs
  larges_edited b [] = tt
  larges_edited b (g ∷ gs) = (large_edited h s nodes g b (map (λ g. SetLarge g b) gs), segments_later (SetLarge g b) (map (λ g. SetLarge g b) gs) gs (larges_edited b gs))

  pub taken_edited : (o : Option ℕ) → Segments h s nodes (large_taken o) (large_segment o)
  taken_edited None = tt
  taken_edited (Some g) = (large_edited h s nodes g true [], tt)

module _ (h : Hand) (s : Store) (n : Naming) (disk : DiskStands h s n) (back : ℕ) (made : Bool) (before : List ℕ) where
  abbrev End : List ℕ → Plan → Type 0
  End = PlanEnds h s back made before

  all_touched : (touched nodes : List ℕ) (i : ℕ) → nodes ≡ before ++ touched → AreTouched before touched nodes touched (i ∷ [])
  all_touched touched nodes i e = record { are = e; dirs_in = λ c d. d; one_of = λ c d. inl d }

  -- ---- one node, which was touched last

  module _ (i : ℕ) (x : StoredNode) (touched nodes : List ℕ) (e : nodes ≡ before ++ touched) where
    refuses : (r : Reply) → Ends s End (refused r touched) nodes
    refuses r = refuse_ends h s back made before touched nodes r e

    -- ---- sectors of a file

    sector_ends : (t : ℕ) (next : (ℕ → ℕ) → Ask Plan) → ((bytes : ℕ → ℕ) → Ends s End (next bytes) nodes) → Ends s End (read_sector x t next) nodes
    sector_ends t next each = go (nat_lt t 128)
      where
        go : (b : Bool) → Ends s End (if b then ReadBytes (x.small (t / 8)) (t % 8) next else ReadLarge (x.large - 1) (t - 128) next) nodes
        go true = each _
        go false = each _

    reads_end : (m t : ℕ) (next : List ℕ → Ask Plan) → ((bytes : List ℕ) → Ends s End (next bytes) nodes) → Ends s End (read_sectors x t m next) nodes
    reads_end zero t next each = each []
    reads_end (suc m) t next each =
        sector_ends t (λ bytes. read_sectors x (t + 1) m (λ more. next (map bytes (below 512) ++ more))) (λ bytes. reads_end m (t + 1) (λ more. next (map bytes (below 512) ++ more)) (λ more. each (map bytes (below 512) ++ more)))

    pub showing_ends : (off len : ℕ) → Ends s End (showing off len i touched x) nodes
    showing_ends off len = go (nat_lt x.size off)
      where
        k : ℕ
        k = min len (x.size - off)

        go : (b : Bool) → Ends s End (if b then refused reply.BadOffset touched
            else (let k = min len (x.size - off) in read_sectors x (off / 512) (sectors_met off k) (λ bytes. refused (reply.Shown (take k (drop (off % 512) bytes))) touched))) nodes
        go true = refuses reply.BadOffset
        go false = reads_end (sectors_met off k) (off / 512) (λ bytes. refused (reply.Shown (take k (drop (off % 512) bytes))) touched) (λ bytes. refuses (reply.Shown (take k (drop (off % 512) bytes))))

    -- ---- write and fill

    module _ (w : Writing) where
      write_ends : (y : StoredNode) (t : ℕ) (next : List Edit → Ask Plan) → ((es : List Edit) → Ends s End (next es) nodes) → Ends s End (write_sector w x y t next) nodes
      write_ends y t next each = go (keeps_bytes w x.size t)
        where
          go : (b : Bool) → Ends s End (if b then read_sector x t (λ old. next (set_sector y t (mixed w t old) ∷ [])) else next (set_sector y t (mixed w t (λ r. 0)) ∷ [])) nodes
          go true = sector_ends t (λ old. next (set_sector y t (mixed w t old) ∷ [])) (λ old. each (set_sector y t (mixed w t old) ∷ []))
          go false = each (set_sector y t (mixed w t (λ r. 0)) ∷ [])

      writes_end : (y : StoredNode) (m t : ℕ) (next : List Edit → Ask Plan) → ((es : List Edit) → Ends s End (next es) nodes) → Ends s End (write_sectors w x y t m next) nodes
      writes_end y zero t next each = each []
      writes_end y (suc m) t next each =
          write_ends y t (λ one. write_sectors w x y (t + 1) m (λ more. next (one ++ more))) (λ one. writes_end y m (t + 1) (λ more. next (one ++ more)) (λ es. each (one ++ es)))

      written_ends : (y : StoredNode) (picks : List ℕ) (o : Option ℕ) (bytes : List Edit) → FinishEnds h s before nodes (written_by i y picks o touched bytes)
      written_ends y picks o bytes =
          let uses = map (λ k. SetUse k Bytes) picks in
          let large = large_taken o in
          let dated = file_dated i y in
          let smalls = map (λ k. k / 1024) picks in
          let edits = uses ++ large ++ dated ++ bytes in
          finish_ends h s before touched nodes touched (i ∷ []) (smalls ++ large_segment o) (all_touched touched nodes i e) reply.Ok edits (
            (edited_left h s nodes (uses ++ large ++ dated) bytes (lock.Node i) (edited_right h s nodes (uses ++ large) dated (lock.Node i) (inode_edited h s nodes i (Some y) true [])), tt),
            all_append (λ k. IsEdited h s nodes edits (lock.Segment k)) smalls (large_segment o)
                (segments_left h s nodes (uses ++ large ++ dated) bytes smalls (segments_left h s nodes (uses ++ large) dated smalls (segments_left h s nodes uses large smalls (uses_edited h s nodes Bytes picks))))
                (segments_left h s nodes (uses ++ large ++ dated) bytes (large_segment o) (segments_left h s nodes (uses ++ large) dated (large_segment o) (segments_right h s nodes uses large (large_segment o) (taken_edited h s nodes o)))),
          )

      in_ends : (picks : List ℕ) (o : Option ℕ) → Ends s End (writing_in w i touched x picks o) nodes
      in_ends picks o =
          let y = resized x w.when (max x.size (end_of w)) picks o in
          writes_end y (sectors_met w.off w.len) (w.off / 512) (λ bytes. Got (Finishes (written_by i y picks o touched bytes))) (λ bytes. written_ends y picks o bytes)

      picked_ends : (o : Option ℕ) (p : Option (List ℕ)) → Ends s End (writing_picked h w i touched x o p) nodes
      picked_ends o None = none_ends h s back made before touched nodes (reply.NoBlock (directory_blocks h.held)) e refl
      picked_ends o (Some picks) = in_ends picks o

      abbrev more : ℕ
      more = small_blocks_of (max x.size (end_of w)) - x.blocks

      small_ends : (o : Option ℕ) → Ends s End (writing_small h w i touched x o) nodes
      small_ends o = go (more == 0)
        where
          go : (b : Bool) → Ends s End (if b then writing_in w i touched x [] o else read_held h (writing_picked h w i touched x o (picked_many h.held more))) nodes
          go true = in_ends [] o
          go false = held_ends h s back made before nodes (writing_picked h w i touched x o (picked_many h.held more)) (picked_ends o (picked_many h.held more))

      large_ends : (p : Option ℕ) → Ends s End (writing_large h w i touched x p) nodes
      large_ends None = none_ends h s back made before touched nodes reply.NoLarge e refl
      large_ends (Some g) = small_ends (Some g)

      pub writing_ends : Ends s End (writing h w i touched x) nodes
      writing_ends = go (nat_lt x.size w.off) (nat_lt 1114112 (end_of w)) (nat_lt 65536 (end_of w) && x.large == 0)
        where
          go : (a b d : Bool) → Ends s End (if a then refused reply.BadOffset touched else (if b then refused reply.TooBig touched
              else (if d then read_held h (writing_large h w i touched x (picked_large h.held)) else writing_small h w i touched x None))) nodes
          go true b d = refuses reply.BadOffset
          go false true d = refuses reply.TooBig
          go false false true = held_ends h s back made before nodes (writing_large h w i touched x (picked_large h.held)) (large_ends (picked_large h.held))
          go false false false = small_ends None

    -- ---- list

    entries_end : (m j : ℕ) (next : List StoredEntry → Ask Plan) → ((es : List StoredEntry) → Ends s End (next es) nodes) → Ends s End (read_entries x.small j m next) nodes
    entries_end zero j next each = each []
    entries_end (suc m) j next each =
        let f = seven s.place (x.small (j / 8)) (j % 8) in entries_end m (j + 1) (λ more. next (entries_of f ++ more)) (λ more. each (entries_of f ++ more))

    pub listing_ends : Ends s End (listing touched x) nodes
    listing_ends = entries_end (8 * x.blocks) 0 (λ entries. refused (reply.Names (sorted_names entries)) touched) (λ es. refuses (reply.Names (sorted_names es)))

    -- ---- truncate

    cut_ends : (when len : ℕ) → FinishEnds h s before nodes (cut_by when i touched x len)
    cut_ends when len =
        let blocks = blocks_between x (small_blocks_of len) x.blocks in
        let uses = map (λ k. SetUse k Fresh) blocks in
        let large = map (λ g. SetLarge g false) (large_cut x len) in
        let dated = file_dated i (resized x when len [] None) in
        let smalls = map (λ k. k / 1024) blocks in
        let edits = uses ++ large ++ dated in
        finish_ends h s before touched nodes touched (i ∷ []) (smalls ++ large_cut x len) (all_touched touched nodes i e) reply.Ok edits (
          (edited_right h s nodes (uses ++ large) dated (lock.Node i) (inode_edited h s nodes i (Some (resized x when len [] None)) true []), tt),
          all_append (λ k. IsEdited h s nodes edits (lock.Segment k)) smalls (large_cut x len) (segments_left h s nodes (uses ++ large) dated smalls (segments_left h s nodes uses large smalls (uses_edited h s nodes Fresh blocks)))
              (segments_left h s nodes (uses ++ large) dated (large_cut x len) (segments_right h s nodes uses large (large_cut x len) (larges_edited h s nodes false (large_cut x len)))),
        )

    pub cutting_ends : (when len : ℕ) → Ends s End (cutting when len i touched x) nodes
    cutting_ends when len = go (nat_lt x.size len)
      where
        go : (b : Bool) → Ends s End (if b then refused reply.BadOffset touched else finish_over (cut_segments x len) (cut_by when i touched x len)) nodes
        go true = refuses reply.BadOffset
        go false = over_ends h s back made before nodes (cut_segments x len) (cut_by when i touched x len) (cut_ends when len)

  -- ---- the node that a path names

  refuses_at : (dirs : List ℕ) (r : Reply) → Ends s End (refused r dirs) (before ++ dirs)
  refuses_at dirs r = refuse_ends h s back made before dirs (before ++ dirs) r refl

  module _ (next : Target → Ask Plan) (each : (t : Target) → HasKind s t.inode t.kind → Ends s End (next t) (before ++ t.dirs)) where
    spot_ends : (dirs : List ℕ) (v : Spot) → SpotStands h s n disk dirs v → Ends s End (at_spot v dirs refused next) (before ++ dirs)
    spot_ends dirs AtRoot t = each (record { inode = 0; kind = 2; dirs = dirs }) disk.root
    spot_ends dirs (AtName i x name q entry) t = each (record { inode = entry.inode; kind = entry.kind; dirs = dirs }) t.2
    spot_ends dirs (AtGap i x name) t = refuses_at dirs reply.NoEnt
    spot_ends dirs (Lost r) t = refuses_at dirs r

    pub node_ends : (path : List (List ℕ)) → Ends s End (plan_of_node path next) before
    node_ends path = walk_then h s n disk End path (λ w. at_target w refused next) before (λ w is. spot_ends w.dirs w.spot is.stands)

  -- its inode
  pub inode_ends : (next : List ℕ → StoredNode → Ask Plan) → ((i : ℕ) (x : StoredNode) (touched nodes : List ℕ) → nodes ≡ before ++ touched → Ends s End (next touched x) nodes) →
      (t : Target) → HasKind s t.inode t.kind → Ends s End (at_inode next t) (before ++ t.dirs)
  inode_ends next each t k =
      let touched = t.dirs ++ t.inode ∷ [] in
      let all = before ++ t.dirs ++ t.inode ∷ [] in
      subst (λ o. Ends s End (with_inode next touched o) all) (sym k.is) (each t.inode k.node touched all (append_assoc before t.dirs (t.inode ∷ [])))

  -- a node of this kind
  pub kind_ends : (next : Target → Ask Plan) (want : ℕ) (r : Reply) → ((t : Target) → HasKind s t.inode t.kind → Ends s End (next t) (before ++ t.dirs)) → (t : Target) → HasKind s t.inode t.kind →
      Ends s End (if t.kind == want then next t else refused r t.dirs) (before ++ t.dirs)
  kind_ends next want r each t k = go (t.kind == want)
    where
      go : (b : Bool) → Ends s End (if b then next t else refused r t.dirs) (before ++ t.dirs)
      go true = each t k
      go false = refuses_at t.dirs r

  -- a file
  module _ (next : ℕ → List ℕ → StoredNode → Ask Plan) (each : (i : ℕ) (x : StoredNode) (touched nodes : List ℕ) → nodes ≡ before ++ touched → Ends s End (next i touched x) nodes) where
    with_it : (t : Target) (x : StoredNode) (touched nodes : List ℕ) → nodes ≡ before ++ touched → (b : Bool) → Ends s End (if b then next t.inode touched x else refused reply.Inval touched) nodes
    with_it t x touched nodes e true = each t.inode x touched nodes e
    with_it t x touched nodes e false = refuse_ends h s back made before touched nodes reply.Inval e

    at_file_ends : (t : Target) → HasKind s t.inode t.kind → Ends s End (at_file next t) (before ++ t.dirs)
    at_file_ends t k = go (t.kind == 2) (t.kind == 1)
      where
        touched : List ℕ
        touched = t.dirs ++ t.inode ∷ []

        go : (a b : Bool) → Ends s End (if a then refused reply.IsDir t.dirs else (if b then ReadInode t.inode (with_file (next t.inode (t.dirs ++ t.inode ∷ [])) (t.dirs ++ t.inode ∷ [])) else refused reply.Inval t.dirs)) (before ++ t.dirs)
        go true b = refuses_at t.dirs reply.IsDir
        go false true =
            subst (λ o. Ends s End (with_file (next t.inode touched) touched o) (before ++ t.dirs ++ t.inode ∷ [])) (sym k.is)
            (with_it t k.node touched (before ++ t.dirs ++ t.inode ∷ []) (append_assoc before t.dirs (t.inode ∷ [])) (k.node.kind == 1))
        go false false = refuses_at t.dirs reply.Inval

    pub file_ends : (path : List (List ℕ)) → Ends s End (plan_of_file path next) before
    file_ends path = node_ends (at_file next) at_file_ends path

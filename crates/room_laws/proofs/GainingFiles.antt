-- The plans of the operations on files and of looks gain no block for directories: a file's blocks come into use for bytes, or are given back.
use Rattle.std.proofs.Common.{ℕ, ◌≡◌, ◌==◌, ◌-◌, ◌*◌, ◌/◌, ◌%◌, ◌&&◌, inl, Bool, true, false, max, min, nat_lt, if◌then◌else◌, Option, Some, None, List, [], ◌∷◌, ◌++◌, map, take, drop, refl, sym, ◌∙◌, ap, subst}
use Rattle.std.specs.Map.{keys_of}
use Rattle.frang_base.specs.declared.reply.Reply.{Reply}
use Rattle.frang_base.specs.declared.reply.Reply.TheVariants as reply
use Rattle.tree_definitions.specs.Tree.{FileTree, small_blocks_of}
use Rattle.disk_definitions.specs.Store.{Store, StoredNode, Use}
use Rattle.disk_definitions.specs.Store.Use.{Bytes, Fresh}
use Rattle.disk_definitions.specs.Naming.{Naming}
use Rattle.disk_definitions.specs.Picks.{picked_large, picked_many}
use Rattle.disk_definitions.specs.Edits.{Edit, edited_all}
use Rattle.disk_definitions.specs.Edits.Edit.{SetUse}
use Rattle.disk_definitions.proofs.Puts.{edited_append}
use Rattle.disk_definitions.specs.Ask.{Ask, Got, ReadInode, run}
use Rattle.disk_definitions.specs.Meets.{IsOfTree, is_directory_use}
use Rattle.disk_definitions.specs.Walks.{Spot, Target, at_spot, at_target, walk}
use Rattle.disk_definitions.specs.Walks.Spot.{AtRoot, AtName, AtGap, Lost}
use Rattle.disk_definitions.specs.Plans.{Hand, Plan, read_held, refused}
use Rattle.disk_definitions.specs.Plans.Plan.{Finishes}
use Rattle.disk_definitions.specs.NamePlans.{finish_over}
use Rattle.disk_definitions.specs.FilePlans.{Writing, at_file, blocks_between, cut_by, cut_segments, cutting, directory_blocks, end_of, file_dated, large_cut, large_segment, read_sectors, resized, sectors_met, showing, with_file, writing, writing_in, writing_large, writing_picked, writing_small, written_by}
use Rattle.disk_definitions.specs.LookPlans.{at_inode, listing, plan_of_node, sorted_names, with_inode}
use Rattle.plan_laws.proofs.Among.{is_among}
use Rattle.plan_laws.proofs.Asking.{run-bind, run-segments}
use Rattle.plan_laws.proofs.Bytes.{run-sectors}
use Rattle.plan_laws.proofs.Gathering.{run-entries}
use Rattle.plan_laws.proofs.Placing.{taken_is}
use Rattle.plan_laws.proofs.Sectors.{bytes_only, run-writes, sector_edits}
use Rattle.plan_laws.proofs.Setting.{all_set, set_edits}
use Rattle.room_laws.specs.Growth.{GainsNone}
use Rattle.room_laws.proofs.GainingNames.{Ends, none_fair, refused_fair}

-- a block that came into use, or out of it, for something else is no directory's
no_gain : (u v : Use) (b : Bool) → is_directory_use u ≡ false → is_directory_use (if b then u else v) ≡ true → is_directory_use v ≡ true
no_gain u v true none used = absurd (let z : true ≡ false = sym used ∙ none in cc)
no_gain u v false none used = used

-- ---- files

module _ (s : Store) where
  cut_gains_none : (when i : ℕ) (touched : List ℕ) (x : StoredNode) (len : ℕ) → GainsNone s (edited_all s (cut_by when i touched x len).edits)
  cut_gains_none when i touched x len k used =
      let gone = blocks_between x (small_blocks_of len) x.blocks in
      no_gain Fresh (s.use_of k) (is_among k gone) refl
      (subst (λ u. is_directory_use u ≡ true) ((all_set s Fresh gone false (large_cut x len) i (resized x when len [] None)).uses k) used)

  module _ (w : Writing) (i : ℕ) (touched : List ℕ) (x : StoredNode) (picks : List ℕ) (o : Option ℕ) where
    abbrev y : StoredNode
    y = resized x w.when (max x.size (end_of w)) picks o

    abbrev bytes : List Edit
    bytes = sector_edits w x y s (w.off / 512) (sectors_met w.off w.len)

    abbrev mid : Store
    mid = edited_all s (set_edits Bytes picks true (large_segment o) i y)

    end_is : edited_all s (written_by i y picks o touched bytes).edits ≡ edited_all mid bytes
    end_is = ap (λ l. edited_all s (map (λ k. SetUse k Bytes) picks ++ l ++ file_dated i y ++ bytes)) (taken_is o) ∙ edited_append s (set_edits Bytes picks true (large_segment o) i y) bytes

    use_is : (k : ℕ) → (edited_all s (written_by i y picks o touched bytes).edits).use_of k ≡ (if is_among k picks then Bytes else s.use_of k)
    use_is k =
        ap (λ (z : Store). z.use_of k) end_is ∙ ap (λ f. f k) (bytes_only w x y s (sectors_met w.off w.len) (w.off / 512) mid).use_of
        ∙ (all_set s Bytes picks true (large_segment o) i y).uses k

    pub written_gains_none : GainsNone s (edited_all s (written_by i y picks o touched bytes).edits)
    written_gains_none k used = no_gain Bytes (s.use_of k) (is_among k picks) refl (subst (λ u. is_directory_use u ≡ true) (use_is k) used)

module _ (h : Hand) (s : Store) (tree : FileTree) (n : Naming) (of : IsOfTree s tree n) where
  abbrev Goes : Ask Plan → Type 0
  Goes = Ends h s tree n of

  stops : (r : Reply) (touched : List ℕ) → Goes (refused r touched)
  stops = refused_fair h s tree n of

  pub cutting_fair : (when len i : ℕ) (touched : List ℕ) (x : StoredNode) → Goes (cutting when len i touched x)
  cutting_fair when len i touched x = go (nat_lt x.size len)
    where
      go : (b : Bool) → Goes (if b then refused reply.BadOffset touched else finish_over (cut_segments x len) (cut_by when i touched x len))
      go true = stops reply.BadOffset touched
      go false = rw (run-segments (cut_segments x len) (Got (Finishes (cut_by when i touched x len))) s) (inl (cut_gains_none s when i touched x len))

  module _ (w : Writing) (i : ℕ) (touched : List ℕ) (x : StoredNode) where
    in_fair : (picks : List ℕ) (o : Option ℕ) → Goes (writing_in w i touched x picks o)
    in_fair picks o =
        let y = resized x w.when (max x.size (end_of w)) picks o in
        rw (run-writes w x y s (w.off / 512) (sectors_met w.off w.len) (λ bytes. Got (Finishes (written_by i y picks o touched bytes)))) (inl (written_gains_none s w i touched x picks o))

    picked_fair : (o : Option ℕ) (p : Option (List ℕ)) → Goes (writing_picked h w i touched x o p)
    picked_fair o None = none_fair h s tree n of (reply.NoBlock (directory_blocks h.held)) touched
    picked_fair o (Some picks) = in_fair picks o

    small_fair : (o : Option ℕ) → Goes (writing_small h w i touched x o)
    small_fair o = go (small_blocks_of (max x.size (end_of w)) - x.blocks == 0)
      where
        go : (b : Bool) → Goes (if b then writing_in w i touched x [] o else read_held h (writing_picked h w i touched x o (picked_many h.held (small_blocks_of (max x.size (end_of w)) - x.blocks))))
        go true = in_fair [] o
        go false =
            let p = picked_many h.held (small_blocks_of (max x.size (end_of w)) - x.blocks) in
            rw (run-segments (keys_of h.held) (writing_picked h w i touched x o p) s) (picked_fair o p)

    large_fair : (p : Option ℕ) → Goes (writing_large h w i touched x p)
    large_fair None = none_fair h s tree n of reply.NoLarge touched
    large_fair (Some g) = small_fair (Some g)

    pub writing_fair : Goes (writing h w i touched x)
    writing_fair = go (nat_lt x.size w.off) (nat_lt 1114112 (end_of w)) (nat_lt 65536 (end_of w) && x.large == 0)
      where
        go : (a b c : Bool) → Goes (if a then refused reply.BadOffset touched else (if b then refused reply.TooBig touched
            else (if c then read_held h (writing_large h w i touched x (picked_large h.held)) else writing_small h w i touched x None)))
        go true b c = stops reply.BadOffset touched
        go false true c = stops reply.TooBig touched
        go false false true = rw (run-segments (keys_of h.held) (writing_large h w i touched x (picked_large h.held)) s) (large_fair (picked_large h.held))
        go false false false = small_fair None

  pub showing_fair : (off len i : ℕ) (touched : List ℕ) (x : StoredNode) → Goes (showing off len i touched x)
  showing_fair off len i touched x = go (nat_lt x.size off)
    where
      shown : ℕ
      shown = min len (x.size - off)

      next : List ℕ → Ask Plan
      next bytes = refused (reply.Shown (take shown (drop (off % 512) bytes))) touched

      go : (b : Bool) → Goes (if b then refused reply.BadOffset touched else read_sectors x (off / 512) (sectors_met off shown) next)
      go true = stops reply.BadOffset touched
      go false = rw (run-sectors s x (off / 512) (sectors_met off shown) next) (inl (λ k used. used))

  -- ---- the node that a path names

  module _ (next : Target → Ask Plan) (each : (t : Target) → Goes (next t)) where
    spot_fair : (v : Spot) (dirs : List ℕ) → Goes (at_spot v dirs refused next)
    spot_fair AtRoot dirs = each (record { inode = 0; kind = 2; dirs = dirs })
    spot_fair (AtName i x name q e) dirs = each (record { inode = e.inode; kind = e.kind; dirs = dirs })
    spot_fair (AtGap i x name) dirs = stops reply.NoEnt dirs
    spot_fair (Lost r) dirs = stops r dirs

    pub node_fair : (path : List (List ℕ)) → Goes (plan_of_node path next)
    node_fair path = let w = run (walk path) s in rw (run-bind (walk path) (λ w. at_target w refused next) s) (spot_fair w.spot w.dirs)

  module _ (next : ℕ → List ℕ → StoredNode → Ask Plan) (each : (i : ℕ) (touched : List ℕ) (x : StoredNode) → Goes (next i touched x)) where
    with_fair : (i : ℕ) (touched : List ℕ) (o : Option StoredNode) → Goes (with_file (next i touched) touched o)
    with_fair i touched None = stops reply.NoEnt touched
    with_fair i touched (Some x) = go (x.kind == 1)
      where
        go : (b : Bool) → Goes (if b then next i touched x else refused reply.Inval touched)
        go true = each i touched x
        go false = stops reply.Inval touched

    pub file_fair : (t : Target) → Goes (at_file next t)
    file_fair t = go (t.kind == 2) (t.kind == 1)
      where
        go : (a b : Bool) → Goes (if a then refused reply.IsDir t.dirs else (if b then ReadInode t.inode (with_file (next t.inode (t.dirs ++ t.inode ∷ [])) (t.dirs ++ t.inode ∷ []))
            else refused reply.Inval t.dirs))
        go true b = stops reply.IsDir t.dirs
        go false true = with_fair t.inode (t.dirs ++ t.inode ∷ []) (s.inode t.inode)
        go false false = stops reply.Inval t.dirs

  -- ---- looks

  module _ (next : List ℕ → StoredNode → Ask Plan) (each : (touched : List ℕ) (x : StoredNode) → Goes (next touched x)) where
    inode_by : (touched : List ℕ) (o : Option StoredNode) → Goes (with_inode next touched o)
    inode_by touched None = stops reply.NoEnt touched
    inode_by touched (Some x) = each touched x

    pub inode_fair : (t : Target) → Goes (at_inode next t)
    inode_fair t = inode_by (t.dirs ++ t.inode ∷ []) (s.inode t.inode)

    pub kind_fair : (want : ℕ) (r : Reply) (t : Target) → Goes (if t.kind == want then at_inode next t else refused r t.dirs)
    kind_fair want r t = go (t.kind == want)
      where
        go : (b : Bool) → Goes (if b then at_inode next t else refused r t.dirs)
        go true = inode_fair t
        go false = stops r t.dirs

  pub listing_fair : (touched : List ℕ) (x : StoredNode) → Goes (listing touched x)
  listing_fair touched x = rw (run-entries s x.small 0 (8 * x.blocks) (λ entries. refused (reply.Names (sorted_names entries)) touched)) (inl (λ k used. used))

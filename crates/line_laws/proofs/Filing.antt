-- The plans of looks have no edits, and those that write a file date it or are refused.
use Rattle.std.proofs.Common.{ℕ, ◌≡◌, ◌-◌, ◌*◌, ◌/◌, ◌%◌, ◌==◌, ◌&&◌, ◌⊎◌, inl, inr, Bool, true, false, Option, Some, None, List, [], ◌++◌, if◌then◌else◌, nat_lt, min, max, map, length, take, drop, slice_index, refl, sym, subst, append_assoc}
use Rattle.std.specs.Map.{keys_of}
use Rattle.frang_base.specs.declared.limits.TheConstants.{FILE_BYTES_MAX, SECTOR_BYTES, SMALL_BLOCK_SECTORS, SMALL_BYTES_MAX}
use Rattle.frang_base.specs.declared.reply.Reply.{Reply}
use Rattle.frang_base.specs.declared.reply.Reply.TheVariants as reply
use Rattle.tree_definitions.specs.Tree.{FileTree, small_blocks_of}
use Rattle.tree_definitions.specs.Apply.{Applied}
use Rattle.tree_definitions.specs.Touched.{is_ok}
use Rattle.disk_definitions.specs.Store.{Store, StoredNode}
use Rattle.disk_definitions.specs.Store.Use.{Fresh, Bytes}
use Rattle.disk_definitions.specs.Edits.{Edit, SetUse, SetLarge}
use Rattle.disk_definitions.specs.Picks.{picked_many, picked_large}
use Rattle.disk_definitions.specs.Ask.{Got, run}
use Rattle.disk_definitions.specs.Plans.{Hand, Plan, Lacks, Clears, Finishes, refuse, refused, none_left, read_held, shared_nodes, sole_segments}
use Rattle.disk_definitions.specs.NamePlans.{finish_over}
use Rattle.disk_definitions.specs.LookPlans.{described, timed, listing, sorted_names, at_inode, plan_described, plan_listed, plan_target, plan_timed}
use Rattle.disk_definitions.specs.FilePlans.{Writing, end_of, sectors_met, read_sectors, directory_blocks, resized, large_taken, file_dated, written_by, writing_in, writing_picked, writing_small, writing_large, writing, plan_written, plan_filled, blocks_between, large_cut, cut_segments, cut_by, cutting, plan_truncated, showing, plan_read, at_file}
use Rattle.plan_laws.proofs.Asking.{run-segments}
use Rattle.plan_laws.proofs.Bytes.{run-sectors}
use Rattle.plan_laws.proofs.Gathering.{run-entries}
use Rattle.plan_laws.proofs.Sectors.{sector_edits, run-writes}
use Rattle.line_laws.proofs.Telling.{Refuses, Writes, Dates, PlanTells}
use Rattle.line_laws.proofs.Aiming.{node_case, kind_case, inode_case, file_case}

-- ---- looks
abbrev pub HasNoEdits : Plan → Type 0
HasNoEdits Lacks = Unit {0}
HasNoEdits (Clears block locks) = Unit {0}
HasNoEdits (Finishes f) = f.edits ≡ []

refuse_none : (r : Reply) (touched : List ℕ) → is_ok r ≡ false → HasNoEdits (refuse r touched)
refuse_none r touched e = refl

module _ (s : Store) where
  listing_none : (touched : List ℕ) (x : StoredNode) → HasNoEdits (run (listing touched x) s)
  listing_none touched x = subst HasNoEdits (sym (run-entries s x.small 0 (SMALL_BLOCK_SECTORS * x.blocks) (λ entries. refused (reply.Names (sorted_names entries)) touched))) refl

  showing_none : (off len i : ℕ) (touched : List ℕ) (x : StoredNode) → HasNoEdits (run (showing off len i touched x) s)
  showing_none off len i touched x = go (nat_lt x.size off)
    where
      k : ℕ
      k = min len (x.size - off)

      go : (b : Bool) → HasNoEdits (run (if b then refused reply.BadOffset touched else read_sectors x (off / SECTOR_BYTES) (sectors_met off k) (λ bytes. refused (reply.Shown (take k (drop (off % SECTOR_BYTES) bytes))) touched)) s)
      go true = refl
      go false = subst HasNoEdits (sym (run-sectors s x (off / SECTOR_BYTES) (sectors_met off k) (λ bytes. refused (reply.Shown (take k (drop (off % SECTOR_BYTES) bytes))) touched))) refl

  pub described_none : (path : List (List ℕ)) → HasNoEdits (run (plan_described path) s)
  described_none path = node_case s HasNoEdits refuse_none (at_inode (λ touched x. refused (described x) touched)) (inode_case s HasNoEdits refuse_none (λ touched x. refused (described x) touched) (λ touched x. refl)) path

  pub timed_none : (path : List (List ℕ)) → HasNoEdits (run (plan_timed path) s)
  timed_none path = node_case s HasNoEdits refuse_none (at_inode (λ touched x. refused (timed x) touched)) (inode_case s HasNoEdits refuse_none (λ touched x. refused (timed x) touched) (λ touched x. refl)) path

  pub listed_none : (path : List (List ℕ)) → HasNoEdits (run (plan_listed path) s)
  listed_none path =
      node_case s HasNoEdits refuse_none (λ t. if t.kind == 2 then at_inode listing t else refused reply.NotDir t.dirs)
      (kind_case s HasNoEdits refuse_none (at_inode listing) 2 reply.NotDir refl (inode_case s HasNoEdits refuse_none listing listing_none)) path

  pub target_none : (path : List (List ℕ)) → HasNoEdits (run (plan_target path) s)
  target_none path =
      let next = λ (touched : List ℕ) (x : StoredNode). refused (reply.Target x.target) touched in
      node_case s HasNoEdits refuse_none (λ t. if t.kind == 3 then at_inode next t else refused reply.Inval t.dirs)
      (kind_case s HasNoEdits refuse_none (at_inode next) 3 reply.Inval refl (inode_case s HasNoEdits refuse_none next (λ touched x. refl))) path

  pub read_none : (path : List (List ℕ)) (off len : ℕ) → HasNoEdits (run (plan_read path off len) s)
  read_none path off len = node_case s HasNoEdits refuse_none (at_file (showing off len)) (file_case s HasNoEdits refuse_none (showing off len) (showing_none off len)) path

-- ---- write, fill, truncate
-- refused, or answered `ok` with a dated inode
abbrev pub DatesOrRefuses : Plan → Type 0
DatesOrRefuses Lacks = Unit {0}
DatesOrRefuses (Clears block locks) = Unit {0}
DatesOrRefuses (Finishes f) = ((f.edits ≡ []) × (is_ok f.reply ≡ false)) ⊎ ((f.reply ≡ reply.Ok) × Dates f.edits)

pub file_tells : (tree : FileTree) (a : Applied) (s : Store) (p : Plan) → DatesOrRefuses p → PlanTells true tree a s p
file_tells tree a s Lacks d = tt
file_tells tree a s (Clears block locks) d = tt
file_tells tree a s (Finishes f) (inl d) = Refuses d.0 d.1
file_tells tree a s (Finishes f) (inr d) = Writes refl d.0 d.1

refuse_dates : (r : Reply) (touched : List ℕ) → is_ok r ≡ false → DatesOrRefuses (refuse r touched)
refuse_dates r touched e = inl (refl, e)

none_dates : (h : Hand) (s : Store) (r : Reply) (touched : List ℕ) → is_ok r ≡ false → DatesOrRefuses (run (none_left h r touched) s)
none_dates h s r touched e = go h.all
  where
    go : (b : Bool) → DatesOrRefuses (run (Got (if b then Finishes (record { reply = r; edits = []; locks = shared_nodes touched ++ sole_segments (keys_of h.held) }) else Lacks)) s)
    go true = inl (refl, e)
    go false = tt

module _ (s : Store) where
  cut_dates : (when len i : ℕ) (touched : List ℕ) (x : StoredNode) → DatesOrRefuses (run (cutting when len i touched x) s)
  cut_dates when len i touched x = go (nat_lt x.size len)
    where
      done : Dates (cut_by when i touched x len).edits
      done = record {
        before = map (λ k. SetUse k Fresh) (blocks_between x (small_blocks_of len) x.blocks) ++ map (λ g. SetLarge g false) (large_cut x len);
        inode = i;
        node = resized x when len [] None;
        after = [];
        splits = refl;
      }

      go : (b : Bool) → DatesOrRefuses (run (if b then refused reply.BadOffset touched else finish_over (cut_segments x len) (cut_by when i touched x len)) s)
      go true = refuse_dates reply.BadOffset touched refl
      go false = rw (run-segments (cut_segments x len) (Got (Finishes (cut_by when i touched x len))) s) (inr (refl, done))

  pub truncated_dates : (when : ℕ) (path : List (List ℕ)) (len : ℕ) → DatesOrRefuses (run (plan_truncated when path len) s)
  truncated_dates when path len = node_case s DatesOrRefuses refuse_dates (at_file (cutting when len)) (file_case s DatesOrRefuses refuse_dates (cutting when len) (cut_dates when len)) path

  module _ (h : Hand) (w : Writing) (i : ℕ) (touched : List ℕ) (x : StoredNode) where
    written_dates : (y : StoredNode) (picks : List ℕ) (o : Option ℕ) (bytes : List Edit) → Dates (written_by i y picks o touched bytes).edits
    written_dates y picks o bytes =
        let taken : List Edit = map (λ k. SetUse k Bytes) picks ++ large_taken o in
        record { before = taken; inode = i; node = y; after = bytes; splits = append_assoc taken (file_dated i y) bytes }

    in_dates : (picks : List ℕ) (o : Option ℕ) → DatesOrRefuses (run (writing_in w i touched x picks o) s)
    in_dates picks o =
        let y = resized x w.when (max x.size (end_of w)) picks o in
        subst DatesOrRefuses (sym (run-writes w x y s (w.off / SECTOR_BYTES) (sectors_met w.off w.len) (λ bytes. Got (Finishes (written_by i y picks o touched bytes))))) (inr (refl, written_dates y picks o (sector_edits w x y s (w.off / SECTOR_BYTES) (sectors_met w.off w.len))))

    picked_dates : (o : Option ℕ) (p : Option (List ℕ)) → DatesOrRefuses (run (writing_picked h w i touched x o p) s)
    picked_dates o None = none_dates h s (reply.NoBlock (directory_blocks h.held)) touched refl
    picked_dates o (Some picks) = in_dates picks o

    small_dates : (o : Option ℕ) → DatesOrRefuses (run (writing_small h w i touched x o) s)
    small_dates o = go (more == 0)
      where
        more : ℕ
        more = small_blocks_of (max x.size (end_of w)) - x.blocks

        go : (b : Bool) → DatesOrRefuses (run (if b then writing_in w i touched x [] o else read_held h (writing_picked h w i touched x o (picked_many h.held more))) s)
        go true = in_dates [] o
        go false = rw (run-segments (keys_of h.held) (writing_picked h w i touched x o (picked_many h.held more)) s) (picked_dates o (picked_many h.held more))

    large_dates : (p : Option ℕ) → DatesOrRefuses (run (writing_large h w i touched x p) s)
    large_dates None = none_dates h s reply.NoLarge touched refl
    large_dates (Some g) = small_dates (Some g)

    writing_dates : DatesOrRefuses (run (writing h w i touched x) s)
    writing_dates = go (nat_lt x.size w.off) (nat_lt FILE_BYTES_MAX (end_of w)) (nat_lt SMALL_BYTES_MAX (end_of w) && x.large == 0)
      where
        go : (a b c : Bool) → DatesOrRefuses (run (if a then refused reply.BadOffset touched else (if b then refused reply.TooBig touched
            else (if c then read_held h (writing_large h w i touched x (picked_large h.held)) else writing_small h w i touched x None))) s)
        go true b c = refuse_dates reply.BadOffset touched refl
        go false true c = refuse_dates reply.TooBig touched refl
        go false false true = rw (run-segments (keys_of h.held) (writing_large h w i touched x (picked_large h.held)) s) (large_dates (picked_large h.held))
        go false false false = small_dates None

  pub written_tells : (h : Hand) (when : ℕ) (path : List (List ℕ)) (off : ℕ) (bytes : List ℕ) → DatesOrRefuses (run (plan_written h when path off bytes) s)
  written_tells h when path off bytes =
      let w : Writing = record { off = off; len = length bytes; when = when; byte = λ j. slice_index bytes (j - off) } in
      node_case s DatesOrRefuses refuse_dates (at_file (writing h w)) (file_case s DatesOrRefuses refuse_dates (writing h w) (writing_dates h w)) path

  pub filled_tells : (h : Hand) (when : ℕ) (path : List (List ℕ)) (off len byte : ℕ) → DatesOrRefuses (run (plan_filled h when path off len byte) s)
  filled_tells h when path off len byte =
      let w : Writing = record { off = off; len = len; when = when; byte = λ j. byte } in
      node_case s DatesOrRefuses refuse_dates (at_file (writing h w)) (file_case s DatesOrRefuses refuse_dates (writing h w) (writing_dates h w)) path

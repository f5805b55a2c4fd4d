-- The plans of looks and of file bytes are covered by their locks.
use Rattle.std.proofs.Common.{ℕ, zero, suc, ◌≡◌, ◌+◌, ◌-◌, ◌*◌, ◌/◌, ◌%◌, ◌==◌, ◌&&◌, Bool, true, false, nat_lt, max, min, if◌then◌else◌, Option, Some, None, List, [], ◌∷◌, ◌++◌, length, map, take, drop, slice_index, refl, sym, subst}
use Rattle.std.proofs.lemmas.List.Elements.{Contains-append_left, Contains-append_right}
use Rattle.std.specs.List.{Contains}
use Rattle.std.specs.Map.{keys_of}
use Rattle.frang_base.specs.declared.lock.LockId.TheVariants as lock
use Rattle.frang_base.specs.declared.op.Op.TheVariants as op
use Rattle.frang_base.specs.declared.reply.Reply.TheVariants as reply
use Rattle.frang_base.specs.declared.reply.Reply.{Reply}
use Rattle.tree_definitions.specs.Tree.{small_blocks_of}
use Rattle.disk_definitions.specs.Store.{Store, StoredNode}
use Rattle.disk_definitions.specs.Store.Use.{Fresh, Bytes}
use Rattle.disk_definitions.specs.Edits.{Edit}
use Rattle.disk_definitions.specs.Edits.Edit.{SetUse, SetLarge, SetBytes, SetLargeBytes}
use Rattle.disk_definitions.specs.Picks.{picked_many, picked_large}
use Rattle.disk_definitions.specs.Ask.{Ask, Got, ReadInode, run}
use Rattle.disk_definitions.specs.Walks.{Target}
use Rattle.disk_definitions.specs.Plans.{Hand, Lock, Plan, refused, read_held, shared_nodes, sole_nodes, sole_segments, says_full}
use Rattle.disk_definitions.specs.Plans.Plan.{Finishes}
use Rattle.tree_definitions.specs.Apply.{time_of}
use Rattle.disk_definitions.specs.NamePlans.{finish_over}
use Rattle.disk_definitions.specs.FilePlans.{Writing, end_of, sectors_met, mixed, directory_blocks, set_sector, resized, large_taken, large_segment, file_dated, written_by, writing_in, writing_picked, writing_small, writing_large, writing, blocks_between, large_cut, cut_segments, cut_by, cutting, read_sectors, showing, at_file, with_file}
use Rattle.disk_definitions.specs.LookPlans.{with_inode, at_inode, described, timed, listing, sorted_names}
use Rattle.plan_laws.proofs.Asking.{run-segments}
use Rattle.plan_laws.specs.Locks.{IsSole, FinishIsCovered, PlanIsCovered, IsCoveredPlan}
use Rattle.plan_laws.proofs.Bytes.{values, stored_byte, run-sectors}
use Rattle.plan_laws.proofs.Gathering.{gathered, run-entries}
use Rattle.plan_laws.proofs.Sectors.{old_sector, sector_edits, run-writes}
use Rattle.plan_laws.proofs.Covering.{has_head, map_has, node_sole, segment_sole, Covers, covers_join, uses_covered, larges_covered, refuse_covered, none_covered, node_covered}

-- the inode is written under the node's lock
file_covered_at : (locks : List Lock) (i : ℕ) (y : StoredNode) → IsSole locks (lock.Node i) → Covers locks (file_dated i y)
file_covered_at locks i y sole = (sole, tt)

large_covered : (locks : List Lock) (o : Option ℕ) → ((g : ℕ) → Contains (large_segment o) g → IsSole locks (lock.Segment g)) → Covers locks (large_taken o)
large_covered locks None f = tt
large_covered locks (Some g) f = (f g (has_head g []), tt)

sector_covered : (locks : List Lock) (y : StoredNode) (t : ℕ) (bytes : ℕ → ℕ) (es : List Edit) → Covers locks es → Covers locks (set_sector y t bytes ∷ es)
sector_covered locks y t bytes es c = go (nat_lt t 128)
  where
    go : (b : Bool) → Covers locks ((if b then SetBytes (y.small (t / 8)) (t % 8) bytes else SetLargeBytes (y.large - 1) (t - 128) bytes) ∷ es)
    go true = (tt, c)
    go false = (tt, c)

sectors_covered : (locks : List Lock) (w : Writing) (x y : StoredNode) (s : Store) (n t : ℕ) → Covers locks (sector_edits w x y s t n)
sectors_covered locks w x y s zero t = tt
sectors_covered locks w x y s (suc n) t = sector_covered locks y t (mixed w t (old_sector w x y s t)) (sector_edits w x y s (t + 1) n) (sectors_covered locks w x y s n (t + 1))

module _ (h : Hand) (s : Store) where
  -- ---- truncate
  cut_covered : (when i : ℕ) (touched : List ℕ) (x : StoredNode) (len : ℕ) → FinishIsCovered h (cut_by when i touched x len)
  cut_covered when i touched x len =
      let f = cut_by when i touched x len in
      let cut = blocks_between x (small_blocks_of len) x.blocks in
      let segment : (k : ℕ) → Contains (cut_segments x len) k → IsSole f.locks (lock.Segment k) = segment_sole (shared_nodes touched ++ sole_nodes (i ∷ [])) (cut_segments x len) in
      let smalls : Covers f.locks (map (λ k. SetUse k Fresh) cut) = uses_covered f.locks Fresh cut (λ k c. segment (k / 1024) (Contains-append_left (map (λ k. k / 1024) cut) (large_cut x len) (k / 1024) (map_has (λ k. k / 1024) cut k c))) in
      let larges : Covers f.locks (map (λ g. SetLarge g false) (large_cut x len)) = larges_covered f.locks false (large_cut x len) (λ g c. segment g (Contains-append_right (map (λ k. k / 1024) cut) (large_cut x len) g c)) in
      let node : Covers f.locks (file_dated i (resized x when len [] None)) = file_covered_at f.locks i (resized x when len [] None) (node_sole (shared_nodes touched) (i ∷ []) (sole_segments (cut_segments x len)) i (has_head i [])) in
      record { edits = covers_join f.locks (map (λ k. SetUse k Fresh) cut ++ map (λ g. SetLarge g false) (large_cut x len)) (file_dated i (resized x when len [] None)) (covers_join f.locks (map (λ k. SetUse k Fresh) cut) (map (λ g. SetLarge g false) (large_cut x len)) smalls larges) node; full = λ e. absurd (cc) }

  cutting_covered : (when len i : ℕ) (touched : List ℕ) (x : StoredNode) → PlanIsCovered h (run (cutting when len i touched x) s)
  cutting_covered when len i touched x = go (nat_lt x.size len)
    where
      go : (b : Bool) → PlanIsCovered h (run (if b then refused reply.BadOffset touched else finish_over (cut_segments x len) (cut_by when i touched x len)) s)
      go true = refuse_covered h reply.BadOffset touched refl
      go false = rw (run-segments (cut_segments x len) (Got (Finishes (cut_by when i touched x len))) s) (cut_covered when i touched x len)

  -- ---- write and fill
  module _ (w : Writing) (i : ℕ) (touched : List ℕ) (x : StoredNode) where
    written_covered : (y : StoredNode) (picks : List ℕ) (o : Option ℕ) (bytes : List Edit) → ((locks : List Lock) → Covers locks bytes) → FinishIsCovered h (written_by i y picks o touched bytes)
    written_covered y picks o bytes covered =
        let f = written_by i y picks o touched bytes in
        let all = map (λ k. k / 1024) picks ++ large_segment o in
        let segment : (k : ℕ) → Contains all k → IsSole f.locks (lock.Segment k) = segment_sole (shared_nodes touched ++ sole_nodes (i ∷ [])) all in
        let smalls : Covers f.locks (map (λ k. SetUse k Bytes) picks) = uses_covered f.locks Bytes picks (λ k c. segment (k / 1024) (Contains-append_left (map (λ k. k / 1024) picks) (large_segment o) (k / 1024) (map_has (λ k. k / 1024) picks k c))) in
        let larges : Covers f.locks (large_taken o) = large_covered f.locks o (λ g c. segment g (Contains-append_right (map (λ k. k / 1024) picks) (large_segment o) g c)) in
        let node : Covers f.locks (file_dated i y) = file_covered_at f.locks i y (node_sole (shared_nodes touched) (i ∷ []) (sole_segments all) i (has_head i [])) in
        record {
          edits = covers_join f.locks (map (λ k. SetUse k Bytes) picks ++ large_taken o ++ file_dated i y) bytes
              (covers_join f.locks (map (λ k. SetUse k Bytes) picks ++ large_taken o) (file_dated i y) (covers_join f.locks (map (λ k. SetUse k Bytes) picks) (large_taken o) smalls larges) node) (covered f.locks);
          full = λ e. absurd (cc);
        }

    in_covered : (picks : List ℕ) (o : Option ℕ) → PlanIsCovered h (run (writing_in w i touched x picks o) s)
    in_covered picks o =
        let y = resized x w.when (max x.size (end_of w)) picks o in
        subst (PlanIsCovered h) (sym (run-writes w x y s (w.off / 512) (sectors_met w.off w.len) (λ bytes. Got (Finishes (written_by i y picks o touched bytes)))))
        (written_covered y picks o (sector_edits w x y s (w.off / 512) (sectors_met w.off w.len)) (λ locks. sectors_covered locks w x y s (sectors_met w.off w.len) (w.off / 512)))

    picked_covered : (o : Option ℕ) (p : Option (List ℕ)) → PlanIsCovered h (run (writing_picked h w i touched x o p) s)
    picked_covered o None = none_covered h s (reply.NoBlock (directory_blocks h.held)) touched
    picked_covered o (Some picks) = in_covered picks o

    small_covered : (o : Option ℕ) → PlanIsCovered h (run (writing_small h w i touched x o) s)
    small_covered o = go (more == 0)
      where
        more : ℕ
        more = small_blocks_of (max x.size (end_of w)) - x.blocks

        go : (b : Bool) → PlanIsCovered h (run (if b then writing_in w i touched x [] o else read_held h (writing_picked h w i touched x o (picked_many h.held more))) s)
        go true = in_covered [] o
        go false = rw (run-segments (keys_of h.held) (writing_picked h w i touched x o (picked_many h.held more)) s) (picked_covered o (picked_many h.held more))

    one_covered : (p : Option ℕ) → PlanIsCovered h (run (writing_large h w i touched x p) s)
    one_covered None = none_covered h s reply.NoLarge touched
    one_covered (Some g) = small_covered (Some g)

    writing_covered : PlanIsCovered h (run (writing h w i touched x) s)
    writing_covered = go (nat_lt x.size w.off) (nat_lt 1114112 (end_of w)) (nat_lt 65536 (end_of w) && x.large == 0)
      where
        go : (a b c : Bool) → PlanIsCovered h (run (if a then refused reply.BadOffset touched else (if b then refused reply.TooBig touched
            else (if c then read_held h (writing_large h w i touched x (picked_large h.held)) else writing_small h w i touched x None))) s)
        go true b c = refuse_covered h reply.BadOffset touched refl
        go false true c = refuse_covered h reply.TooBig touched refl
        go false false true = rw (run-segments (keys_of h.held) (writing_large h w i touched x (picked_large h.held)) s) (one_covered (picked_large h.held))
        go false false false = small_covered None

  -- ---- read
  showing_covered : (off len i : ℕ) (touched : List ℕ) (x : StoredNode) → PlanIsCovered h (run (showing off len i touched x) s)
  showing_covered off len i touched x = go (nat_lt x.size off)
    where
      go : (b : Bool) → PlanIsCovered h (run (if b then refused reply.BadOffset touched
          else (let k = min len (x.size - off) in read_sectors x (off / 512) (sectors_met off k) (λ bytes. refused (reply.Shown (take k (drop (off % 512) bytes))) touched))) s)
      go true = refuse_covered h reply.BadOffset touched refl
      go false =
          let k = min len (x.size - off) in
          subst (PlanIsCovered h) (sym (run-sectors s x (off / 512) (sectors_met off k) (λ bytes. refused (reply.Shown (take k (drop (off % 512) bytes))) touched)))
          (refuse_covered h (reply.Shown (take k (drop (off % 512) (values (stored_byte s x) (512 * (off / 512)) (512 * sectors_met off k))))) touched refl)

  -- ---- a file, or any node
  file_covered : (next : ℕ → List ℕ → StoredNode → Ask Plan) → ((i : ℕ) (touched : List ℕ) (x : StoredNode) → PlanIsCovered h (run (next i touched x) s)) → (t : Target) → PlanIsCovered h (run (at_file next t) s)
  file_covered next each t = go (t.kind == 2) (t.kind == 1)
    where
      touched : List ℕ
      touched = t.dirs ++ t.inode ∷ []

      by_kind : (x : StoredNode) (c : Bool) → PlanIsCovered h (run (if c then next t.inode touched x else refused reply.Inval touched) s)
      by_kind x true = each t.inode touched x
      by_kind x false = refuse_covered h reply.Inval touched refl

      read : (o : Option StoredNode) → PlanIsCovered h (run (with_file (next t.inode touched) touched o) s)
      read None = refuse_covered h reply.NoEnt touched refl
      read (Some x) = by_kind x (x.kind == 1)

      go : (a b : Bool) → PlanIsCovered h (run (if a then refused reply.IsDir t.dirs else (if b then ReadInode t.inode (with_file (next t.inode touched) touched) else refused reply.Inval t.dirs)) s)
      go true b = refuse_covered h reply.IsDir t.dirs refl
      go false true = read (s.inode t.inode)
      go false false = refuse_covered h reply.Inval t.dirs refl

  inode_covered : (next : List ℕ → StoredNode → Ask Plan) → ((touched : List ℕ) (x : StoredNode) → PlanIsCovered h (run (next touched x) s)) → (t : Target) → PlanIsCovered h (run (at_inode next t) s)
  inode_covered next each t = go (s.inode t.inode)
    where
      go : (o : Option StoredNode) → PlanIsCovered h (run (with_inode next (t.dirs ++ t.inode ∷ []) o) s)
      go None = refuse_covered h reply.NoEnt (t.dirs ++ t.inode ∷ []) refl
      go (Some x) = each (t.dirs ++ t.inode ∷ []) x

  described_covered : (touched : List ℕ) (x : StoredNode) → PlanIsCovered h (run (refused (described x) touched) s)
  described_covered touched x = go (x.kind == 1) (x.kind == 2)
    where
      go : (a b : Bool) → PlanIsCovered h (run (refused (if a then reply.File x.size x.links else (if b then reply.Dir x.size else reply.Symlink x.size)) touched) s)
      go true b = refuse_covered h (reply.File x.size x.links) touched refl
      go false true = refuse_covered h (reply.Dir x.size) touched refl
      go false false = refuse_covered h (reply.Symlink x.size) touched refl

  timed_covered : (touched : List ℕ) (x : StoredNode) → PlanIsCovered h (run (refused (timed x) touched) s)
  timed_covered touched x = go (x.kind == 1) (x.kind == 2)
    where
      go : (a b : Bool) → PlanIsCovered h (run (refused (if a then time_of x.when else (if b then reply.IsDir else reply.Inval)) touched) s)
      go true b = refuse_covered h (time_of x.when) touched refl
      go false true = refuse_covered h reply.IsDir touched refl
      go false false = refuse_covered h reply.Inval touched refl

  listing_covered : (touched : List ℕ) (x : StoredNode) → PlanIsCovered h (run (listing touched x) s)
  listing_covered touched x =
      subst (PlanIsCovered h) (sym (run-entries s x.small 0 (8 * x.blocks) (λ entries. refused (reply.Names (sorted_names entries)) touched))) (refuse_covered h (reply.Names (sorted_names (gathered s x.small 0 (8 * x.blocks)))) touched refl)

  by_kind : (next : Target → Ask Plan) (kind : ℕ) (r : Reply) → says_full r ≡ false → ((t : Target) → PlanIsCovered h (run (next t) s)) → (t : Target) → PlanIsCovered h (run (if t.kind == kind then next t else refused r t.dirs) s)
  by_kind next kind r fine each t = go (t.kind == kind)
    where
      go : (a : Bool) → PlanIsCovered h (run (if a then next t else refused r t.dirs) s)
      go true = each t
      go false = refuse_covered h r t.dirs fine

pub stat_covered : (path : List (List ℕ)) → IsCoveredPlan (op.Stat path)
stat_covered path h s birth when = node_covered s h (at_inode (λ touched x. refused (described x) touched)) (inode_covered h s (λ touched x. refused (described x) touched) (described_covered h s)) path

pub time_covered : (path : List (List ℕ)) → IsCoveredPlan (op.Time path)
time_covered path h s birth when = node_covered s h (at_inode (λ touched x. refused (timed x) touched)) (inode_covered h s (λ touched x. refused (timed x) touched) (timed_covered h s)) path

pub list_covered : (path : List (List ℕ)) → IsCoveredPlan (op.List path)
list_covered path h s birth when = node_covered s h (λ t. if t.kind == 2 then at_inode listing t else refused reply.NotDir t.dirs) (by_kind h s (at_inode listing) 2 reply.NotDir refl (inode_covered h s listing (listing_covered h s))) path

pub readlink_covered : (path : List (List ℕ)) → IsCoveredPlan (op.Readlink path)
readlink_covered path h s birth when =
    node_covered s h (λ t. if t.kind == 3 then at_inode (λ touched x. refused (reply.Target x.target) touched) t else refused reply.Inval t.dirs)
    (by_kind h s (at_inode (λ touched x. refused (reply.Target x.target) touched)) 3 reply.Inval refl (inode_covered h s (λ touched x. refused (reply.Target x.target) touched) (λ touched x. refuse_covered h (reply.Target x.target) touched refl))) path

pub read_covered : (path : List (List ℕ)) (off len : ℕ) → IsCoveredPlan (op.Read path off len)
read_covered path off len h s birth when = node_covered s h (at_file (showing off len)) (file_covered h s (showing off len) (showing_covered h s off len)) path

pub truncate_covered : (path : List (List ℕ)) (len : ℕ) → IsCoveredPlan (op.Truncate path len)
truncate_covered path len h s birth when = node_covered s h (at_file (cutting when len)) (file_covered h s (cutting when len) (cutting_covered h s when len)) path

pub write_covered : (path : List (List ℕ)) (off : ℕ) (bytes : List ℕ) → IsCoveredPlan (op.Write path off bytes)
write_covered path off bytes h s birth when =
    let w : Writing = record { off = off; len = length bytes; when = when; byte = λ j. slice_index bytes (j - off) } in
    node_covered s h (at_file (writing h w)) (file_covered h s (writing h w) (writing_covered h s w)) path

pub fill_covered : (path : List (List ℕ)) (off len byte : ℕ) → IsCoveredPlan (op.Fill path off len byte)
fill_covered path off len byte h s birth when =
    let w : Writing = record { off = off; len = len; when = when; byte = λ j. byte } in
    node_covered s h (at_file (writing h w)) (file_covered h s (writing h w) (writing_covered h s w)) path

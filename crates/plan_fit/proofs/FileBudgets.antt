-- The plans of looks and of the bytes of files make small records.
use Rattle.std.proofs.Common.{ℕ, zero, suc, ◌≡◌, ◌≤◌, ◌+◌, ◌-◌, ◌*◌, ◌/◌, ◌%◌, ◌==◌, ◌&&◌, not, Bool, true, false, nat_le, nat_lt, max, min, if◌then◌else◌, Option, Some, None, List, [], ◌∷◌, ◌++◌, length, map, take, drop, refl, ◌∙◌, arith}
use Rattle.std.proofs.lemmas.List.{length-map}
use Rattle.std.specs.Map.{keys_of}
use Rattle.frang_base.specs.declared.reply.Reply.{Reply}
use Rattle.frang_base.specs.declared.reply.Reply.TheVariants as reply
use Rattle.tree_definitions.specs.Numbers.{below}
use Rattle.tree_definitions.specs.Tree.{small_blocks_of}
use Rattle.disk_definitions.proofs.Lists.{length_below}
use Rattle.disk_definitions.proofs.InodeLaws.{few_blocks}
use Rattle.disk_definitions.specs.Store.{Store, StoredNode, StoredEntry}
use Rattle.disk_definitions.specs.Store.Use.{Fresh, Bytes}
use Rattle.disk_definitions.specs.Edits.{Edit}
use Rattle.disk_definitions.specs.Edits.Edit.{SetUse, SetLarge, SetBytes, SetLargeBytes}
use Rattle.disk_definitions.specs.Picks.{picked_many, picked_large}
use Rattle.disk_definitions.proofs.ManyLaws.{picks_the_least}
use Rattle.disk_definitions.specs.Ask.{Ask, Got, ReadInode, ReadBytes, ReadLarge, run, seven}
use Rattle.disk_definitions.specs.Walks.{Spot, Target, walk, at_spot, at_target}
use Rattle.disk_definitions.specs.Walks.Spot.{AtRoot, AtName, AtGap, Lost}
use Rattle.disk_definitions.specs.Plans.{Hand, Plan, refused, read_held}
use Rattle.disk_definitions.specs.Plans.Plan.{Finishes}
use Rattle.disk_definitions.specs.NamePlans.{finish_over}
use Rattle.disk_definitions.specs.FilePlans.{Writing, end_of, keeps_bytes, sectors_met, mixed, directory_blocks, set_sector, read_sector, write_sector, write_sectors, resized, large_taken, file_dated, written_by, writing_in, writing_picked, writing_small, writing_large, writing, blocks_between, large_cut, cut_segments, cut_by, cutting, read_sectors, showing, at_file, with_file}
use Rattle.disk_definitions.specs.LookPlans.{plan_of_node, with_inode, at_inode, entries_of, read_entries, listing, sorted_names}
use Rattle.plan_laws.proofs.Asking.{run-bind, run-segments}
use Rattle.plan_fit.proofs.Bounds.{AreSmall}
use Rattle.plan_fit.proofs.EditBudgets.{AreWithin, small_within, within_join, no_edits, states_within}
use Rattle.plan_fit.proofs.NameBudgets.{MakesSmall, HasFewBlocks, refuse_small, none_small}

-- ---- edits

dated_within : (i : ℕ) (y : StoredNode) → AreWithin (file_dated i y) 1 1280
dated_within i y = record { few = omega arith; short = omega arith }

taken_within : (o : Option ℕ) → AreWithin (large_taken o) 1 23
taken_within None = record { few = omega arith; short = omega arith }
taken_within (Some g) = record { few = omega arith; short = omega arith }

large_within : (x : StoredNode) (len : ℕ) → AreWithin (map (λ g. SetLarge g false) (large_cut x len)) 1 23
large_within x len = go (not (x.large == 0) && nat_le len 65536)
  where
    go : (b : Bool) → AreWithin (map (λ g. SetLarge g false) (if b then (x.large - 1) ∷ [] else [])) 1 23
    go true = record { few = omega arith; short = omega arith }
    go false = record { few = omega arith; short = omega arith }

-- bytes of files are in no record
sector_within : (y : StoredNode) (t : ℕ) (bytes : ℕ → ℕ) → AreWithin (set_sector y t bytes ∷ []) 0 0
sector_within y t bytes = go (nat_lt t 128)
  where
    go : (b : Bool) → AreWithin ((if b then SetBytes (y.small (t / 8)) (t % 8) bytes else SetLargeBytes (y.large - 1) (t - 128) bytes) ∷ []) 0 0
    go true = record { few = omega arith; short = omega arith }
    go false = record { few = omega arith; short = omega arith }

length_between : (x : StoredNode) (from to : ℕ) → length (blocks_between x from to) ≡ to - from
length_between x from to = length-map (below (to - from)) (λ n. x.small (from + n)) ∙ length_below (to - from)

module _ (s : Store) where
  -- ---- sectors

  sector_read : {A : Type 0} (P : A → Type 0) (x : StoredNode) (t : ℕ) (next : (ℕ → ℕ) → Ask A) → ((old : ℕ → ℕ) → P (run (next old) s)) → P (run (read_sector x t next) s)
  sector_read P x t next each = go (nat_lt t 128)
    where
      go : (b : Bool) → P (run (if b then ReadBytes (x.small (t / 8)) (t % 8) next else ReadLarge (x.large - 1) (t - 128) next) s)
      go true = each _
      go false = each _

  sector_written : (w : Writing) (x y : StoredNode) (t : ℕ) (next : List Edit → Ask Plan) → ((one : List Edit) → AreWithin one 0 0 → MakesSmall (run (next one) s)) → MakesSmall (run (write_sector w x y t next) s)
  sector_written w x y t next each = go (keeps_bytes w x.size t)
    where
      go : (b : Bool) → MakesSmall (run (if b then read_sector x t (λ old. next (set_sector y t (mixed w t old) ∷ [])) else next (set_sector y t (mixed w t (λ r. 0)) ∷ [])) s)
      go true = sector_read MakesSmall x t (λ old. next (set_sector y t (mixed w t old) ∷ [])) (λ old. each (set_sector y t (mixed w t old) ∷ []) (sector_within y t (mixed w t old)))
      go false = each (set_sector y t (mixed w t (λ r. 0)) ∷ []) (sector_within y t (mixed w t (λ r. 0)))

  sectors_written : (w : Writing) (x y : StoredNode) (n t : ℕ) (next : List Edit → Ask Plan) → ((bytes : List Edit) → AreWithin bytes 0 0 → MakesSmall (run (next bytes) s)) → MakesSmall (run (write_sectors w x y t n next) s)
  sectors_written w x y zero t next each = each [] no_edits
  sectors_written w x y (suc n) t next each =
      sector_written w x y t (λ one. write_sectors w x y (t + 1) n (λ more. next (one ++ more)))
      (λ one a. sectors_written w x y n (t + 1) (λ more. next (one ++ more)) (λ more b. each (one ++ more) (within_join one more 0 0 0 0 a b)))

  sectors_read : (x : StoredNode) (n t : ℕ) (next : List ℕ → Ask Plan) → ((bytes : List ℕ) → MakesSmall (run (next bytes) s)) → MakesSmall (run (read_sectors x t n next) s)
  sectors_read x zero t next each = each []
  sectors_read x (suc n) t next each =
      sector_read MakesSmall x t (λ bytes. read_sectors x (t + 1) n (λ more. next (map bytes (below 512) ++ more)))
      (λ bytes. sectors_read x n (t + 1) (λ more. next (map bytes (below 512) ++ more)) (λ more. each (map bytes (below 512) ++ more)))

  entries_read : (small : ℕ → ℕ) (n j : ℕ) (next : List StoredEntry → Ask Plan) → ((entries : List StoredEntry) → MakesSmall (run (next entries) s)) → MakesSmall (run (read_entries small j n next) s)
  entries_read small zero j next each = each []
  entries_read small (suc n) j next each =
      let f = seven s.place (small (j / 8)) (j % 8) in
      entries_read small n (j + 1) (λ more. next (entries_of f ++ more)) (λ more. each (entries_of f ++ more))

  -- ---- truncate
  cut_small : (when i : ℕ) (touched : List ℕ) (x : StoredNode) (len : ℕ) → x.blocks ≤ 16 → AreSmall (cut_by when i touched x len).edits
  cut_small when i touched x len few =
      let ks = blocks_between x (small_blocks_of len) x.blocks in
      let long : length ks ≡ x.blocks - small_blocks_of len = length_between x (small_blocks_of len) x.blocks in
      let smalls = map (λ k. SetUse k Fresh) ks in
      let larges = map (λ g. SetLarge g false) (large_cut x len) in
      let node = file_dated i (resized x when len [] None) in
      small_within ((smalls ++ larges) ++ node) ((length ks + 1) + 1) ((23 * length ks + 23) + 1280) (omega arith) (omega arith)
      (within_join (smalls ++ larges) node (length ks + 1) (23 * length ks + 23) 1 1280 (within_join smalls larges (length ks) (23 * length ks) 1 23 (states_within Fresh ks) (large_within x len)) (dated_within i (resized x when len [] None)))

  pub cutting_small : (when len i : ℕ) (touched : List ℕ) (x : StoredNode) → x.blocks ≤ 16 → MakesSmall (run (cutting when len i touched x) s)
  cutting_small when len i touched x few = go (nat_lt x.size len)
    where
      go : (b : Bool) → MakesSmall (run (if b then refused reply.BadOffset touched else finish_over (cut_segments x len) (cut_by when i touched x len)) s)
      go true = refuse_small reply.BadOffset touched
      go false = rw (run-segments (cut_segments x len) (Got (Finishes (cut_by when i touched x len))) s) (cut_small when i touched x len few)

  -- ---- write and fill
  module _ (h : Hand) (w : Writing) (i : ℕ) (touched : List ℕ) (x : StoredNode) where
    written_small : (y : StoredNode) (picks : List ℕ) (o : Option ℕ) (bytes : List Edit) → length picks ≤ 16 → AreWithin bytes 0 0 → AreSmall (written_by i y picks o touched bytes).edits
    written_small y picks o bytes few none =
        let smalls = map (λ k. SetUse k Bytes) picks in
        let n = length picks in
        small_within (((smalls ++ large_taken o) ++ file_dated i y) ++ bytes) (((n + 1) + 1) + 0) (((23 * n + 23) + 1280) + 0) (omega arith) (omega arith)
        (within_join ((smalls ++ large_taken o) ++ file_dated i y) bytes ((n + 1) + 1) ((23 * n + 23) + 1280) 0 0
        (within_join (smalls ++ large_taken o) (file_dated i y) (n + 1) (23 * n + 23) 1 1280 (within_join smalls (large_taken o) n (23 * n) 1 23 (states_within Bytes picks) (taken_within o)) (dated_within i y)) none)

    in_small : (picks : List ℕ) (o : Option ℕ) → length picks ≤ 16 → MakesSmall (run (writing_in w i touched x picks o) s)
    in_small picks o few =
        let y = resized x w.when (max x.size (end_of w)) picks o in
        sectors_written w x y (sectors_met w.off w.len) (w.off / 512) (λ bytes. Got (Finishes (written_by i y picks o touched bytes))) (λ bytes none. written_small y picks o bytes few none)

    picked_small : (o : Option ℕ) (more : ℕ) (p : Option (List ℕ)) → more ≤ 16 → picked_many h.held more ≡ p → MakesSmall (run (writing_picked h w i touched x o p) s)
    picked_small o more None l e = none_small h s (reply.NoBlock (directory_blocks h.held)) touched
    picked_small o more (Some picks) l e = let long : length picks ≡ more = (picks_the_least h.held more picks e).0 in in_small picks o (omega arith)

    small_small : (o : Option ℕ) → MakesSmall (run (writing_small h w i touched x o) s)
    small_small o = go (more == 0)
      where
        more : ℕ
        more = small_blocks_of (max x.size (end_of w)) - x.blocks

        few : more ≤ 16
        few = let l = few_blocks (max x.size (end_of w)) in omega arith

        go : (b : Bool) → MakesSmall (run (if b then writing_in w i touched x [] o else read_held h (writing_picked h w i touched x o (picked_many h.held more))) s)
        go true = in_small [] o (omega arith)
        go false = rw (run-segments (keys_of h.held) (writing_picked h w i touched x o (picked_many h.held more)) s) (picked_small o more (picked_many h.held more) few refl)

    one_small : (p : Option ℕ) → MakesSmall (run (writing_large h w i touched x p) s)
    one_small None = none_small h s reply.NoLarge touched
    one_small (Some g) = small_small (Some g)

    pub writing_makes_small : MakesSmall (run (writing h w i touched x) s)
    writing_makes_small = go (nat_lt x.size w.off) (nat_lt 1114112 (end_of w)) (nat_lt 65536 (end_of w) && x.large == 0)
      where
        go : (a b c : Bool) → MakesSmall (run (if a then refused reply.BadOffset touched else (if b then refused reply.TooBig touched
            else (if c then read_held h (writing_large h w i touched x (picked_large h.held)) else writing_small h w i touched x None))) s)
        go true b c = refuse_small reply.BadOffset touched
        go false true c = refuse_small reply.TooBig touched
        go false false true = rw (run-segments (keys_of h.held) (writing_large h w i touched x (picked_large h.held)) s) (one_small (picked_large h.held))
        go false false false = small_small None

  -- ---- read
  pub showing_small : (off len i : ℕ) (touched : List ℕ) (x : StoredNode) → MakesSmall (run (showing off len i touched x) s)
  showing_small off len i touched x = go (nat_lt x.size off)
    where
      go : (b : Bool) → MakesSmall (run (if b then refused reply.BadOffset touched
          else (let k = min len (x.size - off) in read_sectors x (off / 512) (sectors_met off k) (λ bytes. refused (reply.Shown (take k (drop (off % 512) bytes))) touched))) s)
      go true = refuse_small reply.BadOffset touched
      go false =
          let k = min len (x.size - off) in
          sectors_read x (sectors_met off k) (off / 512) (λ bytes. refused (reply.Shown (take k (drop (off % 512) bytes))) touched) (λ bytes. refuse_small (reply.Shown (take k (drop (off % 512) bytes))) touched)

  -- ---- a node, a file
  module _ (next : Target → Ask Plan) (each : (t : Target) → MakesSmall (run (next t) s)) where
    spot_small : (v : Spot) (dirs : List ℕ) → MakesSmall (run (at_spot v dirs refused next) s)
    spot_small AtRoot dirs = each (record { inode = 0; kind = 2; dirs = dirs })
    spot_small (AtName i x name q e) dirs = each (record { inode = e.inode; kind = e.kind; dirs = dirs })
    spot_small (AtGap i x name) dirs = refuse_small reply.NoEnt dirs
    spot_small (Lost r) dirs = refuse_small r dirs

    pub node_small : (path : List (List ℕ)) → MakesSmall (run (plan_of_node path next) s)
    node_small path = let w = run (walk path) s in rw (run-bind (walk path) (λ w. at_target w refused next) s) (spot_small w.spot w.dirs)

  module _ (nodes : HasFewBlocks s) (next : ℕ → List ℕ → StoredNode → Ask Plan) (each : (i : ℕ) (touched : List ℕ) (x : StoredNode) → x.blocks ≤ 16 → MakesSmall (run (next i touched x) s)) where
    pub file_small : (t : Target) → MakesSmall (run (at_file next t) s)
    file_small t = go (t.kind == 2) (t.kind == 1)
      where
        touched : List ℕ
        touched = t.dirs ++ t.inode ∷ []

        by_kind : (x : StoredNode) → s.inode t.inode ≡ Some x → (c : Bool) → MakesSmall (run (if c then next t.inode touched x else refused reply.Inval touched) s)
        by_kind x e true = each t.inode touched x (nodes t.inode x e)
        by_kind x e false = refuse_small reply.Inval touched

        read : (o : Option StoredNode) → s.inode t.inode ≡ o → MakesSmall (run (with_file (next t.inode touched) touched o) s)
        read None e = refuse_small reply.NoEnt touched
        read (Some x) e = by_kind x e (x.kind == 1)

        go : (a b : Bool) → MakesSmall (run (if a then refused reply.IsDir t.dirs else (if b then ReadInode t.inode (with_file (next t.inode touched) touched) else refused reply.Inval t.dirs)) s)
        go true b = refuse_small reply.IsDir t.dirs
        go false true = read (s.inode t.inode) refl
        go false false = refuse_small reply.Inval t.dirs

  pub inode_small : (next : List ℕ → StoredNode → Ask Plan) → ((touched : List ℕ) (x : StoredNode) → MakesSmall (run (next touched x) s)) → (t : Target) → MakesSmall (run (at_inode next t) s)
  inode_small next each t = go (s.inode t.inode)
    where
      go : (o : Option StoredNode) → MakesSmall (run (with_inode next (t.dirs ++ t.inode ∷ []) o) s)
      go None = refuse_small reply.NoEnt (t.dirs ++ t.inode ∷ [])
      go (Some x) = each (t.dirs ++ t.inode ∷ []) x

  pub listing_small : (touched : List ℕ) (x : StoredNode) → MakesSmall (run (listing touched x) s)
  listing_small touched x = entries_read x.small (8 * x.blocks) 0 (λ entries. refused (reply.Names (sorted_names entries)) touched) (λ entries. refuse_small (reply.Names (sorted_names entries)) touched)

  pub by_kind : (next : Target → Ask Plan) (kind : ℕ) (r : Reply) → ((t : Target) → MakesSmall (run (next t) s)) → (t : Target) → MakesSmall (run (if t.kind == kind then next t else refused r t.dirs) s)
  by_kind next kind r each t = go (t.kind == kind)
    where
      go : (a : Bool) → MakesSmall (run (if a then next t else refused r t.dirs) s)
      go true = each t
      go false = refuse_small r t.dirs

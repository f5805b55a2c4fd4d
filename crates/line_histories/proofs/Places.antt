-- What a line writes into a sector of file bytes goes by the bytes of that sector alone.
use Rattle.std.proofs.Common.{ℕ, zero, suc, ◌≡◌, ◌<◌, ◌≤◌, ◌+◌, ◌-◌, ◌*◌, ◌/◌, ◌%◌, ◌==◌, ◌&&◌, ◌||◌, Bool, true, false, nat_eq, nat_lt, min, max, if◌then◌else◌, Option, Some, None, List, [], ◌∷◌, ◌++◌, map, take, drop, length, slice_index, refl, sym, ap, ap₂, ◌∙◌, subst, arith}
use Rattle.std.proofs.lemmas.Bool.Decides.{nat_tests}
use Rattle.std.proofs.lemmas.List.Elements.{filter_map-append}
use Rattle.std.specs.BTreeMap.{is_at}
use Rattle.std.specs.Map.{keys_of}
use Rattle.std.specs.Option.{option_or}
use Rattle.std.specs.Ordering.{nat_cmp}
use Rattle.std.proofs.lemmas.Bool.{lt-ltb}
use Rattle.frang_base.specs.declared.op.Op.{Op}
use Rattle.frang_base.specs.declared.op.Op.TheVariants as op
use Rattle.frang_base.specs.declared.reply.Reply.TheVariants as reply
use Rattle.sector_bytes.specs.SectorMaps.{value_at}
use Rattle.tree_definitions.specs.Numbers.{below}
use Rattle.tree_definitions.specs.Perform.{Step, Goes, Stops}
use Rattle.tree_definitions.specs.Tree.{FileTree, node_at, small_blocks_of}
use Rattle.tree_definitions.proofs.Pairs.{birth_exact, tie}
use Rattle.disk_definitions.specs.Naming.{Naming}
use Rattle.disk_definitions.specs.Store.{Store, StoredNode}
use Rattle.disk_definitions.specs.Store.Use.{Bytes}
use Rattle.disk_definitions.specs.Edits.{Edit}
use Rattle.disk_definitions.specs.Edits.Edit.{SetUse, SetBytes, SetLargeBytes}
use Rattle.disk_definitions.specs.Picks.{picked_many, picked_large}
use Rattle.disk_definitions.specs.Ask.{BytesAt, LargeAt, Ask, Got, ReadInode, bind, part_of, run, number_of, read_segments}
use Rattle.disk_definitions.specs.Meets.{IsOfTree}
use Rattle.disk_definitions.specs.Walks.{Spot, Target, walk, at_spot, at_target}
use Rattle.disk_definitions.specs.Walks.Spot.{AtRoot, AtName, AtGap, Lost}
use Rattle.disk_definitions.specs.Plans.{Hand, Plan, refused, read_held, Lacks, Clears, Finishes}
use Rattle.disk_definitions.specs.FilePlans.{Writing, end_of, keeps_bytes, mixed, set_sector, sectors_met, resized, large_taken, file_dated, written_by, writing_in, writing_picked, writing_small, writing_large, writing, read_sectors, showing, at_file, with_file, plan_of_file}
use Rattle.disk_definitions.specs.PlanOf.{plan_of}
use Rattle.disk_definitions.specs.Written.{byte_write, byte_writes}
use Rattle.plan_laws.proofs.Asking.{run-bind, run-segments}
use Rattle.plan_laws.proofs.Bytes.{run-sectors}
use Rattle.plan_laws.proofs.Sectors.{old_sector, sector_edits, run-writes}
use Rattle.plan_laws.proofs.FilesFine.{in_small, met_before}
use Rattle.plan_laws.proofs.Standing.{IsFileNode, stands}
use Rattle.line_laws.specs.Stores.{with_bytes}
use Rattle.disk_definitions.specs.Lines.{resolved, with_trail, plan_step, plan_of_line}
use Rattle.line_histories.specs.LinePlans.{edits_in}
use Rattle.line_histories.specs.Places.{SameBytesAt, LinesWriteInPlace}
use Rattle.line_histories.proofs.AllBlind.{no_inode, no_directory, plan_plain}
use Rattle.line_histories.proofs.Asking.{AsksOnly}
use Rattle.line_histories.proofs.AskedNames.{walk_asks}
use Rattle.line_histories.proofs.AskedLines.{resolved_asks}
use Rattle.line_histories.proofs.Blind.{IsNoBytes, plain_same}

-- ---- bytes that are written into one sector

module _ (number : ℕ) where
  abbrev Written : List Edit → Option (List ℕ)
  Written es = value_at (byte_writes es) number

  value_join : (xs ys : List (ℕ × List ℕ)) → value_at (xs ++ ys) number ≡ option_or (value_at xs number) (value_at ys number)
  value_join [] ys = refl
  value_join (x ∷ xs) ys = go (value_join xs ys) (is_at (nat_cmp number) x.0)
    where
      go : value_at (xs ++ ys) number ≡ option_or (value_at xs number) (value_at ys number) → (b : Bool) → (if b then Some x.1 else value_at (xs ++ ys) number) ≡ option_or (if b then Some x.1 else value_at xs number) (value_at ys number)
      go rest true = refl
      go rest false = rest

  written_join : (es fs : List Edit) → Written (es ++ fs) ≡ option_or (Written es) (Written fs)
  written_join es fs = ap (λ xs. value_at xs number) (filter_map-append byte_write es fs) ∙ value_join (byte_writes es) (byte_writes fs)

  -- the same is written into this sector
  abbrev AreSame : List Edit → List Edit → Type 0
  AreSame es fs = Written fs ≡ Written es

  join_same : (es es' fs fs' : List Edit) → AreSame es es' → AreSame fs fs' → AreSame (es ++ fs) (es' ++ fs')
  join_same es es' fs fs' a b = written_join es' fs' ∙ ap₂ option_or a b ∙ sym (written_join es fs)

  one_same : (sector : ℕ) (a b : List ℕ) → (sector ≡ number → b ≡ a) → value_at ((sector, b) ∷ []) number ≡ value_at ((sector, a) ∷ []) number
  one_same sector a b same = go (is_at (nat_cmp number) sector) refl
    where
      go : (c : Bool) → is_at (nat_cmp number) sector ≡ c → (if c then Some b else None) ≡ (if c then Some a else None)
      go true e = ap Some (same (sym (tie nat_cmp birth_exact number sector e)))
      go false e = refl

-- ---- over two disks that differ in the bytes of files, and not in this sector

module _ (base : Store) (tree : FileTree) (naming : Naming) (of : IsOfTree base tree naming) (byte large_byte other large_other : ℕ → ℕ → ℕ) (number : ℕ) (same : SameBytesAt byte large_byte other large_other number) where
  abbrev s : Store
  s = with_bytes base byte large_byte

  abbrev t : Store
  t = with_bytes base other large_other

  abbrev IsSame : Ask Plan → Type 0
  IsSame p = AreSame number (edits_in (run p s)) (edits_in (run p t))

  plain_is : (p : Ask Plan) → AsksOnly IsNoBytes p → IsSame p
  plain_is p a = ap (λ v. Written number (edits_in v)) (plain_same s other large_other p a).0

  bind_is : {A : Type 0} (p : Ask A) (f : A → Ask Plan) → AsksOnly IsNoBytes p → ((a : A) → IsSame (f a)) → IsSame (bind p f)
  bind_is {A} p f plain each =
      ap (λ v. Written number (edits_in v)) (run-bind p f t ∙ ap (λ (a : A). run (f a) t) (plain_same s other large_other p plain).0) ∙ each (run p s) ∙ ap (λ v. Written number (edits_in v)) (sym (run-bind p f s))

  segments_is : (ks : List ℕ) (p : Ask Plan) → IsSame p → IsSame (read_segments ks p)
  segments_is ks p e = ap (λ v. Written number (edits_in v)) (run-segments ks p t) ∙ e ∙ ap (λ v. Written number (edits_in v)) (sym (run-segments ks p s))

  -- ---- sectors of a file that stay where they are
  module _ (w : Writing) (x y : StoredNode) where
    -- where old bytes count, the sector of the new node is that of the old one
    abbrev Stays : ℕ → Type 0
    Stays j = keeps_bytes w x.size j ≡ true → (j < 128 → y.small (j / 8) ≡ x.small (j / 8)) × (128 ≤ j → y.large ≡ x.large)

    -- what the new bytes come among, over a disk with these bytes; and the edit of a sector: of a small block, or of a large one
    abbrev had : (ℕ → ℕ → ℕ) → (ℕ → ℕ → ℕ) → ℕ → Bool → ℕ → ℕ
    had f g j c = if keeps_bytes w x.size j then (if c then part_of f (x.small (j / 8)) (j % 8) else part_of g (x.large - 1) (j - 128)) else (λ r. 0)

    abbrev set_as : ℕ → Bool → (ℕ → ℕ) → Edit
    set_as j c bytes = if c then SetBytes (y.small (j / 8)) (j % 8) bytes else SetLargeBytes (y.large - 1) (j - 128) bytes

    set_is : (j : ℕ) → Stays j → AreSame number (set_sector y j (mixed w j (old_sector w x y s j)) ∷ []) (set_sector y j (mixed w j (old_sector w x y t j)) ∷ [])
    set_is j stays = go (nat_lt j 128) refl
      where
        by_kept : (place : ℕ) (a b : ℕ → ℕ) (k : Bool) → (k ≡ true → place ≡ number → b ≡ a) → place ≡ number →
            map (mixed w j (if k then b else (λ r. 0))) (below 512) ≡ map (mixed w j (if k then a else (λ r. 0))) (below 512)
        by_kept place a b true f e = ap (λ z. map (mixed w j z) (below 512)) (f refl e)
        by_kept place a b false f e = refl

        go : (c : Bool) → nat_lt j 128 ≡ c →
            Written number (set_as j c (mixed w j (had other large_other j c)) ∷ []) ≡ Written number (set_as j c (mixed w j (had byte large_byte j c)) ∷ [])
        go true l =
            let low : j < 128 = grind (arith, nat_tests) in
            let place = number_of (BytesAt (y.small (j / 8)) (j % 8)) in
            one_same number place (map (mixed w j (had byte large_byte j true)) (below 512)) (map (mixed w j (had other large_other j true)) (below 512))
            (by_kept place (part_of byte (x.small (j / 8)) (j % 8)) (part_of other (x.small (j / 8)) (j % 8)) (keeps_bytes w x.size j)
            (λ k e. same.small (x.small (j / 8)) (j % 8) (ap (λ z. number_of (BytesAt z (j % 8))) (sym ((stays k).0 low)) ∙ e)))
        go false l =
            let high : 128 ≤ j = grind (arith, nat_tests) in
            let place = number_of (LargeAt (y.large - 1) (j - 128)) in
            one_same number place (map (mixed w j (had byte large_byte j false)) (below 512)) (map (mixed w j (had other large_other j false)) (below 512))
            (by_kept place (part_of large_byte (x.large - 1) (j - 128)) (part_of large_other (x.large - 1) (j - 128)) (keeps_bytes w x.size j)
            (λ k e. same.large (x.large - 1) (j - 128) (ap (λ z. number_of (LargeAt (z - 1) (j - 128))) (sym ((stays k).1 high)) ∙ e)))

    sets_is : (n j : ℕ) → ((v : ℕ) → j ≤ v → v < j + n → Stays v) → AreSame number (sector_edits w x y s j n) (sector_edits w x y t j n)
    sets_is zero j stays = refl
    sets_is (suc n) j stays =
        join_same number (set_sector y j (mixed w j (old_sector w x y s j)) ∷ []) (set_sector y j (mixed w j (old_sector w x y t j)) ∷ []) (sector_edits w x y s (j + 1) n) (sector_edits w x y t (j + 1) n)
        (set_is j (stays j (omega arith) (omega arith))) (sets_is n (j + 1) (λ v a b. stays v (omega arith) (omega arith)))

  -- ---- write and fill

  module _ (h : Hand) (w : Writing) (i : ℕ) (touched : List ℕ) (x : StoredNode) (file : IsFileNode base x) where
    abbrev size : ℕ
    size = max x.size (end_of w)

    abbrev y : List ℕ → Option ℕ → StoredNode
    y picks o = resized x w.when size picks o

    -- a sector of which old bytes stay is one of the old file's
    old_one : (j : ℕ) → 512 * j < end_of w → keeps_bytes w x.size j ≡ true → 512 * j < x.size
    old_one j l e = go (nat_lt (512 * j) (min w.off x.size)) refl (nat_lt (end_of w) (min (512 * (j + 1)) x.size)) refl e
      where
        go : (a : Bool) → nat_lt (512 * j) (min w.off x.size) ≡ a → (b : Bool) → nat_lt (end_of w) (min (512 * (j + 1)) x.size) ≡ b → (a || b) ≡ true → 512 * j < x.size
        go true p b q e = let z : 512 * j < min w.off x.size = grind (arith, nat_tests) in grind arith
        go false p true q e = let z : end_of w < min (512 * (j + 1)) x.size = grind (arith, nat_tests) in grind arith
        go false p false q e = absurd (cc)

    stays : (picks : List ℕ) (o : Option ℕ) → (65536 < x.size → o ≡ None) → (j : ℕ) → 512 * j < end_of w → Stays w x (y picks o) j
    stays picks o none j l k = (low, high)
      where
        inside : 512 * j < x.size
        inside = old_one j l k

        longer : x.size ≤ size
        longer = grind arith

        low : j < 128 → (y picks o).small (j / 8) ≡ x.small (j / 8)
        low m =
            let i : 512 * j < x.size = inside in
            let g : x.size ≤ size = longer in
            let a : j / 8 < small_blocks_of size = in_small j size (omega arith) m in
            let b : j / 8 < small_blocks_of x.size = in_small j x.size inside m in
            let c : j / 8 < x.blocks = subst (λ z. j / 8 < z) (sym file.blocks) b in
            rw (lt-ltb (j / 8) (small_blocks_of size) a, lt-ltb (j / 8) x.blocks c) refl

        high : 128 ≤ j → (y picks o).large ≡ x.large
        high m =
            let i : 512 * j < x.size = inside in
            let g : x.size ≤ size = longer in
            let big : 65536 < x.size = omega arith in
            ap (λ z. (y picks z).large) (none big) ∙ rw (lt-ltb 65536 size (omega arith)) refl

    in_is : (picks : List ℕ) (o : Option ℕ) → (65536 < x.size → o ≡ None) → IsSame (writing_in w i touched x picks o)
    in_is picks o none =
        ap (λ v. Written number (edits_in v)) (run-writes w x (y picks o) t (w.off / 512) (sectors_met w.off w.len) next)
        ∙ join_same number before before (sector_edits w x (y picks o) s (w.off / 512) (sectors_met w.off w.len)) (sector_edits w x (y picks o) t (w.off / 512) (sectors_met w.off w.len)) refl
        (sets_is w x (y picks o) (sectors_met w.off w.len) (w.off / 512) (λ v a b. stays picks o none v (met_before w.off w.len v b a)))
        ∙ ap (λ v. Written number (edits_in v)) (sym (run-writes w x (y picks o) s (w.off / 512) (sectors_met w.off w.len) next))
      where
        before : List Edit
        before = map (λ k. SetUse k Bytes) picks ++ large_taken o ++ file_dated i (y picks o)

        next : List Edit → Ask Plan
        next es = Got (Finishes (written_by i (y picks o) picks o touched es))

    picked_is : (o : Option ℕ) → (65536 < x.size → o ≡ None) → (picks : Option (List ℕ)) → IsSame (writing_picked h w i touched x o picks)
    picked_is o none None = refl
    picked_is o none (Some picks) = in_is picks o none

    small_is : (o : Option ℕ) → (65536 < x.size → o ≡ None) → IsSame (writing_small h w i touched x o)
    small_is o none = go (more == 0)
      where
        more : ℕ
        more = small_blocks_of size - x.blocks

        p : Ask Plan
        p = writing_picked h w i touched x o (picked_many h.held more)

        go : (c : Bool) → IsSame (if c then writing_in w i touched x [] o else read_held h p)
        go true = in_is [] o none
        go false = segments_is (keys_of h.held) p (picked_is o none (picked_many h.held more))

    large_is : (x.large ≡ 0) → (o : Option ℕ) → IsSame (writing_large h w i touched x o)
    large_is none None = refl
    large_is none (Some g) = small_is (Some g) (λ l. absurd (file.large l none))

    writing_is : IsSame (writing h w i touched x)
    writing_is = go (nat_lt x.size w.off) (nat_lt 1114112 (end_of w)) (nat_lt 65536 (end_of w)) (nat_eq x.large 0) refl
      where
        p : Ask Plan
        p = writing_large h w i touched x (picked_large h.held)

        go : (a b c d : Bool) → nat_eq x.large 0 ≡ d → IsSame (if a then refused reply.BadOffset touched else (if b then refused reply.TooBig touched else (if c && d then read_held h p else writing_small h w i touched x None)))
        go true b c d e = refl
        go false true c d e = refl
        go false false true true e = segments_is (keys_of h.held) p (large_is (grind (arith, nat_tests)) (picked_large h.held))
        go false false true false e = small_is None (λ l. refl)
        go false false false d e = small_is None (λ l. refl)

  -- ---- the file that a path names

  file_node : (i : ℕ) (x : StoredNode) → base.inode i ≡ Some x → nat_eq x.kind 1 ≡ true → IsFileNode base x
  file_node i x is e = (stands base (node_at tree) naming of.pictures i x is).file (grind (arith, nat_tests))

  module _ (next : ℕ → List ℕ → StoredNode → Ask Plan) (each : (i : ℕ) (touched : List ℕ) (x : StoredNode) → IsFileNode base x → IsSame (next i touched x)) where
    with_file_is : (i : ℕ) (touched : List ℕ) (o : Option StoredNode) → base.inode i ≡ o → IsSame (with_file (next i touched) touched o)
    with_file_is i touched None is = refl
    with_file_is i touched (Some x) is = go (nat_eq x.kind 1) refl
      where
        go : (b : Bool) → nat_eq x.kind 1 ≡ b → IsSame (if b then next i touched x else refused reply.Inval touched)
        go true e = each i touched x (file_node i x is e)
        go false e = refl

    at_file_is : (g : Target) → IsSame (at_file next g)
    at_file_is g = go (g.kind == 2) (g.kind == 1)
      where
        touched : List ℕ
        touched = g.dirs ++ g.inode ∷ []

        go : (a b : Bool) → IsSame (if a then refused reply.IsDir g.dirs else (if b then ReadInode g.inode (with_file (next g.inode touched) touched) else refused reply.Inval g.dirs))
        go true b = refl
        go false true = with_file_is g.inode touched (base.inode g.inode) refl
        go false false = refl

    spot_is : (v : Spot) (dirs : List ℕ) → IsSame (at_spot v dirs refused (at_file next))
    spot_is AtRoot dirs = at_file_is (record { inode = 0; kind = 2; dirs = dirs })
    spot_is (AtName i x name q e) dirs = at_file_is (record { inode = e.inode; kind = e.kind; dirs = dirs })
    spot_is (AtGap i x name) dirs = refl
    spot_is (Lost r) dirs = refl

    file_is : (path : List (List ℕ)) → IsSame (plan_of_file path next)
    file_is path = bind_is (walk path) (λ w. at_target w refused (at_file next)) (walk_asks IsNoBytes no_inode no_directory path) (λ w. spot_is w.spot w.dirs)

  showing_is : (off len i : ℕ) (touched : List ℕ) (x : StoredNode) → IsSame (showing off len i touched x)
  showing_is off len i touched x = go (nat_lt x.size off)
    where
      shown : ℕ
      shown = min len (x.size - off)

      next : List ℕ → Ask Plan
      next said = refused (reply.Shown (take shown (drop (off % 512) said))) touched

      go : (c : Bool) → IsSame (if c then refused reply.BadOffset touched else read_sectors x (off / 512) (sectors_met off shown) next)
      go true = refl
      go false = ap (λ v. Written number (edits_in v)) (run-sectors t x (off / 512) (sectors_met off shown) next) ∙ ap (λ v. Written number (edits_in v)) (sym (run-sectors s x (off / 512) (sectors_met off shown) next))

  write_is : (h : Hand) (w : Writing) (path : List (List ℕ)) → IsSame (plan_of_file path (writing h w))
  write_is h w path = file_is (writing h w) (λ i touched x file. writing_is h w i touched x file) path

  plan_is : (o : Op) (h : Hand) (birth when : ℕ) → IsSame (plan_of h birth when o)
  plan_is (op.Write path off bytes) h birth when = write_is h (record { off = off; len = length bytes; when = when; byte = λ j. slice_index bytes (j - off) }) path
  plan_is (op.Fill path off len value) h birth when = write_is h (record { off = off; len = len; when = when; byte = λ j. value }) path
  plan_is (op.Read path off len) h birth when = file_is (showing off len) (λ i touched x file. showing_is off len i touched x) path
  plan_is (op.Create path) h birth when = plain_is (plan_of h birth when (op.Create path)) (plan_plain (op.Create path) tt h birth when)
  plan_is (op.Mkdir path) h birth when = plain_is (plan_of h birth when (op.Mkdir path)) (plan_plain (op.Mkdir path) tt h birth when)
  plan_is (op.Symlink path target) h birth when = plain_is (plan_of h birth when (op.Symlink path target)) (plan_plain (op.Symlink path target) tt h birth when)
  plan_is (op.Link path to) h birth when = plain_is (plan_of h birth when (op.Link path to)) (plan_plain (op.Link path to) tt h birth when)
  plan_is (op.Unlink path) h birth when = plain_is (plan_of h birth when (op.Unlink path)) (plan_plain (op.Unlink path) tt h birth when)
  plan_is (op.Rmdir path) h birth when = plain_is (plan_of h birth when (op.Rmdir path)) (plan_plain (op.Rmdir path) tt h birth when)
  plan_is (op.Rename path to) h birth when = plain_is (plan_of h birth when (op.Rename path to)) (plan_plain (op.Rename path to) tt h birth when)
  plan_is (op.Truncate path len) h birth when = plain_is (plan_of h birth when (op.Truncate path len)) (plan_plain (op.Truncate path len) tt h birth when)
  plan_is (op.Stat path) h birth when = plain_is (plan_of h birth when (op.Stat path)) (plan_plain (op.Stat path) tt h birth when)
  plan_is (op.List path) h birth when = plain_is (plan_of h birth when (op.List path)) (plan_plain (op.List path) tt h birth when)
  plan_is (op.Readlink path) h birth when = plain_is (plan_of h birth when (op.Readlink path)) (plan_plain (op.Readlink path) tt h birth when)
  plan_is (op.Time path) h birth when = plain_is (plan_of h birth when (op.Time path)) (plan_plain (op.Time path) tt h birth when)
  plan_is op.Sync h birth when = refl
  plan_is op.Mount h birth when = refl
  plan_is op.Unmount h birth when = refl
  plan_is op.Crash h birth when = refl
  plan_is (op.CrashAt k) h birth when = refl
  plan_is (op.CutAt k) h birth when = refl
  plan_is op.Stall h birth when = refl

  -- ---- lines

  trail_edits : (trail : List ℕ) (v : Plan) → edits_in (with_trail trail v) ≡ edits_in v
  trail_edits trail Lacks = refl
  trail_edits trail (Clears k locks) = refl
  trail_edits trail (Finishes f) = refl

  trailed_is : (trail : List ℕ) (p : Ask Plan) → IsSame p → IsSame (bind p (λ plan. Got (with_trail trail plan)))
  trailed_is trail p e =
      let f : Plan → Ask Plan = λ plan. Got (with_trail trail plan) in
      ap (λ v. Written number (edits_in v)) (run-bind p f t) ∙ ap (Written number) (trail_edits trail (run p t)) ∙ e
      ∙ sym (ap (λ v. Written number (edits_in v)) (run-bind p f s) ∙ ap (Written number) (trail_edits trail (run p s)))

  step_is : (h : Hand) (birth when : ℕ) (trail : List ℕ) (step : Step) → IsSame (plan_step h birth when trail step)
  step_is h birth when trail (Goes o) = trailed_is trail (plan_of h birth when o) (plan_is o h birth when)
  step_is h birth when trail (Stops r) = refl

  line_is : (o : Op) (h : Hand) (birth when : ℕ) → IsSame (plan_of_line h birth when o)
  line_is o h birth when = bind_is (resolved o) (λ w. plan_step h birth when w.trail w.step) (resolved_asks IsNoBytes no_inode no_directory o) (λ w. step_is h birth when w.trail w.step)

pub lines_write_in_place : LinesWriteInPlace
lines_write_in_place o h base tree naming birth when byte large_byte other large_other number of same = line_is base tree naming of byte large_byte other large_other number same o h birth when

-- Operations that read no bytes look at none; write, fill and read look at sectors of their file below its size.
use Rattle.std.proofs.Common.{ℕ, zero, suc, ◌≡◌, ◌<◌, ◌≤◌, ◌+◌, ◌-◌, ◌*◌, ◌/◌, ◌%◌, ◌==◌, ◌&&◌, ◌||◌, ⊎_elim, Bool, true, false, nat_lt, nat_eq, min, max, if◌then◌else◌, Option, Some, None, List, [], ◌∷◌, ◌++◌, length, map, take, drop, slice_index, refl, sym, ap, subst, arith}
use Rattle.std.proofs.lemmas.Bool.Decides.{nat_tests}
use Rattle.std.specs.List.{AllByRecursion, Contains}
use Rattle.std.specs.Map.{keys_of}
use Rattle.std.proofs.lemmas.Bool.{eqb-true}
use Rattle.frang_base.specs.declared.op.Op.{Op}
use Rattle.frang_base.specs.declared.op.Op.TheVariants as op
use Rattle.frang_base.specs.declared.reply.Reply.TheVariants as reply
use Rattle.tree_definitions.specs.Numbers.{below}
use Rattle.tree_definitions.specs.Perform.{Step, Goes, Stops}
use Rattle.tree_definitions.specs.Tree.{small_blocks_of}
use Rattle.disk_definitions.specs.Store.{Store, StoredNode}
use Rattle.disk_definitions.specs.Edits.{Edit}
use Rattle.disk_definitions.specs.Picks.{picked_many, picked_large}
use Rattle.disk_definitions.specs.Ask.{Sector, InodeAt, DirectoryAt, SegmentAt, BytesAt, LargeAt, Ask, Got, ReadInode, ReadBytes, ReadLarge, part_of, run, looks, read_segments}
use Rattle.disk_definitions.specs.FilePlans.{Writing, end_of, keeps_bytes, mixed, read_sector, set_sector, write_sector, write_sectors, sectors_met, resized, written_by, writing_in, writing_picked, writing_small, writing_large, writing, read_sectors, showing, at_file, with_file, plan_of_file}
use Rattle.disk_definitions.specs.PlanOf.{plan_of}
use Rattle.disk_definitions.specs.Plans.{Hand, Plan, refused, read_held}
use Rattle.disk_definitions.specs.Plans.Plan.{Finishes}
use Rattle.disk_definitions.specs.Walks.{Spot, Target, walk, at_spot, at_target}
use Rattle.disk_definitions.specs.Walks.Spot.{AtRoot, AtName, AtGap, Lost}
use Rattle.plan_laws.proofs.Asking.{looks-bind}
use Rattle.plan_laws.proofs.Covering.{has_cases, not_in_none}
use Rattle.disk_definitions.specs.Lines.{resolved, plan_of_line}
use Rattle.line_laws.proofs.Running.{step_looks, looks_line}
use Rattle.line_histories.specs.Files.{file_sector, HoldsBytes}
use Rattle.line_histories.proofs.AllBlind.{no_inode, no_directory, ReadsNoBytes, plan_plain}
use Rattle.line_histories.proofs.AskedLines.{resolved_asks}
use Rattle.line_histories.proofs.AskedNames.{walk_asks}
use Rattle.line_histories.proofs.Asking.{asked}
use Rattle.line_histories.proofs.Blind.{IsNoBytes}
use Rattle.line_histories.specs.Looked.{IsInFile, LinesLookAtBytesOfFiles}

-- the sectors that bytes meet end less than a sector past them
met_below : (off len : ℕ) → 512 * (off / 512 + sectors_met off len) < off + len + 512
met_below off len = go (nat_eq len 0) refl
  where
    go : (b : Bool) → nat_eq len 0 ≡ b → 512 * (off / 512 + (if b then 0 else (off + len - 1) / 512 + 1 - off / 512)) < off + len + 512
    go true e = omega arith
    go false e = let some : 0 < len = grind (arith, nat_tests) in omega arith

-- a sector that begins before the end of what is written, and keeps bytes of the file, begins below its size
kept_below : (w : Writing) (size t : ℕ) → 512 * t < end_of w → keeps_bytes w size t ≡ true → 512 * t < size
kept_below w size t l = go (nat_lt (512 * t) (min w.off size)) refl (nat_lt (end_of w) (min (512 * (t + 1)) size)) refl
  where
    go : (a : Bool) → nat_lt (512 * t) (min w.off size) ≡ a → (b : Bool) → nat_lt (end_of w) (min (512 * (t + 1)) size) ≡ b → (a || b) ≡ true → 512 * t < size
    go true p b q e = let low : 512 * t < min w.off size = grind (arith, nat_tests) in omega arith
    go false p true q e = let past : end_of w < min (512 * (t + 1)) size = grind (arith, nat_tests) in omega arith
    go false p false q e = absurd (cc)

module _ (s : Store) where
  abbrev AllIn : List Sector → Type 0
  AllIn xs = AllByRecursion (IsInFile s) xs

  one_in : (xs : List Sector) → AllIn xs → (x : Sector) → Contains xs x → IsInFile s x
  one_in [] all x c = absurd (not_in_none x c)
  one_in (y ∷ xs) all x c = ⊎_elim (λ e. subst (IsInFile s) e all.0) (λ d. one_in xs all.1 x d) (has_cases y x xs c)

  both_in : (xs ys : List Sector) → AllIn xs → AllIn ys → AllIn (xs ++ ys)
  both_in [] ys f g = g
  both_in (x ∷ xs) ys f g = (f.0, both_in xs ys f.1 g)

  plain_in : (xs : List Sector) → AllByRecursion IsNoBytes xs → AllIn xs
  plain_in [] a = tt
  plain_in (InodeAt i ∷ xs) a = (tt, plain_in xs a.1)
  plain_in (DirectoryAt k part ∷ xs) a = (tt, plain_in xs a.1)
  plain_in (SegmentAt k ∷ xs) a = (tt, plain_in xs a.1)
  plain_in (BytesAt k part ∷ xs) a = absurd a.0
  plain_in (LargeAt g part ∷ xs) a = absurd a.0

  segments_in : (ks : List ℕ) (p : Ask Plan) → AllIn (looks p s) → AllIn (looks (read_segments ks p) s)
  segments_in [] p f = f
  segments_in (k ∷ ks) p f = (tt, segments_in ks p f)

  -- ---- the sectors of a file
  module _ (i : ℕ) (x : StoredNode) (is : s.inode i ≡ Some x) (file : x.kind ≡ 1) where
    here : (t : ℕ) → 512 * t < x.size → (y : Sector) → file_sector x t ≡ y → HoldsBytes s y
    here t l y e = record { inode = i; node = x; is = is; kind = file; index = t; below = l; here = e }

    sector_in : (t : ℕ) (next : (ℕ → ℕ) → Ask Plan) → 512 * t < x.size → ((f : ℕ → ℕ) → AllIn (looks (next f) s)) → AllIn (looks (read_sector x t next) s)
    sector_in t next l f = go (nat_lt t 128) refl
      where
        go : (b : Bool) → nat_lt t 128 ≡ b → AllIn (looks (if b then ReadBytes (x.small (t / 8)) (t % 8) next else ReadLarge (x.large - 1) (t - 128) next) s)
        go true e = (here t l (BytesAt (x.small (t / 8)) (t % 8)) (ap (λ (b : Bool). if b then BytesAt (x.small (t / 8)) (t % 8) else LargeAt (x.large - 1) (t - 128)) e), f (part_of s.byte (x.small (t / 8)) (t % 8)))
        go false e = (here t l (LargeAt (x.large - 1) (t - 128)) (ap (λ (b : Bool). if b then BytesAt (x.small (t / 8)) (t % 8) else LargeAt (x.large - 1) (t - 128)) e), f (part_of s.large_byte (x.large - 1) (t - 128)))

    write_in : (w : Writing) (y : StoredNode) (t : ℕ) (next : List Edit → Ask Plan) → 512 * t < end_of w → ((es : List Edit) → AllIn (looks (next es) s)) → AllIn (looks (write_sector w x y t next) s)
    write_in w y t next l f = go (keeps_bytes w x.size t) refl
      where
        go : (b : Bool) → keeps_bytes w x.size t ≡ b → AllIn (looks (if b then read_sector x t (λ old. next (set_sector y t (mixed w t old) ∷ [])) else next (set_sector y t (mixed w t (λ r. 0)) ∷ [])) s)
        go true e = sector_in t (λ old. next (set_sector y t (mixed w t old) ∷ [])) (kept_below w x.size t l e) (λ old. f (set_sector y t (mixed w t old) ∷ []))
        go false e = f (set_sector y t (mixed w t (λ r. 0)) ∷ [])

    writes_in : (w : Writing) (y : StoredNode) (n t : ℕ) (next : List Edit → Ask Plan) → 512 * (t + n) < end_of w + 512 → ((es : List Edit) → AllIn (looks (next es) s)) → AllIn (looks (write_sectors w x y t n next) s)
    writes_in w y zero t next l f = f []
    writes_in w y (suc n) t next l f =
        write_in w y t (λ one. write_sectors w x y (t + 1) n (λ more. next (one ++ more))) (omega arith)
        (λ one. writes_in w y n (t + 1) (λ more. next (one ++ more)) (omega arith) (λ more. f (one ++ more)))

    reads_in : (n t : ℕ) (next : List ℕ → Ask Plan) → 512 * (t + n) < x.size + 512 → ((bytes : List ℕ) → AllIn (looks (next bytes) s)) → AllIn (looks (read_sectors x t n next) s)
    reads_in zero t next l f = f []
    reads_in (suc n) t next l f =
        sector_in t (λ bytes. read_sectors x (t + 1) n (λ more. next (map bytes (below 512) ++ more))) (omega arith)
        (λ bytes. reads_in n (t + 1) (λ more. next (map bytes (below 512) ++ more)) (omega arith) (λ more. f (map bytes (below 512) ++ more)))

    -- ---- write and fill
    module _ (h : Hand) (w : Writing) (touched : List ℕ) where
      piece_in : (picks : List ℕ) (large : Option ℕ) → AllIn (looks (writing_in w i touched x picks large) s)
      piece_in picks large =
          let y = resized x w.when (max x.size (end_of w)) picks large in
          writes_in w y (sectors_met w.off w.len) (w.off / 512) (λ bytes. Got (Finishes (written_by i y picks large touched bytes))) (met_below w.off w.len) (λ bytes. tt)

      picked_in : (large : Option ℕ) (o : Option (List ℕ)) → AllIn (looks (writing_picked h w i touched x large o) s)
      picked_in large None = tt
      picked_in large (Some picks) = piece_in picks large

      abbrev more : ℕ
      more = small_blocks_of (max x.size (end_of w)) - x.blocks

      small_in : (large : Option ℕ) → AllIn (looks (writing_small h w i touched x large) s)
      small_in large = go (more == 0)
        where
          go : (b : Bool) → AllIn (looks (if b then writing_in w i touched x [] large else read_held h (writing_picked h w i touched x large (picked_many h.held more))) s)
          go true = piece_in [] large
          go false = segments_in (keys_of h.held) (writing_picked h w i touched x large (picked_many h.held more)) (picked_in large (picked_many h.held more))

      large_in : (o : Option ℕ) → AllIn (looks (writing_large h w i touched x o) s)
      large_in None = tt
      large_in (Some g) = small_in (Some g)

      writing_all_in : AllIn (looks (writing h w i touched x) s)
      writing_all_in = go (nat_lt x.size w.off) (nat_lt 1114112 (end_of w)) (nat_lt 65536 (end_of w) && x.large == 0)
        where
          go : (p q r : Bool) → AllIn (looks (if p then refused reply.BadOffset touched else (if q then refused reply.TooBig touched else (if r then read_held h (writing_large h w i touched x (picked_large h.held)) else writing_small h w i touched x None))) s)
          go true q r = tt
          go false true r = tt
          go false false true = segments_in (keys_of h.held) (writing_large h w i touched x (picked_large h.held)) (large_in (picked_large h.held))
          go false false false = small_in None

    -- ---- read
    showing_in : (off len : ℕ) (touched : List ℕ) → AllIn (looks (showing off len i touched x) s)
    showing_in off len touched = go (nat_lt x.size off) refl
      where
        shown : ℕ
        shown = min len (x.size - off)

        next : List ℕ → Ask Plan
        next bytes = refused (reply.Shown (take shown (drop (off % 512) bytes))) touched

        within : (n : ℕ) → n ≡ min len (x.size - off) → off ≤ x.size → 512 * (off / 512 + sectors_met off n) < x.size + 512
        within n e l = let m : 512 * (off / 512 + sectors_met off n) < off + n + 512 = met_below off n in omega arith

        go : (b : Bool) → nat_lt x.size off ≡ b → AllIn (looks (if b then refused reply.BadOffset touched else read_sectors x (off / 512) (sectors_met off shown) next) s)
        go true e = tt
        go false e = let low : off ≤ x.size = grind (arith, nat_tests) in reads_in (sectors_met off shown) (off / 512) next (within shown refl low) (λ bytes. tt)

  -- ---- the file that a path names
  module _ (next : ℕ → List ℕ → StoredNode → Ask Plan) (each : (i : ℕ) (touched : List ℕ) (x : StoredNode) → s.inode i ≡ Some x → x.kind ≡ 1 → AllIn (looks (next i touched x) s)) where
    with_file_in : (i : ℕ) (touched : List ℕ) (o : Option StoredNode) → s.inode i ≡ o → AllIn (looks (with_file (next i touched) touched o) s)
    with_file_in i touched None is = tt
    with_file_in i touched (Some x) is = go (nat_eq x.kind 1) refl
      where
        go : (b : Bool) → nat_eq x.kind 1 ≡ b → AllIn (looks (if b then next i touched x else refused reply.Inval touched) s)
        go true e = each i touched x is (eqb-true x.kind 1 e)
        go false e = tt

    at_file_in : (g : Target) → AllIn (looks (at_file next g) s)
    at_file_in g = go (g.kind == 2) (g.kind == 1)
      where
        touched : List ℕ
        touched = g.dirs ++ g.inode ∷ []

        go : (a b : Bool) → AllIn (looks (if a then refused reply.IsDir g.dirs else (if b then ReadInode g.inode (with_file (next g.inode touched) touched) else refused reply.Inval g.dirs)) s)
        go true b = tt
        go false true = (tt, with_file_in g.inode touched (s.inode g.inode) refl)
        go false false = tt

    spot_in : (v : Spot) (dirs : List ℕ) → AllIn (looks (at_spot v dirs refused (at_file next)) s)
    spot_in AtRoot dirs = at_file_in (record { inode = 0; kind = 2; dirs = dirs })
    spot_in (AtName i x name q e) dirs = at_file_in (record { inode = e.inode; kind = e.kind; dirs = dirs })
    spot_in (AtGap i x name) dirs = tt
    spot_in (Lost r) dirs = tt

    file_in : (path : List (List ℕ)) → AllIn (looks (plan_of_file path next) s)
    file_in path =
        let w = run (walk path) s in
        subst AllIn (sym (looks-bind (walk path) (λ w. at_target w refused (at_file next)) s))
        (both_in (looks (walk path) s) (looks (at_spot w.spot w.dirs refused (at_file next)) s) (plain_in (looks (walk path) s) (asked IsNoBytes (walk path) s (walk_asks IsNoBytes no_inode no_directory path)))
        (spot_in w.spot w.dirs))

  -- ---- operation by operation
  plain_op : (o : Op) → ReadsNoBytes o → (h : Hand) (birth when : ℕ) → AllIn (looks (plan_of h birth when o) s)
  plain_op o r h birth when = plain_in (looks (plan_of h birth when o) s) (asked IsNoBytes (plan_of h birth when o) s (plan_plain o r h birth when))

  write_op : (h : Hand) (w : Writing) (path : List (List ℕ)) → AllIn (looks (plan_of_file path (writing h w)) s)
  write_op h w path = file_in (writing h w) (λ i touched x is file. writing_all_in i x is file h w touched) path

  plan_in : (o : Op) (h : Hand) (birth when : ℕ) → AllIn (looks (plan_of h birth when o) s)
  plan_in (op.Create path) h birth when = plain_op (op.Create path) tt h birth when
  plan_in (op.Mkdir path) h birth when = plain_op (op.Mkdir path) tt h birth when
  plan_in (op.Symlink path target) h birth when = plain_op (op.Symlink path target) tt h birth when
  plan_in (op.Link path to) h birth when = plain_op (op.Link path to) tt h birth when
  plan_in (op.Unlink path) h birth when = plain_op (op.Unlink path) tt h birth when
  plan_in (op.Rmdir path) h birth when = plain_op (op.Rmdir path) tt h birth when
  plan_in (op.Rename path to) h birth when = plain_op (op.Rename path to) tt h birth when
  plan_in (op.Write path off bytes) h birth when = write_op h (record { off = off; len = length bytes; when = when; byte = λ j. slice_index bytes (j - off) }) path
  plan_in (op.Fill path off len value) h birth when = write_op h (record { off = off; len = len; when = when; byte = λ j. value }) path
  plan_in (op.Truncate path len) h birth when = plain_op (op.Truncate path len) tt h birth when
  plan_in (op.Read path off len) h birth when = file_in (showing off len) (λ i touched x is file. showing_in i x is file off len touched) path
  plan_in (op.Stat path) h birth when = plain_op (op.Stat path) tt h birth when
  plan_in (op.List path) h birth when = plain_op (op.List path) tt h birth when
  plan_in (op.Readlink path) h birth when = plain_op (op.Readlink path) tt h birth when
  plan_in (op.Time path) h birth when = plain_op (op.Time path) tt h birth when
  plan_in op.Sync h birth when = tt
  plan_in op.Mount h birth when = tt
  plan_in op.Unmount h birth when = tt
  plan_in op.Crash h birth when = tt
  plan_in (op.CrashAt k) h birth when = tt
  plan_in (op.CutAt k) h birth when = tt
  plan_in op.Stall h birth when = tt

  step_in : (h : Hand) (birth when : ℕ) (step : Step) → AllIn (step_looks h s birth when step)
  step_in h birth when (Goes o) = plan_in o h birth when
  step_in h birth when (Stops r) = tt

  line_in : (o : Op) (h : Hand) (birth when : ℕ) → AllIn (looks (plan_of_line h birth when o) s)
  line_in o h birth when =
      let w = run (resolved o) s in
      subst AllIn (sym (looks_line h s birth when o))
      (both_in (looks (resolved o) s) (step_looks h s birth when w.step) (plain_in (looks (resolved o) s) (asked IsNoBytes (resolved o) s (resolved_asks IsNoBytes no_inode no_directory o))) (step_in h birth when w.step))

pub lines_look : LinesLookAtBytesOfFiles
lines_look o h s birth when x c = one_in s (looks (plan_of_line h birth when o) s) (line_in s o h birth when) x c

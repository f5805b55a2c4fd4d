-- A write with its blocks at hand fits the disk: bytes are put into blocks that the file has, or that come into use for it.
use Rattle.std.proofs.Common.{ℕ, zero, suc, ◌≡◌, ◌<◌, ◌≤◌, ◌+◌, ◌-◌, ◌*◌, ◌/◌, ◌%◌, ◌^◌, ◌||◌, Bool, true, false, nat_lt, max, if◌then◌else◌, inl, Option, Some, None, List, [], ◌∷◌, ◌++◌, length, map, slice_index, refl, sym, ◌∙◌, ap, subst, arith, eq-eqb}
use Rattle.std.proofs.lemmas.Bool.Decides.{nat_tests}
use Rattle.std.proofs.lemmas.List.{get_or_past}
use Rattle.std.proofs.lemmas.Bool.{lt-ltb}
use Rattle.tree_definitions.specs.Tree.{small_blocks_of}
use Rattle.disk_definitions.specs.Store.{Store, StoredNode}
use Rattle.disk_definitions.specs.Store.Use.{Bytes}
use Rattle.disk_definitions.specs.Standing.{IsMetadata}
use Rattle.disk_definitions.specs.Edits.{Edit, edited_all}
use Rattle.disk_definitions.specs.Edits.Edit.{SetUse, SetBytes, SetLargeBytes}
use Rattle.disk_definitions.proofs.Puts.{edited_append}
use Rattle.disk_definitions.specs.Ask.{Ask, Got}
use Rattle.disk_definitions.specs.Plans.{Hand, Plan}
use Rattle.disk_definitions.specs.Plans.Plan.{Finishes}
use Rattle.disk_definitions.specs.FilePlans.{Writing, end_of, sectors_met, mixed, resized, large_after, large_taken, large_segment, file_dated, written_by, write_sectors, writing_in}
use Rattle.disk_definitions.specs.FitEdits.{IsFitNode, AreFit}
use Rattle.plan_laws.proofs.Among.{is_among, among_at, listed}
use Rattle.plan_laws.proofs.Setting.{IsSet, set_edits, all_set}
use Rattle.plan_laws.proofs.Sectors.{old_sector, sector_edits, run-writes, bytes_only}
use Rattle.plan_laws.proofs.Written.{met_some}
use Rattle.plan_laws.proofs.Placing.{taken_is}
use Rattle.disk_definitions.specs.FitPlans.{PlanIsFit, IsFitFinish}
use Rattle.plan_fit.proofs.Refused.{Fits}
use Rattle.plan_fit.proofs.FileNodes.{goes_by_size, resized_fits}
use Rattle.plan_fit.proofs.Changes.{fit_join, uses_fit, dated_fits, no_directory}
use Rattle.plan_fit.proofs.Aimed.{IsFile}

-- blocks that are picked: so many, and all of the disk
pub record ArePicks (g more : ℕ) (picks : List ℕ) : Type 0 where
  pub size : length picks ≡ more
  pub within : (j : ℕ) → j < length picks → slice_index picks j < 1024 * g

-- a large block that is picked is the disk's; where none is, a long file has its own
abbrev pub TakesLarge : ℕ → StoredNode → ℕ → Option ℕ → Type 0
TakesLarge g x size None = 65536 < size → 0 < x.large
TakesLarge g x size (Some k) = k < g

-- the large block of a long file is in use at the end
large_end : (g : ℕ) (x : StoredNode) (size : ℕ) (bit old : ℕ → Bool) → 65536 < size → (0 < x.large → (x.large - 1 < g) × (old (x.large - 1) ≡ true)) → (q : Option ℕ) → TakesLarge g x size q →
    ((k : ℕ) → bit k ≡ (if is_among k (large_segment q) then true else old k)) → (large_after x q size - 1 < g) × (bit (large_after x q size - 1) ≡ true)
large_end g x size bit old l owned None t at = let r = owned (t l) in rw (lt-ltb 65536 size l) (r.0, at (x.large - 1) ∙ r.1)
large_end g x size bit old l owned (Some k) t at =
    let z : k + 1 - 1 ≡ k = omega arith in
    let a : is_among k (k ∷ []) ≡ true = ap (λ v. v || false) (eq-eqb k k refl) in
    rw (lt-ltb 65536 size l, z) (t, at k ∙ rw a refl)

module _ (h : Hand) (g : ℕ) (few : g ≤ 64) (s : Store) (i : ℕ) (touched : List ℕ) (x : StoredNode) (file : IsFile g s i x) (w : Writing) (size : ℕ) (late : w.when < 2 ^ 64) (longer : end_of w ≤ size) (most : size ≤ 1114112)
    (picks : List ℕ) (are : ArePicks g (small_blocks_of size - x.blocks) picks) (o : Option ℕ) (takes : TakesLarge g x size o) where
  abbrev y : StoredNode
  y = resized x w.when size picks o

  abbrev bytes : List Edit
  bytes = sector_edits w x y s (w.off / 512) (sectors_met w.off w.len)

  abbrev mid : Store
  mid = edited_all s (set_edits Bytes picks true (large_segment o) i y)

  abbrev end : Store
  end = edited_all s (written_by i y picks o touched bytes).edits

  -- ---- the inode
  picks_most : (j : ℕ) → slice_index picks j < 2 ^ 32
  picks_most j = by_length (nat_lt j (length picks)) refl
    where
      by_length : (b : Bool) → nat_lt j (length picks) ≡ b → slice_index picks j < 2 ^ 32
      by_length true e = let l : j < length picks = grind (arith, nat_tests) in let m : slice_index picks j < 1024 * g = are.within j l in omega (arith, few)
      by_length false e = let z : slice_index picks j ≡ 0 = get_or_past picks j 0 (grind (arith, nat_tests)) in omega arith

  large_most : (q : Option ℕ) → TakesLarge g x size q → (b : Bool) → nat_lt 65536 size ≡ b → large_after x q size < 2 ^ 32
  large_most None t true e = rw e file.fit.large
  large_most (Some k) t true e = rw e (omega (arith, few))
  large_most None t false e = rw e (omega arith)
  large_most (Some k) t false e = rw e (omega arith)

  large_by : (q : Option ℕ) → TakesLarge g x size q → (b : Bool) → nat_lt 65536 size ≡ b → goes_by_size size (large_after x q size) ≡ true
  large_by None t true e = let l : 65536 < size = grind (arith, nat_tests) in let m : 0 < x.large = t l in rw e (grind (arith, nat_tests))
  large_by (Some k) t true e = rw e (grind (arith, nat_tests))
  large_by None t false e = rw e refl
  large_by (Some k) t false e = rw e refl

  y_fits : IsFitNode y
  y_fits = resized_fits x w.when size picks o file.fit file.kind late most picks_most (large_most o takes (nat_lt 65536 size) refl) (large_by o takes (nat_lt 65536 size) refl)

  -- ---- what is in use at the end
  end_is : end ≡ edited_all mid bytes
  end_is = ap (λ l. edited_all s (map (λ k. SetUse k Bytes) picks ++ l ++ file_dated i y ++ bytes)) (taken_is o) ∙ edited_append s (set_edits Bytes picks true (large_segment o) i y) bytes

  set : IsSet s mid Bytes picks true (large_segment o) i y
  set = all_set s Bytes picks true (large_segment o) i y

  use_at : (k : ℕ) → end.use_of k ≡ (if is_among k picks then Bytes else s.use_of k)
  use_at k = ap (λ (z : Store). z.use_of k) end_is ∙ ap (λ f. f k) (bytes_only w x y s (sectors_met w.off w.len) (w.off / 512) mid).use_of ∙ set.uses k

  large_at : (k : ℕ) → end.large_bit k ≡ (if is_among k (large_segment o) then true else s.large_bit k)
  large_at k = ap (λ (z : Store). z.large_bit k) end_is ∙ ap (λ f. f k) (bytes_only w x y s (sectors_met w.off w.len) (w.off / 512) mid).large_bit ∙ set.larges k

  picked_use : (j : ℕ) → j < length picks → end.use_of (slice_index picks j) ≡ Bytes
  picked_use j l =
      let k = slice_index picks j in
      let z : 0 + j ≡ j = omega arith in
      let a : is_among k picks ≡ true = ap (is_among k) (listed picks) ∙ among_at (slice_index picks) k (length picks) 0 j l (ap (slice_index picks) z) in
      use_at k ∙ rw a refl

  own_use : (k : ℕ) → s.use_of k ≡ Bytes → end.use_of k ≡ Bytes
  own_use k u = use_at k ∙ either (is_among k picks)
    where
      either : (b : Bool) → (if b then Bytes else s.use_of k) ≡ Bytes
      either true = refl
      either false = u

  -- block j, where it is below the file's end, and where it was so before
  abbrev block_by : ℕ → Bool → Bool → ℕ
  block_by j b c = if b then (if c then x.small j else slice_index picks (j - x.blocks)) else 0

  small_has : (j : ℕ) → j < small_blocks_of size → (y.small j < 1024 * g) × (end.use_of (y.small j) ≡ Bytes)
  small_has j l = go (nat_lt j (small_blocks_of size)) (grind (arith, nat_tests)) (nat_lt j x.blocks) refl
    where
      go : (b : Bool) → b ≡ true → (c : Bool) → nat_lt j x.blocks ≡ c → (block_by j b c < 1024 * g) × (end.use_of (block_by j b c) ≡ Bytes)
      go true t true e = let m : j < x.blocks = grind (arith, nat_tests) in let r = file.owns.smalls j m in (r.0, own_use (x.small j) r.1)
      go true t false e =
          let m : x.blocks ≤ j = grind (arith, nat_tests) in
          let n : length picks ≡ small_blocks_of size - x.blocks = are.size in
          let d : j - x.blocks < length picks = omega (arith, l) in
          (are.within (j - x.blocks) d, picked_use (j - x.blocks) d)
      go false t c e = absurd (cc)

  large_has : 65536 < size → (y.large - 1 < g) × (end.large_bit (y.large - 1) ≡ true)
  large_has l = large_end g x size end.large_bit s.large_bit l file.owns.larges o takes large_at

  -- ---- the sectors
  sectors_fit : (n t : ℕ) → ((v : ℕ) → t ≤ v → v < t + n → 512 * v < size) → AreFit g end (sector_edits w x y s t n)
  sectors_fit zero t f = tt
  sectors_fit (suc n) t f = go (sectors_fit n (t + 1) (λ v lo hi. f v (omega arith) (omega arith))) (nat_lt t 128) refl
    where
      below : 512 * t < size
      below = f t (omega arith) (omega arith)

      small_index : t < 128 → t / 8 < small_blocks_of size
      small_index l = omega (arith, below)

      go : AreFit g end (sector_edits w x y s (t + 1) n) → (b : Bool) → nat_lt t 128 ≡ b →
          AreFit g end ((if b then SetBytes (y.small (t / 8)) (t % 8) (mixed w t (old_sector w x y s t)) else SetLargeBytes (y.large - 1) (t - 128) (mixed w t (old_sector w x y s t))) ∷ sector_edits w x y s (t + 1) n)
      go rest true e = let r = small_has (t / 8) (small_index (grind (arith, nat_tests))) in (((r.0, omega arith), r.1), rest)
      go rest false e = let m : 128 ≤ t = grind (arith, nat_tests) in let r = large_has (omega (arith, below)) in (((r.0, omega (arith, below, most)), r.1), rest)

  met_below : (v : ℕ) → w.off / 512 ≤ v → v < w.off / 512 + sectors_met w.off w.len → 512 * v < size
  met_below v lo hi = let r : 512 * v < w.off + w.len = (met_some w.off w.len v lo hi).1 in omega (arith, longer)

  -- ---- all edits
  large_fits : (q : Option ℕ) → TakesLarge g x size q → AreFit g end (large_taken q)
  large_fits None t = tt
  large_fits (Some k) t = ((t, tt), tt)

  written_fits : IsFitFinish h g s (written_by i y picks o touched bytes)
  written_fits = record {
    edits = fit_join g end (map (λ k. SetUse k Bytes) picks ++ large_taken o ++ file_dated i y) bytes
        (fit_join g end (map (λ k. SetUse k Bytes) picks ++ large_taken o) (file_dated i y)
        (fit_join g end (map (λ k. SetUse k Bytes) picks) (large_taken o) (uses_fit g end Bytes picks are.within) (large_fits o takes)) (dated_fits g end i y file.number y_fits))
        (sectors_fit (sectors_met w.off w.len) (w.off / 512) met_below);
    clear = λ k m. inl (no_directory Bytes (s.use_of k) (is_among k picks) (λ z. z) (subst IsMetadata (use_at k) m));
  }

  -- the plan with a file of this size after it
  abbrev plan_to : ℕ → Ask Plan
  plan_to k = write_sectors w x (resized x w.when k picks o) (w.off / 512) (sectors_met w.off w.len) (λ bytes. Got (Finishes (written_by i (resized x w.when k picks o) picks o touched bytes)))

  pub in_fits : size ≡ max x.size (end_of w) → Fits h g s (writing_in w i touched x picks o)
  in_fits e =
      subst (λ k. Fits h g s (plan_to k)) e
      (subst (PlanIsFit h g s) (sym (run-writes w x y s (w.off / 512) (sectors_met w.off w.len) (λ bytes. Got (Finishes (written_by i y picks o touched bytes))))) written_fits)

-- The sectors of a file, one after another.
use Rattle.std.proofs.Common.{◌≡◌, ℕ, suc, ◌+◌, ◌-◌, ◌/◌, ◌%◌, ◌<◌, ◌≤◌, Bool, true, false, cond, nat_lt, List, [], ◌++◌, length, map, slice_index, sym, ap, ◌∙◌, arith, append_assoc}
use Rattle.std.proofs.Math.Path.{fun_ext}
use Rattle.tree_definitions.specs.Numbers.{below}
use Rattle.disk_definitions.proofs.Lists.{all_numbers}
use Rattle.disk_definitions.specs.Store.{StoredNode}
use Rattle.disk_definitions.specs.Ask.{Ask, Got, ReadBytes, ReadLarge}
use Rattle.disk_definitions.specs.Plans.{Plan}
use Rattle.disk_definitions.specs.FilePlans.{read_sector, read_sectors}
use Rattle.dir_lookup.specs.Reading.{Read, Lacks, Gives, then_read}
use Rattle.dir_lookup.specs.Hands.{over}
use Rattle.dir_lookup.specs.declared.hand.Hand.{Hand}
use Rattle.dir_lookup.proofs.Searches.{goes_on}

-- the plan goes on with the bytes of the sector
pub sector_goes_on : {A : Type 0} (x : StoredNode) (t : ℕ) (next : (ℕ → ℕ) → Ask A) (hand : Hand) (r : Read (ℕ → ℕ)) → r ≡ over (read_sector x t Got) hand
    → then_read r (λ bytes. over (next bytes) hand) ≡ over (read_sector x t next) hand
sector_goes_on x t next hand r e = go (nat_lt t 128) e
  where
    go : (b : Bool) → r ≡ over (cond b (ReadBytes (x.small (t / 8)) (t % 8) Got) (ReadLarge (x.large - 1) (t - 128) Got)) hand
        → then_read r (λ bytes. over (next bytes) hand) ≡ over (cond b (ReadBytes (x.small (t / 8)) (t % 8) next) (ReadLarge (x.large - 1) (t - 128) next)) hand
    go true e = goes_on (ReadBytes (x.small (t / 8)) (t % 8) Got) next hand.sectors.now.entries hand.held.now r e
    go false e = goes_on (ReadLarge (x.large - 1) (t - 128) Got) next hand.sectors.now.entries hand.held.now r e

module _ (x : StoredNode) (hand : Hand) (next : List ℕ → Ask Plan) (want : Read Plan) (t end : ℕ) (before : List ℕ) where
  -- what is done with the sector
  after : (ℕ → ℕ) → Ask Plan
  after bytes = read_sectors x (t + 1) (end - (t + 1)) (λ more. next (before ++ (map bytes (below 512) ++ more)))

  opened : (r : Read (ℕ → ℕ)) → t < end → r ≡ over (read_sector x t Got) hand
      → then_read r (λ bytes. over (after bytes) hand) ≡ over (read_sectors x t (end - t) (λ more. next (before ++ more))) hand
  unfolding after
  opened r l e =
      let n : suc (end - (t + 1)) ≡ end - t = omega arith in
      sector_goes_on x t after hand r e ∙ ap (λ n. over (read_sectors x t n (λ more. next (before ++ more))) hand) n

  pub sector_lacks : (s : ℕ) → t < end → Lacks s ≡ over (read_sector x t Got) hand → over (read_sectors x t (end - t) (λ more. next (before ++ more))) hand ≡ want → want ≡ Lacks s
  sector_lacks s l e w = sym (opened (Lacks s) l e ∙ w)

  pub sector_more : (block all : List ℕ) → t < end → length block ≡ 512 → Gives (slice_index block) ≡ over (read_sector x t Got) hand → all ≡ before ++ block
      → over (read_sectors x t (end - t) (λ more. next (before ++ more))) hand ≡ want → over (read_sectors x (t + 1) (end - (t + 1)) (λ more. next (all ++ more))) hand ≡ want
  unfolding after
  sector_more block all l long e a w =
      let same : (λ (more : List ℕ). next (all ++ more)) ≡ (λ more. next (before ++ (map (slice_index block) (below 512) ++ more))) =
      fun_ext (λ more. ap (λ all. next (all ++ more)) a ∙ ap next (append_assoc before block more) ∙ ap (λ bytes. next (before ++ (bytes ++ more))) (sym (all_numbers block 512 long))) in
      ap (λ next. over (read_sectors x (t + 1) (end - (t + 1)) next) hand) same ∙ opened (Gives (slice_index block)) l e ∙ w

  pub sectors_end : end ≤ t → over (read_sectors x t (end - t) (λ more. next (before ++ more))) hand ≡ want → want ≡ over (next (before ++ [])) hand
  sectors_end l w = let z : end - t ≡ 0 = omega arith in sym (ap (λ n. over (read_sectors x t n (λ more. next (before ++ more))) hand) (sym z) ∙ w)

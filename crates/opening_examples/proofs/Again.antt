-- A fresh disk has zero logs, so it is as it is replayed, and its sectors are those of its image.
use Rattle.std.proofs.Common.{◌≡◌, ℕ, ◌≤◌, inl, inr, Bool, true, false, if◌then◌else◌, List, [], ◌∷◌, ◌++◌, Some, fold, length, refl, sym, ap, ◌∙◌, subst, arith}
use Rattle.std.proofs.Math.Path.{fun_ext}
use Rattle.std.proofs.lemmas.List.Elements.{All-from_recursion}
use Rattle.std.proofs.lemmas.Option.{same_Some}
use Rattle.std.specs.List.{flat_map}
use Rattle.std.specs.List.Sorted.{IsStrictlySortedBy}
use Rattle.std.specs.Map.{values_of}
use Rattle.frang_base.specs.declared.limits.TheConstants.{LOGS, SECTOR_BYTES, SEGMENTS_MAX}
use Rattle.tree_definitions.specs.History.{fresh_opening}
use Rattle.tree_definitions.specs.Numbers.{below}
use Rattle.tree_definitions.specs.Tree.{fresh}
use Rattle.sector_bytes.specs.Bytes.{zeros}
use Rattle.sector_bytes.specs.SectorMaps.{Ascend}
use Rattle.disk_definitions.specs.Bitmaps.{bitmap_in}
use Rattle.disk_definitions.specs.FreshDisk.{first_bitmap, fresh_param, fresh_sectors}
use Rattle.disk_definitions.specs.Logs.{log_records}
use Rattle.disk_definitions.specs.Params.{param_in}
use Rattle.disk_definitions.specs.Regions.{region_of}
use Rattle.disk_definitions.specs.Replay.{is_log, logged_changes, replayed, slots_of, with_change, with_logs}
use Rattle.disk_definitions.specs.Standing.{StandsFor}
use Rattle.disk_definitions.proofs.Listed.{Among, below_among}
use Rattle.disk_definitions.proofs.SameLogs.{zero_log_records}
use Rattle.code_plan_laws.proofs.Blocks.{first_long, first_reads, free_bitmap, param_long, param_reads, root_long, zeros_read}
use Rattle.core_definitions.specs.Opening.{IsStart, OnFresh}
use Rattle.core_laws.specs.Openings.{FreshDisksArePut, LogsReadAsZero}
use Rattle.headline_definitions.specs.Beginning.{IsOpening}
use Rattle.opening_laws.specs.Again.{GoesOn, IsReadAgain, RunsGoOn}
use Rattle.opening_laws.specs.Starts.{FreshStartsAreOpenings}
use Rattle.core_tree_reads.specs.Examples.{empty_start}
use Rattle.opening_examples.specs.Examples.{FreshDisksAreReadAgain, FreshImagesMayOpen, ZeroLogsHaveAnEnd, fresh_left}

none_flat : {X Y : Type 0} (f : X → List Y) (xs : List X) → ((x : X) → Among x xs → f x ≡ []) → flat_map f xs ≡ []
none_flat f [] none = refl
none_flat f (x ∷ xs) none = ap (λ l. l ++ flat_map f xs) (none x (inl refl)) ∙ none_flat f xs (λ y i. none y (inr i))

module _ (fresh_put : FreshDisksArePut) (logs_zero : LogsReadAsZero) (openings : FreshStartsAreOpenings) where
  pub is : IsOpening (fresh_opening 1) fresh_left
  is = openings [] 1 refl

  starts : IsStart empty_start
  starts = OnFresh [] 1 refl

  none_logged : logged_changes fresh_left ≡ []
  none_logged =
      none_flat (λ server. flat_map (λ r. r.changes) (log_records (slots_of fresh_left server))) (below LOGS)
      (λ server i. ap (flat_map (λ r. r.changes)) (zero_log_records (slots_of fresh_left server) (λ slot low. is.logs server slot (below_among LOGS server i) low)))

  reads : param_in (fresh_left 0) ≡ Some (fresh_param 1)
  reads = ap param_in (fresh_put 1 0) ∙ param_reads 1 refl_le refl_few
    where
      refl_le : 1 ≤ 1
      refl_le = omega arith

      refl_few : 1 ≤ 64
      refl_few = omega arith

  laid : (sector : ℕ) → with_logs (param_in (fresh_left 0)) fresh_left sector ≡ fresh_left sector
  laid sector = ap (λ p. with_logs p fresh_left sector) reads ∙ ap (λ changes. fold (with_change 1) fresh_left changes sector) none_logged

  same : (sector : ℕ) → replayed fresh_left sector ≡ fresh_left sector
  same sector = go (is_log (region_of SEGMENTS_MAX sector)) refl
    where
      go : (b : Bool) → is_log (region_of SEGMENTS_MAX sector) ≡ b → (if b then zeros SECTOR_BYTES else with_logs (param_in (fresh_left 0)) fresh_left sector) ≡ fresh_left sector
      go true e = sym (logs_zero empty_start starts sector e)
      go false e = laid sector

  stands : StandsFor (replayed fresh_left) (fresh 1)
  stands = subst (λ disk. StandsFor disk (fresh 1)) (sym (fun_ext (λ sector. same sector))) is.stands

  ascends : Ascend (fresh_sectors 1)
  unfolding IsStrictlySortedBy
  ascends = ((refl, (refl, tt)), ((refl, tt), (tt, tt)))

  again : IsReadAgain fresh_left (fresh_param 1) fresh_left (fresh_sectors 1)
  again = record {
    parameters = reads;
    run = refl;
    saved = λ sector region. refl;
    ascending = ascends;
    blocks = All-from_recursion (λ block. length block ≡ SECTOR_BYTES) (values_of (fresh_sectors 1)) (param_long 1, (first_long, (root_long, tt)));
    replays = λ sector. sym (fresh_put 1 sector) ∙ sym (same sector);
  }

  pub read_again : FreshDisksAreReadAgain
  read_again = record { stands = stands; again = again }

  pub may_open : RunsGoOn → FreshImagesMayOpen
  may_open goes =
      let on : GoesOn (fresh 1) (fresh_param 1) fresh_left (fresh_sectors 1) = goes fresh_left (fresh 1) (fresh_param 1) fresh_left (fresh_sectors 1) stands again in
      record { tree = _; may_open = on.may_open }

-- ---- behind the last log

pub logs_end : FreshDisksArePut → ZeroLogsHaveAnEnd
logs_end fresh_put zero = other (sym zeros_read ∙ ap bitmap_in (sym (zero 256 0 (omega arith)) ∙ fresh_put 1 4294967296) ∙ first_reads)
  where
    other : Some free_bitmap ≡ Some first_bitmap → ⊥
    other e = absurd (zero_one (ap (λ b. b.inodes) (same_Some free_bitmap first_bitmap e)))
      where
        zero_one : ◌≡◌ {A = ℕ} 0 1 → ⊥
        zero_one e = absurd (omega (arith, e))

-- What a recovery finds at a sector is what a replay makes of it in the theorem on sectors.
use Rattle.std.proofs.Common.{◌≡◌, ℕ, ◌≤◌, Bool, true, false, if◌then◌else◌, IsTrue, IsSome, List, [], ◌∷◌, Option, Some, None, nat_le, nat_lt, le_refl, refl, sym, ap, ◌∙◌, subst, arith}
use Rattle.std.proofs.lemmas.Bool.{false≢true}
use Rattle.std.proofs.lemmas.Bool.Decides.{nat_tests}
use Rattle.frang_base.specs.Functions.{keep_if}
use Rattle.frang_base.specs.declared.change.Change.{Change}
use Rattle.frang_base.specs.declared.change.Redo.{Redo}
use Rattle.disk_definitions.specs.ReplayedBlocks.{replayed_block}
use Rattle.disk_definitions.specs.declared.region.Region.{Region}
use Rattle.disk_definitions.specs.declared.region.Region.TheVariants as region
use Rattle.disk_definitions.specs.Replay.{is_log, is_replayed}
use Rattle.sector_bytes.specs.Blocks.{Block, version_of, zero_block}
use Rattle.sector_bytes.specs.Bytes.{zeros}
use Rattle.sector_bytes.specs.Replays.{change_at, redo_all, up_to}
use Rattle.core_definitions.specs.Recoveries.{Recovery, is_written, wanted_block}
use Rattle.sector_world.specs.Guards.{NoneNames, to_replay}
use Rattle.sector_world.specs.Histories.{Item, settled, own, is_own, redo_of, Each, Changes}
use Rattle.sector_world.specs.Histories.Item.{Done, Doubt}
use Rattle.sector_world.specs.Kinds.{Good}
use Rattle.sector_world.specs.Logged.{Pending}
use Rattle.sector_world.specs.Steps.{found}
use Rattle.sector_world.specs.World.{World, InPlace, Wanted, has_version}
use Rattle.sector_world.proofs.Finishing.{none_replay}
use Rattle.sector_world.proofs.Versioned.{plain_first, plain_unchanged, unchanged_place}
use Rattle.core_world.specs.Readings.{ReadsAs}
use Rattle.core_world.specs.Ties.{IsTold, IsToldOnce}

-- ---- a sector without a version

unchanged_at : (o : Option Change) → (IsSome o → ⊥) → o ≡ None
unchanged_at None n = refl
unchanged_at (Some x) n = absurd (n refl)

names_keep : (b : Bool) (r : Redo) (rs : List Redo) (s : ℕ) → change_at r.changes s ≡ None → NoneNames rs s → NoneNames (keep_if b r rs) s
names_keep true r rs s e n = (e, n)
names_keep false r rs s e n = n

names_own : (d f s : ℕ) (h : List Item) → Each (λ c. Changes s c → ⊥) h → NoneNames (own d f h) s
names_own d f s [] all = tt
names_own d f s (Done c ∷ h) all = names_keep (is_own d f c) (redo_of c) (own d f h) s (unchanged_at (change_at c.changes s) all.0) (names_own d f s h all.1)
names_own d f s (Doubt m ∷ h) all = names_own d f s h all

names_up_to : (k s : ℕ) (rs : List Redo) → NoneNames rs s → NoneNames (up_to k rs) s
names_up_to k s [] n = tt
names_up_to k s (r ∷ rs) n = names_keep (nat_le r.op.0 k) r (up_to k rs) s n.0 (names_up_to k s rs n.1)

zero_version : version_of zero_block ≡ 0
unfolding zeros
zero_version = refl

module _ (w : World) (g : Good w) (s : ℕ) (plain : has_version w s ≡ false) where
  unchanged_there : Each (λ c. Changes s c → ⊥) (settled w.history)
  unchanged_there = plain_unchanged w.logged s (settled w.history) plain (g.kinds.claimed s)

  -- no record names it
  pub plain_named : (d : ℕ) → NoneNames (to_replay w d) s
  plain_named d = names_up_to (w.durable d) s (w.log d) (subst (λ rs. NoneNames rs s) (sym (g.logged.logs d)) (names_own d (w.floor d) s (settled w.history) unchanged_there))

  -- and it has no version on the disk
  pub plain_old : version_of (w.disk s) ≡ 0
  plain_old = ap version_of (unchanged_place w.opening w.durable s (Pending w s) (w.disk s) (settled w.history) unchanged_there (g.logged.place s) ∙ g.kinds.zero s (plain_first w.logged s (settled w.history) plain)) ∙ zero_version

-- ---- what is found

-- by what the replay makes of it
abbrev wanted_by : Block → Block → Option Block
wanted_by old new = if nat_lt (version_of old) (version_of new) then Some new else None

told_so : (recovery : Recovery) (s : ℕ) (old new : Block) → is_written recovery s ≡ false → IsTold recovery s (Some (wanted_by old new)) (found old new)
told_so recovery s old new unwritten = go (nat_lt (version_of old) (version_of new))
  where
    go : (b : Bool) → IsTold recovery s (Some (if b then Some new else None)) (if b then Wanted new else InPlace)
    go true = subst (λ b. IsToldOnce b new (Wanted new)) (sym unwritten) refl
    go false = refl

same_version : (n : ℕ) → nat_lt n n ≡ false
same_version n = grind (arith, nat_tests)

pub found_same : (block : Block) → found block block ≡ InPlace
found_same block = ap (λ b. if b then Wanted block else InPlace) (same_version (version_of block))

module _ (w : World) (g : Good w) (d s : ℕ) (recovery : Recovery) (records : List Redo) (reads : ReadsAs w d records) (unwritten : is_written recovery s ≡ false) (block : Block) where
  abbrev now : Block
  now = redo_all (to_replay w d) s (w.disk s)

  logged_found : block ≡ w.disk s → IsTold recovery s (Some (wanted_block records s block)) (found (w.disk s) now)
  logged_found e = subst (λ b. IsTold recovery s (Some (wanted_block records s b)) (found (w.disk s) now)) (sym e)
      (subst (λ b. IsTold recovery s (Some (wanted_by (w.disk s) b)) (found (w.disk s) now)) (sym (reads s (w.disk s) (le_refl (version_of (w.disk s))))) (told_so recovery s (w.disk s) now unwritten))

  plain_found : has_version w s ≡ false → IsTold recovery s (Some (wanted_block records s block)) (found (w.disk s) now)
  plain_found plain = subst (λ b. IsTold recovery s (Some (wanted_by block b)) (found (w.disk s) now)) (sym after)
      (subst (λ b. IsTold recovery s (Some b) (found (w.disk s) now)) (sym none)
      (subst (λ b. found (w.disk s) b ≡ InPlace) (sym (none_replay (to_replay w d) s (w.disk s) (plain_named w g s plain d))) (found_same (w.disk s))))
    where
      low : (n m : ℕ) → n ≡ 0 → n ≤ m
      low n m e = omega (arith, e)

      after : replayed_block records s block ≡ block
      after = reads s block (low (version_of (w.disk s)) (version_of block) (plain_old w g s plain)) ∙ none_replay (to_replay w d) s block (plain_named w g s plain d)

      none : wanted_by block block ≡ None
      none = ap (λ b. if b then Some block else None) (same_version (version_of block))

  -- what is found where the block is the side that counts
  pub found_so : block ≡ (if has_version w s then w.disk s else w.bytes s) → IsTold recovery s (Some (wanted_block records s block)) (found (w.disk s) now)
  found_so e = go (has_version w s) refl
    where
      go : (v : Bool) → has_version w s ≡ v → IsTold recovery s (Some (wanted_block records s block)) (found (w.disk s) now)
      go true v = logged_found (e ∙ ap (λ b. if b then w.disk s else w.bytes s) v)
      go false v = plain_found v

-- ---- regions

pub replayed_no_log : (r : Option Region) → IsTrue (is_replayed r) → is_log r ≡ false
replayed_no_log None h = refl
replayed_no_log (Some region.Param) h = refl
replayed_no_log (Some (region.Log server slot)) h = absurd (false≢true h)
replayed_no_log (Some (region.Segment k)) h = refl
replayed_no_log (Some (region.Inode i)) h = refl
replayed_no_log (Some (region.Small block part)) h = refl
replayed_no_log (Some (region.Large block part)) h = refl

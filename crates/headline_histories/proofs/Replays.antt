-- A sector without a version is named by no record that a replay would apply, so the replayed disk has it as it is, in the core as in the world.
use Rattle.std.proofs.Common.{◌≡◌, ◌==◌, ℕ, zero, suc, ◌<◌, ◌≤◌, ◌⊎◌, inl, inr, ⊎_elim, Bool, true, false, ◌&&◌, if◌then◌else◌, nat_le, None, fold, IsTrue, List, [], ◌∷◌, refl, sym, ap, ◌∙◌, subst, arith}
use Rattle.std.specs.List.{flat_map}
use Rattle.std.proofs.lemmas.Grind.{fold-append}
use Rattle.frang_base.specs.Functions.{keep_if}
use Rattle.frang_base.specs.declared.change.Change.{Change}
use Rattle.frang_base.specs.declared.change.Redo.{Redo}
use Rattle.frang_base.specs.declared.limits.TheConstants.{LOGS}
use Rattle.tree_definitions.specs.Numbers.{below}
use Rattle.sector_bytes.specs.Blocks.{Block, version_of}
use Rattle.sector_bytes.specs.Changes.{applied}
use Rattle.sector_bytes.specs.Replays.{change_at, redone, up_to}
use Rattle.sector_bytes.specs.Sectors.{Sectors}
use Rattle.disk_definitions.proofs.Listed.{Among, below_among}
use Rattle.disk_definitions.specs.Logs.{log_records}
use Rattle.disk_definitions.specs.Regions.{region_of}
use Rattle.disk_definitions.specs.Replay.{is_replayed, logged_changes, slots_of, with_change}
use Rattle.disk_definitions.specs.ReplayedBlocks.{replayed_block}
use Rattle.sector_world.proofs.Finishing.{none_replay}
use Rattle.sector_world.specs.Claims.{replayed}
use Rattle.sector_world.specs.Guards.{NoneNames, to_replay}
use Rattle.sector_world.specs.Kinds.{Good}
use Rattle.sector_world.specs.World.{World, block_at, has_version}
use Rattle.core_definitions.specs.LineGuards.{is_server}
use Rattle.core_definitions.specs.Runs.{State as RunMoment}
use Rattle.core_definitions.specs.Servers as life
use Rattle.core_definitions.specs.Servers.{is_dead, is_in_mount, is_off}
use Rattle.core_world.specs.Journals.{IsAtRest, IsLogOf, Journal, sector_log}
use Rattle.core_world.specs.Readings.{ReadsAs}
use Rattle.core_world.specs.Steps.{IsWorldOf}
use Rattle.core_readings.specs.Logs.{AreLogs, AreOfRegions, AreSealedBehind, OthersAreEmpty, ReplaysAreTheWorlds as VersionedReplays}
use Rattle.core_readings.proofs.Fitting.{Fits, change_laid, laid_once, records_fit}
use Rattle.core_readings.proofs.LastLoads.{mounted_reads, stands_read}
use Rattle.core_readings.proofs.Replaying.{in_place_rests}
use Rattle.core_recoveries.proofs.Found.{plain_named, plain_old}
use Rattle.headline_histories.specs.Replays.{NameRegions, ReplaysAreAsTheWorlds}

-- ---- regions

some_named : (b : Bool) (r : Redo) (rs : List Redo) (x : ℕ) → change_at r.changes x ≡ None → NoneNames rs x → NoneNames (keep_if b r rs) x
some_named true r rs x e n = (e, n)
some_named false r rs x e n = n

up_to_named : (k x : ℕ) (rs : List Redo) → NoneNames rs x → NoneNames (up_to k rs) x
up_to_named k x [] n = tt
up_to_named k x (r ∷ rs) n = some_named (nat_le r.op.0 k) r (up_to k rs) x n.0 (up_to_named k x rs n.1)

of_regions : (segments : ℕ) (w : World) → NameRegions segments w → AreOfRegions segments w
of_regions segments w names d x = ⊎_elim (λ none. inl (up_to_named (w.durable d) x (w.log d) none)) (λ of. inr of) (names d x)

-- ---- changes of one sector

laid : (segments x : ℕ) (changes : List Change) (disk : Sectors) → is_replayed (region_of segments x) ≡ true → fold (with_change segments) disk changes x ≡ fold (change_laid x) (disk x) changes
laid segments x [] disk e = refl
laid segments x (c ∷ cs) disk e =
    laid segments x cs (with_change segments disk c) e ∙ ap (λ b. fold (change_laid x) (if (x == c.sector.0) && b then applied (disk x) c else disk x) cs) e ∙ ap (λ b. fold (change_laid x) (if b then applied (disk x) c else disk x) cs) (both (x == c.sector.0))
  where
    both : (b : Bool) → (b && true) ≡ b
    both true = refl
    both false = refl

-- a sector that no replay changes
pub beside : (segments x : ℕ) (changes : List Change) (disk : Sectors) → is_replayed (region_of segments x) ≡ false → fold (with_change segments) disk changes x ≡ disk x
beside segments x [] disk e = refl
beside segments x (c ∷ cs) disk e =
    beside segments x cs (with_change segments disk c) e ∙ ap (λ b. if (x == c.sector.0) && b then applied (disk x) c else disk x) e ∙ none (x == c.sector.0)
  where
    none : (b : Bool) → (if b && false then applied (disk x) c else disk x) ≡ disk x
    none true = refl
    none false = refl

-- the records of a log that leave each block
records_rest : (x : ℕ) (records : List Redo) (block : Block) → ((r : Redo) → Among r records → Fits r) → fold (change_laid x) block (flat_map (λ (r : Redo). r.changes) records) ≡ replayed_block records x block
records_rest x [] block fit = refl
records_rest x (r ∷ rs) block fit =
    fold-append (change_laid x) block r.changes (flat_map (λ (q : Redo). q.changes) rs)
    ∙ ap (λ b. fold (change_laid x) b (flat_map (λ (q : Redo). q.changes) rs)) (laid_once r (fit r (inl refl)) x block) ∙ records_rest x rs (redone (change_at r.changes x) block) (λ q i. fit q (inr i))

module _ (s : RunMoment) (w : World) (journal : ℕ → Journal) (t : IsWorldOf s w journal) (g : Good w) (logs : AreLogs s journal) (behind : AreSealedBehind s w journal) (empty : OthersAreEmpty s.disk)
    (x : ℕ) (plain : has_version w x ≡ false) where
  abbrev records : ℕ → List Redo
  records a = log_records (slots_of s.disk a)

  old : (block : Block) → version_of (w.disk x) ≤ version_of block
  old block = subst (λ n. n ≤ version_of block) (sym (plain_old w g x plain)) (omega arith)

  -- what reads as the world's records leaves it
  by_reading : (a : ℕ) → ReadsAs w a (records a) → (block : Block) → replayed_block (records a) x block ≡ block
  by_reading a reads block = reads x block (old block) ∙ none_replay (to_replay w a) x block (plain_named w g x plain a)

  -- so does each log of a server
  server_rests : (a : ℕ) → IsTrue (is_server a) → (block : Block) → replayed_block (records a) x block ≡ block
  server_rests a server block = go (s.core.servers a).phase refl
    where
      rests : IsAtRest (slots_of s.disk a) (sector_log w a) → replayed_block (records a) x block ≡ block
      rests rest = in_place_rests (records a) x (version_of (w.disk x)) block (old block) (rest.old x)

      mounted : IsTrue (is_in_mount (s.core.servers a).phase) → replayed_block (records a) x block ≡ block
      mounted up = by_reading a (mounted_reads s w journal t g logs a server up) block

      go : (p : life.Phase) → (s.core.servers a).phase ≡ p → replayed_block (records a) x block ≡ block
      go life.Off e = rests (subst (λ p. IsLogOf p (s.core.servers a).ring s.core.now s.core.flights s.disk (sector_log w a) a (journal a)) e (t.journals a server))
      go life.Up e = mounted (ap is_in_mount e)
      go life.Still e = mounted (ap is_in_mount e)
      go (life.Doomed fate) e = mounted (ap is_in_mount e)
      go life.Dead e = by_reading a (stands_read s w journal t g logs a server (ap is_dead e) (behind a server (ap is_off e)).stands) block

  log_rests : (a : ℕ) → a < LOGS → (block : Block) → replayed_block (records a) x block ≡ block
  log_rests a low block = go (is_server a) refl
    where
      go : (b : Bool) → is_server a ≡ b → replayed_block (records a) x block ≡ block
      go true e = server_rests a e block
      go false e = ap (λ rs. replayed_block rs x block) (empty a low e)

  -- and all of them
  all_rest : (others : List ℕ) → ((a : ℕ) → Among a others → a < LOGS) → (block : Block) → fold (change_laid x) block (flat_map (λ a. flat_map (λ (r : Redo). r.changes) (records a)) others) ≡ block
  all_rest [] low block = refl
  all_rest (a ∷ others) low block =
      fold-append (change_laid x) block (flat_map (λ (r : Redo). r.changes) (records a)) (flat_map (λ a. flat_map (λ (r : Redo). r.changes) (records a)) others)
      ∙ ap (λ b. fold (change_laid x) b (flat_map (λ a. flat_map (λ (r : Redo). r.changes) (records a)) others)) (records_rest x (records a) block (records_fit (slots_of s.disk a)) ∙ log_rests a (low a (inl refl)) block)
      ∙ all_rest others (λ b i. low b (inr i)) block

  logs_rest : (segments : ℕ) → fold (with_change segments) s.disk (logged_changes s.disk) x ≡ s.disk x
  logs_rest segments = go (is_replayed (region_of segments x)) refl
    where
      go : (b : Bool) → is_replayed (region_of segments x) ≡ b → fold (with_change segments) s.disk (logged_changes s.disk) x ≡ s.disk x
      go true e = laid segments x (logged_changes s.disk) s.disk e ∙ all_rest (below LOGS) (λ a i. below_among LOGS a i) (s.disk x)
      go false e = beside segments x (logged_changes s.disk) s.disk e

  -- a replay of the world leaves it too
  world_rests : (n : ℕ) → replayed w n x ≡ block_at w x
  world_rests zero = refl
  world_rests (suc n) = none_replay (to_replay w n) x (replayed w n x) (plain_named w g x plain n) ∙ world_rests n

pub replays_are_as : VersionedReplays → ReplaysAreAsTheWorlds
replays_are_as versioned s w journal r t g sixteen logs behind empty names p segments x out =
    ⊎_elim
    (λ here. versioned s w journal r t g sixteen logs behind empty p segments (of_regions p.segments w (subst (λ n. NameRegions n w) (sym segments) names)) x out here)
    (λ plain. logs_rest s w journal t g logs behind empty x plain p.segments ∙ sym (t.tied.disk x out) ∙ sym (world_rests s w journal t g logs behind empty x plain w.servers))
    (by_version (has_version w x))
  where
    by_version : (b : Bool) → (b ≡ true) ⊎ (b ≡ false)
    by_version true = inl refl
    by_version false = inr refl

-- Once the last slot of a log is read, what was read is what stands on the disk, and replays as the records of the theorem on sectors do.
use Rattle.std.proofs.Common.{◌≡◌, ℕ, ◌⊎◌, inl, inr, ⊎_elim, Bool, true, false, ◌&&◌, ◌||◌, ◌==◌, is_some, IsTrue, List, Option, Some, None, refl, sym, ap, ◌∙◌, subst}
use Rattle.std.proofs.lemmas.Bool.{both_ways, false≢true}
use Rattle.std.proofs.lemmas.Option.{none-some, same_Some}
use Rattle.std.specs.Option.{option_map, unwrap_or}
use Rattle.frang_base.specs.Functions.{member}
use Rattle.frang_base.specs.declared.script.Line.{Line}
use Rattle.frang_base.proofs.Basics.{at_put}
use Rattle.tree_definitions.specs.Numbers.{below}
use Rattle.disk_definitions.proofs.Listed.{all_at, among_below}
use Rattle.disk_definitions.proofs.SameLogs.{SameSlots, log_records_same}
use Rattle.disk_definitions.specs.Logs.{log_records}
use Rattle.disk_definitions.specs.Regions.{sector_of}
use Rattle.disk_definitions.specs.Replay.{slots_of}
use Rattle.disk_definitions.specs.declared.region.Region.TheVariants as region
use Rattle.ring_definitions.specs.Sealing.{IsSealedFrom}
use Rattle.sector_bytes.specs.Blocks.{Block, version_of, zero_block}
use Rattle.sector_bytes.specs.SectorMaps.{value_at, with_value}
use Rattle.sector_bytes.specs.Sectors.{Sectors, sectors_of}
use Rattle.core_definitions.specs.Effects.{MayLoad}
use Rattle.core_definitions.specs.EndEffects.{slot_loaded}
use Rattle.core_definitions.specs.EndGuards.{is_recovery, wants_slot}
use Rattle.core_definitions.specs.Events.{Got}
use Rattle.core_definitions.specs.LineGuards.{is_server}
use Rattle.core_definitions.specs.Logs.{is_read, is_slot_read, unread}
use Rattle.core_definitions.specs.Recoveries.{Recovery, redos}
use Rattle.core_definitions.specs.Runs.{State as RunMoment, Run, first_state}
use Rattle.core_definitions.specs.Scripts.{host_party}
use Rattle.core_definitions.specs.Servers as life
use Rattle.core_definitions.specs.Servers.{Server, is_dead, is_in_mount, is_off, is_up}
use Rattle.core_definitions.specs.Settings.{Setting, disk_logs, setting_of}
use Rattle.core_definitions.specs.WriteGuards.{is_worker}
use Rattle.core_facts.proofs.Owing.{unread_slot}
use Rattle.core_facts.proofs.Reading.{put_slot}
use Rattle.core_facts.specs.LogReads.{RecoveriesReadTheDisk}
use Rattle.core_journals.proofs.Quiet.{dead_off_not}
use Rattle.core_journals.proofs.ReadingAs.{log_reads}
use Rattle.core_journals.specs.Journals.{HaveSameBlocks}
use Rattle.core_journals.specs.Logs.{HasAll}
use Rattle.core_laws.proofs.Kept.{setting_of_run}
use Rattle.core_laws.proofs.Memory.{dead_of}
use Rattle.core_laws.proofs.Resting.{good_of_run}
use Rattle.sector_world.specs.Kinds.{Good}
use Rattle.sector_world.specs.World.{World}
use Rattle.core_world.specs.Journals.{IsJournal, IsLogOf, Journal, sector_log}
use Rattle.core_world.specs.Readings.{AllInPlace, IsReading, ReadsAs}
use Rattle.core_world.specs.Steps.{IsWorldOf}
use Rattle.core_readings.specs.Logs.{AreLogs, IsReplayed, LastLoadsReadAs, log_journal}
use Rattle.core_readings.proofs.Reading.{journal_reads}
use Rattle.core_readings.proofs.Replaying.{in_place_drop, reading_in_place, reads_as, rest_reads_as}

-- ---- a dead server's log beside its journal

dead_phase : (p : life.Phase) → IsTrue (is_dead p) → p ≡ life.Dead
dead_phase life.Off h = absurd (false≢true h)
dead_phase life.Up h = absurd (false≢true h)
dead_phase life.Still h = absurd (false≢true h)
dead_phase (life.Doomed fate) h = absurd (false≢true h)
dead_phase life.Dead h = refl

module _ (s : RunMoment) (w : World) (journal : ℕ → Journal) (t : IsWorldOf s w journal) (g : Good w) (logs : AreLogs s journal) (d : ℕ) (server : IsTrue (is_server d)) (dead : IsTrue (is_dead (s.core.servers d).phase)) where
  there : IsJournal life.Dead (s.core.servers d).ring s.core.now s.core.flights s.disk (sector_log w d) d (journal d)
  there = subst (λ p. IsLogOf p (s.core.servers d).ring s.core.now s.core.flights s.disk (sector_log w d) d (journal d)) (dead_phase (s.core.servers d).phase dead) (t.journals d server)

  pub dead_reads : IsReading w d (log_records (journal d).log.slots)
  dead_reads = journal_reads w d (s.core.servers d).ring (journal d) g there.good there.counted there.records

  on : is_off (s.core.servers d).phase ≡ false
  on = dead_off_not (s.core.servers d) dead

  pub dead_has : HasAll (journal d).log.slots (slots_of s.disk d) ⊎ IsSealedFrom (journal d).log.slots (slots_of s.disk d)
  dead_has = (log_reads s d (log_journal (journal d)) (logs.small d server on) (logs.stand d server) on).left dead

  -- where all is in place, what stands in the log is
  pub stands_in_place : IsReplayed w d → (x : ℕ) → AllInPlace (log_records (slots_of s.disk d)) x (version_of (w.disk x))
  stands_in_place all x = go dead_has
    where
      base : AllInPlace (log_records (journal d).log.slots) x (version_of (w.disk x))
      base = reading_in_place w d (log_records (journal d).log.slots) dead_reads x (all x)

      go : HasAll (journal d).log.slots (slots_of s.disk d) ⊎ IsSealedFrom (journal d).log.slots (slots_of s.disk d) → AllInPlace (log_records (slots_of s.disk d)) x (version_of (w.disk x))
      go (inl has) = subst (λ l. AllInPlace l x (version_of (w.disk x))) (sym has.records) base
      go (inr sealed) = subst (λ l. AllInPlace l x (version_of (w.disk x))) (sym sealed.last) (in_place_drop sealed.missing (log_records (journal d).log.slots) x (version_of (w.disk x)) base)

  -- what stands in the log replays as what is to be replayed
  pub stands_read : HaveSameBlocks (slots_of s.disk d) (journal d).log.slots ⊎ IsReplayed w d → ReadsAs w d (log_records (slots_of s.disk d))
  stands_read (inr all) = rest_reads_as w d (log_records (slots_of s.disk d)) all (stands_in_place all)
  stands_read (inl same) = subst (ReadsAs w d) (sym (log_records_same (slots_of s.disk d) (journal d).log.slots same)) (reads_as w d (log_records (journal d).log.slots) dead_reads)

-- of one that is mounted the log stands as its journal has it
pub mounted_is_read : (s : RunMoment) (w : World) (journal : ℕ → Journal) → IsWorldOf s w journal → Good w → AreLogs s journal → (a : ℕ) → IsTrue (is_server a) → IsTrue (is_in_mount (s.core.servers a).phase) →
    IsReading w a (log_records (slots_of s.disk a))
mounted_is_read s w journal t g logs a server up =
    subst (IsReading w a) (sym (log_records_same (slots_of s.disk a) (journal a).log.slots ((logs.stand a server).live up))) (go (s.core.servers a).phase refl (t.journals a server))
  where
    go : (p : life.Phase) → (s.core.servers a).phase ≡ p → IsLogOf p (s.core.servers a).ring s.core.now s.core.flights s.disk (sector_log w a) a (journal a) → IsReading w a (log_records (journal a).log.slots)
    go life.Off e j = absurd (both_ways (is_in_mount (s.core.servers a).phase) (ap is_in_mount e) up)
    go life.Up e j = journal_reads w a (s.core.servers a).ring (journal a) g j.good j.counted j.records
    go life.Still e j = journal_reads w a (s.core.servers a).ring (journal a) g j.good j.counted j.records
    go (life.Doomed fate) e j = journal_reads w a (s.core.servers a).ring (journal a) g j.good j.counted j.records
    go life.Dead e j = absurd (both_ways (is_in_mount (s.core.servers a).phase) (ap is_in_mount e) up)

pub mounted_reads : (s : RunMoment) (w : World) (journal : ℕ → Journal) → IsWorldOf s w journal → Good w → AreLogs s journal → (a : ℕ) → IsTrue (is_server a) → IsTrue (is_in_mount (s.core.servers a).phase) →
    ReadsAs w a (log_records (slots_of s.disk a))
mounted_reads s w journal t g logs a server up = reads_as w a (log_records (slots_of s.disk a)) (mounted_is_read s w journal t g logs a server up)

-- ---- the slots that are read

module _ (reads_disk : RecoveriesReadTheDisk) (script : List Line) (segments number : ℕ) (disk : Sectors) (s : RunMoment) (run : Run (first_state (setting_of script segments number) disk) s) (by slot : ℕ) (block : Block)
    (old : Recovery) (who : IsTrue (is_worker s.core by)) (has : (s.core.servers by).recovery ≡ Some old) (wants : IsTrue (wants_slot s.core slot old))
    (got : block ≡ s.disk (sector_of (region.Log old.dead slot))) where
  none_read : is_read disk_logs old.slots ≡ false
  none_read = go (is_read disk_logs old.slots) refl
    where
      wants_of : IsTrue (member slot (unread disk_logs old.slots))
      wants_of = subst (λ logs. IsTrue (member slot (unread logs old.slots))) (ap (λ (x : Setting). x.logs) (setting_of_run (setting_of script segments number) disk s run)) wants

      go : (b : Bool) → is_read disk_logs old.slots ≡ b → b ≡ false
      go true e = absurd (unread_slot disk_logs old.slots slot wants_of e)
      go false e = refl

  loaded_same : IsTrue (is_read disk_logs (with_value old.slots slot block)) → SameSlots (sectors_of (with_value old.slots slot block)) (slots_of s.disk old.dead)
  loaded_same read n low = go (value_at (with_value old.slots slot block) n) refl (all_at (is_slot_read (with_value old.slots slot block)) (below 256) read n (among_below 256 n low))
    where
      from : (b : Block) → ((slot ≡ n) × (block ≡ b)) ⊎ (value_at old.slots n ≡ Some b) → b ≡ slots_of s.disk old.dead n
      from b (inl x) = sym x.1 ∙ got ∙ ap (λ k. s.disk (sector_of (region.Log old.dead k))) x.0
      from b (inr f) = ⊎_elim (λ e. e) (λ sealed. absurd (false≢true (sym none_read ∙ sealed.read))) (reads_disk script segments number disk s run by old who has n b f)

      go : (o : Option Block) → value_at (with_value old.slots slot block) n ≡ o → IsTrue (is_some o) → sectors_of (with_value old.slots slot block) n ≡ slots_of s.disk old.dead n
      go None f r = absurd (false≢true r)
      go (Some b) f r = ap (λ o. unwrap_or o zero_block) f ∙ from b (put_slot old.slots slot n block b f)

  pub loaded_redos : IsTrue (is_read disk_logs (with_value old.slots slot block)) → redos disk_logs (slot_loaded slot block old) ≡ log_records (slots_of s.disk old.dead)
  loaded_redos read = log_records_same (sectors_of (with_value old.slots slot block)) (slots_of s.disk old.dead) (loaded_same read)

-- ---- the law

pub record IsFrom (change : Recovery → Recovery) (o : Option Recovery) (recovery : Recovery) : Type 0 where
  pub old : Recovery
  pub was : o ≡ Some old
  pub is : recovery ≡ change old

from_map : (change : Recovery → Recovery) (o : Option Recovery) (recovery : Recovery) → option_map change o ≡ Some recovery → IsFrom change o recovery
from_map change None recovery e = absurd (none-some recovery e)
from_map change (Some old) recovery e = record { old = old; was = refl; is = sym (same_Some (change old) recovery e) }

pub last_loads : RecoveriesReadTheDisk → LastLoadsReadAs
last_loads reads_disk s w journal by slot block r t g logs behind m b recovery =
    at_put (λ (y : Server). IsTrue ((is_server b && is_up y.phase) || b == host_party) → y.recovery ≡ Some recovery → IsTrue (is_read disk_logs recovery.slots) → ReadsAs w recovery.dead (redos disk_logs recovery))
    s.core.servers by (record (s.core.servers by) { recovery = option_map (slot_loaded slot block) (s.core.servers by).recovery }) b
    (λ i works e read. here (from_map (slot_loaded slot block) (s.core.servers by).recovery recovery e) read) (λ n works e read. (t.readings b recovery works e read).0)
  where
    here : IsFrom (slot_loaded slot block) (s.core.servers by).recovery recovery → IsTrue (is_read disk_logs recovery.slots) → ReadsAs w recovery.dead (redos disk_logs recovery)
    here f read = subst (λ x. ReadsAs w x.dead (redos disk_logs x)) (sym f.is) (subst (ReadsAs w f.old.dead) (sym same) (stands_read s w journal t g logs f.old.dead saved.1 saved.0 (behind f.old.dead saved.1 (dead_off_not (s.core.servers f.old.dead) saved.0)).stands))
      where
        saved : IsTrue (is_dead (s.core.servers f.old.dead).phase) × IsTrue (is_server f.old.dead)
        saved = (good_of_run (setting_of r.script r.segments r.number) r.disk s r.run).saved by f.old.dead m.can.can.who (ap dead_of f.was)

        same : redos disk_logs (slot_loaded slot block f.old) ≡ log_records (slots_of s.disk f.old.dead)
        same = loaded_redos reads_disk r.script r.segments r.number r.disk s r.run by slot block f.old m.can.can.who f.was (subst (λ o. IsTrue (is_recovery (wants_slot s.core slot) o)) f.was m.can.can.wanted)
            (subst (λ o. MayLoad s.disk slot o (Got block)) f.was m.hears) (subst (λ (x : Recovery). IsTrue (is_read disk_logs x.slots)) f.is read)

-- What a recovery has read of a log is what its journal reads as, or what a seal leaves of that: from the last slot read on.
use Rattle.std.proofs.Common.{◌≡◌, ◌⊎◌, inl, inr, false, IsTrue, Some, sym, ap, subst}
use Rattle.std.proofs.lemmas.Bool.{false≢true}
use Rattle.std.proofs.lemmas.Option.{none-some}
use Rattle.disk_definitions.specs.Logs.{log_records}
use Rattle.disk_definitions.specs.Replay.{slots_of}
use Rattle.ring_definitions.specs.Sealing.{IsSealedFrom}
use Rattle.core_definitions.specs.EndEffects.{slot_loaded}
use Rattle.core_definitions.specs.LineGuards.{is_server}
use Rattle.core_definitions.specs.Logs.{is_read, records_of}
use Rattle.core_definitions.specs.Recoveries.{Recovery, redos}
use Rattle.core_definitions.specs.Servers.{is_dead, is_off}
use Rattle.core_definitions.specs.Settings.{disk_logs, setting_of}
use Rattle.core_definitions.specs.WriteGuards.{is_worker}
use Rattle.core_facts.proofs.Staling.{recovered_over}
use Rattle.core_facts.proofs.Turns.{step_turn, work_of}
use Rattle.core_facts.specs.LogReads.{RecoveriesReadTheDisk}
use Rattle.core_journals.proofs.Changing.{Change, Kept, Read, Taken, Written_, turn_recovery}
use Rattle.core_journals.proofs.Quiet.{dead_off_not}
use Rattle.core_journals.proofs.ReadingAs.{log_reads}
use Rattle.core_journals.specs.Logs.{HasAll}
use Rattle.core_laws.proofs.Memory.{dead_of}
use Rattle.core_laws.proofs.Resting.{good_of_run}
use Rattle.core_laws.specs.Leases.{LeasesEnd}
use Rattle.core_world.specs.Journals.{Journal}
use Rattle.core_readings.proofs.LastLoads.{loaded_redos}
use Rattle.core_readings.specs.Logs.{log_journal}
use Rattle.core_log_marks.specs.Keeping.{IsReportOf, ReportsBegin, ReportsStay, Sealed, Whole}

pub reports_begin : ReportsBegin
reports_begin setting disk journal by recovery works is read = absurd (none-some recovery is)

pub reports_stay : LeasesEnd → RecoveriesReadTheDisk → ReportsStay
reports_stay ends reads_disk s v journal then r step logs still was by recovery works is read =
    go (turn_recovery s (work_of v) (step_turn s v step) (good_of_run (setting_of r.script r.segments r.number) r.disk s r.run) by works recovery is)
  where
    -- by the journal of the dead server as it was
    later : (old : Recovery) → IsTrue (is_worker s.core by) → (s.core.servers by).recovery ≡ Some old → old.dead ≡ recovery.dead → IsReportOf (journal old.dead).log.slots (redos disk_logs recovery) →
        IsReportOf (then recovery.dead).log.slots (redos disk_logs recovery)
    later old who has same report = subst (λ d. IsReportOf (then d).log.slots (redos disk_logs recovery)) same
        (subst (λ (j : Journal). IsReportOf j.log.slots (redos disk_logs recovery)) (sym (still old.dead saved.1 saved.0 (recovered_over ends (setting_of r.script r.segments r.number) r.disk s r.run by old who has))) report)
      where
        saved : IsTrue (is_dead (s.core.servers old.dead).phase) × IsTrue (is_server old.dead)
        saved = (good_of_run (setting_of r.script r.segments r.number) r.disk s r.run).saved by old.dead who (ap dead_of has)

    same_slots : (old : Recovery) → IsTrue (is_worker s.core by) → (s.core.servers by).recovery ≡ Some old → old.dead ≡ recovery.dead → old.slots ≡ recovery.slots → IsReportOf (then recovery.dead).log.slots (redos disk_logs recovery)
    same_slots old who has same slots =
        later old who has same (subst (λ x. IsReportOf (journal old.dead).log.slots (records_of disk_logs x)) slots (was by old who has (subst (λ x. IsTrue (is_read disk_logs x)) (sym slots) read)))

    go : Change s v.disk by recovery → IsReportOf (then recovery.dead).log.slots (redos disk_logs recovery)
    go (Kept old who has same slots written) = same_slots old who has same slots
    go (Written_ old ticket flight who has e by_ purpose present early wrote made) = same_slots old who has (ap (λ (x : Recovery). x.dead) made) (ap (λ (x : Recovery). x.slots) made)
    go (Taken can made) = absurd (false≢true (subst (λ (x : Recovery). IsTrue (is_read disk_logs x.slots)) (sym made) read))
    go (Read old slot block who has wants got made) = later old who has (ap (λ (x : Recovery). x.dead) made) (subst (λ (x : Recovery). IsReportOf (journal old.dead).log.slots (redos disk_logs x)) made
        (subst (IsReportOf (journal old.dead).log.slots) (sym loaded) (dead_report (log_reads s old.dead (log_journal (journal old.dead)) (logs.small old.dead saved.1 on) (logs.stand old.dead saved.1) on).left saved.0)))
      where
        saved : IsTrue (is_dead (s.core.servers old.dead).phase) × IsTrue (is_server old.dead)
        saved = (good_of_run (setting_of r.script r.segments r.number) r.disk s r.run).saved by old.dead who (ap dead_of has)

        on : is_off (s.core.servers old.dead).phase ≡ false
        on = dead_off_not (s.core.servers old.dead) saved.0

        loaded : redos disk_logs (slot_loaded slot block old) ≡ log_records (slots_of s.disk old.dead)
        loaded = loaded_redos reads_disk r.script r.segments r.number r.disk s r.run by slot block old who has wants got (subst (λ (x : Recovery). IsTrue (is_read disk_logs x.slots)) (sym made) read)

        dead_report : (IsTrue (is_dead (s.core.servers old.dead).phase) → HasAll (journal old.dead).log.slots (slots_of s.disk old.dead) ⊎ IsSealedFrom (journal old.dead).log.slots (slots_of s.disk old.dead)) →
            IsTrue (is_dead (s.core.servers old.dead).phase) → IsReportOf (journal old.dead).log.slots (log_records (slots_of s.disk old.dead))
        dead_report left dead = by_left (left dead)
          where
            by_left : HasAll (journal old.dead).log.slots (slots_of s.disk old.dead) ⊎ IsSealedFrom (journal old.dead).log.slots (slots_of s.disk old.dead) → IsReportOf (journal old.dead).log.slots (log_records (slots_of s.disk old.dead))
            by_left (inl all) = Whole all.records
            by_left (inr sealed) = Sealed sealed.records sealed.missing sealed.last

-- While a log is recovered its journal stays what it was, so that what the recovery replays is what that log reads as, or its last records.
use Rattle.std.proofs.Common.{◌≡◌, ℕ, ◌<◌, ◌^◌, ◌⊎◌, inl, inr, false, IsTrue, List, drop, sym, ap, ◌∙◌, subst}
use Rattle.std.proofs.lemmas.Bool.{both_ways}
use Rattle.frang_base.specs.declared.change.Redo.{Redo}
use Rattle.frang_base.specs.declared.script.Line.{Line}
use Rattle.disk_definitions.specs.Logs.{is_sealed, log_records}
use Rattle.disk_definitions.specs.Replay.{slots_of}
use Rattle.lock_definitions.specs.Lease.{HasEnded}
use Rattle.tree_definitions.specs.Apply.{is_path_op}
use Rattle.ring_definitions.specs.Rings.{Ring, last}
use Rattle.ring_definitions.specs.Sealing.{IsSealedFrom}
use Rattle.sector_bytes.specs.Sectors.{Sectors}
use Rattle.core_definitions.specs.LineGuards.{is_server}
use Rattle.core_definitions.specs.Lines.{Finishing}
use Rattle.core_definitions.specs.Runs.{State, Run, first_state}
use Rattle.core_definitions.specs.Servers.{asks, is_dead, is_off, is_up, stage_under}
use Rattle.core_definitions.specs.Settings.{Setting, setting_of}
use Rattle.core_facts.proofs.Staling.{recovered_over}
use Rattle.core_laws.proofs.Along.{longer}
use Rattle.core_laws.proofs.Memory.{dead_of, up_dead_not}
use Rattle.core_laws.proofs.Resting.{good_of_run}
use Rattle.core_laws.specs.Leases.{LeasesEnd}
use Rattle.core_journals.specs.Journals.{IsLog, Journal}
use Rattle.core_journals.specs.Logs.{HasAll, IsFit, IsReadAs, IsReplayed, Onward}
use Rattle.core_journals.specs.Reports.{At, Began, Goes, IsAtWork, Recovering}
use Rattle.core_journals.proofs.Quiet.{dead_off_not}
use Rattle.core_journals.proofs.ReadingAs.{log_reads}
use Rattle.core_journals.proofs.Reporting.{redos_stood}
use Rattle.core_journals.proofs.Standing.{log_goes_on}
use Rattle.core_journals.proofs.Turning.{stage_up}

module _ (ends : LeasesEnd) (script : List Line) (segments number : ℕ) (disk : Sectors) where
  abbrev setting : Setting
  setting = setting_of script segments number

  abbrev first : State
  first = first_state setting disk

  -- who is recovered is dead, a server, and its lease is over
  record Gone (s : State) (dead : ℕ) : Type 0 where
    is : IsTrue (is_dead (s.core.servers dead).phase)
    server : IsTrue (is_server dead)
    over : HasEnded s.core.now (s.core.servers dead).expiry

  gone : (s : State) → Run first s → (by dead : ℕ) → IsAtWork s by dead → Gone s dead
  gone s run by dead at = record {
    is = subst (λ n. IsTrue (is_dead (s.core.servers n).phase)) at.recovers.of saved.0;
    server = subst (λ n. IsTrue (is_server n)) at.recovers.of saved.1;
    over = subst (λ n. HasEnded s.core.now (s.core.servers n).expiry) at.recovers.of (recovered_over ends setting disk s run by at.recovers.recovery at.works at.recovers.is);
  }
    where
      saved : IsTrue (is_dead (s.core.servers at.recovers.recovery.dead).phase) × IsTrue (is_server at.recovers.recovery.dead)
      saved = (good_of_run setting disk s run).saved by at.recovers.recovery.dead at.works (ap dead_of at.recovers.is)

  -- its moment is fit
  dead_fit : (s : State) (dead : ℕ) (j : Journal) → IsTrue (is_dead (s.core.servers dead).phase) → last j.log.ring < 2 ^ 62 → IsLog s dead j → IsFit s dead
  dead_fit s dead j is small log = record {
    ring = λ on. subst (λ (r : Ring). last r < 2 ^ 62) (log.journal on).ring_is small;
    end = λ off. absurd (both_ways (is_off (s.core.servers dead).phase) (dead_off_not (s.core.servers dead) is) off);
    records = λ outcome redo e f.
        absurd (both_ways (is_dead (s.core.servers dead).phase)
        (up_dead_not (s.core.servers dead).phase
        (stage_up (is_up (s.core.servers dead).phase) (asks is_path_op (s.core.servers dead)) (stage_under s.core.setting s.core.locks dead (s.core.servers dead).cache (s.core.servers dead).under) (Finishing outcome) e)) is);
  }

  record Stays (by dead : ℕ) (j : Journal) (s : State) : Type 0 where
    reached : Run first s
    at : IsAtWork s by dead
    log : IsLog s dead j

  module _ (since : State) (run : Run first since) (by dead : ℕ) (j : Journal) (small : last j.log.ring < 2 ^ 62) (log : IsLog since dead j) where
    stays : (s : State) → Recovering by dead since s → Stays by dead j s
    stays s (At at) = record { reached = run; at = at; log = log }
    stays w (Goes {v = v} on step at) = go (stays v on)
      where
        go : Stays by dead j v → Stays by dead j w
        go p = record { reached = longer first v w p.reached step; at = at; log = subst (IsLog w dead) (o.still g.is g.over) o.log }
          where
            g : Gone v dead
            g = gone v p.reached by dead p.at

            o : Onward v w dead j
            o = log_goes_on ends script segments number disk v w p.reached step dead g.server j (dead_fit v dead j g.is small p.log) p.log

  at_first : (by dead : ℕ) (since s : State) → Recovering by dead since s → IsAtWork since by dead
  at_first by dead since s (At at) = at
  at_first by dead since s (Goes {v = v} on step at) = at_first by dead since v on

  pub replays : (s : State) (by dead : ℕ) → (b : Began first s by dead) → (j : Journal) → last (b.since.core.servers dead).ring < 2 ^ 62 → IsLog b.since dead j → IsReplayed b.since s by dead j
  replays s by dead b j small log = record {
    log = (stays b.since run by dead j (subst (λ (r : Ring). last r < 2 ^ 62) (sym (log.journal on).ring_is) small) log s b.works).log;
    records = λ recovery has read. go (redos_stood ends script segments number disk s by dead b recovery has read) (reads.left g.is);
  }
    where
      run : Run first b.since
      run = longer first b.before b.since b.reached b.step

      g : Gone b.since dead
      g = gone b.since run by dead (at_first by dead b.since s b.works)

      on : is_off (b.since.core.servers dead).phase ≡ false
      on = dead_off_not (b.since.core.servers dead) g.is

      reads : IsReadAs b.since dead j
      reads = log_reads b.since dead j small log on

      go : {records : List Redo} → records ≡ log_records (slots_of b.since.disk dead) → HasAll j.log.slots (slots_of b.since.disk dead) ⊎ IsSealedFrom j.log.slots (slots_of b.since.disk dead) →
          (records ≡ log_records j.log.slots) ⊎ (IsTrue (is_sealed (slots_of b.since.disk dead)) × ((missing : ℕ) × (records ≡ drop missing (log_records j.log.slots))))
      go e (inl all) = inl (e ∙ all.records)
      go e (inr sealed) = inr (sealed.none_above, (sealed.missing, e ∙ sealed.last))

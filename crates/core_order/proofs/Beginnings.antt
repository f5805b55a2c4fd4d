-- Over the disk of an opening all logs are zero: so all that the order of writes asks stands beside the first moment, and along a few steps from it.
use Rattle.std.proofs.Common.{◌≡◌, ℕ, ◌<◌, ◌≤◌, ◌+◌, ◌-◌, Bool, true, false, is_some, IsTrue, [], refl, sym, ap, ◌∙◌, subst, arith, Option, Some, None}
use Rattle.std.proofs.lemmas.Bool.{false≢true, ltb-true}
use Rattle.frang_base.specs.declared.limits.TheConstants.{LOGS, LOG_SECTORS}
use Rattle.frang_base.specs.declared.lock.LockId.{LockId}
use Rattle.frang_base.specs.declared.lock.LockId.TheVariants.{Node}
use Rattle.frang_base.specs.declared.said.Said.TheVariants as said
use Rattle.sector_bytes.specs.Bytes.{zeros}
use Rattle.disk_definitions.specs.Logs.{Slots, is_sealed, log_end, numbers_in, window}
use Rattle.disk_definitions.specs.Numbered.{sector_in}
use Rattle.disk_definitions.specs.Regions.{region_of}
use Rattle.disk_definitions.specs.Replay.{slots_of}
use Rattle.disk_definitions.specs.Store.{store_of}
use Rattle.disk_definitions.specs.declared.region.Region.{Region}
use Rattle.disk_definitions.specs.declared.region.Region.TheVariants as region
use Rattle.line_histories.specs.LinePlans.{store_on}
use Rattle.stop_laws.specs.FreshDisks.{is_versioned_at}
use Rattle.headline_definitions.specs.Ordered.{is_metadata_at_first}
use Rattle.disk_definitions.proofs.EndLaws.{sealed_from, sealed_numbers}
use Rattle.disk_definitions.proofs.SameLogs.{IsZeroLog, log_end_same, sector_same, zero_log_end, zero_log_records}
use Rattle.core_definitions.specs.LineGuards.{is_server}
use Rattle.core_definitions.specs.Runs.{State, Hold, Note, Goes, Stays, first_state, held_on, noted}
use Rattle.core_journals.specs.Logs.{LogsBegin}
use Rattle.sector_world.specs.Steps.{stays}
use Rattle.sector_world.specs.World.{World}
use Rattle.core_world.specs.Events.{FirstMomentsAreGood, first_world}
use Rattle.core_world.specs.Journals.{Journal, journal_at, sector_log}
use Rattle.core_world.specs.Readings.{AllInPlace}
use Rattle.core_world.specs.Steps.{IsWorldOf}
use Rattle.core_world.proofs.First.{first_tied}
use Rattle.core_readings.specs.Logs.{SealsBeginBehind, log_journal}
use Rattle.headline_definitions.specs.Beginning.{Beginning, IsOpening}
use Rattle.headline_definitions.specs.Laws.{setting_by}
use Rattle.core_order.specs.Starting.{FirstMomentsStand, FirstWorldsCountMetadata, OpenedWorldsCountMetadata, RunsHaveWorlds, counted_at_first}
use Rattle.core_order.specs.Worlds.{StandsBeside}

-- ---- zero logs

abbrev new_log : Slots
new_log slot = zeros 512

is_new : is_sealed new_log ≡ true
unfolding zeros window numbers_in log_end
is_new = refl

ends : (slots : Slots) → IsZeroLog slots → LOG_SECTORS ≤ log_end slots + 1
ends slots z = low (log_end slots) (zero_log_end slots z)
  where
    low : (m : ℕ) → m ≡ 255 → LOG_SECTORS ≤ m + 1
    low m e = omega (arith, e)

sealed : (slots : Slots) → IsZeroLog slots → IsTrue (is_sealed slots)
sealed slots z = sealed_from slots (λ n e. subst (λ m. n ≤ m) (sym (log_end_same slots new_log z)) (sealed_numbers new_log is_new n (ap is_some (sym (sector_same slots new_log z n)) ∙ e)))

module _ (b : Beginning) (opening : IsOpening b.opening b.disk) where
  abbrev first : State
  first = first_state (setting_by b) b.disk

  zero : (a : ℕ) → a < LOGS → IsZeroLog (slots_of b.disk a)
  zero a low slot below = opening.logs a slot low below

  server_low : (a : ℕ) → IsTrue (is_server a) → a < LOGS
  server_low a server = small a (ltb-true a 16 server)
    where
      small : (n : ℕ) → n < 16 → n < 256
      small n h = omega (arith, h)

  module _ (logged of_files : ℕ → Bool) (home : ℕ → LockId) (journal : ℕ → Journal) where
    abbrev w : World
    w = first_world b.disk logged of_files home

    is_world : IsWorldOf first w journal
    is_world = record {
      tied = first_tied (setting_by b) b.disk logged of_files home;
      journals = λ a server. record {
        low = ends (slots_of b.disk a) (zero a (server_low a server));
        sealed = sealed (slots_of b.disk a) (zero a (server_low a server));
        old = λ x. subst (λ records. AllInPlace records x ((sector_log w a).versions x)) (sym (zero_log_records (slots_of b.disk a) (zero a (server_low a server)))) tt;
      };
      readings = λ by recovery who i. absurd (cc);
    }

    stands_first : LogsBegin → FirstMomentsAreGood → SealsBeginBehind → StandsBeside first w journal
    stands_first logs_begin good seals = record {
      is = is_world;
      good = good b.disk logged of_files home;
      sixteen = refl;
      logs = record {
        stand = λ a server. logs_begin b.script b.opening.tree.segments b.opening.run b.disk a (log_journal (journal a)) (record {
          low = less (log_end (slots_of b.disk a)) (ends (slots_of b.disk a) (zero a (server_low a server)));
          sealed = sealed (slots_of b.disk a) (zero a (server_low a server));
        });
        small = λ a server e. absurd (false≢true (sym e));
      };
      sealed = seals (setting_by b) b.disk w journal;
    }
      where
        less : (n : ℕ) → LOG_SECTORS ≤ n + 1 → LOG_SECTORS - 1 ≤ n
        less n h = omega (arith, h)

pub first_stand : LogsBegin → FirstMomentsAreGood → SealsBeginBehind → FirstMomentsStand
first_stand logs_begin good seals b logged of_files home journal opening = stands_first b opening logged of_files home journal logs_begin good seals

pub opened_count : OpenedWorldsCountMetadata
opened_count servers segments naming disk x e = go (region_of segments x) e
  where
    go : (r : Option Region) → is_metadata_at_first (store_of segments disk) r ≡ true → is_versioned_at (store_on segments disk) (sector_in r) ≡ true
    go None e = refl
    go (Some region.Param) e = refl
    go (Some (region.Log a slot)) e = refl
    go (Some (region.Segment k)) e = refl
    go (Some (region.Inode i)) e = refl
    go (Some (region.Small block part)) e = e
    go (Some (region.Large block part)) e = absurd (false≢true e)

pub first_count : FirstWorldsCountMetadata
first_count b of_files home x e = e

-- ---- a run of two steps, which change nothing of what a world is tied to

pub has_run : FirstMomentsStand → RunsHaveWorlds
has_run stand b opening = record {
  moment = held_on (noted first (said.Backup 1)) 0 true;
  run = Goes (Note (said.Backup 1) refl) (Goes (Hold 0 true refl) Stays);
  world = w;
  journal = journal;
  counts = λ x e. e;
  have = (
    k,
    journal,
    (record { events = []; world = w; run = stays; is = behind_noted.is }),
    (record { on = λ a server on. absurd (false≢true (sym on)); anew = λ a server off on. absurd (false≢true (sym on)) }),
    (behind_noted, journal, (record { events = []; world = w; run = stays; is = behind_held.is }), (record { on = λ a server on. absurd (false≢true (sym on)); anew = λ a server off on. absurd (false≢true (sym on)) }), behind_held),
  );
  witnessed = refl;
}
  where
    first : State
    first = first_state (setting_by b) b.disk

    journal : ℕ → Journal
    journal a = journal_at (slots_of b.disk a)

    w : World
    w = first_world b.disk (counted_at_first b) (λ x. false) (λ x. Node 0)

    k : StandsBeside first w journal
    k = stand b (counted_at_first b) (λ x. false) (λ x. Node 0) journal opening

    behind_noted : StandsBeside (noted first (said.Backup 1)) w journal
    behind_noted = record {
      is = record { tied = k.is.tied; journals = k.is.journals; readings = k.is.readings };
      good = k.good;
      sixteen = k.sixteen;
      logs = record { stand = k.logs.stand; small = k.logs.small };
      sealed = λ d server on. let o = k.sealed d server on in record { stands = o.stands; flies = o.flies };
    }

    behind_held : StandsBeside (held_on (noted first (said.Backup 1)) 0 true) w journal
    behind_held = record {
      is = record { tied = k.is.tied; journals = k.is.journals; readings = k.is.readings };
      good = k.good;
      sixteen = k.sixteen;
      logs = record { stand = k.logs.stand; small = k.logs.small };
      sealed = λ d server on. let o = k.sealed d server on in record { stands = o.stands; flies = o.flies };
    }

-- Journals go on where no write of a log is issued and none arrives: with fewer writes in flight.
use Rattle.std.proofs.Common.{◌≡◌, ℕ, ◌+◌, ◌≤◌, is_some, Option, Some, None, List, [], ◌∷◌, ◌++◌, sym, ap, ◌∙◌, subst, arith}
use Rattle.std.specs.List.{Contains}
use Rattle.frang_base.specs.declared.change.Change.{Change}
use Rattle.frang_base.specs.declared.change.Redo.{Redo}
use Rattle.frang_base.specs.declared.limits.TheConstants.{LOG_SECTORS}
use Rattle.disk_definitions.proofs.EndLaws.{sealed_from, sealed_numbers}
use Rattle.disk_definitions.proofs.SameLogs.{SameSlots, log_end_same, log_records_same, sector_same}
use Rattle.disk_definitions.specs.Logs.{log_records}
use Rattle.disk_definitions.specs.Replay.{slots_of}
use Rattle.sector_bytes.specs.Replays.{change_at}
use Rattle.sector_bytes.specs.Sectors.{Sectors}
use Rattle.ring_definitions.specs.Rings.{Ring}
use Rattle.core_definitions.specs.Flights as core
use Rattle.core_definitions.specs.Flights.{Flights}
use Rattle.core_definitions.specs.Servers as life
use Rattle.core_definitions.specs.Servers.{Server}
use Rattle.sector_world.specs.Guards.{IsBelow}
use Rattle.sector_world.specs.World.{World}
use Rattle.core_world.specs.Journals.{AreJournals, IsAtRest, IsJournal, IsLogOf, IsSlotOn, Journal, SectorLog, records_up_to, sector_log}
use Rattle.core_world.specs.Readings.{AllInPlace}

-- each write of a log in flight was
abbrev pub AreFewer : Flights → Flights → Type 0
AreFewer flights more = (one : ℕ × core.Flight) (number : ℕ) → Contains flights one → one.1.purpose ≡ core.OfLog number → Contains more one

fewer_journal : (phase : life.Phase) (ring : Ring) (now : ℕ) (more flights : Flights) (disk : Sectors) (log : SectorLog) (a : ℕ) (j : Journal) → AreFewer flights more →
    IsJournal phase ring now more disk log a j → IsJournal phase ring now flights disk log a j
fewer_journal phase ring now more flights disk log a j fewer g = record {
  good = g.good;
  ring_is = g.ring_is;
  slots = g.slots;
  counted = g.counted;
  sent = λ one number i by of early. g.sent one number (fewer one number i of) by of early;
  records = g.records;
}

fewer_log : (phase : life.Phase) (ring : Ring) (now : ℕ) (more flights : Flights) (disk : Sectors) (log : SectorLog) (a : ℕ) (j : Journal) → AreFewer flights more →
    IsLogOf phase ring now more disk log a j → IsLogOf phase ring now flights disk log a j
fewer_log life.Off ring now more flights disk log a j fewer g = g
fewer_log life.Up ring now more flights disk log a j fewer g = fewer_journal life.Up ring now more flights disk log a j fewer g
fewer_log life.Still ring now more flights disk log a j fewer g = fewer_journal life.Still ring now more flights disk log a j fewer g
fewer_log (life.Doomed fate) ring now more flights disk log a j fewer g = fewer_journal (life.Doomed fate) ring now more flights disk log a j fewer g
fewer_log life.Dead ring now more flights disk log a j fewer g = fewer_journal life.Dead ring now more flights disk log a j fewer g

pub fewer_journals : (servers : ℕ → Server) (now : ℕ) (more flights : Flights) (disk : Sectors) (w : World) (journal : ℕ → Journal) → AreFewer flights more →
    AreJournals servers now more disk w journal → AreJournals servers now flights disk w journal
fewer_journals servers now more flights disk w journal fewer g b who = fewer_log (servers b).phase (servers b).ring now more flights disk (sector_log w b) b (journal b) fewer (g b who)

-- ---- where the disk is another at sectors of no log, and no sector is older

record_more : (o : Option Change) (n m : ℕ) → n ≤ m → IsBelow o n → IsBelow o m
record_more None n m le b = tt
record_more (Some x) n m le b = le_le x.version n m b le
  where
    le_le : (x y z : ℕ) → x ≤ y → y ≤ z → x ≤ z
    le_le x y z a b = omega (arith, a, b)

place_more : (records : List Redo) (s n m : ℕ) → n ≤ m → AllInPlace records s n → AllInPlace records s m
place_more [] s n m le all = tt
place_more (r ∷ rs) s n m le all = (record_more (change_at r.changes s) n m le all.0, place_more rs s n m le all.1)

module _ (now : ℕ) (more flights : Flights) (disk next : Sectors) (log : SectorLog) (versions : ℕ → ℕ) (a : ℕ) (j : Journal) (fewer : AreFewer flights more) (same : SameSlots (slots_of next a) (slots_of disk a))
    (rises : (s : ℕ) → log.versions s ≤ versions s) where
  abbrev later : SectorLog
  later = record log { versions = versions }

  landed_journal : (phase : life.Phase) (ring : Ring) → IsJournal phase ring now more disk log a j → IsJournal phase ring now flights next later a j
  landed_journal phase ring g = record {
    good = g.good;
    ring_is = g.ring_is;
    slots = λ slot below. subst (IsSlotOn phase j.log.slots slot) (sym (same slot below)) (g.slots slot below);
    counted = g.counted;
    sent = λ one number i by of early. g.sent one number (fewer one number i of) by of early;
    records = record {
      ends_at_last = g.records.ends_at_last;
      given_up = g.records.given_up;
      placed = g.records.placed;
      old = λ s. place_more (log_records j.before ++ records_up_to log.floor j.log.placed) s (log.versions s) (versions s) (rises s) (g.records.old s);
    };
  }

  back : SameSlots (slots_of disk a) (slots_of next a)
  back slot below = sym (same slot below)

  landed_rest : IsAtRest (slots_of disk a) log → IsAtRest (slots_of next a) later
  landed_rest g = record {
    low = subst (λ n. LOG_SECTORS ≤ n + 1) (log_end_same (slots_of disk a) (slots_of next a) back) g.low;
    sealed = sealed_from (slots_of next a) (λ n s. subst (λ end. n ≤ end) (log_end_same (slots_of disk a) (slots_of next a) back)
        (sealed_numbers (slots_of disk a) g.sealed n (ap is_some (sector_same (slots_of disk a) (slots_of next a) back n) ∙ s)));
    old = λ s. subst (λ records. AllInPlace records s (versions s)) (log_records_same (slots_of disk a) (slots_of next a) back)
        (place_more (log_records (slots_of disk a)) s (log.versions s) (versions s) (rises s) (g.old s));
  }

  pub landed_log : (phase : life.Phase) (ring : Ring) → IsLogOf phase ring now more disk log a j → IsLogOf phase ring now flights next later a j
  landed_log life.Off ring g = landed_rest g
  landed_log life.Up ring g = landed_journal life.Up ring g
  landed_log life.Still ring g = landed_journal life.Still ring g
  landed_log (life.Doomed fate) ring g = landed_journal (life.Doomed fate) ring g
  landed_log life.Dead ring g = landed_journal life.Dead ring g

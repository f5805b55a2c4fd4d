-- Each world of a moment is one of another where what the ties read of the core is the same, but for a mounted server that stalls or is doomed, and for writes that a halt lets go of.
use Rattle.std.proofs.Common.{◌≡◌, ◌⊎◌, ℕ, ◌==◌, ◌&&◌, ◌||◌, Bool, true, false, IsTrue, [], refl, sym, ap, ◌∙◌, subst, inl, inr}
use Rattle.std.proofs.lemmas.Bool.{false≢true}
use Rattle.std.specs.List.{Contains}
use Rattle.frang_base.specs.Functions.{put}
use Rattle.frang_base.specs.declared.lock.LockId.{LockId}
use Rattle.frang_base.proofs.Basics.{at_put}
use Rattle.lock_definitions.specs.Locks.{Locks, held, log_hold}
use Rattle.sector_bytes.specs.SectorMaps.{value_at}
use Rattle.sector_bytes.specs.Sectors.{Sectors}
use Rattle.ring_definitions.specs.Rings.{Ring}
use Rattle.core_definitions.specs.Cores.{Core}
use Rattle.core_definitions.specs.Flights as core
use Rattle.core_definitions.specs.Flights.{Flights}
use Rattle.core_definitions.specs.LineGuards.{is_server}
use Rattle.core_definitions.specs.Rings.{is_all_reached}
use Rattle.core_definitions.specs.Runs.{State as RunMoment}
use Rattle.core_definitions.specs.Scripts.{host_party}
use Rattle.core_definitions.specs.Servers as life
use Rattle.core_definitions.specs.Servers.{Server, is_in_mount, is_up}
use Rattle.sector_world.specs.Steps.{stays}
use Rattle.sector_world.specs.World.{World, cover, has_version}
use Rattle.core_world.specs.Journals.{AreJournals, AreReadings, IsJournal, IsLogOf, Journal, SectorLog, sector_log}
use Rattle.core_world.specs.Steps.{IsWorldOf}
use Rattle.core_world.specs.Ties.{AreTied, AreFlying, AreRescues, IsCachedAs, IsMarkedAs, IsRescueOf, IsStuck, expiry_at, is_working, phase_of, taker_of, until_of}
use Rattle.core_lives.specs.Idle.{KeptWorldsAreQuiet}

-- ---- a server

-- the same phase, or a mounted server's that isn't Up then
abbrev pub IsPhaseAs : life.Phase → life.Phase → Type 0
IsPhaseAs new old = (new ≡ old) ⊎ ((is_in_mount new ≡ true) × (is_in_mount old ≡ true) × (is_up new ≡ false))

-- what the ties read of a server is the same
pub record IsServerAs (new old : Server) : Type 0 where
  pub phase : IsPhaseAs new.phase old.phase
  pub expiry : new.expiry ≡ old.expiry
  pub failed : new.failed ≡ old.failed
  pub ring : new.ring ≡ old.ring
  pub cache : new.cache ≡ old.cache
  pub recovery : new.recovery ≡ old.recovery

pub same_server : (server : Server) → IsServerAs server server
same_server server = record { phase = inl refl; expiry = refl; failed = refl; ring = refl; cache = refl; recovery = refl }

pub put_server : (servers : ℕ → Server) (a : ℕ) (new : Server) → IsServerAs new (servers a) → (b : ℕ) → IsServerAs (put servers a new b) (servers b)
put_server servers a new here b = at_put (λ x. IsServerAs x (servers b)) servers a new b (λ e. subst (λ n. IsServerAs new (servers n)) (sym e) here) (λ n. same_server (servers b))

pub mounted_up : (p : life.Phase) → is_in_mount p ≡ true → phase_of p ≡ phase_of life.Up
mounted_up life.Off e = absurd (false≢true e)
mounted_up life.Up e = refl
mounted_up life.Still e = refl
mounted_up (life.Doomed fate) e = refl
mounted_up life.Dead e = absurd (false≢true e)

phase_as : (new old : life.Phase) → IsPhaseAs new old → phase_of new ≡ phase_of old
phase_as new old (inl e) = ap phase_of e
phase_as new old (inr m) = mounted_up new m.0 ∙ sym (mounted_up old m.1)

up_as : (new old : life.Phase) → IsPhaseAs new old → IsTrue (is_up new) → IsTrue (is_up old)
up_as new old (inl e) up = subst (λ p. IsTrue (is_up p)) e up
up_as new old (inr m) up = absurd (false≢true (sym m.2 ∙ up))

-- ---- logs

pub mounted_journal : (p : life.Phase) → is_in_mount p ≡ true → (ring : Ring) (now : ℕ) (flights : Flights) (disk : Sectors) (log : SectorLog) (a : ℕ) (j : Journal) →
    IsLogOf p ring now flights disk log a j → IsJournal life.Up ring now flights disk log a j
mounted_journal life.Off e ring now flights disk log a j g = absurd (false≢true e)
mounted_journal life.Up e ring now flights disk log a j g = g
mounted_journal life.Still e ring now flights disk log a j g = g
mounted_journal (life.Doomed fate) e ring now flights disk log a j g = g
mounted_journal life.Dead e ring now flights disk log a j g = absurd (false≢true e)

pub journal_mounted : (p : life.Phase) → is_in_mount p ≡ true → (ring : Ring) (now : ℕ) (flights : Flights) (disk : Sectors) (log : SectorLog) (a : ℕ) (j : Journal) →
    IsJournal life.Up ring now flights disk log a j → IsLogOf p ring now flights disk log a j
journal_mounted life.Off e ring now flights disk log a j g = absurd (false≢true e)
journal_mounted life.Up e ring now flights disk log a j g = g
journal_mounted life.Still e ring now flights disk log a j g = g
journal_mounted (life.Doomed fate) e ring now flights disk log a j g = g
journal_mounted life.Dead e ring now flights disk log a j g = absurd (false≢true e)

-- a log goes on with its server's phase
pub log_as : (new old : life.Phase) → IsPhaseAs new old → (ring : Ring) (now : ℕ) (flights : Flights) (disk : Sectors) (log : SectorLog) (a : ℕ) (j : Journal) →
    IsLogOf old ring now flights disk log a j → IsLogOf new ring now flights disk log a j
log_as new old (inl e) ring now flights disk log a j g = subst (λ p. IsLogOf p ring now flights disk log a j) (sym e) g
log_as new old (inr m) ring now flights disk log a j g = journal_mounted new m.0 ring now flights disk log a j (mounted_journal old m.1 ring now flights disk log a j g)

-- a journal goes on with fewer writes in flight
fewer_journal : (phase : life.Phase) (ring : Ring) (now : ℕ) (flights more : Flights) (disk : Sectors) (log : SectorLog) (a : ℕ) (j : Journal) →
    ((one : ℕ × core.Flight) → Contains flights one → Contains more one) → IsJournal phase ring now more disk log a j → IsJournal phase ring now flights disk log a j
fewer_journal phase ring now flights more disk log a j fewer g = record {
  good = g.good;
  ring_is = g.ring_is;
  slots = g.slots;
  counted = g.counted;
  sent = λ one number i. g.sent one number (fewer one i);
  records = g.records;
}

fewer_log : (phase : life.Phase) (ring : Ring) (now : ℕ) (flights more : Flights) (disk : Sectors) (log : SectorLog) (a : ℕ) (j : Journal) →
    ((one : ℕ × core.Flight) → Contains flights one → Contains more one) → IsLogOf phase ring now more disk log a j → IsLogOf phase ring now flights disk log a j
fewer_log life.Off ring now flights more disk log a j fewer g = g
fewer_log life.Up ring now flights more disk log a j fewer g = fewer_journal life.Up ring now flights more disk log a j fewer g
fewer_log life.Still ring now flights more disk log a j fewer g = fewer_journal life.Still ring now flights more disk log a j fewer g
fewer_log (life.Doomed fate) ring now flights more disk log a j fewer g = fewer_journal (life.Doomed fate) ring now flights more disk log a j fewer g
fewer_log life.Dead ring now flights more disk log a j fewer g = fewer_journal life.Dead ring now flights more disk log a j fewer g

-- ---- all

-- what the ties read of these parts is what they read of the core
pub record IsReadAs (c : Core) (servers : ℕ → Server) (locks : Locks) (flights : Flights) (over : Bool) : Type 0 where
  pub alike : (b : ℕ) → IsServerAs (servers b) (c.servers b)
  pub held : (b : ℕ) (lock : LockId) → held locks b lock ≡ held c.locks b lock
  pub logs : (d : ℕ) → log_hold locks d ≡ log_hold c.locks d
  pub fewer : (one : ℕ × core.Flight) → Contains flights one → Contains c.flights one
  pub going : over ≡ false → (c.over ≡ false) × (flights ≡ c.flights)

-- one server changed
pub one_read : (c : Core) (a : ℕ) (new : Server) → IsServerAs new (c.servers a) → IsReadAs c (put c.servers a new) c.locks c.flights c.over
one_read c a new here = record { alike = put_server c.servers a new here; held = λ b lock. refl; logs = λ d. refl; fewer = λ one i. i; going = λ e. (e, refl) }

-- none
pub all_read : (c : Core) → IsReadAs c c.servers c.locks c.flights c.over
all_read c = record { alike = λ b. same_server (c.servers b); held = λ b lock. refl; logs = λ d. refl; fewer = λ one i. i; going = λ e. (e, refl) }

module _ (c : Core) (servers : ℕ → Server) (locks : Locks) (flights : Flights) (over : Bool) (same : IsReadAs c servers locks flights over) (disk : Sectors) (w : World) where
  abbrev next_core : Core
  next_core = record c { servers = servers; locks = locks; flights = flights; over = over }

  works_as : (by : ℕ) → IsTrue (is_working servers by) → IsTrue (is_working c.servers by)
  works_as by = go (is_server by) (is_up (servers by).phase) (is_up (c.servers by).phase) (by == host_party) (up_as (servers by).phase (c.servers by).phase (same.alike by).phase)
    where
      go : (s v u h : Bool) → (IsTrue v → IsTrue u) → IsTrue ((s && v) || h) → IsTrue ((s && u) || h)
      go true v true h f t = refl
      go true true false h f t = absurd (false≢true (f refl))
      go true false false h f t = t
      go false v u h f t = t

  rescues_as : AreRescues c.servers c.flights w → AreRescues servers c.flights w
  rescues_as g = record {
    under_way = λ by r who e. subst (λ f. IsRescueOf by r w.rescue ⊎ IsStuck by c.flights f r) (sym (same.alike by).failed) (g.under_way by r (works_as by who) (sym (same.alike by).recovery ∙ e));
    known = λ r e. let k = g.known r e in (k.0, (same.alike r.by).recovery ∙ k.1, k.2);
  }

  pub tied_as : AreTied c disk w → AreTied next_core disk w
  tied_as t = record {
    lives = record {
      now = t.lives.now;
      phase = λ b. t.lives.phase b ∙ sym (phase_as (servers b).phase (c.servers b).phase (same.alike b).phase);
      expiry = λ b. t.lives.expiry b ∙ ap (expiry_at c.now b) (sym (same.alike b).expiry);
      well = λ b e. t.lives.well b (sym (same.alike b).failed ∙ e);
    };
    locks = record {
      holds = λ b lock. t.locks.holds b lock ∙ sym (same.held b lock);
      taker = λ d. t.locks.taker d ∙ ap taker_of (sym (same.logs d));
      until = λ d. t.locks.until d ∙ ap until_of (sym (same.logs d));
    };
    cached = λ b s. subst (λ k. IsCachedAs (has_version w s) (cover w s) (value_at k s) (w.slot b s) (w.page b s)) (sym (same.alike b).cache) (t.cached b s);
    marked = λ b s. subst (λ k. IsMarkedAs (servers b).ring.reached (w.acked b) (value_at k s) (w.slot b s) (w.page b s)) (sym (same.alike b).cache)
        (subst (λ r. IsMarkedAs r.reached (w.acked b) (value_at (c.servers b).cache s) (w.slot b s) (w.page b s)) (sym (same.alike b).ring) (t.marked b s));
    flying = λ e. let g = same.going e in subst (λ f. AreFlying c.setting.segments c.now f w) (sym g.1) (t.flying g.0);
    disk = t.disk;
    rescues = λ e. let g = same.going e in subst (λ f. AreRescues servers f w) (sym g.1) (rescues_as (t.rescues g.0));
    logged = λ b all. t.logged b (subst (λ r. IsTrue (is_all_reached r)) (same.alike b).ring all);
  }

  pub journals_as : (journal : ℕ → Journal) → AreJournals c.servers c.now c.flights disk w journal → AreJournals servers c.now flights disk w journal
  journals_as journal g b who =
      fewer_log (servers b).phase (servers b).ring c.now flights c.flights disk (sector_log w b) b (journal b) same.fewer
      (log_as (servers b).phase (c.servers b).phase (same.alike b).phase (servers b).ring c.now c.flights disk (sector_log w b) b (journal b)
      (subst (λ r. IsLogOf (c.servers b).phase r c.now c.flights disk (sector_log w b) b (journal b)) (sym (same.alike b).ring) (g b who)))

  pub readings_as : AreReadings c.setting.segments c.servers w → AreReadings c.setting.segments servers w
  readings_as g by recovery who e = g by recovery (works_as by who) (sym (same.alike by).recovery ∙ e)

-- what a world of a moment is of, by parts of the core
abbrev pub IsWorldBy : Core → Sectors → World → (ℕ → Journal) → Type 0
IsWorldBy c disk w journal = record {
  tied : AreTied c disk w;
  journals : AreJournals c.servers c.now c.flights disk w journal;
  readings : AreReadings c.setting.segments c.servers w;
}

pub world_by : (s : RunMoment) (w : World) (journal : ℕ → Journal) → IsWorldOf s w journal → IsWorldBy s.core s.disk w journal
world_by s w journal t = record { tied = t.tied; journals = t.journals; readings = t.readings }

pub by_world : (s : RunMoment) (w : World) (journal : ℕ → Journal) → IsWorldBy s.core s.disk w journal → IsWorldOf s w journal
by_world s w journal t = record { tied = t.tied; journals = t.journals; readings = t.readings }

pub keeps_as : (c : Core) (servers : ℕ → Server) (locks : Locks) (flights : Flights) (over : Bool) → IsReadAs c servers locks flights over →
    (disk : Sectors) (w : World) (journal : ℕ → Journal) →
    IsWorldBy c disk w journal → IsWorldBy (record c { servers = servers; locks = locks; flights = flights; over = over }) disk w journal
keeps_as c servers locks flights over same disk w journal t = record {
  tied = tied_as c servers locks flights over same disk w t.tied;
  journals = journals_as c servers locks flights over same disk w journal t.journals;
  readings = readings_as c servers locks flights over same disk w t.readings;
}

pub kept_quiet : KeptWorldsAreQuiet
kept_quiet s v w journal keeps t = record {
  leads = record { events = []; world = w; run = stays; is = keeps w journal t };
  story = record { servers = refl; opening = refl; logged = refl; first = refl; home = refl; history = refl };
  quiet = tt;
}

-- A read of a recovery that fails is Fail of its server, and none where it is the host's: then it is over.
use Rattle.std.proofs.Common.{ℕ, ◌==◌, Bool, true, false, if◌then◌else◌, List, [], ◌∷◌, refl, sym}
use Rattle.std.proofs.lemmas.Bool.{false≢true}
use Rattle.core_definitions.specs.Cores.{Core, with_server}
use Rattle.core_definitions.specs.Effects.{Deed}
use Rattle.core_definitions.specs.Events as core_events
use Rattle.core_definitions.specs.Events.{GetFailed}
use Rattle.core_definitions.specs.LineEffects.{failed_by}
use Rattle.core_definitions.specs.Runs.{State as RunMoment, next}
use Rattle.core_definitions.specs.Scripts.{host_party}
use Rattle.core_definitions.specs.Servers.{Server}
use Rattle.sector_world.specs.Steps.{after, stays, goes}
use Rattle.sector_world.specs.Steps.Event.{Fail}
use Rattle.sector_world.specs.World.{World}
use Rattle.core_world.specs.Events.{LeadsQuietly}
use Rattle.core_world.specs.Journals.{Journal}
use Rattle.core_world.specs.Steps.{IsWorldOf}
use Rattle.core_world.specs.Ties.{AreTied}
use Rattle.core_recoveries.proofs.But.{IsBut, cached_but, journals_but, lives_but, logged_but, marked_but}
use Rattle.core_recoveries.proofs.Failed.{broken_but, broken_readings, broken_rescues, broken_well, servers_broken}
use Rattle.core_recoveries.specs.Reads.{FailedLoadsAreEvents, FailedLooksAreEvents}

module _ (s : RunMoment) (w : World) (journal : ℕ → Journal) (t : IsWorldOf s w journal) (a : ℕ) (deeds : List Deed) where
  abbrev c : Core
  c = s.core

  abbrev new : Server
  new = failed_by (c.servers a)

  abbrev servers_then : ℕ → Server
  servers_then = servers_broken c.servers a w

  abbrev failed : World
  failed = after w (Fail a)

  but : IsBut servers_then c.servers
  but = broken_but c.servers a w

  tied : AreTied (with_server c a new) s.disk failed
  tied = record {
    lives = lives_but servers_then c.servers but w c.now failed refl refl refl (broken_well c.servers a w c.now t.tied.lives) t.tied.lives;
    locks = t.tied.locks;
    cached = cached_but servers_then c.servers but w t.tied.cached;
    marked = marked_but servers_then c.servers but w t.tied.marked;
    flying = t.tied.flying;
    disk = t.tied.disk;
    rescues = λ e. broken_rescues c.servers a w c.flights (t.tied.rescues e);
    logged = logged_but servers_then c.servers but w t.tied.logged;
  }

  abbrev moment : Core → RunMoment
  moment d = record { core = d; disk = s.disk; record_ = deeds }

  -- of a server
  server_fails : LeadsQuietly w (moment (with_server c a new)) journal
  server_fails = record {
    leads = record {
      events = Fail a ∷ [];
      world = failed;
      run = goes tt stays;
      is = record {
        tied = tied;
        journals = journals_but servers_then c.servers but failed c.now c.flights s.disk journal t.journals;
        readings = broken_readings c.servers a w c.setting.segments t.readings;
      };
    };
    story = record { servers = refl; opening = refl; logged = refl; first = refl; home = refl; history = refl };
    quiet = (tt, tt);
  }

  -- of the host: it is over
  host_fails : LeadsQuietly w (moment (record c { over = true })) journal
  host_fails = record {
    leads = record {
      events = [];
      world = w;
      run = stays;
      is = record {
        tied = record {
          lives = t.tied.lives;
          locks = t.tied.locks;
          cached = t.tied.cached;
          marked = t.tied.marked;
          flying = λ e. absurd (false≢true (sym e));
          disk = t.tied.disk;
          rescues = λ e. absurd (false≢true (sym e));
          logged = t.tied.logged;
        };
        journals = t.journals;
        readings = t.readings;
      };
    };
    story = record { servers = refl; opening = refl; logged = refl; first = refl; home = refl; history = refl };
    quiet = tt;
  }

  -- by whose call it is
  pub call_fails : LeadsQuietly w (moment (if a == host_party then record c { over = true } else with_server c a new)) journal
  call_fails = go (a == host_party)
    where
      go : (h : Bool) → LeadsQuietly w (moment (if h then record c { over = true } else with_server c a new)) journal
      go true = host_fails
      go false = server_fails

pub failed_loads : FailedLoadsAreEvents
failed_loads s w journal by slot r t m = call_fails s w journal t by (next s (core_events.Load by slot) GetFailed).record_

pub failed_looks : FailedLooksAreEvents
failed_looks s w journal by sector r t m = call_fails s w journal t by (next s (core_events.Look by sector) GetFailed).record_

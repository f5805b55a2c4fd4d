-- What the ties read of a moment at which one server's recovery alone is another, and with it perhaps the world's.
use Rattle.std.proofs.Common.{◌≡◌, ℕ, false, Option, refl, sym, ◌∙◌, List}
use Rattle.frang_base.specs.Functions.{put}
use Rattle.core_definitions.specs.Effects.{Deed}
use Rattle.core_definitions.specs.Recoveries.{Recovery}
use Rattle.core_definitions.specs.Runs.{State as RunMoment}
use Rattle.core_definitions.specs.Servers.{Server}
use Rattle.sector_world.specs.Steps.{Event, Run}
use Rattle.sector_world.specs.World.{World, Up, Rescue}
use Rattle.core_world.specs.Events.{LeadsQuietly}
use Rattle.core_world.specs.Journals.{AreReadings, Journal}
use Rattle.core_world.specs.Quiet.{AllQuiet}
use Rattle.core_world.specs.Steps.{IsWorldOf}
use Rattle.core_world.specs.Ties.{AreRescues, AreTied}
use Rattle.core_world.proofs.Same.{put_as}
use Rattle.core_recoveries.proofs.But.{IsBut, cached_but, journals_but, lives_but, logged_but, marked_but, put_but}

module _ (s : RunMoment) (w : World) (journal : ℕ → Journal) (t : IsWorldOf s w journal) (by : ℕ) (o : Option Recovery) (rescue : Option Rescue) where
  abbrev pub recovering : Server
  recovering = record (s.core.servers by) { recovery = o }

  abbrev pub servers_then : ℕ → Server
  servers_then = put s.core.servers by recovering

  abbrev pub rescued : World
  rescued = record w { rescue = rescue }

  but : IsBut servers_then s.core.servers
  but = put_but s.core.servers by recovering refl refl refl refl

  well : (b : ℕ) → (servers_then b).failed ≡ false → w.phase b ≡ Up → w.sick b ≡ false
  well b e = t.tied.lives.well b (sym (put_as (λ x. x.failed) s.core.servers by recovering refl b) ∙ e)

  tied : (s.core.over ≡ false → AreRescues servers_then s.core.flights rescued) → AreTied (record s.core { servers = servers_then }) s.disk rescued
  tied rescues = record {
    lives = lives_but servers_then s.core.servers but w s.core.now rescued refl refl refl well t.tied.lives;
    locks = t.tied.locks;
    cached = cached_but servers_then s.core.servers but w t.tied.cached;
    marked = marked_but servers_then s.core.servers but w t.tied.marked;
    flying = t.tied.flying;
    disk = t.tied.disk;
    rescues = rescues;
    logged = logged_but servers_then s.core.servers but w t.tied.logged;
  }

  -- events of the world that go on with its recovery alone lead there
  pub leads_on : (deeds : List Deed) (events : List Event) → AllQuiet s.core.setting.segments w events → Run w events rescued → (s.core.over ≡ false → AreRescues servers_then s.core.flights rescued) → AreReadings s.core.setting.segments servers_then rescued →
      LeadsQuietly w (record { core = record s.core { servers = servers_then }; disk = s.disk; record_ = deeds }) journal
  leads_on deeds events quiet run rescues readings = record {
    leads = record {
      events = events;
      world = rescued;
      run = run;
      is = record {
        tied = tied rescues;
        journals = journals_but servers_then s.core.servers but rescued s.core.now s.core.flights s.disk journal t.journals;
        readings = readings;
      };
    };
    story = record { servers = refl; opening = refl; logged = refl; first = refl; home = refl; history = refl };
    quiet = quiet;
  }

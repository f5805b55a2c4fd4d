-- A write that goes without a trace is Fade and FadeBytes, where the world has it.
use Rattle.std.proofs.Common.{◌≡◌, ◌⊎◌, ℕ, ◌<◌, not, IsTrue, List, [], ◌∷◌, Option, Some, None, refl, sym, ap, ◌∙◌, subst, inl, inr}
use Rattle.std.proofs.lemmas.Bool.{and_parts, not-true, false≢true}
use Rattle.std.proofs.lemmas.Option.{none-some}
use Rattle.frang_base.specs.Functions.{put}
use Rattle.frang_base.specs.declared.lock.LockId.{LockId}
use Rattle.frang_base.proofs.Basics.{at_put, put_same}
use Rattle.disk_definitions.proofs.Listed.{Among}
use Rattle.sector_bytes.specs.Blocks.{Block}
use Rattle.sector_bytes.specs.SectorMaps.{value_at, without}
use Rattle.core_definitions.specs.Cores.{Core}
use Rattle.core_definitions.specs.Events.{Arrive, Lose, Late, Nothing}
use Rattle.core_definitions.specs.Flights as core
use Rattle.core_definitions.specs.Flights.{Flights}
use Rattle.core_definitions.specs.LineGuards.{is_server}
use Rattle.core_definitions.specs.Runs.{State as RunMoment, next}
use Rattle.core_definitions.specs.Servers as life
use Rattle.core_definitions.specs.Servers.{Server, is_dead}
use Rattle.core_definitions.specs.Settings.{setting_of}
use Rattle.core_definitions.specs.WriteEffects.{arrived_from, landed}
use Rattle.core_definitions.specs.Effects.{MayArrive, disk_from}
use Rattle.core_definitions.specs.WriteGuards.{is_by_dead, is_flight}
use Rattle.core_laws.proofs.Flying.{Once, once_of, sectors_in}
use Rattle.core_laws.proofs.Membership.{contains_in, in_contains}
use Rattle.core_laws.specs.Laws.{SectorsStandOnce}
use Rattle.sector_world.specs.World.{World, Dead, Flight, ByteFlight, cover, has_version}
use Rattle.sector_world.specs.Steps.{Event, Run, after, stays, goes}
use Rattle.sector_world.specs.Steps.Event.{Fade, FadeBytes}
use Rattle.core_world.specs.Events.{LeadsQuietly}
use Rattle.core_world.specs.Journals.{AreJournals, AreReadings, Journal}
use Rattle.core_world.proofs.Same.{rescues_on}
use Rattle.core_world.specs.Quiet.{AllQuiet}
use Rattle.core_world.specs.Steps.{IsReached, IsWorldOf}
use Rattle.core_world.specs.Ties.{AreTied, AreFlying, IsFlying, IsShown, phase_of}
use Rattle.core_writes.proofs.Lists.{at_sector, fewer_those, into_without, from_without, other_without}
use Rattle.core_writes.proofs.Journaling.{fewer_journals}
use Rattle.core_writes.specs.Gone.{LateAreEvents, LosesAreEvents}

-- ---- the world

-- of nothing nothing goes
pub put_none : {X : Type 0} (f : ℕ → Option X) (s : ℕ) → f s ≡ None → put f s None ≡ f
put_none f s e = λ i t. at_put (λ x. x ≡ f t) f s None t (λ k. sym e ∙ ap f (sym k)) (λ n. refl) i

-- no write of the sector is in flight any more
abbrev pub without_writes : World → ℕ → World
without_writes w s = record w { flight = put w.flight s None; byte_flight = put w.byte_flight s None }

abbrev pub IsOver : World → ℕ → ℕ → Type 0
IsOver w by stamp = (stamp < w.now) ⊎ (w.phase by ≡ Dead)

pub record Fades (w : World) (s : ℕ) : Type 0 where
  pub events : List Event
  pub run : Run w events (without_writes w s)
  pub quiet : (segments : ℕ) → AllQuiet segments w events

-- where what is in flight there is late or a dead server's
pub fades : (w : World) (s : ℕ) → ((f : Flight) → w.flight s ≡ Some f → IsOver w f.by f.stamp) → ((f : ByteFlight) → w.byte_flight s ≡ Some f → IsOver w f.by f.stamp) → Fades w s
fades w s over over_bytes = go (w.flight s) refl
  where
    middle : World
    middle = record w { flight = put w.flight s None }

    rest : (o : Option ByteFlight) → w.byte_flight s ≡ o → Fades middle s
    rest None e = record {
      events = [];
      run = subst (λ x. Run middle [] (record middle { flight = x; byte_flight = put w.byte_flight s None })) (sym (put_none middle.flight s (put_same w.flight s None)))
          (subst (λ x. Run middle [] (record middle { byte_flight = x })) (sym (put_none w.byte_flight s e)) stays);
      quiet = λ segments. tt;
    }
    rest (Some f) e = record {
      events = FadeBytes s f ∷ [];
      run = goes (record { there = e; late = over_bytes f e })
          (subst (λ x. Run (after middle (FadeBytes s f)) [] (record middle { flight = x; byte_flight = put w.byte_flight s None })) (sym (put_none middle.flight s (put_same w.flight s None))) stays);
      quiet = λ segments. (tt, tt);
    }

    twice : without_writes middle s ≡ without_writes w s
    twice = ap (λ x. record w { flight = x; byte_flight = put w.byte_flight s None }) (put_none (put w.flight s None) s (put_same w.flight s None))

    go : (o : Option Flight) → w.flight s ≡ o → Fades w s
    go None e =
        let r : Fades middle s = rest (w.byte_flight s) refl in
        record {
          events = r.events;
          run = subst (λ x. Run (record w { flight = x }) r.events (without_writes w s)) (put_none w.flight s e) (subst (λ (u : World). Run middle r.events u) twice r.run);
          quiet = λ segments. subst (λ x. AllQuiet segments (record w { flight = x }) r.events) (put_none w.flight s e) (r.quiet segments);
        }
    go (Some f) e =
        let r : Fades middle s = rest (w.byte_flight s) refl in
        record { events = Fade s f ∷ r.events; run = goes (record { there = e; late = over f e }) (subst (λ (u : World). Run middle r.events u) twice r.run); quiet = λ segments. (tt, r.quiet segments) }

-- ---- the ties

-- one of another sector is in flight still
pub flies_on : (flights : Flights) (ticket : ℕ) (gone : core.Flight) → value_at flights ticket ≡ Some gone → (s : ℕ) (lock : LockId) (by behalf stamp : ℕ) (block : Block) → (s ≡ gone.sector → ⊥) →
    IsFlying flights s lock by behalf stamp block → IsFlying (without flights ticket) s lock by behalf stamp block
flies_on flights ticket gone at s lock by behalf stamp block other x = record {
  one = x.one;
  among = in_contains (without flights ticket) x.one (into_without flights ticket gone x.one at (contains_in flights x.one x.among) (λ k. other (sym x.sector ∙ k)));
  sector = x.sector;
  server = x.server;
  behalf_is = x.behalf_is;
  stamp_is = x.stamp_is;
  block_is = x.block_is;
  place = x.place;
}

-- of the sector there is none, of another one what there was
pub left_there : {X : Type 0} (at : ℕ → Option X) (gone s : ℕ) (f : X) → put at gone None s ≡ Some f → (s ≡ gone → ⊥) × (at s ≡ Some f)
left_there at gone s f e = at_put (λ o. o ≡ Some f → (s ≡ gone → ⊥) × (at s ≡ Some f)) at gone None s (λ k i. absurd (none-some f i)) (λ n i. (n, i)) e

pub flying_on : (segments now : ℕ) (flights : Flights) (ticket : ℕ) (gone : core.Flight) → value_at flights ticket ≡ Some gone → Once (sectors_in flights) → (w : World) →
    AreFlying segments now flights w → AreFlying segments now (without flights ticket) (without_writes w gone.sector)
flying_on segments now flights ticket gone at once w t = record {
  flight = λ s f e. let l = left_there w.flight gone.sector s f e in flies_on flights ticket gone at s (cover w s) f.by f.behalf f.stamp f.block l.0 (t.flight s f l.1);
  bytes = λ s f e. let l = left_there w.byte_flight gone.sector s f e in flies_on flights ticket gone at s (cover w s) f.by f.by f.stamp f.block l.0 (t.bytes s f l.1);
  shown = λ x i early out. shows x (other_without flights ticket gone x once at (contains_in (without flights ticket) x i))
      (t.shown x (in_contains flights x (from_without flights ticket x (contains_in (without flights ticket) x i))) early out);
}
  where
    shows : (x : ℕ × core.Flight) → (x.1.sector ≡ gone.sector → ⊥) → IsShown (has_version w x.1.sector) x.1 (w.flight x.1.sector) (w.byte_flight x.1.sector) →
        IsShown (has_version w x.1.sector) x.1 (put w.flight gone.sector None x.1.sector) (put w.byte_flight gone.sector None x.1.sector)
    shows x other g =
        at_put (λ f. IsShown (has_version w x.1.sector) x.1 f (put w.byte_flight gone.sector None x.1.sector)) w.flight gone.sector None x.1.sector (λ k. absurd (other k))
        (λ n. at_put (λ f. IsShown (has_version w x.1.sector) x.1 (w.flight x.1.sector) f) w.byte_flight gone.sector None x.1.sector (λ k. absurd (other k)) (λ m. g))

-- ---- the event

module _ (sectors_once : SectorsStandOnce) (s : RunMoment) (w : World) (journal : ℕ → Journal) (r : IsReached s) (t : IsWorldOf s w journal) (going : IsTrue (not s.core.over)) (ticket : ℕ) (gone : core.Flight)
    (at : value_at s.core.flights ticket ≡ Some gone) where
  pub stand_once : Once (sectors_in s.core.flights)
  stand_once = once_of (sectors_in s.core.flights) (sectors_once (setting_of r.script r.segments r.number) r.disk s r.run)

  pub flying_here : AreFlying s.core.setting.segments s.core.now s.core.flights w
  flying_here = t.tied.flying (not-true s.core.over going)

  pub gone_there : (one : ℕ × core.Flight) → Among one s.core.flights → one.1.sector ≡ gone.sector → one.1 ≡ gone
  gone_there one i same = at_sector s.core.flights ticket gone one stand_once at i same

  -- the moment without it
  abbrev left_moment : RunMoment → Core
  left_moment x = landed x.core ticket

  pub goes_quietly : IsOver w gone.server gone.stamp → (v : RunMoment) → v.core ≡ landed s.core ticket → v.disk ≡ s.disk → LeadsQuietly w v journal
  goes_quietly over v core_is disk_is = record {
    leads = record {
      events = f.events;
      world = without_writes w gone.sector;
      run = f.run;
      is = record {
        tied = subst (λ d. AreTied v.core d (without_writes w gone.sector)) (sym disk_is) (subst (λ c. AreTied c s.disk (without_writes w gone.sector)) (sym core_is) tied);
        journals = subst (λ d. AreJournals v.core.servers v.core.now v.core.flights d (without_writes w gone.sector) journal) (sym disk_is)
            (subst (λ (c : Core). AreJournals c.servers c.now c.flights s.disk (without_writes w gone.sector) journal) (sym core_is) journals);
        readings = subst (λ (c : Core). AreReadings c.setting.segments c.servers (without_writes w gone.sector)) (sym core_is) t.readings;
      };
    };
    story = record { servers = refl; opening = refl; logged = refl; first = refl; home = refl; history = refl };
    quiet = f.quiet v.core.setting.segments;
  }
    where
      f : Fades w gone.sector
      f = fades w gone.sector
          (λ x e. by_flight x.by x.behalf x.stamp x.block (flying_here.flight gone.sector x e))
          (λ x e. by_flight x.by x.by x.stamp x.block (flying_here.bytes gone.sector x e))
        where
          by_flight : (by behalf stamp : ℕ) (block : Block) → IsFlying s.core.flights gone.sector (cover w gone.sector) by behalf stamp block → IsOver w by stamp
          by_flight by behalf stamp block x =
              let same : x.one.1 ≡ gone = gone_there x.one (contains_in s.core.flights x.one x.among) x.sector in
              subst (λ n. IsOver w by n) (sym (ap (λ (o : core.Flight). o.stamp) same) ∙ x.stamp_is) (subst (λ n. IsOver w n gone.stamp) (sym (ap (λ (o : core.Flight). o.server) same) ∙ x.server) over)

      tied : AreTied (landed s.core ticket) s.disk (without_writes w gone.sector)
      tied = record {
        lives = t.tied.lives;
        locks = t.tied.locks;
        cached = t.tied.cached;
        marked = t.tied.marked;
        flying = λ e. flying_on s.core.setting.segments s.core.now s.core.flights ticket gone at stand_once w flying_here;
        disk = t.tied.disk;
        rescues = λ e. rescues_on s.core.servers (without s.core.flights ticket) s.core.flights w (fewer_those s.core.flights ticket) (t.tied.rescues e);
        logged = t.tied.logged;
      }

      journals : AreJournals s.core.servers s.core.now (without s.core.flights ticket) s.disk w journal
      journals = fewer_journals s.core.servers s.core.now s.core.flights (without s.core.flights ticket) s.disk w journal
          (λ one number i of. in_contains s.core.flights one (from_without s.core.flights ticket one (contains_in (without s.core.flights ticket) one i))) t.journals

pub loses : SectorsStandOnce → LosesAreEvents
loses once s w journal ticket r t m = go (value_at s.core.flights ticket) refl m.can.can.dead
  where
    dead_phase : (p : life.Phase) → IsTrue (is_dead p) → phase_of p ≡ Dead
    dead_phase life.Off e = absurd (false≢true e)
    dead_phase life.Up e = absurd (false≢true e)
    dead_phase life.Still e = absurd (false≢true e)
    dead_phase (life.Doomed fate) e = absurd (false≢true e)
    dead_phase life.Dead e = refl

    go : (o : Option core.Flight) → value_at s.core.flights ticket ≡ o → IsTrue (is_flight (is_by_dead s.core) o) → LeadsQuietly w (next s (Lose ticket) Nothing) journal
    go None e d = absurd (false≢true d)
    go (Some gone) e d =
        goes_quietly once s w journal r t m.can.going ticket gone e
        (inr (t.tied.lives.phase gone.server ∙ dead_phase (s.core.servers gone.server).phase ((and_parts (is_server gone.server) (is_dead (s.core.servers gone.server).phase) d).1)))
        (next s (Lose ticket) Nothing) refl refl

pub late : SectorsStandOnce → LateAreEvents
late once s w journal ticket r t m = go (value_at s.core.flights ticket) refl m.hears
  where
    go : (o : Option core.Flight) → value_at s.core.flights ticket ≡ o → MayArrive s.core.now o Late → LeadsQuietly w (next s (Arrive ticket) Late) journal
    go None e h = absurd h
    go (Some gone) e h =
        goes_quietly once s w journal r t m.can.going ticket gone e (inl (subst (λ n. gone.stamp < n) (sym t.tied.lives.now) h))
        (next s (Arrive ticket) Late) (ap (arrived_from s.core ticket Late) e) (ap (disk_from s.disk Late) e)

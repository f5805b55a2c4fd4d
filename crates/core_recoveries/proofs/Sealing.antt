-- A write of a seal that arrives is none, and one that fails is a failure of its server: it lies in a log, where the ties ask of the journals alone.
use Rattle.std.proofs.Common.{◌≡◌, ◌⊎◌, ℕ, ◌==◌, Bool, true, false, not, ◌&&◌, ◌||◌, if◌then◌else◌, IsTrue, List, [], ◌∷◌, Option, Some, None, refl, sym, ap, ◌∙◌, subst, inl, inr, ⊎_elim}
use Rattle.std.proofs.lemmas.Bool.{false≢true, ne_eqb, not-true}
use Rattle.std.proofs.lemmas.Option.{none-some}
use Rattle.std.specs.Option.{option_map}
use Rattle.frang_base.specs.Functions.{put}
use Rattle.frang_base.proofs.Basics.{at_put}
use Rattle.frang_outside.specs.Disk.{written}
use Rattle.disk_definitions.specs.Regions.{region_of}
use Rattle.sector_bytes.specs.Blocks.{Block}
use Rattle.sector_bytes.specs.SectorMaps.{value_at, without}
use Rattle.sector_bytes.specs.Sectors.{Sectors}
use Rattle.core_definitions.specs.Cores.{Core, with_server}
use Rattle.core_definitions.specs.Effects.{disk_from, disk_with}
use Rattle.core_definitions.specs.Events as core_events
use Rattle.core_definitions.specs.Events.{PutFailed, Written}
use Rattle.core_definitions.specs.Flights as core
use Rattle.core_definitions.specs.Flights.{Flights}
use Rattle.core_definitions.specs.LineEffects.{failed_by}
use Rattle.core_definitions.specs.LineGuards.{is_server}
use Rattle.core_definitions.specs.Logs.{is_read}
use Rattle.core_definitions.specs.Recoveries.{Recovery, is_written, redos}
use Rattle.core_definitions.specs.Runs.{State as RunMoment, next}
use Rattle.core_definitions.specs.Scripts.{host_party}
use Rattle.core_definitions.specs.Servers.{Server, is_up}
use Rattle.core_definitions.specs.Settings.{disk_logs}
use Rattle.core_definitions.specs.WriteEffects.{acknowledged, acknowledged_for, arrived_from, landed as landed_core}
use Rattle.core_facts.proofs.Owing.{InTurn}
use Rattle.core_facts.proofs.Rescuing.{TurnOf, rescuing_of_run}
use Rattle.core_laws.proofs.Membership.{contains_in, in_contains}
use Rattle.sector_world.specs.Steps.{Event, Run, after, stays, goes}
use Rattle.sector_world.specs.Steps.Event.{Fail}
use Rattle.sector_world.specs.World.{World, Up, Told, cover, has_version}
use Rattle.core_world.specs.Beside.{NoneInLogs}
use Rattle.core_world.specs.Events.{LeadsQuietly}
use Rattle.core_world.specs.Journals.{AreJournals, AreReadings, Journal}
use Rattle.core_world.specs.Quiet.{AllQuiet}
use Rattle.core_world.specs.Readings.{AreNamed, ReadsAs}
use Rattle.core_world.specs.Steps.{IsReached, IsWorldOf}
use Rattle.core_world.specs.Ties.{AreFlying, AreRescues, AreTied, IsFlying, IsRescueOf, IsStuck, IsTold, IsToldOnce, is_log_sector}
use Rattle.core_world.proofs.Same.{put_as, rescues_on}
use Rattle.core_writes.proofs.Lists.{fewer_those, from_without, into_without}
use Rattle.core_recoveries.proofs.But.{IsBut, cached_but, lives_but, logged_but, marked_but, put_but}
use Rattle.core_recoveries.proofs.Failed.{broken_but, broken_readings, broken_rescues, broken_well, servers_broken}
use Rattle.core_recoveries.proofs.Found.{replayed_no_log}
use Rattle.core_recoveries.proofs.Loading.{IsFrom, from_map, known_still}
use Rattle.core_recoveries.proofs.Through.{value_among}
use Rattle.core_recoveries.specs.Seals.{SealsArrive, SealsFail}

module _ (s : RunMoment) (w : World) (journal : ℕ → Journal) (ticket : ℕ) (flight : core.Flight) (r : IsReached s) (t : IsWorldOf s w journal) (going : IsTrue (not s.core.over))
    (at : value_at s.core.flights ticket ≡ Some flight) (log : is_log_sector s.core.setting.segments flight.sector ≡ true) (none : NoneInLogs s.core.setting.segments w) where
  abbrev a : ℕ
  a = flight.server

  abbrev sector : ℕ
  sector = flight.sector

  abbrev segments : ℕ
  segments = s.core.setting.segments

  -- what is in no log is elsewhere
  elsewhere : (x : ℕ) → is_log_sector segments x ≡ false → x ≡ sector → ⊥
  elsewhere x out e = false≢true (sym out ∙ ap (is_log_sector segments) e ∙ log)

  out_of_logs : (x : ℕ) → (is_log_sector segments x ≡ true → ⊥) → is_log_sector segments x ≡ false
  out_of_logs x n = go (is_log_sector segments x) refl
    where
      go : (b : Bool) → is_log_sector segments x ≡ b → b ≡ false
      go true e = absurd (n e)
      go false e = refl

  flying : AreFlying segments s.core.now s.core.flights w
  flying = t.tied.flying (not-true s.core.over going)

  kept : (x : ℕ) (by behalf stamp : ℕ) (block : Block) → (x ≡ sector → ⊥) → IsFlying s.core.flights x (cover w x) by behalf stamp block →
      IsFlying (without s.core.flights ticket) x (cover w x) by behalf stamp block
  kept x by behalf stamp block other q = record {
    one = q.one;
    among = in_contains (without s.core.flights ticket) q.one (into_without s.core.flights ticket flight q.one at (contains_in s.core.flights q.one q.among) (λ e. other (sym q.sector ∙ e)));
    sector = q.sector;
    server = q.server;
    behalf_is = q.behalf_is;
    stamp_is = q.stamp_is;
    block_is = q.block_is;
    place = q.place;
  }

  flies : AreFlying segments s.core.now (without s.core.flights ticket) w
  flies = record {
    flight = λ x f e. kept x f.by f.behalf f.stamp f.block (elsewhere x (out_of_logs x (λ l. none-some f (sym (none x l).0 ∙ e)))) (flying.flight x f e);
    bytes = λ x f e. kept x f.by f.by f.stamp f.block (elsewhere x (out_of_logs x (λ l. none-some f (sym (none x l).1 ∙ e)))) (flying.bytes x f e);
    shown = λ one i early out. flying.shown one (in_contains s.core.flights one (from_without s.core.flights ticket one (contains_in (without s.core.flights ticket) one i))) early out;
  }

  on_disk : (x : ℕ) → is_log_sector segments x ≡ false → (if has_version w x then w.disk x else w.bytes x) ≡ written s.disk sector flight.block x
  on_disk x out = t.tied.disk x out ∙ sym (ap (λ b. if b then flight.block else s.disk x) (ne_eqb sector x (λ e. elsewhere x out (sym e))))

  -- no sector that a recovery has looked at lies in a log
  looked_out : (b : ℕ) (old : Recovery) (x : ℕ) (look : Option Block) → (s.core.servers b).recovery ≡ Some old → value_at old.looked x ≡ Some look → x ≡ sector → ⊥
  looked_out b old x look has e = elsewhere x (replayed_no_log (region_of segments x) (turn.looked x look (value_among old.looked x look e)).1)
    where
      turn : InTurn s.core.setting.logs segments old
      turn = (subst (TurnOf s.core.setting.logs segments) has ((rescuing_of_run r.script r.segments r.number r.disk s r.run).turns b)).0

  unwritten_more : (old : Recovery) (x : ℕ) → (x ≡ sector → ⊥) → is_written (acknowledged_for sector old) x ≡ is_written old x
  unwritten_more old x n = ap (λ b. if b then true else is_written old x) (ne_eqb sector x (λ e. n (sym e)))

  told_more : (old : Recovery) (x : ℕ) (look : Option (Option Block)) (told : Told) → ((v : Option Block) → look ≡ Some v → x ≡ sector → ⊥) → IsTold old x look told → IsTold (acknowledged_for sector old) x look told
  told_more old x None told n k = k
  told_more old x (Some None) told n k = k
  told_more old x (Some (Some block)) told n k = subst (λ b. IsToldOnce b block told) (sym (unwritten_more old x (n (Some block) refl))) k

  -- ---- it arrives

  abbrev owner : Server
  owner = record (s.core.servers a) { recovery = option_map (acknowledged_for sector) (s.core.servers a).recovery }

  abbrev later : ℕ → Server
  later = put s.core.servers a owner

  but : IsBut later s.core.servers
  but = put_but s.core.servers a owner refl refl refl refl

  well : (b : ℕ) → (later b).failed ≡ false → w.phase b ≡ Up → w.sick b ≡ false
  well b e = t.tied.lives.well b (sym (put_as (λ y. y.failed) s.core.servers a owner refl b) ∙ e)

  abbrev rest : Flights
  rest = without s.core.flights ticket

  fewer : AreRescues s.core.servers s.core.flights w → AreRescues s.core.servers rest w
  fewer = rescues_on s.core.servers rest s.core.flights w (fewer_those s.core.flights ticket)

  rescues : AreRescues s.core.servers rest w → AreRescues later rest w
  rescues old = record {
    under_way = λ b x. at_put (λ (y : Server). IsTrue ((is_server b && is_up y.phase) || b == host_party) → y.recovery ≡ Some x → IsRescueOf b x w.rescue ⊎ IsStuck b rest y.failed x) s.core.servers a owner b
        (λ i works e. here b x i works (from_map (acknowledged_for sector) (s.core.servers a).recovery x e)) (λ n. old.under_way b x);
    known = λ q e. known_still s.core.servers a (acknowledged_for sector) (λ x. refl) q (old.known q e);
  }
    where
      here : (b : ℕ) (x : Recovery) → b ≡ a → IsTrue ((is_server b && is_up (s.core.servers a).phase) || b == host_party) → IsFrom (acknowledged_for sector) (s.core.servers a).recovery x →
          IsRescueOf b x w.rescue ⊎ IsStuck b rest (s.core.servers a).failed x
      here b x i works p = subst (λ n. IsRescueOf n x w.rescue ⊎ IsStuck n rest (s.core.servers a).failed x) (sym i)
          (subst (λ y. IsRescueOf a y w.rescue ⊎ IsStuck a rest (s.core.servers a).failed y) (sym p.is)
          (⊎_elim
          (λ q. inl (record {
            r = q.r;
            is = q.is;
            dead = q.dead;
            who = q.who;
            told = λ y. told_more p.old y (value_at p.old.looked y) (q.r.told y) (λ look e. looked_out a p.old y look p.was e) (q.told y);
          }))
          (λ z. inr (record {
            has_failed = z.has_failed;
            sector = z.sector;
            block = z.block;
            looked = z.looked;
            unwritten = unwritten_more p.old z.sector (looked_out a p.old z.sector (Some z.block) p.was z.looked) ∙ z.unwritten;
            unsent = z.unsent;
          }))
          (old.under_way a p.old (subst (λ n. IsTrue ((is_server n && is_up (s.core.servers a).phase) || n == host_party)) i works) p.was)))

  readings : AreReadings segments later w
  readings b x = at_put
      (λ (y : Server). IsTrue ((is_server b && is_up y.phase) || b == host_party) → y.recovery ≡ Some x → IsTrue (is_read disk_logs x.slots) →
      ReadsAs w x.dead (redos disk_logs x) × AreNamed segments w x.dead (redos disk_logs x)) s.core.servers a owner b
      (λ i works e read. here i works (from_map (acknowledged_for sector) (s.core.servers a).recovery x e) read) (λ n. t.readings b x)
    where
      here : b ≡ a → IsTrue ((is_server b && is_up (s.core.servers a).phase) || b == host_party) → IsFrom (acknowledged_for sector) (s.core.servers a).recovery x → IsTrue (is_read disk_logs x.slots) →
          ReadsAs w x.dead (redos disk_logs x) × AreNamed segments w x.dead (redos disk_logs x)
      here i works p read = subst (λ y. ReadsAs w y.dead (redos disk_logs y) × AreNamed segments w y.dead (redos disk_logs y)) (sym p.is)
          (t.readings a p.old (subst (λ n. IsTrue ((is_server n && is_up (s.core.servers a).phase) || n == host_party)) i works) p.was
          (subst (λ (y : Recovery). IsTrue (is_read disk_logs y.slots)) p.is read))

  abbrev core_then : Core
  core_then = record s.core { flights = without s.core.flights ticket; servers = later }

  arrived_tied : AreTied core_then (written s.disk sector flight.block) w
  arrived_tied = record {
    lives = lives_but later s.core.servers but w s.core.now w refl refl refl well t.tied.lives;
    locks = t.tied.locks;
    cached = cached_but later s.core.servers but w t.tied.cached;
    marked = marked_but later s.core.servers but w t.tied.marked;
    flying = λ e. flies;
    disk = on_disk;
    rescues = λ e. rescues (fewer (t.tied.rescues e));
    logged = logged_but later s.core.servers but w t.tied.logged;
  }

  -- of an earlier mount
  drifted_tied : AreTied (record s.core { flights = without s.core.flights ticket }) (written s.disk sector flight.block) w
  drifted_tied = record {
    lives = t.tied.lives;
    locks = t.tied.locks;
    cached = t.tied.cached;
    marked = t.tied.marked;
    flying = λ e. flies;
    disk = on_disk;
    rescues = λ e. fewer (t.tied.rescues e);
    logged = t.tied.logged;
  }

  -- ---- it fails

  abbrev servers_then : ℕ → Server
  servers_then = servers_broken s.core.servers a w

  broken : IsBut servers_then s.core.servers
  broken = broken_but s.core.servers a w

  abbrev failed : World
  failed = after w (Fail a)

  module _ (disk : Sectors) (disk_so : (x : ℕ) → is_log_sector segments x ≡ false → (if has_version w x then w.disk x else w.bytes x) ≡ disk x) where
    broken_tied : AreTied (record s.core { flights = without s.core.flights ticket; servers = servers_then }) disk failed
    broken_tied = record {
      lives = lives_but servers_then s.core.servers broken w s.core.now failed refl refl refl (broken_well s.core.servers a w s.core.now t.tied.lives) t.tied.lives;
      locks = t.tied.locks;
      cached = cached_but servers_then s.core.servers broken w t.tied.cached;
      marked = marked_but servers_then s.core.servers broken w t.tied.marked;
      flying = λ e. flies;
      disk = disk_so;
      rescues = λ e. broken_rescues s.core.servers a w rest (fewer (t.tied.rescues e));
      logged = logged_but servers_then s.core.servers broken w t.tied.logged;
    }

    -- of the host
    over_tied : AreTied (record s.core { flights = without s.core.flights ticket; over = true }) disk w
    over_tied = record {
      lives = t.tied.lives;
      locks = t.tied.locks;
      cached = t.tied.cached;
      marked = t.tied.marked;
      flying = λ e. absurd (false≢true (sym e));
      disk = disk_so;
      rescues = λ e. absurd (false≢true (sym e));
      logged = t.tied.logged;
    }

  disk_failed : (new : Bool) (x : ℕ) → is_log_sector segments x ≡ false → (if has_version w x then w.disk x else w.bytes x) ≡ disk_with s.disk flight (PutFailed new) x
  disk_failed true x out = on_disk x out
  disk_failed false x out = t.tied.disk x out

-- ---- the events

-- by these events from one world to another
leads_so : (w u : World) (events : List Event) → ((segments : ℕ) → AllQuiet segments w events) → (further : ℕ → Journal) (moment : RunMoment) (c : Core) (disk : Sectors) → Run w events u → u ≡ record w { sick = u.sick } → c ≡ moment.core →
    disk ≡ moment.disk → AreTied c disk u →
    AreReadings c.setting.segments c.servers u → AreJournals moment.core.servers moment.core.now moment.core.flights moment.disk w further → LeadsQuietly w moment further
leads_so w u events quiet further moment c disk run same core_is disk_is tied readings journals = record {
  leads = record {
    events = events;
    world = u;
    run = run;
    is = record {
      tied = subst (λ x. AreTied moment.core x u) disk_is (subst (λ y. AreTied y disk u) core_is tied);
      journals = subst (λ y. AreJournals moment.core.servers moment.core.now moment.core.flights moment.disk y further) (sym same) journals;
      readings = subst (λ (y : Core). AreReadings y.setting.segments y.servers u) core_is readings;
    };
  };
  story = record {
    servers = ap (λ v. v.servers) same;
    opening = ap (λ v. v.opening) same;
    logged = ap (λ v. v.logged) same;
    first = ap (λ v. v.first) same;
    home = ap (λ v. v.home) same;
    history = ap (λ v. v.history) same;
  };
  quiet = quiet moment.core.setting.segments;
}

pub seals_arrive : SealsArrive
seals_arrive s w journal further ticket flight r t at place log none m js = go flight.present refl
  where
    moment : RunMoment
    moment = next s (core_events.Arrive ticket) Written

    core_by : (b : Bool) → flight.present ≡ b →
        (if b then with_server (landed_core s.core ticket) flight.server (acknowledged flight.sector flight.block core.OfRecovery (s.core.servers flight.server)) else landed_core s.core ticket) ≡ moment.core
    core_by b e =
        sym (ap (arrived_from s.core ticket Written) at
        ∙ ap (λ x. if x then with_server (landed_core s.core ticket) flight.server (acknowledged flight.sector flight.block flight.purpose (s.core.servers flight.server)) else landed_core s.core ticket) e
        ∙ ap (λ p. if b then with_server (landed_core s.core ticket) flight.server (acknowledged flight.sector flight.block p (s.core.servers flight.server)) else landed_core s.core ticket) place)

    disk_is : written s.disk flight.sector flight.block ≡ moment.disk
    disk_is = sym (ap (disk_from s.disk Written) at)

    go : (b : Bool) → flight.present ≡ b → LeadsQuietly w moment further
    go true e = leads_so w w [] (λ segments. tt) further moment (core_then s w journal ticket flight r t m.can.going at log none) (written s.disk flight.sector flight.block) stays refl (core_by true e) disk_is
        (arrived_tied s w journal ticket flight r t m.can.going at log none) (readings s w journal ticket flight r t m.can.going at log none) js
    go false e = leads_so w w [] (λ segments. tt) further moment (record s.core { flights = without s.core.flights ticket }) (written s.disk flight.sector flight.block) stays refl (core_by false e) disk_is
        (drifted_tied s w journal ticket flight r t m.can.going at log none) t.readings js

pub seals_fail : SealsFail
seals_fail s w journal further ticket flight new r t at place log none m js = go (flight.server == host_party) refl
  where
    moment : RunMoment
    moment = next s (core_events.Arrive ticket) (PutFailed new)

    disk_is : disk_with s.disk flight (PutFailed new) ≡ moment.disk
    disk_is = sym (ap (disk_from s.disk (PutFailed new)) at)

    core_by : (b : Bool) → (flight.server == host_party) ≡ b →
        (if b then record (landed_core s.core ticket) { over = true } else with_server (landed_core s.core ticket) flight.server (failed_by (s.core.servers flight.server))) ≡ moment.core
    core_by b e = sym (ap (arrived_from s.core ticket (PutFailed new)) at
        ∙ ap (λ h. if h then record (landed_core s.core ticket) { over = true } else with_server (landed_core s.core ticket) flight.server (failed_by (s.core.servers flight.server))) e)

    go : (b : Bool) → (flight.server == host_party) ≡ b → LeadsQuietly w moment further
    go true e = leads_so w w [] (λ segments. tt) further moment (record s.core { flights = without s.core.flights ticket; over = true }) (disk_with s.disk flight (PutFailed new)) stays refl (core_by true e) disk_is
        (over_tied s w journal ticket flight r t m.can.going at log none (disk_with s.disk flight (PutFailed new)) (disk_failed s w journal ticket flight r t m.can.going at log none new)) t.readings js
    go false e = leads_so w (after w (Fail flight.server)) (Fail flight.server ∷ []) (λ segments. (tt, tt)) further moment
        (record s.core { flights = without s.core.flights ticket; servers = put s.core.servers flight.server (failed_by (s.core.servers flight.server)) }) (disk_with s.disk flight (PutFailed new))
        (goes tt stays) refl (core_by false e) disk_is
        (broken_tied s w journal ticket flight r t m.can.going at log none (disk_with s.disk flight (PutFailed new)) (disk_failed s w journal ticket flight r t m.can.going at log none new))
        (broken_readings s.core.servers flight.server w s.core.setting.segments t.readings) js

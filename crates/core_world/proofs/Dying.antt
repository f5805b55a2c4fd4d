-- Die is Crash. What it has in flight stays so, of an earlier mount; or it goes with it, and then each of these writes fades.
use Rattle.std.proofs.Common.{◌≡◌, ◌≢◌, ◌⊎◌, ℕ, ◌≤◌, ◌==◌, Bool, true, false, ◌&&◌, ◌||◌, if◌then◌else◌, IsTrue, [], ◌∷◌, Some, None, nat_eq, refl, sym, ap, ◌∙◌, subst, inl, inr, ⊎_elim, arith, List, map, Option}
use Rattle.std.proofs.lemmas.Bool.{false≢true, cases_eq}
use Rattle.std.proofs.lemmas.Bool.Decides.{nat_tests}
use Rattle.std.specs.List.{Contains}
use Rattle.frang_base.specs.Functions.{put}
use Rattle.frang_base.proofs.Basics.{at_put, by_test, put_other, put_same}
use Rattle.frang_base.specs.declared.lock.LockId.{LockId}
use Rattle.sector_bytes.specs.Blocks.{Block}
use Rattle.sector_bytes.specs.SectorMaps.{value_at}
use Rattle.sector_bytes.specs.Sectors.{Sectors}
use Rattle.ring_definitions.specs.Rings.{Ring}
use Rattle.core_definitions.specs.Events.{Nothing}
use Rattle.core_definitions.specs.Events as core_events
use Rattle.core_definitions.specs.Runs.{State as RunMoment, next}
use Rattle.disk_definitions.proofs.Listed.{Among}
use Rattle.core_definitions.specs.Flights as core
use Rattle.core_definitions.specs.Flights.{Flights, left_behind, lost}
use Rattle.core_definitions.specs.Recoveries.{Recovery}
use Rattle.core_definitions.specs.Rings.{is_all_reached}
use Rattle.core_definitions.specs.Scripts.{host_party}
use Rattle.core_definitions.specs.Servers as life
use Rattle.core_definitions.specs.Servers.{Server, Fate}
use Rattle.core_definitions.specs.Cores.{Core}
use Rattle.core_definitions.specs.LineGuards.{is_server}
use Rattle.core_definitions.specs.WriteEffects.{died_in, died_with}
use Rattle.core_laws.proofs.Membership.{contains_in, in_contains, into_map, from_map, FromMap}
use Rattle.core_laws.proofs.Resting.{server_no_host}
use Rattle.sector_world.specs.World.{World, Up, Dead, Absent, NoPage, cover, has_version}
use Rattle.sector_world.specs.Steps.{after, rescue_left, stays, goes}
use Rattle.sector_world.specs.Steps.Event.{Crash}
use Rattle.sector_world.proofs.Crashing.{left_is}
use Rattle.core_world.specs.Events.{DeathsAreEvents, LeadsQuietly}
use Rattle.core_world.specs.Journals.{AreJournals, AreReadings, AreSent, IsJournal, IsLogOf, IsSent, Journal, SectorLog, sector_log}
use Rattle.core_world.specs.Steps.{IsWorldOf}
use Rattle.core_world.proofs.Fading.{Fades, FadesAll, HasNone, all_fade, from_lost, into_lost, lost_left, own, own_bytes}
use Rattle.core_world.proofs.Same.{AreOfThose, among_those, rescues_on, stuck_on}
use Rattle.core_world.specs.Ties.{AreTied, AreLives, AreCached, AreFlying, AreRescues, AreLogged, AreMarked, IsCachedAs, IsMarkedAs, IsFlying, IsShown, IsRescueOf, IsStuck, is_working, is_log_sector, phase_of, expiry_at}

-- what a write is after its server's death
abbrev pub behind : ℕ → ℕ × core.Flight → ℕ × core.Flight
behind a one = if one.1.server == a then (one.0, record one.1 { present = false }) else one

no_lock : (v : Bool) (k : LockId) → IsCachedAs v k None Absent NoPage
no_lock true k = refl
no_lock false k = (refl, inl refl)

pub die_guard : (c : Core) (disk : Sectors) (w : World) (a : ℕ) (fate : Fate) → AreTied c disk w → (c.servers a).phase ≡ life.Doomed fate → w.phase a ≡ Up
die_guard c disk w a fate t doomed = t.lives.phase a ∙ ap phase_of doomed

module _ (c : Core) (disk : Sectors) (w : World) (a : ℕ) (fate : Fate) (t : AreTied c disk w) (server : IsTrue (is_server a)) where
  abbrev new : Server
  new = died_with fate (c.servers a)

  abbrev fallen_servers : ℕ → Server
  fallen_servers = put c.servers a new

  lives : AreLives c.now fallen_servers (after w (Crash a))
  lives = record {
    now = t.lives.now;
    phase = λ b. at_put (λ x. put w.phase a Dead b ≡ phase_of x.phase) c.servers a new b
        (λ e. at_put (λ x. x ≡ Dead) w.phase a Dead b (λ i. refl) (λ n. absurd (n e)))
        (λ n. at_put (λ x. x ≡ phase_of (c.servers b).phase) w.phase a Dead b (λ e. absurd (n e)) (λ m. t.lives.phase b));
    expiry = λ b. t.lives.expiry b ∙ ap (expiry_at c.now b) (at_put (λ x. (c.servers b).expiry ≡ x.expiry) c.servers a new b (λ e. ap (λ n. (c.servers n).expiry) e) (λ n. refl));
    well = λ b. at_put (λ x. x.failed ≡ false → put w.phase a Dead b ≡ Up → put w.sick a true b ≡ false) c.servers a new b
        (λ e i. at_put (λ x. x ≡ Up → put w.sick a true b ≡ false) w.phase a Dead b (λ j k. absurd (cc)) (λ n. absurd (n e)))
        (λ n i. at_put (λ x. x ≡ Up → put w.sick a true b ≡ false) w.phase a Dead b (λ e. absurd (n e))
        (λ m j. at_put (λ x. x ≡ false) w.sick a true b (λ e. absurd (n e)) (λ o. t.lives.well b i j)));
  }

  cached : AreCached fallen_servers (after w (Crash a))
  cached b s = go (cases_eq b a)
    where
      go : (b ≡ a) ⊎ (b ≡ a → ⊥) → IsCachedAs (has_version w s) (cover w s) (value_at (put c.servers a new b).cache s) (put w.slot a (λ i. Absent) b s) (put w.page a (λ i. NoPage) b s)
      go (inl e) = at_put (λ x. IsCachedAs (has_version w s) (cover w s) (value_at x.cache s) (put w.slot a (λ i. Absent) b s) (put w.page a (λ i. NoPage) b s)) c.servers a new b
          (λ i. at_put (λ x. IsCachedAs (has_version w s) (cover w s) None (x s) (put w.page a (λ i. NoPage) b s)) w.slot a (λ i. Absent) b
          (λ j. at_put (λ x. IsCachedAs (has_version w s) (cover w s) None Absent (x s)) w.page a (λ i. NoPage) b (λ k. no_lock (has_version w s) (cover w s)) (λ n. absurd (n e)))
          (λ n. absurd (n e)))
          (λ n. absurd (n e))
      go (inr n) = at_put (λ x. IsCachedAs (has_version w s) (cover w s) (value_at x.cache s) (put w.slot a (λ i. Absent) b s) (put w.page a (λ i. NoPage) b s)) c.servers a new b
          (λ e. absurd (n e))
          (λ m. at_put (λ x. IsCachedAs (has_version w s) (cover w s) (value_at (c.servers b).cache s) (x s) (put w.page a (λ i. NoPage) b s)) w.slot a (λ i. Absent) b (λ e. absurd (n e))
          (λ m. at_put (λ x. IsCachedAs (has_version w s) (cover w s) (value_at (c.servers b).cache s) (w.slot b s) (x s)) w.page a (λ i. NoPage) b (λ e. absurd (n e)) (λ m. t.cached b s)))

  marked : AreMarked fallen_servers (after w (Crash a))
  marked b s = go (cases_eq b a)
    where
      go : (b ≡ a) ⊎ (b ≡ a → ⊥) → IsMarkedAs (put c.servers a new b).ring.reached (w.acked b) (value_at (put c.servers a new b).cache s) (put w.slot a (λ i. Absent) b s) (put w.page a (λ i. NoPage) b s)
      go (inl e) =
          at_put (λ x. IsMarkedAs x.ring.reached (w.acked b) (value_at x.cache s) (put w.slot a (λ i. Absent) b s) (put w.page a (λ i. NoPage) b s)) c.servers a new b (λ i. tt) (λ n. absurd (n e))
      go (inr n) =
          at_put (λ x. IsMarkedAs x.ring.reached (w.acked b) (value_at x.cache s) (put w.slot a (λ i. Absent) b s) (put w.page a (λ i. NoPage) b s)) c.servers a new b (λ e. absurd (n e))
          (λ m. at_put (λ x. IsMarkedAs (c.servers b).ring.reached (w.acked b) (value_at (c.servers b).cache s) (x s) (put w.page a (λ i. NoPage) b s)) w.slot a (λ i. Absent) b (λ e. absurd (n e))
          (λ m. at_put (λ x. IsMarkedAs (c.servers b).ring.reached (w.acked b) (value_at (c.servers b).cache s) (w.slot b s) (x s)) w.page a (λ i. NoPage) b (λ e. absurd (n e)) (λ m. t.marked b s)))

  -- a write left behind
  flies : (s : ℕ) (lock : LockId) (by behalf stamp : ℕ) (block : Block) → IsFlying c.flights s lock by behalf stamp block → IsFlying (left_behind a c.flights) s lock by behalf stamp block
  flies s lock by behalf stamp block f = go (f.one.1.server == a) refl
    where
      there : (x : ℕ × core.Flight) → behind a f.one ≡ x → Contains (left_behind a c.flights) x
      there x e = subst (Contains (left_behind a c.flights)) e (in_contains (left_behind a c.flights) (behind a f.one) (into_map (behind a) c.flights f.one (contains_in c.flights f.one f.among)))

      go : (b : Bool) → (f.one.1.server == a) ≡ b → IsFlying (left_behind a c.flights) s lock by behalf stamp block
      go true e = record {
        one = (f.one.0, record f.one.1 { present = false });
        among = there (f.one.0, record f.one.1 { present = false }) (ap (λ b. if b then (f.one.0, record f.one.1 { present = false }) else f.one) e);
        sector = f.sector;
        server = f.server;
        behalf_is = f.behalf_is;
        stamp_is = f.stamp_is;
        block_is = f.block_is;
        place = λ i j. absurd (false≢true j);
      }
      go false e = record {
        one = f.one;
        among = there f.one (ap (λ b. if b then (f.one.0, record f.one.1 { present = false }) else f.one) e);
        sector = f.sector;
        server = f.server;
        behalf_is = f.behalf_is;
        stamp_is = f.stamp_is;
        block_is = f.block_is;
        place = f.place;
      }

  abbrev Seen : ℕ × core.Flight → Type 0
  Seen one = c.now ≤ one.1.stamp → is_log_sector c.setting.segments one.1.sector ≡ false → IsShown (has_version w one.1.sector) one.1 (w.flight one.1.sector) (w.byte_flight one.1.sector)

  seen_behind : (one : ℕ × core.Flight) → Seen one → Seen (behind a one)
  seen_behind one h = by_test Seen (one.0, record one.1 { present = false }) one (one.1.server == a) (λ e i j. same (has_version w one.1.sector) (h i j)) (λ e. h)
    where
      same : (v : Bool) → IsShown v one.1 (w.flight one.1.sector) (w.byte_flight one.1.sector) → IsShown v (record one.1 { present = false }) (w.flight one.1.sector) (w.byte_flight one.1.sector)
      same true x = x
      same false x = x

  flying : AreFlying c.setting.segments c.now c.flights w → AreFlying c.setting.segments c.now (left_behind a c.flights) (after w (Crash a))
  flying f0 = record {
    flight = λ s f e. flies s (cover w s) f.by f.behalf f.stamp f.block (f0.flight s f e);
    bytes = λ s f e. flies s (cover w s) f.by f.by f.stamp f.block (f0.bytes s f e);
    shown = λ one i. let r : FromMap (behind a) c.flights one = from_map (behind a) c.flights one (contains_in (left_behind a c.flights) one i) in
        subst Seen r.is (seen_behind r.from (f0.shown r.from (in_contains c.flights r.from r.there)));
  }

  -- who works isn't the one that died
  pub works : (by : ℕ) → IsTrue (is_working fallen_servers by) → (by ≢ a) × IsTrue (is_working c.servers by)
  works by who = go (cases_eq by a)
    where
      go : (by ≡ a) ⊎ (by ≡ a → ⊥) → (by ≢ a) × IsTrue (is_working c.servers by)
      go (inl e) = absurd (false≢true (sym (none (is_server by)) ∙ at_put (λ x. IsTrue ((is_server by && life.is_up x.phase) || by == host_party) → ((is_server by && false) || false) ≡ true) c.servers a new by
          (λ i h. sym (ap (λ q. (is_server by && false) || q) (ap (λ n. n == host_party) e ∙ server_no_host a server)) ∙ h) (λ n. absurd (n e)) who))
        where
          none : (b : Bool) → ((b && false) || false) ≡ false
          none true = refl
          none false = refl
      go (inr n) = (n, at_put (λ x. IsTrue ((is_server by && life.is_up x.phase) || by == host_party) → IsTrue (is_working c.servers by)) c.servers a new by (λ e. absurd (n e)) (λ m h. h) who)

  rescues : AreRescues c.servers c.flights w → AreRescues fallen_servers (left_behind a c.flights) (after w (Crash a))
  rescues old = record {
    under_way = λ by r who. let q = works by who in
        at_put (λ x. x.recovery ≡ Some r → IsRescueOf by r (rescue_left a w.rescue) ⊎ IsStuck by (left_behind a c.flights) x.failed r) c.servers a new by (λ e. absurd (q.0 e))
        (λ n e. ⊎_elim (λ g. inl (still by r q.0 g)) (λ z. inr (stuck_on by (left_behind a c.flights) c.flights (c.servers by).failed r of_those z)) (old.under_way by r q.1 e));
    known = λ r e. let l = left_is a w.rescue r e in let k = old.known r l.0 in (k.0, at_put (λ x. x.recovery ≡ Some k.0) c.servers a new r.by (λ i. absurd (l.1 i)) (λ n. k.1), k.2);
  }
    where
      those_behind : (x : ℕ × core.Flight) → ((behind a x).1.server ≡ x.1.server) × ((behind a x).1.sector ≡ x.1.sector)
      those_behind x = by_test (λ (y : ℕ × core.Flight). (y.1.server ≡ x.1.server) × (y.1.sector ≡ x.1.sector)) (x.0, record x.1 { present = false }) x (x.1.server == a) (λ e. (refl, refl)) (λ e. (refl, refl))

      of_those : AreOfThose (left_behind a c.flights) c.flights
      of_those one i = let r : FromMap (behind a) c.flights one = from_map (behind a) c.flights one (contains_in (left_behind a c.flights) one i) in
          let same = those_behind r.from in
          (r.from, in_contains c.flights r.from r.there, sym same.0 ∙ ap (λ (x : ℕ × core.Flight). x.1.server) r.is, sym same.1 ∙ ap (λ (x : ℕ × core.Flight). x.1.sector) r.is)

      still : (by : ℕ) (r : Recovery) → by ≢ a → IsRescueOf by r w.rescue → IsRescueOf by r (rescue_left a w.rescue)
      still by r n g = record {
        r = g.r;
        is = ap (rescue_left a) g.is ∙ ap (λ b. if b then None else Some g.r) (apart g.r.by (λ e. n (sym g.who ∙ e)));
        dead = g.dead;
        who = g.who;
        told = g.told;
      }
        where
          apart : (x : ℕ) → x ≢ a → nat_eq x a ≡ false
          apart x m = grind (arith, nat_tests, m)

  logged : AreLogged fallen_servers (after w (Crash a))
  logged b = at_put (λ x. IsTrue (is_all_reached x.ring) → w.last b ≤ w.acked b) c.servers a new b
      (λ e i. t.logged b (subst (λ n. IsTrue (is_all_reached (c.servers n).ring)) (sym e) i)) (λ n. t.logged b)

  -- what it has in flight stays, of an earlier mount
  pub die_keeps : AreTied (record c { servers = fallen_servers; flights = left_behind a c.flights }) disk (after w (Crash a))
  die_keeps = record {
    lives = lives;
    locks = t.locks;
    cached = cached;
    marked = marked;
    flying = λ e. flying (t.flying e);
    disk = t.disk;
    rescues = λ e. rescues (t.rescues e);
    logged = logged;
  }

-- ---- what is in flight goes with it

-- the writes of the others
fewer_flying : (segments now a : ℕ) (flights : Flights) (w u : World) → Fades a w u → ((one : ℕ × core.Flight) → Among one flights → HasNone own a u.flight one.1.sector) →
    ((one : ℕ × core.Flight) → Among one flights → HasNone own_bytes a u.byte_flight one.1.sector) → AreFlying segments now flights w →
    AreFlying segments now (lost a flights) (record w { flight = u.flight; byte_flight = u.byte_flight })
fewer_flying segments now a flights w u fades none none_bytes t = record {
  flight = λ s f e. kept s f.by f.behalf f.stamp f.block (λ one i at by. none one i f (ap u.flight at ∙ e) by) (t.flight s f (there (w.flight s) (u.flight s) f e (fades.flights s)));
  bytes = λ s f e. kept s f.by f.by f.stamp f.block (λ one i at by. none_bytes one i f (ap u.byte_flight at ∙ e) by) (t.bytes s f (there (w.byte_flight s) (u.byte_flight s) f e (fades.bytes s)));
  shown = λ one i early out. let r = from_lost a flights one (contains_in (lost a flights) one i) in
      shows one r.1 (has_version w one.1.sector) (t.shown one (in_contains flights one r.0) early out);
}
  where
    there : {X : Type 0} {P : Type 0} (old new : Option X) (f : X) → new ≡ Some f → (new ≡ old) ⊎ ((new ≡ None) × P) → old ≡ Some f
    there old new f e (inl q) = sym q ∙ e
    there old new f e (inr q) = absurd (cc (q.0, e))

    kept : (s by behalf stamp : ℕ) (block : Block) → ((one : ℕ × core.Flight) → Among one flights → one.1.sector ≡ s → by ≡ a → ⊥) → IsFlying flights s (cover w s) by behalf stamp block →
        IsFlying (lost a flights) s (cover w s) by behalf stamp block
    kept s by behalf stamp block gone x = record {
      one = x.one;
      among = in_contains (lost a flights) x.one (into_lost a flights x.one (contains_in flights x.one x.among) (differs x.one.1.server (λ e. gone x.one (contains_in flights x.one x.among) x.sector (sym x.server ∙ e))));
      sector = x.sector;
      server = x.server;
      behalf_is = x.behalf_is;
      stamp_is = x.stamp_is;
      block_is = x.block_is;
      place = x.place;
    }
      where
        differs : (n : ℕ) → (n ≡ a → ⊥) → (n == a) ≡ false
        differs n m = grind (arith, nat_tests, m)

    stays_so : {X : Type 0} (by : X → ℕ) (old new : Option X) (f : X) → (by f ≡ a → ⊥) → old ≡ Some f → (new ≡ old) ⊎ ((new ≡ None) × ((g : X) → old ≡ Some g → by g ≡ a)) → new ≡ Some f
    stays_so by old new f other e (inl q) = q ∙ e
    stays_so by old new f other e (inr q) = absurd (other (q.1 f e))

    shows : (one : ℕ × core.Flight) → (one.1.server == a) ≡ false → (v : Bool) → IsShown v one.1 (w.flight one.1.sector) (w.byte_flight one.1.sector) → IsShown v one.1 (u.flight one.1.sector) (u.byte_flight one.1.sector)
    shows one e true x = stays_so own (w.flight one.1.sector) (u.flight one.1.sector) (record { by = one.1.server; behalf = one.1.behalf; stamp = one.1.stamp; block = one.1.block }) (other one.1.server e) x (fades.flights one.1.sector)
      where
        other : (n : ℕ) → (n == a) ≡ false → n ≡ a → ⊥
        other n i j = grind (arith, nat_tests, i, j)
    shows one e false x = stays_so own_bytes (w.byte_flight one.1.sector) (u.byte_flight one.1.sector) (record { by = one.1.server; stamp = one.1.stamp; block = one.1.block }) (other one.1.server e) x (fades.bytes one.1.sector)
      where
        other : (n : ℕ) → (n == a) ≡ false → n ≡ a → ⊥
        other n i j = grind (arith, nat_tests, i, j)

-- the sectors of what is in flight
abbrev sectors_of_flights : Flights → List ℕ
sectors_of_flights flights = map (λ one. one.1.sector) flights

faded_keeps : (c : Core) (disk : Sectors) (w : World) (a : ℕ) → AreTied c disk w → (x : FadesAll a (sectors_of_flights c.flights) w) → AreTied (record c { flights = lost a c.flights }) disk x.world
faded_keeps c disk w a t x = subst (λ v. AreTied (record c { flights = lost a c.flights }) disk v) (sym x.fades.same) (record {
  lives = t.lives;
  locks = t.locks;
  cached = t.cached;
  marked = t.marked;
  flying = λ e. fewer_flying c.setting.segments c.now a c.flights w x.world x.fades (λ one i. x.none one.1.sector (into_map (λ (o : ℕ × core.Flight). o.1.sector) c.flights one i))
      (λ one i. x.none_bytes one.1.sector (into_map (λ (o : ℕ × core.Flight). o.1.sector) c.flights one i)) (t.flying e);
  disk = t.disk;
  rescues = λ e. rescues_on c.servers (lost a c.flights) c.flights (record w { flight = x.world.flight; byte_flight = x.world.byte_flight })
      (among_those (lost a c.flights) c.flights (λ one i. in_contains c.flights one (from_lost a c.flights one (contains_in (lost a c.flights) one i)).0)) (t.rescues e);
  logged = t.logged;
})

-- a write of a log left behind is on its way
sent_behind : (j : Journal) (now a b : ℕ) (flights : Flights) → AreSent j now flights b → AreSent j now (left_behind a flights) b
sent_behind j now a b flights sent one number i =
    let r : FromMap (behind a) flights one = from_map (behind a) flights one (contains_in (left_behind a flights) one i) in
    subst Told r.is (by_test Told (r.from.0, record r.from.1 { present = false }) r.from (r.from.1.server == a) (λ e. told r.from (in_contains flights r.from r.there)) (λ e. told r.from (in_contains flights r.from r.there)))
  where
    Told : ℕ × core.Flight → Type 0
    Told x = x.1.server ≡ b → x.1.purpose ≡ core.OfLog number → now ≤ x.1.stamp → IsSent j.log.flying number x.1.block

    told : (x : ℕ × core.Flight) → Contains flights x → x.1.server ≡ b → x.1.purpose ≡ core.OfLog number → now ≤ x.1.stamp → IsSent j.log.flying number x.1.block
    told x there = sent x number there

-- a journal goes on with its writes left behind
left_journal : (phase : life.Phase) (ring : Ring) (now a : ℕ) (flights : Flights) (disk : Sectors) (log : SectorLog) (b : ℕ) (j : Journal) → IsJournal phase ring now flights disk log b j →
    IsJournal phase ring now (left_behind a flights) disk log b j
left_journal phase ring now a flights disk log b j g = record {
  good = g.good;
  ring_is = g.ring_is;
  slots = g.slots;
  counted = g.counted;
  sent = sent_behind j now a b flights g.sent;
  records = g.records;
}

left_log : (phase : life.Phase) (ring : Ring) (now a : ℕ) (flights : Flights) (disk : Sectors) (log : SectorLog) (b : ℕ) (j : Journal) → IsLogOf phase ring now flights disk log b j →
    IsLogOf phase ring now (left_behind a flights) disk log b j
left_log life.Off ring now a flights disk log b j g = g
left_log life.Up ring now a flights disk log b j g = left_journal life.Up ring now a flights disk log b j g
left_log life.Still ring now a flights disk log b j g = left_journal life.Still ring now a flights disk log b j g
left_log (life.Doomed fate) ring now a flights disk log b j g = left_journal (life.Doomed fate) ring now a flights disk log b j g
left_log life.Dead ring now a flights disk log b j g = left_journal life.Dead ring now a flights disk log b j g

-- that of a doomed server becomes a dead one's
fallen_journal : (fate : Fate) (ring : Ring) (now : ℕ) (flights : Flights) (disk : Sectors) (log : SectorLog) (a : ℕ) (j : Journal) → IsJournal (life.Doomed fate) ring now flights disk log a j →
    IsJournal life.Dead ring now flights disk log a j
fallen_journal fate ring now flights disk log a j g = record {
  good = g.good;
  ring_is = g.ring_is;
  slots = λ slot below. inl (g.slots slot below);
  counted = g.counted;
  sent = g.sent;
  records = g.records;
}

-- and with fewer writes
fewer_journal : (phase : life.Phase) (ring : Ring) (now a : ℕ) (flights : Flights) (disk : Sectors) (log : SectorLog) (b : ℕ) (j : Journal) → IsJournal phase ring now flights disk log b j →
    IsJournal phase ring now (lost a flights) disk log b j
fewer_journal phase ring now a flights disk log b j g = record {
  good = g.good;
  ring_is = g.ring_is;
  slots = g.slots;
  counted = g.counted;
  sent = λ one number i. g.sent one number (in_contains flights one (from_lost a flights one (contains_in (lost a flights) one i)).0);
  records = g.records;
}

fewer_log : (phase : life.Phase) (ring : Ring) (now a : ℕ) (flights : Flights) (disk : Sectors) (log : SectorLog) (b : ℕ) (j : Journal) → IsLogOf phase ring now flights disk log b j →
    IsLogOf phase ring now (lost a flights) disk log b j
fewer_log life.Off ring now a flights disk log b j g = g
fewer_log life.Up ring now a flights disk log b j g = fewer_journal life.Up ring now a flights disk log b j g
fewer_log life.Still ring now a flights disk log b j g = fewer_journal life.Still ring now a flights disk log b j g
fewer_log (life.Doomed fate) ring now a flights disk log b j g = fewer_journal (life.Doomed fate) ring now a flights disk log b j g
fewer_log life.Dead ring now a flights disk log b j g = fewer_journal life.Dead ring now a flights disk log b j g

fewer_journals : (servers : ℕ → Server) (now a : ℕ) (flights : Flights) (disk : Sectors) (w : World) (journal : ℕ → Journal) → AreJournals servers now flights disk w journal →
    AreJournals servers now (lost a flights) disk w journal
fewer_journals servers now a flights disk w journal j b who = fewer_log (servers b).phase (servers b).ring now a flights disk (sector_log w b) b (journal b) (j b who)

module _ (c : Core) (disk : Sectors) (w : World) (a : ℕ) (fate : Fate) (doomed : (c.servers a).phase ≡ life.Doomed fate) (journal : ℕ → Journal)
    (j : AreJournals c.servers c.now c.flights disk w journal) where
  pub die_journals : AreJournals (put c.servers a (died_with fate (c.servers a))) c.now (left_behind a c.flights) disk w journal
  die_journals b who =
      at_put (λ x. IsLogOf x.phase x.ring c.now (left_behind a c.flights) disk (sector_log w b) b (journal b)) c.servers a (died_with fate (c.servers a)) b
      (λ e. left_log life.Dead (c.servers a).ring c.now a c.flights disk (sector_log w b) b (journal b) (fallen_journal fate (c.servers a).ring c.now c.flights disk (sector_log w b) b (journal b) (own e)))
      (λ n. left_log (c.servers b).phase (c.servers b).ring c.now a c.flights disk (sector_log w b) b (journal b) (j b who))
    where
      own : b ≡ a → IsJournal (life.Doomed fate) (c.servers a).ring c.now c.flights disk (sector_log w b) b (journal b)
      own e = subst (λ p. IsLogOf p (c.servers a).ring c.now c.flights disk (sector_log w b) b (journal b)) doomed
          (subst (λ n. IsLogOf (c.servers n).phase (c.servers n).ring c.now c.flights disk (sector_log w b) b (journal b)) e (j b who))

put_other_recovery : (c : Core) (a : ℕ) (fate : Fate) (by : ℕ) → by ≢ a → (put c.servers a (died_with fate (c.servers a)) by).recovery ≡ (c.servers by).recovery
put_other_recovery c a fate by n = ap (λ x. x.recovery) (put_other c.servers a (died_with fate (c.servers a)) by n)

module _ (s : RunMoment) (w : World) (journal : ℕ → Journal) (a : ℕ) (fate : Fate) (t : IsWorldOf s w journal) (doomed : (s.core.servers a).phase ≡ life.Doomed fate) (server : IsTrue (is_server a)) where
  abbrev servers_left : ℕ → Server
  servers_left = put s.core.servers a (died_with fate (s.core.servers a))

  abbrev crashed : World
  crashed = after w (Crash a)

  -- the moment, with these writes in flight
  abbrev left_with : Flights → RunMoment
  left_with flights = record (next s (core_events.Die a) Nothing) { core = record s.core { servers = servers_left; flights = flights } }

  crash : w.phase a ≡ Up
  crash = die_guard s.core s.disk w a fate t.tied doomed

  readings_left : AreReadings s.core.setting.segments servers_left crashed
  readings_left by recovery who e = let q = works s.core s.disk w a fate t.tied server by who in t.readings by recovery q.1 (sym (put_other_recovery s.core a fate by q.0) ∙ e)

  journals_left : AreJournals servers_left s.core.now (left_behind a s.core.flights) s.disk w journal
  journals_left = die_journals s.core s.disk w a fate doomed journal t.journals

  -- what it has in flight stays
  pub stays_behind : LeadsQuietly w (left_with (left_behind a s.core.flights)) journal
  stays_behind = record {
    leads = record {
      events = Crash a ∷ [];
      world = crashed;
      run = goes crash stays;
      is = record { tied = die_keeps s.core s.disk w a fate t.tied server; journals = journals_left; readings = readings_left };
    };
    story = record { servers = refl; opening = refl; logged = refl; first = refl; home = refl; history = refl };
    quiet = (tt, tt);
  }

  -- or it fades
  pub goes_with : LeadsQuietly w (left_with (lost a s.core.flights)) journal
  goes_with = subst (λ flights. LeadsQuietly w (left_with flights) journal) (lost_left a s.core.flights) (record {
    leads = record {
      events = Crash a ∷ x.events;
      world = x.world;
      run = goes crash x.run;
      is = record {
        tied = faded_keeps (record s.core { servers = servers_left; flights = left_behind a s.core.flights }) s.disk crashed a (die_keeps s.core s.disk w a fate t.tied server) x;
        journals = subst (λ v. AreJournals servers_left s.core.now (lost a (left_behind a s.core.flights)) s.disk v journal) (sym x.fades.same)
            (fewer_journals servers_left s.core.now a (left_behind a s.core.flights) s.disk w journal journals_left);
        readings = subst (λ v. AreReadings s.core.setting.segments servers_left v) (sym x.fades.same) readings_left;
      };
    };
    story = record {
      servers = ap (λ v. v.servers) x.fades.same;
      opening = ap (λ v. v.opening) x.fades.same;
      logged = ap (λ v. v.logged) x.fades.same;
      first = ap (λ v. v.first) x.fades.same;
      home = ap (λ v. v.home) x.fades.same;
      history = ap (λ v. v.history) x.fades.same;
    };
    quiet = (tt, x.quiet s.core.setting.segments);
  })
    where
      x : FadesAll a (sectors_of_flights (left_behind a s.core.flights)) crashed
      x = all_fade a (sectors_of_flights (left_behind a s.core.flights)) crashed (put_same w.phase a Dead)

pub deaths : DeathsAreEvents
deaths s w journal a fate r t doomed makes = subst (λ p. LeadsQuietly w (fallen p) journal) (sym doomed) (go fate.loses refl)
  where
    fallen : life.Phase → RunMoment
    fallen p = record (next s (core_events.Die a) Nothing) { core = died_in s.core a p }

    server : IsTrue (is_server a)
    server = makes.can.can.server

    go : (loses : Bool) → fate.loses ≡ loses → LeadsQuietly w (left_with s w journal a fate t doomed server (if fate.loses then lost a s.core.flights else left_behind a s.core.flights)) journal
    go true e = subst (λ b. LeadsQuietly w (left_with s w journal a fate t doomed server (if b then lost a s.core.flights else left_behind a s.core.flights)) journal) (sym e) (goes_with s w journal a fate t doomed server)
    go false e = subst (λ b. LeadsQuietly w (left_with s w journal a fate t doomed server (if b then lost a s.core.flights else left_behind a s.core.flights)) journal) (sym e) (stays_behind s w journal a fate t doomed server)

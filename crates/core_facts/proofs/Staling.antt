-- Over every run: a write of an earlier mount is late where its server isn't Dead, and none has a later stamp than its server's lease. Step by step, beside the leases of who is recovered.
use Rattle.std.proofs.Common.{◌≡◌, ℕ, ◌≤◌, ◌<◌, ◌⊎◌, inl, inr, ⊎_elim, Bool, true, false, ◌&&◌, ◌||◌, ◌==◌, ◌+◌, ◌-◌, ◌%◌, if◌then◌else◌, IsTrue, [], ◌∷◌, ◌++◌, Option, Some, None, nat_lt, refl, sym, ap, ◌∙◌, subst, arith}
use Rattle.std.proofs.Math.Nat.{le_refl}
use Rattle.std.proofs.lemmas.Bool.{false≢true, and_parts, both_ways, ltb-true}
use Rattle.std.proofs.lemmas.Bool.Decides.{nat_tests}
use Rattle.std.proofs.lemmas.Option.{same_Some, none-some}
use Rattle.std.specs.List.{Contains}
use Rattle.std.specs.Option.{option_map}
use Rattle.frang_base.specs.Functions.{put}
use Rattle.frang_base.proofs.Basics.{at_put}
use Rattle.lock_definitions.specs.Lease.{HasEnded, write_stamp_of}
use Rattle.lock_definitions.specs.Locks.{log_hold}
use Rattle.sector_bytes.specs.Blocks.{Block}
use Rattle.sector_bytes.specs.SectorMaps.{without}
use Rattle.sector_bytes.specs.Sectors.{Sectors}
use Rattle.core_definitions.specs.Flights.{Flight, Flights, InPlace, OfLog, OfRecovery, Purpose, each_of_server, left_behind, lost}
use Rattle.core_definitions.specs.Plans.{Outcome}
use Rattle.core_definitions.specs.Recoveries.{Recovery, recovery_of}
use Rattle.core_definitions.specs.Scripts.{host_party}
use Rattle.core_definitions.specs.Servers.{Doomed, Fate, Server, is_dead, is_still, is_up, wanting_all, wanting_all_up}
use Rattle.core_definitions.specs.Settings.{Setting, lease_to}
use Rattle.core_definitions.specs.Writes.{Write, comes_clean}
use Rattle.core_definitions.specs.Cores.{stamp_of}
use Rattle.core_definitions.specs.LineGuards.{is_server}
use Rattle.core_definitions.specs.LineEffects.{failed_by, flight_after, off_after, purpose_after, up_after}
use Rattle.core_definitions.specs.WriteGuards.{is_worker}
use Rattle.core_definitions.specs.EndGuards.{CanRecover, is_hold_over}
use Rattle.core_definitions.specs.WriteEffects.{acknowledged, acknowledged_for, clean_now, died_with, flight_of, flights_at_death}
use Rattle.core_definitions.specs.EndEffects.{recovered}
use Rattle.core_definitions.specs.Runs.{State, Run, first_state}
use Rattle.core_facts.proofs.Phases.{doomed_mounted, host_works, mounted_dead_not, off_dead_not}
use Rattle.core_facts.proofs.Turns.{Work, work_of, at_server, failed_at, Turn, Rests, Stays, Lines, Caches, Reclaims, Clears, Commits, Mounts, Leaves, Arms, Stalls, Settles, Asks, Lowers, Releases, Relocks, Wants, Issues, Fades, Lands, Drifts, Breaks, Fails, Dooms, Resumes, Dies, Renews, Ticks, Recovers, Loads, Looks, Finishes, Halts, step_turn}
use Rattle.core_facts.specs.Stamps.{InTimeAreFresh}
use Rattle.core_laws.proofs.Along.{along}
use Rattle.core_laws.proofs.Ashore.{acknowledged_phase}
use Rattle.core_laws.proofs.FlightLists.{AllFlights, all_changed, all_flights, all_joined, all_landed, all_lost, in_flights}
use Rattle.core_laws.proofs.Guarding.{Of4, of_4}
use Rattle.core_laws.proofs.Kept.{setting_of_run}
use Rattle.core_laws.specs.Leases.{LeasesEnd}
use Rattle.core_laws.proofs.Membership.{contains_in}
use Rattle.core_laws.proofs.Memory.{Safe, dead_of, still_dead_not, up_dead_not, works}
use Rattle.core_laws.proofs.Resting.{good_of_run, server_no_host}

-- ---- writes in flight

-- no later stamp than its server's lease
abbrev Within : (ℕ → Server) → Flight → Type 0
Within servers f = (f.server == host_party) ≡ false → f.stamp ≤ (servers f.server).expiry

-- of an earlier mount only where its server is Dead, or it is late
abbrev Aged : ℕ → (ℕ → Server) → Flight → Type 0
Aged now servers f = f.present ≡ false → IsTrue (is_dead (servers f.server).phase) ⊎ (f.stamp < now)

pub all_mapped : (P Q : Flight → Type 0) → ((f : Flight) → P f → Q f) → (flights : Flights) → AllFlights P flights → AllFlights Q flights
all_mapped P Q keeps flights all = all_flights Q flights (λ one i. keeps one.1 (in_flights P flights one i all))

-- these are of those, but for what they are of
abbrev AreOf : Flights → Flights → Type 1
AreOf old new = (P : Flight → Type 0) → ((f : Flight) (purpose : Purpose) → P f → P (record f { purpose = purpose })) → AllFlights P old → AllFlights P new

same_flights : (flights : Flights) → AreOf flights flights
same_flights flights P keeps all = all

moved_flights : (a : ℕ) (outcome : Outcome) (flights : Flights) → AreOf flights (each_of_server a (flight_after outcome) flights)
moved_flights a outcome flights P keeps all = all_changed P a (flight_after outcome) (λ f h. go f h f.present) flights all
  where
    go : (f : Flight) → P f → (b : Bool) → P (if b then record f { purpose = purpose_after outcome f.sector f.purpose } else f)
    go f h true = keeps f (purpose_after outcome f.sector f.purpose) h
    go f h false = h

landed_flights : (ticket : ℕ) (flights : Flights) → AreOf flights (without flights ticket)
landed_flights ticket flights P keeps all = all_landed P ticket flights all

-- ---- servers

-- a lease that doesn't fall, who is Dead stays so under it, and a recovery of a server at work was one before
record Onward (i : ℕ) (old new : Server) : Type 0 where
  expiry : old.expiry ≤ new.expiry
  dead : IsTrue (is_dead old.phase) → IsTrue (is_dead new.phase)
  over : IsTrue (is_dead old.phase) → new.expiry ≡ old.expiry
  saves : (d : ℕ) → IsTrue (works i new) → dead_of new.recovery ≡ Some d → IsTrue (works i old) × (dead_of old.recovery ≡ Some d)

same_expiry : (x y : ℕ) → y ≡ x → x ≤ y
same_expiry x y e = omega (arith, e)

steady : (i : ℕ) (old new : Server) → new.phase ≡ old.phase → new.expiry ≡ old.expiry → dead_of new.recovery ≡ dead_of old.recovery → Onward i old new
steady i old new p e r = record {
  expiry = same_expiry old.expiry new.expiry e;
  dead = λ h. ap is_dead p ∙ h;
  over = λ h. e;
  saves = λ d w f. (ap (λ q. (is_server i && is_up q) || i == host_party) (sym p) ∙ w, sym r ∙ f);
}

self : (i : ℕ) (server : Server) → Onward i server server
self i server = steady i server server refl refl refl

-- it isn't Dead, and has no recovery then
fresh : (i : ℕ) (old new : Server) → is_dead old.phase ≡ false → old.expiry ≤ new.expiry → new.recovery ≡ None → Onward i old new
fresh i old new n e r = record {
  expiry = e;
  dead = λ h. absurd (both_ways (is_dead old.phase) n h);
  over = λ h. absurd (both_ways (is_dead old.phase) n h);
  saves = λ d w f. absurd (none-some d (sym (ap dead_of r) ∙ f));
}

-- it isn't Dead, and isn't Up then
leaving : (i : ℕ) (old new : Server) → is_dead old.phase ≡ false → is_up new.phase ≡ false → new.expiry ≡ old.expiry → new.recovery ≡ old.recovery → Onward i old new
leaving i old new n u e r = record {
  expiry = same_expiry old.expiry new.expiry e;
  dead = λ h. absurd (both_ways (is_dead old.phase) n h);
  over = λ h. absurd (both_ways (is_dead old.phase) n h);
  saves = λ d w f. (host_works (is_server i) (is_up new.phase) (is_up old.phase) (i == host_party) u w, sym (ap dead_of r) ∙ f);
}

one_server : (servers : ℕ → Server) (a : ℕ) (new : Server) → Onward a (servers a) new → (i : ℕ) → Onward i (servers i) (put servers a new i)
one_server servers a new h i = at_put (λ x. Onward i (servers i) x) servers a new i (λ e. subst (λ k. Onward k (servers k) new) (sym e) h) (λ n. self i (servers i))

failed_servers : (servers : ℕ → Server) (a i : ℕ) → Onward i (servers i) (failed_at servers a i)
failed_servers servers a i = go (a == host_party)
  where
    go : (b : Bool) → Onward i (servers i) ((if b then servers else put servers a (failed_by (servers a))) i)
    go true = self i (servers i)
    go false = one_server servers a _ (steady a (servers a) (failed_by (servers a)) refl refl refl) i

-- ---- what is kept

record Stamped (w : Work) : Type 0 where
  within : AllFlights (Within w.servers) w.flights
  aged : AllFlights (Aged w.now w.servers) w.flights
  over : (by d : ℕ) → IsTrue (works by (w.servers by)) → dead_of (w.servers by).recovery ≡ Some d → (w.servers d).expiry < w.now

-- what is known of the state before a step
record Known (s : State) : Type 0 where
  safe : Safe s.core.servers
  most : (a : ℕ) → (s.core.servers a).expiry ≤ lease_to s.core.setting s.core.now

then_at_most : (x y z : ℕ) → x ≤ y → y ≤ z → x ≤ z
then_at_most x y z h i = omega (arith, h, i)

then_below : (x y z : ℕ) → x < y → y ≤ z → x < z
then_below x y z h i = omega (arith, h, i)

up_to_below : (x y z : ℕ) → x ≤ y → y < z → x < z
up_to_below x y z h i = omega (arith, h, i)

module _ (s : State) (k : Known s) (m : Stamped (work_of s)) where
  within_by : (servers : ℕ → Server) → ((i : ℕ) → (s.core.servers i).expiry ≤ (servers i).expiry) → AllFlights (Within servers) s.core.flights
  within_by servers rises =
      all_mapped (Within s.core.servers) (Within servers)
      (λ f h away. then_at_most f.stamp (s.core.servers f.server).expiry (servers f.server).expiry (h away) (rises f.server)) s.core.flights m.within

  aged_by : (now : ℕ) (servers : ℕ → Server) → s.core.now ≤ now →
      ((i : ℕ) → IsTrue (is_dead (s.core.servers i).phase) → IsTrue (is_dead (servers i).phase)) → AllFlights (Aged now servers) s.core.flights
  aged_by now servers later dead =
      all_mapped (Aged s.core.now s.core.servers) (Aged now servers)
      (λ f h p. ⊎_elim (λ d. inl (dead f.server d)) (λ l. inr (then_below f.stamp s.core.now now l later)) (h p)) s.core.flights m.aged

  over_by : (now : ℕ) (servers : ℕ → Server) → s.core.now ≤ now → ((i : ℕ) → Onward i (s.core.servers i) (servers i)) → (by d : ℕ) → IsTrue (works by (servers by)) →
      dead_of (servers by).recovery ≡ Some d → (servers d).expiry < now
  over_by now servers later on by d w e =
      let o : IsTrue (works by (s.core.servers by)) × (dead_of (s.core.servers by).recovery ≡ Some d) = (on by).saves d w e in
      subst (λ n. n < now) (sym ((on d).over (k.safe.saved by d o.0 o.1).0)) (then_below (s.core.servers d).expiry s.core.now now (m.over by d o.0 o.1) later)

  -- servers go on, and the writes are of those before
  goes_on : (w : Work) → s.core.now ≤ w.now → ((i : ℕ) → Onward i (s.core.servers i) (w.servers i)) → AreOf s.core.flights w.flights → Stamped w
  goes_on w later on are = record {
    within = are (Within w.servers) (λ f purpose h. h) (within_by w.servers (λ i. (on i).expiry));
    aged = are (Aged w.now w.servers) (λ f purpose h. h) (aged_by w.now w.servers later (λ i. (on i).dead));
    over = over_by w.now w.servers later on;
  }

  -- one server goes on
  one_goes_on : (w : Work) (a : ℕ) (new : Server) → w.now ≡ s.core.now → w.servers ≡ put s.core.servers a new → Onward a (s.core.servers a) new → AreOf s.core.flights w.flights → Stamped w
  one_goes_on w a new now servers on are =
      goes_on w (same_expiry s.core.now w.now now) (λ i. subst (λ f. Onward i (s.core.servers i) (f i)) (sym servers) (one_server s.core.servers a new on i)) are

  -- none does
  calm : (w : Work) → w.now ≡ s.core.now → w.servers ≡ s.core.servers → AreOf s.core.flights w.flights → Stamped w
  calm w now servers are =
      goes_on w (same_expiry s.core.now w.now now) (λ i. subst (λ f. Onward i (s.core.servers i) (f i)) (sym servers) (self i (s.core.servers i))) are

-- ---- an acknowledged write, and a flush

pub acknowledged_expiry : (sector : ℕ) (block : Block) (purpose : Purpose) (server : Server) → (acknowledged sector block purpose server).expiry ≡ server.expiry
acknowledged_expiry sector block (OfLog number) server = refl
acknowledged_expiry sector block OfRecovery server = refl
acknowledged_expiry sector block (InPlace cover) server = go (comes_clean server sector block)
  where
    go : (b : Bool) → (if b then clean_now sector server else server).expiry ≡ server.expiry
    go true = refl
    go false = refl

pub acknowledged_dead : (sector : ℕ) (block : Block) (purpose : Purpose) (server : Server) → dead_of (acknowledged sector block purpose server).recovery ≡ dead_of server.recovery
acknowledged_dead sector block (OfLog number) server = refl
acknowledged_dead sector block OfRecovery server = go server.recovery
  where
    go : (r : Option Recovery) → dead_of (option_map (acknowledged_for sector) r) ≡ dead_of r
    go None = refl
    go (Some r) = refl
acknowledged_dead sector block (InPlace cover) server = go (comes_clean server sector block)
  where
    go : (b : Bool) → dead_of (if b then clean_now sector server else server).recovery ≡ dead_of server.recovery
    go true = refl
    go false = refl

acknowledged_onward : (i sector : ℕ) (block : Block) (purpose : Purpose) (server : Server) → Onward i server (acknowledged sector block purpose server)
acknowledged_onward i sector block purpose server =
    steady i server _ (acknowledged_phase sector block purpose server) (acknowledged_expiry sector block purpose server) (acknowledged_dead sector block purpose server)

flushed_onward : (i : ℕ) (test : Bool) (server : Server) → Onward i server (if test then wanting_all_up server else server)
flushed_onward i false server = self i server
flushed_onward i true server = go (is_up server.phase)
  where
    go : (b : Bool) → Onward i server (if b then wanting_all server else server)
    go true = steady i server (wanting_all server) refl refl refl
    go false = self i server

-- ---- steps of which one part is new

next_moment : (n : ℕ) → n ≤ n + 1
next_moment n = omega arith

-- a write that is issued is of the present mount, under its server's lease
issued_stamped : (s : State) (a sector : ℕ) (write : Write) (servers : ℕ → Server) (w : Work) → w.now ≡ s.core.now → w.servers ≡ servers →
    w.flights ≡ s.core.flights ++ (s.core.tickets, flight_of s.core a sector write) ∷ [] → (servers a).expiry ≡ (s.core.servers a).expiry →
    ((base : Work) → base.now ≡ s.core.now → base.servers ≡ servers → base.flights ≡ s.core.flights → Stamped base) → Stamped w
issued_stamped s a sector write servers w now are flights same before = record {
  within = subst (AllFlights (Within w.servers)) (sym flights) (all_joined (Within w.servers) (s.core.tickets, flight_of s.core a sector write) s.core.flights here base.within);
  aged = subst (AllFlights (Aged w.now w.servers)) (sym flights) (all_joined (Aged w.now w.servers) (s.core.tickets, flight_of s.core a sector write) s.core.flights (λ p. absurd (false≢true (sym p))) base.aged);
  over = base.over;
}
  where
    base : Stamped (record w { flights = s.core.flights })
    base = before (record w { flights = s.core.flights }) now are refl

    least : (n margin : ℕ) → n - margin ≤ n
    least n margin = omega arith

    here : Within w.servers (flight_of s.core a sector write)
    here away =
        subst (λ f. stamp_of s.core a ≤ (f a).expiry) (sym are)
        (subst (λ n. stamp_of s.core a ≤ n) (sym same)
        (subst (λ n. write_stamp_of s.core.setting.margin_ticks n ≤ (s.core.servers a).expiry) (sym (ap (λ b. if b then lease_to s.core.setting s.core.now else (s.core.servers a).expiry) away))
        (least (s.core.servers a).expiry s.core.setting.margin_ticks)))

-- who dies leaves its writes behind, or they go with it
module _ (s : State) (a : ℕ) (fate : Fate) (p : (s.core.servers a).phase ≡ Doomed fate) (k : Known s) (m : Stamped (work_of s)) where
  abbrev corpse : Server
  corpse = died_with fate (s.core.servers a)

  abbrev left : ℕ → Server
  left = put s.core.servers a corpse

  dies_onward : (i : ℕ) → Onward i (s.core.servers i) (left i)
  dies_onward i = one_server s.core.servers a corpse (fresh a (s.core.servers a) corpse (ap is_dead p) (le_refl (s.core.servers a).expiry) refl) i

  is_dead_then : (i : ℕ) → (i == a) ≡ true → IsTrue (is_dead (left i).phase)
  is_dead_then i e = at_put (λ x. IsTrue (is_dead x.phase)) s.core.servers a corpse i (λ f. refl) (λ n. absurd (n (same i e)))
    where
      same : (i : ℕ) → (i == a) ≡ true → i ≡ a
      same i e = grind (arith, nat_tests, e)

  within_then : (flights : Flights) → AllFlights (Within left) flights → (loses : Bool) → AllFlights (Within left) (if loses then lost a flights else left_behind a flights)
  within_then flights all true = all_lost (Within left) a flights all
  within_then flights all false = all_changed (Within left) a (λ flight. record flight { present = false }) (λ f h. h) flights all

  -- of its own each is of an earlier mount of a Dead server
  behind : (flights : Flights) → AllFlights (Aged s.core.now left) flights → AllFlights (Aged s.core.now left) (left_behind a flights)
  behind [] all = tt
  behind (one ∷ others) all = (go (one.1.server == a) refl, behind others all.1)
    where
      go : (b : Bool) → (one.1.server == a) ≡ b → Aged s.core.now left (if b then (one.0, record one.1 { present = false }) else one).1
      go true e q = inl (is_dead_then one.1.server e)
      go false e q = all.0 q

  aged_then : (loses : Bool) → AllFlights (Aged s.core.now left) (if loses then lost a s.core.flights else left_behind a s.core.flights)
  aged_then true = all_lost (Aged s.core.now left) a s.core.flights (aged_by s k m s.core.now left (le_refl s.core.now) (λ i. (dies_onward i).dead))
  aged_then false = behind s.core.flights (aged_by s k m s.core.now left (le_refl s.core.now) (λ i. (dies_onward i).dead))

  died_stamped : Stamped (record (at_server s a corpse) { flights = flights_at_death fate a s.core.flights })
  died_stamped = record {
    within = within_then s.core.flights (within_by s k m left (λ i. (dies_onward i).expiry)) fate.loses;
    aged = aged_then fate.loses;
    over = over_by s k m s.core.now left (le_refl s.core.now) dies_onward;
  }

-- who is recovered from now on has its lease over
module _ (s : State) (dead by : ℕ) (can : CanRecover s.core dead by) (k : Known s) (m : Stamped (work_of s)) where
  abbrev taker : Server
  taker = record (s.core.servers by) { recovery = Some (recovery_of dead) }

  abbrev with_taker : ℕ → Server
  with_taker = put s.core.servers by taker

  waits : Of4 (is_server dead) (is_dead (s.core.servers dead).phase) (nat_lt (s.core.servers dead).expiry s.core.now) (is_hold_over s.core.now (log_hold s.core.locks dead))
  waits = of_4 (is_server dead) (is_dead (s.core.servers dead).phase) (nat_lt (s.core.servers dead).expiry s.core.now) (is_hold_over s.core.now (log_hold s.core.locks dead)) can.waits

  taker_expiry : (i : ℕ) → (with_taker i).expiry ≡ (s.core.servers i).expiry
  taker_expiry i = at_put (λ x. x.expiry ≡ (s.core.servers i).expiry) s.core.servers by taker i (λ e. ap (λ n. (s.core.servers n).expiry) (sym e)) (λ n. refl)

  taker_dead : (i : ℕ) → IsTrue (is_dead (s.core.servers i).phase) → IsTrue (is_dead (with_taker i).phase)
  taker_dead i d = at_put (λ x. IsTrue (is_dead x.phase)) s.core.servers by taker i (λ e. subst (λ n. IsTrue (is_dead (s.core.servers n).phase)) e d) (λ n. d)

  over_then : (i d : ℕ) → IsTrue (works i (with_taker i)) → dead_of (with_taker i).recovery ≡ Some d → (with_taker d).expiry < s.core.now
  over_then i d w e =
      subst (λ n. n < s.core.now) (sym (taker_expiry d))
      (at_put (λ x. IsTrue (works i x) → dead_of x.recovery ≡ Some d → (s.core.servers d).expiry < s.core.now) s.core.servers by taker i
      (λ same w e. subst (λ n. (s.core.servers n).expiry < s.core.now) (same_Some dead d e) (ltb-true (s.core.servers dead).expiry s.core.now waits.p2))
      (λ apart w e. m.over i d w e) w e)

  recover_stamped : (w : Work) → w.now ≡ s.core.now → w.servers ≡ with_taker → w.flights ≡ s.core.flights → Stamped w
  recover_stamped w now servers flights = record {
    within = subst (λ fs. AllFlights (Within w.servers) fs) (sym flights)
        (within_by s k m w.servers (λ i. same_expiry (s.core.servers i).expiry (w.servers i).expiry (ap (λ f. (f i).expiry) servers ∙ taker_expiry i)));
    aged = subst (λ fs. AllFlights (Aged w.now w.servers) fs) (sym flights)
        (aged_by s k m w.now w.servers (same_expiry s.core.now w.now now) (λ i d. subst (λ f. IsTrue (is_dead (f i).phase)) (sym servers) (taker_dead i d)));
    over = λ i d. subst (λ n. IsTrue (works i (w.servers i)) → dead_of (w.servers i).recovery ≡ Some d → (w.servers d).expiry < n) (sym now)
        (subst (λ f. IsTrue (works i (f i)) → dead_of (f i).recovery ≡ Some d → (f d).expiry < s.core.now) (sym servers) (over_then i d));
  }

-- who is recovered is Off then, and its writes are late
module _ (s : State) (by : ℕ) (recovery : Recovery) (who : IsTrue (is_worker s.core by)) (has : (s.core.servers by).recovery ≡ Some recovery) (k : Known s) (m : Stamped (work_of s)) where
  abbrev rid : ℕ → Server
  rid = put s.core.servers by (record (s.core.servers by) { recovery = None })

  abbrev settled : ℕ → Server
  settled = put rid recovery.dead (recovered (s.core.servers recovery.dead))

  rid_at : (P : Server → Type 0) → ((x : Server) → P x → P (record x { recovery = None })) → (i : ℕ) → P (s.core.servers i) → P (rid i)
  rid_at P keeps i h = at_put P s.core.servers by _ i (λ e. keeps (s.core.servers by) (subst (λ n. P (s.core.servers n)) e h)) (λ n. h)

  settled_expiry : (i : ℕ) → (settled i).expiry ≡ (s.core.servers i).expiry
  settled_expiry i =
      at_put (λ x. x.expiry ≡ (s.core.servers i).expiry) rid recovery.dead (recovered (s.core.servers recovery.dead)) i (λ e. ap (λ n. (s.core.servers n).expiry) (sym e))
      (λ n. rid_at (λ x. x.expiry ≡ (s.core.servers i).expiry) (λ x h. h) i refl)

  was_over : (s.core.servers recovery.dead).expiry < s.core.now
  was_over = m.over by recovery.dead who (ap dead_of has)

  no_host : (recovery.dead == host_party) ≡ false
  no_host = server_no_host recovery.dead (k.safe.saved by recovery.dead who (ap dead_of has)).1

  -- a write of the one that was Dead
  aged_at : (f : Flight) → Within s.core.servers f → Aged s.core.now s.core.servers f → Aged s.core.now settled f
  aged_at f within aged p =
      at_put (λ x. IsTrue (is_dead x.phase) ⊎ (f.stamp < s.core.now)) rid recovery.dead (recovered (s.core.servers recovery.dead)) f.server
      (λ e. inr (up_to_below f.stamp (s.core.servers f.server).expiry s.core.now (within (ap (λ n. n == host_party) e ∙ no_host)) (subst (λ n. (s.core.servers n).expiry < s.core.now) (sym e) was_over)))
      (λ n. ⊎_elim (λ d. inl (rid_at (λ x. IsTrue (is_dead x.phase)) (λ x h. h) f.server d)) (λ l. inr l) (aged p))

  -- a recovery at work was one before
  settled_saves : (i d : ℕ) → IsTrue (works i (settled i)) → dead_of (settled i).recovery ≡ Some d → IsTrue (works i (s.core.servers i)) × (dead_of (s.core.servers i).recovery ≡ Some d)
  settled_saves i d =
      at_put (λ x. IsTrue (works i x) → dead_of x.recovery ≡ Some d → IsTrue (works i (s.core.servers i)) × (dead_of (s.core.servers i).recovery ≡ Some d)) rid recovery.dead (recovered (s.core.servers recovery.dead)) i
      (λ e w f. (host_works (is_server i) false (is_up (s.core.servers i).phase) (i == host_party) refl w, subst (λ n. dead_of (s.core.servers n).recovery ≡ Some d) (sym e) f))
      (λ n. at_put (λ x. IsTrue (works i x) → dead_of x.recovery ≡ Some d → IsTrue (works i (s.core.servers i)) × (dead_of (s.core.servers i).recovery ≡ Some d)) s.core.servers by (record (s.core.servers by) { recovery = None }) i
      (λ e w f. absurd (none-some d f)) (λ n w f. (w, f)))

  finish_stamped : (w : Work) → w.now ≡ s.core.now → w.servers ≡ settled → w.flights ≡ s.core.flights → Stamped w
  finish_stamped w now servers flights = record {
    within = subst (λ fs. AllFlights (Within w.servers) fs) (sym flights)
        (within_by s k m w.servers (λ i. same_expiry (s.core.servers i).expiry (w.servers i).expiry (ap (λ f. (f i).expiry) servers ∙ settled_expiry i)));
    aged = subst (λ fs. AllFlights (Aged w.now w.servers) fs) (sym flights)
        (subst (λ n. AllFlights (Aged n w.servers) s.core.flights) (sym now)
        (subst (λ f. AllFlights (Aged s.core.now f) s.core.flights) (sym servers)
        (all_flights (Aged s.core.now settled) s.core.flights
        (λ one i. aged_at one.1 (in_flights (Within s.core.servers) s.core.flights one i m.within) (in_flights (Aged s.core.now s.core.servers) s.core.flights one i m.aged)))));
    over = λ i d. subst (λ n. IsTrue (works i (w.servers i)) → dead_of (w.servers i).recovery ≡ Some d → (w.servers d).expiry < n) (sym now)
        (subst (λ f. IsTrue (works i (f i)) → dead_of (f i).recovery ≡ Some d → (f d).expiry < s.core.now) (sym servers)
        (λ w e. let o : IsTrue (works i (s.core.servers i)) × (dead_of (s.core.servers i).recovery ≡ Some d) = settled_saves i d w e in
        subst (λ n. n < s.core.now) (sym (settled_expiry d)) (m.over i d o.0 o.1)));
  }

-- ---- each step

stamped_turn : (s : State) (w : Work) → Turn s w → Known s → Stamped (work_of s) → Stamped w
stamped_turn s w Rests k m = m
stamped_turn s w (Stays a) k m = one_goes_on s k m _ a _ refl refl (self a (s.core.servers a)) (same_flights s.core.flights)
stamped_turn s w (Lines a under server step) k m = one_goes_on s k m _ a _ refl refl (steady a _ _ refl refl refl) (same_flights s.core.flights)
stamped_turn s w (Caches a sector block needs cover server e f got) k m = one_goes_on s k m _ a _ refl refl (steady a _ _ refl refl refl) (same_flights s.core.flights)
stamped_turn s w (Reclaims a outcome server e) k m = one_goes_on s k m _ a _ refl refl (steady a _ _ refl refl refl) (same_flights s.core.flights)
stamped_turn s w (Clears a block server e) k m = one_goes_on s k m _ a _ refl refl (steady a _ _ refl refl refl) (same_flights s.core.flights)
stamped_turn s w (Commits a outcome server e cleared) k m =
    one_goes_on s k m _ a _ refl refl (steady a _ _ refl refl refl) (moved_flights a outcome s.core.flights)
stamped_turn s w (Mounts a under server off u read) k m =
    one_goes_on s k m _ a (up_after s.core under) refl refl (fresh a _ _ (off_dead_not (s.core.servers a).phase off) (k.most a) refl) (same_flights s.core.flights)
stamped_turn s w (Leaves a server up clean) k m =
    one_goes_on s k m _ a (off_after (s.core.servers a)) refl refl (fresh a _ _ (up_dead_not (s.core.servers a).phase up) (le_refl (s.core.servers a).expiry) refl) (same_flights s.core.flights)
stamped_turn s w (Arms a arming server up) k m = one_goes_on s k m _ a _ refl refl (steady a _ _ refl refl refl) (same_flights s.core.flights)
stamped_turn s w (Stalls a server up) k m =
    one_goes_on s k m _ a _ refl refl (leaving a _ _ (up_dead_not (s.core.servers a).phase up) refl refl refl) (same_flights s.core.flights)
stamped_turn s w (Settles a server) k m = one_goes_on s k m _ a _ refl refl (steady a _ _ refl refl refl) (same_flights s.core.flights)
stamped_turn s w (Asks a lock mode server e) k m = calm s k m _ refl refl (same_flights s.core.flights)
stamped_turn s w (Lowers a lock can) k m = calm s k m _ refl refl (same_flights s.core.flights)
stamped_turn s w (Releases a lock can) k m = one_goes_on s k m _ a _ refl refl (steady a _ _ refl refl refl) (same_flights s.core.flights)
stamped_turn s w (Relocks locks are same wait) k m = calm s k m _ refl refl (same_flights s.core.flights)
stamped_turn s w (Wants a up) k m = one_goes_on s k m _ a _ refl refl (steady a _ _ refl refl refl) (same_flights s.core.flights)
stamped_turn s w (Issues a sector write can e) k m =
    issued_stamped s a sector write _ _ refl refl refl (at_put (λ x. x.expiry ≡ (s.core.servers a).expiry) s.core.servers a _ a (λ e. refl) (λ n. refl))
    (λ base now servers flights. one_goes_on s k m base a _ now servers (steady a _ _ refl refl refl) (subst (AreOf s.core.flights) (sym flights) (same_flights s.core.flights)))
stamped_turn s w (Fades ticket flight e late) k m = calm s k m _ refl refl (landed_flights ticket s.core.flights)
stamped_turn s w (Lands ticket flight e early present) k m =
    one_goes_on s k m _ flight.server _ refl refl (acknowledged_onward flight.server flight.sector flight.block flight.purpose (s.core.servers flight.server)) (landed_flights ticket s.core.flights)
stamped_turn s w (Drifts ticket flight e early present) k m = calm s k m _ refl refl (landed_flights ticket s.core.flights)
stamped_turn s w (Breaks ticket flight new e early) k m =
    goes_on s k m _ (le_refl s.core.now) (failed_servers s.core.servers flight.server) (landed_flights ticket s.core.flights)
stamped_turn s w (Fails a) k m = goes_on s k m _ (le_refl s.core.now) (failed_servers s.core.servers a) (same_flights s.core.flights)
stamped_turn s w (Dooms a fate can) k m =
    one_goes_on s k m _ a _ refl refl (leaving a _ _ (mounted_dead_not (s.core.servers a).phase (doomed_mounted s.core a k.safe can)) refl refl refl) (same_flights s.core.flights)
stamped_turn s w (Resumes a can) k m =
    one_goes_on s k m _ a _ refl refl (fresh a _ _ (still_dead_not (s.core.servers a).phase (and_parts (is_still (s.core.servers a).phase) _ can.past).0) (k.most a) refl) (same_flights s.core.flights)
stamped_turn s w (Dies a fate server p) k m = died_stamped s a fate p k m
stamped_turn s w (Renews a can) k m =
    one_goes_on s k m _ a _ refl refl
    (record {
      expiry = k.most a;
      dead = λ h. h;
      over = λ h. absurd (both_ways (is_dead (s.core.servers a).phase) (up_dead_not (s.core.servers a).phase can.up) h);
      saves = λ d w e. (w, e);
    })
    (same_flights s.core.flights)
stamped_turn s w (Ticks can) k m =
    goes_on s k m _ (next_moment s.core.now) (λ i. flushed_onward i ((s.core.now + 1) % s.core.setting.flush_ticks == 0) (s.core.servers i)) (same_flights s.core.flights)
stamped_turn s w (Recovers dead by can) k m = recover_stamped s dead by can k m _ refl refl refl
stamped_turn s w (Loads by slot block recovery who has wants got) k m =
    one_goes_on s k m _ by _ refl refl (steady by _ _ refl refl (sym (ap dead_of has))) (same_flights s.core.flights)
stamped_turn s w (Looks by sector block recovery who has wants got) k m =
    one_goes_on s k m _ by _ refl refl (steady by _ _ refl refl (sym (ap dead_of has))) (same_flights s.core.flights)
stamped_turn s w (Finishes by recovery can has) k m = finish_stamped s by recovery can.who has k m _ refl refl refl
stamped_turn s w Halts k m = calm s k m _ refl refl (λ P keeps all. tt)

known_of_run : LeasesEnd → (setting : Setting) (disk : Sectors) (s : State) → Run (first_state setting disk) s → Known s
known_of_run ends setting disk s run = record {
  safe = good_of_run setting disk s run;
  most = λ a. subst (λ t. (s.core.servers a).expiry ≤ lease_to t s.core.now) (sym (setting_of_run setting disk s run)) (ends setting disk s run a);
}

stamped_of_run : LeasesEnd → (setting : Setting) (disk : Sectors) (s : State) → Run (first_state setting disk) s → Stamped (work_of s)
stamped_of_run ends setting disk =
    along setting disk (λ s. Stamped (work_of s)) (λ s v run step m. stamped_turn s (work_of v) (step_turn s v step) (known_of_run ends setting disk s run) m)
    (record { within = tt; aged = tt; over = λ by d w e. absurd (none-some d e) })

-- ---- in the words of the laws

module _ (ends : LeasesEnd) (setting : Setting) (disk : Sectors) (s : State) (run : Run (first_state setting disk) s) where
  stamped : Stamped (work_of s)
  stamped = stamped_of_run ends setting disk s run

  pub stale_late : (one : ℕ × Flight) → Contains s.core.flights one → one.1.present ≡ false → IsTrue (is_dead (s.core.servers one.1.server).phase) ⊎ HasEnded s.core.now one.1.stamp
  stale_late one there stale = in_flights (Aged s.core.now s.core.servers) s.core.flights one (contains_in s.core.flights one there) stamped.aged stale

  pub within_leases : (one : ℕ × Flight) → Contains s.core.flights one → (one.1.server ≡ host_party → ⊥) → one.1.stamp ≤ (s.core.servers one.1.server).expiry
  within_leases one there away =
      in_flights (Within s.core.servers) s.core.flights one (contains_in s.core.flights one there) stamped.within (apart one.1.server host_party away)
    where
      apart : (x y : ℕ) → (x ≡ y → ⊥) → (x == y) ≡ false
      apart x y away = grind (arith, nat_tests, away)

  pub fresh_in_time : (a : ℕ) → is_dead (s.core.servers a).phase ≡ false → InTimeAreFresh s.core a
  fresh_in_time a lives one there own early = go one.1.present refl
    where
      late_early : (x y : ℕ) → x < y → y ≤ x → ⊥
      late_early x y h i = absurd (omega (arith, h, i))

      go : (b : Bool) → one.1.present ≡ b → b ≡ true
      go true e = refl
      go false e =
          absurd (⊎_elim
          (λ d. both_ways (is_dead (s.core.servers a).phase) lives (subst (λ n. IsTrue (is_dead (s.core.servers n).phase)) own d))
          (λ l. late_early one.1.stamp s.core.now l early) (stale_late one there e))

  pub recovered_over : (by : ℕ) (recovery : Recovery) → IsTrue (is_worker s.core by) → (s.core.servers by).recovery ≡ Some recovery →
      HasEnded s.core.now (s.core.servers recovery.dead).expiry
  recovered_over by recovery who has = stamped.over by recovery.dead who (ap dead_of has)

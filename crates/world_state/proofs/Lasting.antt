-- What a world keeps lasts while its parties keep what they have, and what is flagged or issued of them is in flight.
use Rattle.std.proofs.Common.{◌≡◌, ◌<◌, ◌≤◌, ⊎_elim, ℕ, Bool, true, false, not, ◌&&◌, ◌||◌, ◌==◌, if◌then◌else◌, IfSome, IsSomeAnd, Option, Some, None, is_some, List, [], ◌∷◌, refl, sym, ap, ◌∙◌, subst}
use Rattle.std.specs.BTreeMap.{is_at}
use Rattle.std.specs.Ordering.{nat_cmp}
use Rattle.std.proofs.lemmas.Bool.{and_parts, cases_eq, eqb-true, false≢true}
use Rattle.frang_base.specs.Functions.{member}
use Rattle.frang_base.specs.declared.limits.TheConstants.{LAST_TICK, SERVERS}
use Rattle.lock_table.specs.Table.{Table}
use Rattle.sector_bytes.specs.SectorMaps.{value_at, without}
use Rattle.petal_disk.specs.Flights.{Flights}
use Rattle.flight_laws.specs.Flights.{flights_of}
use Rattle.core_definitions.specs.Flights as core
use Rattle.core_definitions.specs.Flights.{each_of_server, left_behind, lost}
use Rattle.core_definitions.specs.Servers.{Server}
use Rattle.core_definitions.specs.Settings.{Setting, setting_of}
use Rattle.ring_definitions.specs.Rings.{Ring}
use Rattle.kept_plans.specs.Kept.{IsKeptBeside}
use Rattle.kept_plans.specs.declared.kept.KeptPlan.{KeptPlan}
use Rattle.kept_plans.proofs.Keeping.{beside_same}
use Rattle.line_stages.specs.Oldest.{AreOldest}
use Rattle.world_parties.specs.States.{IsBare, Keeps, OldestStay, PlanStays, State as Parties, flags_at, issued_at, oldest_at, plan_at, servers_at}
use Rattle.world_state.specs.States.{AreFlying, IsKept, IsWriteOf, State, core_at, flies_by}

-- ---- what is kept of lines and of logs

pub plan_lasts : (setting : Setting) (was is : Option KeptPlan) (before after : Server) → PlanStays was before is after → IsKeptBeside setting before was → IsKeptBeside setting after is
plan_lasts setting was None before after stays kept = tt
plan_lasts setting was (Some plan) before after stays kept = beside_same setting before after (Some plan) stays.1 (subst (IsKeptBeside setting before) stays.0 kept)

pub oldest_lasts : (was is : Option (List ℕ)) (before after : Server) → OldestStay was before is after → IfSome was (AreOldest before.ring) → IfSome is (AreOldest after.ring)
oldest_lasts was None before after stays kept = tt
oldest_lasts was (Some sectors) before after stays kept =
    subst (λ (ring : Ring). AreOldest ring sectors) (sym stays.1) (subst (λ o. IfSome o (AreOldest before.ring)) stays.0 kept)

-- ---- the world

-- what is flagged or issued is in flight as before
pub flying_lasts : (old new : Parties) (before after : core.Flights) → AreFlying old before → Keeps old new
    → ((a sector : ℕ) → flies_by before a sector ≡ true → flies_by after a sector ≡ true) → AreFlying new after
flying_lasts old new before after are keeps stay = record {
  flagged = λ a sector small is. stay a sector (are.flagged a sector small (keeps.flags a sector is));
  issued = λ by sector is. stay by sector (are.issued by sector (keeps.issued by sector is));
}

pub kept_lasts : (s new : State) → IsKept s → Keeps s.parties new.parties → (core_at new).setting ≡ (core_at s).setting → new.tick ≤ LAST_TICK → new.ticks ≤ new.tick
    → (new.over ≡ false → AreFlying new.parties (flights_of new.flights.flying)) → IsKept new
kept_lasts s new kept keeps same clock counted flying = record {
  clock = clock;
  counted = counted;
  flying = flying;
  plans = λ a. subst (λ setting. IsKeptBeside setting (servers_at new.parties a) (plan_at new.parties a)) (sym same)
      (plan_lasts (core_at s).setting (plan_at s.parties a) (plan_at new.parties a) (servers_at s.parties a) (servers_at new.parties a) (keeps.plans a) (kept.plans a));
  oldest = λ a. oldest_lasts (oldest_at s.parties a) (oldest_at new.parties a) (servers_at s.parties a) (servers_at new.parties a) (keeps.oldest a) (kept.oldest a);
}

-- the parties keep what they have, and the locks are any
pub parties_last : (s : State) (parties : Parties) (table : Table) → IsKept s → Keeps s.parties parties → parties.segments ≡ s.parties.segments → IsKept (record s { parties = parties; locks = table })
parties_last s parties table kept keeps disk =
    kept_lasts s (record s { parties = parties; locks = table }) kept keeps (ap (λ n. setting_of s.places.script n s.run) disk) kept.clock kept.counted
    (λ going. flying_lasts s.parties parties (flights_of s.flights.flying) (flights_of s.flights.flying) (kept.flying going) keeps (λ a sector is. is))

-- ---- some writes in flight are gone, or of an earlier mount

abbrev pub is_by : ℕ → ℕ → core.Flight → Bool
is_by a sector flight = flight.server == a && flight.sector == sector

flies_behind : (server : ℕ) (change : core.Flight → core.Flight) (a sector : ℕ) → ((flight : core.Flight) → is_by a sector (change flight) ≡ is_by a sector flight)
    → (flights : core.Flights) → flies_by (each_of_server server change flights) a sector ≡ flies_by flights a sector
flies_behind server change a sector same [] = refl
flies_behind server change a sector same (one ∷ flights) = go (one.1.server == server) (flies_behind server change a sector same flights)
  where
    go : (t : Bool) → flies_by (each_of_server server change flights) a sector ≡ flies_by flights a sector
        → (is_by a sector (if t then (one.0, change one.1) else one).1 || flies_by (each_of_server server change flights) a sector) ≡ (is_by a sector one.1 || flies_by flights a sector)
    go true rest = ap (λ b. b || flies_by (each_of_server server change flights) a sector) (same one.1) ∙ ap (λ b. is_by a sector one.1 || b) rest
    go false rest = ap (λ b. is_by a sector one.1 || b) rest

flies_lost : (server a sector : ℕ) → (a ≡ server → ⊥) → (flights : core.Flights) → flies_by flights a sector ≡ true → flies_by (lost server flights) a sector ≡ true
flies_lost server a sector other [] is = is
flies_lost server a sector other (one ∷ flights) is = go (one.1.server == server) refl (is_by a sector one.1) refl (flies_lost server a sector other flights) is
  where
    go : (t : Bool) → (one.1.server == server) ≡ t → (u : Bool) → is_by a sector one.1 ≡ u → (flies_by flights a sector ≡ true → flies_by (lost server flights) a sector ≡ true)
        → (u || flies_by flights a sector) ≡ true → flies_by (if not t then one ∷ lost server flights else lost server flights) a sector ≡ true
    go true gone true by rest is = absurd (other (sym (eqb-true one.1.server a (and_parts (one.1.server == a) (one.1.sector == sector) by).0) ∙ eqb-true one.1.server server gone))
    go true gone false by rest is = rest is
    go false stays true by rest is = ap (λ b. b || flies_by (lost server flights) a sector) by
    go false stays false by rest is = ap (λ b. b || flies_by (lost server flights) a sector) by ∙ rest is

flies_landed : (t : ℕ) (flight : core.Flight) (a sector : ℕ) → is_by a sector flight ≡ false → (flights : core.Flights) → value_at flights t ≡ Some flight
    → flies_by flights a sector ≡ true → flies_by (without flights t) a sector ≡ true
flies_landed t flight a sector other [] there is = is
flies_landed t flight a sector other (one ∷ flights) there is = go (is_at (nat_cmp t) one.0) there (is_by a sector one.1) refl is (flies_landed t flight a sector other flights)
  where
    go : (b : Bool) → (if b then Some one.1 else value_at flights t) ≡ Some flight → (u : Bool) → is_by a sector one.1 ≡ u → (u || flies_by flights a sector) ≡ true
        → (value_at flights t ≡ Some flight → flies_by flights a sector ≡ true → flies_by (without flights t) a sector ≡ true) → flies_by (if b then flights else one ∷ without flights t) a sector ≡ true
    go true at true by is rest = let same : one.1 ≡ flight = cc at in absurd (false≢true (sym other ∙ ap (is_by a sector) (sym same) ∙ by))
    go true at false by is rest = is
    go false at true by is rest = ap (λ u. u || flies_by (without flights t) a sector) by
    go false at false by is rest = ap (λ u. u || flies_by (without flights t) a sector) by ∙ rest at is

-- ---- a server dies: nothing is flagged or issued of it, and what it had in flight is lost or left behind

flies_at_death : (loses : Bool) (server a sector : ℕ) → (a ≡ server → ⊥) → (flights : core.Flights) → flies_by flights a sector ≡ true
    → flies_by (if loses then lost server flights else left_behind server flights) a sector ≡ true
flies_at_death true server a sector other flights is = flies_lost server a sector other flights is
flies_at_death false server a sector other flights is = flies_behind server (λ (flight : core.Flight). record flight { present = false }) a sector (λ flight. refl) flights ∙ is

pub death_lasts : (s : State) (parties : Parties) (flights : Flights) (server : ℕ) (loses : Bool) → IsKept s → Keeps s.parties parties → parties.segments ≡ s.parties.segments → IsBare parties server
    → flights_of flights.flying ≡ (if loses then lost server (flights_of s.flights.flying) else left_behind server (flights_of s.flights.flying)) → IsKept (record s { parties = parties; flights = flights })
death_lasts s parties flights server loses kept keeps disk bare gone =
    kept_lasts s (record s { parties = parties; flights = flights }) kept keeps (ap (λ n. setting_of s.places.script n s.run) disk) kept.clock kept.counted flying
  where
    left : core.Flights
    left = if loses then lost server (flights_of s.flights.flying) else left_behind server (flights_of s.flights.flying)

    flies : s.over ≡ false → (a sector : ℕ) → flies_by (flights_of s.flights.flying) a sector ≡ true → (a ≡ server → ⊥) → flies_by left a sector ≡ true
    flies going a sector is other = flies_at_death loses server a sector other (flights_of s.flights.flying) is

    flying : s.over ≡ false → AreFlying parties (flights_of flights.flying)
    flying going = subst (AreFlying parties) (sym gone) (record {
      flagged = λ a sector small is. ⊎_elim
          (λ e. absurd (false≢true (sym (ap (λ n. member sector (flags_at parties n)) e ∙ ap (member sector) bare.flags) ∙ is)))
          (λ other. flies going a sector ((kept.flying going).flagged a sector small (keeps.flags a sector is)) other)
          (cases_eq a server);
      issued = λ by sector is. ⊎_elim
          (λ e. absurd (false≢true (sym (ap (λ n. is_some (value_at (issued_at parties n) sector)) e ∙ ap (λ writes. is_some (value_at writes sector)) bare.issued) ∙ is)))
          (λ other. flies going by sector ((kept.flying going).issued by sector (keeps.issued by sector is)) other)
          (cases_eq by server);
    })

-- ---- a write is gone, and with it its flag and that it is issued

-- nothing that is kept of its party is of it
module _ (old new : Parties) (flights : core.Flights) (t : ℕ) (flight : core.Flight) (there : value_at flights t ≡ Some flight)
    (unflagged : flight.server < SERVERS → member flight.sector (flags_at new flight.server) ≡ false) (unissued : value_at (issued_at new flight.server) flight.sector ≡ None) where
  flies : (a sector : ℕ) → (is_by a sector flight ≡ true → ⊥) → flies_by flights a sector ≡ true → flies_by (without flights t) a sector ≡ true
  flies a sector other is = flies_landed t flight a sector (not_so (is_by a sector flight) other) flights there is
    where
      not_so : (b : Bool) → (b ≡ true → ⊥) → b ≡ false
      not_so true never = absurd (never refl)
      not_so false never = refl

  is_its : (a sector : ℕ) (P : ℕ → ℕ → Type 0) → is_by a sector flight ≡ true → P flight.server flight.sector → P a sector
  is_its a sector P by here =
      let parts = and_parts (flight.server == a) (flight.sector == sector) by in
      subst (P a) (eqb-true flight.sector sector parts.1) (subst (λ n. P n flight.sector) (eqb-true flight.server a parts.0) here)

  pub flying_landed : AreFlying old flights → Keeps old new → AreFlying new (without flights t)
  flying_landed are keeps = record {
    flagged = λ a sector small is. flies a sector
        (λ by. false≢true (sym (is_its a sector (λ n x. n < SERVERS → member x (flags_at new n) ≡ false) by unflagged small) ∙ is))
        (are.flagged a sector small (keeps.flags a sector is));
    issued = λ a sector is. flies a sector
        (λ by. false≢true (sym (ap is_some (is_its a sector (λ n x. value_at (issued_at new n) x ≡ None) by unissued)) ∙ is))
        (are.issued a sector (keeps.issued a sector is));
  }

loss_of : (s : State) (parties : Parties) (flights : Flights) (t : ℕ) (flight : core.Flight) → IsKept s → Keeps s.parties parties → parties.segments ≡ s.parties.segments
    → value_at (flights_of s.flights.flying) t ≡ Some flight → member flight.sector (flags_at parties flight.server) ≡ false → value_at (issued_at parties flight.server) flight.sector ≡ None
    → flights_of flights.flying ≡ without (flights_of s.flights.flying) t → IsKept (record s { parties = parties; flights = flights })
loss_of s parties flights t flight kept keeps disk there unflagged unissued gone =
    kept_lasts s (record s { parties = parties; flights = flights }) kept keeps (ap (λ n. setting_of s.places.script n s.run) disk) kept.clock kept.counted
    (λ going. subst (AreFlying parties) (sym gone) (flying_landed s.parties parties (flights_of s.flights.flying) t flight there (λ small. unflagged) unissued (kept.flying going) keeps))

pub loss_lasts : (s : State) (parties : Parties) (flights : Flights) (t server sector : ℕ) → IsKept s → Keeps s.parties parties → parties.segments ≡ s.parties.segments
    → IsWriteOf s t server sector → member sector (flags_at parties server) ≡ false → value_at (issued_at parties server) sector ≡ None
    → flights_of flights.flying ≡ without (flights_of s.flights.flying) t → IsKept (record s { parties = parties; flights = flights })
loss_lasts s parties flights t server sector kept keeps disk there unflagged unissued gone = go (value_at (flights_of s.flights.flying) t) refl there
  where
    go : (o : Option core.Flight) → value_at (flights_of s.flights.flying) t ≡ o → IsSomeAnd o (λ flight. (flight.server ≡ server) × (flight.sector ≡ sector))
        → IsKept (record s { parties = parties; flights = flights })
    go None e there = absurd there
    go (Some flight) e there = loss_of s parties flights t flight kept keeps disk e
        (ap (λ n. member flight.sector (flags_at parties n)) there.0 ∙ ap (λ x. member x (flags_at parties server)) there.1 ∙ unflagged)
        (ap (λ n. value_at (issued_at parties n) flight.sector) there.0 ∙ ap (λ x. value_at (issued_at parties server) x) there.1 ∙ unissued)
        gone

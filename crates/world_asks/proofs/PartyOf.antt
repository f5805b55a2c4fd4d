-- The party of a server that is asked: what is known of it.
use Rattle.std.proofs.Common.{◌≡◌, ℕ, Bool, true, false, ◌&&◌, ◌||◌, ◌==◌, is_some, IfSome, IsSomeAnd, IsTrue, Option, Some, None, List, [], ◌∷◌, refl, sym, ap, ◌∙◌, subst}
use Rattle.std.specs.List.{slice_get}
use Rattle.std.proofs.lemmas.Bool.{false≢true}
use Rattle.frang_base.specs.Functions.{member}
use Rattle.sector_bytes.specs.Blocks.{Block}
use Rattle.sector_bytes.specs.SectorMaps.{value_at}
use Rattle.flight_laws.specs.Flights.{flights_of}
use Rattle.log_slots.specs.Reading.{log_rules}
use Rattle.core_definitions.specs.Flights.{Flight, Flights, is_flying}
use Rattle.core_definitions.specs.Scripts.{host_party}
use Rattle.core_definitions.specs.Servers.{Server, first_server}
use Rattle.core_definitions.specs.Writes.{lacks_room}
use Rattle.line_stages.specs.Oldest.{AreOldest}
use Rattle.line_stages.specs.Stages.{IsStage}
use Rattle.recovery_demon.specs.Recovering.{Recovering}
use Rattle.ring_definitions.specs.Rings.{Ring}
use Rattle.server_issues.specs.Issuing.{IsHost, IsRecoveryOf}
use Rattle.world_parties.specs.States.{IsRecovery, State as Parties, flags_at, issued_at, issued_in, oldest_at, oldest_of, plan_at, recovering_by, recovery_in, server_of, servers_at}
use Rattle.world_parties.specs.declared.party.Party.{Party}
use Rattle.world_state.specs.States.{IsKept, State, core_at, flies_by}
use Rattle.world_asks.specs.Asking.{Asked, FliesAsSaid, IsAsked, IsPartyOf, core_of, stage_in}

-- ---- in flight

-- what flies by a party flies
pub flies : (flights : Flights) (a sector : ℕ) → flies_by flights a sector ≡ true → is_flying flights sector ≡ true
flies [] a sector is = is
flies (entry ∷ flights) a sector is = go (entry.1.server == a) (entry.1.sector == sector) (flies flights a sector) is
  where
    go : (own same : Bool) → (flies_by flights a sector ≡ true → is_flying flights sector ≡ true) → ((own && same) || flies_by flights a sector) ≡ true → (same || is_flying flights sector) ≡ true
    go own true rest there = refl
    go true false rest there = rest there
    go false false rest there = rest there

-- ---- of a server

-- a party is the one that stands in the place of a number
pub record IsGot (parties : Parties) (a : ℕ) (party : Party) : Type 0 where
  pub server : server_of party ≡ servers_at parties a
  pub number : party.server.id ≡ a
  pub recovery : party.recovery ≡ recovering_by parties a
  pub fits : IsRecovery parties.segments a party.recovery
  pub there : slice_get parties.parties a ≡ Some party
  pub flags : party.server.flying ≡ flags_at parties a
  pub plan : party.plan ≡ plan_at parties a
  pub oldest : oldest_of party ≡ oldest_at parties a

and_some : {X : Type 0} (P : X → Type 0) (o : Option X) → is_some o ≡ true → IfSome o P → IsSomeAnd o P
and_some P None there is = absurd (false≢true there)
and_some P (Some x) there is = is

module _ (asked : Asked) (party : Party) (is : IsAsked asked) (got : IsGot asked.world.parties asked.number party) where
  abbrev parties : Parties
  parties = asked.world.parties

  abbrev ring : Ring
  ring = party.server.server.ring

  ring_is : ring ≡ (servers_at parties asked.number).ring
  ring_is = ap (λ (server : Server). server.ring) got.server

  oldest_are : lacks_room log_rules ring (stage_in asked) ≡ true → IsSomeAnd (oldest_of party) (AreOldest ring)
  oldest_are lacks =
      let known : is_some (oldest_at parties asked.number) ≡ true = is.fresh.oldest (ap (λ r. lacks_room log_rules r (stage_in asked)) (sym ring_is) ∙ lacks) in
      let P : Ring → Type 0 = λ r. IsSomeAnd (oldest_at parties asked.number) (AreOldest r) in
      let Q : Option (List ℕ) → Type 0 = λ o. IsSomeAnd o (AreOldest ring) in
      subst Q (sym got.oldest) (subst P (sym ring_is) (and_some (AreOldest (servers_at parties asked.number).ring) (oldest_at parties asked.number) known (is.kept.oldest asked.number)))

  fly_as_said : FliesAsSaid (core_of asked) party
  fly_as_said = record {
    flagged = λ sector there. flies (core_of asked).flights asked.number sector
        ((is.kept.flying is.going).flagged asked.number sector is.small (ap (member sector) (sym got.flags) ∙ there));
    issued = λ sector there. flies (core_of asked).flights asked.number sector
        ((is.kept.flying is.going).issued asked.number sector (ap (λ (o : Option Recovering). is_some (value_at (issued_in o) sector)) (sym got.recovery) ∙ there));
  }

  pub party_is : IsPartyOf asked party
  party_is = record {
    small = is.small;
    number = got.number;
    server = sym got.server;
    stage = let P : Option Party → Type 0 = λ o. IfSome o (λ p. IsStage p.plan p.server.server asked.stage (stage_in asked)) in subst P got.there is.stage;
    oldest = oldest_are;
    fresh = let P : Option Recovering → Type 0 = λ o. IfSome o (λ r. IsTrue r.is_fresh) in subst P (sym got.recovery) is.fresh.recovery;
    fits = got.fits;
    flies = fly_as_said;
  }

-- ---- of the host

of_recovery : (s : State) (by : ℕ) (recovery : Option Recovering) → IsKept s → s.over ≡ false → recovery ≡ recovering_by s.parties by → IsRecovery s.parties.segments by recovery
    → IfSome recovery (IsRecoveryOf (core_at s))
of_recovery s by None kept going is fits = tt
of_recovery s by (Some r) kept going is fits = record {
  segments = sym fits.disk;
  issued = λ sector there. flies (core_at s).flights by sector
      ((kept.flying going).issued by sector (ap (λ (o : Option Recovering). is_some (value_at (issued_in o) sector)) (sym is) ∙ there));
}

pub host_is : (s : State) (recovery : Option Recovering) → IsKept s → s.over ≡ false → recovery ≡ recovering_by s.parties host_party → IsRecovery s.parties.segments host_party recovery
    → IsHost (core_at s) recovery s.flights.flying
unfolding log_rules
host_is s recovery kept going is fits = record {
  server = ap (λ (o : Option Recovering). record first_server { recovery = recovery_in o }) (sym is);
  flights = refl;
  logs = refl;
  recovery = of_recovery s host_party recovery kept going is fits;
}

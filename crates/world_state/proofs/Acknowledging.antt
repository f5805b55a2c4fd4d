-- A server whose write is acknowledged, with what is kept beside it.
use Rattle.std.proofs.Common.{◌≡◌, ℕ, Bool, true, false, if◌then◌else◌, List, [], Option, Some, None, is_some, nat_lt, set, refl, sym, ap, ◌∙◌, subst}
use Rattle.std.specs.Option.{option_map}
use Rattle.std.specs.Global.{Vec}
use Rattle.frang_base.specs.Functions.{member}
use Rattle.frang_base.specs.declared.sector.Sector.{Sector}
use Rattle.sector_bytes.specs.Blocks.{Block}
use Rattle.sector_bytes.specs.SectorMaps.{value_at}
use Rattle.clerk_cache.specs.Dropping.{numbers_of}
use Rattle.ring_definitions.specs.Rings.{Ring, acked, ring_at}
use Rattle.petal_disk.specs.declared.flying.Purpose.{Purpose}
use Rattle.petal_disk.specs.declared.flying.Purpose.TheVariants.{OfLog, InPlace, OfRecovery}
use Rattle.flight_laws.specs.Flights.{purpose_of}
use Rattle.core_definitions.specs.Recoveries.{Recovery}
use Rattle.core_definitions.specs.Servers.{Server}
use Rattle.core_definitions.specs.WriteEffects.{acknowledged, clean_now}
use Rattle.core_definitions.specs.Writes.{comes_clean}
use Rattle.kept_plans.specs.Keeping.{SameBeside}
use Rattle.kept_plans.specs.declared.kept.KeptPlan.{KeptPlan}
use Rattle.kept_plans.proofs.Keeping.{acknowledged_same}
use Rattle.world_definitions.specs.Worlds.{host_of}
use Rattle.recovery_demon.specs.Recovering.{Recovering}
use Rattle.world_parties.proofs.Keeping.{plan_beside}
use Rattle.world_parties.specs.States.{OldestStay, PartyKeeps, PlanStays, issued_in, oldest_of, recovery_in, server_of}
use Rattle.world_parties.specs.declared.party.Party.{Party}
use Rattle.world_state.specs.Arrivals.{oldest_left}

module _ (sector : ℕ) (block : Block) where
  -- the recovery beside it isn't touched but by a write of it
  pub beside_recovery : (purpose : Purpose) (server : Server) (recovery : Option Recovery) → (purpose ≡ OfRecovery → ⊥)
      → record (acknowledged sector block (purpose_of purpose) server) { recovery = recovery } ≡ acknowledged sector block (purpose_of purpose) (record server { recovery = recovery })
  beside_recovery (OfLog number) server recovery own = refl
  beside_recovery (InPlace cover) server recovery own = go (comes_clean server sector block)
    where
      go : (b : Bool) → record (if b then clean_now sector server else server) { recovery = recovery } ≡ (if b then clean_now sector (record server { recovery = recovery }) else record server { recovery = recovery })
      go true = refl
      go false = refl
  beside_recovery OfRecovery server recovery own = absurd (own refl)

  -- the log stays but for one of its own
  ring_stays : (purpose : Purpose) (server : Server) → (oldest : Option (List ℕ)) → OldestStay oldest server (oldest_left purpose oldest) (acknowledged sector block (purpose_of purpose) server)
  ring_stays (OfLog number) server oldest = tt
  ring_stays (InPlace cover) server None = tt
  ring_stays (InPlace cover) server (Some sectors) = (refl, go (comes_clean server sector block))
    where
      go : (b : Bool) → (if b then clean_now sector server else server).ring ≡ server.ring
      go true = refl
      go false = refl
  ring_stays OfRecovery server None = tt
  ring_stays OfRecovery server (Some sectors) = (refl, refl)

  -- the host has no log and nothing cached
  nothing_set : (n : ℕ) → set [] n true ≡ []
  nothing_set n = refl

  no_number : (n : ℕ) → acked (ring_at 0) n ≡ ring_at 0
  no_number n = go (nat_lt 0 n)
    where
      go : (b : Bool) → (if b then ring_at 0 else ring_at 0) ≡ ring_at 0
      go true = refl
      go false = refl

  pub of_the_host : (purpose : Purpose) (recovery : Option Recovery) → (purpose ≡ OfRecovery → ⊥) → acknowledged sector block (purpose_of purpose) (host_of recovery) ≡ host_of recovery
  of_the_host (OfLog number) recovery own = ap (λ (ring : Ring). record (host_of recovery) { ring = ring }) (no_number number)
  of_the_host (InPlace cover) recovery own = refl
  of_the_host OfRecovery recovery own = absurd (own refl)

-- ---- a party that was taken out of its place

module _ (old new : Party) (sector : ℕ) (block : Block) (purpose : Purpose) (own : purpose ≡ OfRecovery → ⊥)
    (is : new.server.server ≡ acknowledged sector block (purpose_of purpose) old.server.server) (recovery : new.recovery ≡ old.recovery) where
  pub server_acknowledged : server_of new ≡ acknowledged sector block (purpose_of purpose) (server_of old)
  server_acknowledged =
      (λ i. record (is i) { recovery = recovery_in (recovery i) }) ∙ beside_recovery sector block purpose old.server.server (recovery_in old.recovery) own

  pub keeps_acknowledged : new.server.flying ≡ old.server.flying → new.plan ≡ old.plan → new.oldest ≡ oldest_left purpose old.oldest → PartyKeeps old new
  keeps_acknowledged flying plan oldest = record {
    flags = λ s there. ap (member s) (sym flying) ∙ there;
    issued = λ s there. ap (λ (o : Option Recovering). is_some (value_at (issued_in o) s)) (sym recovery) ∙ there;
    plan = let P : Option KeptPlan → Type 0 = λ p. PlanStays old.plan (server_of old) p (server_of new) in
        subst P (sym plan) (plan_beside old.plan (server_of old) (server_of new)
        (subst (SameBeside (server_of old)) (sym server_acknowledged) (acknowledged_same sector block (purpose_of purpose) (server_of old))));
    oldest = let P : Server → Type 0 = λ server. OldestStay (oldest_of old) (server_of old) (oldest_of new) server in
        subst P (sym server_acknowledged)
        (subst (λ o. OldestStay (oldest_of old) (server_of old) o (acknowledged sector block (purpose_of purpose) (server_of old)))
        (named_left purpose old.oldest ∙ sym (ap (λ o. option_map (λ sectors. numbers_of sectors.items) o) oldest)) (ring_stays sector block purpose (server_of old) (oldest_of old)));
  }
    where
      named_left : (purpose : Purpose) (o : Option (Vec Sector)) → oldest_left purpose (option_map (λ (sectors : Vec Sector). numbers_of sectors.items) o) ≡ option_map (λ (sectors : Vec Sector). numbers_of sectors.items) (oldest_left purpose o)
      named_left (OfLog number) o = refl
      named_left (InPlace cover) o = refl
      named_left OfRecovery o = refl

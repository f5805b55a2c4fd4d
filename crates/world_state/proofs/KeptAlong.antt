-- What a world keeps lasts while its parties keep what they have but for a write of one sector by one party.
use Rattle.std.proofs.Common.{◌≡◌, ◌≤◌, ℕ, Option, Some, None, List, false, sym, ◌∙◌, subst}
use Rattle.frang_base.specs.declared.limits.TheConstants.{LAST_TICK}
use Rattle.core_definitions.specs.Servers.{Server}
use Rattle.core_definitions.specs.Settings.{Setting}
use Rattle.flight_laws.specs.Flights.{flights_of}
use Rattle.kept_plans.specs.Kept.{IsKeptBeside}
use Rattle.kept_plans.specs.declared.kept.KeptPlan.{KeptPlan}
use Rattle.world_parties.specs.States.{Keeps, KeepsBut, OldestStay, PlanStays, State as Parties, oldest_at, plan_at, servers_at}
use Rattle.world_state.specs.States.{AreFlying, IsKept, State, core_at}
use Rattle.world_state.proofs.Lasting.{oldest_lasts, plan_lasts}

-- one change behind another
plan_goes_on : (o p q : Option KeptPlan) (a b c : Server) → PlanStays o a p b → PlanStays p b q c → PlanStays o a q c
plan_goes_on o p None a b c first next = tt
plan_goes_on o p (Some plan) a b c first next =
    let P : Option KeptPlan → Type 0 = λ r. PlanStays o a r b in
    let there : PlanStays o a (Some plan) b = subst P next.0 first in
    (there.0, record { under = next.1.under ∙ there.1.under; usable = λ set. next.1.usable set ∙ there.1.usable set })

oldest_go_on : (o p q : Option (List ℕ)) (a b c : Server) → OldestStay o a p b → OldestStay p b q c → OldestStay o a q c
oldest_go_on o p None a b c first next = tt
oldest_go_on o p (Some sectors) a b c first next =
    let P : Option (List ℕ) → Type 0 = λ r. OldestStay o a r b in
    let there : OldestStay o a (Some sectors) b = subst P next.0 first in
    (there.0, next.1 ∙ there.1)

-- a write of one sector by one party aside
pub keeps_but_on : (old between new : Parties) (by sector : ℕ) → KeepsBut old between by sector → Keeps between new → KeepsBut old new by sector
keeps_but_on old between new by sector first next = record {
  flags = λ a x there. first.flags a x (next.flags a x there);
  issued = λ a x there. first.issued a x (next.issued a x there);
  plans = λ a. plan_goes_on (plan_at old a) (plan_at between a) (plan_at new a) (servers_at old a) (servers_at between a) (servers_at new a) (first.plans a) (next.plans a);
  oldest = λ a. oldest_go_on (oldest_at old a) (oldest_at between a) (oldest_at new a) (servers_at old a) (servers_at between a) (servers_at new a) (first.oldest a) (next.oldest a);
}

-- so a world keeps what it has: the clock stands, and the script and the disk stay
pub kept_but : (s new : State) (by sector : ℕ) → IsKept s → KeepsBut s.parties new.parties by sector → (core_at new).setting ≡ (core_at s).setting → new.tick ≤ LAST_TICK → new.ticks ≤ new.tick
    → (new.over ≡ false → AreFlying new.parties (flights_of new.flights.flying)) → IsKept new
kept_but s new by sector kept keeps same clock counted flying = record {
  clock = clock;
  counted = counted;
  flying = flying;
  plans = λ a. subst (λ setting. IsKeptBeside setting (servers_at new.parties a) (plan_at new.parties a)) (sym same)
      (plan_lasts (core_at s).setting (plan_at s.parties a) (plan_at new.parties a) (servers_at s.parties a) (servers_at new.parties a) (keeps.plans a) (kept.plans a));
  oldest = λ a. oldest_lasts (oldest_at s.parties a) (oldest_at new.parties a) (servers_at s.parties a) (servers_at new.parties a) (keeps.oldest a) (kept.oldest a);
}

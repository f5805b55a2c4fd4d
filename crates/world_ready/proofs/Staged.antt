-- The stage that is read of a server is the core's, by what is kept beside the server.
use Rattle.std.proofs.Common.{◌≡◌, ℕ, true, is_some, IfSome, Option, Some, None, refl, sym, ap, subst, ◌∙◌}
use Rattle.std.specs.List.{slice_get}
use Rattle.core_definitions.specs.Cores.{stage}
use Rattle.core_definitions.specs.Lines.{Stage}
use Rattle.core_definitions.specs.Recoveries.{Recovery}
use Rattle.core_definitions.specs.Servers.{Server, stage_of}
use Rattle.core_definitions.specs.Settings.{Setting}
use Rattle.kept_plans.specs.Kept.{IsKeptBeside}
use Rattle.kept_plans.specs.declared.kept.KeptPlan.{KeptPlan}
use Rattle.line_stages.specs.Agains.{IsAgain}
use Rattle.line_stages.specs.Stages.{wants_plan}
use Rattle.line_stages.specs.declared.again.Again.{Again}
use Rattle.line_stages.specs.declared.again.Again.TheVariants as agains
use Rattle.lock_definitions.specs.Locks.{Locks}
use Rattle.lock_table.specs.Table.{Table}
use Rattle.server_core.specs.States as server
use Rattle.world_parties.specs.States.{State as Parties, plan_at, server_of, servers_at}
use Rattle.world_parties.specs.declared.party.Party.{Party}
use Rattle.world_state.specs.Rooms.{HasCommitRoom, MayCommitPlan}
use Rattle.world_state.specs.States.{IsKept, State, core_at}

-- a party is the one that stands in the place of a number
pub record IsGot (parties : Parties) (a : ℕ) (party : Party) : Type 0 where
  pub server : server_of party ≡ servers_at parties a
  pub number : party.server.id ≡ a
  pub there : slice_get parties.parties a ≡ Some party
  pub plan : party.plan ≡ plan_at parties a

-- what a reading says of it
abbrev pub Says : Setting → Party → Table → (Option Stage → Type 0) → Type 0
Says setting party table Is =
    (wants_plan table.locks party.server.id party.server.server ≡ true → is_some party.plan ≡ true) → IsKeptBeside setting party.server.server party.plan
    → Is (stage_of setting table.locks party.server.id party.server.server)

module _ (s : State) (a : ℕ) (party : Party) (table : Table) (got : IsGot s.parties a party) (same : table.locks ≡ s.locks.locks) where
  alike : {X : Type 0} (f : Locks → ℕ → Server → X) → f table.locks party.server.id (server_of party) ≡ f s.locks.locks a (servers_at s.parties a)
  alike f = ap (λ (l : Locks). f l party.server.id (server_of party)) same ∙ ap (λ n. f s.locks.locks n (server_of party)) got.number ∙ ap (f s.locks.locks a) got.server

  pub stage_as_read : (Is : Option Stage → Type 0) → IsKept s → (wants_plan s.locks.locks a (servers_at s.parties a) ≡ true → is_some (plan_at s.parties a) ≡ true) → Says (core_at s).setting party table Is → Is (stage (core_at s) a)
  stage_as_read Is kept planned says =
      let setting : Setting = (core_at s).setting in
      let P : Option KeptPlan → Type 0 = λ p. IsKeptBeside setting (servers_at s.parties a) p in
      let Q : Server → Type 0 = λ server. IsKeptBeside setting server party.plan in
      subst Is (alike (stage_of setting))
      (says (λ wants. ap is_some got.plan ∙ planned (sym (alike wants_plan) ∙ wants)) (subst Q (sym got.server) (subst P (sym got.plan) (kept.plans a))))

-- ---- a plan that may be committed is kept

planned : (state : server.State) (plan : Option KeptPlan) → MayCommitPlan state plan → is_some plan ≡ true
planned state None may = absurd may
planned state (Some plan) may = refl

pub has_plan : (s : State) (a : ℕ) (party : Party) → IsGot s.parties a party → HasCommitRoom s a → is_some (plan_at s.parties a) ≡ true
has_plan s a party got room =
    let P : Option Party → Type 0 = λ o. IfSome o (λ p. MayCommitPlan p.server p.plan) in
    ap is_some (sym got.plan) ∙ planned party.server party.plan (subst P got.there room.plan)

-- ---- a line goes on with the same whatever its server recovers

again_beside : (server : Server) (recovery : Option Recovery) (at : Option Stage) (again : Again) → IsAgain server at again → IsAgain (record server { recovery = recovery }) at again
again_beside server recovery at (agains.Anew first) is = is
again_beside server recovery at (agains.Grown set seen) is = record { needs = is.needs; grows = is.grows; becomes = is.becomes }
again_beside server recovery at agains.Reclaim is = is

pub again_at : (s : State) (a : ℕ) (party : Party) (at : Option Stage) (again : Again) → server_of party ≡ servers_at s.parties a → IsAgain party.server.server at again → IsAgain ((core_at s).servers a) at again
again_at s a party at again same is = subst (λ (server : Server). IsAgain server at again) same (again_beside party.server.server (server_of party).recovery at again is)

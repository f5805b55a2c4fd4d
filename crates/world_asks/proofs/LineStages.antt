-- What the stage that was read of a server says of its line, in the words of the core.
use Rattle.std.proofs.Common.{◌≡◌, ◌<◌, ℕ, Bool, true, false, not, ◌&&◌, ◌||◌, is_some, Option, Some, None, refl, sym, ap, ◌∙◌, subst, arith}
use Rattle.core_definitions.specs.LineGuards.{done_by, has_room_for, is_grown, is_moved, is_oldest_in_place, is_server, may_again, may_commit, may_reclaim}
use Rattle.core_definitions.specs.Logs.{is_none}
use Rattle.core_definitions.specs.Plans.{Outcome}
use Rattle.core_definitions.specs.Recoveries.{Recovery}
use Rattle.core_definitions.specs.Rings.{has_room}
use Rattle.core_definitions.specs.Servers.{Phase, Server, is_doomed, is_in_mount, is_still, is_up, stage_of}
use Rattle.core_definitions.specs.Cores.{stage}
use Rattle.core_definitions.specs.Lines.{Stage}
use Rattle.core_definitions.specs.Settings.{LogRules, Setting, disk_logs}
use Rattle.core_definitions.specs.Writes.{lacks_room}
use Rattle.log_slots.specs.Reading.{log_rules}
use Rattle.kept_plans.specs.Kept.{IsKeptBeside}
use Rattle.kept_plans.specs.declared.kept.KeptPlan.{KeptPlan}
use Rattle.line_stages.specs.Stages.{IsStage, wants_plan}
use Rattle.lock_definitions.specs.Locks.{Locks}
use Rattle.lock_table.specs.Table.{Table}
use Rattle.line_stages.specs.declared.stage.Stage.{Stage as CodeStage}
use Rattle.world_parties.specs.States.{plan_at, server_of, servers_at}
use Rattle.world_state.specs.States.{IsKept, State, core_at}
use Rattle.world_parties.specs.declared.party.Party.{Party}
use Rattle.world_asks.specs.Asking.{Asked, IsPartyOf, core_of, stage_in}
use Rattle.world_asks.proofs.Due.{server_is}
use Rattle.world_asks.proofs.PartyOf.{IsGot}

-- who is up is mounted
pub up_mounted : (phase : Phase) → is_up phase ≡ true → is_in_mount phase ≡ true
up_mounted phase up = ap (λ (t : Bool). t || is_still phase || is_doomed phase) up

pub staged : (asked : Asked) (party : Party) (stage : Option CodeStage) → stage ≡ asked.stage → IsPartyOf asked party → IsStage party.plan party.server.server stage (stage_in asked)
staged asked party stage is of = let P : Option CodeStage → Type 0 = λ s. IsStage party.plan party.server.server s (stage_in asked) in subst P (sym is) of.stage

-- ---- Commit

room_beside : (logs : LogRules) (server : Server) (recovery : Option Recovery) (done : Option Outcome) → has_room_for logs server done ≡ has_room_for logs (record server { recovery = recovery }) done
room_beside logs server recovery None = refl
room_beside logs server recovery (Some outcome) = refl

pub commits : (asked : Asked) (party : Party) (r : Bool) → IsPartyOf asked party
    → r ≡ (is_some (done_by (stage_in asked)) && is_none party.server.server.pending && has_room_for log_rules party.server.server (done_by (stage_in asked)))
    → r ≡ may_commit (core_of asked) asked.number (stage_in asked)
unfolding log_rules
commits asked party r of is =
    is ∙ ap (λ (t : Bool). is_some (done_by (stage_in asked)) && is_none party.server.server.pending && t) (room_beside disk_logs party.server.server (server_of party).recovery (done_by (stage_in asked)))
    ∙ ap (λ (t : Bool). t && is_some (done_by (stage_in asked)) && is_none (server_of party).pending && has_room_for disk_logs (server_of party) (done_by (stage_in asked))) (sym (server_is asked.number of.small))
    ∙ ap (λ (server : Server). is_server asked.number && is_some (done_by (stage_in asked)) && is_none server.pending && has_room_for disk_logs server (done_by (stage_in asked))) (sym of.server)

-- ---- Again

pub goes_again : (asked : Asked) (party : Party) (r : Bool) → IsPartyOf asked party → party.server.server.failed ≡ false
    → r ≡ (is_moved (stage_in asked) || is_grown (stage_in asked) || may_reclaim log_rules party.server.server (stage_in asked))
    → r ≡ may_again (core_of asked) asked.number (stage_in asked)
unfolding log_rules
goes_again asked party r of well is =
    is ∙ sym (and_true cause)
    ∙ ap (λ (t : Bool). cause && not t) (sym well)
    ∙ ap (λ (t : Bool). t && cause && not party.server.server.failed) (sym (server_is asked.number of.small))
    ∙ ap (λ (server : Server). is_server asked.number && (is_moved (stage_in asked) || is_grown (stage_in asked) || may_reclaim disk_logs server (stage_in asked)) && not server.failed) (sym of.server)
  where
    cause : Bool
    cause = is_moved (stage_in asked) || is_grown (stage_in asked) || may_reclaim disk_logs party.server.server (stage_in asked)

    and_true : (b : Bool) → (b && true) ≡ b
    and_true true = refl
    and_true false = refl

-- ---- as it is read

-- what a reading of a stage says, for each setting
abbrev pub SaysStage : Party → Table → Option CodeStage → Type 0
SaysStage party table code =
    (setting : Setting) → (wants_plan table.locks party.server.id party.server.server ≡ true → is_some party.plan ≡ true) → IsKeptBeside setting party.server.server party.plan
    → IsStage party.plan party.server.server code (stage_of setting table.locks party.server.id party.server.server)

module _ (s : State) (a : ℕ) (party : Party) (table : Table) (got : IsGot s.parties a party) (same : table.locks ≡ s.locks.locks) where
  alike : {X : Type 0} (f : Locks → ℕ → Server → X) → f table.locks party.server.id (server_of party) ≡ f s.locks.locks a (servers_at s.parties a)
  alike f = ap (λ (l : Locks). f l party.server.id (server_of party)) same ∙ ap (λ n. f s.locks.locks n (server_of party)) got.number ∙ ap (f s.locks.locks a) got.server

  pub stage_as_read : (code : Option CodeStage) → IsKept s → (wants_plan s.locks.locks a (servers_at s.parties a) ≡ true → is_some (plan_at s.parties a) ≡ true) → SaysStage party table code
      → IsStage party.plan party.server.server code (stage (core_at s) a)
  stage_as_read code kept planned says =
      let setting : Setting = (core_at s).setting in
      let P : Option KeptPlan → Type 0 = λ p. IsKeptBeside setting (servers_at s.parties a) p in
      let Q : Server → Type 0 = λ server. IsKeptBeside setting server party.plan in
      let R : Option Stage → Type 0 = λ at. IsStage party.plan party.server.server code at in
      subst R (alike (stage_of setting))
      (says setting (λ wants. ap is_some got.plan ∙ planned (sym (alike wants_plan) ∙ wants)) (subst Q (sym got.server) (subst P (sym got.plan) (kept.plans a))))

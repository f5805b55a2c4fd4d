-- When what is kept beside a party is up to date.
use Rattle.std.specs.Prelude.{◌≡◌, ◌==◌, ◌||◌, ℕ, true, is_some, IsTrue}
use Rattle.lock_definitions.specs.Locks.{Locks}
use Rattle.log_slots.specs.Reading.{log_rules}
use Rattle.core_definitions.specs.LineGuards.{is_server}
use Rattle.core_definitions.specs.Scripts.{host_party}
use Rattle.core_definitions.specs.Servers.{stage_of}
use Rattle.core_definitions.specs.Settings.{Setting}
use Rattle.core_definitions.specs.Writes.{lacks_room}
use Rattle.line_stages.specs.Stages.{wants_plan}
use Rattle.world_parties.specs.States.{IsFresh, State as Parties, oldest_at, plan_at, servers_at}
use Rattle.world_state.specs.States.{State, core_at}

-- where its stage goes by its plan, one is kept; where its line lacks room in its log, the sectors of the oldest records are; and what the slots of its recovery say is read off them. Of the
-- host, which is never up, only the last says anything
pub record IsFreshBeside (setting : Setting) (locks : Locks) (parties : Parties) (a : ℕ) : Type 0 where
  pub plan : wants_plan locks a (servers_at parties a) ≡ true → is_some (plan_at parties a) ≡ true
  pub oldest : lacks_room log_rules (servers_at parties a).ring (stage_of setting locks a (servers_at parties a)) ≡ true → is_some (oldest_at parties a) ≡ true
  pub recovery : IsFresh parties a

-- the party of a number in a world
abbrev pub IsFreshAt : State → ℕ → Type 0
IsFreshAt s a = IsFreshBeside (core_at s).setting s.locks.locks s.parties a

-- all sixteen servers, and the host
abbrev pub AreAllFresh : State → Type 0
AreAllFresh s = (a : ℕ) → IsTrue (is_server a || a == host_party) → IsFreshAt s a

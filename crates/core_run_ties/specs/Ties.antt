-- What else stands beside each moment of a run: room in the logs, how journals account for operations, what recoveries have read, and what the world began with.
use Rattle.std.specs.Prelude.{ℕ, IsTrue}
use Rattle.core_definitions.specs.LineGuards.{is_server}
use Rattle.core_definitions.specs.Runs.{State as RunMoment}
use Rattle.sector_world.specs.World.{World}
use Rattle.core_world.specs.Journals.{Journal}
use Rattle.core_commit_steps.specs.Moments.{LastsAreSettled}
use Rattle.core_log_marks.specs.Accounts.{AllAreAccountedFor}
use Rattle.core_log_marks.specs.Keeping.{AreReported}
use Rattle.core_log_steps.specs.Steps.{HasLogRoom}
use Rattle.core_order.specs.Versions.{AreVersioned}
use Rattle.headline_histories.specs.Starts.{IsSameStart}

-- Of a world that began as this one: each log has room for all numbers that a ring may take, at each line of its server that isn't answered; where all operations of a mounted server are acknowledged, so is
-- its whole log; journals account for the operations of their servers; each recovery that has read its log has what the log reads as; and each record in a log names versions from 1 on
pub record StandsFurther (first : World) (s : RunMoment) (w : World) (journal : ℕ → Journal) : Type 0 where
  pub room : (a : ℕ) → IsTrue (is_server a) → HasLogRoom s a
  pub lasts : LastsAreSettled s.core.servers w
  pub accounts : AllAreAccountedFor s.core.servers s.disk w journal
  pub reports : AreReported s journal
  pub versions : AreVersioned s journal
  pub began : IsSameStart first w

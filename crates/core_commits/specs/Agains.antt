-- What an Again of the core is: where the ring reclaims, Reclaim up to a number of an operation; and none where the set begins anew or grows.
use Rattle.std.specs.Prelude.{◌≡◌, ◌<◌, ◌≤◌, ◌==◌, ℕ, IsTrue, List, Some}
use Rattle.std.specs.List.{list_any}
use Rattle.std.specs.Option.{IsSome}
use Rattle.sector_bytes.specs.Replays.{change_at}
use Rattle.disk_definitions.specs.Plans.{Lock}
use Rattle.ring_definitions.specs.Rings.{Ring, oldest_of}
use Rattle.set_definitions.specs.Seen.{SeenSectors}
use Rattle.core_definitions.specs.Cores.{stage}
use Rattle.core_definitions.specs.Events.{Again, Nothing}
use Rattle.core_definitions.specs.Lines.{Finishing, Growing, Moving}
use Rattle.core_definitions.specs.Plans.{Outcome}
use Rattle.core_definitions.specs.Runs.{State as RunMoment, Makes, next}
use Rattle.core_definitions.specs.Settings.{LogRules}
use Rattle.sector_world.specs.Guards.{CanReclaim}
use Rattle.sector_world.specs.Histories.{Each, settled}
use Rattle.sector_world.specs.Kinds.{Good}
use Rattle.sector_world.specs.Steps.{after}
use Rattle.sector_world.specs.Steps.Event.{Reclaim}
use Rattle.sector_world.specs.World.{World}
use Rattle.core_world.specs.Events.{LeadsQuietly}
use Rattle.core_world.specs.Journals.{Journal}
use Rattle.core_world.specs.Steps.{IsWorldOf}
use Rattle.core_world.specs.Ties.{AreTied}

-- ---- where the ring reclaims

-- Of each operation of the server above its floor and up to a number, the oldest records of the ring name what it changes. So it is where the number is that of the last record that the ring
-- gives up
abbrev pub AreOldest : LogRules → Ring → World → ℕ → ℕ → Type 0
AreOldest logs ring w a k =
    (s : ℕ) → Each (λ c. c.by ≡ a → w.floor a < c.op → c.op ≤ k → IsSome (change_at c.changes s) → IsTrue (list_any (λ x. x.sector.0 == s) (oldest_of logs.quarter ring))) (settled w.history)

-- an Again that reclaims is Reclaim up to such a number, which may happen, and all ties go on but for the journals
pub record IsReclaim (s : RunMoment) (w : World) (a k : ℕ) : Type 0 where
  pub can : CanReclaim w a k
  pub tied : AreTied (next s (Again a) Nothing).core s.disk (after w (Reclaim a k))

abbrev pub AgainsReclaim : Type 0
AgainsReclaim =
    (s : RunMoment) (w : World) (a k : ℕ) (outcome : Outcome) → AreTied s.core s.disk w → Good w → Makes s (Again a) Nothing → stage s.core a ≡ Some (Finishing outcome) →
    w.floor a ≤ k → k ≤ w.last a → AreOldest s.core.setting.logs (s.core.servers a).ring w a k → IsReclaim s w a k

-- ---- where the set changes

-- a set that begins anew
abbrev pub MovesAreNone : Type 0
MovesAreNone = (s : RunMoment) (w : World) (journal : ℕ → Journal) (a : ℕ) → IsWorldOf s w journal → stage s.core a ≡ Some Moving → LeadsQuietly w (next s (Again a) Nothing) journal

-- and one that grows
abbrev pub GrowthsAreNone : Type 0
GrowthsAreNone =
    (s : RunMoment) (w : World) (journal : ℕ → Journal) (a : ℕ) (needs : List Lock) (seen : SeenSectors) → IsWorldOf s w journal → stage s.core a ≡ Some (Growing needs seen) →
    LeadsQuietly w (next s (Again a) Nothing) journal

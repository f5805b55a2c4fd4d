-- What is known of a recovery that a party carries out.
use Rattle.std.proofs.Common.{◌≡◌, ℕ, true, false, IfSome, Option, Some, None, if◌then◌else◌, sym, ap, ◌∙◌}
use Rattle.core_definitions.specs.Cores.{Core}
use Rattle.core_definitions.specs.WriteGuards.{is_worker}
use Rattle.recovery_demon.specs.Recovering.{Recovering}
use Rattle.world_parties.specs.States.{IsRecovery}
use Rattle.world_next.specs.Working.{recovery_at}

pub works_with : (c : Core) (by : ℕ) → is_worker c by ≡ true → (c.servers by).recovery ≡ recovery_at c by
works_with c by works = sym (ap (λ b. if b then (c.servers by).recovery else None) works)

pub works_without : (c : Core) (by : ℕ) → is_worker c by ≡ false → None ≡ recovery_at c by
works_without c by idle = sym (ap (λ b. if b then (c.servers by).recovery else None) idle)

pub of_disk : (n m by : ℕ) (recovery : Option Recovering) → n ≡ m → IsRecovery n by recovery → IfSome recovery (λ r. r.segments ≡ m)
of_disk n m by None same fits = tt
of_disk n m by (Some r) same fits = fits.disk ∙ same

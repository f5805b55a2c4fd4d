-- A lease that begins or is renewed, on both sides.
use Rattle.std.proofs.Common.{◌≡◌, ℕ, ◌+◌, ◌==◌, false, if◌then◌else◌, IsTrue, sym, ap, ◌∙◌}
use Rattle.frang_base.specs.Functions.{put}
use Rattle.frang_base.specs.declared.limits.TheConstants.{LEASE_TICKS}
use Rattle.frang_base.proofs.Basics.{at_put}
use Rattle.core_definitions.specs.LineGuards.{is_server}
use Rattle.core_definitions.specs.Scripts.{host_party}
use Rattle.core_definitions.specs.Servers.{Server}
use Rattle.core_laws.proofs.Resting.{server_no_host}
use Rattle.sector_world.specs.World.{World}
use Rattle.core_world.specs.Ties.{expiry_at}

-- a server's lease, and not the host's
pub own_lease : (now b expiry : ℕ) → (b == host_party) ≡ false → expiry_at now b expiry ≡ expiry
own_lease now b expiry e = ap (λ x. if x then now + LEASE_TICKS else expiry) e

pub lease_begun : (servers : ℕ → Server) (w : World) (now a : ℕ) (new : Server) → IsTrue (is_server a) → new.expiry ≡ w.now + LEASE_TICKS →
    ((b : ℕ) → w.expiry b ≡ expiry_at now b (servers b).expiry) → (b : ℕ) →
    put w.expiry a (w.now + LEASE_TICKS) b ≡ expiry_at now b (put servers a new b).expiry
lease_begun servers w now a new server m old b =
    at_put (λ y. y ≡ expiry_at now b (put servers a new b).expiry) w.expiry a (w.now + LEASE_TICKS) b
    (λ e. at_put (λ y. w.now + LEASE_TICKS ≡ expiry_at now b y.expiry) servers a new b
    (λ i. sym m ∙ sym (own_lease now b new.expiry (ap (λ n. n == host_party) e ∙ server_no_host a server))) (λ n. absurd (n e)))
    (λ n. at_put (λ y. w.expiry b ≡ expiry_at now b y.expiry) servers a new b (λ e. absurd (n e)) (λ o. old b))

-- What phases are to one another, and that who is doomed is mounted.
use Rattle.std.proofs.Common.{◌≡◌, ℕ, Bool, true, not, ◌&&◌, ◌||◌, IsTrue, Option, Some, None, nat_lt, refl, sym}
use Rattle.std.proofs.lemmas.Bool.{false≢true}
use Rattle.std.proofs.lemmas.Option.{none-some}
use Rattle.std.specs.List.{list_any}
use Rattle.tree_definitions.specs.Transcript.{is_crash}
use Rattle.core_definitions.specs.Cores.{Core, clean_at, writes}
use Rattle.core_definitions.specs.Servers.{Arming, Phase, Off, Up, Still, Doomed, Dead, asks, is_in_mount, is_still, is_up}
use Rattle.core_definitions.specs.WriteGuards.{CanDoom, is_at_last, is_issuable}
use Rattle.core_laws.proofs.Memory.{Safe, is_resting}
use Rattle.core_laws.proofs.Resting.{server_no_host}

pub up_mounted : (p : Phase) → IsTrue (is_up p) → is_in_mount p ≡ true
up_mounted Off h = absurd (false≢true h)
up_mounted Up h = refl
up_mounted Still h = absurd (false≢true h)
up_mounted (Doomed fate) h = absurd (false≢true h)
up_mounted Dead h = absurd (false≢true h)

pub still_mounted : (p : Phase) → IsTrue (is_still p) → is_in_mount p ≡ true
still_mounted Off h = absurd (false≢true h)
still_mounted Up h = absurd (false≢true h)
still_mounted Still h = refl
still_mounted (Doomed fate) h = absurd (false≢true h)
still_mounted Dead h = absurd (false≢true h)

-- who rests has no arming, and nothing else dooms it
mounted_cause : (p : Phase) (arming : Option Arming) (k x y z f : Bool) → (IsTrue (is_resting p) → arming ≡ None) →
    IsTrue ((is_up p && k) || (is_at_last arming && x) || ((is_still p && y) && z) || ((is_up p || is_still p) && f)) → is_in_mount p ≡ true
mounted_cause Off None k x y z f rests h = absurd (false≢true h)
mounted_cause Off (Some arming) k x y z f rests h = absurd (none-some arming (sym (rests refl)))
mounted_cause Up arming k x y z f rests h = refl
mounted_cause Still arming k x y z f rests h = refl
mounted_cause (Doomed fate) arming k x y z f rests h = refl
mounted_cause Dead None k x y z f rests h = absurd (false≢true h)
mounted_cause Dead (Some arming) k x y z f rests h = absurd (none-some arming (sym (rests refl)))

pub doomed_mounted : (c : Core) (a : ℕ) → Safe c.servers → CanDoom c a → is_in_mount (c.servers a).phase ≡ true
doomed_mounted c a safe can =
    mounted_cause (c.servers a).phase (c.servers a).arming (asks is_crash (c.servers a)) (list_any (λ entry. is_issuable c a entry.0 (writes c a)) (writes c a))
    (nat_lt (c.servers a).expiry c.now)
    (not (clean_at c a)) (c.servers a).failed (λ d. (safe.bare a (server_no_host a can.server) d).arming) can.cause

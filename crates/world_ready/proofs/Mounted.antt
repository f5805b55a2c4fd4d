-- Who may be doomed is mounted, and so is who has a line over paths under way.
use Rattle.std.proofs.Common.{ℕ, ◌≡◌, ◌<◌, ⊎_elim, Bool, true, false, ◌&&◌, ◌||◌, ◌==◌, not, nat_lt, if◌then◌else◌, Option, Some, None, is_some, [], ◌∷◌, refl, arith, eqb-true}
use Rattle.std.specs.List.{list_any}
use Rattle.std.proofs.lemmas.Bool.{and_parts, or_cases}
use Rattle.frang_base.specs.declared.limits.TheConstants.{SERVERS}
use Rattle.core_definitions.specs.Cores.{Core, clean_at, stage, writes}
use Rattle.core_definitions.specs.Lines.{Stage, Under}
use Rattle.core_definitions.specs.LineGuards.{is_server}
use Rattle.core_definitions.specs.Scripts.{host_party}
use Rattle.core_definitions.specs.Servers.{Phase, Off, Up, Still, Doomed, Dead, asks, is_in_mount, is_off, is_open, is_still, is_up, stage_under}
use Rattle.core_definitions.specs.WriteGuards.{CanDoom, is_at_last, is_crashing, is_faulted, is_held_back, is_issuable, is_past_lease, is_worker}
use Rattle.core_definitions.specs.Writes.{Writes}
use Rattle.core_laws.proofs.Guarding.{issuable_can}
use Rattle.tree_definitions.specs.Apply.{is_path_op}
use Rattle.tree_definitions.specs.Transcript.{is_crash}
use Rattle.frang_base.specs.declared.op.Op.{Op}

pub up_is_mounted : (phase : Phase) → is_up phase ≡ true → is_in_mount phase ≡ true
up_is_mounted Off up = absurd (cc)
up_is_mounted Up up = refl
up_is_mounted Still up = absurd (cc)
up_is_mounted (Doomed fate) up = absurd (cc)
up_is_mounted Dead up = absurd (cc)

pub up_is_on : (phase : Phase) → is_up phase ≡ true → is_off phase ≡ false
up_is_on Off up = absurd (cc)
up_is_on Up up = refl
up_is_on Still up = absurd (cc)
up_is_on (Doomed fate) up = absurd (cc)
up_is_on Dead up = absurd (cc)

still_is_mounted : (phase : Phase) → is_still phase ≡ true → is_in_mount phase ≡ true
still_is_mounted Off still = absurd (cc)
still_is_mounted Up still = absurd (cc)
still_is_mounted Still still = refl
still_is_mounted (Doomed fate) still = absurd (cc)
still_is_mounted Dead still = absurd (cc)

-- ---- Doom

no_host : (a : ℕ) → a < SERVERS → (a == host_party) ≡ true → ⊥
no_host a small host = let same : a ≡ host_party = eqb-true a host_party host in absurd (omega arith)

module _ (c : Core) (a : ℕ) (small : a < SERVERS) where
  worker_is_up : is_worker c a ≡ true → is_up (c.servers a).phase ≡ true
  worker_is_up works =
      ⊎_elim (λ own. (and_parts (is_server a) (is_up (c.servers a).phase) own).1) (λ host. absurd (no_host a small host)) (or_cases (is_server a && is_up (c.servers a).phase) (a == host_party) works)

  held_back_is_up : (all xs : Writes) → list_any (λ entry. is_issuable c a entry.0 all) xs ≡ true → is_up (c.servers a).phase ≡ true
  held_back_is_up all [] some = absurd (cc)
  held_back_is_up all (x ∷ xs) some =
      ⊎_elim (λ here. worker_is_up (issuable_can c a x.0 all here).who) (λ rest. held_back_is_up all xs rest)
      (or_cases (is_issuable c a x.0 all) (list_any (λ entry. is_issuable c a entry.0 all) xs) some)

  crashing_is_up : is_crashing (c.servers a) ≡ true → is_up (c.servers a).phase ≡ true
  crashing_is_up crashes = (and_parts (is_up (c.servers a).phase) (asks is_crash (c.servers a)) crashes).0

  held_is_up : is_held_back c a (writes c a) ≡ true → is_up (c.servers a).phase ≡ true
  held_is_up held =
      held_back_is_up (writes c a) (writes c a) (and_parts (is_at_last (c.servers a).arming) (list_any (λ entry. is_issuable c a entry.0 (writes c a)) (writes c a)) held).1

  past_is_still : (is_past_lease c a && not (clean_at c a)) ≡ true → is_still (c.servers a).phase ≡ true
  past_is_still past =
      (and_parts (is_still (c.servers a).phase) (nat_lt (c.servers a).expiry c.now) (and_parts (is_past_lease c a) (not (clean_at c a)) past).0).0

  faulted_is_mounted : is_faulted (c.servers a) ≡ true → is_in_mount (c.servers a).phase ≡ true
  faulted_is_mounted faults =
      ⊎_elim (up_is_mounted (c.servers a).phase) (still_is_mounted (c.servers a).phase)
      (or_cases (is_up (c.servers a).phase) (is_still (c.servers a).phase) (and_parts (is_up (c.servers a).phase || is_still (c.servers a).phase) (c.servers a).failed faults).0)

  ends_at_once : (is_crashing (c.servers a) || is_held_back c a (writes c a)) ≡ true → is_in_mount (c.servers a).phase ≡ true
  ends_at_once ends =
      up_is_mounted (c.servers a).phase (⊎_elim crashing_is_up held_is_up (or_cases (is_crashing (c.servers a)) (is_held_back c a (writes c a)) ends))

  ends_by_lease : (is_crashing (c.servers a) || is_held_back c a (writes c a) || (is_past_lease c a && not (clean_at c a))) ≡ true → is_in_mount (c.servers a).phase ≡ true
  ends_by_lease ends =
      ⊎_elim ends_at_once (λ past. still_is_mounted (c.servers a).phase (past_is_still past))
      (or_cases (is_crashing (c.servers a) || is_held_back c a (writes c a)) (is_past_lease c a && not (clean_at c a)) ends)

  pub dooms_mounted : CanDoom c a → is_in_mount (c.servers a).phase ≡ true
  dooms_mounted can =
      ⊎_elim ends_by_lease faulted_is_mounted
      (or_cases (is_crashing (c.servers a) || is_held_back c a (writes c a) || (is_past_lease c a && not (clean_at c a))) (is_faulted (c.servers a)) can.cause)

-- ---- a line over paths

staged : (b : Bool) (at : Option Stage) → is_some (if b then at else None) ≡ true → b ≡ true
staged true at some = refl
staged false at some = absurd (cc)

open_is_some : (test : Op → Bool) (under : Option Under) → is_open test under ≡ true → is_some under ≡ true
open_is_some test None opens = absurd (cc)
open_is_some test (Some under) opens = refl

module _ (c : Core) (a : ℕ) (some : is_some (stage c a) ≡ true) where
  goes : (is_up (c.servers a).phase && asks is_path_op (c.servers a)) ≡ true
  goes = staged (is_up (c.servers a).phase && asks is_path_op (c.servers a)) (stage_under c.setting c.locks a (c.servers a).cache (c.servers a).under) some

  pub staged_is_up : is_up (c.servers a).phase ≡ true
  staged_is_up = (and_parts (is_up (c.servers a).phase) (asks is_path_op (c.servers a)) goes).0

  pub staged_has_line : is_some (c.servers a).under ≡ true
  staged_has_line = open_is_some is_path_op (c.servers a).under (and_parts (is_up (c.servers a).phase) (asks is_path_op (c.servers a)) goes).1

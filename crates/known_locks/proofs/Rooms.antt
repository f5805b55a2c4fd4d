-- There is room both in the table and beside it exactly where there is room in both; who holds a lock is a server.
use Rattle.std.proofs.Common.{◌≡◌, ℕ, ◌<◌, ◌≤◌, List, [], get_or, Option, Some, None, IsSome, is_some, unwrap_or, if◌then◌else◌, refl, sym, ap, ◌∙◌, subst, inl, inr, ◌⊎◌, arith, min}
use Rattle.std.proofs.lemmas.Bool.{cases_lt}
use Rattle.std.proofs.lemmas.List.FromFn.{get_or-map-range_with_len}
use Rattle.frang_base.specs.declared.lock.LockId.{LockId}
use Rattle.lock_definitions.specs.declared.claim.Claim.{Claim}
use Rattle.lock_definitions.specs.Locks.{Claims, Locks, no_claim, claim_in, held}
use Rattle.lock_table.specs.Asked.{servers}
use Rattle.lock_table.specs.Kept.{HasSpace, KeepsSpace}
use Rattle.lock_table.specs.Table.{Table, HasRoom, KeepsRoom}
use Rattle.known_locks.specs.Beside.{both, known_table}
use Rattle.ordered_map.specs.Entries.{room_for}
use Rattle.std.specs.Map.{lookup}
use Rattle.lock_definitions.specs.Order.{lock_cmp, is_lock}

module _ (table beside : List ℕ) where
  both_at : (s : ℕ) → s < 16 → get_or (both table beside) s 0 ≡ min (get_or table s 0) (get_or beside s 0)
  unfolding servers
  both_at s inside = get_or-map-range_with_len (λ t. min (get_or table t 0) (get_or beside t 0)) 0 16 s s 0 inside (omega arith)

  pub space_in_table : HasSpace (both table beside) → HasSpace table
  space_in_table space s inside = omega (arith, space s inside, both_at s inside)

  pub space_beside : HasSpace (both table beside) → HasSpace beside
  space_beside space s inside = omega (arith, space s inside, both_at s inside)

  pub space_in_both : HasSpace table → HasSpace beside → HasSpace (both table beside)
  space_in_both first second s inside = omega (arith, first s inside, second s inside, both_at s inside)

pub room_in_table : (table : Table) (beside : List ℕ) (server : ℕ) (lock : LockId) → HasRoom (known_table table beside) server lock → HasRoom table server lock
room_in_table table beside server lock had = (had.0, space_in_table table.room beside had.1)

pub room_in_both : (table : Table) (beside : List ℕ) (server : ℕ) (lock : LockId) → HasRoom table server lock → HasSpace beside → HasRoom (known_table table beside) server lock
room_in_both table beside server lock had space = (had.0, space_in_both table.room beside had.1 space)

-- room that is kept in both is kept
pub keeps_room : (old new : Table) (before after : List ℕ) → KeepsRoom old new → KeepsSpace before after → KeepsRoom (known_table old before) (known_table new after)
keeps_room old new before after table beside server lock had =
    room_in_both new after server lock (table server lock (room_in_table old before server lock had)) (λ s inside. omega (arith, space_beside old.room before had.1 s inside, beside s))

-- who holds a lock is one of the sixteen
pub holder_inside : (locks : Locks) (known : List Claims) (server : ℕ) (lock : LockId) (claim : Claim) → known ≡ locks.clerks → claim ≡ claim_in (get_or known server []) lock → (16 ≤ server → claim ≡ no_claim) → IsSome (held locks server lock) → server < 16
holder_inside locks known server lock claim same is past some = go (cases_lt server 16)
  where
    none_some : {A : Type 0} (o : Option A) → o ≡ None → IsSome o → ⊥
    none_some o none some = cc (subst IsSome none some)

    go : (server < 16) ⊎ (16 ≤ server) → server < 16
    go (inl inside) = inside
    go (inr beyond) = absurd (none_some (held locks server lock) (ap (λ clerks. (claim_in (get_or clerks server []) lock).held) (sym same) ∙ ap (λ c. c.held) (sym is ∙ past beyond)) some)

-- a lock that is held needs no room
pub held_needs_none : (locks : Locks) (known : List Claims) (server : ℕ) (lock : LockId) → known ≡ locks.clerks → IsSome (held locks server lock) → room_for lock_cmp (get_or known server []) lock ≡ 0
held_needs_none locks known server lock same some = ap (λ clerks. room_for lock_cmp (get_or clerks server []) lock) same ∙ go (lookup (is_lock lock) (get_or locks.clerks server [])) some
  where
    go : (o : Option Claim) → IsSome (unwrap_or o no_claim).held → ◌≡◌ {A = ℕ} (if is_some o then 0 else 1) 0
    go (Some claim) some = refl
    go None some = cc some

-- What each party lists of what it knows itself to have.
use Rattle.std.specs.Prelude.{ℕ, suc, ◌==◌, if◌then◌else◌, Option, Some, None, List, [], ◌∷◌, ◌++◌, map}
use Rattle.std.specs.List.{filter_map, flat_map, cons_option}
use Rattle.std.specs.Option.{option_map}
use Rattle.frang_base.specs.declared.lock.LockId.{LockId}
use Rattle.frang_base.specs.declared.lock.Mode.{Mode}
use Rattle.frang_base.specs.declared.lock.Mode.TheVariants.{Shared, Sole}
use Rattle.frang_base.specs.declared.sector.ServerId.{ServerId}
use Rattle.lock_definitions.specs.declared.claim.Claim.{Claim}
use Rattle.lock_definitions.specs.declared.claim.LogHold.{LogHold}
use Rattle.lock_definitions.specs.declared.lists.ClerkLocks.{ClerkLocks}
use Rattle.lock_definitions.specs.Locks.{Claims, Locks, claims_of}
use Rattle.lock_table.specs.Asked.{servers}

-- the locks that are held, each with its mode, ascending
abbrev pub held_in : Claims → List (LockId × Mode)
held_in claims = filter_map (λ entry. option_map (λ mode. (entry.0, mode)) entry.1.held) claims

-- the wishes of one claim: the shared one, then the sole one
abbrev pub wishes_of : LockId × Claim → List (LockId × Mode)
wishes_of entry = (if entry.1.wishes_shared then (entry.0, Shared) ∷ [] else []) ++ (if entry.1.wishes_sole then (entry.0, Sole) ∷ [] else [])

-- the noted wishes, ascending by lock
abbrev pub wishes_in : Claims → List (LockId × Mode)
wishes_in claims = flat_map wishes_of claims

-- a log that this party has taken, with the expiry
abbrev pub log_by : ℕ → ℕ → Option LogHold → Option (ServerId × ℕ)
log_by party dead None = None
log_by party dead (Some hold) = if hold.by.0 == party then Some (record { 0 = dead }, hold.expiry) else None

-- the logs from a dead server on that this party has taken, ascending by dead server
abbrev pub logs_from : ℕ → ℕ → List (Option LogHold) → List (ServerId × ℕ)
logs_from party dead [] = []
logs_from party dead (hold ∷ holds) = cons_option (log_by party dead hold) (logs_from party (suc dead) holds)

-- what a party holds, wishes and has taken
abbrev pub clerk_of : Locks → ℕ → ClerkLocks
clerk_of locks party = record {
  server = record { 0 = party };
  held = held_in (claims_of locks party);
  wants = wishes_in (claims_of locks party);
  logs = logs_from party 0 locks.logs;
}

-- who has locks or takes logs: the servers, and then the host
unfoldable pub parties : List ℕ
parties = servers ++ 255 ∷ []

-- the lists are those of each server, and then of the host
abbrev pub clerks_of : Locks → List ClerkLocks
clerks_of locks = map (clerk_of locks) parties

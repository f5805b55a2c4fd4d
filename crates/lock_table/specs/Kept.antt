-- How a lock table keeps its locks: the claims of all servers on each, and for each server the locks that it is asked for.
use Rattle.std.specs.Prelude.{◌≡◌, ℕ, ◌<◌, ◌≤◌, ◌+◌, Bool, false, not, ◌||◌, if◌then◌else◌, is_some, Option, Some, None, unwrap_or, List, [], ◌++◌, length, take, drop, map, filter, slice_index, slice_index_or, slice_set}
use Rattle.std.specs.List.{filter_map}
use Rattle.std.specs.List.Sorted.{IsStrictlySortedBy}
use Rattle.std.specs.Map.{lookup, remove_entry, keys_of}
use Rattle.std.specs.BTreeMap.{insert_entry}
use Rattle.std.specs.Option.{option_map, option_map_or}
use Rattle.frang_base.specs.declared.lock.LockId.{LockId}
use Rattle.frang_base.specs.declared.limits.TheConstants.{SERVERS}
use Rattle.lock_definitions.specs.declared.claim.Claim.{Claim}
use Rattle.lock_definitions.specs.declared.claim.AskedFor.{AskedFor}
use Rattle.lock_definitions.specs.Order.{lock_cmp, is_lock}
use Rattle.lock_definitions.specs.Locks.{Claims, no_claim, is_no_claim}
use Rattle.lock_table.specs.Asked.{Claimed, Asked, servers, claim_by, is_unclaimed, unclaimed, asked_by, with_made, growth}

-- the claims on each lock, ascending by lock
abbrev pub Entries : Type 0
Entries = List (LockId × Claimed)

-- the claims on a lock
abbrev pub claimed_at : Entries → LockId → Claimed
claimed_at entries lock = unwrap_or (lookup (is_lock lock) entries) unclaimed

-- the locks of whose claims a function makes something, each with that
abbrev pub chosen : {V W : Type 0} → (V → Option W) → List (LockId × V) → List (LockId × W)
chosen of entries = filter_map (λ entry. option_map (λ made. (entry.0, made)) (of entry.1)) entries

-- the claim, where something is held or wished
abbrev pub some_claim : Claim → Option Claim
some_claim claim = if is_no_claim claim then None else Some claim

-- a server's claim, where it has one
abbrev pub claimed_by : ℕ → Claimed → Option Claim
claimed_by server claims = some_claim (claim_by server claims)

-- the claims of each server
abbrev pub clerks_of : Entries → List Claims
clerks_of entries = map (λ server. chosen (claimed_by server) entries) servers

-- what each server is asked for
abbrev pub asked_lists : Entries → List Asked
asked_lists entries = map (λ server. chosen (asked_by server) entries) servers

-- the claims on each lock, and for how many more locks that it is asked for each server has room
pub record Kept : Type 0 where
  pub entries : Entries
  pub room : List ℕ

-- each server's list has room for one more
abbrev pub HasSpace : List ℕ → Type 0
HasSpace room = (server : ℕ) → server < SERVERS → 0 < slice_index room server

-- no server's list has less room
abbrev pub KeepsSpace : List ℕ → List ℕ → Type 0
KeepsSpace old new = (server : ℕ) → slice_index old server ≤ slice_index new server

-- each server's list has room for what these claims on a lock in the place of those add to it
abbrev pub Fits : List ℕ → Claimed → Claimed → Type 0
Fits room before now = (server : ℕ) → server < SERVERS → growth (asked_by server before) (asked_by server now) ≤ slice_index room server

-- no server's list has less room, but for what those claims on a lock in the place of these add to it
abbrev pub KeepsSpaceBut : List ℕ → List ℕ → Claimed → Claimed → Type 0
KeepsSpaceBut old new before now = (server : ℕ) → slice_index old server ≤ slice_index new server + growth (asked_by server before) (asked_by server now)

-- the entries with one for the lock
abbrev pub placed : Entries → LockId → Entries
placed entries lock = if is_some (lookup (is_lock lock) entries) then entries else insert_entry lock_cmp entries lock unclaimed

-- a lock is the one that is kept without claims
abbrev pub is_reserved : Option LockId → LockId → Bool
is_reserved reserved lock = option_map_or (λ kept. is_lock kept lock) reserved false

-- the entry is needed: something is claimed, or its lock is kept
abbrev pub is_needed : Option LockId → LockId × Claimed → Bool
is_needed reserved entry = not (is_unclaimed entry.1) || is_reserved reserved entry.0

-- the entries with these claims on a lock, and without its entry where it is then not needed
abbrev pub replaced : Entries → LockId → Claimed → Option LockId → Entries
replaced entries lock claims reserved = if is_needed reserved (lock, claims) then insert_entry lock_cmp entries lock claims else remove_entry (is_lock lock) entries

-- the entries without that of a lock that nobody claims, unless it is kept
abbrev pub tidied : Entries → LockId → Option LockId → Entries
tidied entries lock reserved = if is_needed reserved (lock, claimed_at entries lock) then entries else remove_entry (is_lock lock) entries

-- the same for the lock that was kept before, if any
abbrev pub freed : Entries → Option LockId → Option LockId → Entries
freed entries None reserved = entries
freed entries (Some lock) reserved = tidied entries lock reserved

-- the lock that is kept, but for this one
abbrev pub unreserved : Option LockId → LockId → Option LockId
unreserved reserved lock = if is_reserved reserved lock then None else reserved

-- the claims on a lock without those of a server
abbrev pub ended : ℕ → Claimed → Claimed
ended dead claims = slice_set claims dead no_claim

-- the entries without the claims of a server, and without those that are then not needed
abbrev pub ended_all : Entries → ℕ → Option LockId → Entries
ended_all entries dead reserved = filter (is_needed reserved) (map (λ entry. (entry.0, ended dead entry.1)) entries)

-- what a server is asked for of a listed lock, as its claims say
abbrev pub asked_anew : ℕ → Entries → LockId × AskedFor → Option (LockId × AskedFor)
asked_anew server entries entry = option_map (λ asked. (entry.0, asked)) (asked_by server (claimed_at entries entry.0))

-- the same of all listed locks
abbrev pub renewed : ℕ → Entries → Asked → Asked
renewed server entries list = filter_map (asked_anew server entries) list

-- the first so many locks of a list are made anew, and so many are left
pub record IsWalked (server : ℕ) (entries : Entries) (all now : Asked) (i left : ℕ) : Type 0 where
  pub sorted : IsStrictlySortedBy lock_cmp (keys_of now)
  pub made : take i now ++ renewed server entries (drop i now) ≡ renewed server entries all
  pub long : length now ≡ i + left

-- the list has this of a lock, and stays where it is put there once more
pub record IsListed (list : Asked) (lock : LockId) (asked : Option AskedFor) : Type 0 where
  pub found : lookup (is_lock lock) list ≡ asked
  pub same : with_made list lock asked ≡ list

-- each server's list says of a lock what these claims say
abbrev pub AreListed : List Asked → LockId → Claimed → Type 0
AreListed lists lock claims = (server : ℕ) → server < SERVERS → IsListed (slice_index_or lists server []) lock (asked_by server claims)

-- the claims on a lock but for one server's
abbrev pub IsSameBeside : ℕ → Claimed → Claimed → Type 0
IsSameBeside server before now = (other : ℕ) → (other ≡ server → ⊥) → claim_by other now ≡ claim_by other before

-- each server's list, where the claims on a lock are now these
abbrev pub settled : List Asked → LockId → Claimed → List Asked
settled lists lock claims = map (λ server. with_made (slice_index_or lists server []) lock (asked_by server claims)) servers

-- each server's list, as the claims say of what it lists
abbrev pub renewed_all : List Asked → Entries → List Asked
renewed_all lists entries = map (λ server. renewed server entries (slice_index_or lists server [])) servers

-- the entries ascend, and each server's list is what they ask it for
pub record AreKept (entries : Entries) (lists : List Asked) : Type 0 where
  pub ordered : IsStrictlySortedBy lock_cmp (keys_of entries)
  pub asked : lists ≡ asked_lists entries

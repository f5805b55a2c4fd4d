-- Which entries are synced: those after which a sync or an unmount of their server is answered `ok` before its next mount.
use Rattle.std.specs.Prelude.{◌≡◌, ◌⊎◌, ℕ, Bool, true, false, ◌&&◌, ◌==◌, List, [], ◌∷◌, ◌++◌}
use Rattle.std.specs.List.{list_any}
use Rattle.frang_base.specs.declared.op.Op.{Op}
use Rattle.tree_definitions.specs.declared.history.Entry.{Entry}
use Rattle.tree_definitions.specs.History.{Settled, Stays, InDoubt}
use Rattle.tree_definitions.specs.Touched.{is_ok, is_sync, is_unmount, is_stall, stalled_after, is_synced}
use Rattle.tree_definitions.specs.Removal.{mounts}

-- a step stalls the server
abbrev pub stalls : ℕ → Settled → Bool
stalls server (Stays e) = e.server.0 == server && (is_stall e.op && is_ok e.reply)
stalls server (InDoubt runs) = false

-- a sync, or an unmount of a server that isn't stalled: no stall of it was before the list since its last mount, and none is in the list so far
abbrev pub MakesSure : ℕ → Bool → List Settled → Op → Type 0
MakesSure server stalled before op = (is_sync op ≡ true) ⊎ ((is_unmount op ≡ true) × (stalled ≡ false) × (list_any (stalls server) before ≡ false))

-- before the server's next mount such an entry of it is answered `ok`; `stalled` says whether a stall of it was before the list since its last mount
pub record MadeSure (server : ℕ) (stalled : Bool) (list : List Settled) : Type 0 where
  pub before : List Settled
  pub entry : Entry
  pub rest : List Settled
  pub splits : list ≡ before ++ Stays entry ∷ rest
  pub own : entry.server.0 == server ≡ true
  pub ok : is_ok entry.reply ≡ true
  pub present : list_any (mounts server) before ≡ false
  pub sure : MakesSure server stalled before entry.op

-- what is synced in a list was made sure there
abbrev pub SyncedWasMadeSure : Type 0
SyncedWasMadeSure = (server : ℕ) (stalled : Bool) (list : List Settled) → is_synced server stalled list ≡ true → MadeSure server stalled list

-- what was made sure is synced
abbrev pub WhatMakesSureSyncs : Type 0
WhatMakesSureSyncs = (server : ℕ) (stalled : Bool) (list : List Settled) → MadeSure server stalled list → is_synced server stalled list ≡ true

-- what is carried along a list: whether the server was stalled since its last mount
abbrev pub stalled_along : ℕ → Bool → List Settled → Bool
stalled_along server stalled [] = stalled
stalled_along server stalled (s ∷ list) = stalled_along server (stalled_after server stalled s) list

-- a stall of the server was answered `ok` in a list, and no mount of it follows
pub record StalledSinceItsMount (server : ℕ) (list : List Settled) : Type 0 where
  pub before : List Settled
  pub stall : Settled
  pub rest : List Settled
  pub splits : list ≡ before ++ stall ∷ rest
  pub stalled : stalls server stall ≡ true
  pub present : list_any (mounts server) rest ≡ false

-- what is carried along a list says that
abbrev pub CarriedIsAStall : Type 0
CarriedIsAStall = (server : ℕ) (list : List Settled) → stalled_along server false list ≡ true → StalledSinceItsMount server list

-- and is said where it holds
abbrev pub AStallIsCarried : Type 0
AStallIsCarried = (server : ℕ) (list : List Settled) → StalledSinceItsMount server list → stalled_along server false list ≡ true

-- What must be kept, with one step more at the end of a list: a recovery that removes nothing seen or synced removes nothing of the kind then either, where this
-- step shows nothing of what is removed and makes none of it sure.
use Rattle.std.specs.Prelude.{◌≡◌, ℕ, Bool, true, false, not, ◌&&◌, ◌||◌, ◌==◌, if◌then◌else◌, List, [], ◌∷◌, ◌++◌}
use Rattle.std.specs.List.{list_any}
use Rattle.tree_definitions.specs.History.{Settled, Stays, InDoubt, after, after_all}
use Rattle.tree_definitions.specs.Removal.{begins_removal, keeps_known, mounts}
use Rattle.tree_definitions.specs.Touched.{changed, changes_room, is_nospace, is_ok, is_sync, is_unmount, touches}
use Rattle.tree_definitions.specs.Tree.{FileTree}
use Rattle.tree_laws.specs.Syncing.{stalled_along}

-- ---- what a step shows

-- the step is another server's entry
abbrev pub is_foreign : ℕ → Settled → Bool
is_foreign server (Stays e) = not (e.server.0 == server)
is_foreign server (InDoubt runs) = false

-- it touches the node of this birth, at the tree before it
abbrev pub step_touches : FileTree → Settled → ℕ → Bool
step_touches tree (Stays e) birth = touches tree e birth
step_touches tree (InDoubt runs) birth = false

-- it is refused for want of room
abbrev pub is_refused : Settled → Bool
is_refused (Stays e) = is_nospace e.reply
is_refused (InDoubt runs) = false

-- the last step, before which the tree is `last`, shows nothing of an entry of the server that stands at `tree`: it is of the same server, or it touches no node
-- that the entry changed, and where the entry made or freed room it isn't refused for want of it
abbrev pub is_hidden : (server : ℕ) → (last : FileTree) → Settled → (tree : FileTree) → Settled → Bool
is_hidden server last s tree (Stays e) =
    not (e.server.0 == server) || not (is_foreign server s && (list_any (step_touches last s) (changed tree e) || (changes_room tree e && is_refused s)))
is_hidden server last s tree (InDoubt runs) = true

-- nor of any of a list
abbrev pub are_hidden : (server : ℕ) → (last : FileTree) → Settled → (tree : FileTree) → List Settled → Bool
are_hidden server last s tree [] = true
are_hidden server last s tree (x ∷ rest) = is_hidden server last s tree x && are_hidden server last s (after tree x) rest

-- nor of any from the place on where a recovery begins to remove
abbrev pub are_hidden_from_cut : (server keeps : ℕ) → (last : FileTree) → Settled → (tree : FileTree) → List Settled → Bool
are_hidden_from_cut server keeps last s tree [] = true
are_hidden_from_cut server keeps last s tree (x ∷ rest) =
    if begins_removal server keeps tree x rest then are_hidden server last s tree (x ∷ rest) else are_hidden_from_cut server keeps last s (after tree x) rest

-- ---- what a step makes sure

-- a sync of the server that is answered `ok`, or an unmount of it that is, where no stall was since its last mount
abbrev pub makes_sure : (server : ℕ) → (stalled : Bool) → Settled → Bool
makes_sure server stalled (Stays e) = e.server.0 == server && ((is_sync e.op && is_ok e.reply) || (is_unmount e.op && is_ok e.reply && not stalled))
makes_sure server stalled (InDoubt runs) = false

-- ---- the law

-- a recovery removes something of the list
abbrev pub removes_some : (server keeps : ℕ) → FileTree → List Settled → Bool
removes_some server keeps tree [] = false
removes_some server keeps tree (x ∷ rest) = begins_removal server keeps tree x rest || removes_some server keeps (after tree x) rest

-- the step shows nothing of what a recovery removes of the list, and makes none of it sure
pub record TellsNothing (server keeps : ℕ) (tree : FileTree) (list : List Settled) (s : Settled) : Type 0 where
  pub hidden : are_hidden_from_cut server keeps (after_all tree list) s tree list ≡ true
  pub unsure : makes_sure server (stalled_along server false list) s ≡ false

-- so it is asked where the recovery removes something, and the step doesn't mount the server
abbrev pub KnownStays : Type 0
KnownStays =
    (server keeps : ℕ) (tree : FileTree) (list : List Settled) (s : Settled) → keeps_known server keeps false tree list ≡ true →
    (removes_some server keeps tree list ≡ true → mounts server s ≡ false → TellsNothing server keeps tree list s) → keeps_known server keeps false tree (list ++ s ∷ []) ≡ true

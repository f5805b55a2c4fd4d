-- What is left of a list without the entries of a server, none of which is seen, does what it did in the whole list.
use Rattle.std.specs.Prelude.{◌≡◌, ℕ, Bool, true, false, ◌&&◌, ◌||◌, ◌==◌, List, [], ◌∷◌, ◌++◌}
use Rattle.tree_definitions.specs.declared.history.Entry.{Entry}
use Rattle.tree_definitions.specs.Tree.{FileTree, node_at}
use Rattle.tree_definitions.specs.History.{Settled, Stays, InDoubt, is_answer, after, after_all, legal_from}
use Rattle.tree_definitions.specs.Touched.{touches, changes, is_ok}
use Rattle.tree_definitions.specs.Removal.{writes_file, is_recorded, keeps_known, left, recovered}
use Rattle.tree_definitions.specs.WellFormed.{IsWellFormed, AreNew}
use Rattle.tree_laws.specs.Removing.{without, none_seen, has_room, room_left}
use Rattle.tree_laws.specs.Alike.{AlikeBy, Vaguer}

-- the tree of the whole list and that of what is left have the same node of a birth, or both none, but for doubt: where a file has a byte in
-- the first it has this byte or is in doubt in the second, and where it is in doubt in the first it is in the second
abbrev pub SameButForDoubt : FileTree → FileTree → ℕ → Type 0
SameButForDoubt whole rest birth = AlikeBy Vaguer (node_at whole birth) (node_at rest birth)

-- an entry does the same in both trees: it is an answer in both or in neither, touches the same nodes, and has a record in both or in neither.
-- What it changes in the first it changes in the second, and a node that is the same in both it changes in both or in neither. What it changes
-- in the second alone is of a write, fill or truncate answered `ok`: there it makes bytes of what was in doubt, which were these bytes in the first
pub record DoesTheSame (whole rest : FileTree) (e : Entry) : Type 0 where
  pub answered : is_answer whole e ≡ is_answer rest e
  pub touched : (birth : ℕ) → touches whole e birth ≡ touches rest e birth
  pub changed : (birth : ℕ) → changes whole e birth ≡ true → changes rest e birth ≡ true
  pub changed_alike : (birth : ℕ) → node_at whole birth ≡ node_at rest birth → changes whole e birth ≡ changes rest e birth
  pub only_writes : (birth : ℕ) → changes whole e birth ≡ false → changes rest e birth ≡ true → writes_file e.op && is_ok e.reply ≡ true
  pub recorded : is_recorded whole e ≡ is_recorded rest e

-- an entry of the server in a list changed the node of a birth
abbrev pub changed_by : ℕ → FileTree → List Settled → ℕ → Bool
changed_by server tree [] birth = false
changed_by server tree (InDoubt runs ∷ list) birth = changed_by server (after tree (InDoubt runs)) list birth
changed_by server tree (Stays e ∷ list) birth = (e.server.0 == server && changes tree e birth) || changed_by server (after tree (Stays e)) list birth

-- a list, and what is left of it without the entries of a server, from one tree on
pub record LeavesAlike (server : ℕ) (tree : FileTree) (list : List Settled) : Type 0 where
  -- each entry that is left does the same at its place in both
  pub entries : (before : List Settled) (e : Entry) (later : List Settled) → list ≡ before ++ Stays e ∷ later → e.server.0 == server ≡ false
      → DoesTheSame (after_all tree before) (after_all tree (without server before)) e
  -- it touches nothing that a removed entry before it changed
  pub apart : (before : List Settled) (e : Entry) (later : List Settled) → list ≡ before ++ Stays e ∷ later → e.server.0 == server ≡ false
      → (birth : ℕ) → touches (after_all tree before) e birth ≡ true → changed_by server tree before birth ≡ false
  -- at each place a node that no removed entry before it changed is the same in both but for doubt
  pub trees : (before later : List Settled) → list ≡ before ++ later
      → (birth : ℕ) → changed_by server tree before birth ≡ false → SameButForDoubt (after_all tree before) (after_all tree (without server before)) birth

-- what is left of a legal list without a server's entries, none of which is seen, does what it did
abbrev pub WhatIsLeftDoesTheSame : Type 0
WhatIsLeftDoesTheSame = (server : ℕ) (tree : FileTree) (ever : ℕ) (list : List Settled) → IsWellFormed tree → AreNew tree list → legal_from tree ever list ≡ true
    → none_seen server tree list ≡ true → has_room tree (without server list) ≡ true → LeavesAlike server tree list

-- a list, and what a recovery leaves of it: up to a place all, and from there on what is left without the entries of the server. At the end
-- a node that no removed entry changed is the same in both but for doubt
pub record RecoveryLeavesAlike (server keeps : ℕ) (opening : FileTree) (list : List Settled) : Type 0 where
  pub before : List Settled
  pub later : List Settled
  pub splits : list ≡ before ++ later
  pub leaves : left server keeps opening list ≡ before ++ without server later
  pub alike : LeavesAlike server (after_all opening before) later
  pub ends : (birth : ℕ) → changed_by server (after_all opening before) later birth ≡ false → SameButForDoubt (after_all opening list) (after_all opening (recovered opening server keeps list)) birth

-- a recovery that removes nothing seen or synced leaves what does the same
abbrev pub WhatARecoveryLeavesDoesTheSame : Type 0
WhatARecoveryLeavesDoesTheSame = (server keeps : ℕ) (opening : FileTree) (ever : ℕ) (list : List Settled) → IsWellFormed opening → AreNew opening list → legal_from opening ever list ≡ true
    → keeps_known server keeps false opening list ≡ true → room_left server keeps opening list ≡ true → RecoveryLeavesAlike server keeps opening list

-- What nobody saw can go: the rest of a history stays legal, with the same replies.
use Rattle.std.specs.Prelude.{◌≡◌, ℕ, Bool, true, false, not, ◌&&◌, ◌||◌, ◌==◌, if◌then◌else◌, List, [], ◌∷◌, filter}
use Rattle.tree_definitions.specs.Tree.{FileTree}
use Rattle.tree_definitions.specs.History.{Settled, Stays, InDoubt, applied, leaves_tree, after, legal_from}
use Rattle.tree_definitions.specs.Touched.{is_seen, is_nospace}
use Rattle.tree_definitions.specs.Removal.{is_of, begins_removal, keeps_known, recovered}
use Rattle.tree_laws.specs.Touching.{wants_room}
use Rattle.tree_definitions.specs.WellFormed.{IsWellFormed, AreNew}

-- a list without the entries of a server
abbrev pub without : ℕ → List Settled → List Settled
without server list = filter (λ s. not (is_of server s)) list

-- no entry of the server is seen in the rest of the list
abbrev pub none_seen : ℕ → FileTree → List Settled → Bool
none_seen server tree [] = true
none_seen server tree (InDoubt runs ∷ rest) = none_seen server (after tree (InDoubt runs)) rest
none_seen server tree (Stays e ∷ rest) = (not (e.server.0 == server) || not (is_seen tree e rest)) && none_seen server (after tree (Stays e)) rest

-- along a list no entry finds want of room, but those that leave the tree or were answered so before
abbrev pub has_room : FileTree → List Settled → Bool
has_room tree [] = true
has_room tree (InDoubt runs ∷ rest) = has_room (after tree (InDoubt runs)) rest
has_room tree (Stays e ∷ rest) = (leaves_tree e.op e.reply || (is_nospace e.reply || not (wants_room (applied tree e).answer))) && has_room (after tree (Stays e)) rest

-- where a recovery removes, no entry of another server after that finds want of room now, that found none before
abbrev pub room_left : ℕ → ℕ → FileTree → List Settled → Bool
room_left server keeps tree [] = true
room_left server keeps tree (s ∷ rest) = if begins_removal server keeps tree s rest then has_room tree (without server (s ∷ rest)) else room_left server keeps (after tree s) rest

-- a legal list without a server's entries, none of which is seen, is legal
abbrev pub UnseenCanGo : Type 0
UnseenCanGo = (server : ℕ) (tree : FileTree) (ever : ℕ) (list : List Settled) → IsWellFormed tree → AreNew tree list → legal_from tree ever list ≡ true
    → none_seen server tree list ≡ true → has_room tree (without server list) ≡ true → legal_from tree ever (without server list) ≡ true

-- a recovery that removes nothing seen or synced leaves a legal list legal
abbrev pub RecoveryLeavesLegal : Type 0
RecoveryLeavesLegal = (server keeps : ℕ) (opening : FileTree) (ever : ℕ) (list : List Settled) → IsWellFormed opening → AreNew opening list → legal_from opening ever list ≡ true
    → keeps_known server keeps false opening list ≡ true → room_left server keeps opening list ≡ true → legal_from opening ever (recovered opening server keeps list) ≡ true

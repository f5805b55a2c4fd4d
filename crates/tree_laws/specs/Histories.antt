-- What one item more at its end makes of a history, of its settled list and of its tree.
use Rattle.std.specs.Prelude.{◌≡◌, ℕ, ◌+◌, ◌&&◌, false, List, [], ◌∷◌, ◌++◌}
use Rattle.frang_base.specs.declared.sector.OpNo.{OpNo}
use Rattle.frang_base.specs.declared.sector.ServerId.{ServerId}
use Rattle.tree_definitions.specs.declared.history.Entry.{Entry}
use Rattle.tree_definitions.specs.declared.history.Item.{Item}
use Rattle.tree_definitions.specs.declared.history.Item.TheVariants.{Did, Recovered}
use Rattle.tree_definitions.specs.Tree.{FileTree}
use Rattle.tree_definitions.specs.History.{Opening, Settled, Stays, after, after_all, grows, legal_from, may_stand, tree_after}
use Rattle.tree_definitions.specs.Removal.{settled, recovered, keeps, keeps_known, is_legal, tree_of}

-- the blocks that were ever a directory's, at the end of a list
abbrev pub ever_after : FileTree → ℕ → List Settled → ℕ
ever_after tree ever [] = ever
ever_after tree ever (s ∷ ss) = ever_after (after tree s) (ever + grows tree s) ss

-- one entry more settles at the end
abbrev pub EntrySettles : Type 0
EntrySettles = (opening : FileTree) (history : List Item) (e : Entry) → settled opening (history ++ Did e ∷ []) ≡ settled opening history ++ Stays e ∷ []

-- one recovery more acts on all that has settled before it
abbrev pub RecoverySettles : Type 0
RecoverySettles = (opening : FileTree) (history : List Item) (server : ServerId) (kept : OpNo) → settled opening (history ++ Recovered server kept ∷ []) ≡ recovered opening server.0 kept.0 (settled opening history)

-- the tree of one entry more
abbrev pub EntryActs : Type 0
EntryActs = (opening : Opening) (history : List Item) (e : Entry) → tree_of opening (history ++ Did e ∷ []) ≡ tree_after (tree_of opening history) e

-- a history with one entry more is legal where it was, and the entry may stand at its end
abbrev pub EntryIsLegal : Type 0
EntryIsLegal = (opening : Opening) (history : List Item) (e : Entry) →
    is_legal opening (history ++ Did e ∷ [])
    ≡ is_legal opening history && may_stand (tree_of opening history) (ever_after opening.tree opening.dir_blocks (settled opening.tree history)) (Stays e)

-- one entry more takes nothing from what must be kept
abbrev pub EntryKeeps : Type 0
EntryKeeps = (opening : Opening) (history : List Item) (e : Entry) → keeps opening (history ++ Did e ∷ []) ≡ keeps opening history

-- one recovery more keeps what must be kept where the others did, and it removes nothing that is seen or synced
abbrev pub RecoveryKeeps : Type 0
RecoveryKeeps = (opening : Opening) (history : List Item) (server : ServerId) (kept : OpNo) →
    keeps opening (history ++ Recovered server kept ∷ []) ≡ keeps opening history && keeps_known server.0 kept.0 false opening.tree (settled opening.tree history)

-- the steps of a list act one after another
abbrev pub StepsFollow : Type 0
StepsFollow = (tree : FileTree) (xs ys : List Settled) → after_all tree (xs ++ ys) ≡ after_all (after_all tree xs) ys

-- a list of steps is legal where its beginning is, and its end is from there on
abbrev pub LegalByParts : Type 0
LegalByParts = (tree : FileTree) (ever : ℕ) (xs ys : List Settled) →
    legal_from tree ever (xs ++ ys) ≡ legal_from tree ever xs && legal_from (after_all tree xs) (ever_after tree ever xs) ys

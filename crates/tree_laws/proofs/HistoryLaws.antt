-- One item more at the end of a history, and lists of steps one after another.
use Rattle.std.proofs.Common.{◌≡◌, ℕ, ◌+◌, Bool, true, false, ◌&&◌, List, [], ◌∷◌, ◌++◌, refl, ◌∙◌, ap}
use mathlib.Core.Bool.{and-true}
use Rattle.frang_base.specs.declared.sector.OpNo.{OpNo}
use Rattle.frang_base.specs.declared.sector.ServerId.{ServerId}
use Rattle.tree_definitions.specs.declared.history.Entry.{Entry}
use Rattle.tree_definitions.specs.declared.history.Item.{Item}
use Rattle.tree_definitions.specs.declared.history.Item.TheVariants.{Did, Recovered}
use Rattle.tree_definitions.specs.Tree.{FileTree}
use Rattle.tree_definitions.specs.History.{Opening, Settled, Stays, after, after_all, grows, may_stand, legal_from, tree_after}
use Rattle.tree_definitions.specs.Removal.{settled, settled_from, recovered, keeps_known, kept_from, is_legal, tree_of}
use Rattle.tree_laws.specs.Histories.{ever_after}

pub and-assoc : (a b c : Bool) → a && (b && c) ≡ (a && b) && c
and-assoc true b c = refl
and-assoc false b c = refl

-- settling goes from the left
pub settled-append : (opening : FileTree) (list : List Settled) (items more : List Item) → settled_from opening list (items ++ more) ≡ settled_from opening (settled_from opening list items) more
settled-append opening list [] more = refl
settled-append opening list (Did e ∷ items) more = settled-append opening (list ++ Stays e ∷ []) items more
settled-append opening list (Recovered s k ∷ items) more = settled-append opening (recovered opening s.0 k.0 list) items more

pub settled-push : (opening : FileTree) (list : List Settled) (items : List Item) (e : Entry) → settled_from opening list (items ++ Did e ∷ []) ≡ settled_from opening list items ++ Stays e ∷ []
settled-push opening list items e = settled-append opening list items (Did e ∷ [])

pub settled-recovered : (opening : FileTree) (list : List Settled) (items : List Item) (server : ServerId) (kept : OpNo) → settled_from opening list (items ++ Recovered server kept ∷ []) ≡ recovered opening server.0 kept.0 (settled_from opening list items)
settled-recovered opening list items server kept = settled-append opening list items (Recovered server kept ∷ [])

pub kept-append : (opening : FileTree) (list : List Settled) (items more : List Item) → kept_from opening list (items ++ more) ≡ kept_from opening list items && kept_from opening (settled_from opening list items) more
kept-append opening list [] more = refl
kept-append opening list (Did e ∷ items) more = kept-append opening (list ++ Stays e ∷ []) items more
kept-append opening list (Recovered s k ∷ items) more =
    ap (λ b. keeps_known s.0 k.0 false opening list && b) (kept-append opening (recovered opening s.0 k.0 list) items more)
    ∙ and-assoc (keeps_known s.0 k.0 false opening list) (kept_from opening (recovered opening s.0 k.0 list) items) (kept_from opening (settled_from opening (recovered opening s.0 k.0 list) items) more)

pub kept-push : (opening : FileTree) (list : List Settled) (items : List Item) (e : Entry) → kept_from opening list (items ++ Did e ∷ []) ≡ kept_from opening list items
kept-push opening list items e = kept-append opening list items (Did e ∷ []) ∙ and-true (kept_from opening list items)

pub kept-recovered : (opening : FileTree) (list : List Settled) (items : List Item) (server : ServerId) (kept : OpNo) → kept_from opening list (items ++ Recovered server kept ∷ []) ≡ kept_from opening list items && keeps_known server.0 kept.0 false opening (settled_from opening list items)
kept-recovered opening list items server kept = kept-append opening list items (Recovered server kept ∷ [])
    ∙ ap (λ b. kept_from opening list items && b) (and-true (keeps_known server.0 kept.0 false opening (settled_from opening list items)))

pub after_all-append : (tree : FileTree) (xs ys : List Settled) → after_all tree (xs ++ ys) ≡ after_all (after_all tree xs) ys
after_all-append tree [] ys = refl
after_all-append tree (x ∷ xs) ys = after_all-append (after tree x) xs ys

pub after_all-push : (tree : FileTree) (list : List Settled) (s : Settled) → after_all tree (list ++ s ∷ []) ≡ after (after_all tree list) s
after_all-push tree list s = after_all-append tree list (s ∷ [])

pub ever-append : (tree : FileTree) (ever : ℕ) (xs ys : List Settled) → ever_after tree ever (xs ++ ys) ≡ ever_after (after_all tree xs) (ever_after tree ever xs) ys
ever-append tree ever [] ys = refl
ever-append tree ever (x ∷ xs) ys = ever-append (after tree x) (ever + grows tree x) xs ys

pub legal-append : (tree : FileTree) (ever : ℕ) (xs ys : List Settled) → legal_from tree ever (xs ++ ys) ≡ legal_from tree ever xs && legal_from (after_all tree xs) (ever_after tree ever xs) ys
legal-append tree ever [] ys = refl
legal-append tree ever (x ∷ xs) ys =
    ap (λ b. may_stand tree ever x && b) (legal-append (after tree x) (ever + grows tree x) xs ys)
    ∙ and-assoc (may_stand tree ever x) (legal_from (after tree x) (ever + grows tree x) xs) (legal_from (after_all (after tree x) xs) (ever_after (after tree x) (ever + grows tree x) xs) ys)

pub legal-push : (tree : FileTree) (ever : ℕ) (list : List Settled) (s : Settled) → legal_from tree ever (list ++ s ∷ []) ≡ legal_from tree ever list && may_stand (after_all tree list) (ever_after tree ever list) s
legal-push tree ever list s = legal-append tree ever list (s ∷ []) ∙ ap (λ b. legal_from tree ever list && b) (and-true (may_stand (after_all tree list) (ever_after tree ever list) s))

-- of whole histories
pub tree_of-push : (opening : Opening) (history : List Item) (e : Entry) → tree_of opening (history ++ Did e ∷ []) ≡ tree_after (tree_of opening history) e
tree_of-push opening history e = ap (after_all opening.tree) (settled-push opening.tree [] history e) ∙ after_all-push opening.tree (settled opening.tree history) (Stays e)

pub is_legal-push : (opening : Opening) (history : List Item) (e : Entry) → is_legal opening (history ++ Did e ∷ []) ≡ is_legal opening history && may_stand (tree_of opening history) (ever_after opening.tree opening.dir_blocks (settled opening.tree history)) (Stays e)
is_legal-push opening history e = ap (legal_from opening.tree opening.dir_blocks) (settled-push opening.tree [] history e) ∙ legal-push opening.tree opening.dir_blocks (settled opening.tree history) (Stays e)

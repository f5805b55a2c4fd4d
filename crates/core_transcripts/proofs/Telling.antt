-- What the host says at the end are lines of the tree; and who is told to be settled then.
use Rattle.std.proofs.Common.{ℕ, zero, suc, ◌≡◌, inl, inr, Bool, true, false, ◌==◌, if◌then◌else◌, IsTrue, List, [], ◌∷◌, Option, Some, None, length, nat_lt, refl, subst, sym}
use Rattle.std.specs.List.{flat_map, slice_get}
use Rattle.std.proofs.lemmas.Option.{same_Some}
use Rattle.std.proofs.lemmas.Bool.{lt-ltb}
use Rattle.frang_base.specs.declared.said.Said.{Said}
use Rattle.frang_base.specs.declared.said.Said.TheVariants as said
use Rattle.tree_definitions.specs.Numbers.{below}
use Rattle.tree_definitions.specs.Transcript.{is_node}
use Rattle.tree_definitions.specs.TreeLines.{name_below, path_text}
use Rattle.sector_bytes.specs.Sectors.{sectors_of}
use Rattle.disk_definitions.specs.Store.{Store, StoredNode, store_of}
use Rattle.disk_definitions.proofs.Listed.{Among, below_among}
use Rattle.core_definitions.specs.Trees.{TreeRead, entries_from, lines_at, lines_from, read_lines, sorted_entries}
use Rattle.core_laws.proofs.Membership.{FromFlat, from_flat}

-- ---- lists

pub below_less : (n x : ℕ) → Among x (below n) → IsTrue (nat_lt x n)
below_less n x i = lt-ltb x n (below_among n x i)

pub got_in : {X : Type 0} (xs : List X) (k : ℕ) (x : X) → slice_get xs k ≡ Some x → Among x xs
got_in [] k x e = absurd (cc)
got_in (y ∷ ys) zero x e = inl (sym (same_Some y x e))
got_in (y ∷ ys) (suc k) x e = inr (got_in ys k x e)

-- ---- lines of a tree

abbrev pub AreNodes : List Said → Type 0
AreNodes lines = (x : Said) → Among x lines → is_node x ≡ true

one_node : (x : Said) → is_node x ≡ true → AreNodes (x ∷ [])
one_node x n y (inl e) = subst (λ z. is_node z ≡ true) (sym e) n
one_node x n y (inr i) = absurd i

none_nodes : AreNodes []
none_nodes y i = absurd i

at_nodes : (onward : List ℕ → ℕ → List Said) (store : Store) (text : List ℕ) (o : Option StoredNode) → ((t : List ℕ) (i : ℕ) → AreNodes (onward t i)) → AreNodes (lines_at onward store text o)
at_nodes onward store text None each = none_nodes
at_nodes onward store text (Some node) each = go (node.kind == 2) (node.kind == 1)
  where
    entry_lines : (List ℕ × ℕ) → List Said
    entry_lines entry = onward (name_below text entry.0) entry.1

    below_it : AreNodes (flat_map entry_lines (sorted_entries (entries_from store node)))
    below_it y i =
        let r : FromFlat entry_lines (sorted_entries (entries_from store node)) y = from_flat entry_lines (sorted_entries (entries_from store node)) y i in
        each (name_below text r.from.0) r.from.1 y r.gives_it

    behind : (y : Said) → Among y (said.Node (path_text text) 2 node.size 0 ∷ flat_map entry_lines (sorted_entries (entries_from store node))) → is_node y ≡ true
    behind y (inl e) = subst (λ z. is_node z ≡ true) (sym e) refl
    behind y (inr i) = below_it y i

    go : (a b : Bool) → AreNodes (if a then said.Node (path_text text) 2 node.size 0 ∷ flat_map entry_lines (sorted_entries (entries_from store node))
        else (if b then said.Node (path_text text) 1 node.size node.links ∷ [] else said.Node (path_text text) 3 node.size 0 ∷ []))
    go true b = behind
    go false true = one_node (said.Node (path_text text) 1 node.size node.links) refl
    go false false = one_node (said.Node (path_text text) 3 node.size 0) refl

from_nodes : (depth : ℕ) (store : Store) (text : List ℕ) (inode : ℕ) → AreNodes (lines_from depth store text inode)
from_nodes zero store text inode = none_nodes
from_nodes (suc depth) store text inode = at_nodes (lines_from depth store) store text (store.inode inode) (λ t i. from_nodes depth store t i)

pub tree_nodes : (segments : ℕ) (read : TreeRead) → AreNodes (read_lines segments read)
tree_nodes segments read = from_nodes (length read) (store_of segments (sectors_of read)) [] 0

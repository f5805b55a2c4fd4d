-- What becomes of the list of nodes, and of what they take, where one node is changed.
use Rattle.std.proofs.Common.{◌≡◌, ℕ, ◌+◌, ◌≤◌, Bool, true, false, cond, Option, Some, None, List, [], ◌∷◌, sum_by, sym, refl, ◌∙◌, ap, arith, add-zero}
use Rattle.std.specs.Ordering.{nat_cmp, is_eq, match_ordering}
use Rattle.std.specs.declared.cmp.Ordering.{Ordering}
use Rattle.std.specs.declared.cmp.Ordering.TheVariants.{Less, Equal, Greater}
use Rattle.std.specs.Option.{option_map, unwrap_or}
use Rattle.std.specs.Map.{keys_of, values_of, lookup, set_value, remove_entry}
use Rattle.std.specs.BTreeMap.{is_at, insert_entry}
use Rattle.std.specs.List.Sorted.{IsStrictlySortedBy}
use Rattle.std.specs.Cmp.{nat_cmp_total}
use Rattle.std.proofs.lemmas.Map.{lookup-none}
use Rattle.std.proofs.lemmas.Map.Keys.{sorted_tail}
use Rattle.std.proofs.lemmas.Map.Entries.{none_below_head, sum_by-insert_entry, sum_by-remove_entry, sum_by-set_value}
use Rattle.tree_definitions.specs.declared.node.Node.{Node}
use Rattle.tree_definitions.specs.Tree.{FileTree, node_at}
use Rattle.tree_edits.specs.Counts.{taken_in, IsSwapped}
use Rattle.tree_edits.specs.Edits.{IsEdited, edited, edited_by}

-- a value set at a key that is there is an insertion
insert_is_set : (nodes : List (ℕ × Node)) (k : ℕ) (v w : Node) → IsStrictlySortedBy nat_cmp (keys_of nodes) → lookup (is_at (nat_cmp k)) nodes ≡ Some v → insert_entry nat_cmp nodes k w ≡ set_value (is_at (nat_cmp k)) nodes w
insert_is_set [] k v w sorted found = cc
insert_is_set (e ∷ es) k v w sorted found = go (nat_cmp k e.0) refl (λ later. insert_is_set es k v w (sorted_tail nat_cmp e.0 (keys_of es) sorted) later)
  where
    go : (o : Ordering) → nat_cmp k e.0 ≡ o → (lookup (is_at (nat_cmp k)) es ≡ Some v → insert_entry nat_cmp es k w ≡ set_value (is_at (nat_cmp k)) es w) → insert_entry nat_cmp (e ∷ es) k w ≡ set_value (is_at (nat_cmp k)) (e ∷ es) w
    go Less is rest = let none = lookup-none (is_at (nat_cmp k)) (e ∷ es) (none_below_head nat_cmp_total k e es sorted is) in cc
    go Equal is rest =
        ap (λ o. match_ordering o ((k, w) ∷ e ∷ es) ((e.0, w) ∷ es) (e ∷ insert_entry nat_cmp es k w)) is ∙ ap (λ o. cond (is_eq o) ((e.0, w) ∷ es) (e ∷ set_value (is_at (nat_cmp k)) es w)) (sym is)
    go Greater is rest =
        let later : lookup (is_at (nat_cmp k)) es ≡ Some v = ap (λ o. cond (is_eq o) (Some e.1) (lookup (is_at (nat_cmp k)) es)) (sym is) ∙ found in
        ap (λ o. match_ordering o ((k, w) ∷ e ∷ es) ((e.0, w) ∷ es) (e ∷ insert_entry nat_cmp es k w)) is
        ∙ ap (λ tail. e ∷ tail) (rest later)
        ∙ ap (λ o. cond (is_eq o) ((e.0, w) ∷ es) (e ∷ set_value (is_at (nat_cmp k)) es w)) (sym is)

-- and it is found there
set_is_found : (test : ℕ → Bool) (nodes : List (ℕ × Node)) (v w : Node) → lookup test nodes ≡ Some v → lookup test (set_value test nodes w) ≡ Some w
set_is_found test [] v w found = cc
set_is_found test (e ∷ es) v w found = go (test e.0) refl (λ later. set_is_found test es v w later)
  where
    go : (b : Bool) → test e.0 ≡ b → (lookup test es ≡ Some v → lookup test (set_value test es w) ≡ Some w) → lookup test (set_value test (e ∷ es) w) ≡ Some w
    go true is rest = ap (λ b. lookup test (cond b ((e.0, w) ∷ es) (e ∷ set_value test es w))) is ∙ ap (λ b. cond b (Some w) (lookup test es)) is
    go false is rest =
        let later : lookup test es ≡ Some v = ap (λ b. cond b (Some e.1) (lookup test es)) (sym is) ∙ found in
        ap (λ b. lookup test (cond b ((e.0, w) ∷ es) (e ∷ set_value test es w))) is ∙ ap (λ b. cond b (Some e.1) (lookup test (set_value test es w))) is ∙ rest later

-- the node of the birth after an edit
pub found_edited : (edit : Node → Node) (nodes : List (ℕ × Node)) (birth : ℕ) (after : List (ℕ × Node)) → IsEdited edit nodes birth after → lookup (is_at (nat_cmp birth)) after ≡ option_map edit (lookup (is_at (nat_cmp birth)) nodes)
found_edited edit nodes birth after is = go (lookup (is_at (nat_cmp birth)) nodes) refl
  where
    go : (o : Option Node) → lookup (is_at (nat_cmp birth)) nodes ≡ o → lookup (is_at (nat_cmp birth)) after ≡ option_map edit (lookup (is_at (nat_cmp birth)) nodes)
    go (Some node) found = ap (lookup (is_at (nat_cmp birth))) (is.there node found) ∙ set_is_found (is_at (nat_cmp birth)) nodes node (edit node) found ∙ ap (option_map edit) (sym found)
    go None found = ap (lookup (is_at (nat_cmp birth))) (is.absent found) ∙ found ∙ ap (option_map edit) (sym found)

-- the tree after an edit
pub edited_is : (edit : Node → Node) (tree : FileTree) (birth : ℕ) (after : List (ℕ × Node)) → IsEdited edit tree.nodes birth after → record { segments = tree.segments; nodes = after } ≡ edited tree birth edit
edited_is edit tree birth after is = go (node_at tree birth) refl
  where
    go : (o : Option Node) → node_at tree birth ≡ o → record { segments = tree.segments; nodes = after } ≡ edited tree birth edit
    go (Some node) found =
        ap (λ ns. record { segments = tree.segments; nodes = ns }) (is.there node found ∙ sym (insert_is_set tree.nodes birth node (edit node) is.ordered found)) ∙ ap (edited_by tree birth edit) (sym found)
    go None found = ap (λ ns. record { segments = tree.segments; nodes = ns }) (is.absent found) ∙ ap (edited_by tree birth edit) (sym found)

-- counts after an insertion, a removal and an edit
pub put_swapped : (nodes after : List (ℕ × Node)) (birth : ℕ) (node : Node) → IsStrictlySortedBy nat_cmp (keys_of nodes) → after ≡ insert_entry nat_cmp nodes birth node → lookup (is_at (nat_cmp birth)) after ≡ Some node → IsSwapped nodes birth after
put_swapped nodes after birth node sorted is there count =
    ap (λ ns. sum_by count (values_of ns) + taken_in count nodes birth) is ∙ sum_by-insert_entry count nat_cmp_total nodes birth node sorted
    ∙ ap (λ o. sum_by count (values_of nodes) + unwrap_or (option_map count o) 0) (sym there)

pub same_swapped : (nodes after : List (ℕ × Node)) (birth : ℕ) → after ≡ nodes → IsSwapped nodes birth after
same_swapped nodes after birth is count = ap (λ ns. sum_by count (values_of ns) + taken_in count nodes birth) is ∙ ap (λ ns. sum_by count (values_of nodes) + taken_in count ns birth) (sym is)

pub remove_swapped : (nodes after : List (ℕ × Node)) (birth : ℕ) → after ≡ remove_entry (is_at (nat_cmp birth)) nodes → lookup (is_at (nat_cmp birth)) after ≡ None → IsSwapped nodes birth after
remove_swapped nodes after birth is gone count =
    ap (λ ns. sum_by count (values_of ns) + taken_in count nodes birth) is ∙ sum_by-remove_entry count (is_at (nat_cmp birth)) nodes ∙ sym (add-zero (sum_by count (values_of nodes)))
    ∙ ap (λ o. sum_by count (values_of nodes) + unwrap_or (option_map count o) 0) (sym gone)

pub edited_swapped : (edit : Node → Node) (nodes : List (ℕ × Node)) (birth : ℕ) (after : List (ℕ × Node)) → IsEdited edit nodes birth after → IsSwapped nodes birth after
edited_swapped edit nodes birth after is count = go (lookup (is_at (nat_cmp birth)) nodes) refl
  where
    go : (o : Option Node) → lookup (is_at (nat_cmp birth)) nodes ≡ o → sum_by count (values_of after) + taken_in count nodes birth ≡ sum_by count (values_of nodes) + taken_in count after birth
    go (Some node) found =
        let now : lookup (is_at (nat_cmp birth)) after ≡ Some (edit node) = found_edited edit nodes birth after is ∙ ap (option_map edit) found in
        ap (λ ns. sum_by count (values_of ns) + taken_in count nodes birth) (is.there node found)
        ∙ ap (λ o. sum_by count (values_of (set_value (is_at (nat_cmp birth)) nodes (edit node))) + unwrap_or (option_map count o) 0) found
        ∙ sum_by-set_value count (is_at (nat_cmp birth)) nodes node (edit node) found
        ∙ ap (λ o. sum_by count (values_of nodes) + unwrap_or (option_map count o) 0) (sym now)
    go None found = same_swapped nodes after birth (is.absent found) count

-- a node takes no more than all
pub taken_le : (count : Node → ℕ) (nodes : List (ℕ × Node)) (birth : ℕ) → taken_in count nodes birth ≤ sum_by count (values_of nodes)
taken_le count nodes birth = omega (arith, sum_by-remove_entry count (is_at (nat_cmp birth)) nodes)

-- an edit that lets a count be, or lets it fall
pub edited_le : (count : Node → ℕ) (edit : Node → Node) (nodes : List (ℕ × Node)) (birth : ℕ) (after : List (ℕ × Node)) → ((node : Node) → count (edit node) ≤ count node) → IsEdited edit nodes birth after → taken_in count after birth ≤ taken_in count nodes birth
edited_le count edit nodes birth after falls is = rw (found_edited edit nodes birth after is) (go (lookup (is_at (nat_cmp birth)) nodes))
  where
    go : (o : Option Node) → unwrap_or (option_map count (option_map edit o)) 0 ≤ unwrap_or (option_map count o) 0
    go (Some node) = falls node
    go None = omega arith

pub edited_same : (count : Node → ℕ) (edit : Node → Node) (nodes : List (ℕ × Node)) (birth : ℕ) (after : List (ℕ × Node)) → ((node : Node) → count (edit node) ≡ count node) → IsEdited edit nodes birth after → taken_in count after birth ≡ taken_in count nodes birth
edited_same count edit nodes birth after stays is = ap (λ o. unwrap_or (option_map count o) 0) (found_edited edit nodes birth after is) ∙ go (lookup (is_at (nat_cmp birth)) nodes)
  where
    go : (o : Option Node) → unwrap_or (option_map count (option_map edit o)) 0 ≡ unwrap_or (option_map count o) 0
    go (Some node) = stays node
    go None = refl

-- What is found of a tree in which one node was set, and of entries of which one is gone.
use Rattle.std.proofs.Common.{◌≡◌, ℕ, Bool, true, false, cond, Some, None, List, [], ◌∷◌, sym, refl, ◌∙◌, ap}
use Rattle.std.specs.Ordering.{nat_cmp, is_eq, match_ordering}
use Rattle.std.specs.declared.cmp.Ordering.{Ordering}
use Rattle.std.specs.declared.cmp.Ordering.TheVariants.{Less, Equal, Greater}
use Rattle.std.specs.Cmp.Lexicographic.{slice_cmp}
use Rattle.std.specs.FinMap.{nat_cmp-IsAntisymmetric}
use Rattle.std.specs.Map.{lookup}
use Rattle.std.specs.BTreeMap.{is_at, insert_entry}
use Rattle.frang_base.proofs.Tests.{cmp_itself}
use Rattle.tree_definitions.specs.declared.node.Node.{Node}
use Rattle.tree_definitions.specs.Entries.{Entries, entry_at, without_entry}
use Rattle.tree_definitions.specs.Tree.{FileTree, node_at, with_node}

apart_key : (q k : ℕ) → (q ≡ k → ⊥) → is_at (nat_cmp q) k ≡ false
apart_key q k differ = go (nat_cmp q k) refl
  where
    go : (o : Ordering) → nat_cmp q k ≡ o → is_eq (nat_cmp q k) ≡ false
    go Less e = ap is_eq e
    go Equal e = absurd (differ (nat_cmp-IsAntisymmetric q k e))
    go Greater e = ap is_eq e

here : (nodes : List (ℕ × Node)) (k : ℕ) (v : Node) → lookup (is_at (nat_cmp k)) (insert_entry nat_cmp nodes k v) ≡ Some v
here [] k v = ap (λ o. cond (is_eq o) (Some v) None) (cmp_itself k)
here (e ∷ es) k v = go (nat_cmp k e.0) refl (here es k v)
  where
    go : (o : Ordering) → nat_cmp k e.0 ≡ o → lookup (is_at (nat_cmp k)) (insert_entry nat_cmp es k v) ≡ Some v → lookup (is_at (nat_cmp k)) (insert_entry nat_cmp (e ∷ es) k v) ≡ Some v
    go Less is rest = ap (λ o. lookup (is_at (nat_cmp k)) (match_ordering o ((k, v) ∷ e ∷ es) ((e.0, v) ∷ es) (e ∷ insert_entry nat_cmp es k v))) is ∙ ap (λ o. cond (is_eq o) (Some v) (lookup (is_at (nat_cmp k)) (e ∷ es))) (cmp_itself k)
    go Equal is rest = ap (λ o. lookup (is_at (nat_cmp k)) (match_ordering o ((k, v) ∷ e ∷ es) ((e.0, v) ∷ es) (e ∷ insert_entry nat_cmp es k v))) is ∙ ap (λ o. cond (is_eq o) (Some v) (lookup (is_at (nat_cmp k)) es)) is
    go Greater is rest =
        ap (λ o. lookup (is_at (nat_cmp k)) (match_ordering o ((k, v) ∷ e ∷ es) ((e.0, v) ∷ es) (e ∷ insert_entry nat_cmp es k v))) is
        ∙ ap (λ o. cond (is_eq o) (Some e.1) (lookup (is_at (nat_cmp k)) (insert_entry nat_cmp es k v))) is ∙ rest

elsewhere : (nodes : List (ℕ × Node)) (k q : ℕ) (v : Node) → (q ≡ k → ⊥) → lookup (is_at (nat_cmp q)) (insert_entry nat_cmp nodes k v) ≡ lookup (is_at (nat_cmp q)) nodes
elsewhere [] k q v differ = ap (λ b. cond b (Some v) None) (apart_key q k differ)
elsewhere (e ∷ es) k q v differ = go (nat_cmp k e.0) refl (elsewhere es k q v differ)
  where
    go : (o : Ordering) → nat_cmp k e.0 ≡ o → lookup (is_at (nat_cmp q)) (insert_entry nat_cmp es k v) ≡ lookup (is_at (nat_cmp q)) es → lookup (is_at (nat_cmp q)) (insert_entry nat_cmp (e ∷ es) k v) ≡ lookup (is_at (nat_cmp q)) (e ∷ es)
    go Less is rest =
        ap (λ o. lookup (is_at (nat_cmp q)) (match_ordering o ((k, v) ∷ e ∷ es) ((e.0, v) ∷ es) (e ∷ insert_entry nat_cmp es k v))) is
        ∙ ap (λ b. cond b (Some v) (lookup (is_at (nat_cmp q)) (e ∷ es))) (apart_key q k differ)
    go Equal is rest =
        let other : is_at (nat_cmp q) e.0 ≡ false = apart_key q e.0 (λ same. differ (same ∙ sym (nat_cmp-IsAntisymmetric k e.0 is))) in
        ap (λ o. lookup (is_at (nat_cmp q)) (match_ordering o ((k, v) ∷ e ∷ es) ((e.0, v) ∷ es) (e ∷ insert_entry nat_cmp es k v))) is
        ∙ ap (λ b. cond b (Some v) (lookup (is_at (nat_cmp q)) es)) other
        ∙ ap (λ b. cond b (Some e.1) (lookup (is_at (nat_cmp q)) es)) (sym other)
    go Greater is rest =
        ap (λ o. lookup (is_at (nat_cmp q)) (match_ordering o ((k, v) ∷ e ∷ es) ((e.0, v) ∷ es) (e ∷ insert_entry nat_cmp es k v))) is
        ∙ ap (cond (is_at (nat_cmp q) e.0) (Some e.1)) rest

twice : (nodes : List (ℕ × Node)) (k : ℕ) (v w : Node) → insert_entry nat_cmp (insert_entry nat_cmp nodes k v) k w ≡ insert_entry nat_cmp nodes k w
twice [] k v w = ap (λ o. match_ordering o ((k, w) ∷ (k, v) ∷ []) ((k, w) ∷ []) ((k, v) ∷ (k, w) ∷ [])) (cmp_itself k)
twice (e ∷ es) k v w = go (nat_cmp k e.0) refl (twice es k v w)
  where
    go : (o : Ordering) → nat_cmp k e.0 ≡ o → insert_entry nat_cmp (insert_entry nat_cmp es k v) k w ≡ insert_entry nat_cmp es k w → insert_entry nat_cmp (insert_entry nat_cmp (e ∷ es) k v) k w ≡ insert_entry nat_cmp (e ∷ es) k w
    go Less is rest =
        ap (λ o. insert_entry nat_cmp (match_ordering o ((k, v) ∷ e ∷ es) ((e.0, v) ∷ es) (e ∷ insert_entry nat_cmp es k v)) k w) is
        ∙ ap (λ o. match_ordering o ((k, w) ∷ (k, v) ∷ e ∷ es) ((k, w) ∷ e ∷ es) ((k, v) ∷ insert_entry nat_cmp (e ∷ es) k w)) (cmp_itself k)
        ∙ ap (λ o. match_ordering o ((k, w) ∷ e ∷ es) ((e.0, w) ∷ es) (e ∷ insert_entry nat_cmp es k w)) (sym is)
    go Equal is rest =
        ap (λ o. insert_entry nat_cmp (match_ordering o ((k, v) ∷ e ∷ es) ((e.0, v) ∷ es) (e ∷ insert_entry nat_cmp es k v)) k w) is
        ∙ ap (λ o. match_ordering o ((k, w) ∷ (e.0, v) ∷ es) ((e.0, w) ∷ es) ((e.0, v) ∷ insert_entry nat_cmp es k w)) is
        ∙ ap (λ o. match_ordering o ((k, w) ∷ e ∷ es) ((e.0, w) ∷ es) (e ∷ insert_entry nat_cmp es k w)) (sym is)
    go Greater is rest =
        ap (λ o. insert_entry nat_cmp (match_ordering o ((k, v) ∷ e ∷ es) ((e.0, v) ∷ es) (e ∷ insert_entry nat_cmp es k v)) k w) is
        ∙ ap (λ o. match_ordering o ((k, w) ∷ e ∷ insert_entry nat_cmp es k v) ((e.0, w) ∷ insert_entry nat_cmp es k v) (e ∷ insert_entry nat_cmp (insert_entry nat_cmp es k v) k w)) is
        ∙ ap (λ tail. e ∷ tail) rest
        ∙ ap (λ o. match_ordering o ((k, w) ∷ e ∷ es) ((e.0, w) ∷ es) (e ∷ insert_entry nat_cmp es k w)) (sym is)

pub found_here : (tree : FileTree) (k : ℕ) (node : Node) → node_at (with_node tree k node) k ≡ Some node
found_here tree k node = here tree.nodes k node

pub found_elsewhere : (tree : FileTree) (k q : ℕ) (node : Node) → (q ≡ k → ⊥) → node_at (with_node tree k node) q ≡ node_at tree q
found_elsewhere tree k q node differ = elsewhere tree.nodes k q node differ

pub set_twice : (tree : FileTree) (k : ℕ) (first second : Node) → with_node (with_node tree k first) k second ≡ with_node tree k second
set_twice tree k first second = ap (λ nodes. record { segments = tree.segments; nodes = nodes }) (twice tree.nodes k first second)

-- of two names that lead to different nodes, one stays when the other goes
pub other_stays : (entries : Entries) (name other : List ℕ) (birth old : ℕ) → (old ≡ birth → ⊥) → entry_at entries name ≡ Some birth → entry_at entries other ≡ Some old → entry_at (without_entry entries name) other ≡ Some old
other_stays [] name other birth old differ has found = found
other_stays (e ∷ es) name other birth old differ has found = go (is_at (slice_cmp nat_cmp name) e.0) refl (is_at (slice_cmp nat_cmp other) e.0) refl (λ h f. other_stays es name other birth old differ h f)
  where
    at : List ℕ → Bool
    at n = is_at (slice_cmp nat_cmp n) e.0

    go : (a : Bool) → at name ≡ a → (b : Bool) → at other ≡ b → (entry_at es name ≡ Some birth → entry_at es other ≡ Some old → entry_at (without_entry es name) other ≡ Some old) → entry_at (without_entry (e ∷ es) name) other ≡ Some old
    go true here true there rest =
        let is_birth : Some e.1 ≡ Some birth = ap (λ b. cond b (Some e.1) (entry_at es name)) (sym here) ∙ has in
        let is_old : Some e.1 ≡ Some old = ap (λ b. cond b (Some e.1) (entry_at es other)) (sym there) ∙ found in
        let same : old ≡ birth = cc in
        absurd (differ same)
    go true here false there rest =
        ap (λ b. entry_at (cond b es (e ∷ without_entry es name)) other) here ∙ ap (λ b. cond b (Some e.1) (entry_at es other)) (sym there) ∙ found
    go false here true there rest =
        let is_old : Some e.1 ≡ Some old = ap (λ b. cond b (Some e.1) (entry_at es other)) (sym there) ∙ found in
        ap (λ b. entry_at (cond b es (e ∷ without_entry es name)) other) here ∙ ap (λ b. cond b (Some e.1) (entry_at (without_entry es name) other)) there ∙ is_old
    go false here false there rest =
        let later : entry_at es name ≡ Some birth = ap (λ b. cond b (Some e.1) (entry_at es name)) (sym here) ∙ has in
        let found_later : entry_at es other ≡ Some old = ap (λ b. cond b (Some e.1) (entry_at es other)) (sym there) ∙ found in
        ap (λ b. entry_at (cond b es (e ∷ without_entry es name)) other) here ∙ ap (λ b. cond b (Some e.1) (entry_at (without_entry es name) other)) there ∙ rest later found_later

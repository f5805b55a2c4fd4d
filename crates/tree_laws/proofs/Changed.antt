-- A birth is among the changed ones of an entry exactly where the entry changes its node.
use Rattle.std.proofs.Common.{ℕ, ◌≡◌, ◌==◌, Bool, true, false, ◌||◌, Option, Some, None, List, [], ◌∷◌, map, filter, cond, refl, sym, ◌∙◌, ap, eqb-true, eq-eqb}
use Rattle.std.specs.List.{list_any}
use Rattle.std.specs.Map.{lookup}
use Rattle.std.specs.BTreeMap.{is_at}
use Rattle.std.specs.Ordering.{nat_cmp}
use Rattle.std.proofs.lemmas.Bool.{and_parts, or_right}
use Rattle.std.proofs.lemmas.Map.Views.{any-filter_same}
use Rattle.tree_definitions.specs.declared.history.Entry.{Entry}
use Rattle.tree_definitions.specs.declared.node.Node.{Node}
use Rattle.tree_definitions.specs.Tree.{FileTree, node_at}
use Rattle.tree_definitions.specs.History.{applied, is_answer}
use Rattle.tree_definitions.specs.Touched.{changes, changed, births, differs}
use Rattle.tree_definitions.proofs.Pairs.{tie, birth_exact}
use Rattle.tree_laws.proofs.Places.{is_in}
use Rattle.tree_laws.proofs.Applying.{in_left, in_right}
use Rattle.tree_laws.proofs.Sameness.{no_difference}

found_in : (ns : List (ℕ × Node)) (b : ℕ) (x : Node) → lookup (is_at (nat_cmp b)) ns ≡ Some x → is_in b (map (λ n. n.0) ns) ≡ true
found_in [] b x h = cc
found_in (n ∷ ns) b x h = go (is_at (nat_cmp b) n.0) refl h (λ i. found_in ns b x i)
  where
    go : (t : Bool) → is_at (nat_cmp b) n.0 ≡ t → cond t (Some n.1) (lookup (is_at (nat_cmp b)) ns) ≡ Some x → (lookup (is_at (nat_cmp b)) ns ≡ Some x → is_in b (map (λ n. n.0) ns) ≡ true) → is_in b (n.0 ∷ map (λ n. n.0) ns) ≡ true
    go true e h later = ap (λ t. t || is_in b (map (λ n. n.0) ns)) (eq-eqb n.0 b (sym (tie nat_cmp birth_exact b n.0 e)))
    go false e h later = or_right (n.0 == b) (is_in b (map (λ n. n.0) ns)) (later h)

-- trees differ only at births of either
pub differs_in : (old new : FileTree) (b : ℕ) → differs old new b ≡ true → is_in b (births old new) ≡ true
differs_in old new b d = go (node_at old b) (node_at new b) refl refl
  where
    go : (o q : Option Node) → node_at old b ≡ o → node_at new b ≡ q → is_in b (births old new) ≡ true
    go (Some x) q i j = in_left b (map (λ n. n.0) old.nodes) (map (λ n. n.0) new.nodes) (found_in old.nodes b x i)
    go None (Some y) i j = in_right b (map (λ n. n.0) old.nodes) (map (λ n. n.0) new.nodes) (found_in new.nodes b y j)
    go None None i j = absurd (let e : differs old new b ≡ false = no_difference old new b (i ∙ sym j) in cc)

pub changed_in : (t : FileTree) (e : Entry) (b : ℕ) → changes t e b ≡ true → is_in b (changed t e) ≡ true
changed_in t e b h =
    any-filter_same (λ c. c == b) (changes t e) true (λ c i. ap (changes t e) (eqb-true c b i) ∙ h) (births t (applied t e).tree)
    ∙ differs_in t (applied t e).tree b (and_parts (is_answer t e) (differs t (applied t e).tree b) h).1

-- what a test finds in a list
pub any_in : (test : ℕ → Bool) (b : ℕ) (bs : List ℕ) → is_in b bs ≡ true → test b ≡ true → list_any test bs ≡ true
any_in test b [] h t = cc
any_in test b (c ∷ bs) h t = go (c == b) refl h (λ i. any_in test b bs i t)
  where
    go : (q : Bool) → c == b ≡ q → q || is_in b bs ≡ true → (is_in b bs ≡ true → list_any test bs ≡ true) → test c || list_any test bs ≡ true
    go true e h later = ap (λ k. k || list_any test bs) (ap test (eqb-true c b e) ∙ t)
    go false e h later = or_right (test c) (list_any test bs) (later h)

pub any_changed : (test : ℕ → Bool) (t : FileTree) (e : Entry) (b : ℕ) → changes t e b ≡ true → test b ≡ true → list_any test (changed t e) ≡ true
any_changed test t e b h i = any_in test b (changed t e) (changed_in t e b h) i

-- a test that finds one among those that another test keeps
abbrev Found : (ℕ → Bool) → (ℕ → Bool) → Type 0
Found test keep = (b : ℕ) × (keep b ≡ true) × (test b ≡ true)

any_kept : (test keep : ℕ → Bool) (bs : List ℕ) → list_any test (filter keep bs) ≡ true → Found test keep
any_kept test keep [] h = absurd (cc)
any_kept test keep (c ∷ bs) h = go (keep c) refl h (λ i. any_kept test keep bs i)
  where
    either : keep c ≡ true → (q : Bool) → test c ≡ q → q || list_any test (filter keep bs) ≡ true → (list_any test (filter keep bs) ≡ true → Found test keep) → Found test keep
    either k true e h later = (c, k, e)
    either k false e h later = later h

    go : (k : Bool) → keep c ≡ k → list_any test (cond k (c ∷ filter keep bs) (filter keep bs)) ≡ true → (list_any test (filter keep bs) ≡ true → Found test keep) → Found test keep
    go true e h later = either e (test c) refl h later
    go false e h later = later h

pub one_changed : (test : ℕ → Bool) (t : FileTree) (e : Entry) → list_any test (changed t e) ≡ true → (b : ℕ) × (changes t e b ≡ true) × (test b ≡ true)
one_changed test t e h = any_kept test (changes t e) (births t (applied t e).tree) h

-- The fresh tree is well formed, and a well-formed tree can be walked.
use Rattle.std.proofs.Common.{ℕ, ◌≡◌, ◌≢◌, ◌+◌, Some, None, List, [], cond, refl, sym, ◌∙◌, ap, subst, ne_eqb, arith}
use Rattle.std.specs.List.Sorted.{IsStrictlySortedBy}
use Rattle.std.specs.Map.{keys_of}
use Rattle.std.specs.Ordering.{nat_cmp}
use Rattle.std.specs.Cmp.Lexicographic.{slice_cmp}
use Rattle.tree_definitions.specs.declared.node.Node.TheVariants.{Dir}
use Rattle.tree_definitions.specs.Tree.{FileTree, fresh, node_at}
use Rattle.tree_definitions.specs.Apply.{links_of}
use Rattle.tree_definitions.specs.WellFormed.{IsWellFormed, IsWalkable, BirthsAscend, NamesAscend, LinksAreNames, names_of, one_at}
use Rattle.tree_definitions.proofs.Births.{each_but}
use Rattle.tree_laws.proofs.Nodes.{with_other}
use Rattle.tree_laws.proofs.Keeping.{names_nodes}

fresh_births : (segments : ℕ) → BirthsAscend (fresh segments)
unfolding IsStrictlySortedBy
fresh_births segments = (tt, tt)

none_sorted : IsStrictlySortedBy (slice_cmp nat_cmp) (keys_of {K = List ℕ} {X = ℕ} [])
unfolding IsStrictlySortedBy
none_sorted = tt

pub fresh_other : (segments b : ℕ) → b ≢ 0 → node_at (fresh segments) b ≡ None
fresh_other segments b far = with_other (record { segments = segments; nodes = [] }) 0 (Dir [] 0) b far

fresh_names : (segments : ℕ) → NamesAscend (fresh segments)
fresh_names segments dir es n is = each_but (λ c. node_at (fresh segments) c ≡ Some (Dir es n) → IsStrictlySortedBy (slice_cmp nat_cmp) (keys_of es)) 0
    (λ is. (let e : Some (Dir [] 0) ≡ Some (Dir es n) = is in let f : [] ≡ es = cc in subst (λ l. IsStrictlySortedBy (slice_cmp nat_cmp) (keys_of l)) f none_sorted))
    (λ c far is. absurd (let e : None ≡ Some (Dir es n) = sym (fresh_other segments c far) ∙ is in cc)) dir is

fresh_links : (segments : ℕ) → LinksAreNames (fresh segments)
fresh_links segments = each_but (λ b. names_of (fresh segments) b + one_at 0 b ≡ links_of (node_at (fresh segments) b)) 0 refl
    (λ c far. (let z : one_at 0 c ≡ 0 = ap (λ t. cond {A = ℕ} t 1 0) (ne_eqb c 0 far) in let l : links_of (node_at (fresh segments) c) ≡ 0 = ap links_of (fresh_other segments c far) in let g : names_of (fresh segments) c ≡ 0 = refl in omega arith))

pub fresh_well : (segments : ℕ) → IsWellFormed (fresh segments)
fresh_well segments = record { births = fresh_births segments; names = fresh_names segments; rooted = refl; links = fresh_links segments }

pub walkable : (t : FileTree) → IsWellFormed t → IsWalkable t
walkable t w = record { births = w.births; rooted = w.rooted; entries = λ d es n name v is at. names_nodes t w d es n name v is at }

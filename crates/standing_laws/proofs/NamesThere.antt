-- A node with links has a name: what counts names finds one.
use Rattle.std.proofs.Common.{ℕ, ◌≡◌, ◌≤◌, ◌+◌, ◌⊎◌, inl, inr, Bool, true, false, Some, None, List, [], ◌∷◌, sum_by, cond, refl, sym, ◌∙◌, ap, subst, arith, eqb-true, nat_eq}
use Rattle.std.proofs.lemmas.List.Sums.{sum_by-cons}
use Rattle.std.specs.List.{AllByRecursion}
use Rattle.std.specs.List.Sorted.{IsStrictlySortedBy}
use Rattle.std.specs.Map.{lookup, keys_of, values_of}
use Rattle.std.specs.BTreeMap.{is_at}
use Rattle.std.specs.Ordering.{nat_cmp}
use Rattle.std.specs.declared.cmp.Ordering.{Ordering}
use Rattle.std.specs.declared.cmp.Ordering.TheVariants.{Less}
use Rattle.std.specs.Cmp.Lexicographic.{slice_cmp}
use Rattle.tree_definitions.specs.declared.node.Node.{Node}
use Rattle.tree_definitions.specs.declared.node.Node.TheVariants.{Dir, File, Link}
use Rattle.tree_definitions.specs.Tree.{FileTree, node_at}
use Rattle.tree_definitions.specs.WellFormed.{one_at, names_in, names_of, IsWellFormed}
use Rattle.tree_definitions.proofs.Pairs.{IsExact, birth_exact, name_exact, tie, self, none_below}
use Rattle.disk_definitions.specs.Naming.{find_in}
use Rattle.standing_laws.proofs.Walks.{finds}

-- one of two numbers that make a sum of at least 1
one_of_two : (a b n : ℕ) → n ≡ a + b → 1 ≤ n → (1 ≤ a) ⊎ (1 ≤ b)
one_of_two a b n e l = grind arith

module _ {K X : Type 0} (cmp : K → K → Ordering) (exact : IsExact cmp) (f : X → ℕ) where
  -- an entry with a value that counts
  abbrev Counts : List (K × X) → Type 0
  Counts es = (k : K) × (v : X) × (lookup (is_at (cmp k)) es ≡ Some v) × (1 ≤ f v)

  first_counts : (e : K × X) (es : List (K × X)) → 1 ≤ f e.1 → Counts (e ∷ es)
  first_counts e es l = (e.0, e.1, rw (self cmp exact e.0) refl, l)

  -- what a later key finds isn't the first entry's
  later_counts : (e : K × X) (es : List (K × X)) → AllByRecursion (λ y. cmp e.0 y ≡ Less) (keys_of es) → Counts es → Counts (e ∷ es)
  later_counts e es low c = (c.0, c.1, go (is_at (cmp c.0) e.0) refl, c.3)
    where
      go : (b : Bool) → is_at (cmp c.0) e.0 ≡ b → cond b (Some e.1) (lookup (is_at (cmp c.0)) es) ≡ Some c.1
      go true i =
          let q : c.0 ≡ e.0 = tie cmp exact c.0 e.0 i in
          let none : lookup (is_at (cmp c.0)) es ≡ None = subst (λ k. lookup (is_at (cmp k)) es ≡ None) (sym q) (none_below cmp exact es e.0 low) in
          absurd (let z : None ≡ Some c.1 = sym none ∙ c.2 in cc)
      go false i = c.2

  pub counted : (es : List (K × X)) → IsStrictlySortedBy cmp (keys_of es) → 1 ≤ sum_by f (values_of es) → Counts es
  unfolding IsStrictlySortedBy
  counted [] s l = absurd (let z : sum_by f [] ≡ 0 = refl in omega arith)
  counted (e ∷ es) s l = elim (one_of_two (f e.1) (sum_by f (values_of es)) (sum_by f (values_of (e ∷ es))) (sum_by-cons f e.1 (values_of es)) l) [
    | inl here ↦ first_counts e es here
    | inr rest ↦ later_counts e es s.0 (counted es s.1 rest)
  ]

one_means : (b c : ℕ) → 1 ≤ one_at b c → c ≡ b
one_means b c l = go (nat_eq c b) refl l
  where
    go : (t : Bool) → nat_eq c b ≡ t → 1 ≤ cond t 1 0 → c ≡ b
    go true e l = eqb-true c b e
    go false e l = absurd (omega arith)

-- a node that has a name is found by one
pub name_there : (t : FileTree) (b : ℕ) → IsWellFormed t → 1 ≤ names_of t b → (d : ℕ) × (name : List ℕ) × (finds t d name ≡ Some b)
name_there t b w l =
    let c = counted nat_cmp birth_exact (names_in b) t.nodes w.births l in
    in_node c.0 c.1 c.2 c.3
  where
    in_node : (d : ℕ) (x : Node) → node_at t d ≡ Some x → 1 ≤ names_in b x → (d : ℕ) × (name : List ℕ) × (finds t d name ≡ Some b)
    in_node d (Dir es n) is l =
        let c = counted (slice_cmp nat_cmp) name_exact (one_at b) es (w.names d es n is) l in
        let q : c.1 ≡ b = one_means b c.1 c.3 in
        (d, c.0, ap (λ o. find_in o c.0) is ∙ c.2 ∙ ap Some q)
    in_node d (File cells links when) is l = absurd (omega arith)
    in_node d (Link target links) is l = absurd (omega arith)

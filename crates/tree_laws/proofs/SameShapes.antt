-- The shape of a tree by its nodes, and where two trees that are alike but for doubt change it.
use Rattle.std.proofs.Common.{ℕ, ◌≡◌, Bool, true, false, not, ◌||◌, Option, Some, None, List, [], ◌∷◌, ◌++◌, map, cond, refl, sym, ◌∙◌, ap, ap₂, subst, inl, inr}
use Rattle.std.specs.Option.{option_map}
use Rattle.std.specs.List.{list_any}
use Rattle.std.specs.List.Sorted.{IsStrictlySortedBy}
use Rattle.std.specs.Map.{lookup, keys_of}
use Rattle.std.specs.BTreeMap.{is_at}
use Rattle.std.specs.Ordering.{nat_cmp, ordering_reverse}
use Rattle.std.specs.declared.cmp.Ordering.{Ordering}
use Rattle.std.specs.declared.cmp.Ordering.TheVariants.{Less, Equal, Greater}
use Rattle.std.proofs.lemmas.Map.Made.{lookup-map_values}
use Rattle.tree_definitions.specs.declared.node.Node.{Node}
use Rattle.tree_definitions.specs.declared.node.Node.TheVariants.{Dir, File, Link}
use Rattle.tree_definitions.specs.Tree.{FileTree, node_at}
use Rattle.tree_definitions.specs.Touched.{births, differs, same_where, node_shape, shape_of}
use Rattle.tree_definitions.specs.WellFormed.{BirthsAscend}
use Rattle.tree_definitions.proofs.Pairs.{birth_exact, tie, self, none_below, below_all}
use Rattle.tree_laws.proofs.Places.{is_in}
use Rattle.tree_laws.proofs.Sameness.{where_same}
use Rattle.tree_laws.proofs.Likeness.{Like}
use Rattle.tree_laws.proofs.Vagueness.{vague, vague_long}
use Rattle.tree_laws.proofs.ShapeLaws.{doubt_alike}
use Rattle.tree_laws.proofs.Joint.{Both, Joint}
use Rattle.tree_laws.proofs.Changed.{differs_in, any_in}

-- ---- lists in order with the same at each birth are equal
module _ {X : Type 0} where
  found_head : (e : ℕ × X) (es : List (ℕ × X)) → lookup (is_at (nat_cmp e.0)) (e ∷ es) ≡ Some e.1
  found_head e es = rw (self nat_cmp birth_exact e.0) refl

  missed : (k : ℕ) (e : ℕ × X) (es : List (ℕ × X)) → IsStrictlySortedBy nat_cmp (keys_of (e ∷ es)) → nat_cmp k e.0 ≡ Less → lookup (is_at (nat_cmp k)) (e ∷ es) ≡ None
  unfolding IsStrictlySortedBy
  missed k e es s i = none_below nat_cmp birth_exact (e ∷ es) k (i, below_all nat_cmp birth_exact k e.0 (keys_of es) i s.0)

  tails_same : (e : ℕ × X) (es fs : List (ℕ × X)) → IsStrictlySortedBy nat_cmp (keys_of (e ∷ es)) → IsStrictlySortedBy nat_cmp (keys_of (e ∷ fs))
      → ((b : ℕ) → lookup (is_at (nat_cmp b)) (e ∷ es) ≡ lookup (is_at (nat_cmp b)) (e ∷ fs)) → (b : ℕ) → lookup (is_at (nat_cmp b)) es ≡ lookup (is_at (nat_cmp b)) fs
  unfolding IsStrictlySortedBy
  tails_same e es fs s t same b = go (is_at (nat_cmp b) e.0) refl
    where
      go : (c : Bool) → is_at (nat_cmp b) e.0 ≡ c → lookup (is_at (nat_cmp b)) es ≡ lookup (is_at (nat_cmp b)) fs
      go true i = rw (tie nat_cmp birth_exact b e.0 i) (none_below nat_cmp birth_exact es e.0 s.0 ∙ sym (none_below nat_cmp birth_exact fs e.0 t.0))
      go false i = sym (ap (λ c. cond c (Some e.1) (lookup (is_at (nat_cmp b)) es)) i) ∙ same b ∙ ap (λ c. cond c (Some e.1) (lookup (is_at (nat_cmp b)) fs)) i

  same_list : (es fs : List (ℕ × X)) → IsStrictlySortedBy nat_cmp (keys_of es) → IsStrictlySortedBy nat_cmp (keys_of fs) → ((b : ℕ) → lookup (is_at (nat_cmp b)) es ≡ lookup (is_at (nat_cmp b)) fs) → es ≡ fs
  unfolding IsStrictlySortedBy
  same_list [] [] s t same = refl
  same_list [] (f ∷ fs) s t same = absurd (let e : None ≡ Some f.1 = same f.0 ∙ found_head f fs in cc)
  same_list (e ∷ es) [] s t same = absurd (let i : Some e.1 ≡ None = sym (found_head e es) ∙ same e.0 in cc)
  same_list (e ∷ es) (f ∷ fs) s t same = go (nat_cmp e.0 f.0) refl (λ u. same_list es fs s.1 t.1 u)
    where
      go : (o : Ordering) → nat_cmp e.0 f.0 ≡ o → (((b : ℕ) → lookup (is_at (nat_cmp b)) es ≡ lookup (is_at (nat_cmp b)) fs) → es ≡ fs) → e ∷ es ≡ f ∷ fs
      go Less i later = absurd (let z : Some e.1 ≡ None = sym (found_head e es) ∙ same e.0 ∙ missed e.0 f fs t i in cc)
      go Greater i later = absurd (let z : None ≡ Some f.1 = sym (missed f.0 e es s (birth_exact.total.antisymm f.0 e.0 ∙ ap ordering_reverse i)) ∙ same f.0 ∙ found_head f fs in cc)
      go Equal i later =
          let k : e.0 ≡ f.0 = birth_exact.ties e.0 f.0 i in
          let v : e.1 ≡ f.1 = (let z : Some e.1 ≡ Some f.1 = sym (found_head e es) ∙ same e.0 ∙ ap (λ b. lookup (is_at (nat_cmp b)) (f ∷ fs)) k ∙ found_head f fs in cc) in
          let p : e ≡ f = ap₂ (λ a b. (a, b)) k v in
          let same_e = subst (λ h. (b : ℕ) → lookup (is_at (nat_cmp b)) (e ∷ es) ≡ lookup (is_at (nat_cmp b)) (h ∷ fs)) (sym p) same in
          let t_e = subst (λ h. IsStrictlySortedBy nat_cmp (keys_of (h ∷ fs))) (sym p) t in
          ap₂ (λ h l. h ∷ l) p (later (tails_same e es fs s t_e same_e))

-- ---- the shape at a birth
abbrev pub shape_at : FileTree → ℕ → Option Node
shape_at t b = option_map node_shape (node_at t b)

pub found_shape : (t : FileTree) (b : ℕ) → node_at (shape_of t) b ≡ shape_at t b
found_shape t b = lookup-map_values node_shape (is_at (nat_cmp b)) t.nodes

shape_keys : (ns : List (ℕ × Node)) → keys_of (map {A = ℕ × Node} {B = ℕ × Node} (λ n. (n.0, node_shape n.1)) ns) ≡ keys_of ns
shape_keys [] = refl
shape_keys (n ∷ ns) = ap (λ l. n.0 ∷ l) (shape_keys ns)

shape_births : (old new : FileTree) → births (shape_of old) (shape_of new) ≡ births old new
shape_births old new = ap₂ (λ l r. l ++ r) (firsts old.nodes) (firsts new.nodes)
  where
    firsts : (ns : List (ℕ × Node)) → map {A = ℕ × Node} {B = ℕ} (λ n. n.0) (map {A = ℕ × Node} {B = ℕ × Node} (λ n. (n.0, node_shape n.1)) ns) ≡ map {A = ℕ × Node} {B = ℕ} (λ n. n.0) ns
    firsts [] = refl
    firsts (n ∷ ns) = ap (λ l. n.0 ∷ l) (firsts ns)

pub same_shape : (t u : FileTree) → BirthsAscend t → BirthsAscend u → t.segments ≡ u.segments → ((b : ℕ) → shape_at t b ≡ shape_at u b) → shape_of t ≡ shape_of u
same_shape t u births_t births_u seg same =
    let e = same_list (shape_of t).nodes (shape_of u).nodes (subst (IsStrictlySortedBy nat_cmp) (sym (shape_keys t.nodes)) births_t) (subst (IsStrictlySortedBy nat_cmp) (sym (shape_keys u.nodes)) births_u)
    (λ b. found_shape t b ∙ same b ∙ sym (found_shape u b)) in
    ap₂ (λ s ns. record { segments = s; nodes = ns }) seg e

pub like_shape : (o q : Option Node) → Like vague o q → option_map node_shape o ≡ option_map node_shape q
like_shape (Some (Dir es n)) q l = ap (option_map node_shape) (sym l)
like_shape (Some (Link target links)) q l = ap (option_map node_shape) (sym l)
like_shape None q l = ap (option_map node_shape) (sym l)
like_shape (Some (File cells links when)) q l = ap (λ cs. Some (File cs links when)) (doubt_alike cells l.0 (vague_long cells l.0 l.2)) ∙ ap (option_map node_shape) (sym l.1)

-- ---- where the shape changes
abbrev pub changed_shape : FileTree → FileTree → Bool
changed_shape old new = list_any (differs (shape_of old) (shape_of new)) (births old new)

differs_by : (old new : FileTree) (b : ℕ) → differs (shape_of old) (shape_of new) b ≡ not (same_where (shape_at old b) (shape_at new b))
differs_by old new b = ap₂ (λ x y. not (same_where x y)) (found_shape old b) (found_shape new b)

pub differs_changes : (old new : FileTree) (b : ℕ) → differs (shape_of old) (shape_of new) b ≡ true → changed_shape old new ≡ true
differs_changes old new b d = any_in (differs (shape_of old) (shape_of new)) b (births old new) (subst (λ l. is_in b l ≡ true) (shape_births old new) (differs_in (shape_of old) (shape_of new) b d)) d

some_differs : (test : ℕ → Bool) (bs : List ℕ) → list_any test bs ≡ true → (b : ℕ) × (test b ≡ true)
some_differs test [] h = absurd (cc)
some_differs test (c ∷ bs) h = go (test c) refl h (λ i. some_differs test bs i)
  where
    go : (q : Bool) → test c ≡ q → q || list_any test bs ≡ true → (list_any test bs ≡ true → (b : ℕ) × (test b ≡ true)) → (b : ℕ) × (test b ≡ true)
    go true e h later = (c, e)
    go false e h later = later h

both_shape : (a b c d : Option Node) → Both vague a b c d → same_where (option_map node_shape a) (option_map node_shape c) ≡ same_where (option_map node_shape b) (option_map node_shape d)
both_shape a b c d (inl p) = ap₂ same_where (like_shape a b p.0) (like_shape c d p.1)
both_shape a b c d (inr p) =
    ap (λ z. same_where (option_map node_shape a) (option_map node_shape z)) p.0 ∙ where_same (option_map node_shape a)
    ∙ sym (ap (λ z. same_where (option_map node_shape b) (option_map node_shape z)) p.1 ∙ where_same (option_map node_shape b))

differs_alike : (one two u v : FileTree) → Joint vague one two u v → (b : ℕ) → differs (shape_of one) (shape_of u) b ≡ differs (shape_of two) (shape_of v) b
differs_alike one two u v j b =
    differs_by one u b ∙ ap not (both_shape (node_at one b) (node_at two b) (node_at u b) (node_at v b) (j.each b)) ∙ sym (differs_by two v b)

-- two trees change it alike
pub shape_changes_alike : (one two u v : FileTree) → Joint vague one two u v → changed_shape one u ≡ changed_shape two v
shape_changes_alike one two u v j = go (changed_shape one u) (changed_shape two v) refl refl
  where
    go : (x y : Bool) → changed_shape one u ≡ x → changed_shape two v ≡ y → changed_shape one u ≡ changed_shape two v
    go true true h i = h ∙ sym i
    go false false h i = h ∙ sym i
    go true false h i = let d = some_differs (differs (shape_of one) (shape_of u)) (births one u) h in absurd (let z : true ≡ false = sym (differs_changes two v d.0 (sym (differs_alike one two u v j d.0) ∙ d.1)) ∙ i in cc)
    go false true h i = let d = some_differs (differs (shape_of two) (shape_of v)) (births two v) i in absurd (let z : true ≡ false = sym (differs_changes one u d.0 (differs_alike one two u v j d.0 ∙ d.1)) ∙ h in cc)

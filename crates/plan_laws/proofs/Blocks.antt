-- As many blocks pass a test as the nodes of a list have, where blocks of nodes and such blocks lead to each other.
use Rattle.std.proofs.Common.{ℕ, zero, suc, ◌≡◌, ◌≢◌, ◌<◌, ◌+◌, ⊎_elim, Bool, true, false, Option, Some, None, List, [], ◌∷◌, refl, sym, ◌∙◌, ap, subst, arith, is_some}
use Rattle.std.proofs.lemmas.Bool.{cases_eq, false_from_ne_true}
use Rattle.std.proofs.lemmas.List.Sums.{sum_by-cons}
use Rattle.std.specs.Map.{lookup, keys_of, values_of}
use Rattle.std.specs.List.{sum_by}
use Rattle.std.specs.BTreeMap.{is_at}
use Rattle.std.specs.Ordering.{nat_cmp}
use Rattle.std.specs.List.Sorted.{IsStrictlySortedBy}
use Rattle.tree_definitions.specs.declared.node.Node.{Node}
use Rattle.frang_base.specs.Functions.{put}
use Rattle.frang_base.proofs.Basics.{by_test, at_put, put_same, put_other}
use Rattle.tree_definitions.proofs.Pairs.{birth_exact, tie, self}
use Rattle.disk_definitions.specs.Least.{count}
use Rattle.disk_definitions.proofs.PickCounts.{count_none, count_less_one}
use Rattle.plan_laws.proofs.Counting.{rest_sorted, not_head}

-- f with the first so many blocks failing
abbrev without : (ℕ → ℕ) → ℕ → (ℕ → Bool) → ℕ → Bool
without block zero f = f
without block (suc m) f = put (without block m f) (block m) false

without_other : (block : ℕ → ℕ) (m : ℕ) (f : ℕ → Bool) (k : ℕ) → ((j : ℕ) → j < m → k ≢ block j) → without block m f k ≡ f k
without_other block zero f k h = refl
without_other block (suc m) f k h = put_other (without block m f) (block m) false k (h m (omega arith)) ∙ without_other block m f k (λ j l. h j (omega arith))

-- what still passes passed before, and is none of them
without_true : (block : ℕ → ℕ) (m : ℕ) (f : ℕ → Bool) (k : ℕ) → without block m f k ≡ true → (f k ≡ true) × ((j : ℕ) → j < m → k ≢ block j)
without_true block zero f k h = (h, λ j l. absurd (omega arith))
without_true block (suc m) f k h = at_put (λ x. x ≡ true → (f k ≡ true) × ((j : ℕ) → j < suc m → k ≢ block j)) (without block m f) (block m) false k (λ i t. absurd (cc))
    (λ i t. let r = without_true block m f k t in (r.0, λ j l. below j l r.1 i)) h
  where
    below : (j : ℕ) → j < suc m → ((j : ℕ) → j < m → k ≢ block j) → k ≢ block m → k ≢ block j
    below j l h i e = ⊎_elim (λ q. i (e ∙ ap block q)) (λ q. h j (grind arith) e) (cases_eq j m)

remove_many : (block : ℕ → ℕ) (m n : ℕ) (f : ℕ → Bool) → ((j : ℕ) → j < m → (block j < n) × (f (block j) ≡ true)) → ((i j : ℕ) → i < m → j < m → block i ≡ block j → i ≡ j) → count f n ≡ count (without block m f) n + m
remove_many block zero n f into one = omega arith
remove_many block (suc m) n f into one =
    let r : count f n ≡ count (without block m f) n + m = remove_many block m n f (λ j l. into j (omega arith)) (λ i j a b. one i j (omega arith) (omega arith)) in
    let h = into m (omega arith) in
    let still : without block m f (block m) ≡ true = without_other block m f (block m) (λ j l e. let i : m ≡ j = one m j (omega arith) (omega arith) e in omega arith) ∙ h.1 in
    let c : count (without block m f) n ≡ count (put (without block m f) (block m) false) n + 1 = count_less_one (without block m f) (put (without block m f) (block m) false) n (block m) h.0 still (put_same (without block m f) (block m) false) (λ q l d. put_other (without block m f) (block m) false q d) in
    omega arith

abbrev found : List (ℕ × Node) → ℕ → Option Node
found es b = lookup (is_at (nat_cmp b)) es

found_head : (e : ℕ × Node) (es : List (ℕ × Node)) → found (e ∷ es) e.0 ≡ Some e.1
found_head e es = rw (self nat_cmp birth_exact e.0) refl

found_rest : (e : ℕ × Node) (es : List (ℕ × Node)) (b : ℕ) → b ≢ e.0 → found (e ∷ es) b ≡ found es b
found_rest e es b f = by_test (λ x. x ≡ found es b) (Some e.1) (found es b) (is_at (nat_cmp b) e.0) (λ i. absurd (f (tie nat_cmp birth_exact b e.0 i))) (λ i. refl)

-- a block of a node
pub record IsBlockOf (block : ℕ → ℕ → ℕ) (blocks : Node → ℕ) (nodes : ℕ → Option Node) (k : ℕ) : Type 0 where
  pub birth : ℕ
  pub index : ℕ
  pub node : Node
  pub is : nodes birth ≡ Some node
  pub below : index < blocks node
  pub at : block birth index ≡ k

module _ (block : ℕ → ℕ → ℕ) (blocks : Node → ℕ) (owner : ℕ → Option (ℕ × ℕ)) (n : ℕ) where
  -- blocks of nodes pass, and tell their owners; and what passes is one
  pub record AreBlocks (es : List (ℕ × Node)) (f : ℕ → Bool) : Type 0 where
    pub into : (b j : ℕ) (x : Node) → found es b ≡ Some x → j < blocks x → (block b j < n) × (f (block b j) ≡ true)
    pub owned : (b j : ℕ) (x : Node) → found es b ≡ Some x → j < blocks x → owner (block b j) ≡ Some (b, j)
    pub onto : (q : ℕ) → q < n → f q ≡ true → IsBlockOf block blocks (found es) q

  module _ (e : ℕ × Node) (es : List (ℕ × Node)) (f : ℕ → Bool) (sorted : IsStrictlySortedBy nat_cmp (keys_of (e ∷ es))) (are : AreBlocks (e ∷ es) f) where
    abbrev g : ℕ → Bool
    g = without (block e.0) (blocks e.1) f

    not_first : (b : ℕ) (x : Node) → found es b ≡ Some x → b ≢ e.0
    not_first b x i = not_head nat_cmp birth_exact e es b sorted (ap is_some i)

    later : (b : ℕ) (x : Node) → found es b ≡ Some x → found (e ∷ es) b ≡ Some x
    later b x i = found_rest e es b (not_first b x i) ∙ i

    mine : (j : ℕ) → j < blocks e.1 → owner (block e.0 j) ≡ Some (e.0, j)
    mine j l = are.owned e.0 j e.1 (found_head e es) l

    other : (b j i : ℕ) (x : Node) → found es b ≡ Some x → j < blocks x → i < blocks e.1 → block b j ≢ block e.0 i
    other b j i x is l m q =
        let a : Some (b, j) ≡ Some (e.0, i) = sym (are.owned b j x (later b x is) l) ∙ ap owner q ∙ mine i m in
        not_first b x is (first_of (b, j) (e.0, i) a)
      where
        first_of : (v w : ℕ × ℕ) → Some v ≡ Some w → v.0 ≡ w.0
        first_of v w a = let u : v ≡ w = cc in ap (λ z. z.0) u

    in_rest : (q : ℕ) → ((j : ℕ) → j < blocks e.1 → q ≢ block e.0 j) → IsBlockOf block blocks (found (e ∷ es)) q → IsBlockOf block blocks (found es) q
    in_rest q apart w =
        let far : w.birth ≢ e.0 = λ i.
        let x : Some e.1 ≡ Some w.node = sym (found_head e es) ∙ ap (found (e ∷ es)) (sym i) ∙ w.is in
        let y : w.node ≡ e.1 = cc in
        apart w.index (subst (λ z. w.index < blocks z) y w.below) (sym w.at ∙ ap (λ b. block b w.index) i) in
        record { birth = w.birth; index = w.index; node = w.node; is = sym (found_rest e es w.birth far) ∙ w.is; below = w.below; at = w.at }

    pub others : AreBlocks es g
    others = record {
      into = λ b j x i l. let r = are.into b j x (later b x i) l in (r.0, without_other (block e.0) (blocks e.1) f (block b j) (λ k m. other b j k x i l m) ∙ r.1);
      owned = λ b j x i l. are.owned b j x (later b x i) l;
      onto = λ q l t. let r = without_true (block e.0) (blocks e.1) f q t in in_rest q r.1 (are.onto q l r.0);
    }

    pub first_gone : count f n ≡ count g n + blocks e.1
    first_gone = remove_many (block e.0) (blocks e.1) n f (λ j l. are.into e.0 j e.1 (found_head e es) l)
        (λ i j a b q. second_of (e.0, i) (e.0, j) (sym (mine i a) ∙ ap owner q ∙ mine j b))
      where
        second_of : (v w : ℕ × ℕ) → Some v ≡ Some w → v.1 ≡ w.1
        second_of v w a = let u : v ≡ w = cc in ap (λ z. z.1) u

  pub count_blocks : (es : List (ℕ × Node)) (f : ℕ → Bool) → IsStrictlySortedBy nat_cmp (keys_of es) → AreBlocks es f → count f n ≡ sum_by blocks (values_of es)
  count_blocks [] f sorted are = count_none f n (λ q l. false_from_ne_true (f q) (λ e. let r = are.onto q l e in let z : None ≡ Some r.node = r.is in cc))
  count_blocks (e ∷ es) f sorted are =
      let a : count f n ≡ count (without (block e.0) (blocks e.1) f) n + blocks e.1 = first_gone e es f sorted are in
      let b : count (without (block e.0) (blocks e.1) f) n ≡ sum_by blocks (values_of es) = count_blocks es (without (block e.0) (blocks e.1) f) (rest_sorted nat_cmp e es sorted) (others e es f sorted are) in
      let c : sum_by blocks (values_of (e ∷ es)) ≡ blocks e.1 + sum_by blocks (values_of es) = sum_by-cons blocks e.1 (values_of es) in
      omega arith

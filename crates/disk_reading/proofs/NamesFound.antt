-- What stands among the values of a directory's entries has a name there.
use Rattle.std.proofs.Common.{◌==◌, ◌≡◌, ◌≢◌, ℕ, Bool, true, false, ⊎_elim, Some, None, List, [], ◌∷◌, cond, sym, ◌∙◌, ap, eqb-true}
use Rattle.std.specs.List.{list_all}
use Rattle.std.specs.List.Sorted.{IsStrictlySortedBy}
use Rattle.std.specs.Map.{keys_of, values_of}
use Rattle.std.specs.BTreeMap.{is_at}
use Rattle.std.specs.Ordering.{nat_cmp}
use Rattle.std.specs.Cmp.Lexicographic.{slice_cmp}
use Rattle.std.proofs.lemmas.Bool.{or_cases, and_parts, cond-true}
use Rattle.frang_base.proofs.Basics.{by_test}
use Rattle.tree_definitions.specs.Entries.{Entries, entry_at}
use Rattle.tree_definitions.proofs.Pairs.{name_exact, self, tie, none_below}
use Rattle.disk_reading.specs.Reach.{has_value}

pub value_named : (es : Entries) (v : ℕ) → IsStrictlySortedBy (slice_cmp nat_cmp) (keys_of es) → has_value (values_of es) v ≡ true → (name : List ℕ) × (entry_at es name ≡ Some v)
unfolding IsStrictlySortedBy
value_named [] v s h = absurd (cc)
value_named (e ∷ es) v s h = ⊎_elim
    (λ t. (e.0, cond-true (is_at (slice_cmp nat_cmp e.0) e.0) (Some e.1) (entry_at es e.0) (self (slice_cmp nat_cmp) name_exact e.0) ∙ ap (λ x. Some x) (eqb-true e.1 v t)))
    (λ t. later (value_named es v s.1 t)) (or_cases (e.1 == v) (has_value (values_of es) v) h)
  where
    later : (name : List ℕ) × (entry_at es name ≡ Some v) → (name : List ℕ) × (entry_at (e ∷ es) name ≡ Some v)
    later r =
        let ne : r.0 ≢ e.0 = λ q. (let z : None ≡ Some v = sym (none_below (slice_cmp nat_cmp) name_exact es e.0 s.0) ∙ ap (entry_at es) (sym q) ∙ r.1 in cc) in
        (r.0, by_test (λ z. z ≡ Some v) (Some e.1) (entry_at es r.0) (is_at (slice_cmp nat_cmp r.0) e.0) (λ t. absurd (ne (tie (slice_cmp nat_cmp) name_exact r.0 e.0 t))) (λ t. r.1))

-- what holds of all values holds of the one of a name
pub named_all : (p : ℕ → Bool) (es : Entries) (name : List ℕ) (v : ℕ) → list_all p (values_of es) ≡ true → entry_at es name ≡ Some v → p v ≡ true
named_all p [] name v h e = absurd (cc)
named_all p (x ∷ es) name v h e = go (is_at (slice_cmp nat_cmp name) x.0) (λ f. named_all p es name v (and_parts (p x.1) (list_all p (values_of es)) h).1 f) e
  where
    go : (b : Bool) → (entry_at es name ≡ Some v → p v ≡ true) → cond b (Some x.1) (entry_at es name) ≡ Some v → p v ≡ true
    go true later f = let q : x.1 ≡ v = cc in ap p (sym q) ∙ (and_parts (p x.1) (list_all p (values_of es)) h).0
    go false later f = later f

-- What is found among the entries that are read off a directory's places, and that they are in order.
use Rattle.std.proofs.Common.{◌≡◌, ℕ, zero, suc, ◌<◌, ◌⊎◌, ⊎_elim, true, false, not, Option, Some, None, List, [], is_some, refl, sym, ◌∙◌, ap, subst, arith}
use Rattle.std.proofs.lemmas.Bool.{cases_order, both_ways, not-true, and_parts}
use Rattle.std.specs.List.Sorted.{IsStrictlySortedBy}
use Rattle.std.specs.Map.{keys_of}
use Rattle.std.specs.Ordering.{nat_cmp}
use Rattle.std.specs.Cmp.Lexicographic.{slice_cmp}
use Rattle.tree_definitions.specs.Entries.{Entries, entry_at}
use Rattle.tree_definitions.proofs.Pairs.{name_exact, found_put, found_other, sorted_put}
use Rattle.disk_definitions.specs.Store.{Store, StoredEntry}
use Rattle.standing_laws.specs.ReadTree.{with_place, entries_to}
use Rattle.standing_laws.specs.Soundness.{entry_agrees, entries_agree, has_kind}
use Rattle.standing_laws.proofs.Bounded.{last_or_before, all_at}
use Rattle.standing_laws.proofs.Changes.{same_name}

none_sorted : IsStrictlySortedBy (slice_cmp nat_cmp) (keys_of {K = List ℕ} {X = ℕ} [])
unfolding IsStrictlySortedBy
none_sorted = tt

with_one : (es : Entries) (o : Option StoredEntry) → IsStrictlySortedBy (slice_cmp nat_cmp) (keys_of es) → IsStrictlySortedBy (slice_cmp nat_cmp) (keys_of (with_place es o))
with_one es None s = s
with_one es (Some e) s = sorted_put (slice_cmp nat_cmp) name_exact es e.name e.inode s

pub sorted_to : (place : ℕ → Option StoredEntry) (n : ℕ) → IsStrictlySortedBy (slice_cmp nat_cmp) (keys_of (entries_to place n))
sorted_to place zero = none_sorted
sorted_to place (suc n) = with_one (entries_to place n) (place n) (sorted_to place n)

-- a name that is found stands at a place, with its inode
pub record StandsAt (place : ℕ → Option StoredEntry) (n : ℕ) (name : List ℕ) (i : ℕ) : Type 0 where
  pub spot : ℕ
  pub entry : StoredEntry
  pub within : spot < n
  pub is : place spot ≡ Some entry
  pub named : entry.name ≡ name
  pub inode : entry.inode ≡ i

later : (place : ℕ → Option StoredEntry) (n : ℕ) (name : List ℕ) (i : ℕ) → StandsAt place n name i → StandsAt place (suc n) name i
later place n name i f = record { spot = f.spot; entry = f.entry; within = (let l : f.spot < n = f.within in omega arith); is = f.is; named = f.named; inode = f.inode }

pub found_at : (place : ℕ → Option StoredEntry) (n : ℕ) (name : List ℕ) (i : ℕ) → entry_at (entries_to place n) name ≡ Some i → StandsAt place n name i
found_at place zero name i h = absurd (cc)
found_at place (suc n) name i h = go (λ f. later place n name i (found_at place n name i f)) (place n) refl h
  where
    go : (entry_at (entries_to place n) name ≡ Some i → StandsAt place (suc n) name i) → (o : Option StoredEntry) → place n ≡ o → entry_at (with_place (entries_to place n) o) name ≡ Some i → StandsAt place (suc n) name i
    go before None e h = before h
    go before (Some x) e h = ⊎_elim
        (λ s. record { spot = n; entry = x; within = omega arith; is = e; named = sym s; inode = (let q : Some x.inode ≡ Some i = sym (subst (λ m. entry_at (with_place (entries_to place n) (Some x)) m ≡ Some x.inode) (sym s) (found_put (slice_cmp nat_cmp) name_exact (entries_to place n) x.name x.inode)) ∙ h in cc) })
        (λ ne. before (sym (found_other (slice_cmp nat_cmp) name_exact (entries_to place n) x.name x.inode name ne) ∙ h)) (same_name name x.name)

-- a name that stands at a place is found
pub at_found : (place : ℕ → Option StoredEntry) (n q : ℕ) (e : StoredEntry) → q < n → place q ≡ Some e → is_some (entry_at (entries_to place n) e.name) ≡ true
at_found place zero q e h is = absurd (omega arith)
at_found place (suc n) q e h is = go (λ l. at_found place n q e l is) (place n) refl
  where
    go : (q < n → is_some (entry_at (entries_to place n) e.name) ≡ true) → (o : Option StoredEntry) → place n ≡ o → is_some (entry_at (with_place (entries_to place n) o) e.name) ≡ true
    go before None z = ⊎_elim (λ s. absurd (let c : Some e ≡ None = sym is ∙ ap place s ∙ z in cc)) before (last_or_before q n h)
    go before (Some x) z = ⊎_elim
        (λ s. ap is_some (subst (λ m. entry_at (with_place (entries_to place n) (Some x)) m ≡ Some x.inode) (sym s) (found_put (slice_cmp nat_cmp) name_exact (entries_to place n) x.name x.inode)))
        (λ ne. ap is_some (found_other (slice_cmp nat_cmp) name_exact (entries_to place n) x.name x.inode e.name ne) ∙ ⊎_elim (λ s. absurd (ne (let c : Some e ≡ Some x = sym is ∙ ap place s ∙ z in let d : e ≡ x = cc in ap (λ y. y.name) d))) before (last_or_before q n h)) (same_name e.name x.name)

module _ (s : Store) (place : ℕ → Option StoredEntry) (n : ℕ) (agree : entries_agree s place n ≡ true) where
  -- each entry has a name that none before it has, and names an inode of its kind
  pub new_name : (q : ℕ) (e : StoredEntry) → q < n → place q ≡ Some e → (is_some (entry_at (entries_to place q) e.name) ≡ false) × (has_kind (s.inode e.inode) e.kind ≡ true)
  new_name q e h is =
      let a : entry_agrees s (entries_to place q) (Some e) ≡ true = sym (ap (entry_agrees s (entries_to place q)) is) ∙ all_at n (λ q. entry_agrees s (entries_to place q) (place q)) agree q h in
      let p = and_parts (not (is_some (entry_at (entries_to place q) e.name))) (has_kind (s.inode e.inode) e.kind) a in
      (not-true (is_some (entry_at (entries_to place q) e.name)) p.0, p.1)

  not_before : (p q : ℕ) (d e : StoredEntry) → p < q → q < n → place p ≡ Some d → place q ≡ Some e → d.name ≡ e.name → ⊥
  not_before p q d e l h i j m = both_ways (is_some (entry_at (entries_to place q) e.name)) (new_name q e h j).0 (ap (λ x. is_some (entry_at (entries_to place q) x)) (sym m) ∙ at_found place q p d l i)

  -- a name stands at one place
  pub one_spot : (p q : ℕ) (d e : StoredEntry) → p < n → q < n → place p ≡ Some d → place q ≡ Some e → d.name ≡ e.name → p ≡ q
  one_spot p q d e h l i j m = ⊎_elim (λ s. s) (λ o. absurd (⊎_elim (λ b. not_before p q d e b l i j m) (λ b. not_before q p e d b h j i (sym m)) o)) (cases_order p q)

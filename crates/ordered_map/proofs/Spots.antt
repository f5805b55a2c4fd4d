-- What an edit at a place makes of entries, and where the last key and a given one lie.
use Rattle.std.proofs.Common.{◌≡◌, ℕ, zero, suc, ◌<◌, Bool, true, false, List, [], ◌∷◌, length, get_or, set, Some, Ok, refl, sym, ap, ◌∙◌, arith}
use Rattle.std.specs.List.Sorted.{IsStrictlySortedBy}
use Rattle.std.specs.Map.{keys_of}
use Rattle.std.specs.Cmp.{IsTotalOrder}
use Rattle.std.specs.Ordering.{ordering_reverse, is_eq, is_gt}
use Rattle.std.specs.declared.cmp.Ordering.{Ordering}
use Rattle.std.specs.declared.cmp.Ordering.TheVariants.{Less, Equal, Greater}
use Rattle.std.proofs.lemmas.Bool.{false≢true}
use Rattle.sorted_entries.specs.Places.{place_of}
use Rattle.sorted_entries.proofs.Spots.{hit}
use Rattle.std.specs.Option.{option_map_or}
use Rattle.ordered_map.specs.Chunks.{overwritten, ends_below, last_key, IsKeyAt}

-- another value in the place of one is another entry there
pub overwrites : {K V : Type 0} (entries : List (K × V)) (i : ℕ) (entry : K × V) (value : V) → i < length entries → entry ≡ get_or entries i entry → set entries i (entry.0, value) ≡ overwritten entries i value
overwrites [] i entry value inside is = absurd (omega arith)
overwrites (e ∷ entries) zero entry value inside is = ap (λ x. (x.0, value) ∷ entries) is
overwrites (e ∷ entries) (suc i) entry value inside is = ap (λ rest. e ∷ rest) (overwrites entries i entry value (omega arith) is)

-- the last key tells whether the entries end below
pub ends_by_last : {K V : Type 0} (cmp : K → K → Ordering) (key : K) (entries : List (K × V)) → option_map_or (λ last. is_gt (cmp key last)) (last_key entries) false ≡ ends_below cmp key entries
ends_by_last cmp key [] = refl
ends_by_last cmp key (e ∷ []) = refl
ends_by_last cmp key (e ∷ f ∷ entries) = ends_by_last cmp key (f ∷ entries)

-- the key of the last entry
pub last_key_is : {K V : Type 0} (entries : List (K × V)) (i : ℕ) (entry : K × V) → suc i ≡ length entries → entry ≡ get_or entries i entry → Some entry.0 ≡ last_key entries
last_key_is [] i entry last is = absurd (omega arith)
last_key_is (e ∷ []) zero entry last is = ap (λ x. Some x.0) is
last_key_is (e ∷ []) (suc i) entry last is = absurd (omega arith)
last_key_is (e ∷ f ∷ entries) zero entry last is = absurd (omega arith)
last_key_is (e ∷ f ∷ entries) (suc i) entry last is = last_key_is (f ∷ entries) i entry (omega arith) is

-- another value leaves the last key
pub last-overwritten : {K V : Type 0} (entries : List (K × V)) (i : ℕ) (value : V) → last_key (overwritten entries i value) ≡ last_key entries
last-overwritten [] i value = refl
last-overwritten (e ∷ []) zero value = refl
last-overwritten (e ∷ []) (suc i) value = refl
last-overwritten (e ∷ f ∷ entries) zero value = refl
last-overwritten (e ∷ f ∷ []) (suc zero) value = refl
last-overwritten (e ∷ f ∷ h ∷ entries) (suc zero) value = refl
last-overwritten (e ∷ f ∷ entries) (suc (suc i)) value = last-overwritten (f ∷ entries) (suc i) value

pub equal_is : (o : Ordering) → is_eq o ≡ true → o ≡ Equal
equal_is Less e = absurd (false≢true e)
equal_is Equal e = refl
equal_is Greater e = absurd (false≢true e)

module _ {K V : Type 0} {cmp : K → K → Ordering} (total : IsTotalOrder cmp) (key : K) where
  key_at : (entries : List (K × V)) (at : ℕ) → IsKeyAt cmp key entries at → (d : K × V) → cmp (get_or entries at d).0 key ≡ Equal
  key_at [] at is d = absurd is
  key_at (entry ∷ entries) zero is d = total.antisymm entry.0 key ∙ ap ordering_reverse is
  key_at (entry ∷ entries) (suc at) is d = key_at entries at is d

  pub key_within : (entries : List (K × V)) (at : ℕ) → IsKeyAt cmp key entries at → at < length entries
  key_within [] at is = absurd is
  key_within (entry ∷ entries) zero is = omega arith
  key_within (entry ∷ entries) (suc at) is = omega (arith, key_within entries at is)

  pub key_there : (entries : List (K × V)) (at : ℕ) (entry : K × V) → at < length entries → entry ≡ get_or entries at entry → is_eq (cmp key entry.0) ≡ true → IsKeyAt cmp key entries at
  key_there [] at entry inside is e = absurd (omega arith)
  key_there (x ∷ entries) zero entry inside is e = equal_is (cmp key x.0) (sym (ap (λ y. is_eq (cmp key y.0)) is) ∙ e)
  key_there (x ∷ entries) (suc at) entry inside is e = key_there entries at entry (omega arith) is e

  -- where a key lies is its place
  pub lies_at : (entries : List (K × V)) (at : ℕ) → IsStrictlySortedBy cmp (keys_of entries) → IsKeyAt cmp key entries at → place_of cmp key entries ≡ Ok at
  lies_at entries at sorted is = hit total key entries sorted at (key_within entries at is) (key_at entries at is)

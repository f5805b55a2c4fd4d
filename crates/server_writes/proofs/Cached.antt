-- Cached sectors gone through one after another.
use Rattle.std.proofs.Common.{◌≡◌, ℕ, zero, suc, ◌+◌, ◌≤◌, Bool, true, false, ◌||◌, if◌then◌else◌, List, [], ◌∷◌, drop, length, map, Option, Some, None, is_some, refl, sym, ap, ◌∙◌, arith, inl, inr}
use Rattle.std.proofs.lemmas.Bool.{false≢true}
use Rattle.std.proofs.lemmas.List.{drop_all, drop_more}
use Rattle.std.proofs.lemmas.Option.{get_or_from_slice_get, slice_get-map, slice_get_cases, slice_get_within}
use Rattle.std.specs.BTreeMap.{is_at}
use Rattle.std.specs.List.{AllByRecursion, list_any, slice_get}
use Rattle.std.specs.Option.{option_map, unwrap_or}
use Rattle.std.specs.Ordering.{nat_cmp}
use Rattle.sector_bytes.specs.SectorMaps.{Ascend, value_at}
use Rattle.sector_bytes.proofs.MapLaws.{found}
use Rattle.sector_bytes.specs.Blocks.{Block}
use Rattle.cache_definitions.specs.Caches.{Cache, CachedSector, blocks_of}
use Rattle.server_writes.specs.Wants.{passes_at}
use Rattle.server_writes.proofs.Sectorwise.{each_found}

-- none of the entries passes: then none at a sector that is there
pub none_there : {V : Type 0} (p : ℕ → Bool) (entries : List (ℕ × V)) (s : ℕ) → list_any (λ e. p e.0) entries ≡ false → is_some (value_at entries s) ≡ true → p s ≡ false
none_there p [] s none there = absurd (false≢true there)
none_there {V = V} p (e ∷ entries) s none there = go (λ rest at. none_there p entries s rest at) (p e.0) refl (list_any (λ e. p e.0) entries) refl none (is_at (nat_cmp s) e.0) refl there
  where
    go : (list_any (λ e. p e.0) entries ≡ false → is_some (value_at entries s) ≡ true → p s ≡ false) → (a : Bool) → p e.0 ≡ a → (r : Bool) → list_any (λ e. p e.0) entries ≡ r → (a || r) ≡ false → (b : Bool) → is_at (nat_cmp s) e.0 ≡ b → is_some (if b then Some e.1 else value_at entries s) ≡ true → p s ≡ false
    go behind true is r rest none b at there = absurd (false≢true (sym none))
    go behind false is true rest none b at there = absurd (false≢true (sym none))
    go behind false is false rest none true at there = ap p (sym (found s e.0 at)) ∙ is
    go behind false is false rest none false at there = behind rest there

-- one of them passes
pub some_there : {V : Type 0} (p : ℕ → Bool) (entries : List (ℕ × V)) (s : ℕ) → is_some (value_at entries s) ≡ true → p s ≡ true → list_any (λ e. p e.0) entries ≡ true
some_there p entries s there passes = go (list_any (λ e. p e.0) entries) refl
  where
    go : (b : Bool) → list_any (λ e. p e.0) entries ≡ b → b ≡ true
    go true is = refl
    go false is = absurd (false≢true (sym (none_there p entries s is there) ∙ passes))

-- none passes where none at any sector does
pub none_any : {V : Type 0} (p : ℕ → Bool) (entries : List (ℕ × V)) → ((s : ℕ) → p s ≡ false) → list_any (λ e. p e.0) entries ≡ false
none_any p [] none = refl
none_any p (e ∷ entries) none = ap (λ b. b || list_any (λ e. p e.0) entries) (none e.0) ∙ none_any p entries none

-- each of the entries is what is found at its sector
pub each_passes : (test : ℕ × CachedSector → Bool) (all entries : Cache) → AllByRecursion (λ e. value_at all e.0 ≡ Some e.1) entries → list_any (λ e. passes_at test all e.0) entries ≡ list_any test entries
each_passes test all [] each = refl
each_passes test all (e ∷ entries) each =
    ap (λ o. unwrap_or (option_map (λ cached. test (e.0, cached)) o) false || list_any (λ e. passes_at test all e.0) entries) each.0 ∙ ap (λ b. test e || b) (each_passes test all entries each.1)

-- ---- from a place on

pub past : {X : Type 0} (xs : List X) (i : ℕ) → slice_get xs i ≡ None → length xs ≤ i
past {X = X} xs i none = elim (slice_get_cases xs i).1 [ inl x ↦ absurd (clash x.0 (sym none ∙ x.2)) | inr y ↦ y.0 ]
  where
    clash : (x : X) → None ≡ Some x → ⊥
    clash x e = cc

module _ {V W : Type 0} (p : ℕ → Bool) (f : V → W) (entries : List (ℕ × V)) (i : ℕ) where
  abbrev shown : List (ℕ × W)
  shown = map (λ e. (e.0, f e.1)) entries

  pub passed_over : (s : ℕ) (w : W) → slice_get shown i ≡ Some (s, w) → p s ≡ false → list_any (λ e. p e.0) (drop (i + 1) entries) ≡ list_any (λ e. p e.0) (drop i entries)
  passed_over s w at off = go (slice_get entries i) refl (sym (slice_get-map (λ e. (e.0, f e.1)) entries i) ∙ at)
    where
      go : (o : Option (ℕ × V)) → slice_get entries i ≡ o → option_map {U = ℕ × W} (λ e. (e.0, f e.1)) o ≡ Some (s, w) → list_any (λ e. p e.0) (drop (i + 1) entries) ≡ list_any (λ e. p e.0) (drop i entries)
      go None is e = absurd (cc)
      go (Some e) is same =
          let inside = slice_get_within entries i e is in
          let key : e.0 ≡ s = key_of same in
          sym (ap (λ b. b || list_any (λ e. p e.0) (drop (i + 1) entries)) (ap p key ∙ off))
          ∙ sym (ap (list_any (λ e. p e.0)) (drop_more entries i e inside ∙ ap (λ x. x ∷ drop (i + 1) entries) (get_or_from_slice_get entries i e e is)))
        where
          number_of : Option (ℕ × W) → ℕ
          number_of None = 0
          number_of (Some x) = x.0

          key_of : option_map {U = ℕ × W} (λ e. (e.0, f e.1)) (Some e) ≡ Some (s, w) → e.0 ≡ s
          key_of same = ap number_of same

  pub beyond : slice_get shown i ≡ None → list_any (λ e. p e.0) (drop (i + 1) entries) ≡ list_any (λ e. p e.0) (drop i entries)
  beyond none = go (slice_get entries i) refl (sym (slice_get-map (λ e. (e.0, f e.1)) entries i) ∙ none)
    where
      clash : (x : ℕ × V) → option_map {U = ℕ × W} (λ e. (e.0, f e.1)) (Some x) ≡ None → ⊥
      clash x e = cc

      both : length entries ≤ i → list_any (λ e. p e.0) (drop (i + 1) entries) ≡ list_any (λ e. p e.0) (drop i entries)
      both far = ap (list_any (λ e. p e.0)) (drop_all (i + 1) entries (omega arith) ∙ sym (drop_all i entries far))

      go : (o : Option (ℕ × V)) → slice_get entries i ≡ o → option_map {U = ℕ × W} (λ e. (e.0, f e.1)) o ≡ None → list_any (λ e. p e.0) (drop (i + 1) entries) ≡ list_any (λ e. p e.0) (drop i entries)
      go None is e = both (past entries i is)
      go (Some x) is e = absurd (clash x e)

  pub all_passed : length entries ≤ i → list_any (λ e. p e.0) (drop i entries) ≡ false
  all_passed far = ap (list_any (λ e. p e.0)) (drop_all i entries far)

-- ---- the same of a test of what is cached

all_dropped : {X : Type 0} (P : X → Type 0) (xs : List X) (k : ℕ) → AllByRecursion P xs → AllByRecursion P (drop k xs)
all_dropped P [] zero all = all
all_dropped P [] (suc k) all = all
all_dropped P (x ∷ xs) zero all = all
all_dropped P (x ∷ xs) (suc k) all = all_dropped P xs k all.1

module _ (test : ℕ × CachedSector → Bool) (cache : Cache) (sorted : Ascend cache) (i : ℕ) where
  same : (k : ℕ) → list_any (λ e. passes_at test cache e.0) (drop k cache) ≡ list_any test (drop k cache)
  same k = each_passes test cache (drop k cache) (all_dropped (λ e. value_at cache e.0 ≡ Some e.1) cache k (each_found cache sorted))

  pub tested_over : (s : ℕ) (block : Block) → slice_get (blocks_of cache) i ≡ Some (s, block) → passes_at test cache s ≡ false → list_any test (drop (i + 1) cache) ≡ list_any test (drop i cache)
  tested_over s block at off = sym (same (i + 1)) ∙ passed_over (passes_at test cache) (λ cached. cached.block) cache i s block at off ∙ same i

  pub tested_beyond : slice_get (blocks_of cache) i ≡ None → list_any test (drop (i + 1) cache) ≡ list_any test (drop i cache)
  tested_beyond none = sym (same (i + 1)) ∙ beyond (passes_at test cache) (λ cached. cached.block) cache i none ∙ same i

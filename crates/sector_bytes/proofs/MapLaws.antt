-- Maps from sectors: what an edit makes of the keys and of the value at a sector, and that the sectors go on ascending.
use Rattle.std.proofs.Common.{◌≡◌, ℕ, Bool, true, false, if◌then◌else◌, List, [], ◌∷◌, Some, None, refl, sym, ap, ◌∙◌, subst, arith}
use Rattle.std.proofs.lemmas.Bool.Decides.{nat_tests}
use Rattle.std.proofs.lemmas.Cmp.{nat_cmp_total}
use Rattle.std.specs.List.{AllByRecursion, items_where_true}
use Rattle.std.specs.List.Sorted.{IsStrictlySortedBy}
use Rattle.std.specs.Map.{keys_of}
use Rattle.std.specs.BTreeMap.{is_at}
use Rattle.std.specs.Option.{option_map}
use Rattle.std.specs.Ordering.{nat_cmp, match_ordering, ordering_reverse, is_eq}
use Rattle.std.specs.declared.cmp.Ordering.{Ordering}
use Rattle.std.specs.declared.cmp.Ordering.TheVariants.{Less, Equal, Greater}
use Rattle.sector_bytes.specs.SectorMaps.{value_at, with_value, without, adjusted, Ascend}

-- each of the three answers of a comparison
pub by_answer : {P : Type 0} (o : Ordering) → (o ≡ Less → P) → (o ≡ Equal → P) → (o ≡ Greater → P) → P
by_answer Less a b c = a refl
by_answer Equal a b c = b refl
by_answer Greater a b c = c refl

-- the sector that is found is the one that was looked for
pub found : (a b : ℕ) → is_at (nat_cmp a) b ≡ true → b ≡ a
found a b e = grind (arith, nat_tests)

-- each of the keys is above a sector
abbrev pub AllAbove : {V : Type 0} → ℕ → List (ℕ × V) → Type 0
AllAbove sector entries = AllByRecursion (λ key. nat_cmp sector key ≡ Less) (keys_of entries)

module _ {V : Type 0} where
  pub above_more : (a b : ℕ) (entries : List (ℕ × V)) → nat_cmp a b ≡ Less → AllAbove b entries → AllAbove a entries
  above_more a b [] is all = tt
  above_more a b (entry ∷ entries) is all = (nat_cmp_total.trans a b entry.0 is all.0, above_more a b entries is all.1)

  -- a sector below all keys isn't among them
  pub absent : (sector : ℕ) (entries : List (ℕ × V)) → AllAbove sector entries → value_at entries sector ≡ None
  absent sector [] all = refl
  absent sector (entry ∷ entries) all = ap (λ b. if b then Some entry.1 else value_at entries sector) (ap is_eq all.0) ∙ absent sector entries all.1

  -- ---- the sectors ascend

  above_with : (low sector : ℕ) (value : V) (entries : List (ℕ × V)) → nat_cmp low sector ≡ Less → AllAbove low entries → AllAbove low (with_value entries sector value)
  above_with low sector value [] is all = (is, tt)
  above_with low sector value (entry ∷ entries) is all = go (nat_cmp sector entry.0) (above_with low sector value entries is all.1)
    where
      go : (o : Ordering) → AllAbove low (with_value entries sector value)
          → AllAbove low (match_ordering o ((sector, value) ∷ entry ∷ entries) ((entry.0, value) ∷ entries) (entry ∷ with_value entries sector value))
      go Less rest = (is, all)
      go Equal rest = all
      go Greater rest = (all.0, rest)

  pub ascend_with : (sector : ℕ) (value : V) (entries : List (ℕ × V)) → Ascend entries → Ascend (with_value entries sector value)
  unfolding IsStrictlySortedBy
  ascend_with sector value [] sorted = (tt, tt)
  ascend_with sector value (entry ∷ entries) sorted = go (nat_cmp sector entry.0) refl (ascend_with sector value entries sorted.1)
    where
      go : (o : Ordering) → nat_cmp sector entry.0 ≡ o → Ascend (with_value entries sector value)
          → Ascend (match_ordering o ((sector, value) ∷ entry ∷ entries) ((entry.0, value) ∷ entries) (entry ∷ with_value entries sector value))
      go Less is rest = ((is, above_more sector entry.0 entries is sorted.0), sorted)
      go Equal is rest = sorted
      go Greater is rest = (above_with entry.0 sector value entries (nat_cmp_total.antisymm entry.0 sector ∙ ap ordering_reverse is) sorted.0, rest)

  above_without : (low sector : ℕ) (entries : List (ℕ × V)) → AllAbove low entries → AllAbove low (without entries sector)
  above_without low sector [] all = tt
  above_without low sector (entry ∷ entries) all = go (is_at (nat_cmp sector) entry.0) (above_without low sector entries all.1)
    where
      go : (b : Bool) → AllAbove low (without entries sector) → AllAbove low (if b then entries else entry ∷ without entries sector)
      go true rest = all.1
      go false rest = (all.0, rest)

  pub ascend_without : (sector : ℕ) (entries : List (ℕ × V)) → Ascend entries → Ascend (without entries sector)
  unfolding IsStrictlySortedBy
  ascend_without sector [] sorted = tt
  ascend_without sector (entry ∷ entries) sorted = go (is_at (nat_cmp sector) entry.0) (ascend_without sector entries sorted.1)
    where
      go : (b : Bool) → Ascend (without entries sector) → Ascend (if b then entries else entry ∷ without entries sector)
      go true rest = sorted.1
      go false rest = (above_without entry.0 sector entries sorted.0, rest)

  -- ---- a value made another in its place

  pub keys-adjusted : (f : V → V) (entries : List (ℕ × V)) (sector : ℕ) → keys_of (adjusted f entries sector) ≡ keys_of entries
  keys-adjusted f [] sector = refl
  keys-adjusted f (entry ∷ entries) sector = go (is_at (nat_cmp sector) entry.0) (keys-adjusted f entries sector)
    where
      go : (b : Bool) → keys_of (adjusted f entries sector) ≡ keys_of entries
          → keys_of (if b then (entry.0, f entry.1) ∷ entries else entry ∷ adjusted f entries sector) ≡ keys_of (entry ∷ entries)
      go true rest = refl
      go false rest = ap (λ keys. entry.0 ∷ keys) rest

  pub ascend_adjusted : (f : V → V) (entries : List (ℕ × V)) (sector : ℕ) → Ascend entries → Ascend (adjusted f entries sector)
  ascend_adjusted f entries sector sorted = subst (λ keys. IsStrictlySortedBy nat_cmp keys) (sym (keys-adjusted f entries sector)) sorted

  -- where there is a value, to set another is to adjust it
  pub with_value_there : (f : V → V) (entries : List (ℕ × V)) (sector : ℕ) (value : V) → Ascend entries → value_at entries sector ≡ Some value → with_value entries sector (f value) ≡ adjusted f entries sector
  unfolding IsStrictlySortedBy
  with_value_there f [] sector value sorted there = cc there
  with_value_there f (entry ∷ entries) sector value sorted there = by_answer (nat_cmp sector entry.0)
      (λ is. let none = ap (λ b. if b then Some entry.1 else value_at entries sector) (ap is_eq is) ∙ absent sector entries (above_more sector entry.0 entries is sorted.0) in cc (sym there ∙ none))
      (λ is. let same : Some entry.1 ≡ Some value = sym (ap (λ b. if b then Some entry.1 else value_at entries sector) (ap is_eq is)) ∙ there in
      let at : entry.1 ≡ value = cc same in
      ap (λ o. match_ordering o ((sector, f value) ∷ entry ∷ entries) ((entry.0, f value) ∷ entries) (entry ∷ with_value entries sector (f value))) is
      ∙ ap (λ v. (entry.0, f v) ∷ entries) (sym at)
      ∙ sym (ap (λ b. if b then (entry.0, f entry.1) ∷ entries else entry ∷ adjusted f entries sector) (ap is_eq is)))
      (λ is. ap (λ o. match_ordering o ((sector, f value) ∷ entry ∷ entries) ((entry.0, f value) ∷ entries) (entry ∷ with_value entries sector (f value))) is
      ∙ ap (λ rest. entry ∷ rest) (with_value_there f entries sector value sorted.1 (sym (ap (λ b. if b then Some entry.1 else value_at entries sector) (ap is_eq is)) ∙ there))
      ∙ sym (ap (λ b. if b then (entry.0, f entry.1) ∷ entries else entry ∷ adjusted f entries sector) (ap is_eq is)))

  -- where there is none, nothing is adjusted and nothing is removed
  pub adjusted_nothing : (f : V → V) (entries : List (ℕ × V)) (sector : ℕ) → value_at entries sector ≡ None → adjusted f entries sector ≡ entries
  adjusted_nothing f [] sector none = refl
  adjusted_nothing f (entry ∷ entries) sector none = go (is_at (nat_cmp sector) entry.0) refl (adjusted_nothing f entries sector)
    where
      go : (b : Bool) → is_at (nat_cmp sector) entry.0 ≡ b → (value_at entries sector ≡ None → adjusted f entries sector ≡ entries)
          → (if b then (entry.0, f entry.1) ∷ entries else entry ∷ adjusted f entries sector) ≡ entry ∷ entries
      go true is rest = cc (ap (λ b. if b then Some entry.1 else value_at entries sector) (sym is) ∙ none)
      go false is rest = ap (λ tail. entry ∷ tail) (rest (ap (λ b. if b then Some entry.1 else value_at entries sector) (sym is) ∙ none))

  pub removed_nothing : (entries : List (ℕ × V)) (sector : ℕ) → value_at entries sector ≡ None → without entries sector ≡ entries
  removed_nothing [] sector none = refl
  removed_nothing (entry ∷ entries) sector none = go (is_at (nat_cmp sector) entry.0) refl (removed_nothing entries sector)
    where
      go : (b : Bool) → is_at (nat_cmp sector) entry.0 ≡ b → (value_at entries sector ≡ None → without entries sector ≡ entries)
          → (if b then entries else entry ∷ without entries sector) ≡ entry ∷ entries
      go true is rest = cc (ap (λ b. if b then Some entry.1 else value_at entries sector) (sym is) ∙ none)
      go false is rest = ap (λ tail. entry ∷ tail) (rest (ap (λ b. if b then Some entry.1 else value_at entries sector) (sym is) ∙ none))

  -- the value at the sector is what f makes of the one that was there
  pub value_at-adjusted : (f : V → V) (entries : List (ℕ × V)) (sector : ℕ) → value_at (adjusted f entries sector) sector ≡ option_map f (value_at entries sector)
  value_at-adjusted f [] sector = refl
  value_at-adjusted f (entry ∷ entries) sector = go (is_at (nat_cmp sector) entry.0) refl (value_at-adjusted f entries sector)
    where
      go : (b : Bool) → is_at (nat_cmp sector) entry.0 ≡ b → value_at (adjusted f entries sector) sector ≡ option_map f (value_at entries sector)
          → value_at (if b then (entry.0, f entry.1) ∷ entries else entry ∷ adjusted f entries sector) sector ≡ option_map f (if b then Some entry.1 else value_at entries sector)
      go true is rest = ap (λ b. if b then Some (f entry.1) else value_at entries sector) is
      go false is rest = ap (λ b. if b then Some entry.1 else value_at (adjusted f entries sector) sector) is ∙ rest

  -- ---- some of the entries

  above_some : (low : ℕ) (kept : List Bool) (entries : List (ℕ × V)) → AllAbove low entries → AllAbove low (items_where_true kept entries)
  above_some low [] entries all = tt
  above_some low (b ∷ kept) [] all = tt
  above_some low (true ∷ kept) (entry ∷ entries) all = (all.0, above_some low kept entries all.1)
  above_some low (false ∷ kept) (entry ∷ entries) all = above_some low kept entries all.1

  pub ascend_some : (kept : List Bool) (entries : List (ℕ × V)) → Ascend entries → Ascend (items_where_true kept entries)
  unfolding IsStrictlySortedBy
  ascend_some [] entries sorted = tt
  ascend_some (b ∷ kept) [] sorted = tt
  ascend_some (true ∷ kept) (entry ∷ entries) sorted = (above_some entry.0 kept entries sorted.0, ascend_some kept entries sorted.1)
  ascend_some (false ∷ kept) (entry ∷ entries) sorted = ascend_some kept entries sorted.1

  -- ---- adjusting by one function or another

  -- only what a function makes of the value at the sector counts
  pub adjusted_same : (f g : V → V) (entries : List (ℕ × V)) (sector : ℕ) (value : V) → value_at entries sector ≡ Some value → f value ≡ g value → adjusted f entries sector ≡ adjusted g entries sector
  adjusted_same f g [] sector value there same = refl
  adjusted_same f g (entry ∷ entries) sector value there same = go (is_at (nat_cmp sector) entry.0) refl (adjusted_same f g entries sector value)
    where
      go : (b : Bool) → is_at (nat_cmp sector) entry.0 ≡ b → (value_at entries sector ≡ Some value → f value ≡ g value → adjusted f entries sector ≡ adjusted g entries sector)
          → (if b then (entry.0, f entry.1) ∷ entries else entry ∷ adjusted f entries sector) ≡ (if b then (entry.0, g entry.1) ∷ entries else entry ∷ adjusted g entries sector)
      go true is rest =
          let here : Some entry.1 ≡ Some value = ap (λ b. if b then Some entry.1 else value_at entries sector) (sym is) ∙ there in
          let at : entry.1 ≡ value = cc here in
          ap (λ v. (entry.0, v) ∷ entries) (ap f at ∙ same ∙ sym (ap g at))
      go false is rest = ap (λ tail. entry ∷ tail) (rest (ap (λ b. if b then Some entry.1 else value_at entries sector) (sym is) ∙ there) same)

  pub adjusted-adjusted : (f g : V → V) (entries : List (ℕ × V)) (sector : ℕ) → adjusted g (adjusted f entries sector) sector ≡ adjusted (λ v. g (f v)) entries sector
  adjusted-adjusted f g [] sector = refl
  adjusted-adjusted f g (entry ∷ entries) sector = go (is_at (nat_cmp sector) entry.0) refl (adjusted-adjusted f g entries sector)
    where
      go : (b : Bool) → is_at (nat_cmp sector) entry.0 ≡ b → adjusted g (adjusted f entries sector) sector ≡ adjusted (λ v. g (f v)) entries sector
          → adjusted g (if b then (entry.0, f entry.1) ∷ entries else entry ∷ adjusted f entries sector) sector ≡ (if b then (entry.0, g (f entry.1)) ∷ entries else entry ∷ adjusted (λ v. g (f v)) entries sector)
      go true is rest = ap (λ b. if b then (entry.0, g (f entry.1)) ∷ entries else (entry.0, f entry.1) ∷ adjusted g entries sector) is
      go false is rest = ap (λ b. if b then (entry.0, g entry.1) ∷ adjusted f entries sector else entry ∷ adjusted g (adjusted f entries sector) sector) is ∙ ap (λ tail. entry ∷ tail) rest

  pub adjusted_by_nothing : (entries : List (ℕ × V)) (sector : ℕ) → adjusted (λ v. v) entries sector ≡ entries
  adjusted_by_nothing [] sector = refl
  adjusted_by_nothing (entry ∷ entries) sector = go (is_at (nat_cmp sector) entry.0) (adjusted_by_nothing entries sector)
    where
      go : (b : Bool) → adjusted (λ v. v) entries sector ≡ entries → (if b then (entry.0, entry.1) ∷ entries else entry ∷ adjusted (λ v. v) entries sector) ≡ entry ∷ entries
      go true rest = refl
      go false rest = ap (λ tail. entry ∷ tail) rest

-- The last value at a sector: what a map that takes the entries one after another has there, of lists one behind the other, chosen ones, and those made of others.
use Rattle.std.proofs.Common.{◌≡◌, ℕ, Bool, true, false, if◌then◌else◌, cond, List, [], ◌∷◌, ◌++◌, filter, fold, map, Option, Some, None, refl, sym, ap, ◌∙◌, subst}
use Rattle.std.proofs.lemmas.Cmp.{nat_cmp_total}
use Rattle.std.specs.BTreeMap.{is_at}
use Rattle.std.specs.List.{cons_option, filter_map}
use Rattle.std.specs.List.Sorted.{IsStrictlySortedBy}
use Rattle.std.specs.Option.{option_and_then, option_map, option_or}
use Rattle.std.specs.Ordering.{nat_cmp}
use Rattle.sector_bytes.specs.SectorMaps.{Ascend, value_at, with_value}
use Rattle.sector_bytes.proofs.MapLaws.{AllAbove, absent, found}
use Rattle.sorted_entries.proofs.Sorted.{lookup-insert_entry}
use Rattle.server_issues.specs.Doubled.{last_at}

pub or_none : {V : Type 0} (o : Option V) → option_or o None ≡ o
or_none None = refl
or_none (Some v) = refl

abbrev neither : {V : Type 0} → Bool → Option V
neither b = if b then None else None

neither_is : {V : Type 0} (b : Bool) → neither {V = V} b ≡ None
neither_is true = refl
neither_is false = refl

or_assoc : {V : Type 0} (o p q : Option V) → option_or (option_or o p) q ≡ option_or o (option_or p q)
or_assoc None p q = refl
or_assoc (Some v) p q = refl

module _ {V : Type 0} where
  pub folded : (entries all : List (ℕ × V)) (s : ℕ) → value_at (fold (λ m e. with_value m e.0 e.1) all entries) s ≡ option_or (last_at entries s) (value_at all s)
  folded [] all s = refl
  folded (e ∷ entries) all s =
      folded entries (with_value all e.0 e.1) s ∙ ap (option_or (last_at entries s)) (lookup-insert_entry nat_cmp_total e.0 e.1 s all) ∙ go (last_at entries s) (is_at (nat_cmp s) e.0)
    where
      go : (o : Option V) (b : Bool) → option_or o (if b then Some e.1 else value_at all s) ≡ option_or (option_or o (if b then Some e.1 else None)) (value_at all s)
      go (Some v) b = refl
      go None true = refl
      go None false = refl

  pub last-append : (xs ys : List (ℕ × V)) (s : ℕ) → last_at (xs ++ ys) s ≡ option_or (last_at ys s) (last_at xs s)
  last-append [] ys s = sym (or_none (last_at ys s))
  last-append (x ∷ xs) ys s = ap (λ o. option_or o (if is_at (nat_cmp s) x.0 then Some x.1 else None)) (last-append xs ys s)
      ∙ or_assoc (last_at ys s) (last_at xs s) (if is_at (nat_cmp s) x.0 then Some x.1 else None)

  -- of those whose sectors pass
  pub last-filter : (p : ℕ → Bool) (xs : List (ℕ × V)) (s : ℕ) → last_at (filter (λ e. p e.0) xs) s ≡ (if p s then last_at xs s else None)
  last-filter p [] s = sym (neither_is (p s))
  last-filter p (x ∷ xs) s = go (p x.0) refl (is_at (nat_cmp s) x.0) refl (last-filter p xs s)
    where
      other : (t b : Bool) (o : Option V) → o ≡ (if b then last_at xs s else None) → (if t then option_or o None else o) ≡ (if b then option_or (last_at xs s) None else None)
      other t true o is = both t ∙ is ∙ sym (or_none (last_at xs s))
        where
          both : (t : Bool) → (if t then option_or o None else o) ≡ o
          both true = or_none o
          both false = refl
      other t false o is = both t ∙ is
        where
          both : (t : Bool) → (if t then option_or o None else o) ≡ o
          both true = or_none o
          both false = refl

      go : (t : Bool) → p x.0 ≡ t → (b : Bool) → is_at (nat_cmp s) x.0 ≡ b → last_at (filter (λ e. p e.0) xs) s ≡ (if p s then last_at xs s else None)
          → last_at (cond t (x ∷ filter (λ e. p e.0) xs) (filter (λ e. p e.0) xs)) s ≡ (if p s then option_or (last_at xs s) (if is_at (nat_cmp s) x.0 then Some x.1 else None) else None)
      go true passes true at rest =
          let same : p s ≡ true = ap p (sym (found s x.0 at)) ∙ passes in
          ap (λ o. option_or o (if is_at (nat_cmp s) x.0 then Some x.1 else None)) (rest ∙ ap (λ b. if b then last_at xs s else None) same)
          ∙ sym (ap (λ b. if b then option_or (last_at xs s) (if is_at (nat_cmp s) x.0 then Some x.1 else None) else None) same)
      go false passes true at rest =
          let same : p s ≡ false = ap p (sym (found s x.0 at)) ∙ passes in
          rest ∙ ap (λ b. if b then last_at xs s else None) same
          ∙ sym (ap (λ b. if b then option_or (last_at xs s) (if is_at (nat_cmp s) x.0 then Some x.1 else None) else None) same)
      go true passes false at rest =
          ap (λ b. option_or (last_at (filter (λ e. p e.0) xs) s) (if b then Some x.1 else None)) at ∙ other true (p s) (last_at (filter (λ e. p e.0) xs) s) rest
          ∙ sym (ap (λ b. if p s then option_or (last_at xs s) (if b then Some x.1 else None) else None) at)
      go false passes false at rest =
          other false (p s) (last_at (filter (λ e. p e.0) xs) s) rest
          ∙ sym (ap (λ b. if p s then option_or (last_at xs s) (if b then Some x.1 else None) else None) at)

-- of what is made of each value
pub last-map : {V W : Type 0} (f : V → W) (xs : List (ℕ × V)) (s : ℕ) → last_at (map (λ e. (e.0, f e.1)) xs) s ≡ option_map f (last_at xs s)
last-map f [] s = refl
last-map {V = V} f (x ∷ xs) s = ap (λ o. option_or o (if is_at (nat_cmp s) x.0 then Some (f x.1) else None)) (last-map f xs s) ∙ go (last_at xs s) (is_at (nat_cmp s) x.0)
  where
    go : (o : Option V) (b : Bool) → option_or (option_map f o) (if b then Some (f x.1) else None) ≡ option_map f (option_or o (if b then Some x.1 else None))
    go (Some v) b = refl
    go None true = refl
    go None false = refl

-- of what is made of some entries of ascending sectors: what is made of the one there
module _ {V W : Type 0} (g : ℕ × V → Option W) where
  abbrev made : ℕ × V → Option (ℕ × W)
  made e = option_map (λ w. (e.0, w)) (g e)

  pub last-made : (entries : List (ℕ × V)) (s : ℕ) → Ascend entries → last_at (filter_map made entries) s ≡ option_and_then (λ v. g (s, v)) (value_at entries s)
  unfolding IsStrictlySortedBy
  last-made [] s sorted = refl
  last-made (e ∷ entries) s sorted = go (is_at (nat_cmp s) e.0) refl (g e) refl (last-made entries s sorted.1)
    where
      at_key : (n : ℕ) → e.0 ≡ n → g e ≡ g (n, e.1)
      at_key n is = ap (λ k. g (k, e.1)) is

      nothing_behind : e.0 ≡ s → value_at entries s ≡ None
      nothing_behind is = absent s entries (subst (λ n. AllAbove n entries) is sorted.0)

      go : (b : Bool) → is_at (nat_cmp s) e.0 ≡ b → (o : Option W) → g e ≡ o → last_at (filter_map made entries) s ≡ option_and_then (λ v. g (s, v)) (value_at entries s)
          → last_at (cons_option (option_map (λ w. (e.0, w)) o) (filter_map made entries)) s ≡ option_and_then (λ v. g (s, v)) (if b then Some e.1 else value_at entries s)
      go true at None is rest = rest ∙ ap (option_and_then (λ v. g (s, v))) (nothing_behind (found s e.0 at)) ∙ sym is ∙ at_key s (found s e.0 at)
      go true at (Some w) is rest =
          ap (λ b. option_or (last_at (filter_map made entries) s) (if b then Some w else None)) at
          ∙ ap (λ o. option_or o (Some w)) (rest ∙ ap (option_and_then (λ v. g (s, v))) (nothing_behind (found s e.0 at))) ∙ sym is ∙ at_key s (found s e.0 at)
      go false at None is rest = rest
      go false at (Some w) is rest =
          ap (λ b. option_or (last_at (filter_map made entries) s) (if b then Some w else None)) at ∙ or_none (last_at (filter_map made entries) s) ∙ rest

-- Entries of a map that pass a test, and values that two functions change alike.
use Rattle.std.proofs.Common.{◌≡◌, ◌≢◌, ◌≤◌, ℕ, Bool, true, false, if◌then◌else◌, List, [], ◌∷◌, filter, map, Some, is_some, refl, sym, ap, ◌∙◌, subst, arith}
use Rattle.std.specs.BTreeMap.{is_at}
use Rattle.std.specs.List.Sorted.{IsStrictlySortedBy}
use Rattle.std.specs.Map.{keys_of}
use Rattle.std.specs.Option.{option_map, unwrap_or}
use Rattle.std.specs.Ordering.{is_eq, nat_cmp}
use Rattle.frang_base.specs.Functions.{member}
use Rattle.frang_base.proofs.Tests.{at_itself}
use Rattle.sector_bytes.specs.SectorMaps.{Ascend, adjusted, room_for, value_at}
use Rattle.sector_bytes.proofs.MapLaws.{AllAbove, absent, found}
use Rattle.clerk_cache.proofs.Flagging.{member-cons}
use Rattle.log_slots.proofs.Maps.{at_other}

module _ {V : Type 0} where
  -- ---- those that pass

  module _ (test : V → Bool) where
    abbrev pub passing : List (ℕ × V) → List (ℕ × V)
    passing entries = filter (λ entry. test entry.1) entries

    above_passing : (low : ℕ) (entries : List (ℕ × V)) → AllAbove low entries → AllAbove low (passing entries)
    above_passing low [] all = tt
    above_passing low (entry ∷ entries) all = go (test entry.1) (above_passing low entries all.1)
      where
        go : (b : Bool) → AllAbove low (passing entries) → AllAbove low (if b then entry ∷ passing entries else passing entries)
        go true rest = (all.0, rest)
        go false rest = rest

    pub passing_ascend : (entries : List (ℕ × V)) → Ascend entries → Ascend (passing entries)
    unfolding IsStrictlySortedBy
    passing_ascend [] sorted = tt
    passing_ascend (entry ∷ entries) sorted = go (test entry.1) (passing_ascend entries sorted.1)
      where
        go : (b : Bool) → Ascend (passing entries) → Ascend (if b then entry ∷ passing entries else passing entries)
        go true rest = (above_passing entry.0 entries sorted.0, rest)
        go false rest = rest

    none_passing : (sector : ℕ) (entries : List (ℕ × V)) → AllAbove sector entries → member sector (keys_of (passing entries)) ≡ false
    none_passing sector [] all = refl
    none_passing sector (entry ∷ entries) all = go (test entry.1) (none_passing sector entries all.1)
      where
        go : (b : Bool) → member sector (keys_of (passing entries)) ≡ false → member sector (keys_of (if b then entry ∷ passing entries else passing entries)) ≡ false
        go true rest = member-cons sector entry.0 (keys_of (passing entries)) ∙ ap (λ t. if t then true else member sector (keys_of (passing entries))) (ap is_eq all.0) ∙ rest
        go false rest = rest

    pub member_passing : (sector : ℕ) (entries : List (ℕ × V)) → Ascend entries → member sector (keys_of (passing entries)) ≡ unwrap_or (option_map test (value_at entries sector)) false
    unfolding IsStrictlySortedBy
    member_passing sector [] sorted = refl
    member_passing sector (entry ∷ entries) sorted = go (test entry.1) refl (is_at (nat_cmp sector) entry.0) refl (member_passing sector entries sorted.1)
      where
        go : (b : Bool) → test entry.1 ≡ b → (t : Bool) → is_at (nat_cmp sector) entry.0 ≡ t → member sector (keys_of (passing entries)) ≡ unwrap_or (option_map test (value_at entries sector)) false
            → member sector (keys_of (if b then entry ∷ passing entries else passing entries)) ≡ unwrap_or (option_map test (if t then Some entry.1 else value_at entries sector)) false
        go true is true at rest = member-cons sector entry.0 (keys_of (passing entries)) ∙ ap (λ t. if t then true else member sector (keys_of (passing entries))) at ∙ sym is
        go true is false at rest = member-cons sector entry.0 (keys_of (passing entries)) ∙ ap (λ t. if t then true else member sector (keys_of (passing entries))) at ∙ rest
        go false is true at rest = none_passing sector entries (subst (λ low. AllAbove low entries) (found sector entry.0 at) sorted.0) ∙ sym is
        go false is false at rest = rest

  -- ---- changed alike

  abbrev pub each : (ℕ → V → V) → List (ℕ × V) → List (ℕ × V)
  each f entries = map (λ entry. (entry.0, f entry.0 entry.1)) entries

  pub each-each : (f g : ℕ → V → V) (entries : List (ℕ × V)) → each g (each f entries) ≡ each (λ k v. g k (f k v)) entries
  each-each f g [] = refl
  each-each f g (entry ∷ entries) = ap (λ rest. (entry.0, g entry.0 (f entry.0 entry.1)) ∷ rest) (each-each f g entries)

  pub each_alike : (f g : ℕ → V → V) (entries : List (ℕ × V)) → Ascend entries → ((sector : ℕ) (v : V) → value_at entries sector ≡ Some v → f sector v ≡ g sector v) → each f entries ≡ each g entries
  unfolding IsStrictlySortedBy
  each_alike f g [] sorted alike = refl
  each_alike f g (entry ∷ entries) sorted alike =
      ap (λ v. (entry.0, v) ∷ each f entries) (alike entry.0 entry.1 (ap (λ b. if b then Some entry.1 else value_at entries entry.0) (at_itself entry.0)))
      ∙ ap (λ rest. (entry.0, g entry.0 entry.1) ∷ rest) (each_alike f g entries sorted.1 behind)
    where
      further : (sector : ℕ) (v : V) (b : Bool) → is_at (nat_cmp sector) entry.0 ≡ b → value_at entries sector ≡ Some v → (if b then Some entry.1 else value_at entries sector) ≡ Some v
      further sector v true at there = cc (sym (absent sector entries (subst (λ low. AllAbove low entries) (found sector entry.0 at) sorted.0)) ∙ there)
      further sector v false at there = there

      behind : (sector : ℕ) (v : V) → value_at entries sector ≡ Some v → f sector v ≡ g sector v
      behind sector v there = alike sector v (further sector v (is_at (nat_cmp sector) entry.0) refl there)

  -- ---- another value

  pub other_adjusted : (f : V → V) (entries : List (ℕ × V)) (sector other : ℕ) → other ≢ sector → value_at (adjusted f entries sector) other ≡ value_at entries other
  other_adjusted f [] sector other apart = refl
  other_adjusted f (entry ∷ entries) sector other apart = go (is_at (nat_cmp sector) entry.0) refl (other_adjusted f entries sector other apart)
    where
      go : (b : Bool) → is_at (nat_cmp sector) entry.0 ≡ b → value_at (adjusted f entries sector) other ≡ value_at entries other
          → value_at (if b then (entry.0, f entry.1) ∷ entries else entry ∷ adjusted f entries sector) other ≡ value_at (entry ∷ entries) other
      go true at rest =
          let no : is_at (nat_cmp other) entry.0 ≡ false = at_other other entry.0 (λ same. apart (same ∙ found sector entry.0 at)) in
          ap (λ b. if b then Some (f entry.1) else value_at entries other) no ∙ sym (ap (λ b. if b then Some entry.1 else value_at entries other) no)
      go false at rest = ap (λ o. if is_at (nat_cmp other) entry.0 then Some entry.1 else o) rest

  -- what a function doesn't change, it doesn't change at any sector
  pub part_adjusted : {X : Type 0} (part : V → X) (f : V → V) → ((v : V) → part (f v) ≡ part v) → (entries : List (ℕ × V)) (sector other : ℕ)
      → option_map part (value_at (adjusted f entries sector) other) ≡ option_map part (value_at entries other)
  part_adjusted part f same [] sector other = refl
  part_adjusted {X} part f same (entry ∷ entries) sector other = go (is_at (nat_cmp sector) entry.0) (part_adjusted part f same entries sector other)
    where
      here : (t : Bool) → option_map part (if t then Some (f entry.1) else value_at entries other) ≡ option_map part (if t then Some entry.1 else value_at entries other)
      here true = ap Some (same entry.1)
      here false = refl

      there : option_map part (value_at (adjusted f entries sector) other) ≡ option_map part (value_at entries other)
          → (t : Bool) → option_map part (if t then Some entry.1 else value_at (adjusted f entries sector) other) ≡ option_map part (if t then Some entry.1 else value_at entries other)
      there rest true = refl
      there rest false = rest

      go : (b : Bool) → option_map part (value_at (adjusted f entries sector) other) ≡ option_map part (value_at entries other)
          → option_map part (value_at (if b then (entry.0, f entry.1) ∷ entries else entry ∷ adjusted f entries sector) other) ≡ option_map part (value_at (entry ∷ entries) other)
      go true rest = here (is_at (nat_cmp other) entry.0)
      go false rest = there rest (is_at (nat_cmp other) entry.0)

-- a sector takes room for one at most
pub room_most : {V : Type 0} (entries : List (ℕ × V)) (sector : ℕ) → room_for entries sector ≤ 1
room_most entries sector = go (is_some (value_at entries sector))
  where
    go : (b : Bool) → (if b then 0 else 1) ≤ 1
    go true = omega arith
    go false = omega arith

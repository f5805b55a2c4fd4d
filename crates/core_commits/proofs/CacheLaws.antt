-- A cache after a commit, by sector.
use Rattle.std.proofs.Common.{◌≡◌, ℕ, Bool, true, false, if◌then◌else◌, List, [], ◌∷◌, Option, Some, None, nat_eq, refl, sym, ap, ◌∙◌, subst, arith}
use Rattle.std.proofs.lemmas.Bool.Decides.{nat_tests}
use Rattle.std.proofs.lemmas.Cmp.{nat_cmp_total}
use Rattle.std.specs.List.Sorted.{IsStrictlySortedBy}
use Rattle.std.specs.Map.{keys_of}
use Rattle.std.specs.Option.{option_map, option_or}
use Rattle.std.specs.BTreeMap.{is_at}
use Rattle.std.specs.Ordering.{nat_cmp}
use Rattle.frang_base.specs.Functions.{member}
use Rattle.sector_bytes.specs.SectorMaps.{value_at, without, Ascend}
use Rattle.sector_bytes.proofs.MapLaws.{found, absent, ascend_with, ascend_without}
use Rattle.sorted_entries.proofs.Sorted.{lookup-insert_entry}
use Rattle.cache_definitions.specs.Caches.{Cache, CachedSector, dirty, each_cached, forgotten}
use Rattle.core_definitions.specs.Plans.{BytesSet, Outcome}
use Rattle.core_definitions.specs.LineEffects.{cache_after, sector_after, with_bytes}
use Rattle.std.specs.Prelude.{fold}
use Rattle.core_commits.specs.Commits.{last_set}

at_test : (s t : ℕ) → is_at (nat_cmp s) t ≡ nat_eq t s
at_test s t = grind (arith, nat_tests)

pub each_at : (f : ℕ → CachedSector → CachedSector) (cache : Cache) (s : ℕ) → value_at (each_cached f cache) s ≡ option_map (f s) (value_at cache s)
each_at f [] s = refl
each_at f (entry ∷ entries) s = go (is_at (nat_cmp s) entry.0) refl (each_at f entries s)
  where
    go : (b : Bool) → is_at (nat_cmp s) entry.0 ≡ b → value_at (each_cached f entries) s ≡ option_map (f s) (value_at entries s) →
        (if b then Some (f entry.0 entry.1) else value_at (each_cached f entries) s) ≡ option_map (f s) (if b then Some entry.1 else value_at entries s)
    go true e rest = ap (λ n. Some (f n entry.1)) (found s entry.0 e)
    go false e rest = rest

keys_each : (f : ℕ → CachedSector → CachedSector) (cache : Cache) → keys_of (each_cached f cache) ≡ keys_of cache
keys_each f [] = refl
keys_each f (entry ∷ entries) = ap (λ keys. entry.0 ∷ keys) (keys_each f entries)

without_at : (cache : Cache) (t s : ℕ) → Ascend cache → value_at (without cache t) s ≡ (if nat_eq t s then None else value_at cache s)
unfolding IsStrictlySortedBy
without_at [] t s sorted = by (nat_eq t s)
  where
    by : (b : Bool) → ◌≡◌ {A = Option CachedSector} None (if b then None else None)
    by true = refl
    by false = refl
without_at (entry ∷ entries) t s sorted = go (is_at (nat_cmp t) entry.0) refl (is_at (nat_cmp s) entry.0) refl (without_at entries t s sorted.1)
  where
    none : is_at (nat_cmp s) entry.0 ≡ true → value_at entries s ≡ None
    none e = ap (value_at entries) (sym (found s entry.0 e)) ∙ absent entry.0 entries sorted.0

    same : is_at (nat_cmp t) entry.0 ≡ true → is_at (nat_cmp s) entry.0 ≡ true → nat_eq t s ≡ true
    same e f = grind (arith, nat_tests)

    apart : is_at (nat_cmp t) entry.0 ≡ true → is_at (nat_cmp s) entry.0 ≡ false → nat_eq t s ≡ false
    apart e f = grind (arith, nat_tests)

    other : is_at (nat_cmp t) entry.0 ≡ false → is_at (nat_cmp s) entry.0 ≡ true → nat_eq t s ≡ false
    other e f = grind (arith, nat_tests)

    go : (b : Bool) → is_at (nat_cmp t) entry.0 ≡ b → (d : Bool) → is_at (nat_cmp s) entry.0 ≡ d → value_at (without entries t) s ≡ (if nat_eq t s then None else value_at entries s) →
        value_at (if b then entries else entry ∷ without entries t) s ≡ (if nat_eq t s then None else (if d then Some entry.1 else value_at entries s))
    go true e true f rest = none f ∙ sym (ap (λ c. if c then None else Some entry.1) (same e f))
    go true e false f rest = sym (ap (λ c. if c then None else value_at entries s) (apart e f))
    go false e true f rest = ap (λ c. if c then Some entry.1 else value_at (without entries t) s) f ∙ sym (ap (λ c. if c then None else Some entry.1) (other e f))
    go false e false f rest = ap (λ c. if c then Some entry.1 else value_at (without entries t) s) f ∙ rest

pub forgotten_at : (sectors : List ℕ) (cache : Cache) (s : ℕ) → Ascend cache → value_at (forgotten cache sectors) s ≡ (if member s sectors then None else value_at cache s)
forgotten_at [] cache s sorted = refl
forgotten_at (t ∷ sectors) cache s sorted =
    forgotten_at sectors (without cache t) s (ascend_without t cache sorted) ∙ ap (λ e. if member s sectors then None else e) (without_at cache t s sorted) ∙ by (nat_eq t s) (member s sectors)
  where
    by : (b d : Bool) → (if d then None else (if b then None else value_at cache s)) ≡ (if (if b then true else d) then None else value_at cache s)
    by true true = refl
    by true false = refl
    by false true = refl
    by false false = refl

abbrev pub with_set : ℕ → Option BytesSet → Option CachedSector → Option CachedSector
with_set mark None e = e
with_set mark (Some x) e = Some (dirty x.block x.cover mark true)

bytes_at : (mark : ℕ) (sets : List BytesSet) (cache : Cache) (s : ℕ) → value_at (fold (with_bytes mark) cache sets) s ≡ with_set mark (last_set sets s) (value_at cache s)
bytes_at mark [] cache s = refl
bytes_at mark (x ∷ xs) cache s =
    bytes_at mark xs (with_bytes mark cache x) s
    ∙ ap (with_set mark (last_set xs s)) (lookup-insert_entry nat_cmp_total x.sector (dirty x.block x.cover mark true) s cache ∙ ap (λ b. if b then Some (dirty x.block x.cover mark true) else value_at cache s) (at_test s x.sector))
    ∙ by (last_set xs s) (nat_eq x.sector s)
  where
    by : (o : Option BytesSet) (b : Bool) → with_set mark o (if b then Some (dirty x.block x.cover mark true) else value_at cache s) ≡ with_set mark (option_or o (if b then Some x else None)) (value_at cache s)
    by (Some y) true = refl
    by (Some y) false = refl
    by None true = refl
    by None false = refl

ascend_bytes : (mark : ℕ) (sets : List BytesSet) (cache : Cache) → Ascend cache → Ascend (fold (with_bytes mark) cache sets)
ascend_bytes mark [] cache sorted = sorted
ascend_bytes mark (x ∷ xs) cache sorted = ascend_bytes mark xs (with_bytes mark cache x) (ascend_with x.sector (dirty x.block x.cover mark true) cache sorted)

pub after_at : (mark : ℕ) (outcome : Outcome) (cache : Cache) (s : ℕ) → Ascend cache →
    value_at (cache_after mark outcome cache) s ≡ (if member s outcome.freed then None else with_set mark (last_set outcome.bytes s) (option_map (sector_after mark outcome s) (value_at cache s)))
after_at mark outcome cache s sorted =
    forgotten_at outcome.freed (fold (with_bytes mark) (each_cached (sector_after mark outcome) cache) outcome.bytes) s
    (ascend_bytes mark outcome.bytes (each_cached (sector_after mark outcome) cache) (subst (λ keys. IsStrictlySortedBy nat_cmp keys) (sym (keys_each (sector_after mark outcome) cache)) sorted))
    ∙ ap (λ e. if member s outcome.freed then None else e)
    (bytes_at mark outcome.bytes (each_cached (sector_after mark outcome) cache) s ∙ ap (with_set mark (last_set outcome.bytes s)) (each_at (sector_after mark outcome) cache s))

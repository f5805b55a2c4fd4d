-- What the cache's orders give is one of the sectors that are ready and pass.
use Rattle.std.proofs.Common.{◌≡◌, ℕ, Bool, true, false, not, ◌&&◌, ◌||◌, if◌then◌else◌, is_some, List, [], ◌∷◌, Option, Some, None, refl, sym, ap, ◌∙◌, subst, unwrap_or, arith}
use Rattle.std.proofs.lemmas.Bool.Decides.{nat_tests}
use Rattle.std.specs.Prelude.{nat_eq, nat_le}
use Rattle.std.specs.List.{list_any}
use Rattle.std.specs.Option.{option_map}
use Rattle.std.specs.Ordering.{match_ordering}
use Rattle.std.specs.declared.cmp.Ordering.{Ordering}
use Rattle.std.specs.declared.cmp.Ordering.TheVariants.{Less, Equal, Greater}
use Rattle.frang_base.specs.Functions.{member}
use Rattle.frang_base.specs.declared.sector.Sector.{Sector}
use Rattle.sector_bytes.specs.SectorMaps.{Ascend}
use Rattle.cache_definitions.specs.declared.dirt.Dirt.{Dirt}
use Rattle.cache_definitions.specs.Caches.{Cache, CachedSector}
use Rattle.cache_definitions.specs.Flags.{FlaggedCache}
use Rattle.flush_order.specs.declared.Mark.{Mark}
use Rattle.flush_order.specs.Marks.{is_reached, least, lesser, mark_cmp, next_reached, sector_reached}
use Rattle.clerk_cache.specs.Marks.{idle_mark_of, idle_marks_of}
use Rattle.server_writes.specs.Wants.{IsOneOf, is_dirt_reached, is_ready, passes_at, ready_and}
use Rattle.server_writes.proofs.Parts.{Test, and_false, and_true, any_of_made, any_same, at_one, or_true}

-- ---- the least mark

module _ (reached : ℕ) where
  earlier : (a b : Mark) → mark_cmp a b ≡ Less → is_reached reached b ≡ true → is_reached reached a ≡ true
  earlier a b is e = grind (arith, nat_tests)

  as_early : (a b : Mark) → mark_cmp a b ≡ Equal → is_reached reached a ≡ true → is_reached reached b ≡ true
  as_early a b is e = grind (arith, nat_tests)

  later : (a b : Mark) → mark_cmp a b ≡ Greater → is_reached reached a ≡ true → is_reached reached b ≡ true
  later a b is e = grind (arith, nat_tests)

  -- some mark is reached exactly where the least is
  pub any_reached : (marks : List Mark) → list_any (is_reached reached) marks ≡ is_some (next_reached marks reached)
  any_reached [] = refl
  any_reached (mark ∷ marks) = ap (λ rest. is_reached reached mark || rest) (any_reached marks) ∙ by_rest (least marks)
    where
      told : (m : Mark) (b : Bool) → is_some (if b then Some m.sector else None) ≡ b
      told m true = refl
      told m false = refl

      first : (a b : Bool) → (b ≡ true → a ≡ true) → (a || b) ≡ a
      first true b more = refl
      first false true more = sym (more refl)
      first false false more = refl

      second : (a b : Bool) → (a ≡ true → b ≡ true) → (a || b) ≡ b
      second true b more = sym (more refl)
      second false b more = refl

      by_answer : (m : Mark) (o : Ordering) → mark_cmp mark m ≡ o → (is_reached reached mark || is_reached reached m) ≡ is_reached reached (match_ordering o mark m m)
      by_answer m Less is = first (is_reached reached mark) (is_reached reached m) (earlier mark m is)
      by_answer m Equal is = second (is_reached reached mark) (is_reached reached m) (as_early mark m is)
      by_answer m Greater is = second (is_reached reached mark) (is_reached reached m) (later mark m is)

      alone : (b : Bool) → (b || false) ≡ b
      alone true = refl
      alone false = refl

      by_rest : (o : Option Mark) → (is_reached reached mark || is_some (sector_reached reached o)) ≡ is_some (sector_reached reached (Some (lesser mark o)))
      by_rest None = alone (is_reached reached mark) ∙ sym (told mark (is_reached reached mark))
      by_rest (Some m) = ap (λ t. is_reached reached mark || t) (told m (is_reached reached m)) ∙ by_answer m (mark_cmp mark m) refl
          ∙ sym (told (lesser mark (Some m)) (is_reached reached (lesser mark (Some m))))

-- the least is one of them
least_among : (test : Mark → Bool) (marks : List Mark) (m : Mark) → least marks ≡ Some m → test m ≡ true → list_any test marks ≡ true
least_among test [] m is passes = cc
least_among test (mark ∷ marks) m is passes = by_rest (λ at. least_among test marks m at passes) (least marks) refl is
  where
    here : mark ≡ m → list_any test (mark ∷ marks) ≡ true
    here same = ap (λ x. test x || list_any test marks) same ∙ ap (λ t. t || list_any test marks) passes

    there : list_any test marks ≡ true → list_any test (mark ∷ marks) ≡ true
    there rest = ap (λ t. test mark || t) rest ∙ or_true (test mark)

    by_answer : (least marks ≡ Some m → list_any test marks ≡ true) → (x : Mark) (o : Ordering) → least marks ≡ Some x → Some (match_ordering o mark x x) ≡ Some m → list_any test (mark ∷ marks) ≡ true
    by_answer behind x Less rest same = here (cc same)
    by_answer behind x Equal rest same = there (behind (rest ∙ same))
    by_answer behind x Greater rest same = there (behind (rest ∙ same))

    by_rest : (least marks ≡ Some m → list_any test marks ≡ true) → (o : Option Mark) → least marks ≡ o → Some (lesser mark o) ≡ Some m → list_any test (mark ∷ marks) ≡ true
    by_rest behind None rest same = here (cc same)
    by_rest behind (Some x) rest same = by_answer behind x (mark_cmp mark x) rest same

-- one of them is reached and of the sector that is next
next_among : (reached : ℕ) (marks : List Mark) (sector : Sector) → next_reached marks reached ≡ Some sector
    → list_any (λ m. is_reached reached m && nat_eq sector.0 m.sector.0) marks ≡ true
next_among reached marks sector is = by_least (least marks) refl is
  where
    itself : (a : ℕ) → nat_eq a a ≡ true
    itself a = grind (arith, nat_tests)

    by_test : (m : Mark) (b : Bool) → is_reached reached m ≡ b → least marks ≡ Some m → (if b then Some m.sector else None) ≡ Some sector → list_any (λ m. is_reached reached m && nat_eq sector.0 m.sector.0) marks ≡ true
    by_test m true early at same =
        let this : m.sector ≡ sector = cc same in
        least_among (λ m. is_reached reached m && nat_eq sector.0 m.sector.0) marks m at
        (ap (λ t. t && nat_eq sector.0 m.sector.0) early ∙ ap (λ s. nat_eq sector.0 s.0) this ∙ itself sector.0)
    by_test m false early at same = cc same

    by_least : (o : Option Mark) → least marks ≡ o → sector_reached reached o ≡ Some sector → list_any (λ m. is_reached reached m && nat_eq sector.0 m.sector.0) marks ≡ true
    by_least None at same = cc same
    by_least (Some m) at same = by_test m (is_reached reached m) refl at same

-- ---- the sectors of the marks

module _ (passes : Test) (cache : FlaggedCache) (reached : ℕ) where
  abbrev wanted : Test
  wanted = ready_and cache reached passes

  reached_entry : (e : ℕ × CachedSector) → unwrap_or (option_map (is_reached reached) (idle_mark_of passes cache.flying e)) false ≡ wanted e
  reached_entry e = go (not (member e.0 cache.flying)) (passes e) e.1.dirt
    where
      go : (a b : Bool) (d : Option Dirt)
          → unwrap_or (option_map (is_reached reached) (if a && b then option_map (λ dirt. record { sector = record { 0 = e.0 }; mark = dirt.mark }) d else None)) false ≡ ((a && is_dirt_reached reached d) && b)
      go true true None = refl
      go true true (Some dirt) = sym (and_true (nat_le dirt.mark reached))
      go true false None = refl
      go true false (Some dirt) = sym (and_false (nat_le dirt.mark reached))
      go false b d = refl

  sector_entry : (sector : ℕ) (e : ℕ × CachedSector)
      → unwrap_or (option_map (λ m. is_reached reached m && nat_eq sector m.sector.0) (idle_mark_of passes cache.flying e)) false ≡ (wanted e && nat_eq sector e.0)
  sector_entry sector e = go (not (member e.0 cache.flying)) (passes e) e.1.dirt
    where
      go : (a b : Bool) (d : Option Dirt)
          → unwrap_or (option_map (λ m. is_reached reached m && nat_eq sector m.sector.0) (if a && b then option_map (λ dirt. record { sector = record { 0 = e.0 }; mark = dirt.mark }) d else None)) false
          ≡ (((a && is_dirt_reached reached d) && b) && nat_eq sector e.0)
      go true true None = refl
      go true true (Some dirt) = ap (λ t. t && nat_eq sector e.0) (sym (and_true (nat_le dirt.mark reached)))
      go true false None = refl
      go true false (Some dirt) = sym (ap (λ t. t && nat_eq sector e.0) (and_false (nat_le dirt.mark reached)))
      go false b d = refl

  any_ready : list_any wanted cache.entries ≡ is_some (next_reached (idle_marks_of passes cache) reached)
  any_ready = sym (any_same (λ e. unwrap_or (option_map (is_reached reached) (idle_mark_of passes cache.flying e)) false) wanted reached_entry cache.entries)
      ∙ sym (any_of_made (is_reached reached) (idle_mark_of passes cache.flying) cache.entries)
      ∙ any_reached reached (idle_marks_of passes cache)

  pub by_order : Ascend cache.entries → IsOneOf wanted cache.entries (next_reached (idle_marks_of passes cache) reached)
  by_order sorted = go (next_reached (idle_marks_of passes cache) reached) refl
    where
      go : (r : Option Sector) → next_reached (idle_marks_of passes cache) reached ≡ r → IsOneOf wanted cache.entries r
      go None is = any_ready ∙ ap is_some is
      go (Some sector) is = sym (at_one wanted sector.0 cache.entries sorted)
          ∙ sym (any_same (λ e. unwrap_or (option_map (λ m. is_reached reached m && nat_eq sector.0 m.sector.0) (idle_mark_of passes cache.flying e)) false) (λ e. wanted e && nat_eq sector.0 e.0)
          (sector_entry sector.0) cache.entries)
          ∙ sym (any_of_made (λ m. is_reached reached m && nat_eq sector.0 m.sector.0) (idle_mark_of passes cache.flying) cache.entries)
          ∙ next_among reached (idle_marks_of passes cache) sector is

-- what is told of a cache that is this one
pub told_next : (passes : FlaggedCache → Test) (there now : FlaggedCache) (told reached : ℕ) (r : Option Sector) → there ≡ now → told ≡ reached
    → r ≡ next_reached (idle_marks_of (passes there) there) told → Ascend there.entries → IsOneOf (ready_and now reached (passes now)) now.entries r
told_next passes there now told reached r same early next sorted =
    subst (λ cache. IsOneOf (ready_and cache reached (passes cache)) cache.entries r) same
    (subst (λ n. IsOneOf (ready_and there n (passes there)) there.entries r) early
    (subst (IsOneOf (ready_and there told (passes there)) there.entries) (sym next) (by_order (passes there) there told sorted)))

-- What is found in a list of sectors, or under a list of locks, is one of the sectors that are ready and stand there.
use Rattle.std.proofs.Common.{◌≡◌, ℕ, Bool, true, false, not, ◌&&◌, ◌||◌, if◌then◌else◌, is_some, List, [], ◌∷◌, Option, Some, None, refl, sym, ap, ◌∙◌, ◌++◌, unwrap_or, arith}
use Rattle.std.proofs.lemmas.Bool.Decides.{nat_tests}
use Rattle.std.specs.Prelude.{nat_eq}
use Rattle.std.specs.List.{list_any}
use Rattle.std.specs.Map.{lookup}
use Rattle.std.specs.Option.{option_map, option_or}
use Rattle.frang_base.specs.Functions.{member}
use Rattle.frang_base.specs.declared.lock.LockId.{LockId}
use Rattle.frang_base.specs.declared.sector.Sector.{Sector}
use Rattle.sector_bytes.specs.SectorMaps.{Ascend, value_at}
use Rattle.cache_definitions.specs.Caches.{Cache, CachedSector, is_under}
use Rattle.cache_definitions.specs.Flags.{FlaggedCache}
use Rattle.clerk_cache.specs.Marks.{idle_marks_of, is_one_under}
use Rattle.flush_order.specs.Marks.{next_reached}
use Rattle.lock_definitions.specs.Calls.{asked_for, revokes}
use Rattle.lock_definitions.specs.Holders.{is_pressed, is_sole}
use Rattle.lock_definitions.specs.Locks.{Locks}
use Rattle.lock_definitions.specs.Order.{is_lock}
use Rattle.lock_definitions.specs.declared.claim.AskedFor.{AskedFor}
use Rattle.lock_definitions.proofs.Answers.{revokes_of}
use Rattle.lock_definitions.proofs.LockOrder.{found_lock, is_lock_equiv, lock_itself}
use Rattle.server_writes.specs.Wants.{IsOneOf, first_of, is_ready, next_if_sole, passes_at, ready_and, ready_sector}
use Rattle.server_writes.proofs.Ordered.{by_order}
use Rattle.server_writes.proofs.Parts.{Test, and_false, any_none, any_same, at_one, by_same, found_or}

module _ (cache : FlaggedCache) (reached : ℕ) (sorted : Ascend cache.entries) where
  abbrev ready : Test
  ready = is_ready cache.flying reached

  pub none_passes : (test : Test) → ((e : ℕ × CachedSector) → test e ≡ false) → list_any (ready_and cache reached test) cache.entries ≡ false
  none_passes test none = any_same (ready_and cache reached test) (λ e. false) (λ e. ap (λ t. ready e && t) (none e) ∙ and_false (ready e)) cache.entries ∙ any_none cache.entries

  -- ---- sectors

  at_sector : (sector : ℕ) → IsOneOf (λ e. ready e && nat_eq sector e.0) cache.entries (ready_sector cache reached sector)
  at_sector sector = go (passes_at ready cache.entries sector) refl
    where
      itself : (a : ℕ) → nat_eq a a ≡ true
      itself a = grind (arith, nat_tests)

      both : (o : Option CachedSector) → unwrap_or (option_map (λ cached. ready (sector, cached)) o) false ≡ true → unwrap_or (option_map (λ cached. ready (sector, cached) && nat_eq sector sector) o) false ≡ true
      both None is = is
      both (Some cached) is = ap (λ t. t && nat_eq sector sector) is ∙ itself sector

      go : (b : Bool) → passes_at ready cache.entries sector ≡ b → IsOneOf (λ e. ready e && nat_eq sector e.0) cache.entries (if b then Some (record { 0 = sector }) else None)
      go true is = both (value_at cache.entries sector) is
      go false is = at_one ready sector cache.entries sorted ∙ is

  pub in_list : (sectors : List ℕ) → IsOneOf (ready_and cache reached (λ e. member e.0 sectors)) cache.entries (first_of (ready_sector cache reached) sectors)
  in_list [] = none_passes (λ e. false) (λ e. refl)
  in_list (sector ∷ sectors) = by_same (λ e. ready e && (nat_eq sector e.0 || member e.0 sectors)) (ready_and cache reached (λ e. member e.0 (sector ∷ sectors))) cache.entries
      (first_of (ready_sector cache reached) (sector ∷ sectors)) (λ e. ap (λ t. ready e && t) (chosen (nat_eq sector e.0) (member e.0 sectors)))
      (found_or ready (λ e. nat_eq sector e.0) (λ e. member e.0 sectors) cache.entries (ready_sector cache reached sector) (first_of (ready_sector cache reached) sectors)
      (at_sector sector) (in_list sectors))
    where
      chosen : (a b : Bool) → (a || b) ≡ (if a then true else b)
      chosen true b = refl
      chosen false b = refl

  -- ---- locks

  module _ (locks : Locks) (number : ℕ) where
    abbrev under_one : LockId × AskedFor → Test
    under_one one e = is_sole locks number one.0 && is_under one.0 e.1

    at_lock : (one : LockId × AskedFor) → IsOneOf (ready_and cache reached (under_one one)) cache.entries (next_if_sole locks number cache reached one)
    at_lock one = go (is_sole locks number one.0)
      where
        go : (b : Bool) → IsOneOf (ready_and cache reached (λ e. b && is_under one.0 e.1)) cache.entries (if b then next_reached (idle_marks_of (is_one_under one.0) cache) reached else None)
        go true = by_order (is_one_under one.0) cache reached sorted
        go false = none_passes (λ e. false) (λ e. refl)

    under_locks : (ones : List (LockId × AskedFor))
        → IsOneOf (ready_and cache reached (λ e. list_any (λ one. under_one one e) ones)) cache.entries (first_of (next_if_sole locks number cache reached) ones)
    under_locks [] = none_passes (λ e. false) (λ e. refl)
    under_locks (one ∷ ones) = found_or ready (under_one one) (λ e. list_any (λ one. under_one one e) ones) cache.entries (next_if_sole locks number cache reached one)
        (first_of (next_if_sole locks number cache reached) ones) (at_lock one) (under_locks ones)

    pub under_pressed : IsOneOf (ready_and cache reached (λ e. is_pressed locks number e.1.cover)) cache.entries (first_of (next_if_sole locks number cache reached) (revokes locks number))
    under_pressed = by_same (ready_and cache reached (λ e. list_any (λ one. under_one one e) (revokes locks number))) (ready_and cache reached (λ e. is_pressed locks number e.1.cover)) cache.entries
        (first_of (next_if_sole locks number cache reached) (revokes locks number)) (λ e. ap (λ t. ready e && t) (pressed e.1.cover)) (under_locks (revokes locks number))
      where
        listed : (cover : LockId) (ones : List (LockId × AskedFor))
            → list_any (λ one. is_sole locks number one.0 && is_lock one.0 cover) ones ≡ (is_sole locks number cover && is_some (lookup (is_lock cover) ones))
        listed cover [] = sym (and_false (is_sole locks number cover))
        listed cover (one ∷ ones) = ap (λ rest. (is_sole locks number one.0 && is_lock one.0 cover) || rest) (listed cover ones) ∙ go (is_lock cover one.0) refl
          where
            joined : (a b : Bool) → ((a && true) || (a && b)) ≡ (a && true)
            joined true b = refl
            joined false b = refl

            other : (a : Bool) (b : Bool) → b ≡ false → (a && b) ≡ false
            other a b is = ap (λ t. a && t) is ∙ and_false a

            turned : (t : Bool) → is_lock cover one.0 ≡ t → is_lock one.0 cover ≡ t
            turned t is = is_lock_equiv.symm one.0 cover ∙ is

            go : (t : Bool) → is_lock cover one.0 ≡ t
                → ((is_sole locks number one.0 && is_lock one.0 cover) || (is_sole locks number cover && is_some (lookup (is_lock cover) ones)))
                ≡ (is_sole locks number cover && is_some (if t then Some one.1 else lookup (is_lock cover) ones))
            go true is = ap (λ l. (is_sole locks number l && is_lock one.0 cover) || (is_sole locks number cover && is_some (lookup (is_lock cover) ones))) (found_lock cover one.0 is)
                ∙ ap (λ t. (is_sole locks number cover && t) || (is_sole locks number cover && is_some (lookup (is_lock cover) ones))) (turned true is)
                ∙ joined (is_sole locks number cover) (is_some (lookup (is_lock cover) ones))
            go false is = ap (λ t. t || (is_sole locks number cover && is_some (lookup (is_lock cover) ones))) (other (is_sole locks number one.0) (is_lock one.0 cover) (turned false is))

        pressed : (cover : LockId) → list_any (λ one. is_sole locks number one.0 && is_lock one.0 cover) (revokes locks number) ≡ is_pressed locks number cover
        pressed cover = listed cover (revokes locks number) ∙ ap (λ o. is_sole locks number cover && is_some o) (revokes_of locks number cover)

-- The wanted writes in place are those of the dirty sectors, sector by sector.
use Rattle.std.proofs.Common.{◌≡◌, ℕ, Bool, true, false, if◌then◌else◌, List, [], ◌∷◌, Option, Some, None, refl, sym, ap, ◌∙◌}
use Rattle.std.specs.List.{AllByRecursion, cons_option, filter_map}
use Rattle.std.specs.List.Sorted.{IsStrictlySortedBy}
use Rattle.std.specs.Option.{option_and_then, option_map}
use Rattle.std.specs.Ordering.{is_eq, ordering_reverse}
use Rattle.std.specs.Cmp.{nat_cmp_total}
use Rattle.frang_base.proofs.Tests.{at_itself}
use Rattle.sector_bytes.specs.SectorMaps.{Ascend, value_at}
use Rattle.sector_bytes.proofs.MapLaws.{AllAbove}
use Rattle.cache_definitions.specs.declared.dirt.Dirt.{Dirt}
use Rattle.cache_definitions.specs.Caches.{Cache, CachedSector}
use Rattle.clerk_cache.specs.Marks.{mark_of, marks_of}
use Rattle.flush_order.specs.declared.Mark.{Mark}
use Rattle.lock_definitions.specs.Locks.{Locks}
use Rattle.log_slots.specs.Reading.{log_rules}
use Rattle.core_definitions.specs.Lines.{Stage}
use Rattle.core_definitions.specs.Servers.{Server}
use Rattle.core_definitions.specs.Writes.{Write, is_place_wanted, place_write, place_writes}
use Rattle.server_writes.specs.Lists.{entry_at}

-- each cached sector is found
module _ (first : ℕ × CachedSector) (all : Cache) where
  found_behind : (entries : Cache) → AllAbove first.0 entries → AllByRecursion (λ e. value_at all e.0 ≡ Some e.1) entries → AllByRecursion (λ e. value_at (first ∷ all) e.0 ≡ Some e.1) entries
  found_behind [] above each = tt
  found_behind (e ∷ entries) above each =
      (ap (λ o. if is_eq o then Some first.1 else value_at all e.0) (nat_cmp_total.antisymm e.0 first.0 ∙ ap ordering_reverse above.0) ∙ each.0, found_behind entries above.1 each.1)

pub each_found : (entries : Cache) → Ascend entries → AllByRecursion (λ e. value_at entries e.0 ≡ Some e.1) entries
unfolding IsStrictlySortedBy
each_found [] sorted = tt
each_found (e ∷ entries) sorted =
    (ap (λ t. if t then Some e.1 else value_at entries e.0) (at_itself e.0), found_behind e entries entries sorted.0 (each_found entries sorted.1))

module _ (locks : Locks) (number : ℕ) (server : Server) (stage : Option Stage) where
  -- of a mark the write of its sector
  abbrev pub of_mark : Mark → Option (ℕ × Write)
  of_mark mark = entry_at locks number server stage mark.sector.0

  abbrev wanted : ℕ × CachedSector → Bool
  wanted e = is_place_wanted log_rules locks number server stage e.0 e.1

  abbrev of_entry : ℕ × CachedSector → Option (ℕ × Write)
  of_entry e = option_map (λ write. (e.0, write)) (place_write number (wanted e) e.1 e.1.dirt)

  along : (entries : Cache) → AllByRecursion (λ e. value_at server.cache e.0 ≡ Some e.1) entries → filter_map of_mark (marks_of entries) ≡ filter_map of_entry entries
  along [] each = refl
  along (e ∷ entries) each = go (along entries each.1) e.1.dirt refl
    where
      go : filter_map of_mark (marks_of entries) ≡ filter_map of_entry entries → (d : Option Dirt) → e.1.dirt ≡ d
          → filter_map of_mark (cons_option (option_map (λ dirt. record { sector = record { 0 = e.0 }; mark = dirt.mark }) d) (marks_of entries))
          ≡ cons_option (option_map (λ write. (e.0, write)) (place_write number (wanted e) e.1 d)) (filter_map of_entry entries)
      go rest None is = rest
      go rest (Some dirt) is =
          ap (λ o. cons_option (option_map (λ write. (e.0, write)) (option_and_then (λ cached. place_write number (wanted (e.0, cached)) cached cached.dirt) o)) (filter_map of_mark (marks_of entries))) each.0
          ∙ ap (λ d. cons_option (option_map (λ write. (e.0, write)) (place_write number (wanted e) e.1 d)) (filter_map of_mark (marks_of entries))) is
          ∙ ap (cons_option (option_map (λ write. (e.0, write)) (place_write number (wanted e) e.1 (Some dirt)))) rest

  pub by_marks : Ascend server.cache → filter_map of_mark (marks_of server.cache) ≡ place_writes log_rules locks number server stage
  by_marks sorted = along server.cache (each_found server.cache sorted)

-- What stays wanted once everything is wanted: what stayed so was dirty.
use Rattle.std.proofs.Common.{◌≡◌, ℕ, Bool, true, false, ◌||◌, List, ◌++◌, refl, sym, ap, ◌∙◌}
use Rattle.frang_base.specs.Functions.{member}
use Rattle.sector_bytes.specs.SectorMaps.{Ascend}
use Rattle.cache_definitions.specs.Caches.{Cache, dirty_sectors, is_dirty, is_dirty_at}
use Rattle.disk_definitions.specs.Written.{ascending}
use Rattle.log_slots.proofs.Maps.{ascending_member, ascending_sorted, member_append, same_lists}
use Rattle.server_core.proofs.Kept.{member_passing, passing_ascend}

pub all_wanted : (staying : List ℕ) (cache : Cache) → Ascend cache → ((s : ℕ) → member s staying ≡ true → is_dirty_at cache s ≡ true) → dirty_sectors cache ≡ ascending (staying ++ dirty_sectors cache)
all_wanted staying cache sorted joined =
    same_lists (dirty_sectors cache) (ascending (staying ++ dirty_sectors cache)) (passing_ascend is_dirty cache sorted) (ascending_sorted (staying ++ dirty_sectors cache))
    (λ s. go s (member s staying) refl ∙ sym (ascending_member (staying ++ dirty_sectors cache) s ∙ member_append s staying (dirty_sectors cache)))
  where
    go : (s : ℕ) (b : Bool) → member s staying ≡ b → member s (dirty_sectors cache) ≡ (member s staying || member s (dirty_sectors cache))
    go s true is = member_passing is_dirty s cache sorted ∙ joined s is ∙ sym (ap (λ b. b || member s (dirty_sectors cache)) is)
    go s false is = sym (ap (λ b. b || member s (dirty_sectors cache)) is)

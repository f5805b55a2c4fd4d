-- What the line under way wants, by what it asks.
use Rattle.std.proofs.Common.{◌≡◌, ℕ, Bool, true, false, ◌&&◌, ◌||◌, sym, ap, ◌∙◌}
use Rattle.cache_definitions.specs.Caches.{CachedSector, is_dirty_bytes}
use Rattle.tree_definitions.specs.Touched.{is_sync, is_unmount}
use Rattle.core_definitions.specs.Servers.{Server, asks}
use Rattle.server_writes.specs.Wants.{line_wants}

module _ (server : Server) (e : ℕ × CachedSector) where
  by : (a b : Bool) → asks is_unmount server ≡ a → asks is_sync server ≡ b → line_wants server e ≡ (a || (b && is_dirty_bytes e.1))
  by a b unmount sync = ap (λ t. t || (asks is_sync server && is_dirty_bytes e.1)) unmount ∙ ap (λ t. a || (t && is_dirty_bytes e.1)) sync

  pub all_wanted : asks is_unmount server ≡ true → true ≡ line_wants server e
  all_wanted unmount = sym (ap (λ t. t || (asks is_sync server && is_dirty_bytes e.1)) unmount)

  pub bytes_wanted : asks is_unmount server ≡ false → asks is_sync server ≡ true → is_dirty_bytes e.1 ≡ line_wants server e
  bytes_wanted unmount sync = sym (by false true unmount sync)

  pub none_wanted : asks is_unmount server ≡ false → asks is_sync server ≡ false → line_wants server e ≡ false
  none_wanted unmount sync = by false false unmount sync

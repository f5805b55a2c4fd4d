-- The causes together are those for which a sector is wanted.
use Rattle.std.proofs.Common.{◌≡◌, ℕ, Bool, true, false, ◌&&◌, ◌||◌, List, Option, Some, None, refl, ap}
use Rattle.frang_base.specs.declared.sector.Sector.{Sector}
use Rattle.cache_definitions.specs.Caches.{CachedSector, is_dirty_bytes}
use Rattle.lock_definitions.specs.Holders.{is_pressed}
use Rattle.lock_definitions.specs.Locks.{Locks}
use Rattle.frang_base.specs.Functions.{member}
use Rattle.tree_definitions.specs.Touched.{is_sync, is_unmount}
use Rattle.log_slots.specs.Reading.{log_rules}
use Rattle.core_definitions.specs.Lines.{Stage}
use Rattle.core_definitions.specs.Rings.{is_oldest_named}
use Rattle.core_definitions.specs.Servers.{asks}
use Rattle.core_definitions.specs.Writes.{is_place_wanted, lacks_room}
use Rattle.server_core.specs.States.{State, cached_in}
use Rattle.server_writes.specs.Wants.{IsOneOf, IsRoomFor, is_due, is_one_of_these, is_one_pending, is_one_pressed, is_ready, line_wants, ready_and, stays_wanted}
use Rattle.server_writes.proofs.Parts.{Test, by_same, found_first, found_later}

module _ (locks : Locks) (state : State) (stage : Option Stage) (room : List ℕ) (is_room : IsRoomFor state.server stage room) where
  abbrev ready : Test
  ready = is_ready state.flying state.server.ring.reached

  abbrev staying : Test
  staying = stays_wanted state.server

  abbrev pending : Test
  pending = is_one_pending state.server

  abbrev of_line : Test
  of_line = line_wants state.server

  abbrev pressed : Test
  pressed = is_one_pressed locks state.id

  abbrev these : Test
  these = is_one_of_these room

  abbrev pressed_or : Test
  pressed_or e = pressed e || these e

  abbrev line_or : Test
  line_or e = of_line e || pressed_or e

  abbrev pending_or : Test
  pending_or e = pending e || line_or e

  abbrev any_cause : Test
  any_cause e = staying e || pending_or e

  abbrev pub due : Test
  due = is_due locks state.id state.server stage state.flying

  abbrev pub IsNext : Test → Option Sector → Type 0
  IsNext test result = IsOneOf (ready_and (cached_in state) state.server.ring.reached test) state.server.cache result

  same_causes : (e : ℕ × CachedSector) → (ready e && any_cause e) ≡ due e
  same_causes e = ap (λ t. ready e && t)
      (go (member e.0 state.server.staying) (member e.0 state.server.pending) (asks is_unmount state.server) (asks is_sync state.server && is_dirty_bytes e.1) (is_pressed locks state.id e.1.cover)
      (member e.0 room) (lacks_room log_rules state.server.ring stage && is_oldest_named log_rules state.server.ring e.0) (is_room e.0))
    where
      go : (a b c d p m r : Bool) → m ≡ r → (a || (b || ((c || d) || (p || m)))) ≡ (a || b || c || d || p || r)
      go true b c d p m r is = refl
      go false true c d p m r is = refl
      go false false true d p m r is = refl
      go false false false true p m r is = refl
      go false false false false true m r is = refl
      go false false false false false m r is = is

  is_next : (result : Option Sector) → IsNext any_cause result → IsOneOf due state.server.cache result
  is_next result found = by_same (λ e. ready e && any_cause e) due state.server.cache result same_causes found

  pub by_staying : (sector : Sector) → IsNext staying (Some sector) → IsOneOf due state.server.cache (Some sector)
  by_staying sector a = is_next (Some sector) (found_first ready staying pending_or state.server.cache sector a)

  after_staying : (result : Option Sector) → IsNext staying None → IsNext pending_or result → IsOneOf due state.server.cache result
  after_staying result a rest = is_next result (found_later ready staying pending_or state.server.cache result a rest)

  pub by_pending : (sector : Sector) → IsNext staying None → IsNext pending (Some sector) → IsOneOf due state.server.cache (Some sector)
  by_pending sector a b = after_staying (Some sector) a (found_first ready pending line_or state.server.cache sector b)

  after_pending : (result : Option Sector) → IsNext staying None → IsNext pending None → IsNext line_or result → IsOneOf due state.server.cache result
  after_pending result a b rest = after_staying result a (found_later ready pending line_or state.server.cache result b rest)

  pub by_line : (sector : Sector) → IsNext staying None → IsNext pending None → IsNext of_line (Some sector) → IsOneOf due state.server.cache (Some sector)
  by_line sector a b d = after_pending (Some sector) a b (found_first ready of_line pressed_or state.server.cache sector d)

  after_line : (result : Option Sector) → IsNext staying None → IsNext pending None → IsNext of_line None → IsNext pressed_or result → IsOneOf due state.server.cache result
  after_line result a b d rest = after_pending result a b (found_later ready of_line pressed_or state.server.cache result d rest)

  pub by_pressed : (sector : Sector) → IsNext staying None → IsNext pending None → IsNext of_line None → IsNext pressed (Some sector) → IsOneOf due state.server.cache (Some sector)
  by_pressed sector a b d e = after_line (Some sector) a b d (found_first ready pressed these state.server.cache sector e)

  pub by_these : (result : Option Sector) → IsNext staying None → IsNext pending None → IsNext of_line None → IsNext pressed None → IsNext these result → IsOneOf due state.server.cache result
  by_these result a b d e f = after_line result a b d (found_later ready pressed these state.server.cache result e f)

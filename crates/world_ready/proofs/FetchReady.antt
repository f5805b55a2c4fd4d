-- What is made ready for a sector that a server reads is for its event.
use Rattle.std.proofs.Common.{◌≡◌, true, false, ◌||◌, Some, None, refl, sym, ◌∙◌}
use Rattle.std.proofs.lemmas.Bool.{false≢true, ltb-true}
use Rattle.frang_base.specs.declared.limits.TheConstants.{SERVERS}
use Rattle.frang_base.specs.declared.lock.LockId.{LockId}
use Rattle.frang_base.specs.declared.sector.Sector.{Sector}
use Rattle.frang_base.specs.declared.sector.ServerId.{ServerId}
use Rattle.cache_definitions.specs.Caches.{is_dirty_at}
use Rattle.core_definitions.specs.Cores.{Core, stage}
use Rattle.core_definitions.specs.Events.{Fetch}
use Rattle.core_definitions.specs.LineEffects.{cover_needed}
use Rattle.core_definitions.specs.LineGuards.{CanFetch, is_needed, is_unread}
use Rattle.core_definitions.specs.Servers.{is_off}
use Rattle.hall_runs.specs.declared.event.Call.TheVariants as call
use Rattle.server_core.specs.Effects.{IsSlot}
use Rattle.world_state.specs.Rooms.{HasFetchRoom, HasSlotRoom}
use Rattle.world_state.specs.States.{State}
use Rattle.world_ready.specs.Making.{IsMadeOf}
use Rattle.world_ready.specs.declared.kinds.Ready.TheVariants as ready

module _ (c : Core) (s : State) (a : ServerId) (sector : Sector) where
  pub fetches_not : (is_needed c a.0 (stage c a.0) sector.0 || is_unread c a.0 sector.0) ≡ false → IsMadeOf c s (Fetch a.0 sector.0) None
  fetches_not bars tree can = false≢true (sym bars ∙ can.lacks)

  pub fetches_sector : (cover : LockId) → CanFetch c a.0 sector.0 → is_off (c.servers a.0).phase ≡ false → cover_needed (stage c a.0) sector.0 ≡ Some cover → is_dirty_at (c.servers a.0).cache sector.0 ≡ false
      → HasFetchRoom s a.0 → IsMadeOf c s (Fetch a.0 sector.0) (Some (record { ready = ready.FetchSector a sector cover; call = call.Get a sector }))
  fetches_sector cover can on covers clean room tree = record {
    event = refl;
    can = record { server = can.server; lacks = can.lacks };
    asks = refl;
    may = record { server = ltb-true a.0 SERVERS can.server; on = on; cover = covers; clean = clean; room = room };
  }

  pub fetches_slot : CanFetch c a.0 sector.0 → is_off (c.servers a.0).phase ≡ true → IsSlot a.0 sector.0 → HasSlotRoom s a.0
      → IsMadeOf c s (Fetch a.0 sector.0) (Some (record { ready = ready.FetchSlot a sector; call = call.Get a sector }))
  fetches_slot can off slot room tree = record {
    event = refl;
    can = record { server = can.server; lacks = can.lacks };
    asks = refl;
    may = record { server = ltb-true a.0 SERVERS can.server; off = off; slot = slot; room = room };
  }

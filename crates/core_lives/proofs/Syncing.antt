-- A sync is Sync: what is dirty then is of blocks that are cleared.
use Rattle.std.proofs.Common.{◌≡◌, ℕ, Bool, true, false, not, ◌&&◌, if◌then◌else◌, IsTrue, [], ◌∷◌, Option, Some, None, refl, sym, ap, ◌∙◌, subst, ⊎_elim}
use Rattle.std.proofs.lemmas.Bool.{and_parts, not-true, or_parts}
use Rattle.std.proofs.lemmas.Option.{none-some, same_Some}
use Rattle.std.specs.BTreeMap.{is_at}
use Rattle.std.specs.Option.{is_some}
use Rattle.std.specs.Ordering.{nat_cmp}
use Rattle.frang_base.specs.Functions.{put}
use Rattle.frang_base.specs.declared.lock.LockId.{LockId}
use Rattle.frang_base.specs.declared.op.Op.TheVariants as op
use Rattle.frang_base.specs.declared.reply.Reply.TheVariants as reply
use Rattle.tree_definitions.specs.Touched.{is_sync}
use Rattle.sector_bytes.specs.SectorMaps.{value_at}
use Rattle.cache_definitions.specs.declared.dirt.Dirt.{Dirt}
use Rattle.cache_definitions.specs.Caches.{Cache, CachedSector, any_cached, is_dirty, is_dirty_bytes}
use Rattle.core_definitions.specs.Events.{Answer, Nothing}
use Rattle.core_definitions.specs.Rings.{is_all_reached}
use Rattle.core_definitions.specs.Runs.{next}
use Rattle.core_definitions.specs.Servers.{is_synced, is_up}
use Rattle.core_laws.proofs.Memory.{given_due}
use Rattle.sector_world.specs.Guards.{CanSync, DirtyIfFree}
use Rattle.sector_world.specs.Histories.{settled}
use Rattle.sector_world.specs.HistoryBytes.{is_free}
use Rattle.sector_world.specs.Steps.{after, stays, goes}
use Rattle.sector_world.specs.Steps.Event.{Sync}
use Rattle.sector_world.specs.World.{Slot, Page, NoPage, cover, has_version}
use Rattle.core_world.specs.Ties.{IsCachedAs, IsPageOf}
use Rattle.core_world.proofs.Giving.{up_is}
use Rattle.core_lives.proofs.Alike.{IsWorldBy, by_world, keeps_as, one_read, world_by}
use Rattle.core_lives.proofs.Answering.{IsOpenOf, answered_is, open_of, sync_is}
use Rattle.core_lives.proofs.Idling.{under_as}
use Rattle.core_lives.specs.Cleared.{SyncsLeadOn}

none_of_bytes : (cache : Cache) → any_cached is_dirty_bytes cache ≡ false → (s : ℕ) (kept : CachedSector) → value_at cache s ≡ Some kept → is_dirty_bytes kept ≡ false
none_of_bytes [] none s kept e = absurd (none-some kept e)
none_of_bytes (entry ∷ entries) none s kept e = go (is_at (nat_cmp s) entry.0) e
    (none_of_bytes entries (or_parts (is_dirty_bytes entry.1) (any_cached is_dirty_bytes entries) none).1 s kept)
  where
    go : (b : Bool) → (if b then Some entry.1 else value_at entries s) ≡ Some kept → (value_at entries s ≡ Some kept → is_dirty_bytes kept ≡ false) → is_dirty_bytes kept ≡ false
    go true i rest = subst (λ k. is_dirty_bytes k ≡ false) (same_Some entry.1 kept i) (or_parts (is_dirty_bytes entry.1) (any_cached is_dirty_bytes entries) none).0
    go false i rest = rest i

-- a dirty page is of a free sector
dirty_free : (v : Bool) (k : LockId) (e : Option CachedSector) (slot : Slot) (page : Page) (free : Bool) → IsCachedAs v k e slot page → (v ≡ true → page ≡ NoPage) →
    ((kept : CachedSector) → e ≡ Some kept → is_dirty kept ≡ true → v ≡ false → free ≡ true) → DirtyIfFree page free
dirty_free true k e slot page free t empty only = subst (λ p. DirtyIfFree p free) (sym (empty refl)) tt
dirty_free false k None slot page free t empty only = ⊎_elim (λ i. subst (λ p. DirtyIfFree p free) (sym i) tt) (λ i. subst (λ p. DirtyIfFree p free) (sym i.1) tt) t.1
dirty_free false k (Some kept) slot page free t empty only = go kept.dirt refl t.2
  where
    go : (dirt : Option Dirt) → kept.dirt ≡ dirt → IsPageOf dirt kept.block page → DirtyIfFree page free
    go None e i = subst (λ p. DirtyIfFree p free) (sym i) tt
    go (Some dirt) e i = subst (λ p. DirtyIfFree p free) (sym i.1) (only kept refl (ap is_some e) refl)

pub syncs : SyncsLeadOn
syncs s w journal a r t g free makes tells = record {
  leads = record {
    events = Sync a ∷ [];
    world = after w (Sync a);
    run = goes can stays;
    is = by_world (next s (Answer a) Nothing) (after w (Sync a)) journal (subst (λ d. IsWorldBy d s.disk (after w (Sync a)) journal) (sym (answered_is s.core a op.Sync x)) same);
  };
  story = record { servers = refl; opening = refl; logged = refl; first = refl; home = refl; history = refl };
  quiet = (tt, tt);
}
  where
    x : IsOpenOf s.core a op.Sync
    x = open_of s.core a is_sync op.Sync sync_is tells makes.can.can.due

    due : IsTrue (is_up (s.core.servers a).phase) × IsTrue (is_synced (s.core.servers a))
    due = and_parts (is_up (s.core.servers a).phase) (is_synced (s.core.servers a)) (given_due (is_up (s.core.servers a).phase && is_synced (s.core.servers a)) reply.Ok x.answer x.own)

    synced : IsTrue (is_all_reached (s.core.servers a).ring) × IsTrue (not (any_cached is_dirty_bytes (s.core.servers a).cache))
    synced = and_parts (is_all_reached (s.core.servers a).ring) (not (any_cached is_dirty_bytes (s.core.servers a).cache)) due.1

    can : CanSync w a
    can = record {
      up = t.tied.lives.phase a ∙ up_is (s.core.servers a).phase due.0;
      acknowledged = t.tied.logged a synced.0;
      clean = λ i. dirty_free (has_version w i) (cover w i) (value_at (s.core.servers a).cache i) (w.slot a i) (w.page a i) (is_free w.first (settled w.history) i)
          (t.tied.cached a i) (g.kinds.empty a i)
          (λ kept e dirty plain. free a i kept e dirty (none_of_bytes (s.core.servers a).cache (not-true _ synced.1) i kept e) plain);
    }

    -- the ties see nothing of it
    same : IsWorldBy (record s.core { servers = put s.core.servers a (record (s.core.servers a) { under = None }) }) s.disk (after w (Sync a)) journal
    same = keeps_as s.core (put s.core.servers a (record (s.core.servers a) { under = None })) s.core.locks s.core.flights s.core.over
        (one_read s.core a (record (s.core.servers a) { under = None }) (under_as (s.core.servers a) None)) s.disk (after w (Sync a)) journal (world_by s w journal t)

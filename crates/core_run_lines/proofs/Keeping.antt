-- What is dirty in a server's cache was so before at each step but those of lines, and is pending where it was; and its log isn't acknowledged less.
use Rattle.std.proofs.Common.{◌≡◌, ◌≢◌, ◌⊎◌, ◌≤◌, ◌==◌, ℕ, Bool, true, false, not, if◌then◌else◌, IsTrue, filter, List, [], ◌∷◌, Option, Some, None, nat_eq, refl, sym, ap, ◌∙◌, subst, inl, inr, le_refl}
use Rattle.std.proofs.lemmas.Bool.{eqb-true, false≢true}
use Rattle.std.proofs.lemmas.Cmp.{nat_cmp_total}
use Rattle.std.proofs.lemmas.Option.{none-some, same_Some}
use Rattle.std.specs.BTreeMap.{is_at}
use Rattle.std.specs.Ordering.{nat_cmp}
use Rattle.frang_base.specs.Functions.{member, put}
use Rattle.frang_base.specs.declared.lock.LockId.{LockId}
use Rattle.frang_base.proofs.Basics.{at_put}
use Rattle.sector_bytes.specs.Blocks.{Block}
use Rattle.sector_bytes.specs.SectorMaps.{value_at}
use Rattle.sorted_entries.proofs.Sorted.{lookup-insert_entry}
use Rattle.cache_definitions.specs.Caches.{Cache, CachedSector, clean, cleaned, is_dirty, without_dirt}
use Rattle.core_definitions.specs.LineEffects.{cached_under}
use Rattle.core_definitions.specs.Rings.{is_all_reached}
use Rattle.core_definitions.specs.Servers.{Server, is_in_mount}
use Rattle.core_definitions.specs.WriteEffects.{clean_now}
use Rattle.core_writes.proofs.MapLists.{adjusted_elsewhere}
use Rattle.core_commit_steps.specs.Lasts.{KeepsReached}

-- ---- one server

pub record KeepsDirt (old new : Server) : Type 0 where
  pub cached : (x : ℕ) (kept : CachedSector) → value_at new.cache x ≡ Some kept → is_dirty kept ≡ true → value_at old.cache x ≡ Some kept
  pub pending : (x : ℕ) (kept : CachedSector) → value_at new.cache x ≡ Some kept → is_dirty kept ≡ true → member x old.pending ≡ true → member x new.pending ≡ true
  pub reached : (x : ℕ) (kept : CachedSector) → value_at new.cache x ≡ Some kept → old.ring.reached ≤ new.ring.reached
  pub mounted : KeepsReached old new  -- and its log stays acknowledged to its end, where it is mounted

pub still_mounted : (old new : Server) → new.phase ≡ old.phase → (IsTrue (is_all_reached old.ring) → IsTrue (is_all_reached new.ring)) → KeepsReached old new
still_mounted old new e keeps mounted = inl (ap is_in_mount (sym e) ∙ mounted, keeps)

-- who isn't mounted then
pub not_mounted : (old new : Server) → is_in_mount new.phase ≡ false → KeepsReached old new
not_mounted old new e mounted = absurd (false≢true (sym e ∙ mounted))

pub keeps_itself : (server : Server) → KeepsDirt server server
keeps_itself server = record {
  cached = λ x kept e d. e;
  pending = λ x kept e d m. m;
  reached = λ x kept e. le_refl server.ring.reached;
  mounted = still_mounted server server refl (λ h. h);
}

-- of which the cache, what is pending and the ring are as they were; or of which nothing is cached
pub record IsLeft (old new : Server) : Type 0 where
  pub left : ((new.cache ≡ old.cache) × (new.pending ≡ old.pending) × (new.ring ≡ old.ring)) ⊎ (new.cache ≡ [])
  pub mounted : KeepsReached old new

pub same : {old new : Server} → new.cache ≡ old.cache → new.pending ≡ old.pending → new.ring ≡ old.ring → new.phase ≡ old.phase → IsLeft old new
same {old} {new} c p r e = record { left = inl (c, p, r); mounted = still_mounted old new e (λ h. subst (λ x. IsTrue (is_all_reached x)) (sym r) h) }

pub bare : {old new : Server} → new.cache ≡ [] → KeepsReached old new → IsLeft old new
bare e keeps = record { left = inr e; mounted = keeps }

pub left_keeps : (old new : Server) → IsLeft old new → KeepsDirt old new
left_keeps old new l = go l.left
  where
    go : ((new.cache ≡ old.cache) × (new.pending ≡ old.pending) × (new.ring ≡ old.ring)) ⊎ (new.cache ≡ []) → KeepsDirt old new
    go (inl x) = record {
      cached = λ i kept e d. ap (λ c. value_at c i) (sym x.0) ∙ e;
      pending = λ i kept e d m. ap (member i) x.1 ∙ m;
      reached = λ i kept e. subst (λ r. old.ring.reached ≤ r.reached) (sym x.2) (le_refl old.ring.reached);
      mounted = l.mounted;
    }
    go (inr none) = record {
      cached = λ i kept e d. absurd (none-some kept (sym (ap (λ c. value_at c i) none) ∙ e));
      pending = λ i kept e d m. absurd (none-some kept (sym (ap (λ c. value_at c i) none) ∙ e));
      reached = λ i kept e. absurd (none-some kept (sym (ap (λ c. value_at c i) none) ∙ e));
      mounted = l.mounted;
    }

pub put_keeps : (servers : ℕ → Server) (a : ℕ) (new : Server) → KeepsDirt (servers a) new → (n : ℕ) → KeepsDirt (servers n) (put servers a new n)
put_keeps servers a new here n = at_put (λ y. KeepsDirt (servers n) y) servers a new n (λ e. subst (λ m. KeepsDirt (servers m) new) (sym e) here) (λ away. keeps_itself (servers n))

-- ---- a sector that comes in clean

pub cached_keeps : (server : Server) (sector : ℕ) (block : Block) (cover : Option LockId) → KeepsDirt server (cached_under server sector block cover)
cached_keeps server sector block None = keeps_itself server
cached_keeps server sector block (Some cover) = record {
  cached = λ x kept e d. go (is_at (nat_cmp x) sector) x kept d (sym (lookup-insert_entry nat_cmp_total sector (clean block cover) x server.cache) ∙ e);
  pending = λ x kept e d m. m;
  reached = λ x kept e. le_refl server.ring.reached;
  mounted = still_mounted server (cached_under server sector block (Some cover)) refl (λ h. h);
}
  where
    go : (b : Bool) (x : ℕ) (kept : CachedSector) → is_dirty kept ≡ true → (if b then Some (clean block cover) else value_at server.cache x) ≡ Some kept → value_at server.cache x ≡ Some kept
    go true x kept d e = absurd (false≢true (ap is_dirty (same_Some (clean block cover) kept e) ∙ d))
    go false x kept d e = e

-- ---- a sector that comes clean

clean_here : (cache : Cache) (s : ℕ) (kept : CachedSector) → value_at (cleaned cache s) s ≡ Some kept → is_dirty kept ≡ true → ⊥
clean_here [] s kept e d = none-some kept e
clean_here (entry ∷ entries) s kept e d = go (is_at (nat_cmp s) entry.0) refl (λ f. clean_here entries s kept f d) e
  where
    go : (b : Bool) → is_at (nat_cmp s) entry.0 ≡ b → (value_at (cleaned entries s) s ≡ Some kept → ⊥) → value_at (if b then (entry.0, without_dirt entry.1) ∷ entries else entry ∷ cleaned entries s) s ≡ Some kept → ⊥
    go true i rest f = false≢true (ap is_dirty (same_Some (without_dirt entry.1) kept (sym (ap (λ c. if c then Some (without_dirt entry.1) else value_at entries s) i) ∙ f)) ∙ d)
    go false i rest f = rest (sym (ap (λ c. if c then Some entry.1 else value_at (cleaned entries s) s) i) ∙ f)

still_member : (x sector : ℕ) (xs : List ℕ) → x ≢ sector → member x xs ≡ true → member x (filter (λ s. not (s == sector)) xs) ≡ true
still_member x sector [] n m = m
still_member x sector (y ∷ ys) n m = go (y == sector) refl (nat_eq y x) refl (still_member x sector ys n) m
  where
    go : (b : Bool) → (y == sector) ≡ b → (c : Bool) → nat_eq y x ≡ c → (member x ys ≡ true → member x (filter (λ s. not (s == sector)) ys) ≡ true) → (if c then true else member x ys) ≡ true →
        member x (if not b then y ∷ filter (λ s. not (s == sector)) ys else filter (λ s. not (s == sector)) ys) ≡ true
    go true i true j rest k = absurd (n (sym (eqb-true y x j) ∙ eqb-true y sector i))
    go true i false j rest k = rest k
    go false i true j rest k = ap (λ c. if c then true else member x (filter (λ s. not (s == sector)) ys)) j
    go false i false j rest k = ap (λ c. if c then true else member x (filter (λ s. not (s == sector)) ys)) j ∙ rest k

pub cleaned_keeps : (server : Server) (sector : ℕ) → KeepsDirt server (clean_now sector server)
cleaned_keeps server sector = record {
  cached = λ x kept e d. sym (adjusted_elsewhere without_dirt server.cache sector x (other x kept e d)) ∙ e;
  pending = λ x kept e d m. still_member x sector server.pending (other x kept e d) m;
  reached = λ x kept e. le_refl server.ring.reached;
  mounted = still_mounted server (clean_now sector server) refl (λ h. h);
}
  where
    other : (x : ℕ) (kept : CachedSector) → value_at (cleaned server.cache sector) x ≡ Some kept → is_dirty kept ≡ true → x ≢ sector
    other x kept e d i = clean_here server.cache sector kept (subst (λ n. value_at (cleaned server.cache sector) n ≡ Some kept) i e) d

-- What a server or the host wants written is of its recovery, of a dirty sector that it has cached, or the next of its log.
use Rattle.std.proofs.Common.{◌≡◌, ℕ, ◌⊎◌, inl, inr, ⊎_elim, Bool, true, false, if◌then◌else◌, [], ◌∷◌, ◌++◌, Option, Some, None, fold, nat_le, refl, sym, ap, ◌∙◌, subst}
use Rattle.std.proofs.lemmas.Cmp.{nat_cmp_total}
use Rattle.std.proofs.lemmas.Option.{same_Some, none-some}
use Rattle.std.specs.BTreeMap.{is_at}
use Rattle.std.specs.Option.{option_map}
use Rattle.std.specs.Ordering.{nat_cmp}
use Rattle.disk_definitions.proofs.Listed.{Among, among_either, among_filter_mapped, among_mapped}
use Rattle.lock_definitions.specs.Locks.{Locks}
use Rattle.sector_bytes.specs.Blocks.{Block}
use Rattle.sector_bytes.specs.SectorMaps.{value_at, with_value}
use Rattle.sector_bytes.proofs.MapLaws.{found}
use Rattle.sorted_entries.proofs.Sorted.{lookup-insert_entry}
use Rattle.cache_definitions.specs.declared.dirt.Dirt.{Dirt}
use Rattle.cache_definitions.specs.Caches.{CachedSector}
use Rattle.core_definitions.specs.Flights.{InPlace, OfLog, OfRecovery}
use Rattle.core_definitions.specs.Lines.{Stage}
use Rattle.core_definitions.specs.Logs.{log_sector}
use Rattle.core_definitions.specs.Recoveries.{Recovery, recovery_writes}
use Rattle.core_definitions.specs.Rings.{next_write}
use Rattle.core_definitions.specs.Servers.{Server}
use Rattle.core_definitions.specs.Settings.{LogRules, Setting}
use Rattle.core_definitions.specs.Writes.{Write, Writes, is_place_wanted, log_wanted_to, log_write, place_write, place_writes, rescue_writes, wanted_writes}

-- what a map of a list of entries has is one of them
from_fold : (entries writes : Writes) (sector : ℕ) (write : Write) →
    value_at (fold (λ all entry. with_value all entry.0 entry.1) writes entries) sector ≡ Some write →
    Among {X = ℕ × Write} (sector, write) entries ⊎ (value_at writes sector ≡ Some write)
from_fold [] writes sector write e = inr e
from_fold (x ∷ xs) writes sector write e = ⊎_elim (λ i. inl (inr i)) (λ f. here (is_at (nat_cmp sector) x.0) refl (sym (lookup-insert_entry nat_cmp_total x.0 x.1 sector writes) ∙ f)) (from_fold xs (with_value writes x.0 x.1) sector write e)
  where
    pair : (one other : ℕ × Write) → one.0 ≡ other.0 → one.1 ≡ other.1 → one ≡ other
    pair one other e f = λ i. (e i, f i)

    here : (b : Bool) → is_at (nat_cmp sector) x.0 ≡ b → (if b then Some x.1 else value_at writes sector) ≡ Some write →
        Among {X = ℕ × Write} (sector, write) (x ∷ xs) ⊎ (value_at writes sector ≡ Some write)
    here true k f = inl (inl (sym (pair x (sector, write) (found sector x.0 k) (same_Some x.1 write f))))
    here false k f = inr f

abbrev entry_of : ℕ → Write → ℕ × Write
entry_of sector write = (sector, write)

abbrev pub rescue_write : ℕ → Block → Write
rescue_write dead block = record { behalf = dead; block = block; purpose = OfRecovery; mark = None }

abbrev pub cached_write : ℕ → CachedSector → Dirt → Write
cached_write a cached dirt = record { behalf = a; block = cached.block; purpose = InPlace cached.cover; mark = Some dirt.mark }

abbrev pub next_log_write : ℕ → ℕ → Block → Write
next_log_write a number block = record { behalf = a; block = block; purpose = OfLog number; mark = None }

pub data Wanted (logs : LogRules) (segments a : ℕ) (server : Server) (sector : ℕ) (write : Write) : Type 0 where
  Rescues : (recovery : Recovery) (block : Block) → server.recovery ≡ Some recovery → Among {X = ℕ × Block} (sector, block) (recovery_writes logs segments recovery) →
      write ≡ rescue_write recovery.dead block → Wanted logs segments a server sector write
  Places : (cached : CachedSector) (dirt : Dirt) → Among {X = ℕ × CachedSector} (sector, cached) server.cache → cached.dirt ≡ Some dirt → write ≡ cached_write a cached dirt →
      Wanted logs segments a server sector write
  NextOfLog : (number : ℕ) (block : Block) → next_write server.ring ≡ Some (number, block) → sector ≡ log_sector logs a number → write ≡ next_log_write a number block →
      Wanted logs segments a server sector write

module _ (logs : LogRules) (segments a : ℕ) (server : Server) (sector : ℕ) (write : Write) where
  of_rescue : (recovery : Option Recovery) → server.recovery ≡ recovery → Among {X = ℕ × Write} (sector, write) (rescue_writes logs segments recovery) → Wanted logs segments a server sector write
  of_rescue None e i = absurd i
  of_rescue (Some recovery) e i = go (among_mapped (λ w. entry_of w.0 (rescue_write recovery.dead w.1)) (recovery_writes logs segments recovery) (sector, write) i)
    where
      go : (w : ℕ × Block) × Among w (recovery_writes logs segments recovery) × (entry_of w.0 (rescue_write recovery.dead w.1) ≡ entry_of sector write) → Wanted logs segments a server sector write
      go r = Rescues recovery r.0.1 e (subst (λ n. Among {X = ℕ × Block} (n, r.0.1) (recovery_writes logs segments recovery)) (ap (λ p. p.0) r.2) r.1) (sym (ap (λ p. p.1) r.2))

  of_place : (locks : Locks) (at : Option Stage) → Among {X = ℕ × Write} (sector, write) (place_writes logs locks a server at) → Wanted logs segments a server sector write
  of_place locks at i =
      go (among_filter_mapped (λ entry. option_map (entry_of entry.0) (place_write a (is_place_wanted logs locks a server at entry.0 entry.1) entry.1 entry.1.dirt)) server.cache (sector, write) i)
    where
      by_dirt : (entry : ℕ × CachedSector) (wanted : Bool) (dirt : Option Dirt) → Among entry server.cache → entry.1.dirt ≡ dirt →
          option_map (entry_of entry.0) (place_write a wanted entry.1 dirt) ≡ Some (entry_of sector write) → Wanted logs segments a server sector write
      by_dirt entry wanted None there d e = absurd (none-some (entry_of sector write) e)
      by_dirt entry false (Some dirt) there d e = absurd (none-some (entry_of sector write) e)
      by_dirt entry true (Some dirt) there d e =
          Places entry.1 dirt
          (subst (λ n. Among {X = ℕ × CachedSector} (n, entry.1) server.cache) (ap (λ p. p.0) (same_Some (entry_of entry.0 (cached_write a entry.1 dirt)) (entry_of sector write) e)) there)
          d (sym (ap (λ p. p.1) (same_Some (entry_of entry.0 (cached_write a entry.1 dirt)) (entry_of sector write) e)))

      go : (entry : ℕ × CachedSector) × Among entry server.cache
          × (option_map (entry_of entry.0) (place_write a (is_place_wanted logs locks a server at entry.0 entry.1) entry.1 entry.1.dirt) ≡ Some (entry_of sector write)) → Wanted logs segments a server sector write
      go r = by_dirt r.0 (is_place_wanted logs locks a server at r.0.0 r.0.1) r.0.1.dirt r.1 refl r.2

  of_log : (upto : ℕ) (next : Option (ℕ × Block)) → next_write server.ring ≡ next → Among {X = ℕ × Write} (sector, write) (log_write logs a upto next) → Wanted logs segments a server sector write
  of_log upto None e i = absurd i
  of_log upto (Some (n, block)) e i = go (nat_le n upto) i
    where
      go : (b : Bool) → Among {X = ℕ × Write} (sector, write) (if b then (log_sector logs a n, next_log_write a n block) ∷ [] else []) → Wanted logs segments a server sector write
      go false i = absurd i
      go true (inr i) = absurd i
      go true (inl same) = NextOfLog n block e (ap (λ p. p.0) same) (ap (λ p. p.1) same)

pub wanted_is : (setting : Setting) (locks : Locks) (a : ℕ) (server : Server) (at : Option Stage) (sector : ℕ) (write : Write) →
    value_at (wanted_writes setting locks a server at) sector ≡ Some write → Wanted setting.logs setting.segments a server sector write
wanted_is setting locks a server at sector write e =
    ⊎_elim
    (λ i. ⊎_elim
    (λ j. ⊎_elim (of_rescue setting.logs setting.segments a server sector write server.recovery refl) (of_place setting.logs setting.segments a server sector write locks at) (among_either one rescues places j))
    (λ j. of_log setting.logs setting.segments a server sector write upto (next_write server.ring) refl j)
    (among_either one (rescues ++ places) (log_write setting.logs a upto (next_write server.ring)) i))
    (λ f. absurd (none-some write f))
    (from_fold (rescues ++ places ++ log_write setting.logs a upto (next_write server.ring)) [] sector write e)
  where
    one : ℕ × Write
    one = (sector, write)

    upto : ℕ
    upto = log_wanted_to setting.logs locks a server at

    rescues : Writes
    rescues = rescue_writes setting.logs setting.segments server.recovery

    places : Writes
    places = place_writes setting.logs locks a server at

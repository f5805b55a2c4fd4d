-- The write of one sector, by what is told of it.
use Rattle.std.proofs.Common.{◌≡◌, ℕ, Bool, true, false, if◌then◌else◌, Option, Some, None, refl, sym, ap, ◌∙◌, unwrap_or}
use Rattle.std.specs.Option.{option_and_then, option_map}
use Rattle.frang_base.specs.declared.lock.LockId.{LockId}
use Rattle.sector_bytes.specs.Blocks.{Block}
use Rattle.cache_definitions.specs.declared.dirt.Dirt.{Dirt}
use Rattle.cache_definitions.specs.Caches.{CachedSector}
use Rattle.core_definitions.specs.Flights.{InPlace}
use Rattle.core_definitions.specs.Writes.{Write, place_write}

module _ (number : ℕ) (wanted : CachedSector → Bool) where
  abbrev pub write_in : Option CachedSector → Option Write
  write_in o = option_and_then (λ cached. place_write number (wanted cached) cached cached.dirt) o

  unwanted : (cached : CachedSector) (d : Option Dirt) → place_write number false cached d ≡ None
  unwanted cached None = refl
  unwanted cached (Some dirt) = refl

  pub none_wanted : (o : Option CachedSector) → unwrap_or (option_map wanted o) false ≡ false → None ≡ write_in o
  none_wanted None not = refl
  none_wanted (Some cached) not = sym (ap (λ t. place_write number t cached cached.dirt) not ∙ unwanted cached cached.dirt)

  pub no_block : (o : Option CachedSector) → option_map (λ cached. cached.block) o ≡ None → None ≡ write_in o
  no_block None none = refl
  no_block (Some cached) none = cc

  pub no_cover : (o : Option CachedSector) → option_map (λ cached. cached.cover) o ≡ None → None ≡ write_in o
  no_cover None none = refl
  no_cover (Some cached) none = cc

  pub no_mark : (o : Option CachedSector) → option_and_then (λ cached. option_map (λ dirt. dirt.mark) cached.dirt) o ≡ None → None ≡ write_in o
  no_mark None none = refl
  no_mark (Some cached) none = go cached.dirt none
    where
      go : (d : Option Dirt) → option_map (λ dirt. dirt.mark) d ≡ None → None ≡ place_write number (wanted cached) cached d
      go None none = refl
      go (Some dirt) none = cc

  pub the_write : (o : Option CachedSector) (block : Block) (cover : LockId) (mark : ℕ) → unwrap_or (option_map wanted o) false ≡ true → option_map (λ cached. cached.block) o ≡ Some block
      → option_map (λ cached. cached.cover) o ≡ Some cover → option_and_then (λ cached. option_map (λ dirt. dirt.mark) cached.dirt) o ≡ Some mark
      → Some (record { behalf = number; block = block; purpose = InPlace cover; mark = Some mark }) ≡ write_in o
  the_write None block cover mark is b l m = cc
  the_write (Some cached) block cover mark is b l m = go cached.dirt m
    where
      made : Block → LockId → ℕ → Option Write
      made block cover mark = Some (record { behalf = number; block = block; purpose = InPlace cover; mark = Some mark })

      same_block : block ≡ cached.block
      same_block = cc b

      same_cover : cover ≡ cached.cover
      same_cover = cc l

      go : (d : Option Dirt) → option_map (λ dirt. dirt.mark) d ≡ Some mark → made block cover mark ≡ place_write number (wanted cached) cached d
      go None m = cc m
      go (Some dirt) m =
          let same_mark : mark ≡ dirt.mark = cc m in
          (λ i. made (same_block i) (same_cover i) (same_mark i)) ∙ sym (ap (λ t. if t then made cached.block cached.cover dirt.mark else None) is)

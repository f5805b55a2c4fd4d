-- A block whose eight sectors are cached as zero is, on the disk, a directory's block without entries.
use Rattle.std.proofs.Common.{◌≡◌, ℕ, zero, suc, ◌*◌, ◌/◌, ◌%◌, ◌<◌, ◌&&◌, ⊎_elim, Bool, true, false, nat_lt, Option, Some, None, List, [], ◌∷◌, replicate, if◌then◌else◌, is_some, refl, sym, ◌∙◌, ap, arith}
use Rattle.std.specs.List.{list_all}
use Rattle.std.proofs.lemmas.Bool.{cases_eq}
use Rattle.std.proofs.lemmas.List.Folds.{list_all-append}
use Rattle.disk_definitions.specs.declared.region.Region.TheVariants as region
use Rattle.disk_definitions.specs.declared.directory.DirEntry.{DirEntry}
use Rattle.disk_definitions.specs.declared.directory.DirSector.{DirSector}
use Rattle.sector_bytes.specs.Bytes.{zeros}
use Rattle.std.specs.Str.{bytes_eq}
use Rattle.disk_definitions.specs.Directories.{directory_bytes, directory_fits, directory_in}
use Rattle.disk_definitions.specs.Regions.{sector_of}
use Rattle.sector_bytes.proofs.SameBytes.{same_bytes_is}
use Rattle.disk_definitions.proofs.DirectoryLaws.{IsStorableEntry, AreStorable, IsStorableSector, directory_back}
use Rattle.sector_bytes.specs.SectorMaps.{value_at}
use Rattle.tree_definitions.specs.Numbers.{below}
use Rattle.sector_bytes.specs.Sectors.{Sectors}
use Rattle.disk_definitions.specs.Store.{entry_in, store_of, directory_at}
use Rattle.disk_definitions.specs.Written.{Cached, is_zero_at_hand, is_zeroed}

-- a free place, and a sector of seven of them
abbrev free : DirEntry
free = record { inode = 0; len = 0; kind = 0; name = zeros 64 }

abbrev empty : DirSector
empty = record { version = 0; entries = replicate 7 free }

zero_bytes : directory_bytes empty ≡ zeros 512
unfolding zeros
zero_bytes = refl

empty_fits : directory_fits empty ≡ true
unfolding zeros
empty_fits = refl

storable : IsStorableSector empty
unfolding zeros
storable = record { version = omega arith; seven = refl; entries = record_all }
  where
    one : IsStorableEntry free
    one = record { inode = omega arith; name = refl }

    record_all : AreStorable (replicate 7 free)
    record_all = (one, (one, (one, (one, (one, (one, (one, tt)))))))

zero_read : directory_in (zeros 512) ≡ Some empty
zero_read = ap directory_in (sym zero_bytes) ∙ directory_back empty storable empty_fits

pub zero_is_some : is_some (directory_in (zeros 512)) ≡ true
zero_is_some = ap is_some zero_read

pub no_entry : (r : ℕ) → r < 7 → entry_in (directory_in (zeros 512)) r ≡ None
unfolding zeros
no_entry r l = ap (λ o. entry_in o r) zero_read ∙ go r l
  where
    go : (r : ℕ) → r < 7 → entry_in (Some empty) r ≡ None
    go zero l = refl
    go (suc zero) l = refl
    go (suc (suc zero)) l = refl
    go (suc (suc (suc zero))) l = refl
    go (suc (suc (suc (suc zero)))) l = refl
    go (suc (suc (suc (suc (suc zero))))) l = refl
    go (suc (suc (suc (suc (suc (suc zero)))))) l = refl
    go (suc (suc (suc (suc (suc (suc (suc r))))))) l = absurd (omega arith)

both : (a b : Bool) → (a && (b && true)) ≡ true → (a ≡ true) × (b ≡ true)
both true true e = (refl, refl)
both true false e = absurd (cc)
both false b e = absurd (cc)

-- all numbers below n pass
pub each_below : (f : ℕ → Bool) (n : ℕ) → list_all f (below n) ≡ true → (p : ℕ) → p < n → f p ≡ true
each_below f zero e p l = absurd (omega arith)
each_below f (suc n) e p l =
    let parts = both (list_all f (below n)) (f n) (sym (list_all-append f (below n) (n ∷ [])) ∙ e) in
    ⊎_elim (λ q. ap f q ∙ parts.1) (λ q. each_below f n parts.0 p (grind arith)) (cases_eq p n)

module _ (cached : Cached) (sectors : Sectors) (as_cached : (sector : ℕ) (block : List ℕ) → value_at cached sector ≡ Some block → block ≡ sectors sector) where
  zero_there : (sector : ℕ) (o : Option (List ℕ)) → value_at cached sector ≡ o → is_zero_at_hand cached sector ≡ true → sectors sector ≡ zeros 512
  zero_there sector None e h = let z : is_zero_at_hand cached sector ≡ false = rw e refl in absurd (cc)
  zero_there sector (Some block) e h = let same : bytes_eq (zeros 512) block ≡ true = sym (rw e refl) ∙ h in sym (as_cached sector block e) ∙ sym (same_bytes_is (zeros 512) block same)

  pub zero_sector : (k p : ℕ) → is_zeroed cached k ≡ true → p < 8 → sectors (sector_of (region.Small k p)) ≡ zeros 512
  zero_sector k p e l =
      let sector = sector_of (region.Small k p) in
      zero_there sector (value_at cached sector) refl (each_below (λ part. is_zero_at_hand cached (sector_of (region.Small k part))) 8 e p l)

  pub zero_places : (segments k p : ℕ) → is_zeroed cached k ≡ true → p < 56 → (store_of segments sectors).place k p ≡ None
  zero_places segments k p e l = go (nat_lt k (1024 * segments))
    where
      at : entry_in (directory_at sectors k (p / 7)) (p % 7) ≡ None
      at = ap (λ block. entry_in (directory_in block) (p % 7)) (zero_sector k (p / 7) e (omega arith)) ∙ no_entry (p % 7) (omega arith)

      go : (b : Bool) → (if b then entry_in (directory_at sectors k (p / 7)) (p % 7) else None) ≡ None
      go true = at
      go false = refl

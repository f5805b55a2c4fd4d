-- What the edits of a line make of the sector of a part that is in use: it is written where they write it, and nowhere else.
use Rattle.std.proofs.Common.{ℕ, ◌≡◌, ◌≤◌, Bool, true, false, if◌then◌else◌, Option, Some, None, is_some, List, refl, ap}
use Rattle.std.specs.List.{Contains}
use Rattle.std.specs.Option.{option_map}
use Rattle.plan_laws.proofs.Filled.{filter_from}
use Rattle.frang_base.specs.Functions.{member}
use Rattle.sector_bytes.specs.Blocks.{Block}
use Rattle.sector_bytes.specs.SectorMaps.{value_at}
use Rattle.sector_world.specs.Histories.{Fill}
use Rattle.sector_world.specs.Histories.Fill.{Written, Freed}
use Rattle.disk_definitions.specs.declared.region.Region.TheVariants as region
use Rattle.disk_definitions.proofs.RegionLaws.{region_once}
use Rattle.disk_definitions.specs.Store.{Store}
use Rattle.disk_definitions.specs.Edits.{Edit}
use Rattle.disk_definitions.specs.Edits.Edit.{SetInode, SetBit, SetUse, SetPlace, SetLarge, SetBytes, SetLargeBytes}
use Rattle.disk_definitions.specs.Ask.{Sector, InodeAt, DirectoryAt, SegmentAt, BytesAt, LargeAt, number_of}
use Rattle.disk_definitions.specs.FitEdits.{AreFit}
use Rattle.disk_definitions.specs.Written.{byte_write, byte_writes, edit_sector, freed_sectors, is_metadata}
use Rattle.plan_fit.proofs.Kept.{in_small, in_large}
use Rattle.line_histories.specs.LinePlans.{fill_by}
use Rattle.line_histories.specs.Outcomes.{fill_shape}
use Rattle.line_histories.proofs.Apart.{one_fit}
use Rattle.line_histories.specs.Files.{IsWritten}
use Rattle.line_histories.proofs.Filled.{IsInUse}
use Rattle.line_histories.proofs.Guarded.{value_in}

-- with bytes or without, there is a fill or none
pub some_shape : (o : Option Fill) → is_some (fill_shape o) ≡ is_some o
some_shape None = refl
some_shape (Some (Written block)) = refl
some_shape (Some Freed) = refl

-- a sector that has a value is filled
pub has_fill : (edits : List Edit) (s : ℕ) → is_some (value_at (byte_writes edits) s) ≡ true → is_some (fill_by edits s) ≡ true
has_fill edits s v = go (member s (freed_sectors edits)) (value_at (byte_writes edits) s) v
  where
    go : (b : Bool) (o : Option Block) → is_some o ≡ true → is_some (if b then Some Freed else option_map (λ bytes. Written bytes) o) ≡ true
    go true o e = refl
    go false (Some bytes) e = refl
    go false None e = absurd (cc)

-- one that is filled and not freed has a value
pub has_bytes : (edits : List Edit) (s : ℕ) → member s (freed_sectors edits) ≡ false → is_some (fill_by edits s) ≡ true → is_some (value_at (byte_writes edits) s) ≡ true
has_bytes edits s none f = go (member s (freed_sectors edits)) (value_at (byte_writes edits) s) none f
  where
    go : (b : Bool) (o : Option Block) → b ≡ false → is_some (if b then Some Freed else option_map (λ bytes. Written bytes) o) ≡ true → is_some o ≡ true
    go true o e f = absurd (cc)
    go false (Some bytes) e f = refl
    go false None e f = absurd (cc)

-- the number of a write
abbrev number : Option (ℕ × List ℕ) → ℕ
number None = 0
number (Some write) = write.0

-- what has a value is written by an edit of bytes
module _ (segments : ℕ) (few : segments ≤ 64) (end : Store) (edits : List Edit) (fit : AreFit segments end edits) where
  small_here : (d : Edit) → Contains edits d → is_metadata d ≡ false → (k p : ℕ) → IsInUse segments end (BytesAt k p) → edit_sector d ≡ number_of (BytesAt k p) → IsWritten edits (BytesAt k p)
  small_here (SetBytes j part bytes) c m k p u e =
      let f = one_fit segments end edits (SetBytes j part bytes) fit c in
      let same = region_once segments (region.Small j part) (region.Small k p) few (in_small segments j part f.0.0 f.0.1) (in_small segments k p u.1 u.2) e in
      let here : BytesAt j part ≡ BytesAt k p = cc in
      record { edit = SetBytes j part bytes; among = c; bytes = refl; here = here }
  small_here (SetLargeBytes g part bytes) c m k p u e =
      let f = one_fit segments end edits (SetLargeBytes g part bytes) fit c in
      let same = region_once segments (region.Large g part) (region.Small k p) few (in_large segments g part f.0.0 f.0.1) (in_small segments k p u.1 u.2) e in
      absurd (cc)
  small_here (SetInode i x dated) c m k p u e = absurd (cc)
  small_here (SetBit i b) c m k p u e = absurd (cc)
  small_here (SetUse j x) c m k p u e = absurd (cc)
  small_here (SetPlace j q x) c m k p u e = absurd (cc)
  small_here (SetLarge g b) c m k p u e = absurd (cc)

  large_here : (d : Edit) → Contains edits d → is_metadata d ≡ false → (g p : ℕ) → IsInUse segments end (LargeAt g p) → edit_sector d ≡ number_of (LargeAt g p) → IsWritten edits (LargeAt g p)
  large_here (SetBytes j part bytes) c m g p u e =
      let f = one_fit segments end edits (SetBytes j part bytes) fit c in
      let same = region_once segments (region.Small j part) (region.Large g p) few (in_small segments j part f.0.0 f.0.1) (in_large segments g p u.1 u.2) e in
      absurd (cc)
  large_here (SetLargeBytes j part bytes) c m g p u e =
      let f = one_fit segments end edits (SetLargeBytes j part bytes) fit c in
      let same = region_once segments (region.Large j part) (region.Large g p) few (in_large segments j part f.0.0 f.0.1) (in_large segments g p u.1 u.2) e in
      let here : LargeAt j part ≡ LargeAt g p = cc in
      record { edit = SetLargeBytes j part bytes; among = c; bytes = refl; here = here }
  large_here (SetInode i x dated) c m g p u e = absurd (cc)
  large_here (SetBit i b) c m g p u e = absurd (cc)
  large_here (SetUse j x) c m g p u e = absurd (cc)
  large_here (SetPlace j q x) c m g p u e = absurd (cc)
  large_here (SetLarge j b) c m g p u e = absurd (cc)

  edit_here : (x : Sector) → IsInUse segments end x → (d : Edit) → Contains edits d → is_metadata d ≡ false → edit_sector d ≡ number_of x → IsWritten edits x
  edit_here (BytesAt k p) u d c m e = small_here d c m k p u e
  edit_here (LargeAt g p) u d c m e = large_here d c m g p u e
  edit_here (InodeAt i) u d c m e = absurd u
  edit_here (DirectoryAt k p) u d c m e = absurd u
  edit_here (SegmentAt k) u d c m e = absurd u

  -- the edit of a byte write
  of_write : (d : Edit) (s : ℕ) (block : List ℕ) → byte_write d ≡ Some (s, block) → (is_metadata d ≡ false) × (edit_sector d ≡ s)
  of_write (SetBytes k part bytes) s block e = (refl, ap number e)
  of_write (SetLargeBytes g part bytes) s block e = (refl, ap number e)
  of_write (SetInode i x dated) s block e = absurd (cc)
  of_write (SetBit i b) s block e = absurd (cc)
  of_write (SetUse k u) s block e = absurd (cc)
  of_write (SetPlace k p x) s block e = absurd (cc)
  of_write (SetLarge g b) s block e = absurd (cc)

  pub value_written : (x : Sector) → IsInUse segments end x → is_some (value_at (byte_writes edits) (number_of x)) ≡ true → IsWritten edits x
  value_written x u v = go (value_at (byte_writes edits) (number_of x)) refl v
    where
      go : (o : Option (List ℕ)) → value_at (byte_writes edits) (number_of x) ≡ o → is_some o ≡ true → IsWritten edits x
      go None e v = absurd (cc)
      go (Some block) e v =
          let r = filter_from byte_write edits (number_of x, block) (value_in (byte_writes edits) (number_of x) block e) in
          let w = of_write r.0 (number_of x) block r.2 in
          edit_here x u r.0 r.1 w.0 w.1

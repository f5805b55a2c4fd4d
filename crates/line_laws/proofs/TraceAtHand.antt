-- Where a sector is cached, the sectors at hand are the disk's there, though a held segment may have it.
use Rattle.std.proofs.Common.{◌≡◌, ℕ, ◌^◌, Bool, true, false, Option, Some, None, List, [], ◌∷◌, if◌then◌else◌, length, refl, sym, ap, ◌∙◌}
use Rattle.std.specs.BTreeMap.{is_at}
use Rattle.std.specs.Ordering.{nat_cmp}
use Rattle.disk_definitions.specs.declared.region.Region.TheVariants as region
use Rattle.disk_definitions.specs.Bitmaps.{bitmap_bytes}
use Rattle.disk_definitions.specs.Regions.{sector_of}
use Rattle.disk_definitions.proofs.WrittenFields.{length_zeros}
use Rattle.sector_bytes.specs.SectorMaps.{value_at}
use Rattle.sector_bytes.specs.Sectors.{Sectors}
use Rattle.tree_definitions.proofs.Pairs.{birth_exact, tie, self}
use Rattle.disk_definitions.specs.Edits.Edit.{SetLarge}
use Rattle.disk_definitions.specs.Held.{Segments, bitmap_of}
use Rattle.disk_definitions.specs.OnDisk.{AreOfDisk}
use Rattle.disk_definitions.specs.Written.{Cached, is_held, segment_sectors, sectors_at_hand}
use Rattle.line_laws.proofs.Held.{edit_is}

-- a sector that the held segments have is that of one of them
pub record IsOfHeld (held : Segments) (sector : ℕ) : Type 0 where
  pub segment : ℕ
  pub is : is_held held segment ≡ true
  pub number : sector ≡ sector_of (region.Segment segment)

of_held : (held : Segments) (sector : ℕ) (block : List ℕ) → value_at (segment_sectors held) sector ≡ Some block → IsOfHeld held sector
of_held [] sector block e = absurd (cc)
of_held (h ∷ held) sector block e = go (of_held held sector block) (is_at (nat_cmp sector) (sector_of (region.Segment h.0))) refl e
  where
    further : (r : IsOfHeld held sector) → (b : Bool) → is_at (nat_cmp r.segment) h.0 ≡ b → is_held (h ∷ held) r.segment ≡ true
    further r true i = rw i refl
    further r false i = rw i r.is

    go : (value_at (segment_sectors held) sector ≡ Some block → IsOfHeld held sector) → (b : Bool) → is_at (nat_cmp sector) (sector_of (region.Segment h.0)) ≡ b →
        (if b then Some (bitmap_bytes h.1) else value_at (segment_sectors held) sector) ≡ Some block → IsOfHeld (h ∷ held) sector
    go rest true i e = record { segment = h.0; is = rw (self nat_cmp birth_exact h.0) refl; number = tie nat_cmp birth_exact sector (sector_of (region.Segment h.0)) i }
    go rest false i e = let r = rest e in record { segment = r.segment; is = further r (is_at (nat_cmp r.segment) h.0) refl; number = r.number }

module _ (cached : Cached) (held : Segments) (all : Bool) (segments : ℕ) (sectors : Sectors) (of : AreOfDisk cached held all segments sectors) where
  -- a held segment has it
  held_is : (sector : ℕ) (block : List ℕ) → value_at (segment_sectors held) sector ≡ Some block → sectors_at_hand cached held sector ≡ sectors sector
  held_is sector block e =
      let r = of_held held sector block e in
      ap (sectors_at_hand cached held) r.number ∙ edit_is cached held all segments sectors of (SetLarge r.segment false) refl r.is ∙ ap sectors (sym r.number)

  cached_is : (sector : ℕ) (block : List ℕ) → value_at cached sector ≡ Some block → sectors_at_hand cached held sector ≡ sectors sector
  cached_is sector block e = go (value_at (segment_sectors held) sector) refl
    where
      go : (o : Option (List ℕ)) → value_at (segment_sectors held) sector ≡ o → sectors_at_hand cached held sector ≡ sectors sector
      go None f = rw (f, e) (of.as_cached sector block e)
      go (Some other) f = held_is sector other f

  pub cached_at_hand : (sector : ℕ) (block : List ℕ) → value_at cached sector ≡ Some block → block ≡ sectors_at_hand cached held sector
  cached_at_hand sector block e = of.as_cached sector block e ∙ sym (cached_is sector block e)

  -- each has the length of a sector, those that aren't at hand too
  pub whole_at_hand : ((sector : ℕ) → length (sectors sector) ≡ 512) → (sector : ℕ) → length (sectors_at_hand cached held sector) ≡ 512
  whole_at_hand whole sector = go (value_at (segment_sectors held) sector) refl (value_at cached sector) refl
    where
      go : (o : Option (List ℕ)) → value_at (segment_sectors held) sector ≡ o → (u : Option (List ℕ)) → value_at cached sector ≡ u → length (sectors_at_hand cached held sector) ≡ 512
      go (Some block) f u e = ap length (held_is sector block f) ∙ whole sector
      go None f (Some block) e = ap length (cached_is sector block e) ∙ whole sector
      go None f None e = rw (f, e) (length_zeros 512)

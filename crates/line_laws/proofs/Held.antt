-- A sector that is at hand, cached or by the bitmap of a held segment, is the disk's.
use Rattle.std.proofs.Common.{◌≡◌, ℕ, ◌/◌, ◌<◌, ⊎_elim, Bool, true, false, Option, Some, None, List, [], ◌∷◌, if◌then◌else◌, is_some, refl, sym, ap, ◌∙◌, subst, arith}
use Rattle.std.specs.List.{Contains}
use Rattle.std.specs.BTreeMap.{is_at}
use Rattle.std.specs.Ordering.{nat_cmp}
use Rattle.frang_base.specs.declared.bitmap.Bitmap.{Bitmap}
use Rattle.disk_definitions.specs.declared.region.Region.TheVariants as region
use Rattle.disk_definitions.specs.Bitmaps.{bitmap_bytes}
use Rattle.disk_definitions.specs.Regions.{sector_of}
use Rattle.disk_definitions.proofs.BitmapLaws.{bitmap_read}
use Rattle.sector_bytes.specs.SectorMaps.{value_at}
use Rattle.tree_definitions.proofs.Pairs.{birth_exact, tie, self}
use Rattle.sector_bytes.specs.Sectors.{Sectors}
use Rattle.disk_definitions.specs.Edits.{Edit}
use Rattle.disk_definitions.specs.Edits.Edit.{SetInode, SetBit, SetUse, SetPlace, SetLarge, SetBytes, SetLargeBytes}
use Rattle.disk_definitions.specs.Held.{Segments, bitmap_of}
use Rattle.disk_definitions.specs.Ask.{Sector, AtHand}
use Rattle.disk_definitions.specs.Written.{Cached, inode_at_hand, directory_at_hand, is_held, at_hand, segment_sectors, sectors_at_hand, edit_sector, is_metadata}
use Rattle.disk_definitions.specs.Missing.{is_at_hand, first_missing}
use Rattle.plan_laws.proofs.Covering.{has_cases}
use Rattle.disk_definitions.specs.OnDisk.{AreOfDisk}
use Rattle.plan_laws.specs.Looked.{edited_at}

-- a block of a held segment
pub record IsHeldBlock (held : Segments) (sector : ℕ) (block : List ℕ) : Type 0 where
  pub segment : ℕ
  pub bitmap : Bitmap
  pub is : bitmap_of held segment ≡ Some bitmap
  pub number : sector ≡ sector_of (region.Segment segment)
  pub bytes : block ≡ bitmap_bytes bitmap

block_held : (held : Segments) (sector : ℕ) (block : List ℕ) → value_at (segment_sectors held) sector ≡ Some block → IsHeldBlock held sector block
block_held [] sector block e = absurd (cc)
block_held (h ∷ held) sector block e = go (block_held held sector block) (is_at (nat_cmp sector) (sector_of (region.Segment h.0))) refl e
  where
    more : (c : IsHeldBlock held sector block) → is_at (nat_cmp sector) (sector_of (region.Segment h.0)) ≡ false → (b : Bool) → is_at (nat_cmp c.segment) h.0 ≡ b → (if b then Some h.1 else bitmap_of held c.segment) ≡ Some c.bitmap
    more c f true i =
        let same : sector ≡ sector_of (region.Segment h.0) = c.number ∙ ap (λ k. sector_of (region.Segment k)) (tie nat_cmp birth_exact c.segment h.0 i) in
        let z : is_at (nat_cmp sector) (sector_of (region.Segment h.0)) ≡ true = subst (λ q. is_at (nat_cmp sector) q ≡ true) same (self nat_cmp birth_exact sector) in
        absurd (cc)
    more c f false i = c.is

    go : (value_at (segment_sectors held) sector ≡ Some block → IsHeldBlock held sector block) → (b : Bool) → is_at (nat_cmp sector) (sector_of (region.Segment h.0)) ≡ b →
        (if b then Some (bitmap_bytes h.1) else value_at (segment_sectors held) sector) ≡ Some block → IsHeldBlock (h ∷ held) sector block
    go rest true i e = let same : bitmap_bytes h.1 ≡ block = cc in
        record { segment = h.0; bitmap = h.1; is = rw (self nat_cmp birth_exact h.0) refl; number = tie nat_cmp birth_exact sector (sector_of (region.Segment h.0)) i; bytes = sym same }
    go rest false i e = let c = rest e in record { segment = c.segment; bitmap = c.bitmap; is = more c i (is_at (nat_cmp c.segment) h.0) refl; number = c.number; bytes = c.bytes }

held_there : (held : Segments) (k : ℕ) (x : Bitmap) → bitmap_of held k ≡ Some x → value_at (segment_sectors held) (sector_of (region.Segment k)) ≡ None → ⊥
held_there [] k x e f = absurd (cc)
held_there (h ∷ held) k x e f = go (held_there held k x) (is_at (nat_cmp k) h.0) refl e (is_at (nat_cmp (sector_of (region.Segment k))) (sector_of (region.Segment h.0))) refl f
  where
    go : (bitmap_of held k ≡ Some x → value_at (segment_sectors held) (sector_of (region.Segment k)) ≡ None → ⊥) → (b : Bool) → is_at (nat_cmp k) h.0 ≡ b → (if b then Some h.1 else bitmap_of held k) ≡ Some x →
        (c : Bool) → is_at (nat_cmp (sector_of (region.Segment k))) (sector_of (region.Segment h.0)) ≡ c → (if c then Some (bitmap_bytes h.1) else value_at (segment_sectors held) (sector_of (region.Segment k))) ≡ None → ⊥
    go rest b i e true j f = absurd (cc)
    go rest true i e false j f =
        let z : is_at (nat_cmp (sector_of (region.Segment k))) (sector_of (region.Segment h.0)) ≡ true = subst (λ q. is_at (nat_cmp (sector_of (region.Segment k))) (sector_of (region.Segment q)) ≡ true) (tie nat_cmp birth_exact k h.0 i) (self nat_cmp birth_exact (sector_of (region.Segment k))) in
        absurd (cc)
    go rest false i e false j f = rest e f

module _ (cached : Cached) (held : Segments) (all : Bool) (segments : ℕ) (sectors : Sectors) (of : AreOfDisk cached held all segments sectors) where
  -- the sector is a held segment's, or it is cached
  from_held : (sector : ℕ) (block : List ℕ) → value_at (segment_sectors held) sector ≡ Some block → block ≡ sectors sector
  from_held sector block e =
      let c = block_held held sector block e in
      c.bytes ∙ sym (bitmap_read (sectors (sector_of (region.Segment c.segment))) c.bitmap (of.as_held c.segment c.bitmap c.is).1) ∙ ap sectors (sym c.number)

  cached_is : (sector : ℕ) (block : List ℕ) → value_at cached sector ≡ Some block → sectors_at_hand cached held sector ≡ sectors sector
  cached_is sector block e = go (value_at (segment_sectors held) sector) refl
    where
      go : (o : Option (List ℕ)) → value_at (segment_sectors held) sector ≡ o → sectors_at_hand cached held sector ≡ sectors sector
      go None f = rw (f, e) (of.as_cached sector block e)
      go (Some other) f = rw f (from_held sector other f)

  held_is : (k : ℕ) (o : Option Bitmap) → bitmap_of held k ≡ o → is_some o ≡ true → sectors_at_hand cached held (sector_of (region.Segment k)) ≡ sectors (sector_of (region.Segment k))
  held_is k None e i = absurd (cc)
  held_is k (Some x) e i = go (value_at (segment_sectors held) (sector_of (region.Segment k))) refl
    where
      go : (o : Option (List ℕ)) → value_at (segment_sectors held) (sector_of (region.Segment k)) ≡ o → sectors_at_hand cached held (sector_of (region.Segment k)) ≡ sectors (sector_of (region.Segment k))
      go None f = absurd (held_there held k x e f)
      go (Some block) f = rw f (from_held (sector_of (region.Segment k)) block f)

  -- a segment that is at hand, an inode, a directory's sector
  segment_is : (k : ℕ) → is_held held k ≡ true → sectors_at_hand cached held (sector_of (region.Segment k)) ≡ sectors (sector_of (region.Segment k))
  segment_is k h = go (bitmap_of held k) refl
    where
      go : (o : Option Bitmap) → bitmap_of held k ≡ o → sectors_at_hand cached held (sector_of (region.Segment k)) ≡ sectors (sector_of (region.Segment k))
      go None e = let z : is_held held k ≡ false = rw e refl in absurd (cc)
      go (Some x) e = held_is k (Some x) e refl

  inode_is : (i : ℕ) (o : Option (List ℕ)) → value_at cached (sector_of (region.Inode i)) ≡ o → is_some (inode_at_hand cached i) ≡ true → sectors_at_hand cached held (sector_of (region.Inode i)) ≡ sectors (sector_of (region.Inode i))
  inode_is i None e h = let z : is_some (inode_at_hand cached i) ≡ false = rw e refl in absurd (cc)
  inode_is i (Some block) e h = cached_is (sector_of (region.Inode i)) block e

  directory_is : (k part : ℕ) (o : Option (List ℕ)) → value_at cached (sector_of (region.Small k part)) ≡ o → is_some (directory_at_hand cached k part) ≡ true → sectors_at_hand cached held (sector_of (region.Small k part)) ≡ sectors (sector_of (region.Small k part))
  directory_is k part None e h = let z : is_some (directory_at_hand cached k part) ≡ false = rw e refl in absurd (cc)
  directory_is k part (Some block) e h = cached_is (sector_of (region.Small k part)) block e

  pub edit_is : (e : Edit) → is_metadata e ≡ true → is_at_hand (at_hand cached held) (edited_at e) ≡ true → sectors_at_hand cached held (edit_sector e) ≡ sectors (edit_sector e)
  edit_is (SetInode i x dated) m h = inode_is i (value_at cached (sector_of (region.Inode i))) refl h
  edit_is (SetBit i b) m h = segment_is (i / 64) h
  edit_is (SetUse k u) m h = segment_is (k / 1024) h
  edit_is (SetPlace k p o) m h = directory_is k (p / 7) (value_at cached (sector_of (region.Small k (p / 7)))) refl h
  edit_is (SetLarge g b) m h = segment_is g h
  edit_is (SetBytes k part bytes) m h = absurd (cc)
  edit_is (SetLargeBytes g part bytes) m h = absurd (cc)

has_none : {P : Type 0} (x : Sector) → Contains [] x → P
has_none x h = let l : h.0 < 0 = h.1 in absurd (omega arith)

-- where nothing is missing, each sector is at hand
pub none_missing : (c : AtHand) (xs : List Sector) → first_missing c xs ≡ None → (x : Sector) → Contains xs x → is_at_hand c x ≡ true
none_missing c [] e x h = has_none x h
none_missing c (y ∷ xs) e x h = go (λ f m. none_missing c xs f x m) (is_at_hand c y) refl e
  where
    go : (first_missing c xs ≡ None → Contains xs x → is_at_hand c x ≡ true) → (b : Bool) → is_at_hand c y ≡ b → (if b then first_missing c xs else Some y) ≡ None → is_at_hand c x ≡ true
    go rest false i e = absurd (cc)
    go rest true i e = ⊎_elim (λ q. ap (is_at_hand c) (sym q) ∙ i) (λ m. rest e m) (has_cases y x xs h)

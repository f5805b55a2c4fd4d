-- Over bytes that are those shown wherever it looks, a program comes to what it comes to over those shown.
use Rattle.std.proofs.Common.{ℕ, ◌≡◌, ◌+◌, ◌*◌, ◌/◌, ◌%◌, Option, Some, List, [], ◌∷◌, refl, sym, ◌∙◌, ap, subst, arith}
use Rattle.std.specs.List.{Contains}
use Rattle.sector_bytes.specs.Blocks.{Block}
use Rattle.sector_bytes.specs.Sectors.{Sectors}
use Rattle.disk_definitions.specs.declared.region.Region.TheVariants as region
use Rattle.disk_definitions.specs.Regions.{sector_of}
use Rattle.disk_definitions.specs.Store.{Store, store_of}
use Rattle.disk_definitions.specs.Ask.{Sector, InodeAt, DirectoryAt, SegmentAt, BytesAt, LargeAt, Ask, number_of, looks, part_of, run}
use Rattle.disk_definitions.specs.Plans.{Plan}
use Rattle.plan_laws.specs.Looking.{AllSayTheSame}
use Rattle.plan_laws.proofs.Asking.{framed}
use Rattle.plan_laws.proofs.Covering.{has_head, has_more}
use Rattle.line_laws.specs.Stores.{with_bytes}
use Rattle.line_histories.specs.LinePlans.{byte_shown}
use Rattle.line_histories.specs.Places.{SameBytesAt}
use Rattle.line_histories.proofs.Made.{part_same}
use Rattle.stop_laws.specs.Cells.{having}

-- a store with the bytes of these sectors
abbrev pub bytes_on : ℕ → Sectors → Store → Store
bytes_on segments disk base = with_bytes base (store_of segments disk).byte (store_of segments disk).large_byte

-- wherever it looks these blocks were shown
abbrev pub IsShownAt : (ℕ → Option Block) → Sectors → Sector → Type 0
IsShownAt shown disk (BytesAt k part) = shown (number_of (BytesAt k part)) ≡ Some (disk (number_of (BytesAt k part)))
IsShownAt shown disk (LargeAt g part) = shown (number_of (LargeAt g part)) ≡ Some (disk (number_of (LargeAt g part)))
IsShownAt shown disk _ = Unit {0}

module _ (segments : ℕ) (base : Store) (shown : ℕ → Option Block) (disk : Sectors) where
  small_same : (k part : ℕ) → shown (sector_of (region.Small k part)) ≡ Some (disk (sector_of (region.Small k part))) →
      part_of (having shown base).byte k part ≡ part_of (store_of segments disk).byte k part
  small_same k part e = part_same (having shown base).byte (store_of segments disk).byte k part (λ r l.
      let a : part ≡ (512 * part + r) / 512 = omega arith in
      ap (λ o. byte_shown o ((512 * part + r) % 512)) (subst (λ z. shown (sector_of (region.Small k z)) ≡ Some (disk (sector_of (region.Small k z)))) a e))

  large_same : (g part : ℕ) → shown (sector_of (region.Large g part)) ≡ Some (disk (sector_of (region.Large g part))) →
      part_of (having shown base).large_byte g part ≡ part_of (store_of segments disk).large_byte g part
  large_same g part e = part_same (having shown base).large_byte (store_of segments disk).large_byte g part (λ r l.
      let a : part ≡ (512 * part + r) / 512 = omega arith in
      ap (λ o. byte_shown o ((512 * part + r) % 512)) (subst (λ z. shown (sector_of (region.Large g z)) ≡ Some (disk (sector_of (region.Large g z)))) a e))

  says : (xs : List Sector) → ((x : Sector) → Contains xs x → IsShownAt shown disk x) → AllSayTheSame (bytes_on segments disk base) (having shown base) xs
  says [] all = tt
  says (InodeAt i ∷ xs) all = (refl, says xs (λ x c. all x (has_more (InodeAt i) x xs c)))
  says (DirectoryAt k part ∷ xs) all = (refl, says xs (λ x c. all x (has_more (DirectoryAt k part) x xs c)))
  says (SegmentAt k ∷ xs) all = (tt, says xs (λ x c. all x (has_more (SegmentAt k) x xs c)))
  says (BytesAt k part ∷ xs) all = (small_same k part (all (BytesAt k part) (has_head (BytesAt k part) xs)), says xs (λ x c. all x (has_more (BytesAt k part) x xs c)))
  says (LargeAt g part ∷ xs) all = (large_same g part (all (LargeAt g part) (has_head (LargeAt g part) xs)), says xs (λ x c. all x (has_more (LargeAt g part) x xs c)))

  pub run_shown : (p : Ask Plan) → ((x : Sector) → Contains (looks p (bytes_on segments disk base)) x → IsShownAt shown disk x) →
      run p (having shown base) ≡ run p (bytes_on segments disk base)
  run_shown p all = (framed p (bytes_on segments disk base) (having shown base) (says (looks p (bytes_on segments disk base)) all)).0

-- in one sector the bytes that are shown there are the same, whatever is shown elsewhere
module _ (shown : ℕ → Option Block) (base : Store) (number : ℕ) where
  pub shown_there : SameBytesAt (having shown base).byte (having shown base).large_byte (λ block index. byte_shown (shown number) (index % 512)) (λ large index. byte_shown (shown number) (index % 512)) number
  shown_there = record {
    small = λ k part e. part_same (λ block index. byte_shown (shown number) (index % 512)) (having shown base).byte k part (λ r l.
        let a : part ≡ (512 * part + r) / 512 = omega arith in
        ap (λ o. byte_shown o ((512 * part + r) % 512)) (ap shown (sym e ∙ ap (λ z. sector_of (region.Small k z)) a)));
    large = λ g part e. part_same (λ large index. byte_shown (shown number) (index % 512)) (having shown base).large_byte g part (λ r l.
        let a : part ≡ (512 * part + r) / 512 = omega arith in
        ap (λ o. byte_shown o ((512 * part + r) % 512)) (ap shown (sym e ∙ ap (λ z. sector_of (region.Large g z)) a)));
  }

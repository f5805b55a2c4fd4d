-- Each field stands at its place.
use Rattle.std.proofs.Common.{◌≡◌, ◌==◌, ℕ, Bool, List, take, drop, slice_index, refl, ap, ◌∙◌, arith}
use Rattle.std.proofs.lemmas.Slice.{between_to_end}
use Rattle.byteorder.specs.Endian.{little_number}
use Rattle.sector_bytes.specs.Bytes.{number_at}
use Rattle.disk_definitions.specs.Bitmaps.{bitmap_fields}
use Rattle.bitmap_block.proofs.reading.fields.Goals as goal

same_fields : {v i : ℕ} {s : List ℕ} {l : Bool} (block : List ℕ)
    → v ≡ number_at 8 0 block → i ≡ number_at 8 8 block → s ≡ take 256 (drop 16 block) → l ≡ (slice_index block 272 == 1)
    → record { version = v; inodes = i; states = s; large = l } ≡ bitmap_fields block
same_fields block version inodes states large = rw (version, inodes, states, large) refl

pub returns : goal.returns
returns c =
    let b = c.args.from.now in
    same_fields b c.read_u64.ensures (c.read_u64-2.ensures ∙ ap (little_number 8) (between_to_end b 8 512 (omega arith))) c.copy_from_slice.ensures.after refl

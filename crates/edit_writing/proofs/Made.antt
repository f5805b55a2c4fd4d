-- What an edit of bytes or of a state makes, by the edit that the code has.
use Rattle.std.proofs.Common.{◌≡◌, ◌%◌, ◌⊎◌, inl, inr, ℕ, Some, List, length, refl, sym, ap, subst, ◌∙◌}
use Rattle.std.specs.Option.{option_map}
use Rattle.frang_base.specs.declared.sector.Sector.{Sector}
use Rattle.disk_definitions.proofs.Lists.{all_numbers}
use Rattle.bitmap_block.specs.declared.state.BlockState.{BlockState}
use Rattle.bitmap_block.specs.declared.state.BlockState.TheVariants.{Unused, FileBytes, FormerDirectory, Directory}
use Rattle.bitmap_block.specs.States.{state_number}
use Rattle.disk_definitions.specs.Bitmaps.{bitmap_bytes, bitmap_fields}
use Rattle.disk_definitions.specs.Store.{use_by}
use Rattle.disk_definitions.specs.Taken.{with_state}
use Rattle.disk_definitions.specs.Written.{byte_write, edit_sector, edited_block, state_of}
use Rattle.dir_lookup.specs.Planned.{sector_by, write_by}
use Rattle.plan_steps.specs.Edits.{edit_of}
use Rattle.plan_steps.specs.declared.edit.Edit.{Edit}
use Rattle.plan_steps.specs.declared.edit.Edit.TheVariants as edit

-- the edit writes these bytes
abbrev pub Writes : Edit → List ℕ → Type 0
Writes e bytes = ((k : ℕ) × (part : ℕ) × e ≡ edit.Bytes k part bytes) ⊎ ((g : ℕ) × (part : ℕ) × e ≡ edit.LargeBytes g part bytes)

pub bytes_made : (e : Edit) (bytes block : List ℕ) (version : ℕ) → length bytes ≡ 512 → Writes e bytes → bytes ≡ edited_block block version (edit_of e)
bytes_made e bytes block version n (inl w) = sym (ap (λ e. edited_block block version (edit_of e)) w.2 ∙ all_numbers bytes 512 n)
bytes_made e bytes block version n (inr w) = sym (ap (λ e. edited_block block version (edit_of e)) w.2 ∙ all_numbers bytes 512 n)

abbrev IsWrite : Sector → List ℕ → Edit → Type 0
IsWrite s bytes e = s.0 ≡ edit_sector (edit_of e) → Some (s, bytes) ≡ option_map write_by (byte_write (edit_of e))

small_write : (s : Sector) (bytes : List ℕ) (k part : ℕ) → length bytes ≡ 512 → IsWrite s bytes (edit.Bytes k part bytes)
small_write s bytes k part n h =
    let there = edit_sector (edit_of (edit.Bytes k part bytes)) in
    ap (λ (x : ℕ). Some (sector_by x, bytes)) h ∙ ap (λ (b : List ℕ). Some (sector_by there, b)) (sym (all_numbers bytes 512 n))

large_write : (s : Sector) (bytes : List ℕ) (g part : ℕ) → length bytes ≡ 512 → IsWrite s bytes (edit.LargeBytes g part bytes)
large_write s bytes g part n h =
    let there = edit_sector (edit_of (edit.LargeBytes g part bytes)) in
    ap (λ (x : ℕ). Some (sector_by x, bytes)) h ∙ ap (λ (b : List ℕ). Some (sector_by there, b)) (sym (all_numbers bytes 512 n))

pub bytes_written : (e : Edit) (s : Sector) (bytes : List ℕ) → length bytes ≡ 512 → Writes e bytes → s.0 ≡ edit_sector (edit_of e) → Some (s, bytes) ≡ option_map write_by (byte_write (edit_of e))
bytes_written e s bytes n (inl w) = subst (IsWrite s bytes) (sym w.2) (small_write s bytes w.0 w.1 n)
bytes_written e s bytes n (inr w) = subst (IsWrite s bytes) (sym w.2) (large_write s bytes w.0 w.1 n)

-- ---- states
state_kept : (s : BlockState) → state_of (use_by (state_number s)) ≡ state_number s
state_kept Unused = refl
state_kept FileBytes = refl
state_kept FormerDirectory = refl
state_kept Directory = refl

pub state_made : (e : Edit) (k : ℕ) (s : BlockState) (block new : List ℕ) (version : ℕ) → e ≡ edit.Use k s → new ≡ bitmap_bytes (with_state (bitmap_fields block) (k % 1024) (state_number s)) → new ≡ edited_block block version (edit_of e)
state_made e k s block new version is h =
    h ∙ ap (λ (n : ℕ). bitmap_bytes (with_state (bitmap_fields block) (k % 1024) n)) (sym (state_kept s)) ∙ sym (ap (λ e. edited_block block version (edit_of e)) is)

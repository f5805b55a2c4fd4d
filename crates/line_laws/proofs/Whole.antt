-- Changes that are well formed, and the bytes that edits write, leave each sector whole.
use Rattle.std.proofs.Common.{◌≡◌, inl, inr, ℕ, Bool, true, false, ◌==◌, if◌then◌else◌, List, [], ◌∷◌, length, map, ◌∙◌, ap}
use Rattle.std.specs.Prelude.{fold}
use Rattle.std.specs.List.{list_all}
use Rattle.std.proofs.lemmas.Bool.{and_parts}
use Rattle.std.proofs.lemmas.List.{length-map}
use Rattle.frang_base.specs.declared.change.Change.{Change}
use Rattle.frang_base.specs.declared.limits.TheConstants.{SECTOR_BYTES}
use Rattle.tree_definitions.specs.Numbers.{below}
use Rattle.sector_bytes.specs.Changes.{changed, is_change}
use Rattle.sector_bytes.specs.Sectors.{Sectors}
use Rattle.sector_bytes.proofs.ChangeLaws.{length-changed}
use Rattle.disk_definitions.proofs.Lists.{length_below}
use Rattle.disk_definitions.proofs.Readings.{and_l, and_r}
use Rattle.disk_definitions.specs.Edits.{Edit}
use Rattle.disk_definitions.specs.Edits.Edit.{SetInode, SetBit, SetUse, SetPlace, SetLarge, SetBytes, SetLargeBytes}
use Rattle.disk_definitions.specs.OnDisk.{MakeARecord}
use Rattle.disk_definitions.specs.Written.{edit_sector, byte_writes, with_change, with_bytes, laid_over}

abbrev pub AreWhole : Sectors → Type 0
AreWhole sectors = (sector : ℕ) → length (sectors sector) ≡ SECTOR_BYTES

either_whole : (b : Bool) (xs ys : List ℕ) → length xs ≡ SECTOR_BYTES → length ys ≡ SECTOR_BYTES → length (if b then xs else ys) ≡ SECTOR_BYTES
either_whole true xs ys l m = l
either_whole false xs ys l m = m

changes_whole : (changes : List Change) (sectors : Sectors) → list_all is_change changes ≡ true → AreWhole sectors → AreWhole (fold with_change sectors changes)
changes_whole [] sectors fit whole = whole
changes_whole (c ∷ changes) sectors fit whole =
    let parts = and_parts (is_change c) (list_all is_change changes) fit in
    changes_whole changes (with_change sectors c) parts.1
    (λ s. either_whole (s == c.sector.0) (changed (sectors s) c) (sectors s) (length-changed (sectors s) c (whole s) parts.0) (whole s))

-- a sector of bytes written
one_whole : (sectors : Sectors) (number : ℕ) (bytes : ℕ → ℕ) → AreWhole sectors → AreWhole (with_bytes sectors (number, map bytes (below SECTOR_BYTES)))
one_whole sectors number bytes whole s =
    either_whole (s == number) (map bytes (below SECTOR_BYTES)) (sectors s) (length-map (below SECTOR_BYTES) bytes ∙ length_below SECTOR_BYTES) (whole s)

bytes_whole : (edits : List Edit) (sectors : Sectors) → AreWhole sectors → AreWhole (fold with_bytes sectors (byte_writes edits))
bytes_whole [] sectors whole = whole
bytes_whole (SetInode i x dated ∷ edits) sectors whole = bytes_whole edits sectors whole
bytes_whole (SetBit i b ∷ edits) sectors whole = bytes_whole edits sectors whole
bytes_whole (SetUse k u ∷ edits) sectors whole = bytes_whole edits sectors whole
bytes_whole (SetPlace k p x ∷ edits) sectors whole = bytes_whole edits sectors whole
bytes_whole (SetLarge g b ∷ edits) sectors whole = bytes_whole edits sectors whole
bytes_whole (SetBytes k part bytes ∷ edits) sectors whole =
    let n = edit_sector (SetBytes k part bytes) in
    bytes_whole edits (with_bytes sectors (n, map bytes (below SECTOR_BYTES))) (one_whole sectors n bytes whole)
bytes_whole (SetLargeBytes g part bytes ∷ edits) sectors whole =
    let n = edit_sector (SetLargeBytes g part bytes) in
    bytes_whole edits (with_bytes sectors (n, map bytes (below SECTOR_BYTES))) (one_whole sectors n bytes whole)

-- those of a record are well formed
of_record : (changes : List Change) → MakeARecord changes → list_all is_change changes ≡ true
of_record changes (inl none) = ap (list_all is_change) none
of_record changes (inr fits) = search (and_l, and_r) depth 8

pub stays_whole : (sectors : Sectors) (changes : List Change) (edits : List Edit) → MakeARecord changes → AreWhole sectors → AreWhole (laid_over sectors changes (byte_writes edits))
stays_whole sectors changes edits recorded whole = bytes_whole edits (fold with_change sectors changes) (changes_whole changes sectors (of_record changes recorded) whole)

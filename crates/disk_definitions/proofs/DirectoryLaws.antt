-- Sectors of directories: what was written reads back, and a block is at most one sector.
use Rattle.std.proofs.Common.{◌≡◌, ℕ, ◌^◌, ◌<◌, IsTrue, Some, List, [], ◌∷◌, ◌++◌, length, take, drop, refl, sym, ap, ◌∙◌, append_assoc, length-append, arith, ◌*◌}
use Rattle.std.proofs.lemmas.List.{take_at, drop_at}
use Rattle.std.specs.List.{flat_map}
use Rattle.byteorder.specs.Numbers.{little_number-reads_back}
use Rattle.disk_definitions.specs.declared.directory.DirEntry.{DirEntry}
use Rattle.disk_definitions.specs.declared.directory.DirSector.{DirSector}
use Rattle.disk_definitions.specs.Directories.{entry_bytes, entry_fields, entries_in, directory_bytes, directory_fits, directory_fields, directory_in, IsDirectorySector}
use Rattle.disk_definitions.proofs.Readings.{read_back, read_is}

-- the numbers of an entry fit their fields, and the name has its length
pub record IsStorableEntry (e : DirEntry) : Type 0 where
  pub inode : e.inode < 256 ^ 4
  pub name : length e.name ≡ 64

-- so it is of each entry
abbrev pub AreStorable : List DirEntry → Type 0
AreStorable [] = Unit {0}
AreStorable (e ∷ es) = IsStorableEntry e × AreStorable es

-- entries with the same fields are one
same_entry : {i l k : ℕ} {n : List ℕ} (e : DirEntry) → i ≡ e.inode → l ≡ e.len → k ≡ e.kind → n ≡ e.name
    → record { inode = i; len = l; kind = k; name = n } ≡ e
same_entry e inode len kind name = rw (inode, len, kind, name) refl

-- sectors with the same fields are one
same_sector : {v : ℕ} {es : List DirEntry} (x : DirSector) → v ≡ x.version → es ≡ x.entries → record { version = v; entries = es } ≡ x
same_sector x version entries = rw (version, entries) refl

-- the fields of an entry, and what stands after it
fields_of_entry : (e : DirEntry) (rest : List ℕ) → IsStorableEntry e → entry_fields (entry_bytes e ++ rest) ≡ e
fields_of_entry e rest h =
    same_entry e
    (little_number-reads_back 4 e.inode (e.len ∷ e.kind ∷ ((e.name ++ 0 ∷ 0 ∷ []) ++ rest)) h.inode)
    refl
    refl
    (ap (take 64) (append_assoc e.name (0 ∷ 0 ∷ []) rest) ∙ take_at e.name (0 ∷ 0 ∷ rest) 64 h.name)

pub length_of_entry : (e : DirEntry) → IsStorableEntry e → length (entry_bytes e) ≡ 72
length_of_entry e h = omega (arith, length-append e.name (0 ∷ 0 ∷ []), h.name)

-- the entries of their bytes
entries_back : (es : List DirEntry) → AreStorable es → entries_in (length es) (flat_map entry_bytes es) ≡ es
entries_back [] h = refl
entries_back (e ∷ es) h =
    let rest = flat_map entry_bytes es in
    let head = fields_of_entry e rest h.0 in
    let tail : drop 72 (entry_bytes e ++ rest) ≡ rest = drop_at (entry_bytes e) rest 72 (length_of_entry e h.0) in
    ap (λ (x : DirEntry). x ∷ entries_in (length es) (drop 72 (entry_bytes e ++ rest))) head
    ∙ ap (λ (xs : List DirEntry). e ∷ xs) (ap (entries_in (length es)) tail ∙ entries_back es h.1)

-- the numbers of a sector fit their fields, and it has seven entries
pub record IsStorableSector (x : DirSector) : Type 0 where
  pub version : x.version < 256 ^ 8
  pub seven : length x.entries ≡ 7
  pub entries : AreStorable x.entries

-- the fields of its bytes
pub fields_of_directory_bytes : (x : DirSector) → IsStorableSector x → directory_fields (directory_bytes x) ≡ x
fields_of_directory_bytes x h =
    let bytes = flat_map entry_bytes x.entries in
    same_sector x
    (little_number-reads_back 8 x.version bytes h.version)
    (ap (λ (n : ℕ). entries_in n bytes) (sym h.seven) ∙ entries_back x.entries h.entries)

-- what was written reads back
pub directory_back : (x : DirSector) → IsStorableSector x → IsTrue (directory_fits x) → directory_in (directory_bytes x) ≡ Some x
directory_back x h fits = read_back directory_bytes directory_fits (directory_fields (directory_bytes x)) x (fields_of_directory_bytes x h) fits

-- what a block is read as, it is the sector of
pub directory_read : (block : List ℕ) (x : DirSector) → directory_in block ≡ Some x → IsDirectorySector block x
directory_read block x = read_is directory_bytes directory_fits block (directory_fields block) x

-- what a block is the sector of, it is read as
pub directory_found : (block : List ℕ) (x : DirSector) → IsStorableSector x → IsDirectorySector block x → directory_in block ≡ Some x
directory_found block x s h = ap directory_in h.0 ∙ directory_back x s h.1

-- a block is at most one sector
pub directory_once : (block : List ℕ) (x y : DirSector) → IsStorableSector x → IsStorableSector y → IsDirectorySector block x → IsDirectorySector block y → x ≡ y
directory_once block x y s t h g =
    let e : Some x ≡ Some y = sym (directory_found block x s h) ∙ directory_found block y t g in cc

pub length_entries : (es : List DirEntry) → AreStorable es → length (flat_map entry_bytes es) ≡ 72 * length es
length_entries [] h = refl
length_entries (e ∷ es) h =
    let name : length e.name ≡ 64 = h.0.name in
    let one : length (entry_bytes e) ≡ 72 = omega (arith, length-append e.name (0 ∷ 0 ∷ [])) in
    length-append (entry_bytes e) (flat_map entry_bytes es) ∙ omega (arith, length_entries es h.1)

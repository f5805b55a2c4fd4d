-- The version stands first, and then the entries.
use Rattle.std.proofs.Common.{◌≡◌, ℕ, List, drop, refl, ap, ◌∙◌, arith}
use Rattle.std.proofs.lemmas.Slice.{between_to_end}
use Rattle.disk_definitions.specs.declared.directory.DirEntry.{DirEntry}
use Rattle.sector_bytes.specs.Bytes.{number_at}
use Rattle.disk_definitions.specs.Directories.{directory_fields, entries_in}
use Rattle.dir_block.proofs.reading.fields.Goals as goal

same_fields : {v : ℕ} {es : List DirEntry} (block : List ℕ) → v ≡ number_at 8 0 block → es ≡ entries_in 7 (drop 8 block)
    → record { version = v; entries = es } ≡ directory_fields block
same_fields block version entries = rw (version, entries) refl

pub returns : goal.returns
returns c =
    let b = c.args.from.now in
    same_fields b c.read_u64.ensures (c.entries.ensures ∙ ap (entries_in 7) (between_to_end b 8 512 (omega arith)))

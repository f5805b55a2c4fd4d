-- How long a well-formed change may be, and the body of at most 32.
use Rattle.std.proofs.Common.{◌≡◌, ℕ, ◌+◌, ◌*◌, ◌<◌, ◌≤◌, ◌^◌, true, ◌&&◌, nat_lt, List, [], ◌∷◌, ◌++◌, length, arith, length-append}
use Rattle.std.proofs.lemmas.Bool.{and_parts}
use Rattle.std.specs.List.{flat_map, list_all}
use Rattle.byteorder.specs.Endian.{little_bytes}
use Rattle.frang_base.specs.declared.change.Patch.{Patch}
use Rattle.frang_base.specs.declared.change.Change.{Change}
use Rattle.sector_bytes.specs.Changes.{are_patches, is_change}
use Rattle.disk_definitions.specs.Records.{change_bytes, patch_bytes, record_bytes}
use Rattle.log_record.proofs.RecordBack.{leads}

short_patches : (from : ℕ) (ps : List Patch) → from ≤ 512 → are_patches from ps ≡ true → length (flat_map patch_bytes ps) + 5 * from ≤ 2560
short_patches from [] h e = omega arith
short_patches from (p ∷ ps) h e =
    let l = leads from p ps e in
    let rest = short_patches (p.at + length p.bytes) ps l.ends l.others in
    let own : length (patch_bytes p) ≡ 4 + length p.bytes = length-append (little_bytes 2 p.at ++ little_bytes 2 (length p.bytes)) p.bytes in
    omega (arith, l.from_on, l.some, rest, own, length-append (patch_bytes p) (flat_map patch_bytes ps))

short_change : (c : Change) → is_change c ≡ true → length (change_bytes c) ≤ 4096
short_change c e =
    let p = and_parts (nat_lt c.sector.0 (2 ^ 55) && nat_lt c.version (2 ^ 64) && nat_lt 0 (length c.patches)) (are_patches 8 c.patches) e in
    let patches = short_patches 8 c.patches (omega arith) p.1 in
    let head = little_bytes 8 c.sector.0 ++ little_bytes 8 c.version ++ little_bytes 2 (length c.patches) in
    let own : length (change_bytes c) ≡ 18 + length (flat_map patch_bytes c.patches) = length-append head (flat_map patch_bytes c.patches) in
    omega (arith, patches, own)

short_changes : (cs : List Change) → list_all is_change cs ≡ true → length (flat_map change_bytes cs) ≤ 4096 * length cs
short_changes [] e = omega arith
short_changes (c ∷ cs) e =
    let p = and_parts (is_change c) (list_all is_change cs) e in
    omega (arith, short_change c p.0, short_changes cs p.1, length-append (change_bytes c) (flat_map change_bytes cs))

pub short_body : (cs : List Change) → length cs ≤ 32 → list_all is_change cs ≡ true → length (record_bytes cs) < 2 ^ 18
short_body cs few each =
    let own : length (record_bytes cs) ≡ 2 + length (flat_map change_bytes cs) = length-append (little_bytes 2 (length cs)) (flat_map change_bytes cs) in
    omega (arith, short_changes cs each, few, own)

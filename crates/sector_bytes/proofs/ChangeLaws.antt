-- What a well-formed change makes of a block, and that applying it twice is applying it once.
use Rattle.std.proofs.Common.{ℕ, zero, suc, ◌+◌, ◌*◌, ◌/◌, ◌%◌, ◌<◌, ◌≤◌, ◌^◌, ◌≡◌, ◌&&◌, Bool, true, false, if◌then◌else◌, List, [], ◌∷◌, ◌++◌, length, take, drop, nat_lt, nat_le, rules, refl, sym, ◌∙◌, ap, subst, arith, length-append, length-drop}
use Rattle.std.proofs.lemmas.List.{length-take}
use Rattle.byteorder.specs.Endian.{little_number}
use Rattle.byteorder.specs.Numbers.{little_from-cons}
use Rattle.std.specs.Int.{w64, to_le_bytes}
use Rattle.std.proofs.lemmas.Bool.{and_parts, leb-true, ltb-true}
use Rattle.std.proofs.lemmas.Bool.Decides.{nat_tests}
use Rattle.frang_base.specs.declared.change.Patch.{Patch}
use Rattle.frang_base.specs.declared.change.Change.{Change}
use Rattle.sector_bytes.specs.Blocks.{Block, overwritten, patched, spelling, version_of}
use Rattle.sector_bytes.specs.Changes.{Fit, changed, is_older, applied, are_patches, is_change}

-- ---- well-formed changes

-- what a list of patches that ascend from a place on says of its first one
pub record IsFirstPatch (from : ℕ) (patch : Patch) (patches : List Patch) : Type 0 where
  pub after : from ≤ patch.at
  pub some : 0 < length patch.bytes
  pub inside : patch.at + length patch.bytes ≤ 512
  pub rest : are_patches (patch.at + length patch.bytes) patches ≡ true

pub first_patch : (from : ℕ) (patch : Patch) (patches : List Patch) → are_patches from (patch ∷ patches) ≡ true → IsFirstPatch from patch patches
first_patch from patch patches e =
    let end = patch.at + length patch.bytes in
    let a = and_parts (nat_le from patch.at && nat_lt 0 (length patch.bytes) && nat_le end 512) (are_patches end patches) e in
    let b = and_parts (nat_le from patch.at && nat_lt 0 (length patch.bytes)) (nat_le end 512) a.0 in
    let c = and_parts (nat_le from patch.at) (nat_lt 0 (length patch.bytes)) b.0 in
    record { after = leb-true _ _ c.0; some = ltb-true _ _ c.1; inside = leb-true _ _ b.1; rest = a.1 }

pub fit_from : (from : ℕ) (patches : List Patch) → 8 ≤ from → are_patches from patches ≡ true → Fit patches
fit_from from [] le e = tt
fit_from from (patch ∷ patches) le e =
    let first = first_patch from patch patches e in
    (omega (arith, first.after), first.inside, fit_from (patch.at + length patch.bytes) patches (omega (arith, first.after)) first.rest)

-- what a well-formed change is
pub record IsWellFormed (change : Change) : Type 0 where
  pub sector : change.sector.0 < 2 ^ 55
  pub version : change.version < 2 ^ 64
  pub some : 0 < length change.patches
  pub patches : are_patches 8 change.patches ≡ true
  pub fit : Fit change.patches

pub well_formed : (change : Change) → is_change change ≡ true → IsWellFormed change
well_formed change e =
    let sector = nat_lt change.sector.0 (2 ^ 55) in
    let version = nat_lt change.version (2 ^ 64) in
    let some = nat_lt 0 (length change.patches) in
    let a = and_parts (sector && version && some) (are_patches 8 change.patches) e in
    let b = and_parts (sector && version) some a.0 in
    let c = and_parts sector version b.0 in
    record { sector = ltb-true _ _ c.0; version = ltb-true _ _ c.1; some = ltb-true _ _ b.1; patches = a.1; fit = fit_from 8 change.patches (omega arith) a.1 }

-- ---- a changed block

length_overwritten : (block : Block) (at : ℕ) (bytes : List ℕ) → length block ≡ 512 → at + length bytes ≤ 512 → length (overwritten block at bytes) ≡ 512
length_overwritten block at bytes e le = grind (arith, length-append, length-take, length-drop)

length_patched : (ps : List Patch) (block : Block) → length block ≡ 512 → Fit ps → length (patched ps block) ≡ 512
length_patched [] block e f = e
length_patched (p ∷ ps) block e f = length_patched ps (overwritten block p.at p.bytes) (length_overwritten block p.at p.bytes e f.1) f.2

eight : (xs : List ℕ) → length xs ≡ 504 → suc (suc (suc (suc (suc (suc (suc (suc (length xs)))))))) ≡ 512
eight xs e = omega arith

pub length-fit : (block : Block) (change : Change) → length block ≡ 512 → Fit change.patches → length (changed block change) ≡ 512
unfolding changed
length-fit block change long fit =
    let p : length (patched change.patches block) ≡ 512 = length_patched change.patches block long fit in
    let d : length (drop 8 (patched change.patches block)) ≡ 504 = grind (arith, length-drop) in
    eight (drop 8 (patched change.patches block)) d

pub length-changed : (block : Block) (change : Change) → length block ≡ 512 → is_change change ≡ true → length (changed block change) ≡ 512
length-changed block change long e = length-fit block change long (well_formed change e).fit

low_byte : (n : ℕ) → n % 256 + 256 * (n / 256) ≡ n
low_byte n = omega arith

read_spelling : (k n : ℕ) (rest : List ℕ) → little_number (suc k) (spelling k n ++ rest) ≡ n
read_spelling zero n rest = omega arith
read_spelling (suc k) n rest =
    ap (λ r. n % 256 + 256 * r) (little_from-cons 0 (suc k) (n % 256) (spelling k (n / 256) ++ rest) ∙ read_spelling k (n / 256) rest) ∙ low_byte n

pub version-changed : (block : Block) (change : Change) → version_of (changed block change) ≡ change.version
unfolding changed
version-changed block change = read_spelling 7 change.version (drop 8 (patched change.patches block))

pub head-changed : (block : Block) (change : Change) → take 8 (changed block change) ≡ spelling 7 change.version
unfolding changed
head-changed block change = refl

pub spelling_is : (v : ℕ) → v < 2 ^ 64 → spelling 7 v ≡ to_le_bytes w64 v
spelling_is v small = search rules

-- ---- a change applied

older : (block : Block) (change : Change) → is_older block change ≡ true → applied block change ≡ changed block change
older block change e = ap (λ b. if b then changed block change else block) e

newer : (block : Block) (change : Change) → is_older block change ≡ false → applied block change ≡ block
newer block change e = ap (λ b. if b then changed block change else block) e

not_older : (block : Block) (change : Change) → change.version ≤ version_of block → is_older block change ≡ false
not_older block change e = grind (arith, nat_tests)

pub reached : (block : Block) (change : Change) → change.version ≤ version_of (applied block change)
reached block change = go (is_older block change) refl
  where
    go : (b : Bool) → is_older block change ≡ b → change.version ≤ version_of (applied block change)
    go true e = subst (λ x. change.version ≤ version_of x) (sym (older block change e)) (omega (arith, version-changed block change))
    go false e = subst (λ x. change.version ≤ version_of x) (sym (newer block change e)) (grind (arith, nat_tests))

pub rises : (block : Block) (change : Change) → version_of block ≤ version_of (applied block change)
rises block change = go (is_older block change) refl
  where
    go : (b : Bool) → is_older block change ≡ b → version_of block ≤ version_of (applied block change)
    go true e = let low : version_of block < change.version = ltb-true _ _ e in subst (λ x. version_of block ≤ version_of x) (sym (older block change e)) (omega (arith, version-changed block change))
    go false e = subst (λ x. version_of block ≤ version_of x) (sym (newer block change e)) (omega arith)

pub applied-applied : (block : Block) (change : Change) → applied (applied block change) change ≡ applied block change
applied-applied block change = newer (applied block change) change (not_older (applied block change) change (reached block change))

-- What may stand in a log reads back from its bytes: patches, changes, records.
use Rattle.std.proofs.Common.{◌≡◌, ℕ, suc, ◌+◌, ◌^◌, ◌<◌, ◌≤◌, true, ◌&&◌, if◌then◌else◌, nat_le, nat_lt, Option, Some, None, List, [], ◌∷◌, ◌++◌, length, refl, sym, ap, ◌∙◌, append_assoc, append-nil, arith}
use Rattle.std.proofs.lemmas.Bool.{and_parts, leb-true}
use Rattle.std.proofs.lemmas.Bool.Decides.{nat_tests}
use Rattle.std.specs.List.{AllByRecursion, list_all, flat_map}
use Rattle.std.specs.Option.{option_and_then, option_map}
use Rattle.byteorder.specs.Endian.{little_bytes}
use Rattle.frang_base.specs.declared.change.Patch.{Patch}
use Rattle.frang_base.specs.declared.change.Change.{Change}
use Rattle.sector_bytes.specs.Changes.{are_patches, is_change}
use Rattle.disk_definitions.specs.Records.{Read, all_read, change_bytes, change_read, patch_bytes, patch_read, record_bytes, record_fits, record_in, sectors_ascend}
use Rattle.log_record.proofs.NumbersRead.{number_back, bytes_back}

-- what goes on with a value that is there
pub goes_on : {A B : Type 0} (f : A → Option B) (o : Option A) (x : A) (r : Option B) → o ≡ Some x → f x ≡ r → option_and_then f o ≡ r
goes_on f o x r e g = ap (option_and_then f) e ∙ g

-- so many of a thing read back, where one does
pub all_back : {A : Type 0} (one : List ℕ → Read A) (write : A → List ℕ) (Fits : A → Type 0) → ((x : A) (rest : List ℕ) → Fits x → one (write x ++ rest) ≡ Some (x, rest))
    → (xs : List A) (rest : List ℕ) → AllByRecursion Fits xs → all_read one (length xs) (flat_map write xs ++ rest) ≡ Some (xs, rest)
all_back one write Fits back [] rest h = refl
all_back one write Fits back (x ∷ xs) rest h =
    let behind = flat_map write xs ++ rest in
    ap (all_read one (suc (length xs))) (append_assoc (write x) (flat_map write xs) rest)
    ∙ ap (option_and_then (λ y. option_map (λ ys. (y.0 ∷ ys.0, ys.1)) (all_read one (length xs) y.1))) (back x behind h.0)
    ∙ ap (option_map (λ ys. (x ∷ ys.0, ys.1))) (all_back one write Fits back xs rest h.1)

-- ---- patches

-- the numbers of a patch fit their fields
abbrev pub IsShort : Patch → Type 0
IsShort p = (p.at < 2 ^ 16) × (length p.bytes ≤ 512)

pub patch_back : (p : Patch) (rest : List ℕ) → IsShort p → patch_read (patch_bytes p ++ rest) ≡ Some (p, rest)
patch_back p rest h =
    let behind = p.bytes ++ rest in
    let at = number_back 2 p.at (little_bytes 2 (length p.bytes) ++ behind) (omega (arith, h.0)) in
    let count = number_back 2 (length p.bytes) behind (omega (arith, h.1)) in
    goes_on _ _ _ _ at (goes_on _ _ _ _ count (ap (option_map (λ b. (record { at = p.at; bytes = b.0 }, b.1))) (bytes_back p.bytes rest)))

-- the first of patches that ascend
pub record Leads (from : ℕ) (p : Patch) (ps : List Patch) : Type 0 where
  pub from_on : from ≤ p.at
  pub some : 0 < length p.bytes
  pub ends : p.at + length p.bytes ≤ 512
  pub others : are_patches (p.at + length p.bytes) ps ≡ true

pub leads : (from : ℕ) (p : Patch) (ps : List Patch) → are_patches from (p ∷ ps) ≡ true → Leads from p ps
leads from p ps e =
    let n = length p.bytes in
    let a = and_parts (nat_le from p.at && nat_lt 0 n && nat_le (p.at + n) 512) (are_patches (p.at + n) ps) e in
    let b = and_parts (nat_le from p.at && nat_lt 0 n) (nat_le (p.at + n) 512) a.0 in
    let c = and_parts (nat_le from p.at) (nat_lt 0 n) b.0 in
    record { from_on = leb-true _ _ c.0; some = grind (arith, nat_tests, c.1); ends = leb-true _ _ b.1; others = a.1 }

-- each is short, and there are few
pub short_patches : (from : ℕ) (ps : List Patch) → are_patches from ps ≡ true → AllByRecursion IsShort ps
short_patches from [] e = tt
short_patches from (p ∷ ps) e =
    let h = leads from p ps e in
    ((omega (arith, h.ends), omega (arith, h.ends)), short_patches (p.at + length p.bytes) ps h.others)

pub few_patches : (from : ℕ) (ps : List Patch) → from ≤ 512 → are_patches from ps ≡ true → from + length ps ≤ 512
few_patches from [] h e = omega arith
few_patches from (p ∷ ps) h e =
    let l = leads from p ps e in
    let others = few_patches (p.at + length p.bytes) ps l.ends l.others in
    omega (arith, l.from_on, l.some, others)

-- ---- changes

-- what a well-formed change's fields hold
pub record HasRoom (c : Change) : Type 0 where
  pub sector : c.sector.0 < 256 ^ 8
  pub version : c.version < 256 ^ 8
  pub count : length c.patches < 256 ^ 2
  pub patches : AllByRecursion IsShort c.patches

pub has_room : (c : Change) → is_change c ≡ true → HasRoom c
has_room c e =
    let sector = nat_lt c.sector.0 (2 ^ 55) in
    let version = nat_lt c.version (2 ^ 64) in
    let some = nat_lt 0 (length c.patches) in
    let p = and_parts (sector && version && some) (are_patches 8 c.patches) e in
    let q = and_parts (sector && version) some p.0 in
    let r = and_parts sector version q.0 in
    let few = few_patches 8 c.patches (omega arith) p.1 in
    record { sector = grind (arith, nat_tests, r.0); version = grind (arith, nat_tests, r.1); count = omega (arith, few); patches = short_patches 8 c.patches p.1 }

pub change_back : (c : Change) (rest : List ℕ) → is_change c ≡ true → change_read (change_bytes c ++ rest) ≡ Some (c, rest)
change_back c rest e =
    let h = has_room c e in
    let behind = flat_map patch_bytes c.patches ++ rest in
    let count = little_bytes 2 (length c.patches) in
    goes_on _ _ _ _ (number_back 8 c.sector.0 (little_bytes 8 c.version ++ (count ++ behind)) h.sector)
    (goes_on _ _ _ _ (number_back 8 c.version (count ++ behind) h.version)
    (goes_on _ _ _ _ (number_back 2 (length c.patches) behind h.count)
    (ap (option_map (λ ps. (record { sector = c.sector; version = c.version; patches = ps.0 }, ps.1))) (all_back patch_read patch_bytes IsShort patch_back c.patches rest h.patches))))

-- ---- records

pub all_of : (cs : List Change) → list_all is_change cs ≡ true → AllByRecursion (λ c. is_change c ≡ true) cs
all_of [] e = tt
all_of (c ∷ cs) e = let p = and_parts (is_change c) (list_all is_change cs) e in (p.0, all_of cs p.1)

-- what the test of a record asks for
pub record IsRecord (changes : List Change) : Type 0 where
  pub some : 1 ≤ length changes
  pub few : length changes ≤ 32
  pub each : list_all is_change changes ≡ true
  pub order : sectors_ascend 0 changes ≡ true
  pub short : length (record_bytes changes) ≤ 4096

pub is_record : (changes : List Change) → record_fits changes ≡ true → IsRecord changes
is_record changes e =
    let some = nat_le 1 (length changes) in
    let few = nat_le (length changes) 32 in
    let each = list_all is_change changes in
    let order = sectors_ascend 0 changes in
    let a = and_parts (some && few && each && order) (nat_le (length (record_bytes changes)) 4096) e in
    let b = and_parts (some && few && each) order a.0 in
    let c = and_parts (some && few) each b.0 in
    let d = and_parts some few c.0 in
    record { some = leb-true _ _ d.0; few = leb-true _ _ d.1; each = c.1; order = b.1; short = leb-true _ _ a.1 }

pub record_back : (changes : List Change) → record_fits changes ≡ true → record_in (record_bytes changes) ≡ Some changes
record_back changes e =
    let h = is_record changes e in
    let bytes = flat_map change_bytes changes in
    let read : all_read change_read (length changes) bytes ≡ Some (changes, []) =
    ap (all_read change_read (length changes)) (sym (append-nil bytes)) ∙ all_back change_read change_bytes (λ c. is_change c ≡ true) change_back changes [] (all_of changes h.each) in
    goes_on _ _ _ _ (number_back 2 (length changes) bytes (omega (arith, h.few)))
    (goes_on _ _ _ _ read (ap (λ b. if b then Some changes else None) e))

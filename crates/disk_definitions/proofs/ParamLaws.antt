-- Parameter sectors: what was written reads back, and a block is the sector of at most one value.
use Rattle.std.proofs.Common.{◌≡◌, ℕ, ◌^◌, ◌<◌, IsTrue, Some, List, ◌++◌, sym, ap, ◌∙◌, arith, ◌≤◌, true}
use Rattle.std.proofs.lemmas.Bool.{and_parts}
use Rattle.std.proofs.lemmas.Bool.Decides.{nat_tests}
use Rattle.byteorder.specs.Endian.{little_bytes}
use Rattle.byteorder.specs.Numbers.{little_number-reads_back}
use Rattle.disk_definitions.specs.declared.param.Param.{Param}
use Rattle.sector_bytes.specs.Bytes.{zeros}
use Rattle.disk_definitions.specs.Params.{param_bytes, param_fits, param_fields, param_in, IsParamSector}
use Rattle.disk_definitions.proofs.Readings.{read_back, read_is}

-- each number is below 2^32
ranges : (p : Param) → IsTrue (param_fits p) → (p.format < 256 ^ 4) × (p.segments < 256 ^ 4) × (p.run < 256 ^ 4)
ranges p h = grind (arith, nat_tests, and_parts)

abbrev param : ℕ → ℕ → ℕ → Param
param format segments run = record { format = format; segments = segments; run = run }

-- values with the same fields are one
same_param : (a b c x y z : ℕ) → a ≡ x → b ≡ y → c ≡ z → param a b c ≡ param x y z
same_param a b c x y z e f g = cc

-- the fields of its bytes
pub fields_of_param_bytes : (p : Param) → IsTrue (param_fits p) → param_fields (param_bytes p) ≡ p
fields_of_param_bytes p h =
    let r = ranges p h in
    same_param _ _ _ p.format p.segments p.run
    (little_number-reads_back 4 p.format (little_bytes 4 p.segments ++ little_bytes 4 p.run ++ zeros 492) r.0)
    (little_number-reads_back 4 p.segments (little_bytes 4 p.run ++ zeros 492) r.1)
    (little_number-reads_back 4 p.run (zeros 492) r.2)

-- what was written reads back
pub param_back : (p : Param) → IsTrue (param_fits p) → param_in (param_bytes p) ≡ Some p
param_back p h = read_back param_bytes param_fits (param_fields (param_bytes p)) p (fields_of_param_bytes p h) h

-- what a block is read as, it is the sector of
pub param_read : (block : List ℕ) (p : Param) → param_in block ≡ Some p → IsParamSector block p
param_read block p = read_is param_bytes param_fits block (param_fields block) p

-- what a block is the sector of, it is read as
pub param_found : (block : List ℕ) (p : Param) → IsParamSector block p → param_in block ≡ Some p
param_found block p h = ap param_in h.0 ∙ param_back p h.1

-- a block is the sector of at most one value
pub param_once : (block : List ℕ) (p q : Param) → IsParamSector block p → IsParamSector block q → p ≡ q
param_once block p q h g = let e : Some p ≡ Some q = sym (param_found block p h) ∙ param_found block q g in cc

-- a disk has at most 64 segments
few : (p : Param) → param_fits p ≡ true → p.segments ≤ 64
few p h = grind (arith, nat_tests)

pub few_segments : (block : List ℕ) (p : Param) → param_in block ≡ Some p → p.segments ≤ 64
few_segments block p e = few p (param_read block p e).1

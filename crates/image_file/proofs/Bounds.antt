-- No sector in a region has a number of 2^40, and so many sectors don't stand in an image.
use Rattle.std.proofs.Common.{◌≡◌, ℕ, ◌+◌, ◌-◌, ◌*◌, ◌/◌, ◌%◌, ◌^◌, ◌<◌, ◌≤◌, true, ◌&&◌, nat_lt, nat_le, nat_eq, IsTrue, Option, Some, None, List, arith}
use Rattle.std.proofs.lemmas.Bool.{and_parts, ltb-true, leb-true, eqb-true}
use Rattle.std.proofs.lemmas.Bool.Decides.{nat_tests}
use Rattle.frang_base.proofs.Basics.{by_test}
use Rattle.disk_definitions.specs.declared.param.Param.{Param}
use Rattle.disk_definitions.specs.declared.region.Region.{Region}
use Rattle.disk_definitions.specs.declared.region.Region.TheVariants as region
use Rattle.disk_definitions.specs.Params.{param_in, param_fits}
use Rattle.disk_definitions.specs.Regions.{logs_from, bitmaps_from, inodes_from, small_blocks_from, large_blocks_from, log_stride, large_stride, is_among, large_at, region_of}
use Rattle.image_file.specs.Entries.{HasSegments}
use Rattle.disk_definitions.proofs.ParamLaws.{param_read}

-- a sector among so many ends before what follows them
among_ends : (first count s : ℕ) → is_among first count s ≡ true → s < first + count
among_ends first count s t = ltb-true s (first + count) ((and_parts (nat_le first s) (nat_lt s (first + count)) t).1)

large_ends : (segments n : ℕ) (r : Region) → segments ≤ 64 → large_at segments n ≡ Some r → n < 2 ^ 38
large_ends segments n r few =
    by_test (λ (o : Option Region). o ≡ Some r → n < 2 ^ 38) (Some (region.Large (n / large_stride) (n % large_stride))) None
    (nat_lt (n / large_stride) segments && nat_lt (n % large_stride) 2048)
    (λ t e. let block : n / 2147483648 < segments = ltb-true (n / large_stride) segments ((and_parts (nat_lt (n / large_stride) segments) _ t).0) in omega arith)
    (λ t e. cc)

abbrev Small : ℕ → Region → Option Region → Type 0
Small s r o = o ≡ Some r → s < 2 ^ 40

pub region_ends : (segments s : ℕ) (r : Region) → segments ≤ 64 → region_of segments s ≡ Some r → s < 2 ^ 40
region_ends segments s r few =
    by_test (Small s r) _ _ (nat_eq s 0) (λ t e. let z = eqb-true s 0 t in omega arith)
    (λ t0. by_test (Small s r) _ _ (is_among logs_from (256 * log_stride) s) (λ t e. let l = among_ends logs_from (256 * log_stride) s t in omega arith)
    (λ t1. by_test (Small s r) _ _ (is_among bitmaps_from segments s) (λ t e. let l = among_ends bitmaps_from segments s t in omega arith)
    (λ t2. by_test (Small s r) _ _ (is_among inodes_from (64 * segments) s) (λ t e. let l = among_ends inodes_from (64 * segments) s t in omega arith)
    (λ t3. by_test (Small s r) _ _ (is_among small_blocks_from (8192 * segments) s) (λ t e. let l = among_ends small_blocks_from (8192 * segments) s t in omega arith)
    (λ t4. by_test (Small s r) _ _ (nat_le large_blocks_from s) (λ t e. let l = large_ends segments (s - large_blocks_from) r few e in let h = leb-true large_blocks_from s t in omega arith)
    (λ t5 e. cc))))))

pub has_segments : (block : List ℕ) (p : Param) → param_in block ≡ Some p → HasSegments p.segments
has_segments block p e =
    let fits : IsTrue (param_fits p) = (param_read block p e).1 in
    (grind (arith, nat_tests, and_parts), grind (arith, nat_tests, and_parts))

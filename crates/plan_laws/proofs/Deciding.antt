-- What is at hand of the sectors that a computation looks at decides what it comes to.
use Rattle.std.proofs.Common.{refl}
use Rattle.disk_definitions.specs.Ask.{InodeAt, DirectoryAt, BytesAt, LargeAt, Got, ReadInode, ReadDirectory, ReadSegment, ReadBytes, ReadLarge, seven, part_of, run, looks, meet}
use Rattle.disk_definitions.specs.Missing.{first_missing}
use Rattle.plan_laws.proofs.Asking.{step, held}
use Rattle.plan_laws.specs.Inside.{MeetsWhereItLooks}

pub meets_where : {A : Type 0} → MeetsWhereItLooks A
meets_where (Got a) c s of = refl
meets_where (ReadInode i next) c s of =
    step (InodeAt i) (c.inode i) (s.inode i) (λ x. meet (next x) c) (first_missing c (looks (next (s.inode i)) s)) (run (next (s.inode i)) s) of.0 (meets_where (next (s.inode i)) c s of.1)
meets_where (ReadDirectory k part next) c s of =
    let v = seven s.place k part in
    step (DirectoryAt k part) (c.directory k part) v (λ x. meet (next x) c) (first_missing c (looks (next v) s)) (run (next v) s) of.0 (meets_where (next v) c s of.1)
meets_where (ReadSegment k next) c s of = held k (c.segment k) (meet next c) (first_missing c (looks next s)) (run next s) (meets_where next c s of.1)
meets_where (ReadBytes k part next) c s of =
    let v = part_of s.byte k part in
    step (BytesAt k part) (c.bytes k part) v (λ x. meet (next x) c) (first_missing c (looks (next v) s)) (run (next v) s) of.0 (meets_where (next v) c s of.1)
meets_where (ReadLarge g part next) c s of =
    let v = part_of s.large_byte g part in
    step (LargeAt g part) (c.large g part) v (λ x. meet (next x) c) (first_missing c (looks (next v) s)) (run (next v) s) of.0 (meets_where (next v) c s of.1)

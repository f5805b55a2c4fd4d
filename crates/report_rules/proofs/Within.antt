-- An inode of a kind lies within the segments.
use Rattle.std.proofs.Common.{◌≡◌, ℕ, ◌*◌, ◌<◌, ⊎_elim, true, Option, List, ap}
use Rattle.std.proofs.lemmas.Bool.{cases_lt, both_ways}
use Rattle.sector_bytes.specs.Sectors.{sectors_of}
use Rattle.disk_definitions.specs.Store.{StoredNode, store_of}
use Rattle.standing_laws.specs.Soundness.{has_kind}
use Rattle.standing_laws.proofs.SoundStanding.{disk_range}
use Rattle.disk_reading.specs.Seen.{store_in}

pub kind_within : (segments : ℕ) (disk : List (ℕ × List ℕ)) (i kind : ℕ) → has_kind ((store_in segments disk).inode i) kind ≡ true → i < 64 * segments
unfolding store_in
kind_within segments disk i kind h = ⊎_elim
    (λ l. l)
    (λ l. absurd (both_ways (has_kind ((store_of segments (sectors_of disk)).inode i) kind) (ap (λ (o : Option StoredNode). has_kind o kind) ((disk_range segments (sectors_of disk)).inodes i l)) h)) (cases_lt i (64 * segments))

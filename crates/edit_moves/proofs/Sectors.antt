-- The sectors of a thing stand one after another.
use Rattle.std.proofs.Common.{◌≡◌, ◌+◌, ℕ, Some, sym, ap, subst, ◌∙◌, arith}
use Rattle.disk_definitions.specs.declared.region.Region.TheVariants as region
use Rattle.disk_definitions.specs.Regions.{sector_of}
use Rattle.disk_definitions.specs.Ask.{Sector, InodeAt, DirectoryAt, SegmentAt, BytesAt, LargeAt, number_of}
use Rattle.edit_moves.specs.declared.thing.Thing.{Thing}
use Rattle.edit_moves.specs.declared.thing.Thing.TheVariants as thing
use Rattle.edit_moves.specs.Moves.{StartsAt, part_in, thing_of}

-- its first sector
abbrev pub first_of : Thing → ℕ
first_of (thing.Inode inode) = sector_of (region.Inode inode)
first_of (thing.Small block) = sector_of (region.Small block 0)
first_of (thing.Large block) = sector_of (region.Large block 0)

from_first : (sector : Sector) (own : Thing) → thing_of sector ≡ Some own → number_of sector ≡ first_of own + part_in sector
from_first (InodeAt i) own e = let h : thing.Inode i ≡ own = cc in subst (λ t. number_of (InodeAt i) ≡ first_of t + 0) h (omega arith)
from_first (DirectoryAt k part) own e = let h : thing.Small k ≡ own = cc in subst (λ t. number_of (DirectoryAt k part) ≡ first_of t + part) h (omega arith)
from_first (SegmentAt g) own e = absurd (cc)
from_first (BytesAt k part) own e = let h : thing.Small k ≡ own = cc in subst (λ t. number_of (BytesAt k part) ≡ first_of t + part) h (omega arith)
from_first (LargeAt g part) own e = let h : thing.Large g ≡ own = cc in subst (λ t. number_of (LargeAt g part) ≡ first_of t + part) h (omega arith)

pub in_turn : (own : Thing) (first : ℕ) → first ≡ first_of own → StartsAt own first
in_turn own first at sector e = from_first sector own e ∙ ap (λ n. n + part_in sector) (sym at)

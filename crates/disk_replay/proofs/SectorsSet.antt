-- The sectors of a disk of which one is set.
use Rattle.std.proofs.Common.{◌≡◌, ◌≢◌, ℕ, List, ap}
use Rattle.std.specs.BTreeMap.{insert_entry}
use Rattle.std.specs.Option.{unwrap_or}
use Rattle.std.specs.Ordering.{nat_cmp}
use Rattle.sector_bytes.specs.Bytes.{zeros}
use Rattle.tree_definitions.proofs.Pairs.{birth_exact, found_other, found_put}
use Rattle.sector_bytes.specs.Sectors.{sectors_of}

pub set_there : (es : List (ℕ × List ℕ)) (sector : ℕ) (block : List ℕ) → sectors_of (insert_entry nat_cmp es sector block) sector ≡ block
set_there es sector block = ap (λ o. unwrap_or o (zeros 512)) (found_put nat_cmp birth_exact es sector block)

pub set_elsewhere : (es : List (ℕ × List ℕ)) (sector : ℕ) (block : List ℕ) (other : ℕ) → other ≢ sector → sectors_of (insert_entry nat_cmp es sector block) other ≡ sectors_of es other
set_elsewhere es sector block other n = ap (λ o. unwrap_or o (zeros 512)) (found_other nat_cmp birth_exact es sector block other n)

-- A fresh disk is that of an opening; its first bitmap has a bit for the root.
use Rattle.std.proofs.Common.{◌≡◌, ◌<◌, ◌^◌, [], ◌∷◌, sym, ◌∙◌, ap, refl, arith, false, true}
use Rattle.std.proofs.lemmas.Bool.{false≢true}
use Rattle.std.specs.Str.{bytes_eq}
use Rattle.frang_base.specs.declared.limits.TheConstants.{RUN_VERSIONS_MAX, SECTOR_BYTES}
use Rattle.sector_bytes.specs.Bytes.{zeros}
use Rattle.disk_definitions.specs.Replay.{slots_of}
use Rattle.core_definitions.specs.Opening.{fresh_start}
use Rattle.tree_definitions.specs.History.{fresh_opening}
use Rattle.headline_definitions.specs.Beginning.{IsOpening}
use Rattle.opening_laws.specs.Starts.{FreshStartsAreOpenings}
use Rattle.core_openings.specs.Fresh.{BitmapsAreNoLogs, FreshDisksBeginRuns, SmallRunsBegin}
use Rattle.core_openings.specs.Openings.{OpeningsBeginRuns, OpeningsHaveZeroLogs}

pub fresh_begin : FreshStartsAreOpenings → OpeningsHaveZeroLogs → OpeningsBeginRuns → FreshDisksBeginRuns
fresh_begin openings logs begin bytes script segments journal when numbers read fits times few = record {
  is = is;
  zero = logs (fresh_opening segments) (fresh_start script segments).disk is;
  run = begin bytes script (fresh_opening segments) (fresh_start script segments).disk is journal when numbers read times few;
}
  where
    is : IsOpening (fresh_opening segments) (fresh_start script segments).disk
    is = openings script segments fits

pub small_begin : FreshDisksBeginRuns → SmallRunsBegin
small_begin fresh journal = fresh [] [] 1 journal (λ n. 0) (1 ∷ 2 ∷ []) refl refl (λ n. small) few
  where
    small : 0 < 2 ^ 64
    small = omega arith

    few : 3 < RUN_VERSIONS_MAX
    few = omega arith

-- its first byte is 1
other : bytes_eq (zeros SECTOR_BYTES) (slots_of (fresh_start [] 1).disk 256 0) ≡ false
unfolding zeros
other = refl

same : bytes_eq (zeros SECTOR_BYTES) (zeros SECTOR_BYTES) ≡ true
unfolding zeros
same = refl

pub no_log : BitmapsAreNoLogs
no_log e = false≢true (sym other ∙ ap (bytes_eq (zeros SECTOR_BYTES)) e ∙ same)

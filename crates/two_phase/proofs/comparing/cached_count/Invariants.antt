-- So many are cached, and of the sectors that are left those from the first on.
use Rattle.std.proofs.Common.{◌≡◌, ◌+◌, drop}
use Rattle.std.specs.List.{prefix_len}
use Rattle.lock_sets.specs.declared.seen.Seen.{Seen}
use Rattle.two_phase.specs.Rechecks.{is_cached}
use Rattle.two_phase.proofs.comparing.cached_count.Given as goal

abbrev pub invariant-loop-one : goal.invariant-loop-one
invariant-loop-one g l =
    let test = λ (one : Seen). is_cached (g.C.CachedBlocks.cached l.sectors) (one.sector.0, one.version) in record {
      count : l.count ≡ l.one-index;
      all : prefix_len test l.saw ≡ l.count + prefix_len test (drop l.one-index l.saw);
    }

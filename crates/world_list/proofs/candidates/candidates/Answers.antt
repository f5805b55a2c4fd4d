-- Who may issue none has no candidates.
use Rattle.std.proofs.Common.{sym, subst}
use Rattle.world_list.specs.Issuing.{AreCandidates}
use Rattle.world_list.specs.Wanting.{SectorSet}
use Rattle.world_list.proofs.WritesAmong.{none_wanted}
use Rattle.world_list.proofs.candidates.candidates.Goals as goal

pub returns-then-is_idle : goal.returns-then-is_idle
returns-then-is_idle c =
    subst (λ (sectors : SectorSet). AreCandidates c.args.world.now c.args.a.0 sectors) (sym c.new.ensures.entries)
    (none_wanted c.args.world.now c.args.a.0 (c.is_idle.ensures c.if-is_idle.true))

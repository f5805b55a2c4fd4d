-- The code's plan stands as the definitions' does.
use Rattle.std.proofs.Common.{◌≡◌, ℕ, Bool, Option, List, [], ◌∷◌, map, refl, sym, ap, subst}
use Rattle.std.specs.Option.{option_map}
use Rattle.sector_bytes.specs.Sectors.{Sectors}
use Rattle.disk_definitions.specs.Standing.{StandsFor}
use Rattle.tree_definitions.specs.Apply.{Applied}
use Rattle.disk_definitions.specs.Held.{Segments}
use Rattle.disk_definitions.specs.Ask.{Sector, Met, Needs, Has, meet, number_of}
use Rattle.disk_definitions.specs.Plans.{Plan, Lacks, Clears, Finishes}
use Rattle.disk_definitions.specs.PlanOf.{plan_of}
use Rattle.disk_definitions.specs.Written.{hand_of, Cached, at_hand, sectors_at_hand, changes_of, byte_writes, laid_over}
use Rattle.dir_lookup.specs.Reading.{numbered}
use Rattle.dir_lookup.specs.Planned.{planned, write_by}
use Rattle.disk_definitions.specs.OnDisk.{MetStands}
use Rattle.line_laws.proofs.Operations.{all_stand}
use Rattle.code_plan_laws.specs.CodeStands.{write_of, CodeStands, PlannedStands}

-- a write by number and back
back : (ws : List (ℕ × List ℕ)) → map write_of (map write_by ws) ≡ ws
back [] = refl
back (w ∷ ws) = ap (λ more. w ∷ more) (back ws)

by_met : (cached : Cached) (held : Segments) (all : Bool) (disk : Sectors) (a : Applied) (missing : Option Sector) (p : Met Plan) → MetStands cached held all disk a missing p → CodeStands cached held all disk a missing (planned cached held (numbered p))
by_met cached held all disk a missing (Needs sector) m = ap (option_map number_of) m
by_met cached held all disk a missing (Has Lacks) m = m
by_met cached held all disk a missing (Has (Clears k locks)) m = m
by_met cached held all disk a missing (Has (Finishes f)) m = (
  m.0,
  record {
    answer = m.1.answer;
    recorded = m.1.recorded;
    stands = subst (λ ws. StandsFor (laid_over disk (changes_of (sectors_at_hand cached held) f.edits) ws) a.tree) (sym (back (byte_writes f.edits))) m.1.stands;
  },
)

pub planned_stands : PlannedStands
planned_stands o birth when cached held all p small timely disk tree m allowed of below new count =
    by_met cached held all disk _ _ (meet (plan_of (hand_of cached held all) birth when o) (at_hand cached held)) (all_stand o p cached held all disk tree birth when m allowed of below new small timely count)

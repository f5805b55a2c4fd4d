-- How a line ends stands on the disk, as the definitions' line does.
use Rattle.std.proofs.Common.{◌≡◌, ◌<◌, ◌^◌, ℕ, Bool, Option, Some, Result, Ok, Err, IfOk, ap, ◌∙◌, subst}
use Rattle.std.specs.Option.{option_map}
use Rattle.frang_base.specs.declared.fault.NoMemory.{NoMemory}
use Rattle.frang_base.specs.declared.op.Op.{Op}
use Rattle.tree_definitions.specs.Apply.{Applied}
use Rattle.tree_definitions.specs.Perform.{perform}
use Rattle.sector_bytes.specs.Sectors.{Sectors}
use Rattle.disk_definitions.specs.Ask.{Met, Sector, meet, number_of}
use Rattle.disk_definitions.specs.Ask.Met.{Needs, Has}
use Rattle.disk_definitions.specs.Held.{Segments}
use Rattle.disk_definitions.specs.Lines.{plan_of_line}
use Rattle.disk_definitions.specs.OnDisk.{MetStands, PlanStands}
use Rattle.disk_definitions.specs.Plans.{Clears, Finish, Finishes, Lacks, Plan}
use Rattle.disk_definitions.specs.Written.{Cached, at_hand, hand_of}
use Rattle.dir_lookup.specs.Reading.{numbered, reading}
use Rattle.line_laws.proofs.OnDisk.{lines_stand}
use Rattle.plan_steps.specs.Edits.{edits_of}
use Rattle.line_plan.specs.declared.ending.LineEnd.{LineEnd}
use Rattle.line_plan.specs.declared.ending.LineEnd.TheVariants as ends
use Rattle.line_plan.specs.Disks.{EndStands, LineStands}
use Rattle.line_plan.specs.Ends.{Comes, Ends}

module _ (cached : Cached) (held : Segments) (all : Bool) (disk : Sectors) (applied : Applied) (missing : Option Sector) where
  end_stands : (m : Met Plan) → MetStands cached held all disk applied missing m → (end : LineEnd) → Ends (numbered m) end → EndStands cached held all disk applied missing end
  end_stands (Needs x) stands (ends.Need s) e = ap (option_map number_of) stands ∙ (let z : number_of x ≡ s.0 = cc in ap (λ (n : ℕ). Some n) z)
  end_stands (Needs x) stands ends.Segments e = absurd (cc)
  end_stands (Needs x) stands (ends.Clear k o) e = absurd (let z = e.1 in cc)
  end_stands (Needs x) stands (ends.Done outcome) e = absurd (let z = e.1 in cc)
  end_stands (Has p) stands (ends.Need s) e = absurd (cc)
  end_stands (Has p) stands ends.Segments e = let z : p ≡ Lacks = cc in (stands.0, subst (PlanStands cached held all disk applied) z stands.1)
  end_stands (Has p) stands (ends.Clear k o) e =
      let same = e.1 in
      let z : p ≡ Clears k e.0 = cc in (stands.0, subst (PlanStands cached held all disk applied) z stands.1)
  end_stands (Has p) stands (ends.Done outcome) e =
      let same = e.1 in
      let finish : Finish = record { reply = outcome.reply; edits = edits_of outcome.edits.items; locks = e.0 } in
      let z : p ≡ Finishes finish = cc in
      let f = subst (PlanStands cached held all disk applied) z stands.1 in
      (stands.0, record { answer = f.answer; recorded = f.recorded; stands = f.stands })

module _ (o : Op) (birth when : ℕ) (cached : Cached) (held : Segments) (all : Bool) (small : birth < 2 ^ 64) (timely : when < 2 ^ 64) where
  pub stands_if : (r : Result LineEnd NoMemory) → Comes (reading (plan_of_line (hand_of cached held all) birth when o) cached held) r → IfOk r (LineStands o birth when cached held all)
  stands_if (Ok end) e =
      λ disk tree ever allowed of below new count.
      end_stands cached held all disk (perform tree o birth when ever) _ (meet (plan_of_line (hand_of cached held all) birth when o) (at_hand cached held))
      (lines_stand o cached held all disk tree birth when ever allowed of below new small timely count) end e
  stands_if (Err fault) e = tt

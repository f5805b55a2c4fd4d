-- A walk's answer goes by where it leads.
use Rattle.std.proofs.Common.{◌≡◌, ℕ, List, refl, ap, ◌∙◌}
use Rattle.disk_definitions.specs.Walks.{Spot, AtRoot, AtName, AtGap, Lost, Walked, at_spot}
use Rattle.dir_lookup.specs.Reading.{Read, Lacks, Gives, then_read}
use Rattle.namei.specs.declared.walking.Step.{Step}
use Rattle.namei.specs.declared.walking.Step.TheVariants as step
use Rattle.namei.specs.Steps.{step_lost, step_at, step_of}

abbrev pub step_on : Read Spot → Step
step_on (Lacks sector) = step.Need (record { 0 = sector })
step_on (Gives s) = step_at s

at_any : (s : Spot) (dirs : List ℕ) → step_at s ≡ at_spot s dirs (λ r dirs. step_lost r) (λ t. step.At t.inode)
at_any AtRoot dirs = refl
at_any (AtName i x name q e) dirs = refl
at_any (AtGap i x name) dirs = refl
at_any (Lost r) dirs = refl

pub by_spot : (w : Read Walked) (r : Read Spot) → r ≡ then_read w (λ w. Gives w.spot) → step_on r ≡ step_of w
by_spot (Lacks s) r e = ap step_on e
by_spot (Gives w) r e = ap step_on e ∙ at_any w.spot w.dirs

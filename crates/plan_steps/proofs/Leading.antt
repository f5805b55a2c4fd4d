-- Each plan that walks a path goes by where the walk leads.
use Rattle.std.proofs.Common.{◌≡◌, ℕ, List, [], sym, ap, subst, ◌∙◌}
use Rattle.disk_definitions.specs.Held.{Segments}
use Rattle.disk_definitions.specs.Ask.{Ask, Got, bind}
use Rattle.disk_definitions.specs.Walks.{Spot, Walked, walk}
use Rattle.disk_definitions.specs.Plans.{Plan}
use Rattle.disk_definitions.specs.Written.{Cached}
use Rattle.dir_lookup.specs.declared.spot.Spot.{Spot as CodeSpot}
use Rattle.dir_lookup.specs.declared.spot.Spot.TheVariants as spot
use Rattle.dir_lookup.specs.Reading.{Read, Lacks, Gives, reading, then_read}
use Rattle.dir_lookup.specs.Spots.{spot_of}
use Rattle.dir_lookup.proofs.Readings.{reading_bind}
use Rattle.dir_lookup.proofs.Searches.{goes_on}
use Rattle.plan_steps.proofs.Targets.{led, lacking}
use Rattle.plan_steps.specs.Spots.{IsStanding}
use Rattle.plan_steps.proofs.Bounds.{Stands, walk_stands}

pub code_directory : (s : CodeSpot) → Stands (spot_of s) → IsStanding s
code_directory spot.AtRoot t = tt
code_directory (spot.AtName directory name found) t = (record { kind = t.0.kind; blocks = t.0.small.blocks; size = t.0.small.size }, t.1)
code_directory (spot.AtGap directory name) t = record { kind = t.kind; blocks = t.small.blocks; size = t.small.size }
code_directory (spot.Lost r) t = tt

module _ (path : List (List ℕ)) (cached : Cached) (held : Segments) where
  by_walk : (s : Read Spot) → s ≡ reading (bind (walk path) (λ w. Got w.spot)) cached held → s ≡ then_read (reading (walk path) cached held) (λ w. Gives w.spot)
  by_walk s e = e ∙ reading_bind (walk path) (λ w. Got w.spot) cached held

  on_from : (r : Read Walked) → reading (walk path) cached held ≡ r → (next : List ℕ → Spot → Ask Plan)
      → reading (bind (walk path) (λ w. next w.dirs w.spot)) cached held ≡ then_read r (λ w. reading (next w.dirs w.spot) cached held)
  on_from r e next = sym (goes_on (walk path) (λ w. next w.dirs w.spot) cached held r (sym e))

  pub walk_lacks : (n : ℕ) → Lacks n ≡ reading (bind (walk path) (λ w. Got w.spot)) cached held → (next : List ℕ → Spot → Ask Plan) → reading (bind (walk path) (λ w. next w.dirs w.spot)) cached held ≡ Lacks n
  walk_lacks n e next = on_from (Lacks n) (lacking (reading (walk path) cached held) n (by_walk (Lacks n) e)) next

  pub walk_leads : (s : Spot) → Gives s ≡ reading (bind (walk path) (λ w. Got w.spot)) cached held
      → (dirs : List ℕ) × ((next : List ℕ → Spot → Ask Plan) → reading (bind (walk path) (λ w. next w.dirs w.spot)) cached held ≡ reading (next dirs s) cached held)
  walk_leads s e =
      let l = led (reading (walk path) cached held) s (by_walk (Gives s) e) in
      (l.walked.dirs, λ next. on_from (Gives l.walked) l.is next ∙ ap (λ s. reading (next l.walked.dirs s) cached held) l.spot)

  pub spot_stands : (s : CodeSpot) → Gives (spot_of s) ≡ reading (bind (walk path) (λ w. Got w.spot)) cached held → IsStanding s
  spot_stands s e =
      let l = led (reading (walk path) cached held) (spot_of s) (by_walk (Gives (spot_of s)) e) in
      code_directory s (subst Stands l.spot (walk_stands cached held l.walked path [] 0 l.is))

-- Each plan of the node that a path names goes by where the walk leads.
use Rattle.std.proofs.Common.{◌≡◌, ℕ, Option, Ok, Err, List, [], refl, sym, ap, ◌∙◌}
use Rattle.frang_base.specs.declared.reply.Reply.{Reply}
use Rattle.frang_base.specs.declared.reply.Reply.TheVariants as reply
use Rattle.disk_definitions.specs.Store.{StoredNode}
use Rattle.disk_definitions.specs.Held.{Segments}
use Rattle.disk_definitions.specs.Ask.{Ask, Got, ReadInode, bind}
use Rattle.disk_definitions.specs.Walks.{Spot, AtRoot, AtName, AtGap, Lost, Walked, Target, at_spot, at_target, walk}
use Rattle.disk_definitions.specs.Plans.{Plan, refuse, refused}
use Rattle.disk_definitions.specs.LookPlans.{plan_of_node, with_inode}
use Rattle.disk_definitions.specs.Written.{Cached}
use Rattle.dir_lookup.specs.Reading.{Read, Lacks, Gives, reading, then_read}
use Rattle.dir_lookup.proofs.Readings.{reading_bind}
use Rattle.dir_lookup.proofs.Searches.{goes_on}
use Rattle.plan_steps.specs.Targets.{target_at}

-- ---- the walk of which the spot is known
pub record Led (r : Read Walked) (s : Spot) : Type 0 where
  pub walked : Walked
  pub is : r ≡ Gives walked
  pub spot : walked.spot ≡ s

pub led : (r : Read Walked) (s : Spot) → Gives s ≡ then_read r (λ w. Gives w.spot) → Led r s
led (Lacks n) s e = absurd (cc)
led (Gives w) s e = let h : s ≡ w.spot = cc in record { walked = w; is = refl; spot = sym h }

pub lacking : (r : Read Walked) (n : ℕ) → Lacks n ≡ then_read r (λ w. Gives w.spot) → r ≡ Lacks n
lacking (Lacks m) n e = let h : n ≡ m = cc in ap Lacks (sym h)
lacking (Gives w) n e = absurd (cc)

module _ (path : List (List ℕ)) (cached : Cached) (held : Segments) where
  by_walk : (s : Read Spot) → s ≡ reading (bind (walk path) (λ w. Got w.spot)) cached held → s ≡ then_read (reading (walk path) cached held) (λ w. Gives w.spot)
  by_walk s e = e ∙ reading_bind (walk path) (λ w. Got w.spot) cached held

  on_from : (r : Read Walked) → reading (walk path) cached held ≡ r → (next : Target → Ask Plan) → reading (plan_of_node path next) cached held ≡ then_read r (λ w. reading (at_target w refused next) cached held)
  on_from r e next = sym (goes_on (walk path) (λ w. at_target w refused next) cached held r (sym e))

  pub finds_lack : (n : ℕ) → Lacks n ≡ reading (bind (walk path) (λ w. Got w.spot)) cached held → (next : Target → Ask Plan) → reading (plan_of_node path next) cached held ≡ Lacks n
  finds_lack n e next = on_from (Lacks n) (lacking (reading (walk path) cached held) n (by_walk (Lacks n) e)) next

  pub at_node : (s : Spot) (u : Target) (dirs : List ℕ) (next : Target → Ask Plan) → Ok u ≡ target_at s → at_spot s dirs refused next ≡ next (record u { dirs = dirs })
  at_node AtRoot u dirs next e = let h : record { inode = 0; kind = 2; dirs = [] } ≡ u = cc in ap (λ (u : Target). next (record u { dirs = dirs })) h
  at_node (AtName i x name q d) u dirs next e = let h : record { inode = d.inode; kind = d.kind; dirs = [] } ≡ u = cc in ap (λ (u : Target). next (record u { dirs = dirs })) h
  at_node (AtGap i x name) u dirs next e = absurd (cc)
  at_node (Lost r) u dirs next e = absurd (cc)

  pub at_refusal : (s : Spot) (r : Reply) (dirs : List ℕ) (next : Target → Ask Plan) → Err r ≡ target_at s → at_spot s dirs refused next ≡ refused r dirs
  at_refusal AtRoot r dirs next e = absurd (cc)
  at_refusal (AtName i x name q d) r dirs next e = absurd (cc)
  at_refusal (AtGap i x name) r dirs next e = let h : reply.NoEnt ≡ r = cc in ap (λ (r : Reply). refused r dirs) h
  at_refusal (Lost l) r dirs next e = let h : l ≡ r = cc in ap (λ (r : Reply). refused r dirs) h

  pub finds_node : (s : Spot) (u : Target) → Gives s ≡ reading (bind (walk path) (λ w. Got w.spot)) cached held → Ok u ≡ target_at s
      → (dirs : List ℕ) × ((next : Target → Ask Plan) → reading (plan_of_node path next) cached held ≡ reading (next (record u { dirs = dirs })) cached held)
  finds_node s u e t =
      let l = led (reading (walk path) cached held) s (by_walk (Gives s) e) in (
        l.walked.dirs,
        λ next. on_from (Gives l.walked) l.is next
            ∙ ap (λ s. reading (at_spot s l.walked.dirs refused next) cached held) l.spot ∙ ap (λ p. reading p cached held) (at_node s u l.walked.dirs next t),
      )

  pub finds_refusal : (s : Spot) (r : Reply) → Gives s ≡ reading (bind (walk path) (λ w. Got w.spot)) cached held → Err r ≡ target_at s
      → (dirs : List ℕ) × ((next : Target → Ask Plan) → reading (plan_of_node path next) cached held ≡ Gives (refuse r dirs))
  finds_refusal s r e t =
      let l = led (reading (walk path) cached held) s (by_walk (Gives s) e) in (
        l.walked.dirs,
        λ next. on_from (Gives l.walked) l.is next
            ∙ ap (λ s. reading (at_spot s l.walked.dirs refused next) cached held) l.spot ∙ ap (λ p. reading p cached held) (at_refusal s r l.walked.dirs next t),
      )

-- the inode of a node
pub finds_inode : (i : ℕ) (cached : Cached) (held : Segments) (r : Read (Option StoredNode)) → r ≡ reading (ReadInode i Got) cached held → (next : List ℕ → StoredNode → Ask Plan) (touched : List ℕ)
    → reading (ReadInode i (with_inode next touched)) cached held ≡ then_read r (λ o. reading (with_inode next touched o) cached held)
finds_inode i cached held r e next touched = sym (goes_on (ReadInode i Got) (with_inode next touched) cached held r e)

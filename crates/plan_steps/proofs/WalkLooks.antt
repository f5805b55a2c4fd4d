-- Each plan that walks a path examines what the walk examines, and then goes on; so does each plan of a node, and each plan with an inode.
use Rattle.std.proofs.Common.{◌≡◌, ℕ, Bool, Option, Some, None, Result, Ok, Err, List, [], ◌++◌, append-nil, sym, ap, ◌∙◌}
use Rattle.frang_base.specs.declared.reply.Reply.{Reply}
use Rattle.disk_definitions.specs.Store.{StoredNode}
use Rattle.disk_definitions.specs.Held.{Segments}
use Rattle.disk_definitions.specs.Ask.{Ask, Got, ReadInode, bind}
use Rattle.disk_definitions.specs.Walks.{Spot, Target, at_spot, at_target, walk}
use Rattle.disk_definitions.specs.Plans.{Plan, refused}
use Rattle.disk_definitions.specs.LookPlans.{plan_of_node}
use Rattle.disk_definitions.specs.Written.{Cached}
use Rattle.dir_lookup.specs.declared.need.Need.{Need}
use Rattle.dir_lookup.specs.declared.spot.Spot.{Spot as CodeSpot}
use Rattle.dir_lookup.specs.Passing.{PassesFrom}
use Rattle.dir_lookup.specs.Reading.{Read, Lacks, Gives, reading, then_read}
use Rattle.dir_lookup.specs.Spots.{spot_of}
use Rattle.dir_lookup.proofs.Looking.{adds_as}
use Rattle.dir_lookup.proofs.Readings.{reading_bind}
use Rattle.disk_definitions.specs.LookedAt.{examined}
use Rattle.plan_steps.specs.Looking.{Looks, LooksPassing, LooksTo}
use Rattle.plan_steps.specs.Targets.{target_at}
use Rattle.plan_steps.proofs.Examining.{examined_end, examined_on}
use Rattle.plan_steps.proofs.Looking.{bind_end, bind_to}
use Rattle.plan_steps.proofs.Targets.{at_node, at_refusal, led, lacking}

module _ (path : List (List ℕ)) (cached : Cached) (held : Segments) (old new : Option (List ℕ)) (l : Looks cached held old new (walk path)) where
  by_walk : (s : Read Spot) → s ≡ reading (bind (walk path) (λ w. Got w.spot)) cached held → s ≡ then_read (reading (walk path) cached held) (λ w. Gives w.spot)
  by_walk s e = e ∙ reading_bind (walk path) (λ w. Got w.spot) cached held

  pub walk_looked : (n : ℕ) → Lacks n ≡ reading (bind (walk path) (λ w. Got w.spot)) cached held → (next : List ℕ → Spot → Ask Plan) → Looks cached held old new (bind (walk path) (λ w. next w.dirs w.spot))
  walk_looked n e next = bind_end cached held (walk path) (λ w. next w.dirs w.spot) n old new (sym (lacking (reading (walk path) cached held) n (by_walk (Lacks n) e))) l

  pub walk_looks : (s : Spot) → Gives s ≡ reading (bind (walk path) (λ w. Got w.spot)) cached held
      → (dirs : List ℕ) × ((next : List ℕ → Spot → Ask Plan) → LooksTo cached held old new (bind (walk path) (λ w. next w.dirs w.spot)) (next dirs s))
  walk_looks s e =
      let g = led (reading (walk path) cached held) s (by_walk (Gives s) e) in (
        g.walked.dirs,
        λ next. (
          examined (walk path) cached held,
          l,
          examined_on (walk path) (λ w. next w.dirs w.spot) cached held g.walked (sym g.is)
              ∙ ap (λ s. examined (walk path) cached held ++ examined (next g.walked.dirs s) cached held) g.spot,
        ),
      )

  -- ---- the node that it names
  pub node_missing : (n : ℕ) → Lacks n ≡ reading (bind (walk path) (λ w. Got w.spot)) cached held → (next : Target → Ask Plan) → Looks cached held old new (plan_of_node path next)
  node_missing n e next = bind_end cached held (walk path) (λ w. at_target w refused next) n old new (sym (lacking (reading (walk path) cached held) n (by_walk (Lacks n) e))) l

  pub node_looks : (s : Spot) (u : Target) → Gives s ≡ reading (bind (walk path) (λ w. Got w.spot)) cached held → Ok u ≡ target_at s
      → (dirs : List ℕ) × ((next : Target → Ask Plan) → LooksTo cached held old new (plan_of_node path next) (next (record u { dirs = dirs })))
  node_looks s u e t =
      let g = led (reading (walk path) cached held) s (by_walk (Gives s) e) in (
        g.walked.dirs,
        λ next. (
          examined (walk path) cached held,
          l,
          examined_on (walk path) (λ w. at_target w refused next) cached held g.walked (sym g.is)
              ∙ ap (λ s. examined (walk path) cached held ++ examined (at_spot s g.walked.dirs refused next) cached held) g.spot
              ∙ ap (λ p. examined (walk path) cached held ++ examined p cached held) (at_node path cached held s u g.walked.dirs next t),
        ),
      )

  pub node_refused : (s : Spot) (r : Reply) → Gives s ≡ reading (bind (walk path) (λ w. Got w.spot)) cached held → Err r ≡ target_at s → (next : Target → Ask Plan) → Looks cached held old new (plan_of_node path next)
  node_refused s r e t next =
      let g = led (reading (walk path) cached held) s (by_walk (Gives s) e) in
      adds_as old new (examined (walk path) cached held) (examined (plan_of_node path next) cached held)
      (sym (examined_on (walk path) (λ w. at_target w refused next) cached held g.walked (sym g.is)
      ∙ ap (λ s. examined (walk path) cached held ++ examined (at_spot s g.walked.dirs refused next) cached held) g.spot
      ∙ ap (λ p. examined (walk path) cached held ++ examined p cached held) (at_refusal path cached held s r g.walked.dirs next t)
      ∙ append-nil (examined (walk path) cached held))) l

  -- ---- the directories that it passed
  pub passing_looks : (inode : ℕ) (result : Result (CodeSpot × Bool) Need) → PassesFrom cached held 0 path inode [] result → LooksPassing cached held old new path inode result
  passing_looks inode (Ok p) f =
      (f.0, f.1, λ next. bind_to cached held (walk path) (λ w. next w.dirs w.spot) (record { spot = spot_of p.0; dirs = f.0 }) old new (sym f.2) l)
  passing_looks inode (Err need) f = λ next. bind_end cached held (walk path) (λ w. next w.dirs w.spot) need.0.0 old new (sym f) l

-- ---- the inode of a node
module _ (i : ℕ) (cached : Cached) (held : Segments) (old new : Option (List ℕ)) (l : Looks cached held old new (ReadInode i Got)) where
  pub inode_looks : (x : StoredNode) → Gives (Some x) ≡ reading (ReadInode i Got) cached held → (next : Option StoredNode → Ask Plan) → LooksTo cached held old new (ReadInode i next) (next (Some x))
  inode_looks x e next = (examined (ReadInode i Got) cached held, l, examined_on (ReadInode i Got) next cached held (Some x) e)

  pub inode_free : Gives None ≡ reading (ReadInode i Got) cached held → (next : Option StoredNode → Ask Plan) → examined (next None) cached held ≡ [] → Looks cached held old new (ReadInode i next)
  inode_free e next n =
      adds_as old new (examined (ReadInode i Got) cached held) (examined (ReadInode i next) cached held)
      (sym (examined_on (ReadInode i Got) next cached held None e ∙ ap (λ r. examined (ReadInode i Got) cached held ++ r) n ∙ append-nil (examined (ReadInode i Got) cached held))) l

  pub inode_needed : (s : ℕ) → Lacks s ≡ reading (ReadInode i Got) cached held → (next : Option StoredNode → Ask Plan) → Looks cached held old new (ReadInode i next)
  inode_needed s e next = adds_as old new (examined (ReadInode i Got) cached held) (examined (ReadInode i next) cached held) (sym (examined_end (ReadInode i Got) next cached held s e)) l

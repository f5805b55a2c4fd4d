-- How a plan ends, by what was read before.
use Rattle.std.proofs.Common.{◌≡◌, ℕ, Option, Some, None, Result, Ok, Err, List, [], refl, sym, ap, subst, ◌∙◌}
use Rattle.std.proofs.Math.Path.{fun_ext}
use Rattle.frang_base.specs.declared.reply.Reply.TheVariants as reply
use Rattle.frang_base.specs.declared.reply.Reply.{Reply}
use Rattle.disk_definitions.specs.declared.inode.Inode.{Inode}
use Rattle.disk_definitions.specs.Store.{StoredNode, stored}
use Rattle.disk_definitions.specs.Held.{Segments}
use Rattle.disk_definitions.specs.Ask.{Ask, ReadInode, bind}
use Rattle.disk_definitions.specs.Walks.{Spot, walk}
use Rattle.disk_definitions.specs.Plans.{Plan, Finish, Finishes, refuse, refused, shared_nodes}
use Rattle.disk_definitions.specs.LookPlans.{with_inode}
use Rattle.disk_definitions.specs.Written.{Cached}
use Rattle.dir_lookup.specs.Reading.{Read, Gives, reading}
use Rattle.plan_steps.specs.declared.edit.Outcome.{Outcome}
use Rattle.plan_steps.specs.declared.stop.Stop.{Stop}
use Rattle.plan_steps.specs.declared.stop.Stop.TheVariants as stop
use Rattle.plan_steps.specs.Edits.{edits_of}
use Rattle.plan_steps.specs.Ends.{Comes, Stops}
use Rattle.plan_steps.specs.Targets.{FindsInode}
use Rattle.plan_steps.proofs.Stopping.{inode_stops}
use Rattle.plan_steps.specs.Spots.{FindsSpot}

pub comes_as : (p q : Read Plan) (r : Result Outcome Stop) → p ≡ q → Comes q r → Comes p r
comes_as p q r e = subst (λ p. Comes p r) (sym e)

pub stops_as : (p q : Read Plan) (e : Stop) → p ≡ q → Stops q e → Stops p e
stops_as p q e h = subst (λ p. Stops p e) (sym h)

-- a plan that is refused
pub refuses : (p : Read Plan) (r : Reply) (dirs : List ℕ) → p ≡ Gives (refuse r dirs) → Comes p (Err (stop.Refused r))
refuses p r dirs e = (shared_nodes dirs, e)

-- a plan that is done so
pub comes_done : (p : Read Plan) (f : Finish) (o : Outcome) → p ≡ Gives (Finishes f) → o.reply ≡ f.reply → edits_of o.edits.items ≡ f.edits → Comes p (Ok o)
comes_done p f o e r d =
    (f.locks, e ∙ ap (λ y. Gives (Finishes (record { reply = y; edits = f.edits; locks = f.locks }))) (sym r) ∙ ap (λ y. Gives (Finishes (record { reply = o.reply; edits = y; locks = f.locks }))) (sym d))

-- a plan that only answers
pub answers : (p : Read Plan) (r : Reply) (dirs : List ℕ) (o : Outcome) → p ≡ Gives (refuse r dirs) → o.reply ≡ r → o.edits.items ≡ [] → Comes p (Ok o)
answers p r dirs o e h d = comes_done p (record { reply = r; edits = []; locks = shared_nodes dirs }) o e h (ap edits_of d)

-- the end of the walk is the end of the plan
pub spot_stops : (cached : Cached) (held : Segments) (path : List (List ℕ)) (next : List ℕ → Spot → Ask Plan) (e : Stop) → FindsSpot cached held path (Err e)
    → Stops (reading (bind (walk path) (λ w. next w.dirs w.spot)) cached held) e
spot_stops cached held path next (stop.Need s) f = f next
spot_stops cached held path next stop.Segments f = absurd f
spot_stops cached held path next (stop.Clear k) f = absurd f
spot_stops cached held path next (stop.Refused r) f = absurd f
spot_stops cached held path next stop.NoMemory f = absurd f

-- ---- the inode of a node
module _ (cached : Cached) (held : Segments) (i : ℕ) (dirs : List ℕ) (f : Option StoredNode → Ask Plan) (none : f None ≡ refused reply.NoEnt dirs) where
  by_inode : reading (ReadInode i f) cached held ≡ reading (ReadInode i (with_inode (λ touched x. f (Some x)) dirs)) cached held
  by_inode = ap (λ g. reading (ReadInode i g) cached held) (fun_ext (λ o. same o))
    where
      same : (o : Option StoredNode) → f o ≡ with_inode (λ touched x. f (Some x)) dirs o
      same None = none
      same (Some x) = refl

  pub node_read : (x : Inode) → FindsInode cached held i (Ok x) → reading (ReadInode i f) cached held ≡ reading (f (Some (stored x))) cached held
  node_read x g = by_inode ∙ g (λ touched x. f (Some x)) dirs

  pub node_stops : (e : Stop) → FindsInode cached held i (Err e) → Stops (reading (ReadInode i f) cached held) e
  node_stops e g = inode_stops cached held (reading (ReadInode i f) cached held) i (λ touched x. f (Some x)) dirs e by_inode g

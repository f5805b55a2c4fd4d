-- An operation whose entry is refused for want of room uses the lock of each segment of the disk.
use Rattle.std.proofs.Common.{ℕ, ◌≡◌, ◌<◌, true, List, ◌∷◌, ◌++◌, map, refl, sym, ◌∙◌, ap, subst}
use Rattle.std.proofs.lemmas.List.Elements.{Contains-append_left}
use Rattle.frang_base.specs.Locks.{has_lock}
use Rattle.frang_base.specs.declared.lock.LockId.TheVariants as lock
use Rattle.frang_base.specs.declared.lock.Mode.TheVariants.{Sole}
use Rattle.frang_base.specs.declared.reply.Reply.{Reply}
use Rattle.frang_base.specs.declared.reply.Reply.TheVariants as reply
use Rattle.tree_definitions.specs.declared.history.Entry.{Entry}
use Rattle.tree_definitions.specs.Touched.{is_nospace, shape_of}
use Rattle.tree_definitions.specs.Tree.{FileTree}
use Rattle.sector_bytes.specs.Blocks.{Block}
use Rattle.sector_bytes.specs.Sectors.{Sectors}
use Rattle.sector_world.specs.Histories.{Commit, logical}
use Rattle.sector_world.specs.Plans.{Outcome, outcome_of}
use Rattle.sector_world.specs.Trees.{tree_of}
use Rattle.disk_definitions.specs.Naming.{Naming}
use Rattle.disk_definitions.specs.Lines.{plan_of_line}
use Rattle.disk_definitions.specs.Meets.{IsHandOf, IsOfTree}
use Rattle.disk_definitions.specs.Plans.{Finish, Hand}
use Rattle.plan_laws.specs.Locks.{IsSole}
use Rattle.plan_laws.proofs.Covering.{map_has}
use Rattle.room_laws.proofs.Refused.{refused_hold_all}
use Rattle.line_histories.specs.Guards.{IsClear}
use Rattle.line_histories.specs.LinePlans.{hand_on, lock_in, segment_lock, store_on, without_bytes}
use Rattle.line_histories.specs.Outcomes.{IsOfAPlan}
use Rattle.line_histories.specs.Standing.{StandsForShape, StandsNumbered}
use Rattle.line_histories.specs.Trees.{AreTimes, performed_numbered}
use Rattle.line_histories.proofs.Hands.{is_hand}
use Rattle.line_histories.proofs.Meeting.{is_clear}
use Rattle.line_histories.proofs.Outcomes.{outcomes_of_plans}
use Rattle.line_histories.proofs.Runs.{numbered, take_distinct}
use Rattle.byte_trees.specs.Deeds.{Deed, Does, items}
use Rattle.stop_laws.proofs.Births as births
use Rattle.stop_laws.proofs.BytesCovered.{is_used}
use Rattle.kept_laws.proofs.Nodes.{AreGood}

-- bytes that are shown say nothing of room
room_without : (r : Reply) → is_nospace (without_bytes r) ≡ is_nospace r
room_without (reply.Shown bytes) = refl
room_without r = refl

module _ (segments : ℕ) (when : ℕ → ℕ) (opening : ℕ → Block) (first : FileTree) (numbers : List ℕ) (times : AreTimes when)
    (begins : StandsNumbered segments opening (numbered first numbers)) (c : Commit) (e : Entry) (older : List Deed)
    (good : AreGood segments when opening first numbers times begins (Does c e ∷ older)) where
  abbrev disk : Sectors
  disk = logical opening (items older)

  abbrev tree : FileTree
  tree = (tree_of (performed_numbered when) (numbered first numbers) (items older)).tree

  abbrev hand : Hand
  hand = hand_on segments disk c.hint

  plan : IsOfAPlan plan_of_line segments when c.hint c.op c.asked disk (outcome_of c)
  plan = outcomes_of_plans plan_of_line segments when c.hint c.op c.asked disk (outcome_of c) good.legal.0

  abbrev finish : Finish
  finish = plan.comes.finish

  stands : StandsForShape segments disk tree
  stands = births.stands_at segments when times opening (numbered first numbers) begins (items older) good.legal.1 (take_distinct when first numbers (items older) good.distinct.2)

  named : (n : Naming) × IsOfTree (store_on segments disk) (shape_of tree) n
  named = births.named segments when times opening (numbered first numbers) begins (items older) good.legal.1 (take_distinct when first numbers (items older) good.distinct.2)

  at_hand : IsHandOf hand (store_on segments disk) (shape_of tree).segments
  at_hand =
      subst (IsHandOf hand (store_on segments disk)) (sym stands.as_many)
      (is_hand segments disk c.hint (subst (λ k. IsClear k disk) stands.as_many (is_clear segments disk tree stands)))

  -- the plan is refused so, and holds each segment alone
  module _ (refused : is_nospace e.reply ≡ true) where
    plan_refused : is_nospace finish.reply ≡ true
    plan_refused =
        sym (room_without finish.reply) ∙ ap is_nospace (sym (good.lines.0.reply ∙ ap (λ (q : Outcome). q.reply) plan.comes.outcome)) ∙ room_without e.reply ∙ refused

    held : (segment : ℕ) → segment < segments → IsSole finish.locks (lock.Segment segment)
    held segment low =
        refused_hold_all c.asked hand (store_on segments disk) (shape_of tree) named.0 c.op (when c.op) finish named.1 at_hand plan.comes.is plan_refused segment
        (subst (λ k. segment < k) (sym stands.as_many) low)

    pub uses_all : (segment : ℕ) → segment < segments → has_lock (lock.Segment segment) c.uses ≡ true
    uses_all segment low =
        ap (λ (q : Outcome). has_lock (lock.Segment segment) q.uses) plan.comes.outcome
        ∙ is_used (map lock_in finish.locks ++ map segment_lock c.hint) (lock.Segment segment)
        (Contains-append_left (map lock_in finish.locks) (map segment_lock c.hint) (lock.Segment segment) (map_has lock_in finish.locks (lock.Segment segment, Sole) (held segment low)))

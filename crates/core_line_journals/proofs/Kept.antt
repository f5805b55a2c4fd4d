-- What is claimed is zeros on both sides, by what every event keeps; and a log with a record more isn't acknowledged to its end.
use Rattle.std.proofs.Common.{◌≡◌, ◌⊎◌, ◌≤◌, ◌<◌, ℕ, Bool, true, false, if◌then◌else◌, IsTrue, List, [], ◌∷◌, Option, Some, refl, sym, ap, ◌∙◌, subst, inl, inr, arith}
use Rattle.std.proofs.lemmas.Bool.{cases_eq, eqb-true, false≢true}
use Rattle.frang_base.specs.Functions.{put}
use Rattle.frang_base.proofs.Basics.{at_put}
use Rattle.frang_base.specs.declared.change.Redo.{Redo}
use Rattle.sector_bytes.specs.Blocks.{zero_block}
use Rattle.sector_bytes.specs.Sectors.{Sectors}
use Rattle.ring_definitions.specs.Rings.{Ring, appended, last, sent}
use Rattle.core_definitions.specs.LineEffects.{committed_at, committed_by}
use Rattle.core_definitions.specs.Plans as plans
use Rattle.core_definitions.specs.Rings.{appended_some, is_all_reached}
use Rattle.core_definitions.specs.Servers.{Server}
use Rattle.core_laws.proofs.Membership.{contains_in}
use Rattle.sector_world.specs.Guards.{CanDo}
use Rattle.sector_world.specs.Histories.{Commit, Item, is_logged, settled}
use Rattle.sector_world.specs.Histories.Item.{Done, Doubt}
use Rattle.sector_world.specs.Kinds.{Good}
use Rattle.sector_world.specs.Logged.{IsCopy, now_of}
use Rattle.sector_world.specs.Steps.{after}
use Rattle.sector_world.specs.Steps.Event.{Do}
use Rattle.sector_world.specs.World.{World, Clean, has_version}
use Rattle.sector_world.proofs.Every.{good_step}
use Rattle.core_world.specs.Ties.{AreLogged, IsOnDisk}
use Rattle.core_commits.specs.Commits.{AreClaimed, fetched_world}
use Rattle.core_commits.specs.Moments.{claimed_in, operation_at}
use Rattle.core_commits.specs.Standing.{tree_now}
use Rattle.core_commits.proofs.Claiming.{plain_is_zero, slot_there}
use Rattle.core_line_journals.specs.Disks.{CommitsAreLogged, CommitsKeepTheDisk}
use Rattle.core_line_journals.proofs.Appending.{past_sent}

-- ---- the disk

same_older : (claimed older : Bool) → (if claimed then true else older) ≡ false → older ≡ false
same_older true older e = absurd (false≢true (sym e))
same_older false older e = e

first_plain : (first : ℕ → Bool) (s : ℕ) (h : List Item) → is_logged first h s ≡ false → first s ≡ false
first_plain first s [] plain = plain
first_plain first s (Doubt m ∷ h) plain = first_plain first s h plain
first_plain first s (Done c ∷ h) plain = first_plain first s h (same_older (c.claims s) (is_logged first h s) plain)

module _ (segments : ℕ) (disk : Sectors) (w : World) (c : Commit) (sectors : List ℕ) (g : Good (fetched_world w c.by sectors)) (on : IsOnDisk segments disk w) (claimed : AreClaimed c sectors)
    (can : CanDo (fetched_world w c.by sectors) c) where
  abbrev v : World
  v = fetched_world w c.by sectors

  abbrev u : World
  u = after (fetched_world w c.by sectors) (Do c)

  good_then : Good u
  good_then = good_step (fetched_world w c.by sectors) (Do c) can g

  zero_there : (s : ℕ) → c.claims s ≡ true → w.disk s ≡ zero_block
  zero_there s e =
      (let i : v.slot c.by s ≡ Clean (w.disk s) = slot_there w.disk c.by sectors w.slot s claimed.once (contains_in sectors s (claimed.all s e)) in
      let copy : IsCopy (Clean (w.disk s)) (now_of v s) = subst (λ x. IsCopy x (now_of v s)) i (g.logged.copies c.by s) in copy)
      ∙ plain_is_zero v g s (can.claims s e).fresh

  pub disk_then : IsOnDisk segments disk u
  disk_then s no_log = go (c.claims s) refl
    where
      go : (b : Bool) → c.claims s ≡ b → (if (if c.claims s then true else has_version w s) then w.disk s else w.bytes s) ≡ disk s
      go false e = ap (λ (b : Bool). if (if b then true else has_version w s) then w.disk s else w.bytes s) e ∙ on s no_log
      go true e =
          ap (λ (b : Bool). if (if b then true else has_version w s) then w.disk s else w.bytes s) e
          ∙ zero_there s e
          ∙ sym (good_then.kinds.cleared s (ap (λ (b : Bool). if b then true else has_version w s) e) (first_plain w.logged s (settled w.history) (can.claims s e).fresh)).0
          ∙ sym (ap (λ (b : Bool). if b then w.disk s else w.bytes s) (can.claims s e).fresh)
          ∙ on s no_log

pub commits_keep_the_disk : CommitsKeepTheDisk
commits_keep_the_disk s w journal when first_tree numbers a outcome m op clean =
    let ready = op.done clean in
    disk_then s.core.setting.segments s.disk w (operation_at s w when (tree_now when first_tree w) a outcome op) (claimed_in (s.core.servers a).cache op.out.o.claims) ready.1.good m.world.tied.disk ready.0 ready.1.can

-- ---- what is acknowledged

not_all : (r : Ring) (redo : Redo) → IsTrue (is_all_reached (appended r redo)) → ⊥
not_all r redo e = at r.reached (sent r) (last (appended r redo)) (early r) (past_sent r redo) (eqb-true r.reached (last (appended r redo)) e)
  where
    early : (r : Ring) → r.reached ≤ sent r
    early r = omega arith

    at : (a b n : ℕ) → a ≤ b → b < n → a ≡ n → ⊥
    at a b n l k q = omega (arith, l, k, q)

module _ (servers : ℕ → Server) (w : World) (c : Commit) (sectors : List ℕ) (outcome : plans.Outcome) (redo : Redo) (has : outcome.redo ≡ Some redo) (t : AreLogged servers w) where
  own_not : IsTrue (is_all_reached (committed_by outcome (servers c.by)).ring) → ⊥
  own_not e = not_all (servers c.by).ring redo (subst (λ (o : Option Redo). IsTrue (is_all_reached (appended_some (servers c.by).ring o))) has e)

  pub logged_then : AreLogged (put servers c.by (committed_by outcome (servers c.by))) (after (fetched_world w c.by sectors) (Do c))
  logged_then b = go (cases_eq b c.by)
    where
      go : (b ≡ c.by) ⊎ (b ≡ c.by → ⊥) → IsTrue (is_all_reached (put servers c.by (committed_by outcome (servers c.by)) b).ring) → put w.last c.by c.op b ≤ w.acked b
      go (inl e) = at_put (λ x. IsTrue (is_all_reached x.ring) → put w.last c.by c.op b ≤ w.acked b) servers c.by (committed_by outcome (servers c.by)) b (λ i q. absurd (own_not q)) (λ n. absurd (n e))
      go (inr n) = at_put (λ x. IsTrue (is_all_reached x.ring) → put w.last c.by c.op b ≤ w.acked b) servers c.by (committed_by outcome (servers c.by)) b (λ i. absurd (n i))
          (λ k q. at_put (λ y. y ≤ w.acked b) w.last c.by c.op b (λ i. absurd (n i)) (λ i. t b q))

pub commits_are_logged : CommitsAreLogged
commits_are_logged s w journal when first_tree numbers a outcome redo m at op has =
    subst (λ x. AreLogged (committed_at s.core a x).servers (after (fetched_world w a (claimed_in (s.core.servers a).cache op.out.o.claims)) (Do (operation_at s w when (tree_now when first_tree w) a outcome op)))) (sym at)
    (logged_then s.core.servers w (operation_at s w when (tree_now when first_tree w) a outcome op) (claimed_in (s.core.servers a).cache op.out.o.claims) outcome redo has m.world.tied.logged)

-- Each plan has looked at what it edits.
use Rattle.std.proofs.Common.{ℕ, ◌≡◌, ◌<◌, ◌-◌, ◌==◌, ⊎_elim, true, if◌then◌else◌, List, [], ◌∷◌, length, slice_index, subst, arith}
use Rattle.std.specs.List.{Contains}
use Rattle.frang_base.specs.declared.op.Op.{Op}
use Rattle.frang_base.specs.declared.op.Op.TheVariants as op
use Rattle.frang_base.specs.declared.reply.Reply.TheVariants as reply
use Rattle.tree_definitions.specs.declared.node.Node.TheVariants.{Dir, File, Link}
use Rattle.disk_definitions.specs.Store.{Store}
use Rattle.disk_definitions.specs.Edits.{Edit}
use Rattle.disk_definitions.specs.Edits.Edit.{SetInode, SetBit, SetUse, SetPlace, SetLarge, SetBytes, SetLargeBytes}
use Rattle.disk_definitions.specs.Ask.{Sector, looks}
use Rattle.disk_definitions.specs.Plans.{Hand, refused}
use Rattle.disk_definitions.specs.FilePlans.{Writing, writing, cutting, showing, at_file, plan_of_file}
use Rattle.disk_definitions.specs.LookPlans.{at_inode, described, timed, listing}
use Rattle.disk_definitions.specs.PlanOf.{plan_of}
use Rattle.disk_definitions.specs.Written.{is_metadata}
use Rattle.plan_laws.proofs.Covering.{has_cases}
use Rattle.plan_laws.specs.Looked.{edited_at, EditsAreLookedAt}
use Rattle.plan_laws.proofs.Edited.{IsLooked, AreLooked, PlanLooked}
use Rattle.plan_laws.proofs.NamesLooked.{Goes, made_path_looked, link_looked, unlink_looked, rmdir_looked, rename_looked}
use Rattle.plan_laws.proofs.FilesLooked.{cutting_looked, writing_looked, showing_looked, listing_looked, file_looked, at_inode_looked, by_kind, node_looked}

module _ (all : List Sector) (h : Hand) (s : Store) where
  abbrev Ends : ℕ → ℕ → Op → Type 0
  Ends birth when o = Goes all h s (plan_of h birth when o)

  write_looked : (w : Writing) (path : List (List ℕ)) → Goes all h s (plan_of_file path (writing h w))
  write_looked w path = node_looked all h s (at_file (writing h w)) (file_looked all h s (writing h w) (writing_looked all h s w)) path

  plan_looked : (o : Op) (birth when : ℕ) → Ends birth when o
  plan_looked (op.Create path) birth when = made_path_looked all h s birth (File [] 1 0) path
  plan_looked (op.Mkdir path) birth when = made_path_looked all h s birth (Dir [] 0) path
  plan_looked (op.Symlink path target) birth when = made_path_looked all h s birth (Link target 1) path
  plan_looked (op.Link path to) birth when = link_looked all h s path to
  plan_looked (op.Unlink path) birth when = unlink_looked all h s path
  plan_looked (op.Rmdir path) birth when = rmdir_looked all h s path
  plan_looked (op.Rename path to) birth when = rename_looked all h s path to
  plan_looked (op.Write path off bytes) birth when = write_looked (record { off = off; len = length bytes; when = when; byte = λ j. slice_index bytes (j - off) }) path
  plan_looked (op.Fill path off len byte) birth when = write_looked (record { off = off; len = len; when = when; byte = λ j. byte }) path
  plan_looked (op.Truncate path len) birth when = node_looked all h s (at_file (cutting when len)) (file_looked all h s (cutting when len) (cutting_looked all h s when len)) path
  plan_looked (op.Read path off len) birth when = node_looked all h s (at_file (showing off len)) (file_looked all h s (showing off len) (λ i touched x c. showing_looked all h s off len i touched x)) path
  plan_looked (op.Stat path) birth when = node_looked all h s (at_inode (λ touched x. refused (described x) touched)) (at_inode_looked all h s (λ touched x. refused (described x) touched) (λ touched x w. tt)) path
  plan_looked (op.Time path) birth when = node_looked all h s (at_inode (λ touched x. refused (timed x) touched)) (at_inode_looked all h s (λ touched x. refused (timed x) touched) (λ touched x w. tt)) path
  plan_looked (op.List path) birth when = node_looked all h s (λ t. if t.kind == 2 then at_inode listing t else refused reply.NotDir t.dirs) (by_kind all h s (at_inode listing) 2 reply.NotDir (at_inode_looked all h s listing (listing_looked all h s))) path
  plan_looked (op.Readlink path) birth when =
      node_looked all h s (λ t. if t.kind == 3 then at_inode (λ touched x. refused (reply.Target x.target) touched) t else refused reply.Inval t.dirs)
      (by_kind all h s (at_inode (λ touched x. refused (reply.Target x.target) touched)) 3 reply.Inval (at_inode_looked all h s (λ touched x. refused (reply.Target x.target) touched) (λ touched x w. tt))) path
  plan_looked op.Sync birth when = λ w. tt
  plan_looked op.Mount birth when = λ w. tt
  plan_looked op.Unmount birth when = λ w. tt
  plan_looked op.Crash birth when = λ w. tt
  plan_looked (op.CrashAt k) birth when = λ w. tt
  plan_looked (op.CutAt k) birth when = λ w. tt
  plan_looked op.Stall birth when = λ w. tt

  each : (es : List Edit) (e : Edit) → AreLooked all es → Contains es e → IsLooked all e
  each [] e a c = absurd (let z : c.0 < 0 = c.1 in omega arith)
  each (d ∷ es) e a c = ⊎_elim (λ q. subst (IsLooked all) q a.0) (λ i. each es e a.1 i) (has_cases d e es c)

  one : (e : Edit) → IsLooked all e → is_metadata e ≡ true → Contains all (edited_at e)
  one (SetInode i x dated) c m = c
  one (SetBit i b) c m = c
  one (SetUse k u) c m = c
  one (SetPlace k p e) c m = c
  one (SetLarge g b) c m = c
  one (SetBytes k part bytes) c m = absurd (cc)
  one (SetLargeBytes g part bytes) c m = absurd (cc)

pub edits_are_looked_at : EditsAreLookedAt
edits_are_looked_at o h s birth when f p e c m =
    let all = looks (plan_of h birth when o) s in
    one all h s e (each all h s f.edits e (subst (PlanLooked all) p (plan_looked all h s o birth when (λ x d. d))) c) m

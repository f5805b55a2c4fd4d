-- The held segments are of the disk's store, and what a finished plan edits was at hand.
use Rattle.std.proofs.Common.{◌≡◌, ℕ, Bool, true, None, List, [], ◌∷◌}
use Rattle.std.specs.List.{Contains, AllByRecursion}
use Rattle.frang_base.specs.declared.op.Op.{Op}
use Rattle.tree_definitions.specs.Tree.{FileTree}
use Rattle.sector_bytes.specs.Sectors.{Sectors}
use Rattle.disk_definitions.specs.Store.{Store, store_of}
use Rattle.disk_definitions.specs.Edits.{Edit}
use Rattle.disk_definitions.specs.Held.{Segments}
use Rattle.disk_definitions.specs.Ask.{Ask, AtHand, run, looks}
use Rattle.disk_definitions.specs.Plans.{Hand, Plan, Finish, Finishes}
use Rattle.disk_definitions.specs.PlanOf.{plan_of}
use Rattle.disk_definitions.specs.Meets.{IsHandOf}
use Rattle.disk_definitions.specs.Written.{hand_of, Cached, at_hand, sectors_at_hand, edit_sector, is_metadata}
use Rattle.disk_definitions.specs.Missing.{first_missing}
use Rattle.plan_laws.proofs.Covering.{has_head, has_more}
use Rattle.plan_laws.specs.Looked.{edited_at}
use Rattle.plan_laws.proofs.AllLooked.{edits_are_looked_at}
use Rattle.disk_definitions.specs.OnDisk.{AreOfDisk, StandsBelow}
use Rattle.line_laws.proofs.OfDisk.{is_hand}
use Rattle.line_laws.proofs.Zeroed.{zero_places}
use Rattle.line_laws.proofs.Held.{edit_is, none_missing}

module _ (o : Op) (cached : Cached) (held : Segments) (all : Bool) (sectors : Sectors) (tree : FileTree) (birth when : ℕ) (of : AreOfDisk cached held all tree.segments sectors) (below : StandsBelow sectors tree) where
  abbrev s : Store
  s = store_of tree.segments sectors

  abbrev h : Hand
  h = hand_of cached held all

  abbrev plan : Ask Plan
  plan = plan_of h birth when o

  abbrev c : AtHand
  c = at_hand cached held

  pub hand : IsHandOf h s tree.segments
  hand = is_hand sectors tree below cached held all of (λ k p e l. zero_places cached sectors of.as_cached tree.segments k p e l)

  -- nothing is missing, so that each sector with a version that is edited is at hand
  pub where_edited : first_missing c (looks plan s) ≡ None → (f : Finish) → run plan s ≡ Finishes f → (edits : List Edit) → ((e : Edit) → Contains edits e → Contains f.edits e) →
      AllByRecursion (λ e. is_metadata e ≡ true → sectors_at_hand cached held (edit_sector e) ≡ sectors (edit_sector e)) edits
  where_edited none f is [] among = tt
  where_edited none f is (e ∷ edits) among = (
    λ i. edit_is cached held all tree.segments sectors of e i (none_missing c (looks plan s) none (edited_at e) (edits_are_looked_at o h s birth when f is e (among e (has_head e edits)) i)),
    where_edited none f is edits (λ d h. among d (has_more e d edits h)),
  )

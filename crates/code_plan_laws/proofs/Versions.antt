-- What the edits of a finished plan change has versions below their bound.
use Rattle.std.proofs.Common.{◌≡◌, ℕ, ◌+◌, ◌-◌, ◌/◌, ◌*◌, ◌^◌, ◌<◌, ◌≤◌, Bool, true, false, nat_lt, Option, Some, None, List, [], ◌∷◌, if◌then◌else◌, refl, sym, ap, ◌∙◌, subst, arith}
use Rattle.std.specs.List.{AllByRecursion, list_all, filter_map, cons_option}
use Rattle.std.proofs.lemmas.Bool.Decides.{nat_tests}
use Rattle.sector_bytes.specs.Bytes.{number_at}
use Rattle.sector_bytes.specs.Sectors.{Sectors}
use Rattle.disk_definitions.specs.Store.{Store, store_of}
use Rattle.disk_definitions.specs.Standing.{version_at}
use Rattle.disk_definitions.specs.Edits.{Edit, edited_all}
use Rattle.disk_definitions.specs.Edits.Edit.{SetInode, SetBit, SetUse, SetPlace, SetLarge, SetBytes, SetLargeBytes}
use Rattle.disk_definitions.specs.Ask.{Sector, Ask, run, looks, meet}
use Rattle.disk_definitions.specs.Plans.{Hand, Plan, Finish, Finishes}
use Rattle.disk_definitions.specs.PlanOf.{plan_of}
use Rattle.disk_definitions.specs.Written.{hand_of, at_hand, sectors_at_hand, edit_sector, is_metadata, metadata_sector}
use Rattle.disk_definitions.specs.Missing.{first_missing, unless_missing}
use Rattle.plan_laws.proofs.Deciding.{meets_where}
use Rattle.plan_laws.proofs.AllInside.{all_inside}
use Rattle.dir_lookup.specs.Reading.{Gives, numbered}
use Rattle.disk_definitions.specs.FitEdits.{AreFit, IsFitEdit, MeetsUse}
use Rattle.disk_definitions.specs.Ready.{IsReady}
use Rattle.disk_definitions.specs.FitPlans.{PlanIsFit, IsFitFinish}
use Rattle.line_laws.proofs.OfDisk.{few, of_tree}
use Rattle.line_laws.proofs.AtHand.{agrees}
use Rattle.line_laws.proofs.Edited.{where_edited, hand}
use Rattle.line_laws.proofs.Operations.{all_fit}
use Rattle.line_laws.proofs.Written.{fit_store, ready}
use Rattle.code_plan_laws.specs.CodeStands.{HasNextVersions, HoldsSegments}

pub holds_segments : HoldsSegments
holds_segments o birth cached held all d k x e =
    let l : k < d.tree.segments = (d.at_hand.as_held k x e).0 in
    let m : d.tree.segments ≤ 64 = few d.disk d.tree d.stands in omega arith

module _ (most segments : ℕ) (sectors : Sectors) (edits : List Edit) (r : IsReady most segments sectors edits) where
  abbrev end : Store
  end = edited_all (store_of segments sectors) edits

  -- the sector of a fit edit has a bounded version
  bounded : (e : Edit) → is_metadata e ≡ true → IsFitEdit segments e → MeetsUse end e → version_at sectors (edit_sector e) ≤ most
  bounded (SetInode i None dated) m f u = r.versions.inodes i f
  bounded (SetInode i (Some x) dated) m f u = r.versions.inodes i f.0
  bounded (SetBit i b) m f u = let l : i < 64 * segments = f in r.versions.bitmaps (i / 64) (omega arith)
  bounded (SetUse k v) m f u = let l : k < 1024 * segments = f in r.versions.bitmaps (k / 1024) (omega arith)
  bounded (SetPlace k p None) m f u = let l : p < 56 = f.1 in r.directory_versions k (p / 7) f.0 (omega arith) u
  bounded (SetPlace k p (Some e)) m f u = let l : p < 56 = f.1 in r.directory_versions k (p / 7) f.0 (omega arith) u
  bounded (SetLarge g b) m f u = r.versions.bitmaps g f
  bounded (SetBytes k part bytes) m f u = absurd (cc)
  bounded (SetLargeBytes g part bytes) m f u = absurd (cc)

  below : (v : ℕ) → v ≤ most → nat_lt v (2 ^ 64 - 1) ≡ true
  below v l = let n : most + 1 < 2 ^ 64 = r.last in grind (arith, nat_tests)

  all_below : (at : Sectors) (es : List Edit) → AreFit segments end es → AllByRecursion (λ e. is_metadata e ≡ true → at (edit_sector e) ≡ sectors (edit_sector e)) es → list_all (λ sector. nat_lt (version_at at sector) (2 ^ 64 - 1)) (filter_map metadata_sector es) ≡ true
  all_below at [] f h = refl
  all_below at (e ∷ es) f h = go (is_metadata e) refl (all_below at es f.1 h.1)
    where
      go : (c : Bool) → is_metadata e ≡ c → list_all (λ sector. nat_lt (version_at at sector) (2 ^ 64 - 1)) (filter_map metadata_sector es) ≡ true →
          list_all (λ sector. nat_lt (version_at at sector) (2 ^ 64 - 1)) (cons_option (if c then Some (edit_sector e) else None) (filter_map metadata_sector es)) ≡ true
      go false m rest = rest
      go true m rest = let v : nat_lt (version_at at (edit_sector e)) (2 ^ 64 - 1) ≡ true = ap (λ block. nat_lt (number_at 8 0 block) (2 ^ 64 - 1)) (h.0 m) ∙ below (version_at sectors (edit_sector e)) (bounded e m f.0.0 f.0.1) in rw v rest

-- what is given is finished where nothing is missing
given : (missing : Option Sector) (p : Plan) (f : Finish) → numbered (unless_missing missing p) ≡ Gives (Finishes f) → (missing ≡ None) × (p ≡ Finishes f)
given (Some x) p f e = absurd (cc)
given None p f e = (refl, cc)

pub next_versions : HasNextVersions
next_versions o birth when cached held all f p small timely d e =
    let s : Store = store_of d.tree.segments d.disk in
    let h : Hand = hand_of cached held all in
    let plan : Ask Plan = plan_of h birth when o in
    let at = hand o cached held all d.disk d.tree birth when d.at_hand d.stands in
    let missing : Option Sector = first_missing (at_hand cached held) (looks plan s) in
    let is : meet plan (at_hand cached held) ≡ unless_missing missing (run plan s) =
    meets_where plan (at_hand cached held) s (agrees cached held d.tree.segments d.disk d.at_hand.as_cached d.stands.whole (looks plan s) (all_inside o h s d.tree d.stands.stands.naming birth when (of_tree d.disk d.tree d.stands) at)) in
    let g = given missing (run plan s) f (sym (ap numbered is) ∙ e) in
    let fits : IsFitFinish h d.tree.segments s f =
    subst (PlanIsFit h d.tree.segments s) g.1 (all_fit o p h s d.tree d.stands.stands.naming birth when (of_tree d.disk d.tree d.stands) at (fit_store cached held all d.disk d.tree d.at_hand d.stands) small timely d.allowed) in
    let r = ready cached held all d.disk d.tree d.at_hand d.stands f fits in
    all_below d.stands.most d.tree.segments d.disk f.edits r (sectors_at_hand cached held) f.edits fits.edits
    (where_edited o cached held all d.disk d.tree birth when d.at_hand d.stands g.0 f g.1 f.edits (λ e h. h))

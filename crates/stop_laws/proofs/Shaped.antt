-- Edits that are the same but for bytes: they write the same sectors, and leave stores that are the same but for bytes.
use Rattle.std.proofs.Common.{◌≡◌, List, [], ◌∷◌, map, refl, sym, ◌∙◌, ap, subst}
use Rattle.std.specs.List.{Contains}
use Rattle.disk_definitions.specs.Store.{Store}
use Rattle.disk_definitions.specs.Edits.{Edit, edited, edited_all}
use Rattle.disk_definitions.specs.Edits.Edit.{SetInode, SetBit, SetUse, SetPlace, SetLarge, SetBytes, SetLargeBytes}
use Rattle.disk_definitions.specs.Ask.{Sector}
use Rattle.disk_definitions.specs.Written.{is_metadata}
use Rattle.plan_laws.proofs.Covering.{map_has}
use Rattle.plan_laws.specs.Looked.{edited_at}
use Rattle.line_laws.specs.Stores.{blank}
use Rattle.line_histories.specs.Files.{IsWritten}
use Rattle.line_histories.specs.Planners.{edit_shape}
use Rattle.line_histories.proofs.Lists.{has_map}
use Rattle.line_histories.proofs.Shapes.{is_metadata_same}

-- ---- stores

-- an edit of a blank store
one_blank : (e : Edit) (s : Store) → blank (edited s e) ≡ blank (edited (blank s) (edit_shape e))
one_blank (SetInode i x dated) s = refl
one_blank (SetBit i b) s = refl
one_blank (SetUse k u) s = refl
one_blank (SetPlace k p x) s = refl
one_blank (SetLarge g b) s = refl
one_blank (SetBytes k part bytes) s = refl
one_blank (SetLargeBytes g part bytes) s = refl

shape_blank : (e : Edit) (s : Store) → blank (edited s e) ≡ blank (edited s (edit_shape e))
shape_blank (SetInode i x dated) s = refl
shape_blank (SetBit i b) s = refl
shape_blank (SetUse k u) s = refl
shape_blank (SetPlace k p x) s = refl
shape_blank (SetLarge g b) s = refl
shape_blank (SetBytes k part bytes) s = refl
shape_blank (SetLargeBytes g part bytes) s = refl

-- the same edits
from_blank : (es : List Edit) (s t : Store) → blank s ≡ blank t → blank (edited_all s es) ≡ blank (edited_all t es)
from_blank [] s t e = e
from_blank (d ∷ es) s t e = from_blank es (edited s d) (edited t d) (one_blank d s ∙ ap (λ u. blank (edited u (edit_shape d))) e ∙ sym (one_blank d t))

shaped_blank : (es : List Edit) (s : Store) → blank (edited_all s es) ≡ blank (edited_all s (map edit_shape es))
shaped_blank [] s = refl
shaped_blank (d ∷ es) s = shaped_blank es (edited s d) ∙ from_blank (map edit_shape es) (edited s d) (edited s (edit_shape d)) (shape_blank d s)

pub same_blank : (es fs : List Edit) (s t : Store) → map edit_shape es ≡ map edit_shape fs → blank s ≡ blank t → blank (edited_all s es) ≡ blank (edited_all t fs)
same_blank es fs s t shape e = shaped_blank es s ∙ ap (λ gs. blank (edited_all s gs)) shape ∙ from_blank (map edit_shape fs) s t e ∙ sym (shaped_blank fs t)

-- ---- sectors

place_shape : (e : Edit) → edited_at (edit_shape e) ≡ edited_at e
place_shape (SetInode i x dated) = refl
place_shape (SetBit i b) = refl
place_shape (SetUse k u) = refl
place_shape (SetPlace k p x) = refl
place_shape (SetLarge g b) = refl
place_shape (SetBytes k part bytes) = refl
place_shape (SetLargeBytes g part bytes) = refl

pub written_too : (es fs : List Edit) → map edit_shape es ≡ map edit_shape fs → (x : Sector) → IsWritten es x → IsWritten fs x
written_too es fs same x w =
    let r = has_map edit_shape fs (edit_shape w.edit) (subst (λ l. Contains l (edit_shape w.edit)) same (map_has edit_shape es w.edit w.among)) in
    record {
      edit = r.0;
      among = r.1;
      bytes = sym (is_metadata_same r.0) ∙ ap is_metadata r.2 ∙ is_metadata_same w.edit ∙ w.bytes;
      here = sym (place_shape r.0) ∙ ap edited_at r.2 ∙ place_shape w.edit ∙ w.here;
    }

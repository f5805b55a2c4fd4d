-- Edits that may be made write no bytes of files into sectors with versions.
use Rattle.std.proofs.Common.{ℕ, ◌≡◌, ◌≤◌, ◌/◌, ⊎_elim, true, false, List, [], ◌∷◌, sym, ◌∙◌, subst}
use Rattle.std.specs.List.{Contains}
use Rattle.frang_base.specs.Functions.{member}
use Rattle.disk_definitions.specs.Store.{Store}
use Rattle.disk_definitions.specs.Edits.{Edit}
use Rattle.disk_definitions.specs.Edits.Edit.{SetInode, SetBit, SetUse, SetPlace, SetLarge, SetBytes, SetLargeBytes}
use Rattle.disk_definitions.specs.FitEdits.{IsFitEdit, MeetsUse, AreFit}
use Rattle.disk_definitions.specs.Written.{is_metadata}
use Rattle.plan_laws.proofs.Covering.{has_cases, not_in_none}
use Rattle.plan_fit.proofs.Kept.{edit_region, edit_sector_is, edit_in_range}
use Rattle.plan_fit.proofs.LaidOver.{Misses}
use Rattle.plan_fit.proofs.RecordLaws.{NotTo, misses, no_bytes_segment, no_bytes_inode, no_bytes_directory}
use Rattle.line_histories.proofs.Changes.{numbers_of, named_edit}

pub one_fit : (segments : ℕ) (end : Store) (es : List Edit) (e : Edit) → AreFit segments end es → Contains es e → IsFitEdit segments e × MeetsUse end e
one_fit segments end [] e fit c = absurd (not_in_none e c)
one_fit segments end (d ∷ es) e fit c = ⊎_elim (λ q. subst (λ z. IsFitEdit segments z × MeetsUse end z) q fit.0) (λ i. one_fit segments end es e fit.1 i) (has_cases d e es c)

-- no bytes go where an edit with a version goes
no_bytes_here : (end : Store) (e : Edit) → is_metadata e ≡ true → MeetsUse end e → (d : Edit) → NotTo false (edit_region e) end d
no_bytes_here end (SetInode i x dated) m u d = no_bytes_inode end i d
no_bytes_here end (SetBit i b) m u d = no_bytes_segment end (i / 64) d
no_bytes_here end (SetUse k v) m u d = no_bytes_segment end (k / 1024) d
no_bytes_here end (SetPlace k p o) m u d = no_bytes_directory end k (p / 7) u d
no_bytes_here end (SetLarge g b) m u d = no_bytes_segment end g d
no_bytes_here end (SetBytes k part bytes) m u d = absurd (cc)
no_bytes_here end (SetLargeBytes g part bytes) m u d = absurd (cc)

pub missed : (segments : ℕ) (end : Store) (es : List Edit) → segments ≤ 64 → AreFit segments end es → (s : ℕ) → member s (numbers_of es) ≡ true → Misses false s es
missed segments end es few fit s m =
    let r = named_edit es s m in
    let f = one_fit segments end es r.edit fit r.among in
    subst (λ z. Misses false z es) (sym (edit_sector_is r.edit) ∙ r.here)
    (misses segments end false (edit_region r.edit) es few (edit_in_range segments r.edit f.0) fit (no_bytes_here end r.edit r.metadata f.1))

-- The lines that are still to be said.
use Rattle.std.proofs.Common.{◌≡◌, ℕ, zero, suc, ◌+◌, ◌<◌, true, false, Option, Some, None, is_some, List, [], ◌∷◌, drop, length, length-drop, refl, sym, ap, ap₂, ◌∙◌, subst, add-one, arith}
use Rattle.std.specs.List.{slice_get}
use Rattle.frang_base.specs.Functions.{member}
use Rattle.frang_base.specs.declared.said.Said.{Said}
use Rattle.tree_lines.specs.Shown.{Shown, lines_by}
use Rattle.tree_lines.specs.Waiting.{Waiting, lines_left}
use Rattle.sector_bytes.specs.Sectors.{sectors_of}
use Rattle.disk_definitions.specs.Store.{store_of}
use Rattle.core_definitions.specs.Trees.{TreeRead}
use Rattle.host_tree.specs.declared.tree.Next.{Next}
use Rattle.host_tree.specs.declared.tree.Next.TheVariants.{Unmade, Line, End}
use Rattle.host_tree.specs.Reading.{all_lines, store_read}
use Rattle.host_tree.specs.Saying.{AreToSay, Gives, IsPlace, is_made, made, shown_in}
use Rattle.host_tree.proofs.SameLines.{same_lines}

-- the first of what is left of a list
left_behind : (all : List Said) (n : ℕ) (line : Said) (rest : List Said) → drop n all ≡ line ∷ rest → (slice_get all n ≡ Some line) × (drop (suc n) all ≡ rest)
left_behind [] zero line rest e = absurd (cc)
left_behind [] (suc n) line rest e = absurd (cc)
left_behind (a ∷ all) zero line rest e = (cc, cc)
left_behind (a ∷ all) (suc n) line rest e = left_behind all n line rest e

pub first_left : (all : List Said) (n : ℕ) (line : Said) (rest : List Said) → drop n all ≡ line ∷ rest → (slice_get all n ≡ Some line) × (drop (n + 1) all ≡ rest)
first_left all n line rest e = let both = left_behind all n line rest e in (both.0, ap (λ k. drop k all) (add-one n) ∙ both.1)

pub none_left : (all : List Said) (n : ℕ) → drop n all ≡ [] → slice_get all n ≡ None
none_left [] zero e = refl
none_left [] (suc n) e = refl
none_left (a ∷ all) zero e = absurd (cc)
none_left (a ∷ all) (suc n) e = none_left all n e

-- ---- before all is read

-- nothing is made or said
pub young : (needed : List ℕ) (all : List Said) (next : Next) (left : List Said) (shown sector : ℕ) → IsPlace needed all next left shown → member sector needed ≡ true → (shown ≡ 0) × (next ≡ Unmade)
young [] all next left shown sector place is = absurd (cc)
young (s ∷ ss) all next left shown sector place is = place

pub still_unread : (needed : List ℕ) (all : List Said) (next : Next) (left : List Said) (shown : ℕ) → is_some (slice_get needed 0) ≡ true → (shown ≡ 0) × (next ≡ Unmade) → IsPlace needed all next left shown
still_unread [] all next left shown some none_said = absurd (cc)
still_unread (s ∷ ss) all next left shown some none_said = none_said

-- ---- from the last sector on

pub all_left : (needed : List ℕ) (all : List Said) (next : Next) (left : List Said) (shown : ℕ) → is_some (slice_get needed 0) ≡ false → (shown ≡ 0) × (next ≡ Unmade) → all ≡ left → IsPlace needed all next left shown
all_left [] all next left shown none none_said e = subst (λ x. AreToSay (drop shown all) x left shown) (sym none_said.1) (ap (λ n. drop n all) none_said.0 ∙ e)
all_left (s ∷ ss) all next left shown none none_said e = absurd (cc)

pub lines_begun : (segments : ℕ) (read : TreeRead) (levels root : ℕ) (left : Waiting) → levels ≡ length read → root ≡ 0 → ((nodes : ℕ → Option Shown) → lines_left nodes left ≡ lines_by nodes levels [] root)
    → all_lines segments read ≡ lines_left (shown_in (store_read segments read)) left
unfolding all_lines store_read
lines_begun segments read levels root left e is of =
    let s = store_of segments (sectors_of read) in
    same_lines segments (sectors_of read) (length read) [] 0 ∙ ap₂ (λ n r. lines_by (shown_in s) n [] r) (sym e) (sym is) ∙ sym (of (shown_in s))

pub place_new : (needed : List ℕ) (all left : List Said) → all ≡ left → IsPlace needed all Unmade left 0
place_new [] all left e = e
place_new (s ∷ ss) all left e = (refl, refl)

-- ---- the next line

pub place_made : (needed : List ℕ) (all left behind : List Said) (shown : ℕ) (o : Option Said) → needed ≡ [] → IsPlace needed all Unmade left shown → Gives left behind o → shown < 4294967295 → IsPlace needed all (made o) behind shown
place_made [] all left behind shown None e place gives few = place ∙ gives.0
place_made [] all left behind shown (Some line) e place gives few = (place ∙ gives, few)
place_made (s ∷ ss) all left behind shown o e place gives few = absurd (cc)

pub line_is : (needed : List ℕ) (all left : List Said) (shown : ℕ) (line : Said) → IsPlace needed all (Line line) left shown → Some line ≡ slice_get all shown
line_is [] all left shown line place = sym (first_left all shown line left place.0).0
line_is (s ∷ ss) all left shown line place = absurd (let bad : is_made (Line line) ≡ is_made Unmade = ap is_made place.1 in cc)

pub end_is : (needed : List ℕ) (all left : List Said) (shown : ℕ) → IsPlace needed all End left shown → None ≡ slice_get all shown
end_is [] all left shown place = sym (none_left all shown place)
end_is (s ∷ ss) all left shown place = absurd (let bad : is_made End ≡ is_made Unmade = ap is_made place.1 in cc)

-- one more is said
pub place_said : (needed : List ℕ) (all : List Said) (next : Next) (left : List Said) (shown : ℕ) → IsPlace needed all next left shown → is_made next ≡ true → shown < length all
    → IsPlace needed all Unmade left (shown + 1) × (shown < 4294967295)
place_said [] all Unmade left shown place is there = absurd (cc is)
place_said [] all (Line line) left shown place is there = ((first_left all shown line left place.0).1, place.1)
place_said [] all End left shown place is there = absurd (let none : length (drop shown all) ≡ 0 = ap length place in omega (arith, length-drop shown all, none, there))
place_said (s ∷ ss) all next left shown place is there = absurd (let bad : is_made Unmade ≡ true = ap is_made (sym place.1) ∙ is in cc bad)

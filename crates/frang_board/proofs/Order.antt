-- What was published never goes back, so that none of it is above the last.
use Rattle.std.proofs.Common.{◌≡◌, ℕ, zero, suc, ◌≤◌, Bool, true, false, ◌||◌, nat_lt, List, [], ◌∷◌, ◌++◌, length, refl, le_refl, le_trans, arith}
use Rattle.std.specs.Prelude.{slice_index_or}
use Rattle.std.proofs.lemmas.Bool.Decides.{nat_tests}
use Rattle.frang_board.specs.declared.figures.Figures.{Figures}
use Rattle.frang_board.specs.Figures.{AtMost, is_behind, last_from, Climbs}

neither : (a b : Bool) → (a || b) ≡ false → (a ≡ false) × (b ≡ false)
neither true b e = absurd (Rattle.std.proofs.Common.true≢false e)
neither false b e = (refl, e)

not_less : (a b : ℕ) → nat_lt a b ≡ false → b ≤ a
not_less a b e = grind (arith, nat_tests, e)

pub not_behind : (f last : Figures) → is_behind f last ≡ false → AtMost last f
not_behind f last e =
    let third = neither (nat_lt f.said last.said || nat_lt f.answered last.answered || nat_lt f.dead last.dead) (nat_lt f.recovered last.recovered) e in
    let second = neither (nat_lt f.said last.said || nat_lt f.answered last.answered) (nat_lt f.dead last.dead) third.0 in
    let first = neither (nat_lt f.said last.said) (nat_lt f.answered last.answered) second.0 in
    (not_less _ _ first.0, not_less _ _ first.1, not_less _ _ second.1, not_less _ _ third.1)

at_most_itself : (f : Figures) → AtMost f f
at_most_itself f = (le_refl _, le_refl _, le_refl _, le_refl _)

at_most_both : (a b c : Figures) → AtMost a b → AtMost b c → AtMost a c
at_most_both a b c l r = (le_trans l.0 r.0, le_trans l.1 r.1, le_trans l.2 r.2, le_trans l.3 r.3)

pub last_push : (z : Figures) (ps : List Figures) (x : Figures) → last_from z (ps ++ x ∷ []) ≡ x
last_push z [] x = refl
last_push z (p ∷ ps) x = last_push p ps x

pub last_shown : (z : Figures) (ps : List Figures) (d : Figures) → slice_index_or (z ∷ ps) (length ps) d ≡ last_from z ps
last_shown z [] d = refl
last_shown z (p ∷ ps) d = last_shown p ps d

pub climbs_push : (z : Figures) (ps : List Figures) (x : Figures) → Climbs z ps → AtMost (last_from z ps) x → Climbs z (ps ++ x ∷ [])
climbs_push z [] x c a = (a, tt)
climbs_push z (p ∷ ps) x c a = (c.0, climbs_push p ps x c.1 a)

first_at_most : (z : Figures) (ps : List Figures) → Climbs z ps → AtMost z (last_from z ps)
first_at_most z [] c = at_most_itself z
first_at_most z (p ∷ ps) c = at_most_both z p (last_from p ps) c.0 (first_at_most p ps c.1)

pub shown_at_most : (z : Figures) (ps : List Figures) (d : Figures) (k : ℕ) → Climbs z ps → k ≤ length ps → AtMost (slice_index_or (z ∷ ps) k d) (last_from z ps)
shown_at_most z ps d zero c le = first_at_most z ps c
shown_at_most z [] d (suc k) c le = absurd (omega arith)
shown_at_most z (p ∷ ps) d (suc k) c le = shown_at_most p ps d k c.1 (omega arith)

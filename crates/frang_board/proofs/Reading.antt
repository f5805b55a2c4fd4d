-- What was read stays in order when more is published, and none of it is above what is shown.
use Rattle.std.proofs.Common.{◌≡◌, ℕ, zero, suc, ◌≤◌, List, [], ◌∷◌, ◌++◌, length, map, refl, sym, ◌∙◌, ap, subst, arith, length-append}
use Rattle.std.specs.Prelude.{slice_index_or}
use Rattle.std.specs.List.{AllByRecursion}
use Rattle.std.proofs.lemmas.List.{map-append}
use Rattle.frang_board.specs.declared.figures.Figures.{Figures}
use Rattle.frang_board.specs.Figures.{zeros, last_of, NoneAbove, Climbs, shown_after, IsRising, Reads}
use Rattle.frang_board.proofs.Order.{last_shown, shown_at_most}

get_front : (xs ys : List Figures) (z d : Figures) (k : ℕ) → k ≤ length xs → slice_index_or (z ∷ (xs ++ ys)) k d ≡ slice_index_or (z ∷ xs) k d
get_front xs ys z d zero le = refl
get_front [] ys z d (suc k) le = absurd (omega arith)
get_front (x ∷ xs) ys z d (suc k) le = get_front xs ys x d k (omega arith)

rising_le : (low : ℕ) (ks : List ℕ) (top : ℕ) → IsRising low ks top → low ≤ top
rising_le low [] top r = r
rising_le low (k ∷ ks) top r = let e = rising_le k ks top r.1 in let f = r.0 in omega (arith, e, f)

rising_push : (low : ℕ) (ks : List ℕ) (top : ℕ) → IsRising low ks top → IsRising low (ks ++ top ∷ []) top
rising_push low [] top r = (r, omega arith)
rising_push low (k ∷ ks) top r = (r.0, rising_push k ks top r.1)

rising_more : (low : ℕ) (ks : List ℕ) (top more : ℕ) → top ≤ more → IsRising low ks top → IsRising low ks more
rising_more low [] top more le r = let f : low ≤ top = r in omega (arith, le, f)
rising_more low (k ∷ ks) top more le r = (r.0, rising_more k ks top more le r.1)

same_shown : (ps qs : List Figures) (low : ℕ) (ks : List ℕ) → IsRising low ks (length ps) → map (λ k. shown_after ps k) ks ≡ map (λ k. shown_after (ps ++ qs) k) ks
same_shown ps qs low [] r = refl
same_shown ps qs low (k ∷ ks) r =
    let e : shown_after ps k ≡ shown_after (ps ++ qs) k = sym (get_front ps qs zeros zeros k (rising_le k ks (length ps) r.1)) in
    let f = same_shown ps qs k ks r.1 in
    cc (e, f)

pub reads_none : (ps : List Figures) → Reads ps []
reads_none ps = ([], omega arith, refl)

-- one reads what is shown
pub reads_push : (ps read : List Figures) (x : Figures) → Reads ps read → x ≡ last_of ps → Reads ps (read ++ x ∷ [])
reads_push ps read x r is = (
  r.0 ++ length ps ∷ [],
  rising_push 0 r.0 (length ps) r.1,
  ap (λ l. l ++ x ∷ []) r.2 ∙ ap (λ w. map (λ k. shown_after ps k) r.0 ++ w ∷ []) (is ∙ sym (last_shown zeros ps zeros)) ∙ sym (map-append (λ k. shown_after ps k) r.0 (length ps ∷ [])),
)

-- more is published
pub reads_more : (ps qs read : List Figures) → Reads ps read → Reads (ps ++ qs) read
reads_more ps qs read r = (r.0, rising_more 0 r.0 (length ps) (length (ps ++ qs)) (omega (arith, length-append ps qs)) r.1, r.2 ∙ same_shown ps qs 0 r.0 r.1)

pub each_more : (ps qs : List Figures) (lists : List (List Figures)) → AllByRecursion (Reads ps) lists → AllByRecursion (Reads (ps ++ qs)) lists
each_more ps qs [] r = tt
each_more ps qs (list ∷ lists) r = (reads_more ps qs list r.0, each_more ps qs lists r.1)

all_shown : (ps : List Figures) (low : ℕ) (ks : List ℕ) → Climbs zeros ps → IsRising low ks (length ps) → NoneAbove (last_of ps) (map (λ k. shown_after ps k) ks)
all_shown ps low [] c r = tt
all_shown ps low (k ∷ ks) c r = (shown_at_most zeros ps zeros k c (rising_le k ks (length ps) r.1), all_shown ps k ks c r.1)

-- none of what was read is above what is shown
pub reads_below : (ps read : List Figures) → Climbs zeros ps → Reads ps read → NoneAbove (last_of ps) read
reads_below ps read c r = subst (λ xs. NoneAbove (last_of ps) xs) (sym r.2) (all_shown ps 0 r.0 c r.1)

pub each_below : (ps : List Figures) (lists : List (List Figures)) → Climbs zeros ps → AllByRecursion (Reads ps) lists → AllByRecursion (NoneAbove (last_of ps)) lists
each_below ps [] c r = tt
each_below ps (list ∷ lists) c r = (reads_below ps list c r.0, each_below ps lists c r.1)

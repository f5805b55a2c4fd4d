-- Figures of a record that goes on: they never fall, and those of its prefixes stay such.
use Rattle.std.proofs.Common.{◌≡◌, ◌⊎◌, inl, inr, ℕ, zero, suc, ◌+◌, ◌≤◌, Bool, true, false, ◌||◌, nat_lt, List, [], ◌∷◌, ◌++◌, length, map, refl, sym, ap, ◌∙◌, subst, arith, append-nil, le_trans, length-append}
use Rattle.std.specs.Prelude.{filter, take, slice_index_or}
use Rattle.std.proofs.lemmas.List.{map-append, take_all, take-append-le}
use Rattle.std.proofs.lemmas.List.Elements.{filter-append, filter_map-append}
use Rattle.std.proofs.lemmas.Bool.Decides.{nat_tests}
use Rattle.frang_base.specs.declared.said.Said.{Said}
use Rattle.frang_board.specs.declared.figures.Figures.{Figures}
use Rattle.frang_board.specs.Boards.{Posted}
use Rattle.frang_board.specs.Figures.{AtMost, IsRising, Reads, is_behind, last_from, last_of, shown_after, zeros}
use Rattle.core_definitions.specs.Effects.{Deed}
use Rattle.core_definitions.specs.Runs.{said_by, saids_of}
use Rattle.watched_hall.specs.Counting.{figures_in, figures_of, is_answer, is_dead, is_recovered}
use Rattle.watched_hall.specs.Desks.{AreOfPrefixes, IsPosted, IsPostedOn}

-- ---- figures never fall

grown : (n a b : ℕ) → n ≡ a + b → a ≤ n
grown n a b sum = omega (arith, sum)

count_grows : (p : Said → Bool) (xs ys : List Said) → length (filter p xs) ≤ length (filter p (xs ++ ys))
count_grows p xs ys =
    grown (length (filter p (xs ++ ys))) (length (filter p xs)) (length (filter p ys)) (ap length (filter-append p xs ys) ∙ length-append (filter p xs) (filter p ys))

figures_grow : (xs ys : List Said) → AtMost (figures_of xs) (figures_of (xs ++ ys))
figures_grow xs ys = (
  grown (length (xs ++ ys)) (length xs) (length ys) (length-append xs ys),
  count_grows is_answer xs ys,
  count_grows is_dead xs ys,
  count_grows is_recovered xs ys,
)

pub record_grows : (deeds more : List Deed) → AtMost (figures_in deeds) (figures_in (deeds ++ more))
record_grows deeds more =
    subst (λ saids. AtMost (figures_in deeds) (figures_of saids)) (sym (filter_map-append said_by deeds more)) (figures_grow (saids_of deeds) (saids_of more))

-- ---- figures of prefixes

pub none_of : (deeds : List Deed) → AreOfPrefixes deeds []
none_of deeds = record { lengths = []; rising = omega arith; are = refl }

rising_top : (low : ℕ) (ks : List ℕ) (top more : ℕ) → top ≤ more → IsRising low ks top → IsRising low ks more
rising_top low [] top more le r = let f : low ≤ top = r in omega (arith, le, f)
rising_top low (k ∷ ks) top more le r = (r.0, rising_top k ks top more le r.1)

rising_push : (low : ℕ) (ks : List ℕ) (top : ℕ) → IsRising low ks top → IsRising low (ks ++ top ∷ []) top
rising_push low [] top r = (r, omega arith)
rising_push low (k ∷ ks) top r = (r.0, rising_push k ks top r.1)

rising_below : (low : ℕ) (ks : List ℕ) (top : ℕ) → IsRising low ks top → low ≤ top
rising_below low [] top r = r
rising_below low (k ∷ ks) top r = let e = rising_below k ks top r.1 in let f = r.0 in omega (arith, e, f)

same_front : (deeds more : List Deed) (low : ℕ) (ks : List ℕ) → IsRising low ks (length deeds) → map (λ k. figures_in (take k deeds)) ks ≡ map (λ k. figures_in (take k (deeds ++ more))) ks
same_front deeds more low [] r = refl
same_front deeds more low (k ∷ ks) r =
    let e : figures_in (take k deeds) ≡ figures_in (take k (deeds ++ more)) = ap figures_in (sym (take-append-le k deeds more (rising_below k ks (length deeds) r.1))) in
    let f = same_front deeds more k ks r.1 in
    cc (e, f)

-- the record goes on
pub prefixes_on : (deeds more : List Deed) (list : List Figures) → AreOfPrefixes deeds list → AreOfPrefixes (deeds ++ more) list
prefixes_on deeds more list p = record {
  lengths = p.lengths;
  rising = rising_top 0 p.lengths (length deeds) (length (deeds ++ more)) (grown (length (deeds ++ more)) (length deeds) (length more) (length-append deeds more)) p.rising;
  are = p.are ∙ same_front deeds more 0 p.lengths p.rising;
}

-- the whole record's behind them
pub prefixes_push : (deeds : List Deed) (list : List Figures) → AreOfPrefixes deeds list → AreOfPrefixes deeds (list ++ figures_in deeds ∷ [])
prefixes_push deeds list p = record {
  lengths = p.lengths ++ length deeds ∷ [];
  rising = rising_push 0 p.lengths (length deeds) p.rising;
  are =
      ap (λ l. l ++ figures_in deeds ∷ []) p.are
      ∙ ap (λ d. map (λ k. figures_in (take k deeds)) p.lengths ++ figures_in d ∷ []) (sym (take_all (length deeds) deeds (omega arith)))
      ∙ sym (map-append (λ k. figures_in (take k deeds)) p.lengths (length deeds ∷ []));
}

pub last_push : (z : Figures) (ps : List Figures) (x : Figures) → last_from z (ps ++ x ∷ []) ≡ x
last_push z [] x = refl
last_push z (p ∷ ps) x = last_push p ps x

-- ---- what stands on a board

pub posted_none : IsPosted [] []
posted_none = record { prefixes = none_of []; last = refl }

-- a record went on, and the board shows what it comes to
pub posted_on : (deeds more : List Deed) (old new : Posted) (f : Figures) → IsPosted deeds old.figures → f ≡ figures_in (deeds ++ more) → IsPostedOn old new f → IsPosted (deeds ++ more) new.figures
posted_on deeds more old new f p is on = record { prefixes = go on.list; last = on.last ∙ is }
  where
    kept : AreOfPrefixes (deeds ++ more) old.figures
    kept = prefixes_on deeds more old.figures p.prefixes

    go : (new.figures ≡ old.figures) ⊎ (new.figures ≡ old.figures ++ f ∷ []) → AreOfPrefixes (deeds ++ more) new.figures
    go (inl same) = subst (AreOfPrefixes (deeds ++ more)) (sym same) kept
    go (inr push) =
        subst (AreOfPrefixes (deeds ++ more)) (sym (push ∙ ap (λ x. old.figures ++ x ∷ []) is)) (prefixes_push (deeds ++ more) old.figures kept)

-- ---- what was read of it

-- the length at a place behind this one
abbrev at : ℕ → List ℕ → ℕ → ℕ
at z ks k = slice_index_or (z ∷ ks) k 0

abbrev shown_at : ℕ → List Deed → List ℕ → ℕ → Figures
shown_at z deeds ks k = slice_index_or (figures_in (take z deeds) ∷ map (λ k. figures_in (take k deeds)) ks) k zeros

shown_is : (z : ℕ) (deeds : List Deed) (ks : List ℕ) (k : ℕ) → k ≤ length ks → shown_at z deeds ks k ≡ figures_in (take (at z ks k) deeds)
shown_is z deeds ks zero le = refl
shown_is z deeds [] (suc k) le = absurd (omega arith)
shown_is z deeds (j ∷ ks) (suc k) le = shown_is j deeds ks k (omega arith)

first_below : (z : ℕ) (ks : List ℕ) (top j : ℕ) → IsRising z ks top → j ≤ length ks → z ≤ at z ks j
first_below z ks top zero r le = omega arith
first_below z [] top (suc j) r le = absurd (omega arith)
first_below z (k ∷ ks) top (suc j) r le = le_trans r.0 (first_below k ks top j r.1 (omega arith))

at_rises : (z : ℕ) (ks : List ℕ) (top i j : ℕ) → IsRising z ks top → i ≤ j → j ≤ length ks → at z ks i ≤ at z ks j
at_rises z ks top zero j r up le = first_below z ks top j r le
at_rises z ks top (suc i) zero r up le = absurd (omega arith)
at_rises z [] top (suc i) (suc j) r up le = absurd (omega arith)
at_rises z (k ∷ ks) top (suc i) (suc j) r up le = at_rises k ks top i j r.1 (omega arith) (omega arith)

at_below : (z : ℕ) (ks : List ℕ) (top j : ℕ) → IsRising z ks top → j ≤ length ks → at z ks j ≤ top
at_below z ks top zero r le = rising_below z ks top r
at_below z [] top (suc j) r le = absurd (omega arith)
at_below z (k ∷ ks) top (suc j) r le = at_below k ks top j r.1 (omega arith)

at_rising : (z : ℕ) (ks : List ℕ) (top low : ℕ) (ls : List ℕ) → IsRising z ks top → IsRising low ls (length ks) → IsRising (at z ks low) (map (at z ks) ls) top
at_rising z ks top low [] r l = at_below z ks top low r l
at_rising z ks top low (k ∷ ls) r l = (at_rises z ks top low k r l.0 (rising_below k ls (length ks) l.1), at_rising z ks top k ls r l.1)

all_shown : (deeds : List Deed) (ks : List ℕ) (low : ℕ) (ls : List ℕ) → IsRising low ls (length ks) → map (shown_at 0 deeds ks) ls ≡ map (λ k. figures_in (take k deeds)) (map (at 0 ks) ls)
all_shown deeds ks low [] r = refl
all_shown deeds ks low (k ∷ ls) r =
    let e : shown_at 0 deeds ks k ≡ figures_in (take (at 0 ks k) deeds) = shown_is 0 deeds ks k (rising_below k ls (length ks) r.1) in
    let f = all_shown deeds ks k ls r.1 in
    cc (e, f)

length_is : (deeds : List Deed) (ks : List ℕ) → length (map (λ k. figures_in (take k deeds)) ks) ≡ length ks
length_is deeds [] = refl
length_is deeds (k ∷ ks) = ap suc (length_is deeds ks)

of_lengths : (deeds : List Deed) (ks : List ℕ) (read : List Figures) → IsRising 0 ks (length deeds) → Reads (map (λ k. figures_in (take k deeds)) ks) read → AreOfPrefixes deeds read
of_lengths deeds ks read rising r =
    let within : IsRising 0 r.0 (length ks) = subst (IsRising 0 r.0) (length_is deeds ks) r.1 in
    record { lengths = map (at 0 ks) r.0; rising = at_rising 0 ks (length deeds) 0 r.0 rising within; are = r.2 ∙ all_shown deeds ks 0 r.0 within }

-- what was read of figures of prefixes are such
pub read_of : (deeds : List Deed) (posted read : List Figures) → AreOfPrefixes deeds posted → Reads posted read → AreOfPrefixes deeds read
read_of deeds posted read p r = of_lengths deeds p.lengths read p.rising (subst (λ l. Reads l read) p.are r)

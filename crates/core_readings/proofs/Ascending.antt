-- The records of a ring ascend: each begins where the one before it ends, or behind it. So those that begin up to a number are the first ones, and where one of the others ends up to a
-- number, all of these do.
use Rattle.std.proofs.Common.{◌≡◌, ℕ, ◌+◌, max, ◌<◌, ◌≤◌, ◌⊎◌, inl, inr, ⊎_elim, true, false, not, cond, nat_le, List, [], ◌∷◌, ◌++◌, length, take, drop, map, refl, sym, ap, ◌∙◌, subst, arith, length-append, append_assoc, append-nil}
use Rattle.std.specs.List.{filter}
use Rattle.std.proofs.Math.Seq.{take-append-add}
use Rattle.std.proofs.lemmas.Bool.{cases_lt, le-leb, lt-leb}
use Rattle.std.proofs.lemmas.List.{drop-append-le, length-map, map-append, take-map}
use Rattle.std.proofs.lemmas.List.Elements.{filter-append}
use Rattle.disk_definitions.specs.declared.log_sector.LogSector.{LogSector}
use Rattle.frang_base.specs.declared.change.Redo.{Redo}
use Rattle.ring_definitions.specs.RingRuns.{Placed}
use Rattle.ring_definitions.proofs.Laid.{IsLaid, IsRow}
use Rattle.ring_definitions.proofs.LaidReads.{Rising, redo_of, up_to, begun_by, up_to_first}

-- behind this number
abbrev pub Ascends : ℕ → List Placed → Type 0
Ascends t [] = Unit {0}
Ascends t (p ∷ ps) = (t ≤ p.first) × ((p.first ≤ p.last) × Ascends p.last ps)

ascends_less : (t u : ℕ) (ps : List Placed) → t ≤ u → Ascends u ps → Ascends t ps
ascends_less t u [] h a = tt
ascends_less t u (p ∷ ps) h a = (at p.first a.0, a.1)
  where
    at : (l : ℕ) → u ≤ l → t ≤ l
    at l g = omega arith

row_ascends : (n past e t u : ℕ) (here later : List Placed) → IsRow n past e t here → e ≤ u → Ascends u later → Ascends t (here ++ later)
row_ascends n past e t u [] later row h a = ascends_less t u later (at t e row h) a
  where
    at : (a b : ℕ) → a ≡ b → b ≤ u → a ≤ u
    at a b f g = omega arith
row_ascends n past e t u (p ∷ ps) later row h a = (up t p.first row.0.before row.0.first, (on p.first p.last row.0.first row.0.last, row_ascends n past e p.last u ps later row.1 h a))
  where
    up : (a f : ℕ) → a ≡ n → f ≡ n → a ≤ f
    up a f g k = omega arith

    on : (f l : ℕ) → f ≡ n → n ≤ l → f ≤ l
    on f l g k = omega arith

pub laid_ascends : (from till : ℕ) (over : List ℕ) (xs : List LogSector) (ps : List Placed) → IsLaid from over till xs ps → Ascends (max (from + 1) till) ps
laid_ascends from till over [] ps laid = subst (Ascends (max (from + 1) till)) (sym laid.1) tt
laid_ascends from till over (x ∷ xs) ps laid =
    subst (Ascends (max (from + 1) till)) (sym laid.split)
    (row_ascends (from + 1) (length laid.past) (max (from + 1) laid.end) (max (from + 1) till) (max (from + 1 + 1) laid.end) laid.here laid.later laid.row (at laid.end) (laid_ascends (from + 1) laid.end laid.past xs laid.later laid.rest))
  where
    at : (e : ℕ) → max (from + 1) e ≤ max (from + 1 + 1) e
    at e = omega arith

rising_of : (t : ℕ) (ps : List Placed) → Ascends t ps → Rising t ps
rising_of t [] a = tt
rising_of t (p ∷ ps) a = (at p.first p.last a.0 a.1.0, rising_of p.last ps a.1.1)
  where
    at : (f l : ℕ) → t ≤ f → f ≤ l → t ≤ l
    at f l g h = omega arith

-- ---- those that begin up to a number

-- the others
abbrev pub begun_behind : ℕ → List Placed → List Placed
begun_behind n ps = filter (λ p. not (nat_le p.first n)) ps

-- behind a greater number none begins
none_begin : (n t : ℕ) (ps : List Placed) → Ascends t ps → n < t → (begun_by n ps ≡ []) × (begun_behind n ps ≡ ps)
none_begin n t [] a h = (refl, refl)
none_begin n t (p ∷ ps) a h =
    let rest : (begun_by n ps ≡ []) × (begun_behind n ps ≡ ps) = none_begin n p.last ps a.1.1 (last p.first p.last a.0 a.1.0) in
    let test : nat_le p.first n ≡ false = lt-leb p.first n (first p.first a.0) in
    (ap (λ b. cond b (p ∷ begun_by n ps) (begun_by n ps)) test ∙ rest.0, ap (λ b. cond (not b) (p ∷ begun_behind n ps) (begun_behind n ps)) test ∙ ap (λ qs. p ∷ qs) rest.1)
  where
    first : (f : ℕ) → t ≤ f → n < f
    first f g = omega arith

    last : (f l : ℕ) → t ≤ f → f ≤ l → n < l
    last f l g k = omega arith

-- they stand in front of the others
pub begun_first : (n t : ℕ) (ps : List Placed) → Ascends t ps → ps ≡ begun_by n ps ++ begun_behind n ps
begun_first n t [] a = refl
begun_first n t (p ∷ ps) a = ⊎_elim behind (here (begun_first n p.last ps a.1.1)) (cases_lt n p.first)
  where
    here : ps ≡ begun_by n ps ++ begun_behind n ps → p.first ≤ n → p ∷ ps ≡ begun_by n (p ∷ ps) ++ begun_behind n (p ∷ ps)
    here rest h =
        let test : nat_le p.first n ≡ true = le-leb p.first n h in
        ap (λ qs. p ∷ qs) rest ∙ ap (λ b. cond b (p ∷ begun_by n ps) (begun_by n ps) ++ cond (not b) (p ∷ begun_behind n ps) (begun_behind n ps)) (sym test)

    behind : n < p.first → p ∷ ps ≡ begun_by n (p ∷ ps) ++ begun_behind n (p ∷ ps)
    behind h = done (none_begin n p.first (p ∷ ps) (at p.first, a.1) h)
      where
        at : (f : ℕ) → f ≤ f
        at f = omega arith

        done : (begun_by n (p ∷ ps) ≡ []) × (begun_behind n (p ∷ ps) ≡ p ∷ ps) → p ∷ ps ≡ begun_by n (p ∷ ps) ++ begun_behind n (p ∷ ps)
        done none = sym (ap (λ qs. qs ++ begun_behind n (p ∷ ps)) none.0 ∙ none.1)

-- ---- those that end up to a number

none_end : (n t : ℕ) (ps : List Placed) → Ascends t ps → n < t → up_to n ps ≡ []
none_end n t [] a h = refl
none_end n t (p ∷ ps) a h =
    let past : n < p.last = at p.first p.last a.0 a.1.0 in
    ap (λ b. cond b (p ∷ up_to n ps) (up_to n ps)) (lt-leb p.last n past) ∙ none_end n p.last ps a.1.1 past
  where
    at : (f l : ℕ) → t ≤ f → f ≤ l → n < l
    at f l g k = omega arith

no_second : {X : Type 0} (xs ys : List X) → xs ++ ys ≡ [] → ys ≡ []
no_second [] ys e = e
no_second (x ∷ xs) ys e = absurd (cc)

-- where one of those behind ends up to a number all in front do
pub front_ends : (n t : ℕ) (front back : List Placed) → Ascends t (front ++ back) → (up_to n back ≡ []) ⊎ (up_to n front ≡ front)
front_ends n t [] back a = inr refl
front_ends n t (p ∷ ps) back a = ⊎_elim behind (here (front_ends n p.last ps back a.1.1)) (cases_lt n p.last)
  where
    here : (up_to n back ≡ []) ⊎ (up_to n ps ≡ ps) → p.last ≤ n → (up_to n back ≡ []) ⊎ (up_to n (p ∷ ps) ≡ p ∷ ps)
    here rest h = go rest
      where
        go : (up_to n back ≡ []) ⊎ (up_to n ps ≡ ps) → (up_to n back ≡ []) ⊎ (up_to n (p ∷ ps) ≡ p ∷ ps)
        go (inl none) = inl none
        go (inr all) = inr (ap (λ b. cond b (p ∷ up_to n ps) (up_to n ps)) (le-leb p.last n h) ∙ ap (λ qs. p ∷ qs) all)

    behind : n < p.last → (up_to n back ≡ []) ⊎ (up_to n (p ∷ ps) ≡ p ∷ ps)
    behind h = inl (no_second (up_to n ps) (up_to n back) (sym (filter-append (λ q. nat_le q.last n) ps back) ∙ none_end n p.last (ps ++ back) a.1.1 h))

-- ---- what is read

-- of the records that the log had first and those that were laid since, as far as these end up to a number and without some of the first: those that begin behind another number are
-- whole, and in front of them are the others but for some of the first
module _ (first : List Redo) (ps : List Placed) (t : ℕ) (a : Ascends t ps) (given end : ℕ) where
  abbrev pub in_front : List Redo
  in_front = first ++ map redo_of (up_to end (begun_by given ps))

  abbrev pub behind : List Redo
  behind = map redo_of (up_to end (begun_behind given ps))

  all_ended : take (length first + length (up_to end ps)) (first ++ map redo_of ps) ≡ in_front ++ behind
  all_ended =
      take-append-add first (map redo_of ps) (length (up_to end ps))
      ∙ ap (λ rs. first ++ rs) (take-map redo_of (length (up_to end ps)) ps ∙ ap (map redo_of) (sym (up_to_first end t ps (rising_of t ps a))) ∙ parts)
      ∙ sym (append_assoc first (map redo_of (up_to end (begun_by given ps))) behind)
    where
      parts : map redo_of (up_to end ps) ≡ map redo_of (up_to end (begun_by given ps)) ++ behind
      parts = ap (λ qs. map redo_of (up_to end qs)) (begun_first given t ps a) ∙ ap (map redo_of) (filter-append (λ q. nat_le q.last end) (begun_by given ps) (begun_behind given ps)) ∙ map-append redo_of (up_to end (begun_by given ps)) (up_to end (begun_behind given ps))

  pub read_parts : (missing : ℕ) → missing ≤ length first + length (begun_by given ps) → drop missing (take (length first + length (up_to end ps)) (first ++ map redo_of ps)) ≡ drop missing in_front ++ behind
  read_parts missing few = ap (drop missing) all_ended ∙ go (front_ends end t (begun_by given ps) (begun_behind given ps) (subst (Ascends t) (begun_first given t ps a) a))
    where
      go : (up_to end (begun_behind given ps) ≡ []) ⊎ (up_to end (begun_by given ps) ≡ begun_by given ps) → drop missing (in_front ++ behind) ≡ drop missing in_front ++ behind
      go (inl none) =
          ap (λ qs. drop missing (in_front ++ map redo_of qs)) none ∙ ap (drop missing) (append-nil in_front) ∙ sym (append-nil (drop missing in_front)) ∙ ap (λ qs. drop missing in_front ++ map redo_of qs) (sym none)
      go (inr all) = drop-append-le missing in_front behind (subst (λ n. missing ≤ n) (sym size) few)
        where
          size : length in_front ≡ length first + length (begun_by given ps)
          size = length-append first (map redo_of (up_to end (begun_by given ps))) ∙ ap (λ n. length first + n) (length-map (up_to end (begun_by given ps)) redo_of ∙ ap length all)

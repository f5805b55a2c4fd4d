-- Faults that are gathered sector by sector and kind by kind ascend.
use Rattle.std.proofs.Common.{◌==◌, ◌≡◌, ℕ, zero, suc, ◌+◌, ◌*◌, ◌<◌, ◌≤◌, ⊎_elim, Bool, true, false, ◌&&◌, List, [], ◌∷◌, ◌++◌, refl, ◌∙◌, ap, subst, arith, nat_lt, lt-ltb, eq-eqb}
use Rattle.std.proofs.lemmas.Bool.{and_from, or_left, or_right, cases_lt}
use Rattle.disk_definitions.proofs.ParamLaws.{few_segments}
use Rattle.report_definitions.specs.Sums.{Fault, gathered}
use Rattle.report_definitions.specs.View.{View}
use Rattle.report_definitions.specs.Rules.{is_root_fine, is_sector_fine, are_entries_fine, is_count_fine, is_named_once, are_blocks_fine, are_bits_fine, is_segment_fine, is_mark_fine}
use Rattle.report_definitions.specs.Report.{Report, fault_unless, segment_faults, inode_faults, part_faults, faults_of, view_by}
use Rattle.report_definitions.specs.Laws.{is_before, ascend_from, are_ascending, FaultsAscend}

-- a sector and a kind below 10 as one number
abbrev key : Fault → ℕ
key f = 10 * f.0 + f.1

-- the keys rise, from the first number on and below the second
abbrev Rises : ℕ → ℕ → List Fault → Type 0
Rises from to [] = from ≤ to
Rises from to (f ∷ faults) = (from ≤ key f) × (f.1 < 10) × Rises (key f + 1) to faults

lower : (from mid to : ℕ) (xs : List Fault) → from ≤ mid → Rises mid to xs → Rises from to xs
lower from mid to [] l h = let m : mid ≤ to = h in omega arith
lower from mid to (f ∷ xs) l h = let m : mid ≤ key f = h.0 in (omega arith, h.1, h.2)

raised : (from mid to : ℕ) (xs : List Fault) → mid ≤ to → Rises from mid xs → Rises from to xs
raised from mid to [] l h = let m : from ≤ mid = h in omega arith
raised from mid to (f ∷ xs) l h = (h.0, h.1, raised (key f + 1) mid to xs l h.2)

joined : (from mid to : ℕ) (xs ys : List Fault) → Rises from mid xs → Rises mid to ys → Rises from to (xs ++ ys)
joined from mid to [] ys h k = lower from mid to ys h k
joined from mid to (f ∷ xs) ys h k = (h.0, h.1, joined (key f + 1) mid to xs ys h.2 k)

-- a fault of one sector and kind
one : (b : Bool) (sector kind : ℕ) → kind < 10 → Rises (10 * sector + kind) (10 * sector + (kind + 1)) (fault_unless b sector kind)
one true sector kind l = omega arith
one false sector kind l = let a : 10 * sector + kind ≤ 10 * sector + kind = omega arith in let b : 10 * sector + kind + 1 ≤ 10 * sector + (kind + 1) = omega arith in (a, l, b)

-- sectors one after another, and eight by eight
by_one : (first n : ℕ) (f : ℕ → List Fault) → ((i : ℕ) → Rises (10 * (first + i)) (10 * (first + i) + 10) (f i)) → Rises (10 * first) (10 * (first + n)) (gathered n f)
by_one first zero f h = omega arith
by_one first (suc n) f h =
    let e : 10 * (first + n) + 10 ≡ 10 * (first + suc n) = omega arith in
    subst (λ to. Rises (10 * first) to (gathered n f ++ f n)) e (joined (10 * first) (10 * (first + n)) (10 * (first + n) + 10) (gathered n f) (f n) (by_one first n f h) (h n))

by_eight : (first n : ℕ) (f : ℕ → List Fault) → ((i : ℕ) → Rises (10 * (first + i * 8)) (10 * (first + i * 8 + 8)) (f i)) → Rises (10 * first) (10 * (first + n * 8)) (gathered n f)
by_eight first zero f h = omega arith
by_eight first (suc n) f h =
    let e : 10 * (first + n * 8 + 8) ≡ 10 * (first + suc n * 8) = omega arith in
    subst (λ to. Rises (10 * first) to (gathered n f ++ f n)) e (joined (10 * first) (10 * (first + n * 8)) (10 * (first + n * 8 + 8)) (gathered n f) (f n) (by_eight first n f h) (h n))

module _ (v : View) (r : ℕ → Bool) where
  segment : (k : ℕ) → Rises (10 * (4294967296 + k)) (10 * (4294967296 + k) + 10) (segment_faults v r k)
  segment k =
      let s = 4294967296 + k in
      let a = fault_unless (are_bits_fine v r k) s 7 in
      let b = fault_unless (is_segment_fine v r k) s 8 in
      let c = fault_unless (is_mark_fine v r k) s 9 in
      lower (10 * s) (10 * s + 7) (10 * s + 10) ((a ++ b) ++ c) (omega arith)
      (joined (10 * s + 7) (10 * s + 9) (10 * s + 10) (a ++ b) c
      (joined (10 * s + 7) (10 * s + 8) (10 * s + 9) a b (one (are_bits_fine v r k) s 7 (omega arith)) (one (is_segment_fine v r k) s 8 (omega arith))) (one (is_mark_fine v r k) s 9 (omega arith)))

  inode : (i : ℕ) → Rises (10 * (10737418240 + i)) (10 * (10737418240 + i) + 10) (inode_faults v r i)
  inode i =
      let s = 10737418240 + i in
      let a = fault_unless (is_root_fine v i) s 1 in
      let b = fault_unless (is_count_fine v r i) s 4 in
      let c = fault_unless (is_named_once v r i) s 5 in
      let d = fault_unless (are_blocks_fine v r i) s 6 in
      let second : Rises (10 * s + 2) (10 * s + 5) b = lower (10 * s + 2) (10 * s + 4) (10 * s + 5) b (omega arith) (one (is_count_fine v r i) s 4 (omega arith)) in
      let fourth : Rises (10 * s + 6) (10 * s + 10) d = raised (10 * s + 6) (10 * s + 7) (10 * s + 10) d (omega arith) (one (are_blocks_fine v r i) s 6 (omega arith)) in
      lower (10 * s) (10 * s + 1) (10 * s + 10) (((a ++ b) ++ c) ++ d) (omega arith)
      (joined (10 * s + 1) (10 * s + 6) (10 * s + 10) ((a ++ b) ++ c) d
      (joined (10 * s + 1) (10 * s + 5) (10 * s + 6) (a ++ b) c
      (joined (10 * s + 1) (10 * s + 2) (10 * s + 5) a b (one (is_root_fine v i) s 1 (omega arith)) second) (one (is_named_once v r i) s 5 (omega arith))) fourth)

  part : (b p : ℕ) → Rises (10 * (12884901888 + b * 8 + p)) (10 * (12884901888 + b * 8 + p) + 10) (part_faults v r b p)
  part b p =
      let s = 12884901888 + b * 8 + p in
      let a = fault_unless (is_sector_fine v r b p) s 2 in
      let c = fault_unless (are_entries_fine v r b p) s 3 in
      lower (10 * s) (10 * s + 2) (10 * s + 10) (a ++ c) (omega arith)
      (raised (10 * s + 2) (10 * s + 4) (10 * s + 10) (a ++ c) (omega arith)
      (joined (10 * s + 2) (10 * s + 3) (10 * s + 4) a c (one (is_sector_fine v r b p) s 2 (omega arith)) (one (are_entries_fine v r b p) s 3 (omega arith))))

  block : (b : ℕ) → Rises (10 * (12884901888 + b * 8)) (10 * (12884901888 + b * 8 + 8)) (gathered 8 (part_faults v r b))
  block b = by_one (12884901888 + b * 8) 8 (part_faults v r b) (part b)

  all_rise : v.segments ≤ 64 → Rises 42949672960 (10 * (12884901888 + 1024 * v.segments * 8)) (faults_of v r)
  all_rise few =
      let xs = gathered v.segments (segment_faults v r) in
      let ys = gathered (64 * v.segments) (inode_faults v r) in
      let zs = gathered (1024 * v.segments) (λ b. gathered 8 (part_faults v r b)) in
      joined 42949672960 128849018880 (10 * (12884901888 + 1024 * v.segments * 8)) (xs ++ ys) zs
      (raised 42949672960 (10 * (10737418240 + 64 * v.segments)) 128849018880 (xs ++ ys) (omega arith)
      (joined 42949672960 107374182400 (10 * (10737418240 + 64 * v.segments)) xs ys
      (raised 42949672960 (10 * (4294967296 + v.segments)) 107374182400 xs (omega arith) (by_one 4294967296 v.segments (segment_faults v r) segment))
      (by_one 10737418240 (64 * v.segments) (inode_faults v r) inode)))
      (by_eight 12884901888 (1024 * v.segments) (λ b. gathered 8 (part_faults v r b)) block)

-- ---- what rises ascends

before_of : (a b : Fault) → a.1 < 10 → b.1 < 10 → key a + 1 ≤ key b → is_before a b ≡ true
before_of a b l w h = ⊎_elim
    (λ d. or_left (nat_lt a.0 b.0) (a.0 == b.0 && nat_lt a.1 b.1) (lt-ltb a.0 b.0 d))
    (λ d. (let e : a.0 ≡ b.0 = omega arith in let k : a.1 < b.1 = omega arith in or_right (nat_lt a.0 b.0) (a.0 == b.0 && nat_lt a.1 b.1) (and_from (a.0 == b.0) (nat_lt a.1 b.1) (eq-eqb a.0 b.0 e) (lt-ltb a.1 b.1 k))))
    (cases_lt a.0 b.0)

rising_from : (a : Fault) (to : ℕ) (xs : List Fault) → a.1 < 10 → Rises (key a + 1) to xs → ascend_from a xs ≡ true
rising_from a to [] l h = refl
rising_from a to (b ∷ xs) l h = and_from (is_before a b) (ascend_from b xs) (before_of a b l h.1 h.0) (rising_from b to xs h.1 h.2)

rising : (from to : ℕ) (xs : List Fault) → Rises from to xs → are_ascending xs ≡ true
rising from to [] h = refl
rising from to (a ∷ xs) h = rising_from a to xs h.1 h.2

pub faults_ascend : FaultsAscend
faults_ascend sectors report is =
    ap (λ (r : Report). are_ascending r.faults) is.is
    ∙ rising 42949672960 (10 * (12884901888 + 1024 * is.param.segments * 8)) (faults_of (view_by is.param sectors) is.reached) (all_rise (view_by is.param sectors) is.reached (few_segments (sectors 0) is.param is.parameters))

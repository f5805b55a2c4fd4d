-- Flags of the blocks of directories and of repeated names tell which parts are fine.
use Rattle.std.proofs.Common.{◌==◌, ◌≡◌, ℕ, zero, suc, ◌+◌, ◌*◌, ◌/◌, ◌%◌, ◌<◌, ◌≤◌, ⊎_elim, Bool, true, false, not, ◌&&◌, ◌||◌, Option, Some, None, List, length, replicate, cond, refl, sym, ◌∙◌, ap, subst, arith, eqb-true, eq-eqb, get_or}
use Rattle.std.proofs.lemmas.Bool.{and_parts, and_from, or_cases, or_left, or_right, not-true, not_from_false, both_ways, cond-true, cond-false}
use Rattle.frang_base.proofs.Tests.{same_tests}
use Rattle.disk_definitions.specs.Store.{Store, StoredNode}
use Rattle.standing_laws.specs.Below.{all_below, holds, lists}
use Rattle.standing_laws.specs.ReadTree.{place_at}
use Rattle.standing_laws.proofs.Bounded.{all_at, all_from, any_at, any_from, holds_at, holds_from, lists_at, lists_from}
use Rattle.disk_reading.specs.Marks.{flag_at}
use Rattle.disk_reading.specs.Reach.{AreFlaggedOn}
use Rattle.report_definitions.specs.View.{View}
use Rattle.report_definitions.specs.Rules.{directory_block, wherever, is_new_at, is_new_in, is_new_name, names_well, is_sector_fine, are_entries_fine}
use Rattle.report_definitions.proofs.Wherever.{block_of_directory, directory_of_block, wherever_at, wherever_from}
use Rattle.report_rules.specs.Directories.{directory_row}
use Rattle.report_rules.specs.Repeats.{repeat_at, repeats_in, repeats_to}

-- ---- flags of a fresh list

unset : (n k : ℕ) → get_or (replicate n false) k false ≡ false
unset zero k = refl
unset (suc n) zero = refl
unset (suc n) (suc k) = unset n k

length_unset : (n : ℕ) → length (replicate n false) ≡ n
length_unset zero = refl
length_unset (suc n) = ap suc (length_unset n)

-- flags over none
pub flags_are : (n : ℕ) (more : ℕ → Bool) (flags : List Bool) → AreFlaggedOn more (replicate n false) flags → (k : ℕ) → k < n → flag_at flags k ≡ more k
flags_are n more flags a k l = a.each k (let e : length (replicate n false) ≡ n = length_unset n in omega arith) ∙ ap (λ b. b || more k) (unset n k)

-- ---- the part of a directory's place, and the place of a part

module _ (v : View) (r : ℕ → Bool) (few : (d : ℕ) (x : StoredNode) → v.store.inode d ≡ Some x → x.kind ≡ 2 → x.blocks ≤ 16) (b : ℕ) where
  abbrev s : Store
  s = v.store

  abbrev owned : Bool
  owned = lists (directory_row s r) (1024 * v.segments) b

  row_at : (d j : ℕ) → j < 16 → r d ≡ true → directory_row s r (16 * d + j) ≡ directory_block s d j
  row_at d j l e =
      let a : (16 * d + j) / 16 ≡ d = omega arith in
      let c : (16 * d + j) % 16 ≡ j = omega arith in
      ap (λ (n : ℕ). cond (r n) (directory_block s n ((16 * d + j) % 16)) None) a ∙ ap (λ (n : ℕ). cond (r d) (directory_block s d n) None) c ∙ cond-true (r d) (directory_block s d j) None e

  owned_from : (d j : ℕ) → d < 64 * v.segments → j < 16 → r d ≡ true → holds (directory_block s d j) b ≡ true → owned ≡ true
  owned_from d j l w e h = lists_from (directory_row s r) (1024 * v.segments) b (16 * d + j) (omega arith) (row_at d j w e ∙ holds_at (directory_block s d j) b h)

  -- a directory that is reached has the block
  pub record Owner : Type 0 where
    pub dir : ℕ
    pub index : ℕ
    pub below : dir < 64 * v.segments
    pub within : index < 16
    pub reached : r dir ≡ true
    pub has : holds (directory_block s dir index) b ≡ true

  owner_at : owned ≡ true → Owner
  owner_at h =
      let t = lists_at (directory_row s r) (1024 * v.segments) b h in
      let l : t.0 < 1024 * v.segments = t.1 in
      go t.0 l (r (t.0 / 16)) refl t.2
    where
      go : (t : ℕ) → t < 1024 * v.segments → (c : Bool) → r (t / 16) ≡ c → cond (r (t / 16)) (directory_block s (t / 16) (t % 16)) None ≡ Some b → Owner
      go t l true e h = record {
        dir = t / 16;
        index = t % 16;
        below = omega arith;
        within = omega arith;
        reached = e;
        has = holds_from (directory_block s (t / 16) (t % 16)) b (sym (cond-true (r (t / 16)) (directory_block s (t / 16) (t % 16)) None e) ∙ h);
      }
      go t l false e h = absurd (let z : None ≡ Some b = sym (cond-false (r (t / 16)) (directory_block s (t / 16) (t % 16)) None e) ∙ h in cc)

  -- a test of the block alone
  plain : (test : Bool) → (not owned || test) ≡ wherever v r b (λ d j. test)
  plain test = same_tests (not owned || test) (wherever v r b (λ d j. test))
      (λ h. wherever_from v r b (λ d j. test) (λ d j l w e t. ⊎_elim (λ n. absurd (both_ways owned (not-true owned n) (owned_from d j l w e t))) (λ y. y) (or_cases (not owned) test h)))
      (λ h. back h owned refl)
    where
      back : wherever v r b (λ d j. test) ≡ true → (c : Bool) → owned ≡ c → (not owned || test) ≡ true
      back h true e = let o = owner_at e in or_right (not owned) test (wherever_at v r b (λ d j. test) h o.dir o.index o.below o.within o.reached o.has)
      back h false e = or_left (not owned) test (not_from_false owned e)

  -- each entry of a part names well
  pub entries_fine : (p : ℕ) (flag test : Bool) → flag ≡ owned → test ≡ all_below 7 (λ t. names_well s (s.place b (7 * p + t))) → (not flag || test) ≡ are_entries_fine v r b p
  entries_fine p flag test e h = ap (λ (x : Bool). not x || test) e ∙ ap (λ (x : Bool). not owned || x) h ∙ plain (all_below 7 (λ t. names_well s (s.place b (7 * p + t))))

  -- ---- repeated names

  module _ (p : ℕ) where
    abbrev repeated : Bool
    repeated = repeats_to s r (64 * v.segments) (8 * b + p)

    abbrev all_new : ℕ → ℕ → Bool
    all_new d j = all_below 7 (λ t. is_new_name s d (56 * j + (7 * p + t)))

    place_of_part : (x : StoredNode) (j t : ℕ) → p < 8 → t < 7 → x.small j ≡ b → is_new_at (place_at s x) (56 * j + (7 * p + t)) (place_at s x (56 * j + (7 * p + t))) ≡ false → repeat_at (place_at s x) x.small (56 * j + (7 * p + t)) ≡ Some (8 * b + p)
    place_of_part x j t l w e n =
        let q : ℕ = 56 * j + (7 * p + t) in
        let a : (56 * j + (7 * p + t)) / 56 ≡ j = omega arith in
        let c : (56 * j + (7 * p + t)) % 56 / 7 ≡ p = omega arith in
        cond-false (is_new_at (place_at s x) (56 * j + (7 * p + t)) (place_at s x (56 * j + (7 * p + t)))) None (Some (8 * x.small ((56 * j + (7 * p + t)) / 56) + (56 * j + (7 * p + t)) % 56 / 7)) n
        ∙ ap (λ (k : ℕ). Some (8 * x.small k + (56 * j + (7 * p + t)) % 56 / 7)) a ∙ ap (λ (k : ℕ). Some (8 * k + (56 * j + (7 * p + t)) % 56 / 7)) e ∙ ap (λ (k : ℕ). Some (8 * b + k)) c

    repeats_from : (d j t : ℕ) → p < 8 → d < 64 * v.segments → t < 7 → r d ≡ true → holds (directory_block s d j) b ≡ true → is_new_name s d (56 * j + (7 * p + t)) ≡ false → repeated ≡ true
    repeats_from d j t lp l w e h n =
        let x = directory_of_block (s.inode d) j b h in
        let y : StoredNode = x.0 in
        let i : s.inode d ≡ Some y = x.1 in
        let jl : j < y.blocks = x.3 in
        let new : is_new_at (place_at s y) (56 * j + (7 * p + t)) (place_at s y (56 * j + (7 * p + t))) ≡ false = sym (ap (λ (o : Option StoredNode). is_new_in s o (56 * j + (7 * p + t))) i) ∙ n in
        let within : 56 * j + (7 * p + t) < 56 * y.blocks = omega arith in
        any_from (64 * v.segments) (λ d. r d && repeats_in s (s.inode d) (8 * b + p)) d l (and_from (r d) (repeats_in s (s.inode d) (8 * b + p)) e
        (ap (λ (o : Option StoredNode). repeats_in s o (8 * b + p)) i ∙ and_from (y.kind == 2) (lists (repeat_at (place_at s y) y.small) (56 * y.blocks) (8 * b + p)) (eq-eqb y.kind 2 x.2)
        (lists_from (repeat_at (place_at s y) y.small) (56 * y.blocks) (8 * b + p) (56 * j + (7 * p + t)) within (place_of_part y j t lp w x.4 new))))

    -- a name of the part stands before in a directory that is reached
    pub record Repeat : Type 0 where
      pub dir : ℕ
      pub index : ℕ
      pub place : ℕ
      pub below : dir < 64 * v.segments
      pub within : index < 16
      pub short : place < 7
      pub reached : r dir ≡ true
      pub has : holds (directory_block s dir index) b ≡ true
      pub stands : is_new_name s dir (56 * index + (7 * p + place)) ≡ false

    part_of : (n q : ℕ) → p < 8 → 8 * n + q % 56 / 7 ≡ 8 * b + p → (n ≡ b) × (q ≡ 56 * (q / 56) + (7 * p + q % 7))
    part_of n q l e =
        let m : q % 56 / 7 < 8 = omega arith in
        let a : n ≡ b = omega arith in
        (a, omega arith)

    repeat_of : (d : ℕ) (x : StoredNode) (q : ℕ) → p < 8 → d < 64 * v.segments → r d ≡ true → s.inode d ≡ Some x → x.kind ≡ 2 → q < 56 * x.blocks → (c : Bool) → is_new_at (place_at s x) q (place_at s x q) ≡ c → cond c None (Some (8 * x.small (q / 56) + q % 56 / 7)) ≡ Some (8 * b + p) → Repeat
    repeat_of d x q lp l e i k w true n h = absurd (cc)
    repeat_of d x q lp l e i k w false n h =
        let f : x.blocks ≤ 16 = few d x i k in
        let z : 8 * x.small (q / 56) + q % 56 / 7 ≡ 8 * b + p = cc in
        let g = part_of (x.small (q / 56)) q lp z in
        let y : holds (directory_block s d (q / 56)) (x.small (q / 56)) ≡ true = block_of_directory (s.inode d) x (q / 56) i k (omega arith) in
        record {
          dir = d;
          index = q / 56;
          place = q % 7;
          below = l;
          within = omega arith;
          short = omega arith;
          reached = e;
          has = subst (λ (m : ℕ). holds (directory_block s d (q / 56)) m ≡ true) g.0 y;
          stands = subst (λ (m : ℕ). is_new_name s d m ≡ false) g.1 (ap (λ (o : Option StoredNode). is_new_in s o q) i ∙ n);
        }

    repeat_in : (d : ℕ) (o : Option StoredNode) → p < 8 → d < 64 * v.segments → r d ≡ true → s.inode d ≡ o → repeats_in s o (8 * b + p) ≡ true → Repeat
    repeat_in d None lp l e i h = absurd (cc)
    repeat_in d (Some x) lp l e i h =
        let c = and_parts (x.kind == 2) (lists (repeat_at (place_at s x) x.small) (56 * x.blocks) (8 * b + p)) h in
        let q = lists_at (repeat_at (place_at s x) x.small) (56 * x.blocks) (8 * b + p) c.1 in
        repeat_of d x q.0 lp l e i (eqb-true x.kind 2 c.0) q.1 (is_new_at (place_at s x) q.0 (place_at s x q.0)) refl q.2

    repeat_found : p < 8 → repeated ≡ true → Repeat
    repeat_found lp h =
        let d = any_at (64 * v.segments) (λ d. r d && repeats_in s (s.inode d) (8 * b + p)) h in
        let c = and_parts (r d.0) (repeats_in s (s.inode d.0) (8 * b + p)) d.2 in
        repeat_in d.0 (s.inode d.0) lp d.1 c.0 refl c.1

    abbrev fits : Bool
    fits = v.is_directory b p

    abbrev fine : ℕ → ℕ → Bool
    fine d j = fits && all_new d j

    both_fine : p < 8 → ((not owned || fits) && not repeated) ≡ wherever v r b fine
    both_fine lp = same_tests ((not owned || fits) && not repeated) (wherever v r b fine) there back
      where
        new_from : not repeated ≡ true → (d j t : ℕ) → d < 64 * v.segments → t < 7 → r d ≡ true → holds (directory_block s d j) b ≡ true → (c : Bool) → is_new_name s d (56 * j + (7 * p + t)) ≡ c → is_new_name s d (56 * j + (7 * p + t)) ≡ true
        new_from h d j t l w e o true n = n
        new_from h d j t l w e o false n = absurd (both_ways repeated (not-true repeated h) (repeats_from d j t lp l w e o n))

        there : ((not owned || fits) && not repeated) ≡ true → wherever v r b fine ≡ true
        there h =
            let c = and_parts (not owned || fits) (not repeated) h in
            wherever_from v r b fine (λ d j l w e o. and_from fits (all_new d j)
            (⊎_elim (λ n. absurd (both_ways owned (not-true owned n) (owned_from d j l w e o))) (λ y. y) (or_cases (not owned) fits c.0))
            (all_from 7 (λ t. is_new_name s d (56 * j + (7 * p + t))) (λ t m. new_from c.1 d j t l m e o (is_new_name s d (56 * j + (7 * p + t))) refl)))

        own : wherever v r b fine ≡ true → (c : Bool) → owned ≡ c → (not owned || fits) ≡ true
        own h true e = let o = owner_at e in or_right (not owned) fits (and_parts fits (all_new o.dir o.index) (wherever_at v r b fine h o.dir o.index o.below o.within o.reached o.has)).0
        own h false e = or_left (not owned) fits (not_from_false owned e)

        no_repeat : wherever v r b fine ≡ true → (c : Bool) → repeated ≡ c → not repeated ≡ true
        no_repeat h true e = absurd (
            let o = repeat_found lp e in
            let a : all_new o.dir o.index ≡ true = (and_parts fits (all_new o.dir o.index) (wherever_at v r b fine h o.dir o.index o.below o.within o.reached o.has)).1 in
            both_ways (is_new_name s o.dir (56 * o.index + (7 * p + o.place))) o.stands (all_at 7 (λ t. is_new_name s o.dir (56 * o.index + (7 * p + t))) a o.place o.short))
        no_repeat h false e = not_from_false repeated e

        back : wherever v r b fine ≡ true → ((not owned || fits) && not repeated) ≡ true
        back h = and_from (not owned || fits) (not repeated) (own h owned refl) (no_repeat h repeated refl)

    -- a part is in the grammar, and no name in it stands before
    pub sector_fine : p < 8 → (flag read found : Bool) → flag ≡ owned → read ≡ fits → found ≡ repeated → ((not flag || read) && not found) ≡ is_sector_fine v r b p
    sector_fine lp flag read found e g h =
        ap (λ (x : Bool). (not x || read) && not found) e ∙ ap (λ (x : Bool). (not owned || x) && not found) g ∙ ap (λ (x : Bool). (not owned || fits) && not x) h ∙ both_fine lp

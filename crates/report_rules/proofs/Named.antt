-- A directory's names, place by place: how many they are at most, and which parts are flagged.
use Rattle.std.proofs.Common.{◌≡◌, ℕ, ◌+◌, ◌<◌, ◌≤◌, Bool, false, ◌||◌, Option, Some, None, List, [], ◌∷◌, length, refl, sym, ◌∙◌, ap, arith, Ordering, Less, Equal, Greater}
use Rattle.std.specs.Ordering.{match_ordering, nat_cmp}
use Rattle.std.specs.BTreeMap.{insert_entry}
use Rattle.std.specs.Cmp.Lexicographic.{slice_cmp}
use mathlib.Core.Bool.{or-false, or_assoc}
use Rattle.tree_definitions.specs.Entries.{Entries}
use Rattle.disk_definitions.specs.Store.{StoredEntry}
use Rattle.standing_laws.specs.Below.{any_below}
use Rattle.standing_laws.specs.ReadTree.{with_place}
use Rattle.standing_laws.proofs.Bounded.{any_more}
use Rattle.disk_reading.specs.Marks.{flag_at}
use Rattle.disk_reading.specs.Reach.{AreFlaggedOn}

length_most : (es : Entries) (k : List ℕ) (v : ℕ) → length (insert_entry (slice_cmp nat_cmp) es k v) ≤ length es + 1
length_most [] k v = omega arith
length_most (e ∷ es) k v = go (length_most es k v) (slice_cmp nat_cmp k e.0)
  where
    go : length (insert_entry (slice_cmp nat_cmp) es k v) ≤ length es + 1 → (o : Ordering) → length (match_ordering o ((k, v) ∷ e ∷ es) ((e.0, v) ∷ es) (e ∷ insert_entry (slice_cmp nat_cmp) es k v)) ≤ length (e ∷ es) + 1
    go f Less = omega arith
    go f Equal = omega arith
    go f Greater = omega arith

-- the names of a place are one more at most
pub few_more : (es : Entries) (o : Option StoredEntry) → length (with_place es o) ≤ length es + 1
few_more es None = omega arith
few_more es (Some e) = length_most es e.name e.inode

-- ---- flags

-- nothing passes
pub flagged_nothing : (more : ℕ → Bool) (flags : List Bool) → ((k : ℕ) → more k ≡ false) → AreFlaggedOn more flags flags
flagged_nothing more flags h = record { long = refl; each = λ k l. sym (or-false (flag_at flags k)) ∙ ap (λ b. flag_at flags k || b) (sym (h k)) }

-- what passes a test, and then what passes another
pub flagged_more : (p : ℕ → ℕ → Bool) (n : ℕ) (a b c : List Bool) → AreFlaggedOn (λ k. any_below n (λ d. p d k)) a b → AreFlaggedOn (p n) b c → AreFlaggedOn (λ k. any_below (n + 1) (λ d. p d k)) a c
flagged_more p n a b c h g = record { long = g.long ∙ h.long; each = each }
  where
    each : (k : ℕ) → k < length a → flag_at c k ≡ (flag_at a k || any_below (n + 1) (λ d. p d k))
    each k l =
        let m : length b ≡ length a = h.long in
        let w : k < length b = omega arith in
        g.each k w ∙ ap (λ x. x || p n k) (h.each k l) ∙ or_assoc (flag_at a k) (any_below n (λ d. p d k)) (p n k) ∙ ap (λ x. flag_at a k || x) (sym (any_more n (λ d. p d k)))

-- What one value more names has its flag too.
use Rattle.std.proofs.Common.{◌≡◌, ◌==◌, ◌<◌, ℕ, Bor, Bool, true, false, ◌||◌, List, [], ◌∷◌, ◌++◌, map, refl, sym, ◌∙◌, ap, subst}
use mathlib.Core.Bool.{or-false, or_assoc}
use Rattle.disk_reading.specs.Marks.{flag_at}
use Rattle.disk_reading.specs.Reach.{AreFlaggedOn, has_value}
use Rattle.disk_reading.proofs.reached.reach_entries.Goals as goal

value_more : {R : Type 0} (number : R → ℕ) (xs : List R) (r : R) (k : ℕ) → has_value (map number (xs ++ r ∷ [])) k ≡ (has_value (map number xs) k || (number r == k))
value_more number [] r k = or-false (number r == k)
value_more number (x ∷ xs) r k = ap (λ b. (number x == k) || b) (value_more number xs r k) ∙ sym (or_assoc (number x == k) (has_value (map number xs) k) (number r == k))

flagged_more : {R : Type 0} (number : R → ℕ) (xs : List R) (r : R) (before flags new : List Bool) → AreFlaggedOn (has_value (map number xs)) before flags → AreFlaggedOn (λ k. number r == k) flags new
    → AreFlaggedOn (has_value (map number (xs ++ r ∷ []))) before new
flagged_more number xs r before flags new a b = record {
  long = b.long ∙ a.long;
  each = λ k h. b.each k (subst (λ n. k < n) (sym a.long) h) ∙ ap (λ t. t || (number r == k)) (a.each k h)
      ∙ or_assoc (flag_at before k) (has_value (map number xs) k) (number r == k) ∙ ap (λ t. flag_at before k || t) (sym (value_more number xs r k));
}

pub loop-birth-preserved : goal.loop-birth-preserved
loop-birth-preserved c = flagged_more (λ (r : Bor ℕ). r.now) c.loop-birth.yielded c.in-Some.birth c.args.flags.now c.loop-birth.flags c.reach.new.flags c.loop-birth.invariant c.reach.ensures

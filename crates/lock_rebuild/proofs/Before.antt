-- Locks that lie before a clash.
use Rattle.std.proofs.Common.{◌≡◌, Bool, true, false, Option, Some, None, refl, sym, ap, ◌∙◌}
use Rattle.std.specs.Ordering.{is_lt, is_eq}
use Rattle.std.specs.declared.cmp.Ordering.{Ordering}
use Rattle.std.specs.declared.cmp.Ordering.TheVariants.{Less, Equal, Greater}
use Rattle.std.proofs.lemmas.Bool.{false≢true}
use Rattle.frang_base.specs.declared.lock.LockId.{LockId}
use Rattle.lock_definitions.specs.Order.{lock_cmp, is_lock}
use Rattle.lock_definitions.proofs.LockOrder.{lock_total, found_lock}
use Rattle.lock_rebuild.specs.Steps.{is_before}

pub is_less : (o : Ordering) → is_lt o ≡ true → o ≡ Less
is_less Less e = refl
is_less Equal e = absurd (false≢true e)
is_less Greater e = absurd (false≢true e)

not_equal : (o : Ordering) → is_lt o ≡ true → is_eq o ≡ false
not_equal Less e = refl
not_equal Equal e = absurd (false≢true e)
not_equal Greater e = absurd (false≢true e)

-- a lesser lock is another one
pub less_apart : (q lock : LockId) → is_before q (Some lock) ≡ true → is_lock q lock ≡ false
less_apart q lock e = not_equal (lock_cmp q lock) e

-- what lies before a lock that lies before a clash lies before it too
pub before_both : (q lock : LockId) (c : Option LockId) → is_before lock c ≡ true → is_before q (Some lock) ≡ true → is_before q c ≡ true
before_both q lock None e f = refl
before_both q lock (Some clash) e f = ap is_lt (lock_total.trans q lock clash (is_less (lock_cmp q lock) f) (is_less (lock_cmp lock clash) e))

-- of two locks of which one alone lies before a clash the two are not the same
pub before_apart : (q lock : LockId) (c : Option LockId) → is_before q c ≡ true → is_before lock c ≡ false → is_lock q lock ≡ false
before_apart q lock c e f = go (is_lock q lock) refl
  where
    go : (b : Bool) → is_lock q lock ≡ b → b ≡ false
    go false is = refl
    go true is = absurd (false≢true (sym f ∙ ap (λ l. is_before l c) (found_lock q lock is) ∙ e))

-- What comes next of a server's lives, writes and locks, by the guards.
use Rattle.std.proofs.Common.{◌≡◌, ℕ, true, false, not, ◌∙◌, sym}
use Rattle.std.proofs.lemmas.Bool.{and_from, false≢true}
use Rattle.frang_base.specs.declared.lock.LockId.{LockId}
use Rattle.core_definitions.specs.Cores.{Core, writes}
use Rattle.core_definitions.specs.EndGuards.{CanFinish, may_finish}
use Rattle.core_definitions.specs.WriteGuards.{CanDie, CanDoom, CanIssue, CanRenew, CanResume, is_at_last, is_issuable, may_die, may_doom, may_give, may_issue, may_renew, may_resume}
use Rattle.world_next.specs.NoEvents.{NoneOfLocks, NoneOfWrites}
use Rattle.core_laws.proofs.Guarding.{Of2, die_may, doom_may, finish_may, give_may, issuable_can, issuable_may, of_2, renew_may, resume_may}

module _ (c : Core) (a : ℕ) where
  pub dooms_not : may_doom c a (writes c a) ≡ false → CanDoom c a → ⊥
  dooms_not bars can = false≢true (sym bars ∙ doom_may c a can)

  pub dies_not : may_die c a ≡ false → CanDie c a → ⊥
  dies_not bars can = false≢true (sym bars ∙ die_may c a can)

  pub renews_not : may_renew c a ≡ false → CanRenew c a → ⊥
  renews_not bars can = false≢true (sym bars ∙ renew_may c a can)

  pub resumes_not : may_resume c a ≡ false → CanResume c a → ⊥
  resumes_not bars can = false≢true (sym bars ∙ resume_may c a can)

  pub finishes_not : may_finish c a ≡ false → CanFinish c a → ⊥
  finishes_not bars can = false≢true (sym bars ∙ finish_may c a can)

  pub gives_nothing : ((lock : LockId) → may_give c a lock ≡ false) → NoneOfLocks c a
  gives_nothing none lock can = false≢true (sym (none lock) ∙ give_may c a lock can)

  pub issues : (sector : ℕ) → may_issue c a sector (writes c a) ≡ true → CanIssue c a sector
  issues sector may =
      let both : Of2 (is_issuable c a sector (writes c a)) (not (is_at_last (c.servers a).arming)) = of_2 (is_issuable c a sector (writes c a)) (not (is_at_last (c.servers a).arming)) may in
      record { issuable = issuable_can c a sector (writes c a) both.p0; unarmed = both.p1 }

  pub issues_nothing : ((sector : ℕ) → may_issue c a sector (writes c a) ≡ false) → NoneOfWrites c a
  issues_nothing none sector can =
      false≢true (sym (none sector) ∙ and_from (is_issuable c a sector (writes c a)) (not (is_at_last (c.servers a).arming)) (issuable_may c a sector (writes c a) can.issuable) can.unarmed)

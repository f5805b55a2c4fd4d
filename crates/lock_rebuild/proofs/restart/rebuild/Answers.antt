-- The lists are put into a table one after the other; a clash that was seen is the least, and else the table is the one that is rebuilt.
use Rattle.std.proofs.Common.{◌≡◌, List, Result, Ok, Err, sym, ap, ◌∙◌, subst}
use Rattle.frang_base.specs.declared.lock.LockId.{LockId}
use Rattle.frang_base.specs.declared.sector.ServerId.{ServerId}
use Rattle.lock_definitions.specs.declared.lists.ClerkLocks.{ClerkLocks}
use Rattle.lock_rebuild.specs.Lists.{IsLeastClash}
use Rattle.lock_rebuild.specs.declared.restart.RebuildFault.{RebuildFault}
use Rattle.lock_rebuild.specs.declared.restart.RebuildFault.TheVariants.{Clash, NoMemory}
use Rattle.lock_rebuild.specs.Steps.{with_all_wishes}
use Rattle.lock_rebuild.proofs.Whole.{put_in, least, none_seen, no_clash, rebuilt}
use Rattle.lock_rebuild.proofs.restart.rebuild.Goals as goal

-- the lock and the numbers of a clash
module _ {T : Type 0} (lock : LockId) (first second : ServerId) where
  abbrev lock_shown : Result T RebuildFault → LockId
  lock_shown (Err (Clash l a b)) = l
  lock_shown (Err NoMemory) = lock
  lock_shown (Ok t) = lock

  abbrev first_shown : Result T RebuildFault → ServerId
  first_shown (Err (Clash l a b)) = a
  first_shown (Err NoMemory) = first
  first_shown (Ok t) = first

  abbrev second_shown : Result T RebuildFault → ServerId
  second_shown (Err (Clash l a b)) = b
  second_shown (Err NoMemory) = second
  second_shown (Ok t) = second

shown : {T : Type 0} (clerks : List ClerkLocks) (lock q : LockId) (first second a b : ServerId) → IsLeastClash clerks lock first.0 second.0 → ◌≡◌ {A = Result T RebuildFault} (Err (Clash lock first second)) (Err (Clash q a b)) → IsLeastClash clerks q a.0 b.0
shown clerks lock q first second a b is same =
    subst (λ l. IsLeastClash clerks l a.0 b.0) (ap (lock_shown lock first second) same)
    (subst (λ s. IsLeastClash clerks lock s.0 b.0) (ap (first_shown lock first second) same) (subst (λ s. IsLeastClash clerks lock first.0 s.0) (ap (second_shown lock first second) same) is))

pub unreachable-requires : goal.unreachable-requires
unreachable-requires c =
    let clerks = c.args.clerks.now in
    let numbered = c.in_ok-put_all_holds.ensures.numbered in
    let taken = put_in clerks c.requires numbered c.new-at.result c.put_all_holds.new.self c.put_all_logs.new.self c.new-at.ensures c.in_ok-put_all_holds.ensures.holds c.put_all_logs.ensures in
    none_seen clerks c.requires numbered c.in-Some.lock (sym (c.finish-table.ensures.clash ∙ ap (λ at. at.clash) taken) ∙ c.in-Some.is) (c.clash_at.ensures.none c.in-None.is)

pub returns-in-Some-clause-clash : goal.returns-in-Some-clause-clash
returns-in-Some-clause-clash c =
    let clerks = c.args.clerks.now in
    let numbered = c.in_ok-put_all_holds.ensures.numbered in
    let taken = put_in clerks c.requires numbered c.new-at.result c.put_all_holds.new.self c.put_all_logs.new.self c.new-at.ensures c.in_ok-put_all_holds.ensures.holds c.put_all_logs.ensures in
    let found = c.in-Some-clash_at.ensures.least in
    λ lock first second same. shown clerks c.in-Some.lock lock c.in-Some-clash_at.first c.in-Some-clash_at.second first second
    (least clerks c.requires numbered c.in-Some.lock (sym (c.finish-table.ensures.clash ∙ ap (λ at. at.clash) taken) ∙ c.in-Some.is) c.in-Some-clash_at.first.0 c.in-Some-clash_at.second.0 found.0 found.1 found.2) same

pub returns-clause-table : goal.returns-clause-table
returns-clause-table c =
    let clerks = c.args.clerks.now in
    let numbered = c.in_ok-put_all_holds.ensures.numbered in
    let taken = put_in clerks c.requires numbered c.new-at.result c.put_all_holds.new.self c.put_all_logs.new.self c.new-at.ensures c.in_ok-put_all_holds.ensures.holds c.put_all_logs.ensures in
    rebuilt clerks c.requires numbered (sym (c.finish-table.ensures.clash ∙ ap (λ at. at.clash) taken) ∙ c.in_default.is) c.put_all_wishes.new.table.locks
    (c.in_ok-put_all_wishes.ensures ∙ ap (λ locks. with_all_wishes locks clerks) (c.finish-table.ensures.table ∙ ap (λ at. at.locks) taken))

pub returns-clause-none : goal.returns-clause-none
returns-clause-none c =
    let clerks = c.args.clerks.now in
    let numbered = c.in_ok-put_all_holds.ensures.numbered in
    let taken = put_in clerks c.requires numbered c.new-at.result c.put_all_holds.new.self c.put_all_logs.new.self c.new-at.ensures c.in_ok-put_all_holds.ensures.holds c.put_all_logs.ensures in
    no_clash clerks c.requires numbered (sym (c.finish-table.ensures.clash ∙ ap (λ at. at.clash) taken) ∙ c.in_default.is)

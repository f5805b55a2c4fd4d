-- What is found of a finished plan is among its locks, over the disk of a tree.
use Rattle.std.proofs.Common.{◌≡◌, ℕ, ◌<◌, Bool, true, false, if◌then◌else◌, Option, Some, None, is_some, List, [], ◌∷◌, ◌++◌, filter, refl, sym, ◌∙◌, ap, subst, ⊎_elim, inl, inr}
use Rattle.std.specs.List.{AllByRecursion, Contains}
use Rattle.std.specs.Map.{keys_of}
use Rattle.frang_base.specs.declared.lock.LockId.{LockId}
use Rattle.frang_base.specs.declared.lock.LockId.TheVariants as lock
use Rattle.frang_base.specs.declared.reply.Reply.{Reply}
use Rattle.disk_definitions.specs.Naming.{Naming}
use Rattle.disk_definitions.specs.Store.{Store, StoredNode}
use Rattle.disk_definitions.specs.Edits.{Edit}
use Rattle.disk_definitions.specs.Edits.Edit.{SetInode, SetBit, SetUse, SetPlace, SetLarge, SetBytes, SetLargeBytes}
use Rattle.disk_definitions.specs.Resizing.{index_in}
use Rattle.disk_definitions.proofs.Indices.{index_hit}
use Rattle.disk_definitions.specs.Plans.{Hand, Lock, Finish, sole_segments, says_full}
use Rattle.plan_laws.proofs.Covering.{has_head, has_more, not_in_none, has_cases, all_from}
use Rattle.plan_laws.specs.Locks.{IsSole, IsCovered, FinishIsCovered}
use Rattle.plan_laws.specs.Looked.{edited_at}
use Rattle.disk_definitions.specs.Covers.{cover_of, small_cover}
use Rattle.plan_laws.proofs.Fine.{held_key}
use Rattle.plan_laws.proofs.Standing.{DiskStands}
use Rattle.disk_definitions.specs.CoversAtHand.{has_small}
use Rattle.disk_definitions.specs.FoundLocks.{edit_locks_of, edit_locks, full_locks}
use Rattle.line_locks.specs.Same.{AreWithin}
use Rattle.line_locks.proofs.Alike.{within_join, within_nodes, within_segments}
use Rattle.line_locks.proofs.PlansEnd.{owns}

-- what is left passes the test
filter_passes : (test : ℕ → Bool) (xs : List ℕ) (x : ℕ) → Contains (filter test xs) x → test x ≡ true
filter_passes test [] x c = absurd (not_in_none x c)
filter_passes test (y ∷ xs) x c = go (test y) refl (filter_passes test xs x) c
  where
    go : (b : Bool) → test y ≡ b → (Contains (filter test xs) x → test x ≡ true) → Contains (if b then y ∷ filter test xs else filter test xs) x → test x ≡ true
    go true e rest c = ⊎_elim (λ q. ap test (sym q) ∙ e) rest (has_cases y x (filter test xs) c)
    go false e rest c = rest c

module _ (h : Hand) (s : Store) (n : Naming) (disk : DiskStands h s n) (nodes : List ℕ) (locks : List Lock) where
  -- the node that has a block is its cover
  owner_sole : (i k : ℕ) (o : Option StoredNode) → s.inode i ≡ o → has_small k (Some o) ≡ true → IsSole locks (small_cover n k (n.owner k)) → IsSole locks (lock.Node i)
  owner_sole i k None is e c = absurd (cc)
  owner_sole i k (Some x) is e c = go (index_in x.small x.blocks k) refl e
    where
      go : (o : Option ℕ) → index_in x.small x.blocks k ≡ o → is_some o ≡ true → IsSole locks (lock.Node i)
      go None p e = absurd (cc)
      go (Some m) p e =
          let hit = index_hit x.small x.blocks k m p in
          subst (IsSole locks) (subst (λ z. small_cover n z (n.owner z) ≡ lock.Node i) hit.0 ((disk.nodes i x is).small m hit.1)) c

  edit_in : (e : Edit) → IsCovered locks e → IsSole locks (cover_of n (edited_at e)) → AreWithin (edit_locks_of (owns h s) nodes e) locks
  edit_in (SetInode i v d) a c = (a, tt)
  edit_in (SetBit i b) a c = (a, tt)
  edit_in (SetUse k u) a c = (a, tt)
  edit_in (SetPlace k p e) a c =
      let test : ℕ → Bool = λ i. owns h s i k in
      within_nodes (filter test nodes) locks (all_from (λ i. IsSole locks (lock.Node i)) (filter test nodes) (λ i d. owner_sole i k (s.inode i) refl (filter_passes test nodes i d) c))
  edit_in (SetLarge g b) a c = (a, tt)
  edit_in (SetBytes k part bytes) a c = tt
  edit_in (SetLargeBytes g part bytes) a c = tt

  pub edits_in : (edits : List Edit) → AllByRecursion (IsCovered locks) edits → ((e : Edit) → Contains edits e → IsSole locks (cover_of n (edited_at e))) → AreWithin (edit_locks (owns h s) nodes edits) locks
  edits_in [] a f = tt
  edits_in (e ∷ edits) a f = within_join (edit_locks_of (owns h s) nodes e) (edit_locks (owns h s) nodes edits) locks (edit_in e a.0 (f e (has_head e edits))) (edits_in edits a.1 (λ d c. f d (has_more e d edits c)))

  pub full_in : (r : Reply) → (says_full r ≡ true → (k : ℕ) → Contains (keys_of h.held) k → IsSole locks (lock.Segment k)) → AreWithin (full_locks h.held r) locks
  full_in r f = go (says_full r) refl
    where
      go : (b : Bool) → says_full r ≡ b → AreWithin (if b then sole_segments (keys_of h.held) else []) locks
      go true e = within_segments (keys_of h.held) locks (all_from (λ k. IsSole locks (lock.Segment k)) (keys_of h.held) (f e))
      go false e = tt

  -- a finished plan that is covered
  pub covered_in : (f : Finish) → f.locks ≡ locks → FinishIsCovered h f → ((e : Edit) → Contains f.edits e → IsSole f.locks (cover_of n (edited_at e))) →
      AreWithin (edit_locks (owns h s) nodes f.edits) locks × AreWithin (full_locks h.held f.reply) locks
  covered_in f same a c = (
    edits_in f.edits (subst (λ l. AllByRecursion (IsCovered l) f.edits) same a.edits) (λ e d. subst (λ l. IsSole l (cover_of n (edited_at e))) same (c e d)),
    full_in f.reply (λ e k d. subst (λ l. IsSole l (lock.Segment k)) same (a.full e k (held_key h.held k d))),
  )

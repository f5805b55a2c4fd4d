-- The guard of an operation, of what its plan says, of what follows along histories, and of what its server has at hand.
use Rattle.std.proofs.Common.{◌≡◌, ◌≢◌, ℕ, ◌+◌, ◌<◌, Bool, true, false, if◌then◌else◌, IsTrue, List, [], ◌∷◌, Option, Some, None, is_some, refl, sym, ap, ◌∙◌, subst, inl, inr, arith}
use Rattle.std.specs.Option.{IsSome}
use Rattle.frang_base.specs.Functions.{member}
use Rattle.frang_base.specs.Locks.{has_lock, same_lock}
use Rattle.frang_base.proofs.Basics.{lock_same}
use Rattle.frang_base.specs.declared.change.Change.{Change}
use Rattle.frang_base.specs.declared.lock.LockId.{LockId}
use Rattle.frang_base.specs.declared.lock.Mode.TheVariants.{Sole}
use Rattle.frang_base.specs.declared.op.Op.{Op}
use Rattle.sector_bytes.specs.Blocks.{Block, version_of}
use Rattle.sector_bytes.specs.Replays.{change_at}
use Rattle.disk_definitions.specs.Ask.{Sector, DirectoryAt}
use Rattle.disk_definitions.specs.Naming.{Naming}
use Rattle.disk_definitions.specs.Meets.{is_directory_use}
use Rattle.disk_definitions.proofs.Listed.{Among}
use Rattle.disk_definitions.specs.Covers as by_naming
use Rattle.disk_definitions.specs.Numbered.{sector_at}
use Rattle.tree_definitions.specs.Tree.{FileTree}
use Rattle.core_laws.proofs.Membership.{contains_in}
use Rattle.line_histories.specs.Guards.{IsDiskOf, KeepsGuards}
use Rattle.line_histories.specs.Owned.{IsCoveredAt, LooksWhereItLies, OwnsWhatItWrites}
use Rattle.line_histories.specs.Following.{Follows, KeepsKinds}
use Rattle.sector_world.specs.Histories.{Commit, settled}
use Rattle.sector_world.specs.Histories.{Fill}
use Rattle.sector_world.specs.Plans.{Outcome, made_of}
use Rattle.sector_world.specs.Guards.{CanDo, CanClaim, Owned, Based, MovesOwned, Shows}
use Rattle.sector_world.specs.World.{World, Slot, Page, cover}
use Rattle.sector_world.specs.World.Phase.{Up}
use Rattle.sector_world.specs.World.Slot.{Absent, Clean, Dirty}
use Rattle.sector_world.specs.World.Page.{NoPage, CleanPage, DirtyPage, FreedPage}
use Rattle.sector_world.specs.Logged.{now_of, IsCopy}
use Rattle.sector_world.specs.Kinds.{Good}
use Rattle.core_commits.specs.Commits.{IsAtHand, OutcomesMayBeDone, block_in, commit_of}

has_among : (l : LockId) (locks : List LockId) → Among l locks → IsTrue (has_lock l locks)
has_among l [] i = absurd i
has_among l (k ∷ locks) (inl e) = ap (λ (b : Bool). if b then true else has_lock l locks) (subst (λ x. same_lock x l ≡ true) e (lock_same l))
has_among l (k ∷ locks) (inr i) = go (same_lock k l) (has_among l locks i)
  where
    go : (b : Bool) → IsTrue (has_lock l locks) → IsTrue (if b then true else has_lock l locks)
    go true e = refl
    go false e = e

module _ (segments : ℕ) (w : World) (a n : ℕ) (hint : List ℕ) (asked : Op) (tree : FileTree) (naming : Naming) (o : Outcome) (g : Good w)
    (up : w.phase a ≡ Up) (number : w.last a < n) (of : IsDiskOf segments (now_of w) tree naming) (guards : KeepsGuards segments (now_of w) naming o)
    (owns : OwnsWhatItWrites segments naming o) (lies : LooksWhereItLies segments naming o) (follows : Follows segments w.opening w.home w.logged w.first (settled w.history))
    (hand : IsAtHand w a o) (kinds : KeepsKinds w.logged (settled w.history) (commit_of w a n hint asked o)) where
  abbrev c : Commit
  c = commit_of w a n hint asked o

  -- the cover by the naming is the cover by moves
  covered : (s : ℕ) (x : Sector) → sector_at segments s ≡ Some x → cover w s ≡ by_naming.cover_of naming x
  covered s x at = follows.covers tree naming of.of s x at

  used : (s : ℕ) → IsCoveredAt segments naming o.uses s → IsTrue (has_lock (cover w s) o.uses)
  used s i = subst (λ l. IsTrue (has_lock l o.uses)) (sym (covered s i.sector i.here)) (has_among _ o.uses (contains_in o.uses _ i.covered))

  sole : (s : ℕ) → IsCoveredAt segments naming o.alone s → w.holds a (cover w s) ≡ Some Sole
  sole s i = subst (λ l. w.holds a l ≡ Some Sole) (sym (covered s i.sector i.here)) (hand.alone _ (has_among _ o.alone (contains_in o.alone _ i.covered)))

  owned : (s : ℕ) (x : Option Change) → change_at o.changes s ≡ x → Owned x (w.holds a (cover w s))
  owned s None e = tt
  owned s (Some x) e = sole s (owns.changed s x e)

  based : (s : ℕ) (x : Option Change) → change_at o.changes s ≡ x → Based x (w.slot a s)
  based s None e = tt
  based s (Some x) e = go (w.slot a s) (hand.changed s x e) (g.logged.copies a s)
    where
      higher : (block : Block) → block ≡ now_of w s → version_of block < x.version
      higher block i = let v : x.version ≡ version_of (now_of w s) + 1 = (guards.based s x e).1 in let u : version_of block ≡ version_of (now_of w s) = ap version_of i in omega arith

      go : (slot : Slot) → slot ≢ Absent → IsCopy slot (now_of w s) → Based (Some x) slot
      go Absent m i = absurd (m refl)
      go (Clean block) m i = higher block i
      go (Dirty block mark) m i = higher block i

  moves : (s : ℕ) (new : Option LockId) → o.moves s ≡ new → MovesOwned new (w.holds a (cover w s)) (w.holds a)
  moves s None e = tt
  moves s (Some new) e =
      let m = guards.moved s new e in
      (sole s (record { sector = m.sector; here = m.here; covered = m.old }), hand.alone new (has_among new o.alone (contains_in o.alone new m.comes)))

  claims : (s : ℕ) → o.claims s ≡ true → CanClaim w c s
  claims s e =
      let m = guards.claimed s e in
      record {
        fresh = follows.kinds s (DirectoryAt m.block m.part) m.here ∙ ap is_directory_use m.free;
        free = follows.free s (DirectoryAt m.block m.part) m.here m.free;
        cleared = hand.cleared s e;
        moved = m.moved;
      }

  makes_some : (make : Option (Option Block → Fill)) (shown : Option Block) → IsSome (made_of make shown) → IsSome make
  makes_some None shown e = absurd (cc)
  makes_some (Some make) shown e = refl

  shows : (s : ℕ) (b : Bool) (page : Page) → Shows (if b then block_in page else None) page
  shows s true NoPage = tt
  shows s true (CleanPage block) = refl
  shows s true (DirtyPage block mark) = refl
  shows s true (FreedPage mark) = tt
  shows s false page = tt

  reads : (s : ℕ) (b : Bool) → (IsTrue b → IsSome (block_in (w.page a s))) → is_some (if b then block_in (w.page a s) else None) ≡ b
  reads s true i = i refl
  reads s false i = refl

  noticed : (s : ℕ) → IsSome (if member s o.reads then block_in (w.page a s) else None) → IsTrue (if is_some (c.writes s) then true else has_lock (cover w s) o.uses)
  noticed s e = go (is_some (c.writes s)) (used s (lies.read s (sym (reads s (member s o.reads) (hand.read s)) ∙ e)))
    where
      go : (b : Bool) → IsTrue (has_lock (cover w s) o.uses) → IsTrue (if b then true else has_lock (cover w s) o.uses)
      go true i = refl
      go false i = i

  pub do_guard : CanDo w c
  do_guard = record {
    up = up;
    number = number;
    used = hand.uses;
    alone = hand.alone;
    looked = λ s i. hand.uses (cover w s) (used s (lies.looked s i));
    owned = λ s. owned s (change_at o.changes s) refl;
    based = λ s. based s (change_at o.changes s) refl;
    moves = λ s. moves s (o.moves s) refl;
    claims = claims;
    named = kinds.named;
    plain = kinds.plain;
    sees = λ s. refl;
    written = λ s i. sole s (owns.made s (makes_some (o.makes s) _ i));
    shows = λ s. shows s (member s o.reads) (w.page a s);
    reads = λ s. reads s (member s o.reads) (hand.read s);
    noticed = noticed;
    makes = λ s. refl;
  }

pub outcomes_may_be_done : OutcomesMayBeDone
outcomes_may_be_done segments w a n hint asked tree naming o g up number of guards owns lies follows hand kinds =
    do_guard segments w a n hint asked tree naming o g up number of guards owns lies follows hand kinds

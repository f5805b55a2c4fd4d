-- Where operations end, of a history that goes on, and of one whose later operations end elsewhere.
use Rattle.std.proofs.Common.{◌≡◌, ◌≢◌, ◌↔◌, ℕ, ◌≤◌, inl, inr, Bool, true, false, if◌then◌else◌, nat_eq, nat_le, List, [], ◌∷◌, refl, sym, ap, ◌∙◌, subst, arith}
use Rattle.std.proofs.lemmas.Bool.{eqb-true}
use Rattle.frang_base.specs.Functions.{keep_if}
use Rattle.sector_world.specs.Histories.{Commit, Each, Entry, Item, kept, settled, survives}
use Rattle.sector_world.specs.Histories.Entry.{Did, Mounted, Recovered, Synced}
use Rattle.sector_world.specs.Histories.Item.{Done, Doubt}
use Rattle.core_world.specs.Journals.{IsOwn, IsUpTo}
use Rattle.core_log_marks.specs.Accounts.{EachSinceMount, EndWithOthers, EndsAt, IsEndBefore}
use Rattle.core_log_marks.specs.Steps.{IsBeside}

-- ---- what a recovery of another server leaves

stays : (a d k : ℕ) (c : Commit) → d ≢ a → c.by ≡ a → survives d k c ≡ true
stays a d k c other mine = go (nat_eq c.by d) refl
  where
    go : (b : Bool) → nat_eq c.by d ≡ b → (if b then nat_le c.op k else true) ≡ true
    go false e = refl
    go true e = absurd (other (sym (eqb-true c.by d e) ∙ mine))

own_kept : (a d k n : ℕ) (h : List Item) → d ≢ a → IsOwn a n h → IsOwn a n (kept (survives d k) h)
own_kept a d k n [] other own = own
own_kept a d k n (Doubt m ∷ h) other own = own_kept a d k n h other own
own_kept a d k n (Done c ∷ h) other (inl here) = subst (λ b. IsOwn a n (keep_if b (Done c) (kept (survives d k) h))) (sym (stays a d k c other here.0)) (inl here)
own_kept a d k n (Done c ∷ h) other (inr own) = go (survives d k c) (own_kept a d k n h other own)
  where
    go : (b : Bool) → IsOwn a n (kept (survives d k) h) → IsOwn a n (keep_if b (Done c) (kept (survives d k) h))
    go true rest = inr rest
    go false rest = rest

ends_kept : (ends : ℕ → ℕ) (a d k n : ℕ) (h : List Item) → d ≢ a → EndsAt ends a n h → EndsAt ends a n (kept (survives d k) h)
ends_kept ends a d k n [] other at = at
ends_kept ends a d k n (Doubt m ∷ h) other at = ends_kept ends a d k n h other at
ends_kept ends a d k n (Done c ∷ h) other (inl here) = subst (λ b. EndsAt ends a n (keep_if b (Done c) (kept (survives d k) h))) (sym (stays a d k c other here.0)) (inl here)
ends_kept ends a d k n (Done c ∷ h) other (inr at) = go (survives d k c) (ends_kept ends a d k n h other at)
  where
    go : (b : Bool) → EndsAt ends a n (kept (survives d k) h) → EndsAt ends a n (keep_if b (Done c) (kept (survives d k) h))
    go true rest = inr rest
    go false rest = rest

before_kept : (start : ℕ) (ends : ℕ → ℕ) (a d k n : ℕ) (h : List Item) → d ≢ a → IsEndBefore start ends a n h → IsEndBefore start ends a n (kept (survives d k) h)
before_kept start ends a d k n h other (inl low) = inl low
before_kept start ends a d k n h other (inr at) = inr (ends_kept ends a d k n h other at)

others_kept : (start : ℕ) (ends : ℕ → ℕ) (a d k : ℕ) (h : List Item) → d ≢ a → EndWithOthers start ends a h → EndWithOthers start ends a (kept (survives d k) h)
others_kept start ends a d k [] other all = all
others_kept start ends a d k (Doubt m ∷ h) other all = others_kept start ends a d k h other all
others_kept start ends a d k (Done c ∷ h) other all = go (survives d k c) (others_kept start ends a d k h other all.1)
  where
    go : (b : Bool) → EndWithOthers start ends a (kept (survives d k) h) → EndWithOthers start ends a (keep_if b (Done c) (kept (survives d k) h))
    go true rest = ((λ mine none. before_kept start ends a d k (ends c.op) h other (all.0 mine none)), rest)
    go false rest = rest

-- ---- an entry beside

pub beside_own : (a n : ℕ) (e : Entry) (h : List Entry) → IsBeside a e → IsOwn a n (settled h) → IsOwn a n (settled (e ∷ h))
beside_own a n (Did c) h beside own = inr own
beside_own a n (Recovered d k) h beside own = own_kept a d k n (settled h) beside own
beside_own a n (Synced d m) h beside own = own
beside_own a n (Mounted d m) h beside own = own

pub beside_end : (start : ℕ) (ends : ℕ → ℕ) (a n : ℕ) (e : Entry) (h : List Entry) → IsBeside a e → IsEndBefore start ends a n (settled h) → IsEndBefore start ends a n (settled (e ∷ h))
beside_end start ends a n (Did c) h beside (inl low) = inl low
beside_end start ends a n (Did c) h beside (inr at) = inr (inr at)
beside_end start ends a n (Recovered d k) h beside before = before_kept start ends a d k n (settled h) beside before
beside_end start ends a n (Synced d m) h beside before = before
beside_end start ends a n (Mounted d m) h beside before = before

pub beside_others : (start : ℕ) (ends : ℕ → ℕ) (a : ℕ) (e : Entry) (h : List Entry) → IsBeside a e → EndWithOthers start ends a (settled h) → EndWithOthers start ends a (settled (e ∷ h))
beside_others start ends a (Did c) h beside all = ((λ mine none. absurd (beside mine)), all)
beside_others start ends a (Recovered d k) h beside all = others_kept start ends a d k (settled h) beside all
beside_others start ends a (Synced d m) h beside all = all
beside_others start ends a (Mounted d m) h beside all = all

pub beside_since : (P : Commit → Type 0) (a : ℕ) (e : Entry) (h : List Entry) → IsBeside a e → EachSinceMount P a h → EachSinceMount P a (e ∷ h)
beside_since P a (Did c) h beside all = ((λ mine. absurd (beside mine)), all)
beside_since P a (Recovered d k) h beside all = (beside, all)
beside_since P a (Synced d m) h beside all = all
beside_since P a (Mounted d m) h beside all = λ other. all

-- ---- of each since the mount

pub since_map : (P Q : Commit → Type 0) (a : ℕ) → ((c : Commit) → P c → Q c) → (h : List Entry) → EachSinceMount P a h → EachSinceMount Q a h
since_map P Q a f [] all = tt
since_map P Q a f (Did c ∷ h) all = ((λ mine. f c (all.0 mine)), since_map P Q a f h all.1)
since_map P Q a f (Recovered d k ∷ h) all = (all.0, since_map P Q a f h all.1)
since_map P Q a f (Synced d m ∷ h) all = since_map P Q a f h all
since_map P Q a f (Mounted d m ∷ h) all = λ other. since_map P Q a f h (all other)

-- ---- ends that agree as far as these operations go

module _ (ends ends_now : ℕ → ℕ) (a most : ℕ) (same : (n : ℕ) → n ≤ most → ends_now n ≡ ends n) (last : ℕ → ℕ) (is : last a ≡ most) where
  within : (c : Commit) → c.op ≤ last c.by → c.by ≡ a → ends_now c.op ≡ ends c.op
  within c low mine = same c.op (subst (λ n. c.op ≤ n) (ap last mine ∙ is) low)

  ends_then : (n : ℕ) (h : List Item) → Each (λ c. c.op ≤ last c.by) h → EndsAt ends a n h → EndsAt ends_now a n h
  ends_then n [] below at = at
  ends_then n (Doubt m ∷ h) below at = ends_then n h below at
  ends_then n (Done c ∷ h) below (inl here) = inl (here.0, within c below.0 here.0 ∙ here.1)
  ends_then n (Done c ∷ h) below (inr at) = inr (ends_then n h below.1 at)

  pub before_then : (start n : ℕ) (h : List Item) → Each (λ c. c.op ≤ last c.by) h → IsEndBefore start ends a n h → IsEndBefore start ends_now a n h
  before_then start n h below (inl low) = inl low
  before_then start n h below (inr at) = inr (ends_then n h below at)

  pub others_then : (start : ℕ) (h : List Item) → Each (λ c. c.op ≤ last c.by) h → EndWithOthers start ends a h → EndWithOthers start ends_now a h
  others_then start [] below all = tt
  others_then start (Doubt m ∷ h) below all = others_then start h below all
  others_then start (Done c ∷ h) below all =
      ((λ mine none. subst (λ n. IsEndBefore start ends_now a n h) (sym (within c below.0 mine)) (before_then start (ends c.op) h below.1 (all.0 mine none))), others_then start h below.1 all.1)

-- where all end at the mount
pub others_still : (start a : ℕ) (h : List Item) → EndWithOthers start (λ n. start) a h
others_still start a [] = tt
others_still start a (Doubt m ∷ h) = others_still start a h
others_still start a (Done c ∷ h) = ((λ mine none. inl (le start)), others_still start a h)
  where
    le : (n : ℕ) → n ≤ n
    le n = omega arith

-- ---- numbers

pub own_up_to : (ends : ℕ → ℕ) (limit a k n : ℕ) (h : List Item) → IsUpTo ends limit a k h → IsOwn a n h → (n ≤ k) ↔ (ends n ≤ limit)
own_up_to ends limit a k n [] up own = absurd own
own_up_to ends limit a k n (Doubt m ∷ h) up own = own_up_to ends limit a k n h up own
own_up_to ends limit a k n (Done c ∷ h) up (inl here) = subst (λ m. (m ≤ k) ↔ (ends m ≤ limit)) here.1 (up.0 here.0)
own_up_to ends limit a k n (Done c ∷ h) up (inr own) = own_up_to ends limit a k n h up.1 own

pub own_below : (last : ℕ → ℕ) (a n : ℕ) (h : List Item) → Each (λ c. c.op ≤ last c.by) h → IsOwn a n h → n ≤ last a
own_below last a n [] below own = absurd own
own_below last a n (Doubt m ∷ h) below own = own_below last a n h below own
own_below last a n (Done c ∷ h) below (inl here) = subst (λ m. m ≤ last a) here.1 (subst (λ b. c.op ≤ last b) here.0 below.0)
own_below last a n (Done c ∷ h) below (inr own) = own_below last a n h below.1 own

-- where one ends of which all are up to a number
pub ends_low : (ends : ℕ → ℕ) (limit a k n : ℕ) (h : List Item) → IsUpTo ends limit a k h → Each (λ c. c.by ≡ a → c.op ≤ k) h → EndsAt ends a n h → n ≤ limit
ends_low ends limit a k n [] up all at = absurd at
ends_low ends limit a k n (Doubt m ∷ h) up all at = ends_low ends limit a k n h up all at
ends_low ends limit a k n (Done c ∷ h) up all (inl here) = subst (λ m. m ≤ limit) here.1 ((up.0 here.0).0 (all.0 here.0))
ends_low ends limit a k n (Done c ∷ h) up all (inr at) = ends_low ends limit a k n h up.1 all.1 at

-- A look at every segment that is held finds each at hand.
use Rattle.std.proofs.Common.{◌≡◌, ℕ, Bool, true, false, cond, is_some, map, Option, Some, None, [], ◌∷◌, ◌++◌, refl, ap}
use Rattle.std.specs.BTreeMap.{is_at}
use Rattle.std.specs.Map.{keys_of}
use Rattle.std.specs.Ordering.{nat_cmp}
use Rattle.frang_base.specs.declared.bitmap.Bitmap.{Bitmap}
use Rattle.tree_definitions.proofs.Pairs.{birth_exact, self}
use Rattle.disk_definitions.specs.Held.{Segments, bitmap_of}
use Rattle.disk_definitions.specs.Ask.{Ask, read_segments}
use Rattle.disk_definitions.specs.Plans.{Hand, read_held}
use Rattle.disk_definitions.specs.Written.{Cached, is_held}
use Rattle.dir_lookup.specs.Reading.{reading}
use Rattle.disk_definitions.specs.LookedAt.{examined}
use Rattle.plan_steps.specs.Looking.{segment_number}

pub held_by : (held : Segments) (k : ℕ) (o : Option Bitmap) → bitmap_of held k ≡ o → is_some o ≡ true → is_held held k ≡ true
held_by held k None e s = absurd (cc)
held_by held k (Some x) e s = rw e refl

pub not_held : (held : Segments) (k : ℕ) → bitmap_of held k ≡ None → is_held held k ≡ false
not_held held k e = rw e refl

there_by : (held : Segments) (k : ℕ) (o : Option Bitmap) → bitmap_of held k ≡ o → is_held held k ≡ true → is_some o ≡ true
there_by held k None e h = rw e at h
there_by held k (Some x) e h = refl

held_first : (k : ℕ) (x : Bitmap) (es : Segments) → is_held ((k, x) ∷ es) k ≡ true
held_first k x es = held_by ((k, x) ∷ es) k (Some x) (ap (λ b. cond b (Some x) (bitmap_of es k)) (self nat_cmp birth_exact k)) refl

held_later : (e : ℕ × Bitmap) (es : Segments) (k : ℕ) → is_held es k ≡ true → is_held (e ∷ es) k ≡ true
held_later e es k h = held_by (e ∷ es) k (cond (is_at (nat_cmp k) e.0) (Some e.1) (bitmap_of es k)) refl (go (is_at (nat_cmp k) e.0))
  where
    go : (b : Bool) → is_some (cond b (Some e.1) (bitmap_of es k)) ≡ true
    go true = refl
    go false = there_by es k (bitmap_of es k) refl h

keys_at_hand : {A : Type 0} (es held : Segments) (cached : Cached) (p : Ask A) → ((k : ℕ) → is_held es k ≡ true → is_held held k ≡ true)
    → reading (read_segments (keys_of es) p) cached held ≡ reading p cached held
keys_at_hand [] held cached p h = refl
keys_at_hand ((k, x) ∷ es) held cached p h =
    let t : is_held held k ≡ true = h k (held_first k x es) in
    rw t (keys_at_hand es held cached p (λ j i. h j (held_later (k, x) es j i)))

pub held_at_hand : {A : Type 0} (h : Hand) (cached : Cached) (p : Ask A) → reading (read_held h p) cached h.held ≡ reading p cached h.held
held_at_hand h cached p = keys_at_hand h.held h.held cached p (λ k i. i)

-- and it examines each
keys_looked : {A : Type 0} (es held : Segments) (cached : Cached) (p : Ask A) → ((k : ℕ) → is_held es k ≡ true → is_held held k ≡ true)
    → examined (read_segments (keys_of es) p) cached held ≡ map segment_number (keys_of es) ++ examined p cached held
keys_looked [] held cached p h = refl
keys_looked ((k, x) ∷ es) held cached p h =
    let t : is_held held k ≡ true = h k (held_first k x es) in
    rw t (ap (λ l. segment_number k ∷ l) (keys_looked es held cached p (λ j i. h j (held_later (k, x) es j i))))

pub held_looked : {A : Type 0} (h : Hand) (cached : Cached) (p : Ask A) → examined (read_held h p) cached h.held ≡ map segment_number (keys_of h.held) ++ examined p cached h.held
held_looked h cached p = keys_looked h.held h.held cached p (λ k i. i)

-- Nothing of the room is dirty exactly where nothing that the oldest records name is.
use Rattle.std.proofs.Common.{◌≡◌, ℕ, ◌==◌, Bool, true, false, not, ◌&&◌, ◌||◌, if◌then◌else◌, List, [], ◌∷◌, nat_eq, refl, sym, ap, ◌∙◌, arith}
use Rattle.std.proofs.lemmas.Bool.{and_parts, false≢true}
use Rattle.std.proofs.lemmas.Bool.Decides.{nat_tests}
use Rattle.std.specs.List.{list_all, list_any}
use Rattle.frang_base.specs.Functions.{member}
use Rattle.frang_base.specs.declared.sector.Sector.{Sector}
use Rattle.cache_definitions.specs.Caches.{is_dirty_at}
use Rattle.clerk_cache.specs.Dropping.{numbers_of}
use Rattle.ring_definitions.specs.declared.ring.Named.{Named}
use Rattle.ring_definitions.specs.Rings.{oldest_of}
use Rattle.log_slots.specs.Reading.{log_rules}
use Rattle.core_definitions.specs.Cores.{Core, stage}
use Rattle.core_definitions.specs.LineGuards.{is_oldest_in_place, may_reclaim}
use Rattle.core_definitions.specs.Writes.{lacks_room}
use Rattle.server_issues.specs.Issuing.{IsIssuing, Issuing}

itself : (a : ℕ) → (a == a) ≡ true
itself a = grind (arith, nat_tests)

equal : (a b : ℕ) → nat_eq a b ≡ true → a ≡ b
equal a b e = grind (arith, nat_tests)

or_true : (a : Bool) → (a || true) ≡ true
or_true true = refl
or_true false = refl

same_bool : (a b : Bool) → (a ≡ true → b ≡ true) → (b ≡ true → a ≡ true) → a ≡ b
same_bool true b there back = sym (there refl)
same_bool false true there back = back refl
same_bool false false there back = refl

module _ (p : ℕ → Bool) where
  all_named : (ys : List Named) → ((s : ℕ) → list_any (λ y. y.sector.0 == s) ys ≡ true → p s ≡ true) → list_all (λ y. p y.sector.0) ys ≡ true
  all_named [] each = refl
  all_named (y ∷ ys) each =
      ap (λ b. b && list_all (λ y. p y.sector.0) ys) (each y.sector.0 (ap (λ b. b || list_any (λ x. x.sector.0 == y.sector.0) ys) (itself y.sector.0)))
      ∙ all_named ys (λ s there. each s (ap (λ b. (y.sector.0 == s) || b) there ∙ or_true (y.sector.0 == s)))

  one_named : (ys : List Named) (s : ℕ) → list_all (λ y. p y.sector.0) ys ≡ true → list_any (λ y. y.sector.0 == s) ys ≡ true → p s ≡ true
  one_named [] s all there = absurd (false≢true there)
  one_named (y ∷ ys) s all there = go (y.sector.0 == s) refl there (λ at. one_named ys s parts.1 at)
    where
      parts : (p y.sector.0 ≡ true) × (list_all (λ y. p y.sector.0) ys ≡ true)
      parts = and_parts (p y.sector.0) (list_all (λ y. p y.sector.0) ys) all

      go : (b : Bool) → (y.sector.0 == s) ≡ b → (b || list_any (λ y. y.sector.0 == s) ys) ≡ true → (list_any (λ y. y.sector.0 == s) ys ≡ true → p s ≡ true) → p s ≡ true
      go true is there behind = ap p (sym (equal y.sector.0 s is)) ∙ parts.0
      go false is there behind = behind there

  all_members : (xs : List ℕ) → ((s : ℕ) → member s xs ≡ true → p s ≡ true) → list_all p xs ≡ true
  all_members [] each = refl
  all_members (x ∷ xs) each = ap (λ b. b && list_all p xs) (each x (ap (λ b. if b then true else member x xs) (itself x))) ∙ all_members xs (λ s there. each s (behind (nat_eq x s) s there))
    where
      behind : (b : Bool) (s : ℕ) → member s xs ≡ true → (if b then true else member s xs) ≡ true
      behind true s there = refl
      behind false s there = there

  one_member : (xs : List ℕ) (s : ℕ) → list_all p xs ≡ true → member s xs ≡ true → p s ≡ true
  one_member [] s all there = absurd (false≢true there)
  one_member (x ∷ xs) s all there = go (nat_eq x s) refl there (λ at. one_member xs s parts.1 at)
    where
      parts : (p x ≡ true) × (list_all p xs ≡ true)
      parts = and_parts (p x) (list_all p xs) all

      go : (b : Bool) → nat_eq x s ≡ b → (if b then true else member s xs) ≡ true → (member s xs ≡ true → p s ≡ true) → p s ≡ true
      go true is there behind = ap p (sym (equal x s is)) ∙ parts.0
      go false is there behind = behind there

  by_members : (xs : List ℕ) (ys : List Named) → ((s : ℕ) → member s xs ≡ list_any (λ y. y.sector.0 == s) ys) → list_all p xs ≡ list_all (λ y. p y.sector.0) ys
  by_members xs ys same = same_bool (list_all p xs) (list_all (λ y. p y.sector.0) ys)
      (λ all. all_named ys (λ s there. one_member xs s all (same s ∙ there))) (λ all. all_members xs (λ s there. one_named ys s all (sym (same s) ∙ there)))

  pub of_sectors : (sectors : List Sector) → list_all (λ sector. p sector.0) sectors ≡ list_all p (numbers_of sectors)
  of_sectors [] = refl
  of_sectors (x ∷ xs) = ap (λ b. p x.0 && b) (of_sectors xs)

module _ (c : Core) (i : Issuing) (is : IsIssuing c i) where
  abbrev clean : ℕ → Bool
  clean s = not (is_dirty_at i.server.server.cache s)

  by_waits : (waits : Bool) → lacks_room log_rules i.server.server.ring (stage c i.server.id) ≡ waits
      → (waits && list_all clean i.room) ≡ (waits && is_oldest_in_place log_rules i.server.server)
  by_waits false lacks = refl
  by_waits true lacks = by_members clean i.room (oldest_of log_rules.quarter i.server.server.ring)
      (λ s. is.room s ∙ ap (λ b. b && list_any (λ y. y.sector.0 == s) (oldest_of log_rules.quarter i.server.server.ring)) lacks)

  pub reclaim_is : (i.waits && list_all clean i.room) ≡ may_reclaim c.setting.logs (c.servers i.server.id) (stage c i.server.id)
  reclaim_is = by_waits i.waits is.waits ∙ ap (λ b. b && is_oldest_in_place log_rules i.server.server) (sym is.waits)
      ∙ sym (λ j. may_reclaim (is.logs j) (is.server j) (stage c i.server.id))

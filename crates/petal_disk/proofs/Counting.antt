-- How many writes of each server's present mount are in flight, along what becomes of the writes.
use Rattle.std.proofs.Common.{◌≡◌, ℕ, ◌+◌, ◌-◌, ◌<◌, ◌≤◌, ◌==◌, Bool, true, false, ◌&&◌, ◌||◌, if◌then◌else◌, List, [], ◌∷◌, ◌++◌, length, set, get_or, Option, Some, None, refl, sym, ap, ◌∙◌, subst, inl, inr, ◌⊎◌, add-zero, arith}
use Rattle.std.specs.Prelude.{nat_lt}
use Rattle.std.specs.List.{list_any}
use Rattle.std.proofs.lemmas.Bool.{cases_eq, cases_lt}
use Rattle.std.proofs.lemmas.Bool.Decides.{nat_tests}
use Rattle.std.proofs.lemmas.List.{get_or_past, get_or-replicate, get_or-set_same, get_or-set_other, length-replicate, length-set}
use Rattle.frang_base.specs.declared.lock.LockId.{LockId}
use Rattle.petal_disk.specs.declared.ticket.Ticket.{Ticket}
use Rattle.petal_disk.specs.declared.flying.Flying.{Flying}
use Rattle.petal_disk.specs.Flights.{is_ticket, without, write_at}
use Rattle.petal_disk.specs.Flying.{InFlight, changed_at, covered, has_flights, is_of_mount, left, left_behind, under}
use Rattle.petal_disk.specs.Keeping.{AreCounted, fewer, mount_count, no_counts}

-- ---- what a count says

some_more : (n : ℕ) → nat_lt 0 (1 + n) ≡ true
some_more n = grind (arith, nat_tests)

no_more : (n : ℕ) → 0 + n ≡ n
no_more n = omega arith

-- one is there exactly where their number isn't 0
pub some_counted : (flights : InFlight) (server : ℕ) → nat_lt 0 (mount_count flights server) ≡ has_flights flights server
some_counted [] server = refl
some_counted (one ∷ flights) server = go (is_of_mount server one.1) (some_counted flights server)
  where
    go : (b : Bool) → nat_lt 0 (mount_count flights server) ≡ has_flights flights server → nat_lt 0 ((if b then 1 else 0) + mount_count flights server) ≡ (b || has_flights flights server)
    go true rest = some_more (mount_count flights server)
    go false rest = ap (nat_lt 0) (no_more (mount_count flights server)) ∙ rest

-- ---- one more, and one less

pub counted_push : (flights : InFlight) (one : Ticket × Flying) (server : ℕ) → mount_count (flights ++ one ∷ []) server ≡ mount_count flights server + (if is_of_mount server one.1 then 1 else 0)
counted_push [] one server = none_before (if is_of_mount server one.1 then 1 else 0)
  where
    none_before : (n : ℕ) → n + 0 ≡ 0 + n
    none_before n = omega arith
counted_push (first ∷ flights) one server =
    ap (λ n. (if is_of_mount server first.1 then 1 else 0) + n) (counted_push flights one server) ∙ grouped (if is_of_mount server first.1 then 1 else 0) (mount_count flights server) (if is_of_mount server one.1 then 1 else 0)
  where
    grouped : (a b c : ℕ) → a + (b + c) ≡ (a + b) + c
    grouped a b c = omega arith

-- there are no more of them than writes
pub mount_most : (flights : InFlight) (server : ℕ) → mount_count flights server ≤ length flights
mount_most [] server = omega arith
mount_most (one ∷ flights) server = go (is_of_mount server one.1) (mount_most flights server)
  where
    go : (b : Bool) → mount_count flights server ≤ length flights → (if b then 1 else 0) + mount_count flights server ≤ length (one ∷ flights)
    go true rest = omega arith
    go false rest = omega arith

pub counted_without : (flights : InFlight) (t : ℕ) (f : Flying) (server : ℕ) → write_at flights t ≡ Some f → mount_count (without flights t) server + (if is_of_mount server f then 1 else 0) ≡ mount_count flights server
counted_without [] t f server there = cc
counted_without (one ∷ flights) t f server there = go (is_ticket t one.0) there (counted_without flights t f server)
  where
    its : Flying → ℕ
    its flying = if is_of_mount server flying then 1 else 0

    turned : (a b : ℕ) → a + b ≡ b + a
    turned a b = omega arith

    moved_in : (a b c d : ℕ) → b + c ≡ d → (a + b) + c ≡ a + d
    moved_in a b c d e = omega arith

    is_same : Some one.1 ≡ Some f → f ≡ one.1
    is_same e = cc e

    go : (b : Bool) → (if b then Some one.1 else write_at flights t) ≡ Some f → (write_at flights t ≡ Some f → mount_count (without flights t) server + its f ≡ mount_count flights server)
        → mount_count (if b then flights else one ∷ without flights t) server + its f ≡ its one.1 + mount_count flights server
    go true there rest = ap (λ x. mount_count flights server + its x) (is_same there) ∙ turned (mount_count flights server) (its one.1)
    go false there rest = moved_in (its one.1) (mount_count (without flights t) server) (its f) (mount_count flights server) (rest there)

-- ---- changes

-- a change that leaves whose write it is, and of which mount
pub counted_changed : (change : Flying → Flying) (server : ℕ) → ((f : Flying) → is_of_mount server (change f) ≡ is_of_mount server f) → (flights : InFlight) (t : ℕ) → mount_count (changed_at change flights t) server ≡ mount_count flights server
counted_changed change server same [] t = refl
counted_changed change server same (one ∷ flights) t = go (is_ticket t one.0) (counted_changed change server same flights t)
  where
    go : (b : Bool) → mount_count (changed_at change flights t) server ≡ mount_count flights server
        → mount_count (if b then (one.0, change one.1) ∷ flights else one ∷ changed_at change flights t) server ≡ mount_count (one ∷ flights) server
    go true rest = ap (λ b. (if b then 1 else 0) + mount_count flights server) (same one.1)
    go false rest = ap (λ n. (if is_of_mount server one.1 then 1 else 0) + n) rest

pub cover_keeps_mount : (a : ℕ) (cover : LockId) (server : ℕ) (f : Flying) → is_of_mount server (covered a cover f) ≡ is_of_mount server f
cover_keeps_mount a cover server f = go (f.put.server.0 == a && f.present)
  where
    go : (b : Bool) → is_of_mount server (if b then record f { purpose = under cover f.purpose } else f) ≡ is_of_mount server f
    go true = refl
    go false = refl

and_false : (b : Bool) → (b && false) ≡ false
and_false true = refl
and_false false = refl

-- none is left of the server's present mount, and of other servers as many as before
own_left : (server : ℕ) (f : Flying) → is_of_mount server (left server f) ≡ false
own_left server f = go (f.put.server.0 == server) refl
  where
    go : (b : Bool) → (f.put.server.0 == server) ≡ b → is_of_mount server (if b then record f { present = false } else f) ≡ false
    go true is = and_false (f.put.server.0 == server)
    go false is = ap (λ b. b && f.present) is

other_left : (a server : ℕ) (f : Flying) → (server ≡ a → ⊥) → is_of_mount server (left a f) ≡ is_of_mount server f
other_left a server f apart = go (f.put.server.0 == a) refl
  where
    another : (x a s : ℕ) → (s ≡ a → ⊥) → (x == a) ≡ true → (x == s) ≡ false
    another x a s apart is = grind (arith, nat_tests)

    go : (b : Bool) → (f.put.server.0 == a) ≡ b → is_of_mount server (if b then record f { present = false } else f) ≡ is_of_mount server f
    go true is = and_false (f.put.server.0 == server) ∙ sym (ap (λ b. b && f.present) (another f.put.server.0 a server apart is))
    go false is = refl

pub counted_own : (server : ℕ) (flights : InFlight) → mount_count (left_behind server flights) server ≡ 0
counted_own server [] = refl
counted_own server (one ∷ flights) = ap (λ b. (if b then 1 else 0) + mount_count (left_behind server flights) server) (own_left server one.1) ∙ no_more (mount_count (left_behind server flights) server) ∙ counted_own server flights

pub counted_other : (a server : ℕ) → (server ≡ a → ⊥) → (flights : InFlight) → mount_count (left_behind a flights) server ≡ mount_count flights server
counted_other a server apart [] = refl
counted_other a server apart (one ∷ flights) = λ i. (if other_left a server one.1 apart i then 1 else 0) + counted_other a server apart flights i

-- ---- the counts of all servers

pub AreCounted-none : AreCounted no_counts []
unfolding no_counts
AreCounted-none = record { long = length-replicate {A = ℕ} 256 0; each = λ server inside. get_or-replicate 256 server 0 0 inside }

module _ (counts : List ℕ) (flights : InFlight) (counted : AreCounted counts flights) where
  own : (k : ℕ) (n : ℕ) → k < 256 → (server : ℕ) → server ≡ k → get_or (set counts k n) server 0 ≡ n
  own k n inside server same = ap (λ s. get_or (set counts k n) s 0) same ∙ get_or-set_same counts k n 0 (omega (arith, counted.long))

  -- a write of the server k is counted where it is of the present mount
  abbrev counts_one : (server k : ℕ) (present : Bool) → (server ≡ k) ⊎ (server ≡ k → ⊥) → ℕ
  counts_one server k present (inl same) = if present then 1 else 0
  counts_one server k present (inr apart) = 0

  is_counted : (server k : ℕ) (present : Bool) (which : (server ≡ k) ⊎ (server ≡ k → ⊥)) → (if k == server && present then 1 else 0) ≡ counts_one server k present which
  is_counted server k present (inl same) = ap (λ b. if b && present then 1 else 0) (equal k server (sym same))
    where
      equal : (a b : ℕ) → a ≡ b → (a == b) ≡ true
      equal a b e = grind (arith, nat_tests)
  is_counted server k present (inr apart) = ap (λ b. if b && present then 1 else 0) (unequal k server apart)
    where
      unequal : (a b : ℕ) → (b ≡ a → ⊥) → (a == b) ≡ false
      unequal a b e = grind (arith, nat_tests)

  -- no count is more than the number of writes
  pub counts_most : (server : ℕ) → get_or counts server 0 ≤ length flights
  counts_most server = go (cases_lt server 256)
    where
      go : (server < 256) ⊎ (256 ≤ server) → get_or counts server 0 ≤ length flights
      go (inl inside) = omega (arith, counted.each server inside, mount_most flights server)
      go (inr past) = omega (arith, get_or_past counts server 0 (omega (arith, counted.long, past)))

  pub AreCounted-issued : (one : Ticket × Flying) → one.1.put.server.0 < 256 → one.1.present ≡ true → AreCounted (set counts one.1.put.server.0 (get_or counts one.1.put.server.0 0 + 1)) (flights ++ one ∷ [])
  AreCounted-issued one inside present = record { long = length-set counts one.1.put.server.0 (get_or counts one.1.put.server.0 0 + 1) ∙ counted.long; each = λ server below. each server below (cases_eq server one.1.put.server.0) }
    where
      k : ℕ
      k = one.1.put.server.0

      more : (server : ℕ) (which : (server ≡ k) ⊎ (server ≡ k → ⊥)) → mount_count (flights ++ one ∷ []) server ≡ mount_count flights server + counts_one server k true which
      more server which = counted_push flights one server ∙ ap (λ b. mount_count flights server + (if k == server && b then 1 else 0)) present ∙ ap (λ n. mount_count flights server + n) (is_counted server k true which)

      each : (server : ℕ) → server < 256 → (server ≡ k) ⊎ (server ≡ k → ⊥) → get_or (set counts k (get_or counts k 0 + 1)) server 0 ≡ mount_count (flights ++ one ∷ []) server
      each server below (inl same) = own k (get_or counts k 0 + 1) inside server same ∙ ap (λ n. n + 1) (ap (λ s. get_or counts s 0) (sym same) ∙ counted.each server below) ∙ sym (more server (inl same))
      each server below (inr apart) = get_or-set_other counts k server (get_or counts k 0 + 1) 0 apart ∙ counted.each server below ∙ sym (add-zero (mount_count flights server)) ∙ sym (more server (inr apart))

  pub AreCounted-without : (t : ℕ) (f : Flying) → f.put.server.0 < 256 → write_at flights t ≡ Some f → AreCounted (fewer counts f.put.server.0 f.present) (without flights t)
  AreCounted-without t f inside there = record { long = length_fewer f.present; each = λ server below. by_mount server below f.present refl }
    where
      k : ℕ
      k = f.put.server.0

      length_fewer : (b : Bool) → length (if b then set counts k (get_or counts k 0 - 1) else counts) ≡ 256
      length_fewer true = length-set counts k (get_or counts k 0 - 1) ∙ counted.long
      length_fewer false = counted.long

      less : (server : ℕ) → server < 256 → (b : Bool) → f.present ≡ b → (which : (server ≡ k) ⊎ (server ≡ k → ⊥)) → mount_count (without flights t) server + counts_one server k b which ≡ get_or counts server 0
      less server below b is which = ap (λ n. mount_count (without flights t) server + n) (sym (is_counted server k b which) ∙ ap (λ p. if k == server && p then 1 else 0) (sym is)) ∙ counted_without flights t f server there ∙ sym (counted.each server below)

      taken : (n c : ℕ) → n + 1 ≡ c → c - 1 ≡ n
      taken n c e = omega arith

      stays : (n c : ℕ) → n + 0 ≡ c → c ≡ n
      stays n c e = omega arith

      counts_none : (server : ℕ) (which : (server ≡ k) ⊎ (server ≡ k → ⊥)) → counts_one server k false which ≡ 0
      counts_none server (inl same) = refl
      counts_none server (inr apart) = refl

      at : (server : ℕ) → server < 256 → (which : (server ≡ k) ⊎ (server ≡ k → ⊥)) → f.present ≡ true → get_or (set counts k (get_or counts k 0 - 1)) server 0 ≡ mount_count (without flights t) server
      at server below (inl same) is = own k (get_or counts k 0 - 1) inside server same ∙ ap (λ s. get_or counts s 0 - 1) (sym same) ∙ taken (mount_count (without flights t) server) (get_or counts server 0) (less server below true is (inl same))
      at server below (inr apart) is = get_or-set_other counts k server (get_or counts k 0 - 1) 0 apart ∙ stays (mount_count (without flights t) server) (get_or counts server 0) (less server below true is (inr apart))

      by_mount : (server : ℕ) → server < 256 → (b : Bool) → f.present ≡ b → get_or (if b then set counts k (get_or counts k 0 - 1) else counts) server 0 ≡ mount_count (without flights t) server
      by_mount server below true is = at server below (cases_eq server k) is
      by_mount server below false is = stays (mount_count (without flights t) server) (get_or counts server 0)
          (ap (λ n. mount_count (without flights t) server + n) (sym (counts_none server (cases_eq server k))) ∙ less server below false is (cases_eq server k))

  pub AreCounted-covered : (a : ℕ) (cover : LockId) (t : ℕ) → AreCounted counts (changed_at (covered a cover) flights t)
  AreCounted-covered a cover t = record { long = counted.long; each = λ server below. counted.each server below ∙ sym (counted_changed (covered a cover) server (cover_keeps_mount a cover server) flights t) }

  pub AreCounted-left : (k : ℕ) → k < 256 → AreCounted (set counts k 0) (left_behind k flights)
  AreCounted-left k inside = record { long = length-set counts k 0 ∙ counted.long; each = λ server below. each server below (cases_eq server k) }
    where
      each : (server : ℕ) → server < 256 → (server ≡ k) ⊎ (server ≡ k → ⊥) → get_or (set counts k 0) server 0 ≡ mount_count (left_behind k flights) server
      each server below (inl same) = own k 0 inside server same ∙ sym (ap (mount_count (left_behind k flights)) same ∙ counted_own k flights)
      each server below (inr apart) = get_or-set_other counts k server 0 0 apart ∙ counted.each server below ∙ sym (counted_other k server apart flights)

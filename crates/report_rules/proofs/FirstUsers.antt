-- The first place of each number, one place after another.
use Rattle.std.proofs.Common.{◌≡◌, ℕ, zero, suc, ◌+◌, ◌<◌, ⊎_elim, Bool, true, false, not, ◌&&◌, ◌||◌, Option, Some, None, is_some, List, [], ◌∷◌, ◌++◌, length, set, replicate, cond, refl, sym, ◌∙◌, ap, subst, arith, nat_lt, eq-eqb, ne_eqb, lt-ltb, ltb-true, get_or, length-set, length-append, get_or-set_same, get_or-set_other}
use Rattle.std.proofs.lemmas.Bool.{and_right, cases_eq, cond-true, cond-false, and_parts}
use Rattle.standing_laws.specs.Below.{holds, lists, is_new, any_below}
use Rattle.disk_reading.specs.Marks.{flag_at}
use Rattle.report_definitions.specs.Sums.{or_else, first_below, count_below}
use Rattle.report_definitions.specs.Rules.{is_within, is_first_within}
use Rattle.report_definitions.proofs.SumLaws.{count_same}
use Rattle.report_rules.specs.Users.{is_free, with_user, AreUsers}

abbrev no_users_of : ℕ → List (Option ℕ)
no_users_of n = replicate n None

none_of : (n k : ℕ) → get_or (no_users_of n) k None ≡ None
none_of zero k = refl
none_of (suc n) zero = refl
none_of (suc n) (suc k) = none_of n k

length_of : (n : ℕ) → length (no_users_of n) ≡ n
length_of zero = refl
length_of (suc n) = ap suc (length_of n)

-- before the first place
none_used : (f : ℕ → Option ℕ) (limit : ℕ) → AreUsers f limit 0 (replicate limit None) []
none_used f limit = record { long = length_of limit; counted = refl; users = λ k l. none_of limit k; firsts = λ t l. absurd (omega arith) }

pub no_users : (f : ℕ → Option ℕ) (limit : ℕ) (first : List (Option ℕ)) (fine : List Bool) → first ≡ replicate limit None → fine ≡ [] → AreUsers f limit 0 first fine
no_users f limit first fine e g = subst (λ (l : List Bool). AreUsers f limit 0 first l) (sym g) (subst (λ (l : List (Option ℕ)). AreUsers f limit 0 l []) (sym e) (none_used f limit))

-- a number has a first place exactly where it has one
pub some_first : (n : ℕ) (p : ℕ → Bool) → is_some (first_below n p) ≡ any_below n p
some_first zero p = refl
some_first (suc n) p = go (first_below n p) (some_first n p) (p n)
  where
    go : (o : Option ℕ) → is_some o ≡ any_below n p → (b : Bool) → is_some (or_else o (cond b (Some n) None)) ≡ (any_below n p || b)
    go None e true = sym (ap (λ x. x || true) (sym e))
    go None e false = sym (ap (λ x. x || false) (sym e))
    go (Some k) e b = sym (ap (λ x. x || b) (sym e))

first_more : (n : ℕ) (p : ℕ → Bool) → first_below (n + 1) p ≡ or_else (first_below n p) (cond (p n) (Some n) None)
first_more n p = let e : n + 1 ≡ suc n = omega arith in ap (λ k. first_below k p) e

or_none : (o : Option ℕ) → or_else o None ≡ o
or_none None = refl
or_none (Some k) = refl

module _ (f : ℕ → Option ℕ) (limit n : ℕ) (first : List (Option ℕ)) (fine : List Bool) (a : AreUsers f limit n first fine) where
  abbrev earliest : ℕ → Option ℕ
  earliest k = first_below n (λ t. holds (f t) k)

  -- a place that has another number, or none, changes nothing for a number
  unchanged : (k : ℕ) → holds (f n) k ≡ false → first_below (n + 1) (λ t. holds (f t) k) ≡ earliest k
  unchanged k h = first_more n (λ t. holds (f t) k) ∙ ap (λ b. or_else (earliest k) (cond b (Some n) None)) h ∙ or_none (earliest k)

  kept : (k j : ℕ) → earliest k ≡ Some j → first_below (n + 1) (λ t. holds (f t) k) ≡ Some j
  kept k j e = first_more n (λ t. holds (f t) k) ∙ ap (λ o. or_else o (cond (holds (f n) k) (Some n) None)) e

  starts : (k : ℕ) → earliest k ≡ None → holds (f n) k ≡ true → first_below (n + 1) (λ t. holds (f t) k) ≡ Some n
  starts k e h = first_more n (λ t. holds (f t) k) ∙ ap (λ o. or_else o (cond (holds (f n) k) (Some n) None)) e ∙ ap (λ b. cond b (Some n) None) h

  abbrev next : Option ℕ → List (Option ℕ)
  next o = with_user first o n

  none_next : f n ≡ None → (k : ℕ) → k < limit → get_or (next None) k None ≡ first_below (n + 1) (λ t. holds (f t) k)
  none_next e k l = a.users k l ∙ sym (unchanged k (ap (λ o. holds o k) e))

  abbrev vacant : ℕ → Bool
  vacant m = nat_lt m (length first) && not (is_some (get_or first m None))

  -- the number of the place is still free
  open_next : (m : ℕ) → f n ≡ Some m → vacant m ≡ true → (k : ℕ) → k < limit → get_or (set first m (Some n)) k None ≡ first_below (n + 1) (λ t. holds (f t) k)
  open_next m e t k l = ⊎_elim
      (λ s. (let h : m < length first = ltb-true m (length first) (and_parts (nat_lt m (length first)) (not (is_some (get_or first m None))) t).0 in
      let z : earliest m ≡ None = sym (a.users m (subst (λ k. k < limit) (sym s) l)) ∙ none (get_or first m None) (and_parts (nat_lt m (length first)) (not (is_some (get_or first m None))) t).1 in
      subst (λ k. get_or (set first m (Some n)) k None ≡ first_below (n + 1) (λ t. holds (f t) k)) s (get_or-set_same first m (Some n) None h ∙ sym (starts m z (ap (λ o. holds o m) e ∙ eq-eqb m m refl)))))
      (λ ne. get_or-set_other first m k (Some n) None (λ q. ne (sym q)) ∙ a.users k l ∙ sym (unchanged k (ap (λ o. holds o k) e ∙ ne_eqb m k ne))) (cases_eq m k)
    where
      none : (o : Option ℕ) → not (is_some o) ≡ true → o ≡ None
      none None h = refl
      none (Some k) h = absurd (cc)

  -- it isn't
  shut_next : (m : ℕ) → f n ≡ Some m → vacant m ≡ false → (k : ℕ) → k < limit → get_or first k None ≡ first_below (n + 1) (λ t. holds (f t) k)
  shut_next m e t k l = ⊎_elim
      (λ s. (let h : nat_lt m (length first) ≡ true = lt-ltb m (length first) (let q : k < length first = subst (λ x. k < x) (sym a.long) l in subst (λ x. x < length first) (sym s) q) in
      let j = some (get_or first m None) (sym (ap (λ b. b && not (is_some (get_or first m None))) h) ∙ t) in
      let z : earliest m ≡ Some j.0 = sym (a.users m (subst (λ k. k < limit) (sym s) l)) ∙ j.1 in
      subst (λ k. get_or first k None ≡ first_below (n + 1) (λ t. holds (f t) k)) s (j.1 ∙ sym (kept m j.0 z))))
      (λ ne. a.users k l ∙ sym (unchanged k (ap (λ o. holds o k) e ∙ ne_eqb m k ne))) (cases_eq m k)
    where
      some : (o : Option ℕ) → not (is_some o) ≡ false → (j : ℕ) × (o ≡ Some j)
      some None h = absurd (cc)
      some (Some j) h = (j, refl)

  users_next : (o : Option ℕ) → f n ≡ o → (k : ℕ) → k < limit → get_or (with_user first o n) k None ≡ first_below (n + 1) (λ t. holds (f t) k)
  users_next None e k l = none_next e k l
  users_next (Some m) e k l = go (vacant m) refl
    where
      go : (b : Bool) → vacant m ≡ b → get_or (with_user first (Some m) n) k None ≡ first_below (n + 1) (λ t. holds (f t) k)
      go true t = ap (λ (xs : List (Option ℕ)). get_or xs k None) (cond-true (vacant m) (set first m (Some n)) first t) ∙ open_next m e t k l
      go false t = ap (λ (xs : List (Option ℕ)). get_or xs k None) (cond-false (vacant m) (set first m (Some n)) first t) ∙ shut_next m e t k l

  long_next : (o : Option ℕ) → length (with_user first o n) ≡ limit
  long_next None = a.long
  long_next (Some m) = go (vacant m) refl
    where
      go : (b : Bool) → vacant m ≡ b → length (with_user first (Some m) n) ≡ limit
      go true t = ap (λ (xs : List (Option ℕ)). length xs) (cond-true (vacant m) (set first m (Some n)) first t) ∙ length-set first m (Some n) ∙ a.long
      go false t = ap (λ (xs : List (Option ℕ)). length xs) (cond-false (vacant m) (set first m (Some n)) first t) ∙ a.long

  -- free is what is the first within the limit
  free_is : (o : Option ℕ) → is_free first o ≡ (is_new f n o && is_within limit o)
  free_is None = refl
  free_is (Some m) = go (nat_lt m limit) refl
    where
      at : nat_lt m (length first) ≡ nat_lt m limit
      at = ap (nat_lt m) a.long

      go : (b : Bool) → nat_lt m limit ≡ b → is_free first (Some m) ≡ (is_new f n (Some m) && nat_lt m limit)
      go true t = ap (λ b. b && not (is_some (get_or first m None))) (at ∙ t) ∙ ap (λ o. not (is_some o)) (a.users m (ltb-true m limit t)) ∙ ap not (some_first n (λ t. holds (f t) m))
          ∙ yes (not (lists f n m)) ∙ sym (ap (λ b. not (lists f n m) && b) t)
        where
          yes : (b : Bool) → b ≡ (b && true)
          yes true = refl
          yes false = refl
      go false t = ap (λ b. b && not (is_some (get_or first m None))) (at ∙ t) ∙ sym (and_right (not (lists f n m)) (nat_lt m limit) t)

  fine_before : (b : Bool) (t : ℕ) → t < n → flag_at (fine ++ b ∷ []) t ≡ flag_at fine t
  fine_before b t l = go fine t (subst (λ m. t < m) (sym a.counted) l)
    where
      go : (xs : List Bool) (t : ℕ) → t < length xs → flag_at (xs ++ b ∷ []) t ≡ flag_at xs t
      go [] t l = absurd (omega arith)
      go (x ∷ xs) zero l = refl
      go (x ∷ xs) (suc t) l = go xs t (omega arith)

  fine_here : (b : Bool) → flag_at (fine ++ b ∷ []) n ≡ b
  fine_here b = subst (λ m. flag_at (fine ++ b ∷ []) m ≡ b) a.counted (go fine)
    where
      go : (xs : List Bool) → flag_at (xs ++ b ∷ []) (length xs) ≡ b
      go [] = refl
      go (x ∷ xs) = go xs

  firsts_next : (o : Option ℕ) → f n ≡ o → (t : ℕ) → t < n + 1 → flag_at (fine ++ is_free first o ∷ []) t ≡ is_first_within limit f t
  firsts_next o e t l = ⊎_elim
      (λ s. subst (λ t. flag_at (fine ++ is_free first o ∷ []) t ≡ is_first_within limit f t) (sym s) (fine_here (is_free first o) ∙ free_is o ∙ ap (λ o. is_new f n o && is_within limit o) (sym e)))
      (λ ne. (let b : t < n = omega arith in fine_before (is_free first o) t b ∙ a.firsts t b)) (cases_eq t n)

  -- one place more
  pub users_more : (o : Option ℕ) → o ≡ f n → (new : List (Option ℕ)) → new ≡ with_user first o n → (more : List Bool) → more ≡ fine ++ is_free first o ∷ [] → AreUsers f limit (n + 1) new more
  users_more o e new p more q =
      let l : length (fine ++ is_free first o ∷ []) ≡ length fine + 1 = length-append fine (is_free first o ∷ []) in
      let m : length more ≡ length (fine ++ is_free first o ∷ []) = ap (λ (xs : List Bool). length xs) q in
      let c : length fine ≡ n = a.counted in
      record {
        long = ap (λ (xs : List (Option ℕ)). length xs) p ∙ long_next o;
        counted = omega arith;
        users = λ k h. ap (λ (xs : List (Option ℕ)). get_or xs k None) p ∙ users_next o (sym e) k h;
        firsts = λ t h. ap (λ (xs : List Bool). flag_at xs t) q ∙ firsts_next o (sym e) t h;
      }

-- a number below the limit has a first place exactly where the row lists it
pub user_listed : (f : ℕ → Option ℕ) (limit n : ℕ) (first : List (Option ℕ)) (fine : List Bool) → AreUsers f limit n first fine → (k : ℕ) → k < limit → is_some (get_or first k None) ≡ lists f n k
user_listed f limit n first fine a k l = ap (λ (o : Option ℕ). is_some o) (a.users k l) ∙ some_first n (λ t. holds (f t) k)

-- those that have one are as many as the row lists
pub users_counted : (f : ℕ → Option ℕ) (limit n : ℕ) (first : List (Option ℕ)) (fine : List Bool) → AreUsers f limit n first fine → count_below limit (λ k. is_some (get_or first k None)) ≡ count_below limit (lists f n)
users_counted f limit n first fine a = count_same limit (λ k. is_some (get_or first k None)) (lists f n) (λ k l. user_listed f limit n first fine a k l)

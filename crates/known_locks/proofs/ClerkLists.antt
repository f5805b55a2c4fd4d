-- What all servers have and their room, where one server's claims are changed; and claims that are changed one server after the other.
use Rattle.std.proofs.Common.{◌≡◌, ℕ, zero, suc, ◌+◌, ◌<◌, ◌≤◌, List, [], ◌∷◌, length, replicate, map, set, get_or, refl, sym, ap, ◌∙◌, inl, inr, ◌⊎◌, arith}
use Rattle.std.proofs.lemmas.Bool.{cases_eq}
use Rattle.std.proofs.lemmas.List.{map-set, get_or-map, get_or-set_same, get_or-set_other, length-set}
use Rattle.std.proofs.lemmas.List.FromFn.{fill_by_all}
use Rattle.lock_table.specs.Asked.{servers}
use Rattle.lock_table.specs.Kept.{KeepsSpace}
use Rattle.lock_definitions.specs.Locks.{Claims, no_clerks}
use Rattle.known_locks.specs.Beside.{ClerkRoom, claims_kept, room_kept}

-- ---- servers that have nothing

empty_lists : (lists : List ClerkRoom) (n : ℕ) → length lists ≡ n → ((i : ℕ) (d : ClerkRoom) → i < n → (get_or lists i d).claims ≡ []) → map claims_kept lists ≡ replicate n []
empty_lists [] zero long empty = refl
empty_lists [] (suc n) long empty = absurd (omega arith)
empty_lists (list ∷ lists) zero long empty = absurd (omega arith)
empty_lists (list ∷ lists) (suc n) long empty = λ i. empty 0 list (omega arith) i ∷ empty_lists lists n (omega arith) (λ j d below. empty (suc j) d (omega arith)) i

pub no_claims : (lists : List ClerkRoom) → length lists ≡ 16 → ((i : ℕ) (d : ClerkRoom) → i < 16 → (get_or lists i d).claims ≡ []) → map claims_kept lists ≡ no_clerks
unfolding no_clerks
no_claims lists long empty = empty_lists lists 16 long empty

-- ---- one server

module _ (lists : List ClerkRoom) (s : ℕ) (inside : s < length lists) where
  pub claims_before : (d : ClerkRoom) → get_or (map claims_kept lists) s [] ≡ (get_or lists s d).claims
  claims_before d = get_or-map claims_kept lists s d [] inside

  pub room_before : (d : ClerkRoom) → get_or (map room_kept lists) s 0 ≡ (get_or lists s d).room
  room_before d = get_or-map room_kept lists s d 0 inside

  module _ (new : ClerkRoom) where
    pub claims_after : map claims_kept (set lists s new) ≡ set (map claims_kept lists) s new.claims
    claims_after = map-set claims_kept lists s new

    pub room_own : get_or (map room_kept (set lists s new)) s 0 ≡ new.room
    room_own = get_or-map room_kept (set lists s new) s new 0 (omega (arith, length-set {A = ClerkRoom} lists s new)) ∙ ap room_kept (get_or-set_same lists s new new inside)

    pub room_other : (t : ℕ) → (t ≡ s → ⊥) → get_or (map room_kept (set lists s new)) t 0 ≡ get_or (map room_kept lists) t 0
    room_other t apart = ap (λ rooms. get_or rooms t 0) (map-set room_kept lists s new) ∙ get_or-set_other (map room_kept lists) s t new.room 0 apart

    pub keeps : (d : ClerkRoom) → (get_or lists s d).room ≤ new.room → KeepsSpace (map room_kept lists) (map room_kept (set lists s new))
    keeps d more t = go (cases_eq t s)
      where
        go : (t ≡ s) ⊎ (t ≡ s → ⊥) → get_or (map room_kept lists) t 0 ≤ get_or (map room_kept (set lists s new)) t 0
        go (inl same) = omega (arith, more, room_before d, room_own, ap (λ n. get_or (map room_kept lists) n 0) same, ap (λ n. get_or (map room_kept (set lists s new)) n 0) same)
        go (inr apart) = omega (arith, room_other t apart)

-- ---- all servers, one after the other

-- the lists below t are made by f of what they were, and the others are as they were
pub record AreMade (f : ℕ → Claims → Claims) (old new : List Claims) (t : ℕ) : Type 0 where
  pub long : length new ≡ length old
  pub made : (j : ℕ) → j < t → get_or new j [] ≡ f j (get_or old j [])
  pub rest : (j : ℕ) → t ≤ j → get_or new j [] ≡ get_or old j []

module _ (f : ℕ → Claims → Claims) (old : List Claims) where
  pub made_none : AreMade f old old 0
  made_none = record { long = refl; made = λ j below. absurd (omega arith); rest = λ j above. refl }

  pub made_more : (new : List Claims) (t : ℕ) → t < length old → AreMade f old new t → AreMade f old (set new t (f t (get_or new t []))) (t + 1)
  made_more new t inside so_far = record {
    long = length-set new t (f t (get_or new t [])) ∙ so_far.long;
    made = λ j below. made j below (cases_eq j t);
    rest = λ j above. get_or-set_other new t j (f t (get_or new t [])) [] (λ same. omega arith) ∙ so_far.rest j (omega arith);
  }
    where
      made : (j : ℕ) → j < t + 1 → (j ≡ t) ⊎ (j ≡ t → ⊥) → get_or (set new t (f t (get_or new t []))) j [] ≡ f j (get_or old j [])
      made j below (inl same) = ap (λ n. get_or (set new t (f t (get_or new t []))) n []) same ∙ get_or-set_same new t (f t (get_or new t [])) [] (omega (arith, so_far.long)) ∙ ap (f t) (so_far.rest t (omega arith))
          ∙ sym (ap (λ n. f n (get_or old n [])) same)
      made j below (inr apart) = get_or-set_other new t j (f t (get_or new t [])) [] apart ∙ so_far.made j (omega arith)

  pub made_all : (new : List Claims) (t : ℕ) → length old ≡ 16 → 16 ≤ t → AreMade f old new t → new ≡ map (λ j. f j (get_or old j [])) servers
  unfolding servers
  made_all new t long past so_far = fill_by_all (λ j. f j (get_or old j [])) new 16 [] (so_far.long ∙ long) (λ j below. so_far.made j (omega arith))

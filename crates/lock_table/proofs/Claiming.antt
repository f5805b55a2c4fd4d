-- What is asked of a server, by the claims of all servers on one lock.
use Rattle.std.proofs.Common.{◌≡◌, ℕ, zero, suc, ◌<◌, ◌≤◌, ◌==◌, Bool, true, false, not, ◌&&◌, ◌||◌, if◌then◌else◌, IsSome, [], ◌∷◌, length, get_or, set, Option, Some, None, refl, sym, ap, ◌∙◌, inl, inr, ◌⊎◌, arith}
use Rattle.std.specs.Prelude.{bit_or, ◌^◌}
use Rattle.std.specs.Option.{option_map}
use Rattle.std.proofs.lemmas.Bool.{cases_eq, cases_lt, false≢true}
use Rattle.std.proofs.lemmas.Bool.Decides.{nat_tests}
use Rattle.std.proofs.lemmas.List.{get_or-set_other, get_or-set_same, get_or-replicate, get_or_past, length-replicate, set_past}
use Rattle.frang_base.specs.declared.lock.Mode.{Mode}
use Rattle.frang_base.specs.declared.lock.Mode.TheVariants.{Shared, Sole}
use Rattle.lock_definitions.specs.declared.claim.Claim.{Claim}
use Rattle.lock_definitions.specs.Servers.{any_below, bits_below, any_server, server_bits}
use Rattle.lock_definitions.specs.Locks.{no_claim, is_no_claim, is_wished_in}
use Rattle.lock_definitions.specs.Calls.{given_up, shared, asked_of}
use Rattle.lock_definitions.proofs.ClaimLists.{nothing_claimed}
use Rattle.lock_table.specs.Asked.{Claimed, claim_by, is_unclaimed, unclaimed, is_wished_beside, asked_by, growth}
use Rattle.lock_table.specs.Kept.{some_claim, claimed_by, ended, IsSameBeside}

-- ---- tests of servers

pub any_below-same : (p q : ℕ → Bool) (n : ℕ) → ((t : ℕ) → t < n → p t ≡ q t) → any_below p n ≡ any_below q n
any_below-same p q zero same = refl
any_below-same p q (suc n) same = λ i. any_below-same p q n (λ t below. same t (omega arith)) i || same n (omega arith) i

pub any_server-same : (p q : ℕ → Bool) → ((t : ℕ) → t < 16 → p t ≡ q t) → any_server p ≡ any_server q
unfolding any_server
any_server-same p q same = any_below-same p q 16 same

pub bits_below-same : (p q : ℕ → Bool) (n : ℕ) → ((t : ℕ) → t < n → p t ≡ q t) → bits_below p n ≡ bits_below q n
bits_below-same p q zero same = refl
bits_below-same p q (suc n) same = λ i. if same n (omega arith) i then bit_or (bits_below-same p q n (λ t below. same t (omega arith)) i) (2 ^ n) else bits_below-same p q n (λ t below. same t (omega arith)) i

pub server_bits-same : (p q : ℕ → Bool) → ((t : ℕ) → t < 16 → p t ≡ q t) → server_bits p ≡ server_bits q
unfolding server_bits
server_bits-same p q same = bits_below-same p q 16 same

-- ---- one server's claim

-- who has no claim isn't asked for anything
pub unclaimed_unasked : (server : ℕ) (claims : Claimed) → claim_by server claims ≡ no_claim → asked_by server claims ≡ None
unclaimed_unasked server claims none = ap (λ claim. asked_of claim.held (is_wished_beside server Shared claims) (is_wished_beside server Sole claims)) none

-- nor is who has a claim by which nothing is held or wished
pub unlisted_unasked : (server : ℕ) (claims : Claimed) → claimed_by server claims ≡ None → asked_by server claims ≡ None
unlisted_unasked server claims none = go (is_no_claim (claim_by server claims)) refl none
  where
    go : (b : Bool) → is_no_claim (claim_by server claims) ≡ b → (if b then None else Some (claim_by server claims)) ≡ None → asked_by server claims ≡ None
    go true is e = unclaimed_unasked server claims (nothing_claimed (claim_by server claims) is)
    go false is e = cc

pub claimed_by-none : (server : ℕ) (claims : Claimed) → claim_by server claims ≡ no_claim → claimed_by server claims ≡ None
claimed_by-none server claims none = ap some_claim none

pub claim_by-unclaimed : (server : ℕ) → claim_by server unclaimed ≡ no_claim
unfolding unclaimed
claim_by-unclaimed server = go (cases_lt server 16)
  where
    go : (server < 16) ⊎ (16 ≤ server) → claim_by server unclaimed ≡ no_claim
    go (inl below) = get_or-replicate 16 server no_claim no_claim below
    go (inr past) = get_or_past unclaimed server no_claim (omega (arith, length-replicate {A = Claim} 16 no_claim))

pub is_unclaimed-unclaimed : is_unclaimed unclaimed ≡ true
unfolding unclaimed
is_unclaimed-unclaimed = refl

pub claim_by-is_unclaimed : (server : ℕ) (claims : Claimed) → is_unclaimed claims ≡ true → claim_by server claims ≡ no_claim
claim_by-is_unclaimed server [] all = refl
claim_by-is_unclaimed zero (claim ∷ claims) all = nothing_claimed claim (first (is_no_claim claim) all)
  where
    first : (b : Bool) → (b && is_unclaimed claims) ≡ true → b ≡ true
    first true e = refl
    first false e = e
claim_by-is_unclaimed (suc server) (claim ∷ claims) all = claim_by-is_unclaimed server claims (rest (is_no_claim claim) all)
  where
    rest : (b : Bool) → (b && is_unclaimed claims) ≡ true → is_unclaimed claims ≡ true
    rest true e = e
    rest false e = absurd (false≢true e)

pub claim_by-ended : (dead : ℕ) (claims : Claimed) → claim_by dead (ended dead claims) ≡ no_claim
claim_by-ended dead claims = go (cases_lt dead (length claims))
  where
    go : (dead < length claims) ⊎ (length claims ≤ dead) → claim_by dead (ended dead claims) ≡ no_claim
    go (inl inside) = get_or-set_same claims dead no_claim no_claim inside
    go (inr past) = ap (λ cs. get_or cs dead no_claim) (set_past claims dead no_claim past) ∙ get_or_past claims dead no_claim past

pub claim_by-beside : (server : ℕ) (claims : Claimed) (claim : Claim) → IsSameBeside server claims (set claims server claim)
claim_by-beside server claims claim other apart = get_or-set_other claims server other claim no_claim apart

-- ---- what is asked, where one server's claim has changed

module _ (server : ℕ) (before now : Claimed) (beside : IsSameBeside server before now) where
  -- the wishes beside a server don't depend on its own
  wished_beside_own : (mode : Mode) → is_wished_beside server mode now ≡ is_wished_beside server mode before
  wished_beside_own mode = any_server-same _ _ (λ other below. go other (cases_eq other server))
    where
      same_wish : (other : ℕ) (b : Bool) → (other == server) ≡ b → (other ≡ server → ⊥) → (not (other == server) && is_wished_in (claim_by other now) mode) ≡ (not (other == server) && is_wished_in (claim_by other before) mode)
      same_wish other b is apart = ap (λ claim. not (other == server) && is_wished_in claim mode) (beside other apart)

      equal : (other : ℕ) → other ≡ server → (other == server) ≡ true
      equal other same = grind (arith, nat_tests)

      go : (other : ℕ) → (other ≡ server) ⊎ (other ≡ server → ⊥) → (not (other == server) && is_wished_in (claim_by other now) mode) ≡ (not (other == server) && is_wished_in (claim_by other before) mode)
      go other (inl same) = ap (λ b. not b && is_wished_in (claim_by other now) mode) (equal other same) ∙ sym (ap (λ b. not b && is_wished_in (claim_by other before) mode) (equal other same))
      go other (inr apart) = same_wish other (other == server) refl apart

  -- what a server itself is asked for, by what it holds then
  pub asked_own : (held : Option Mode) → (claim_by server now).held ≡ held → asked_by server now ≡ asked_of held (is_wished_beside server Shared before) (is_wished_beside server Sole before)
  asked_own held is = λ i. asked_of (is i) (wished_beside_own Shared i) (wished_beside_own Sole i)

  module _ (shared : (claim_by server now).wishes_shared ≡ (claim_by server before).wishes_shared) (sole : (claim_by server now).wishes_sole ≡ (claim_by server before).wishes_sole) where
    wish_of : (other : ℕ) → (other ≡ server) ⊎ (other ≡ server → ⊥) → (mode : Mode) → is_wished_in (claim_by other now) mode ≡ is_wished_in (claim_by other before) mode
    wish_of other (inl same) Shared = ap (λ t. (claim_by t now).wishes_shared) same ∙ shared ∙ sym (ap (λ t. (claim_by t before).wishes_shared) same)
    wish_of other (inl same) Sole = ap (λ t. (claim_by t now).wishes_sole) same ∙ sole ∙ sym (ap (λ t. (claim_by t before).wishes_sole) same)
    wish_of other (inr apart) mode = ap (λ claim. is_wished_in claim mode) (beside other apart)

    -- what the others are asked for depends on its wishes alone
    pub asked_beside : (other : ℕ) → (other ≡ server → ⊥) → asked_by other now ≡ asked_by other before
    asked_beside other apart = λ i. asked_of (beside other apart i).held (wished Shared i) (wished Sole i)
      where
        wished : (mode : Mode) → is_wished_beside other mode now ≡ is_wished_beside other mode before
        wished mode = any_server-same _ _ (λ t below. ap (λ b. not (t == other) && b) (wish_of t (cases_eq t server) mode))

-- nothing isn't something
pub not_some : {V : Type 0} (o : Option V) → o ≡ None → IsSome o → ⊥
not_some None none some = false≢true some
not_some (Some v) none some = cc

-- ---- growth

pub growth-same : {V : Type 0} (o : Option V) → growth o o ≡ 0
growth-same None = refl
growth-same (Some v) = refl

pub growth-none : {V : Type 0} (o : Option V) → growth o None ≡ 0
growth-none None = refl
growth-none (Some v) = refl

pub growth-small : {V : Type 0} (before now : Option V) → growth before now ≤ 1
growth-small None None = omega arith
growth-small None (Some v) = omega arith
growth-small (Some v) now = omega arith

pub growth-shared : (a b : Bool) → growth (asked_of (Some Sole) a b) (asked_of (Some Shared) a b) ≡ 0
growth-shared true b = refl
growth-shared false true = refl
growth-shared false false = refl

-- ---- what is asked for grows with wishes and holds alone

-- where a claim's wishes stay, nobody is asked for more unless its server is
pub growth-own : (server : ℕ) (before : Claimed) (claim : Claim) → claim_by server (set before server claim) ≡ claim → claim.wishes_shared ≡ (claim_by server before).wishes_shared → claim.wishes_sole ≡ (claim_by server before).wishes_sole
    → growth (asked_by server before) (asked_by server (set before server claim)) ≡ 0 → (t : ℕ) → growth (asked_by t before) (asked_by t (set before server claim)) ≡ 0
growth-own server before claim own shared sole none t = go (cases_eq t server)
  where
    go : (t ≡ server) ⊎ (t ≡ server → ⊥) → growth (asked_by t before) (asked_by t (set before server claim)) ≡ 0
    go (inl same) = ap (λ n. growth (asked_by n before) (asked_by n (set before server claim))) same ∙ none
    go (inr apart) = ap (growth (asked_by t before)) (asked_beside server before (set before server claim) (claim_by-beside server before claim) (ap (λ c. c.wishes_shared) own ∙ shared) (ap (λ c. c.wishes_sole) own ∙ sole) t apart) ∙ growth-same (asked_by t before)

-- who gives up a lock isn't asked for it
pub growth-given_up : (server : ℕ) (before : Claimed) → claim_by server (set before server (given_up (claim_by server before))) ≡ given_up (claim_by server before) → (t : ℕ) → growth (asked_by t before) (asked_by t (set before server (given_up (claim_by server before)))) ≡ 0
growth-given_up server before own = growth-own server before (given_up (claim_by server before)) own refl refl
    (ap (growth (asked_by server before)) (asked_own server before (set before server (given_up (claim_by server before))) (claim_by-beside server before (given_up (claim_by server before))) None (ap (λ c. c.held) own)) ∙ growth-none (asked_by server before))

-- who holds a lock shared in place of sole is asked for no more
pub growth-downgraded : (server : ℕ) (before : Claimed) → (claim_by server before).held ≡ Some Sole → claim_by server (set before server (shared (claim_by server before))) ≡ shared (claim_by server before) → (t : ℕ) → growth (asked_by t before) (asked_by t (set before server (shared (claim_by server before)))) ≡ 0
growth-downgraded server before sole own = growth-own server before (shared (claim_by server before)) own refl refl
    ((λ i. growth (asked_of (sole i) For_shared For_sole) (asked_own server before (set before server (shared (claim_by server before))) (claim_by-beside server before (shared (claim_by server before))) (Some Shared) (ap (λ c. c.held) own ∙ ap (option_map (λ mode. Shared)) sole) i))
    ∙ growth-shared For_shared For_sole)
  where
    For_shared : Bool
    For_shared = is_wished_beside server Shared before

    For_sole : Bool
    For_sole = is_wished_beside server Sole before

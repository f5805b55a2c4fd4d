-- The counts of a pair's failed calls: each has a cause while the second copy isn't out.
use Rattle.std.proofs.Common.{◌≡◌, ◌⊎◌, inl, inr, ◌≤◌, ℕ, ◌==◌, true, false, List, Result, Ok, Err, is_err, refl, sym, subst, ◌∙◌, arith, le_refl, le_trans}
use Rattle.std.proofs.lemmas.Bool.Decides.{eqb_tells}
use Rattle.frang_outside.specs.declared.act.Put.{Put}
use Rattle.frang_outside.specs.declared.act.Taken.{Taken}
use Rattle.frang_outside.specs.declared.act.Taken.TheVariants.{Written, Late}
use Rattle.frang_outside.specs.declared.outside.Failed.{Failed}
use Rattle.frang_outside.specs.declared.outside.PutFault.{PutFault}
use Rattle.frang_outside.specs.declared.outside.PutFault.TheVariants.{Failed as PutFailed, NoMemory as PutNoMemory}
use Rattle.frang_outside.specs.Outside.{State, GetOutcome, OneRose, PutOutcome, Rose}
use Rattle.frang_outside.specs.declared.outside.SayFault.{SayFault}
use Rattle.frang_outside.specs.declared.outside.SayFault.TheVariants.{Failed as SayFailed, NoMemory as SayNoMemory}
use Rattle.petal_pair.specs.PairedCalls.{EachRose, PairGets, PairPuts, Puts, SecondPuts, say_faults_said}
use Rattle.petal_pair.specs.declared.in_use.InUse.{InUse}
use Rattle.petal_pair.specs.declared.in_use.InUse.TheVariants.{Both, FirstAlone, SecondAlone}
use Rattle.quiet_pair.specs.Ties.{HasCause}

-- no count of the second copy falls, and the first copy alone in use stays so
pub record GoesOn (was now : InUse) (second second' : State) : Type 0 where
  pub stays : was ≡ FirstAlone → now ≡ FirstAlone
  pub counts : (party : ℕ) → second.faults party ≤ second'.faults party

same_counts : (s t : State) → t ≡ s → (party : ℕ) → s.faults party ≤ t.faults party
same_counts s t e party = subst (λ u. s.faults party ≤ u.faults party) (sym e) (le_refl (s.faults party))

pub get_goes_on : (first first' second second' : State) (was now : InUse) (server sector : ℕ) (r : Result (List ℕ) Failed) → PairGets was now first first' second second' server sector r → GoesOn was now second second'
get_goes_on first first' second second' Both Both server sector (Ok block) h = record { stays = λ e. e; counts = same_counts second second' h.1 }
get_goes_on first first' second second' Both Both server sector (Err fault) h = absurd h
get_goes_on first first' second second' Both FirstAlone server sector (Ok block) h = absurd h
get_goes_on first first' second second' Both FirstAlone server sector (Err fault) h = absurd h
get_goes_on first first' second second' Both SecondAlone server sector (Ok block) h = record { stays = λ e. cc; counts = h.1.counts.faults }
get_goes_on first first' second second' Both SecondAlone server sector (Err fault) h = record { stays = λ e. cc; counts = h.1.counts.faults }
get_goes_on first first' second second' FirstAlone now server sector r h = record { stays = λ e. h.0; counts = same_counts second second' h.2 }
get_goes_on first first' second second' SecondAlone now server sector r h = record { stays = λ e. cc; counts = h.2.counts.faults }

second_counts : (second second' : State) (put : Put) (r : Result Taken PutFault) → SecondPuts second second' put r → (party : ℕ) → second.faults party ≤ second'.faults party
second_counts second second' put (Ok Written) h = h.counts.faults
second_counts second second' put (Ok Late) (inl h) = h.counts.faults
second_counts second second' put (Ok Late) (inr h) = h.counts.faults
second_counts second second' put (Err PutFailed) h = absurd h
second_counts second second' put (Err PutNoMemory) h = same_counts second second' h

short_counts : (second second' : State) (put : Put) → Puts second second' put (Err PutFailed) ⊎ Puts second second' put (Err PutNoMemory) → (party : ℕ) → second.faults party ≤ second'.faults party
short_counts second second' put (inl h) = h.counts.faults
short_counts second second' put (inr h) = h.counts.faults

pub put_goes_on : (first first' second second' : State) (was now : InUse) (put : Put) (r : Result Taken PutFault) → PairPuts was now first first' second second' put r → GoesOn was now second second'
put_goes_on first first' second second' Both Both put r h = record { stays = λ e. e; counts = second_counts second second' put r h.1 }
put_goes_on first first' second second' Both FirstAlone put r h = record { stays = λ e. refl; counts = short_counts second second' put h.2 }
put_goes_on first first' second second' Both SecondAlone put r h = record { stays = λ e. cc; counts = h.1.counts.faults }
put_goes_on first first' second second' FirstAlone now put r h = record { stays = λ e. h.0; counts = same_counts second second' h.2 }
put_goes_on first first' second second' SecondAlone now put r h = record { stays = λ e. cc; counts = h.2.counts.faults }

-- a count that didn't change
pub same_cause : (was now : InUse) (second second' : State) (party x y : ℕ) → GoesOn was now second second' → HasCause was second party x → y ≡ x → HasCause now second' party y
same_cause was now second second' party x y on (inl none) e = inl (e ∙ none)
same_cause was now second second' party x y on (inr (inl out)) e = inr (inl (on.stays out))
same_cause was now second second' party x y on (inr (inr one)) e = inr (inr (le_trans one (on.counts party)))

one_of : (x y : ℕ) → Rose x y → 1 ≤ y
one_of x y h = grind (arith, h)

-- that of the server of a failed call
own_cause : (was now : InUse) (first first' second second' : State) (server x : ℕ) → GoesOn was now second second' → EachRose was first first' second second' server → HasCause now second' server x
own_cause Both now first first' second second' server x on each = inr (inr (one_of (second.faults server) (second'.faults server) each.1))
own_cause FirstAlone now first first' second second' server x on each = inr (inl (on.stays refl))
own_cause SecondAlone now first first' second second' server x on each = inr (inr (one_of (second.faults server) (second'.faults server) each))

failed_causes : (was now : InUse) (first first' second second' pair pair' : State) (server : ℕ) → GoesOn was now second second' → EachRose was first first' second second' server → OneRose pair pair' server
    → ((party : ℕ) → HasCause was second party (pair.faults party)) → (party : ℕ) → HasCause now second' party (pair'.faults party)
failed_causes was now first first' second second' pair pair' server on each rose causes party = go (eqb_tells party server)
  where
    go : ((party == server ≡ true) × (party ≡ server)) ⊎ ((party == server ≡ false) × (party ≡ server → ⊥)) → HasCause now second' party (pair'.faults party)
    go (inl is) = subst (λ p. HasCause now second' p (pair'.faults p)) (sym is.1) (own_cause was now first first' second second' server (pair'.faults server) on each)
    go (inr apart) = same_cause was now second second' party (pair.faults party) (pair'.faults party) on (causes party) (rose.others party apart.1)

pub get_causes : (was now : InUse) (first first' second second' pair pair' : State) (server sector : ℕ) (r : Result (List ℕ) Failed) → PairGets was now first first' second second' server sector r
    → (is_err r ≡ true → EachRose was first first' second second' server) → GetOutcome pair pair' server sector r → ((party : ℕ) → HasCause was second party (pair.faults party)) → (party : ℕ) → HasCause now second' party (pair'.faults party)
get_causes was now first first' second second' pair pair' server sector (Ok block) h each outcome causes party =
    same_cause was now second second' party (pair.faults party) (pair'.faults party) (get_goes_on first first' second second' was now server sector (Ok block) h) (causes party) (outcome.1.faults party)
get_causes was now first first' second second' pair pair' server sector (Err fault) h each outcome causes party =
    failed_causes was now first first' second second' pair pair' server (get_goes_on first first' second second' was now server sector (Err fault) h) (each refl) outcome causes party

put_counts : (pair pair' : State) (put : Put) (taken : Taken) → PutOutcome pair pair' put (Ok taken) → (party : ℕ) → pair'.faults party ≡ pair.faults party
put_counts pair pair' put Written outcome = outcome.3.faults
put_counts pair pair' put Late outcome = outcome.3.faults

pub put_causes : (was now : InUse) (first first' second second' pair pair' : State) (put : Put) (r : Result Taken PutFault) → PairPuts was now first first' second second' put r
    → (r ≡ Err PutFailed → EachRose was first first' second second' put.server.0) → PutOutcome pair pair' put r → ((party : ℕ) → HasCause was second party (pair.faults party)) → (party : ℕ) → HasCause now second' party (pair'.faults party)
put_causes was now first first' second second' pair pair' put (Ok taken) h each outcome causes party =
    same_cause was now second second' party (pair.faults party) (pair'.faults party) (put_goes_on first first' second second' was now put (Ok taken) h) (causes party) (put_counts pair pair' put taken outcome party)
put_causes was now first first' second second' pair pair' put (Err PutFailed) h each outcome causes party =
    failed_causes was now first first' second second' pair pair' put.server.0 (put_goes_on first first' second second' was now put (Err PutFailed) h) (each refl) outcome.3 causes party
put_causes was now first first' second second' pair pair' put (Err PutNoMemory) h each outcome causes party =
    same_cause was now second second' party (pair.faults party) (pair'.faults party) (put_goes_on first first' second second' was now put (Err PutNoMemory) h) (causes party) (outcome.2.faults party)

-- no say fails where none of the first copy does
pub said_calm : (says : ℕ) (r : Result (Unit {0}) SayFault) → says ≡ 0 → (r ≡ Err SayFailed → Rose 0 0) → say_faults_said says r ≡ 0
said_calm says (Ok done) calm rose = calm
said_calm says (Err SayFailed) calm rose = absurd (never (rose refl))
  where
    never : Rose 0 0 → ⊥
    never h = omega (arith, h)
said_calm says (Err SayNoMemory) calm rose = calm

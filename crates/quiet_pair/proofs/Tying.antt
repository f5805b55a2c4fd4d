-- What a call of a pair leaves of what ties its first copy to it.
use Rattle.std.proofs.Common.{◌≡◌, ◌⊎◌, inl, inr, ◌≤◌, ℕ, ◌==◌, true, false, if◌then◌else◌, List, [], ◌∷◌, ◌++◌, Option, Some, None, Result, Ok, Err, refl, sym, ap, subst, ◌∙◌, append_assoc, arith}
use Rattle.std.proofs.lemmas.Bool.Decides.{eqb_tells, nat_tests}
use Rattle.std.proofs.lemmas.List.{append-nil}
use Rattle.std.proofs.lemmas.List.Elements.{filter-append}
use Rattle.std.specs.Prelude.{not}
use Rattle.frang_base.specs.declared.sector.ServerId.{ServerId}
use Rattle.frang_outside.specs.declared.act.Act.{Act}
use Rattle.frang_outside.specs.declared.act.Act.TheVariants.{Put as Acted, Said}
use Rattle.frang_outside.specs.declared.act.Put.{Put}
use Rattle.frang_outside.specs.declared.act.Taken.{Taken}
use Rattle.frang_outside.specs.declared.act.Taken.TheVariants.{Written, Late}
use Rattle.frang_outside.specs.declared.outside.Failed.{Failed}
use Rattle.frang_outside.specs.declared.outside.PutFault.{PutFault}
use Rattle.frang_outside.specs.declared.outside.PutFault.TheVariants.{Failed as PutFailed, NoMemory as PutNoMemory}
use Rattle.frang_outside.specs.declared.outside.SayFault.{SayFault}
use Rattle.frang_outside.specs.declared.outside.SayFault.TheVariants.{Failed as SayFailed, NoMemory as SayNoMemory}
use Rattle.frang_outside.specs.Outside.{State, PutOutcome, Rose, SayOutcome, one_more, told_more}
use Rattle.petal_pair.specs.PairedCalls.{PairGets, PairPuts, Says, acts_put, acts_said}
use Rattle.petal_pair.specs.declared.in_use.InUse.{InUse}
use Rattle.petal_pair.specs.declared.in_use.InUse.TheVariants.{Both, FirstAlone, SecondAlone}
use Rattle.quiet_outside.specs.KeptLines.{Quieted, fail_at_of, is_put, quiet_state, with_failed}
use Rattle.quiet_pair.specs.FirstCopies.{AreLateFrom, IsCountedIn, IsFirstCopy}
use Rattle.quiet_pair.specs.Ties.{FirstTies, HasFullCount, IfTold, IsOut, TellsJust, says_of}

-- ---- records

tells_same : (told now : Option (List Act)) (acts : List Act) → now ≡ told → TellsJust told acts → TellsJust now acts
tells_same told now acts e is = subst (λ t. TellsJust t acts) (sym e) is

tells_more : (told : Option (List Act)) (acts : List Act) (act : Act) → TellsJust told acts → TellsJust (told_more told act) (acts ++ act ∷ [])
tells_more None acts act is = tt
tells_more (Some t) acts act is = ap (λ xs. xs ++ act ∷ []) is

tells_acts : (told : Option (List Act)) (acts more : List Act) → acts ≡ more → TellsJust told acts → TellsJust told more
tells_acts told acts more e is = subst (TellsJust told) e is

if_more : (told : Option (List Act)) (act : Act) (so : Type 0) → IfTold told so → IfTold (told_more told act) so
if_more None act so is = tt
if_more (Some t) act so is = is

if_same : (told now : Option (List Act)) (so : Type 0) → now ≡ told → IfTold told so → IfTold now so
if_same told now so e is = subst (λ t. IfTold t so) (sym e) is

-- ---- a first copy that goes out

full_of : (x y : ℕ) → one_more x ≡ y → y ≤ x → Rose y y
full_of x y e h = grind (arith, nat_tests, e, h)

module _ {O : Type 0} (state : O → State) (outset : State) (q : Quieted O) (acts : List Act) where
  own_count : (server : ServerId) (n : ℕ) → with_failed (Some server) server.0 n ≡ one_more n
  own_count server n = go (eqb_tells server.0 server.0)
    where
      go : ((server.0 == server.0 ≡ true) × (server.0 ≡ server.0)) ⊎ ((server.0 == server.0 ≡ false) × (server.0 ≡ server.0 → ⊥)) → with_failed (Some server) server.0 n ≡ one_more n
      go (inl is) = ap (λ b. if b then one_more n else n) is.0
      go (inr apart) = absurd (apart.1 refl)

  -- of its puts those from the one on that is to fail are late, but for a count that can't rise
  pub late_at : IsFirstCopy outset (state q.out) (quiet_state state q).acts q.puts q.fail_at q.failed → FirstTies outset (quiet_state state q) Both acts
      → IfTold (quiet_state state q).acts (AreLateFrom (fail_at_of (quiet_state state q).mark) acts ⊎ HasFullCount outset)
  late_at is ties = go (quiet_state state q).acts q.failed ties.0 is.puts_are (λ server same. full server (ties.1 server.0) same)
    where
      full : (server : ServerId) → (quiet_state state q).faults server.0 ≡ outset.faults server.0 → q.failed ≡ Some server → HasFullCount outset
      full server same some = (
        server.0,
        full_of ((state q.out).faults server.0) (outset.faults server.0)
            (sym (own_count server ((state q.out).faults server.0)) ∙ ap (λ f. with_failed f server.0 ((state q.out).faults server.0)) (sym some) ∙ same)
            (is.follows.faults server.0),
      )

      go : (told : Option (List Act)) (failed : Option ServerId) → TellsJust told acts → IsCountedIn told q.puts q.fail_at failed → ((server : ServerId) → failed ≡ Some server → HasFullCount outset)
          → IfTold told (AreLateFrom q.fail_at acts ⊎ HasFullCount outset)
      go None failed just counted full = tt
      go (Some t) None just counted full = inl (subst (AreLateFrom q.fail_at) just (counted.waits refl))
      go (Some t) (Some server) just counted full = inr (full server refl)

-- ---- the tie

abbrev pub IsLate : State → State → List Act → Type 0
IsLate outset first acts = IfTold first.acts (AreLateFrom (fail_at_of first.mark) acts ⊎ HasFullCount outset)

late_moved : (outset first first' : State) (acts : List Act) → first'.mark ≡ first.mark → first'.acts ≡ first.acts → IsLate outset first acts → IsLate outset first' acts
late_moved outset first first' acts e f is =
    subst (λ m. IfTold first'.acts (AreLateFrom (fail_at_of m) acts ⊎ HasFullCount outset)) (sym e) (if_same first.acts first'.acts (AreLateFrom (fail_at_of first.mark) acts ⊎ HasFullCount outset) f is)

goes_out : (outset first first' : State) (acts : List Act) (server : ℕ) (more : List Act) → FirstTies outset first Both acts → first'.acts ≡ first.acts → first'.mark ≡ first.mark → Rose (first.faults server) (first'.faults server)
    → says_of more ≡ [] → IsLate outset first acts → IsOut outset first' (acts ++ more)
goes_out outset first first' acts server more ties same mark rose none late = record {
  front = acts;
  rest = more;
  parts = refl;
  told = tells_same first.acts first'.acts (acts ++ says_of more) same (tells_acts first.acts acts (acts ++ says_of more) (sym (append-nil acts) ∙ ap (λ xs. acts ++ xs) (sym none)) ties.0);
  rose = (server, subst (λ n. Rose n (first'.faults server)) (ties.1 server) rose);
  late = late_moved outset first first' acts mark same late;
}

-- a get
pub get_ties : (outset first first' second second' : State) (was now : InUse) (acts : List Act) (server sector : ℕ) (r : Result (List ℕ) Failed) → FirstTies outset first was acts → PairGets was now first first' second second' server sector r
    → (was ≡ Both → IsLate outset first acts) → FirstTies outset first' now acts
get_ties outset first first' second second' Both Both acts server sector (Ok block) ties h late =
    (tells_same first.acts first'.acts acts h.0.acts ties.0, λ party. h.0.outcome.1.faults party ∙ ties.1 party)
get_ties outset first first' second second' Both Both acts server sector (Err fault) ties h late = absurd h
get_ties outset first first' second second' Both FirstAlone acts server sector (Ok block) ties h late = absurd h
get_ties outset first first' second second' Both FirstAlone acts server sector (Err fault) ties h late = absurd h
get_ties outset first first' second second' Both SecondAlone acts server sector (Ok block) ties h late =
    subst (IsOut outset first') (append-nil acts) (goes_out outset first first' acts server [] ties h.0.acts h.0.counts.mark h.0.rose.own refl (late refl))
get_ties outset first first' second second' Both SecondAlone acts server sector (Err fault) ties h late =
    subst (IsOut outset first') (append-nil acts) (goes_out outset first first' acts server [] ties h.0.acts h.0.counts.mark h.0.rose.own refl (late refl))
get_ties outset first first' second second' FirstAlone now acts server sector r ties h late = rw h.0 (tells_same first.acts first'.acts acts h.1.acts ties)
get_ties outset first first' second second' SecondAlone now acts server sector r ties h late = rw (h.0, h.1) ties

-- what a put adds to the record
abbrev put_of : Put → Result Taken PutFault → List Act
put_of put (Ok taken) = Acted put taken ∷ []
put_of put (Err fault) = []

acts_put_is : (acts : List Act) (put : Put) (r : Result Taken PutFault) → acts_put acts put r ≡ acts ++ put_of put r
acts_put_is acts put (Ok taken) = refl
acts_put_is acts put (Err fault) = sym (append-nil acts)

put_says : (put : Put) (r : Result Taken PutFault) → says_of (put_of put r) ≡ []
put_says put (Ok taken) = refl
put_says put (Err fault) = refl

put_tells : (s t : State) (put : Put) (r : Result Taken PutFault) (acts : List Act) → PutOutcome s t put r → TellsJust s.acts acts → TellsJust t.acts (acts_put acts put r)
put_tells s t put (Ok Written) acts h is = tells_same (told_more s.acts (Acted put Written)) t.acts (acts ++ Acted put Written ∷ []) h.2 (tells_more s.acts acts (Acted put Written) is)
put_tells s t put (Ok Late) acts h is = tells_same (told_more s.acts (Acted put Late)) t.acts (acts ++ Acted put Late ∷ []) h.2 (tells_more s.acts acts (Acted put Late) is)
put_tells s t put (Err PutFailed) acts h is = tells_same s.acts t.acts acts h.2 is
put_tells s t put (Err PutNoMemory) acts h is = tells_same s.acts t.acts acts h.1 is

-- behind a first copy that is out there is more
out_more : (outset first : State) (acts more : List Act) → says_of more ≡ [] → IsOut outset first acts → IsOut outset first (acts ++ more)
out_more outset first acts more none is = record {
  front = is.front;
  rest = is.rest ++ more;
  parts = ap (λ xs. xs ++ more) is.parts ∙ append_assoc is.front is.rest more;
  told = tells_acts first.acts (is.front ++ says_of is.rest) (is.front ++ says_of (is.rest ++ more)) (ap (λ xs. is.front ++ xs) (sym (says_more is.rest))) is.told;
  rose = is.rose;
  late = is.late;
}
  where
    says_more : (rest : List Act) → says_of (rest ++ more) ≡ says_of rest
    says_more rest = filter-append (λ act. not (is_put act)) rest more ∙ ap (λ xs. says_of rest ++ xs) none ∙ append-nil (says_of rest)

-- a put
pub put_ties : (outset first first' second second' : State) (was now : InUse) (acts : List Act) (put : Put) (r : Result Taken PutFault) → FirstTies outset first was acts → PairPuts was now first first' second second' put r
    → (was ≡ Both → IsLate outset first acts) → FirstTies outset first' now (acts_put acts put r)
put_ties outset first first' second second' Both Both acts put (Ok Written) ties h late = (put_tells first first' put (Ok Written) acts h.0.outcome ties.0, λ party. h.0.outcome.3.faults party ∙ ties.1 party)
put_ties outset first first' second second' Both Both acts put (Ok Late) ties h late = (put_tells first first' put (Ok Late) acts h.0.outcome ties.0, λ party. h.0.outcome.3.faults party ∙ ties.1 party)
put_ties outset first first' second second' Both Both acts put (Err PutFailed) ties h late = absurd h.1
put_ties outset first first' second second' Both Both acts put (Err PutNoMemory) ties h late = (put_tells first first' put (Err PutNoMemory) acts h.0.outcome ties.0, λ party. h.0.outcome.2.faults party ∙ ties.1 party)
put_ties outset first first' second second' Both FirstAlone acts put r ties h late = rw h.0 (put_tells first first' put (Ok Written) acts h.1.outcome ties.0)
put_ties outset first first' second second' Both SecondAlone acts put r ties h late =
    rw (acts_put_is acts put r) (goes_out outset first first' acts put.server.0 (put_of put r) ties h.0.outcome.2 h.0.counts.mark h.0.outcome.3.own (put_says put r) (late refl))
put_ties outset first first' second second' FirstAlone now acts put r ties h late = rw h.0 (put_tells first first' put r acts h.1.outcome ties)
put_ties outset first first' second second' SecondAlone now acts put r ties h late =
    rw (h.0, h.1, acts_put_is acts put r) (out_more outset first acts (put_of put r) (put_says put r) ties)

-- a line said
said_tells : (s t : State) (line : List ℕ) (r : Result (Unit {0}) SayFault) (acts : List Act) → SayOutcome s t line r → TellsJust s.acts acts → TellsJust t.acts (acts_said acts line r)
said_tells s t line (Ok done) acts h is = tells_same (told_more s.acts (Said line)) t.acts (acts ++ Said line ∷ []) h.0 (tells_more s.acts acts (Said line) is)
said_tells s t line (Err SayFailed) acts h is = tells_same s.acts t.acts acts h.0 is
said_tells s t line (Err SayNoMemory) acts h is = tells_same s.acts t.acts acts h.0 is

said_faults : (s t : State) (line : List ℕ) (r : Result (Unit {0}) SayFault) → SayOutcome s t line r → (party : ℕ) → t.faults party ≡ s.faults party
said_faults s t line (Ok done) h party = h.1.faults party
said_faults s t line (Err SayFailed) h party = h.1.faults party
said_faults s t line (Err SayNoMemory) h party = h.1.faults party

said_late : (s t : State) (line : List ℕ) (r : Result (Unit {0}) SayFault) (so : Type 0) → SayOutcome s t line r → IfTold s.acts so → IfTold t.acts so
said_late s t line (Ok done) so h is = if_same (told_more s.acts (Said line)) t.acts so h.0 (if_more s.acts (Said line) so is)
said_late s t line (Err SayFailed) so h is = if_same s.acts t.acts so h.0 is
said_late s t line (Err SayNoMemory) so h is = if_same s.acts t.acts so h.0 is

abbrev said_of : List ℕ → Result (Unit {0}) SayFault → List Act
said_of line (Ok done) = Said line ∷ []
said_of line (Err fault) = []

acts_said_is : (acts : List Act) (line : List ℕ) (r : Result (Unit {0}) SayFault) → acts_said acts line r ≡ acts ++ said_of line r
acts_said_is acts line (Ok done) = refl
acts_said_is acts line (Err fault) = sym (append-nil acts)

said_says : (line : List ℕ) (r : Result (Unit {0}) SayFault) → says_of (said_of line r) ≡ said_of line r
said_says line (Ok done) = refl
said_says line (Err fault) = refl

out_said : (outset first first' : State) (acts : List Act) (line : List ℕ) (r : Result (Unit {0}) SayFault) → Says first first' line r → IsOut outset first acts → IsOut outset first' (acts_said acts line r)
out_said outset first first' acts line r h is = record {
  front = is.front;
  rest = is.rest ++ said_of line r;
  parts = acts_said_is acts line r ∙ ap (λ xs. xs ++ said_of line r) is.parts ∙ append_assoc is.front is.rest (said_of line r);
  told = tells_acts first'.acts (acts_said (is.front ++ says_of is.rest) line r) (is.front ++ says_of (is.rest ++ said_of line r)) says_on (said_tells first first' line r (is.front ++ says_of is.rest) h.outcome is.told);
  rose = (is.rose.0, subst (Rose (outset.faults is.rose.0)) (sym (said_faults first first' line r h.outcome is.rose.0)) is.rose.1);
  late =
      subst (λ m. IfTold first'.acts (AreLateFrom (fail_at_of m) is.front ⊎ HasFullCount outset)) (sym h.counts.mark)
      (said_late first first' line r (AreLateFrom (fail_at_of first.mark) is.front ⊎ HasFullCount outset) h.outcome is.late);
}
  where
    says_on : acts_said (is.front ++ says_of is.rest) line r ≡ is.front ++ says_of (is.rest ++ said_of line r)
    says_on =
        acts_said_is (is.front ++ says_of is.rest) line r
        ∙ append_assoc is.front (says_of is.rest) (said_of line r)
        ∙ ap (λ xs. is.front ++ xs) (ap (λ xs. says_of is.rest ++ xs) (sym (said_says line r)) ∙ sym (filter-append (λ act. not (is_put act)) is.rest (said_of line r)))

say_ties_by : (outset first first' : State) (was : InUse) (acts : List Act) (line : List ℕ) (r : Result (Unit {0}) SayFault) → FirstTies outset first was acts → Says first first' line r → FirstTies outset first' was (acts_said acts line r)
say_ties_by outset first first' Both acts line r ties h = (said_tells first first' line r acts h.outcome ties.0, λ party. said_faults first first' line r h.outcome party ∙ ties.1 party)
say_ties_by outset first first' FirstAlone acts line r ties h = said_tells first first' line r acts h.outcome ties
say_ties_by outset first first' SecondAlone acts line r ties h = out_said outset first first' acts line r h ties

pub say_ties : (outset first first' : State) (was : InUse) (acts : List Act) (line : List ℕ) (r : Result (Unit {0}) SayFault) → FirstTies outset first was acts
    → Says first first' line r ⊎ ((r ≡ Err SayNoMemory) × (first' ≡ first)) → FirstTies outset first' was (acts_said acts line r)
say_ties outset first first' was acts line r ties (inl h) = say_ties_by outset first first' was acts line r ties h
say_ties outset first first' was acts line r ties (inr h) = rw (h.0, h.1) ties

-- what a first copy was asked to say, or that it wasn't
pub said_or_same : {O : Type 0} (state : O → State) (q q' : Quieted O) (line : List ℕ) (r : Result (Unit {0}) SayFault)
    → Says (quiet_state state q) (quiet_state state q') line r ⊎ ((r ≡ Err SayNoMemory) × (q' ≡ q)) → Says (quiet_state state q) (quiet_state state q') line r ⊎ ((r ≡ Err SayNoMemory) × (quiet_state state q' ≡ quiet_state state q))
said_or_same state q q' line r (inl h) = inl h
said_or_same state q q' line r (inr h) = inr (h.0, ap (quiet_state state) h.1)

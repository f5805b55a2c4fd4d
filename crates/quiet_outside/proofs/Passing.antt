-- What a call of the outside below leaves, and what comes of it where lines are kept.
use Rattle.std.proofs.Common.{◌≡◌, ◌≤◌, ℕ, ◌+◌, if◌then◌else◌, Bool, true, false, ◌==◌, List, [], ◌∷◌, ◌++◌, Option, Some, None, Result, Ok, Err, refl, sym, ap, ◌∙◌, arith, le_refl}
use Rattle.frang_base.specs.declared.sector.ServerId.{ServerId}
use Rattle.frang_outside.specs.declared.act.Act.{Act}
use Rattle.frang_outside.specs.declared.act.Act.TheVariants.{Put as Acted}
use Rattle.frang_outside.specs.declared.act.Put.{Put}
use Rattle.frang_outside.specs.declared.act.Taken.{Taken}
use Rattle.frang_outside.specs.declared.act.Taken.TheVariants.{Written, Late}
use Rattle.frang_outside.specs.declared.outside.PutFault.{PutFault}
use Rattle.frang_outside.specs.declared.outside.PutFault.TheVariants.{Failed as PutFailed, NoMemory as PutNoMemory}
use Rattle.frang_outside.specs.Outside.{State, NoneRose, OneRose, PutOutcome, Rose, SayOutcome, one_more, told_more}
use Rattle.quiet_outside.specs.KeptLines.{GivesBack, IsQuieted, state_over, with_failed}
use Rattle.quiet_outside.proofs.Weaving.{puts_more, rises_more, rises_push, told_act, told_line, told_puts, told_texts}

-- one more of a count isn't less than it
one_more_le : (count : ℕ) → count ≤ one_more count
one_more_le count = grind arith

one_more_rises : (x y : ℕ) → Rose x y → Rose (one_more x) (one_more y)
one_more_rises x y h = grind (arith, h)

-- the same counts, with the put that has failed
failed_same : (failed : Option ServerId) (party x y : ℕ) → y ≡ x → with_failed failed party y ≡ with_failed failed party x
failed_same failed party x y e = ap (with_failed failed party) e

-- counts that rise
failed_rose_at : (b : Bool) (x y : ℕ) → Rose x y → Rose (if b then one_more x else x) (if b then one_more y else y)
failed_rose_at true x y h = one_more_rises x y h
failed_rose_at false x y h = h

failed_rose : (failed : Option ServerId) (party x y : ℕ) → Rose x y → Rose (with_failed failed party x) (with_failed failed party y)
failed_rose None party x y h = h
failed_rose (Some server) party x y h = failed_rose_at (server.0 == party) x y h

-- no count below is above the one with the put that has failed
failed_above_at : (b : Bool) (x : ℕ) → x ≤ (if b then one_more x else x)
failed_above_at true x = one_more_le x
failed_above_at false x = le_refl x

failed_above : (failed : Option ServerId) (party x : ℕ) → x ≤ with_failed failed party x
failed_above None party x = le_refl x
failed_above (Some server) party x = failed_above_at (server.0 == party) x

-- no count rose
none_rose : (s t : State) (ns ms : List ℕ) (ls ks : List (List ℕ)) (fail_at : ℕ) (failed : Option ServerId) → NoneRose s t → NoneRose (state_over s ns ls fail_at failed) (state_over t ms ks fail_at failed)
none_rose s t ns ms ls ks fail_at failed h = record {
  faults = λ party. failed_same failed party (s.faults party) (t.faults party) (h.faults party);
  says = refl;
}

-- one did
one_rose : (s t : State) (ns ms : List ℕ) (ls ks : List (List ℕ)) (fail_at : ℕ) (failed : Option ServerId) (party : ℕ) → OneRose s t party → OneRose (state_over s ns ls fail_at failed) (state_over t ms ks fail_at failed) party
one_rose s t ns ms ls ks fail_at failed party h = record {
  own = failed_rose failed party (s.faults party) (t.faults party) h.own;
  others = λ other apart. failed_same failed other (s.faults other) (t.faults other) (h.others other apart);
  says = refl;
}

pub get_acts : (s t : State) (ns : List ℕ) (ls : List (List ℕ)) (fail_at : ℕ) (failed : Option ServerId) → t.acts ≡ s.acts → (state_over t ns ls fail_at failed).acts ≡ (state_over s ns ls fail_at failed).acts
get_acts s t ns ls fail_at failed e = ap (λ acts. (state_over (record s { acts = acts }) ns ls fail_at failed).acts) e

-- the acts below with one put more
acts_over : (s t : State) (ns : List ℕ) (ls : List (List ℕ)) (fail_at puts : ℕ) (failed : Option ServerId) (act : Act) → IsQuieted s ns ls puts fail_at failed → t.acts ≡ told_more s.acts act → (state_over t ns ls fail_at failed).acts ≡ told_more (state_over s ns ls fail_at failed).acts act
acts_over s t ns ls fail_at puts failed act is e =
    ap (λ acts. (state_over (record s { acts = acts }) ns ls fail_at failed).acts) e ∙ told_act ns ls s.acts puts act is.told is.places

-- a put is answered as below
pub put_over : (s t : State) (ns : List ℕ) (ls : List (List ℕ)) (fail_at puts : ℕ) (failed : Option ServerId) (put : Put) (result : Result Taken PutFault) → IsQuieted s ns ls puts fail_at failed → PutOutcome s t put result → PutOutcome (state_over s ns ls fail_at failed) (state_over t ns ls fail_at failed) put result
put_over s t ns ls fail_at puts failed put (Ok Written) is h = (h.0, h.1, acts_over s t ns ls fail_at puts failed (Acted put Written) is h.2, none_rose s t ns ns ls ls fail_at failed h.3)
put_over s t ns ls fail_at puts failed put (Ok Late) is h = (h.0, h.1, acts_over s t ns ls fail_at puts failed (Acted put Late) is h.2, none_rose s t ns ns ls ls fail_at failed h.3)
put_over s t ns ls fail_at puts failed put (Err PutFailed) is h = (h.0, h.1, get_acts s t ns ls fail_at failed h.2, one_rose s t ns ns ls ls fail_at failed put.server.0 h.3)
put_over s t ns ls fail_at puts failed put (Err PutNoMemory) is h = (h.0, get_acts s t ns ls fail_at failed h.1, none_rose s t ns ns ls ls fail_at failed h.2)

answered_keeps : (s t : State) (ns : List ℕ) (ls : List (List ℕ)) (puts fail_at : ℕ) (failed : Option ServerId) (put : Put) (taken : Taken) → t.acts ≡ told_more s.acts (Acted put taken) → IsQuieted s ns ls puts fail_at failed → IsQuieted t ns ls (puts + 1) fail_at failed
answered_keeps s t ns ls puts fail_at failed put taken e is = record {
  told = rw e (puts_more s.acts puts put taken is.told);
  places = rises_more 0 ns ls puts (puts + 1) is.places (omega arith);
  sound = is.sound;
}

pub put_keeps : (s t : State) (ns : List ℕ) (ls : List (List ℕ)) (puts fail_at : ℕ) (failed : Option ServerId) (put : Put) (taken : Taken) → PutOutcome s t put (Ok taken) → IsQuieted s ns ls puts fail_at failed → IsQuieted t ns ls (puts + 1) fail_at failed
put_keeps s t ns ls puts fail_at failed put Written h is = answered_keeps s t ns ls puts fail_at failed put Written h.2 is
put_keeps s t ns ls puts fail_at failed put Late h is = answered_keeps s t ns ls puts fail_at failed put Late h.2 is

-- a line said
pub line_over : (s : State) (ns : List ℕ) (ls : List (List ℕ)) (puts fail_at : ℕ) (failed : Option ServerId) (line : List ℕ) (done : Unit {0}) → IsQuieted s ns ls puts fail_at failed → SayOutcome (state_over s ns ls fail_at failed) (state_over s (ns ++ puts ∷ []) (ls ++ line ∷ []) fail_at failed) line (Ok done)
line_over s ns ls puts fail_at failed line done is = (told_line ns ls s.acts puts line is.told is.places, record { faults = λ party. refl; says = refl })

pub line_keeps : (s : State) (ns : List ℕ) (ls : List (List ℕ)) (puts fail_at : ℕ) (failed : Option ServerId) (line : List ℕ) → IsQuieted s ns ls puts fail_at failed → IsQuieted s (ns ++ puts ∷ []) (ls ++ line ∷ []) puts fail_at failed
line_keeps s ns ls puts fail_at failed line is = record {
  told = is.told;
  places = rises_push line 0 ns ls puts is.places;
  sound = is.sound;
}

-- at the end
pub gives_back : (s : State) (ns : List ℕ) (ls : List (List ℕ)) (puts fail_at : ℕ) (failed : Option ServerId) → IsQuieted s ns ls puts fail_at failed → GivesBack (state_over s ns ls fail_at failed) s ls
gives_back s ns ls puts fail_at failed is = record {
  sectors = λ sector. refl;
  acts = told_puts ns ls s.acts puts is.told;
  lines = told_texts ns ls s.acts puts is.told is.places;
  counts = λ party. failed_above failed party (s.faults party);
  faults = λ none party. sym (ap (λ f. with_failed f party (s.faults party)) (is.sound none));
  say_faults = refl;
  mark = refl;
}

-- The faults of a run are those of a call that has no others, and tell of each call that fails.
use Rattle.std.proofs.Common.{ℕ, ◌≡◌, ◌≤◌, Bool, true, false, ◌&&◌, ◌||◌, Option, Some, None, nat_eq, nat_le, refl, sym, subst, arith}
use Rattle.std.proofs.lemmas.Bool.{false≢true, eq-eqb, or_right}
use Rattle.std.proofs.lemmas.Bool.Decides.{nat_tests}
use Rattle.tree_definitions.specs.Transcript.{Faults}
use Rattle.core_definitions.specs.Runs.{State, Run, Stays, Goes}
use Rattle.core_definitions.specs.Faults.{fails_at, is_of}
use Rattle.core_transcripts.specs.Faults.{CountsAt, CountsEach, RunHasItsFaults, has_failed, place_of, run_faults}

le_more : (n early late : ℕ) → early ≤ late → nat_le n early ≡ true → nat_le n late ≡ true
le_more n early late h e = grind (arith, nat_tests, h, e)

le_self : (n : ℕ) → nat_le n n ≡ true
le_self n = grind (arith, nat_tests)

run_stays : (s v : State) (run : Run s v) (early late server : ℕ) → early ≤ late → run_faults s v run early server ≡ true → run_faults s v run late server ≡ true
run_stays s v Stays early late server h e = absurd (false≢true e)
run_stays s w (Goes {v = v} step run) early late server h e =
    go (is_of server (fails_at s v step)) (nat_le (place_of s) early) (nat_le (place_of s) late) (run_faults v w run early server) (run_faults v w run late server) (le_more (place_of s) early late h)
    (run_stays v w run early late server h) e
  where
    go : (b x y p q : Bool) → (x ≡ true → y ≡ true) → (p ≡ true → q ≡ true) → ((b && x) || p) ≡ true → ((b && y) || q) ≡ true
    go true true y p q f g e = subst (λ z. ((true && z) || q) ≡ true) (sym (f refl)) refl
    go true false y p q f g e = or_right y q (g e)
    go false x y p q f g e = g e

run_counted : (s v : State) (run : Run s v) (place server : ℕ) → run_faults s v run place server ≡ true → has_failed s v run server ≡ true
run_counted s v Stays place server e = absurd (false≢true e)
run_counted s w (Goes {v = v} step run) place server e =
    go (is_of server (fails_at s v step)) (nat_le (place_of s) place) (run_faults v w run place server) (has_failed v w run server) (run_counted v w run place server) e
  where
    go : (b x p q : Bool) → (p ≡ true → q ≡ true) → ((b && x) || p) ≡ true → (b || q) ≡ true
    go true x p q g e = refl
    go false x p q g e = g e

-- faults that have all of these tell of what these tell of
counts_more : (f h : Faults) → ((place server : ℕ) → f place server ≡ true → h place server ≡ true) → (place : ℕ) (o : Option ℕ) → CountsAt f place o → CountsAt h place o
counts_more f h more place None c = tt
counts_more f h more place (Some party) c = more place party c

each_more : (f h : Faults) → ((place server : ℕ) → f place server ≡ true → h place server ≡ true) → (s v : State) (run : Run s v) → CountsEach f s v run → CountsEach h s v run
each_more f h more s v Stays c = tt
each_more f h more s w (Goes {v = v} step run) c = (counts_more f h more (place_of s) (fails_at s v step) c.0, each_more f h more v w run c.1)

own_counts : (f : Faults) (place : ℕ) (o : Option ℕ) → CountsAt (λ at server. (is_of server o && nat_le place at) || f at server) place o
own_counts f place None = tt
own_counts f place (Some party) = go (nat_eq party party) (nat_le place place) (f place party) (eq-eqb party party refl) (le_self place)
  where
    go : (a b c : Bool) → a ≡ true → b ≡ true → ((a && b) || c) ≡ true
    go true true c e f = refl
    go true false c e f = absurd (false≢true f)
    go false b c e f = absurd (false≢true e)

each_counted : (s v : State) (run : Run s v) → CountsEach (run_faults s v run) s v run
each_counted s v Stays = tt
each_counted s w (Goes {v = v} step run) = (
  own_counts (run_faults v w run) (place_of s) (fails_at s v step),
  each_more (run_faults v w run) (run_faults s w (Goes {v = v} step run))
      (λ place server e. or_right (is_of server (fails_at s v step) && nat_le (place_of s) place) (run_faults v w run place server) e) v w run (each_counted v w run),
)

pub run_has_its_faults : RunHasItsFaults
run_has_its_faults s v run = (
  record { stay = λ early late server h e. run_stays s v run early late server h e; counted = λ place server e. run_counted s v run place server e },
  record { stay = λ early late server h e. run_stays s v run early late server h e; counted = each_counted s v run },
)

-- A step more at the end of a run: its record, its failed calls, and what that leaves in an outside.
use Rattle.std.proofs.Common.{◌≡◌, ℕ, ◌+◌, ◌-◌, ◌^◌, ◌≤◌, min, if◌then◌else◌, List, [], ◌∷◌, ◌++◌, length, Option, Some, None, refl, sym, ap, ◌∙◌, subst, arith, append_assoc, append-nil}
use Rattle.sector_bytes.specs.Sectors.{SameSectors}
use Rattle.frang_outside.specs.declared.act.Act.{Act}
use Rattle.frang_outside.specs.declared.act.Act.TheVariants as act
use Rattle.frang_outside.specs.Outside.{State as Outside, Follows, Rose, told_more}
use Rattle.core_definitions.specs.Effects.{Deed, Made, Says}
use Rattle.core_definitions.specs.Faults.{failed_calls, fails_at, is_of}
use Rattle.core_definitions.specs.Runs.{State as RunMoment, Step, Run, Stays, Goes, act_of, acts_of, saids_of}
use Rattle.hall_runs.specs.Outsets.{IsWithin, Outset, RunsTo, first_of, told_behind}

pub longer : (s v w : RunMoment) → Run s v → Step v w → Run s w
longer s v w Stays step = Goes step Stays
longer s v w (Goes {v = u} first run) step = Goes first (longer u v w run step)

-- one, where the call that failed is this party's
abbrev pub one_of : ℕ → Option ℕ → ℕ
one_of party failed = if is_of party failed then 1 else 0

sum_around : (a b c d : ℕ) → d ≡ b + c → a + d ≡ (a + b) + c
sum_around a b c d e = omega (arith, e)

none_behind : (a : ℕ) → a + 0 ≡ 0 + a
none_behind a = omega arith

pub failed_longer : (s v w : RunMoment) (run : Run s v) (step : Step v w) (party : ℕ) → failed_calls s w (longer s v w run step) party ≡ failed_calls s v run party + one_of party (fails_at v w step)
unfolding longer
failed_longer s v w Stays step party = none_behind (one_of party (fails_at v w step))
failed_longer s v w (Goes {v = u} first run) step party =
    sum_around (one_of party (fails_at s u first)) (failed_calls u v run party) (one_of party (fails_at v w step)) (failed_calls u w (longer u v w run step) party) (failed_longer u v w run step party)

-- ---- records

pub acts_append : (xs ys : List Deed) → acts_of (xs ++ ys) ≡ acts_of xs ++ acts_of ys
acts_append [] ys = refl
acts_append (x ∷ xs) ys = ap (λ r. act_of x ∷ r) (acts_append xs ys)

pub told_append : (o : Option (List Act)) (xs ys : List Act) → told_behind (told_behind o xs) ys ≡ told_behind o (xs ++ ys)
told_append None xs ys = refl
told_append (Some acts) xs ys = ap Some (append_assoc acts xs ys)

pub told_none : (o : Option (List Act)) → told_behind o [] ≡ o
told_none None = refl
told_none (Some acts) = ap Some (append-nil acts)

pub told_one : (o : Option (List Act)) (act : Act) → told_more o act ≡ told_behind o (act ∷ [])
told_one None act = refl
told_one (Some acts) act = refl

-- how many of the acts are lines said
abbrev pub says_in : List Act → ℕ
says_in [] = 0
says_in (act.Put put taken ∷ acts) = says_in acts
says_in (act.Said line ∷ acts) = 1 + says_in acts

pub saids_in : (deeds : List Deed) → length (saids_of deeds) ≡ says_in (acts_of deeds)
saids_in [] = refl
saids_in (Made put taken ∷ deeds) = saids_in deeds
saids_in (Says line ∷ deeds) = let rest = saids_in deeds in omega (arith, rest)

says_append : (xs ys : List Act) → says_in (xs ++ ys) ≡ says_in xs + says_in ys
says_append [] ys = omega arith
says_append (act.Put put taken ∷ xs) ys = says_append xs ys
says_append (act.Said line ∷ xs) ys = let rest = says_append xs ys in omega (arith, rest)

pub saids_append : (xs ys : List Deed) → length (saids_of (xs ++ ys)) ≡ length (saids_of xs) + says_in (acts_of ys)
saids_append xs ys =
    let all = saids_in (xs ++ ys) in let front = saids_in xs in let cut : says_in (acts_of (xs ++ ys)) ≡ says_in (acts_of xs ++ acts_of ys) = ap says_in (acts_append xs ys) in
    let sum = says_append (acts_of xs) (acts_of ys) in omega (arith, all, front, cut, sum)

-- ---- counts

pub fell_trans : (a b c : Outside) → Follows a b → Follows b c → Follows a c
fell_trans a b c f g = record { faults = λ p. omega (arith, f.faults p, g.faults p); says = omega (arith, f.says, g.says); mark = g.mark ∙ f.mark }

pub fell_same : (a : Outside) → Follows a a
fell_same a = record { faults = λ p. omega arith; says = omega arith; mark = refl }

pub within_none : (before : ℕ) → IsWithin before 0 before
within_none before = omega arith

-- further calls rise a count further
pub within_more : (before calls now more later : ℕ) → IsWithin before calls now → now ≤ later → IsWithin now more later → IsWithin before (calls + more) later
within_more before calls now more later so_far fell rest = omega (arith, so_far, fell, rest)

pub within_still : (now later : ℕ) → now ≤ later → IsWithin now 0 later
within_still now later fell = omega (arith, fell)

pub within_rose : (now later : ℕ) → Rose now later → IsWithin now 1 later
within_rose now later rose = rose

pub within_up : (before calls now later : ℕ) → IsWithin before calls now → now ≤ later → IsWithin before calls later
within_up before calls now later within up = omega (arith, within, up)

-- ---- a step more

-- what a run was, and its failed calls, at the end of a step at which this party's call failed
pub record StepsTo (outset : Outset) (r v : RunMoment) (s t : Outside) (kept : RunsTo outset r s) (failed : Option ℕ) : Type 0 where
  pub runs : RunsTo outset v t
  pub run : Run r v
  pub calls : (party : ℕ) → failed_calls (first_of outset) v runs.run party ≡ failed_calls (first_of outset) r kept.run party + one_of party failed

-- at the outset
pub begins : (outset : Outset) → RunsTo outset (first_of outset) outset.outside
begins outset = record {
  run = Stays;
  sectors = λ sector. refl;
  acts = sym (told_none outset.outside.acts);
  faults = λ party. within_none (outset.outside.faults party);
  fell = fell_same outset.outside;
}

-- nothing has failed
pub begins_calm : (outset : Outset) (party : ℕ) → failed_calls (first_of outset) (first_of outset) (begins outset).run party ≡ 0
unfolding begins
begins_calm outset party = refl

-- a step that adds these deeds
pub steps : (outset : Outset) (r v : RunMoment) (step : Step r v) (s t : Outside) (more : List Deed) (kept : RunsTo outset r s)
    → v.record_ ≡ r.record_ ++ more → SameSectors t.sectors v.disk → t.acts ≡ told_behind s.acts (acts_of more) → Follows s t
    → ((party : ℕ) → IsWithin (s.faults party) (one_of party (fails_at r v step)) (t.faults party)) → StepsTo outset r v s t kept (fails_at r v step)
steps outset r v step s t more kept is sectors acts fell within = record {
  runs =
      record {
        run = longer (first_of outset) r v kept.run step;
        sectors = sectors;
        acts =
            acts ∙ ap (λ o. told_behind o (acts_of more)) kept.acts ∙ told_append outset.outside.acts (acts_of r.record_) (acts_of more)
            ∙ ap (told_behind outset.outside.acts) (sym (acts_append r.record_ more) ∙ ap acts_of (sym is));
        faults = λ party.
            subst (λ n. IsWithin (outset.outside.faults party) n (t.faults party)) (sym (failed_longer (first_of outset) r v kept.run step party))
            (within_more (outset.outside.faults party) (failed_calls (first_of outset) r kept.run party) (s.faults party) (one_of party (fails_at r v step)) (t.faults party)
            (kept.faults party) (fell.faults party) (within party));
        fell = fell_trans outset.outside s t kept.fell fell;
      };
  run = Goes step Stays;
  calls = λ party. failed_longer (first_of outset) r v kept.run step party;
}

none_more : (n party : ℕ) → n ≡ n + one_of party None
none_more n party = omega arith

-- nothing of the outside changed but perhaps its counts
pub still : (outset : Outset) (r : RunMoment) (s t : Outside) (kept : RunsTo outset r s) → SameSectors t.sectors s.sectors → t.acts ≡ s.acts → Follows s t → StepsTo outset r r s t kept None
still outset r s t kept sectors acts fell = record {
  runs =
      record {
        run = kept.run;
        sectors = λ sector. sectors sector ∙ kept.sectors sector;
        acts = acts ∙ kept.acts;
        faults = λ party. within_up (outset.outside.faults party) (failed_calls (first_of outset) r kept.run party) (s.faults party) (t.faults party) (kept.faults party) (fell.faults party);
        fell = fell_trans outset.outside s t kept.fell fell;
      };
  run = Stays;
  calls = λ party. none_more (failed_calls (first_of outset) r kept.run party) party;
}

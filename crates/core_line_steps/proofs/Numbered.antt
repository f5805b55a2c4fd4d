-- The numbers of operations through the steps of lines: the next line of a server is its first in the script that isn't answered, and numbers ascend there.
use Rattle.std.proofs.Common.{◌≡◌, ◌≢◌, ◌⊎◌, ◌<◌, ◌≤◌, ◌==◌, ◌&&◌, ℕ, Bool, true, false, not, if◌then◌else◌, IsTrue, nat_lt, List, [], ◌∷◌, Some, refl, sym, ap, ◌∙◌, subst, inl, inr, ⊎_elim, arith}
use Rattle.std.proofs.lemmas.Bool.{and_parts, eq-eqb, eqb-true, false≢true, ltb-true}
use Rattle.std.specs.List.{Contains, find, list_all}
use Rattle.frang_base.specs.Functions.{put}
use Rattle.frang_base.proofs.Basics.{at_put}
use Rattle.frang_base.specs.declared.op.Op.{Op}
use Rattle.frang_base.specs.declared.op.Op.TheVariants as op
use Rattle.frang_base.specs.declared.script.Line.{Line}
use Rattle.tree_definitions.specs.Apply.{is_path_op}
use Rattle.tree_definitions.specs.Tree.{FileTree}
use Rattle.script_definitions.specs.ScriptText.{script_of}
use Rattle.std.specs.Prelude.{Ok}
use Rattle.plan_laws.proofs.Covering.{has_cases, has_head, has_more, not_in_none}
use Rattle.line_laws.specs.Laws.{HasPath}
use Rattle.core_definitions.specs.LineGuards.{is_server}
use Rattle.core_definitions.specs.Lines.{Under, operation_of}
use Rattle.core_definitions.specs.Runs.{State as RunMoment}
use Rattle.core_definitions.specs.Scripts.{Marks, next_line}
use Rattle.core_definitions.specs.Settings.{Setting, setting_of}
use Rattle.core_laws.proofs.Kept.{setting_of_run}
use Rattle.core_transcripts.specs.Answers.{LinesUnderWayAreNext, ReadScriptsHaveOwnNumbers}
use Rattle.script_places.specs.Placed.{ascends}
use Rattle.sector_world.specs.Histories.{Commit, Each, Item, settled}
use Rattle.sector_world.specs.Histories.Item.{Done, Doubt}
use Rattle.sector_world.specs.World.{World}
use Rattle.core_world.specs.Steps.{IsReached}
use Rattle.core_commits.specs.Finished.{number_in}
use Rattle.core_commits.specs.Moments.{IsNumbered}
use Rattle.core_line_steps.specs.Numbers.{AreNumbered, FirstAreNumbered, IsAnswered, IsAskedWell, NumbersStay, OperationsAreNumbered, UnderWayIsNumbered}

-- ---- lists

each_more : (P Q : Commit → Type 0) → ((c : Commit) → P c → Q c) → (h : List Item) → Each P h → Each Q h
each_more P Q f [] e = tt
each_more P Q f (Done c ∷ h) e = (f c e.0, each_more P Q f h e.1)
each_more P Q f (Doubt m ∷ h) e = each_more P Q f h e

-- what is found is among them, and passes
found_is : (test : Line → Bool) (lines : List Line) (line : Line) → find test lines ≡ Some line → Contains lines line × (test line ≡ true)
found_is test [] line e = absurd (cc)
found_is test (l ∷ lines) line e = go (test l) refl e (found_is test lines line)
  where
    go : (b : Bool) → test l ≡ b → (if b then Some l else find test lines) ≡ Some line → (find test lines ≡ Some line → Contains lines line × (test line ≡ true)) → Contains (l ∷ lines) line × (test line ≡ true)
    go true i j rest = let same : l ≡ line = cc in (subst (Contains (l ∷ lines)) same (has_head l lines), ap test (sym same) ∙ i)
    go false i j rest = let r = rest j in (has_more l line lines r.0, r.1)

above_all : (n : ℕ) (lines : List Line) → list_all (λ line. nat_lt n line.number) lines ≡ true → (line : Line) → Contains lines line → n < line.number
above_all n [] e line c = absurd (not_in_none line c)
above_all n (l ∷ lines) e line c =
    let p = and_parts (nat_lt n l.number) (list_all (λ line. nat_lt n line.number) lines) e in
    ⊎_elim (λ q. subst (λ (x : Line). n < x.number) q (ltb-true n l.number p.0)) (λ d. above_all n lines p.1 line d) (has_cases l line lines c)

-- in a list whose numbers ascend, each that passes but the first comes behind it
first_is_least : (test : Line → Bool) (lines : List Line) (first line : Line) → ascends lines ≡ true → find test lines ≡ Some first → Contains lines line → test line ≡ true → (first ≡ line) ⊎ (first.number < line.number)
first_is_least test [] first line up e c t = absurd (cc)
first_is_least test (l ∷ lines) first line up e c t = go (test l) refl e (first_is_least test lines first line)
  where
    parts : (list_all (λ x. nat_lt l.number x.number) lines ≡ true) × (ascends lines ≡ true)
    parts = and_parts (list_all (λ x. nat_lt l.number x.number) lines) (ascends lines) up

    go : (b : Bool) → test l ≡ b → (if b then Some l else find test lines) ≡ Some first →
        (ascends lines ≡ true → find test lines ≡ Some first → Contains lines line → test line ≡ true → (first ≡ line) ⊎ (first.number < line.number)) → (first ≡ line) ⊎ (first.number < line.number)
    go true i j rest =
        let same : l ≡ first = cc in
        ⊎_elim (λ q. inl (sym same ∙ q)) (λ d. inr (subst (λ (x : Line). x.number < line.number) same (above_all l.number lines parts.0 line d))) (has_cases l line lines c)
    go false i j rest = ⊎_elim (λ q. absurd (false≢true (sym i ∙ ap test q ∙ t))) (λ d. rest parts.1 j d t) (has_cases l line lines c)

-- ---- numbers

number_less : (setting : Setting) (n m : ℕ) → n < m → number_in setting n < number_in setting m
number_less setting n m l = omega arith

number_once : (setting : Setting) (n m : ℕ) → number_in setting n ≡ number_in setting m → n ≡ m
number_once setting n m e = omega (arith, e)

still : (marks : Marks) (n k : ℕ) → marks k ≡ true → put marks n true k ≡ true
still marks n k e = at_put (λ b. b ≡ true) marks n true k (λ i. refl) (λ i. e)

unmarked : (marks : Marks) (n k : ℕ) → put marks n true k ≡ false → (k ≢ n) × (marks k ≡ false)
unmarked marks n k e = at_put (λ b. b ≡ false → (k ≢ n) × (marks k ≡ false)) marks n true k (λ i q. absurd (false≢true (sym q))) (λ i q. (i, q)) e

answered_more : (setting : Setting) (marks more : Marks) → ((n : ℕ) → marks n ≡ true → more n ≡ true) → (n : ℕ) → IsAnswered setting marks n → IsAnswered setting more n
answered_more setting marks more f n a = record { line = a.line; number = a.number; marked = f a.line a.marked }

pub first_are_numbered : FirstAreNumbered
first_are_numbered setting answered w none zero above = record {
  done = subst (Each (λ c. IsAnswered setting answered c.op)) (sym none) tt;
  last = λ a line there who unanswered. subst (λ n. n < number_in setting line.number) (sym (zero a)) (above line there);
}

pub numbers_stay : NumbersStay
numbers_stay setting answered more w u f kept low t = record {
  done = each_more (λ c. IsAnswered setting answered c.op) (λ c. IsAnswered setting more c.op) (λ c. answered_more setting answered more f c.op) (settled u.history) (kept t.done);
  last = λ a line there who unanswered. below (low a) (t.last a line there who (shut (answered line.number) (f line.number) unanswered));
}
  where
    below : {n m k : ℕ} → n ≤ m → m < k → n < k
    below l r = omega (arith, l, r)

    shut : {after : Bool} (b : Bool) → (b ≡ true → after ≡ true) → after ≡ false → b ≡ false
    shut true f e = absurd (false≢true (sym e ∙ f refl))
    shut false f e = refl

-- ---- at a moment of a run

abbrev ReadScriptsAscend : Type 0
ReadScriptsAscend = (bytes : List ℕ) (script : List Line) → script_of bytes ≡ Ok script → IsTrue (ascends script)

has_path : (o : Op) → IsTrue (is_path_op o) → HasPath o
has_path (op.Create path) e = tt
has_path (op.Mkdir path) e = tt
has_path (op.Symlink path target) e = tt
has_path (op.Link path to) e = tt
has_path (op.Unlink path) e = tt
has_path (op.Rmdir path) e = tt
has_path (op.Rename path to) e = tt
has_path (op.Write path off bytes) e = tt
has_path (op.Fill path off len byte) e = tt
has_path (op.Truncate path len) e = tt
has_path (op.Read path off len) e = tt
has_path (op.Stat path) e = tt
has_path (op.List path) e = tt
has_path (op.Readlink path) e = tt
has_path (op.Time path) e = tt
has_path op.Sync e = absurd (false≢true e)
has_path op.Mount e = absurd (false≢true e)
has_path op.Unmount e = absurd (false≢true e)
has_path op.Crash e = absurd (false≢true e)
has_path (op.CrashAt k) e = absurd (false≢true e)
has_path (op.CutAt k) e = absurd (false≢true e)
has_path op.Stall e = absurd (false≢true e)

module _ (next : LinesUnderWayAreNext) (own : ReadScriptsHaveOwnNumbers) (ascending : ReadScriptsAscend) (s : RunMoment) (r : IsReached s) (a : ℕ)
    (server : IsTrue (is_server a)) (under : Under) (is : (s.core.servers a).under ≡ Some under) where
  abbrev setting : Setting
  setting = setting_of r.script r.segments r.number

  abbrev test : Line → Bool
  test line = line.who.0 == a && not (s.core.answered line.number)

  first : (next_line s.core.setting.script s.core.answered a ≡ Some under.line) × (s.core.answered under.line.number ≡ false)
  first = next setting r.disk s (own r.bytes r.script r.read) r.run a under server is

  pub open_line : s.core.answered under.line.number ≡ false
  open_line = first.1

  -- it is one of the script's
  pub of_script : Contains s.core.setting.script under.line
  of_script = (found_is test s.core.setting.script under.line first.0).0

  pub own_line : under.line.who.0 ≡ a
  own_line = eqb-true under.line.who.0 a (and_parts (under.line.who.0 == a) (not (s.core.answered under.line.number)) (found_is test s.core.setting.script under.line first.0).1).0

  same_script : s.core.setting.script ≡ r.script
  same_script = ap (λ (t : Setting). t.script) (setting_of_run setting r.disk s r.run)

  passes : (line : Line) → line.who.0 ≡ a → s.core.answered line.number ≡ false → test line ≡ true
  passes line who unanswered = ap (λ b. b && not (s.core.answered line.number)) (eq-eqb line.who.0 a who) ∙ ap not unanswered

  -- each other that isn't answered has a greater number
  pub others_above : (line : Line) → Contains s.core.setting.script line → line.who.0 ≡ a → s.core.answered line.number ≡ false → line.number ≢ under.line.number → under.line.number < line.number
  others_above line there who unanswered other =
      ⊎_elim (λ e. absurd (other (ap (λ (x : Line). x.number) (sym e)))) (λ l. l)
      (first_is_least test s.core.setting.script under.line line (subst (λ script. ascends script ≡ true) (sym same_script) (ascending r.bytes r.script r.read)) first.0 there (passes line who unanswered))

  abbrev more : Marks
  more = put s.core.answered under.line.number true

  pub operation_numbered : (w u : World) (c : Commit) → AreNumbered s.core.setting s.core.answered w → c.op ≡ number_in s.core.setting under.line.number → c.by ≡ a → settled u.history ≡ Done c ∷ settled w.history →
      u.last ≡ put w.last a c.op → AreNumbered s.core.setting (put s.core.answered under.line.number true) u
  operation_numbered w u c t number by history last = record {
    done = subst (Each (λ c. IsAnswered s.core.setting more c.op)) (sym history) (
      record { line = under.line.number; number = number; marked = at_put (λ b. b ≡ true) s.core.answered under.line.number true under.line.number (λ i. refl) (λ n. absurd (n refl)) },
      each_more (λ c. IsAnswered s.core.setting s.core.answered c.op) (λ c. IsAnswered s.core.setting more c.op) (λ c. answered_more s.core.setting s.core.answered more (still s.core.answered under.line.number) c.op) (settled w.history) t.done,
    );
    last = λ b line there who unanswered. subst (λ (l : ℕ → ℕ). l b < number_in s.core.setting line.number) (sym last) (at_put (λ n. n < number_in s.core.setting line.number) w.last a c.op b
        (λ e. of_own line there (who ∙ e) unanswered) (λ n. t.last b line there who (unmarked s.core.answered under.line.number line.number unanswered).1));
  }
    where
      of_own : (line : Line) → Contains s.core.setting.script line → line.who.0 ≡ a → put s.core.answered under.line.number true line.number ≡ false → c.op < number_in s.core.setting line.number
      of_own line there who unanswered =
          let k = unmarked s.core.answered under.line.number line.number unanswered in
          subst (λ n. n < number_in s.core.setting line.number) (sym number) (number_less s.core.setting under.line.number line.number (others_above line there who k.1 k.0))

  module _ (w : World) (when : ℕ → ℕ) (first_tree : FileTree) (numbers : List ℕ) (t : AreNumbered s.core.setting s.core.answered w) (well : IsAskedWell s.core.setting when first_tree numbers) where
    not_its : (c : Commit) → IsAnswered s.core.setting s.core.answered c.op → c.op ≢ number_in s.core.setting under.line.number
    not_its c q e =
        let same : q.line ≡ under.line.number = number_once s.core.setting q.line under.line.number (sym q.number ∙ e) in
        false≢true (sym open_line ∙ ap s.core.answered (sym same) ∙ q.marked)

    pub numbered_line : (operation : Op) → operation_of under.line.what ≡ Some operation → IsTrue (is_path_op operation) → IsNumbered s w when first_tree numbers a under.line.number operation
    numbered_line operation what path = record {
      allowed = well.allowed under.line operation of_script what;
      path = has_path operation path;
      above = t.last a under.line of_script own_line open_line;
      new = well.new under.line of_script;
      others = each_more (λ c. IsAnswered s.core.setting s.core.answered c.op) (λ c. c.op ≢ number_in s.core.setting under.line.number) not_its (settled w.history) t.done;
      time = well.time under.line of_script;
    }

pub operations_are_numbered : LinesUnderWayAreNext → ReadScriptsHaveOwnNumbers → ReadScriptsAscend → OperationsAreNumbered
operations_are_numbered next own ascending s w u a under c r server is t number by history last = operation_numbered next own ascending s r a server under is w u c t number by history last

pub under_way_is_numbered : LinesUnderWayAreNext → ReadScriptsHaveOwnNumbers → ReadScriptsAscend → UnderWayIsNumbered
under_way_is_numbered next own ascending s w when first_tree numbers a r server t well paths under operation is what =
    numbered_line next own ascending s r a server under is w when first_tree numbers t well operation what (paths under operation is what)

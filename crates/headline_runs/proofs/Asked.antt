-- The lines of a script that was read are few, ask what may be asked, and have numbers behind the births of the opening's tree.
use Rattle.std.proofs.Common.{◌≡◌, ℕ, suc, ◌+◌, ◌*◌, ◌-◌, ◌^◌, ◌≤◌, ◌<◌, nat_lt, Bool, true, false, if◌then◌else◌, is_some, Option, Some, None, List, [], ◌∷◌, Ok, filter, length, map, sum_by, inl, inr, ⊎_elim, refl, sym, ap, subst, arith}
use Rattle.std.proofs.lemmas.Bool.{and_from}
use Rattle.std.proofs.lemmas.Bool.Decides.{nat_tests}
use Rattle.std.proofs.lemmas.List.{length-map}
use Rattle.std.proofs.lemmas.List.Elements.{All-contains, recursion_from_All}
use Rattle.std.proofs.lemmas.List.Sums.{sum_by-cons}
use Rattle.std.proofs.lemmas.Option.{none-some, same_Some}
use Rattle.std.specs.List.{All, list_all}
use Rattle.frang_base.specs.Name.{is_name, is_target}
use Rattle.frang_base.specs.declared.op.Op.{Op}
use Rattle.frang_base.specs.declared.op.Op.TheVariants as op
use Rattle.frang_base.specs.declared.op.What.{What}
use Rattle.frang_base.specs.declared.op.What.TheVariants.{Server, Host}
use Rattle.frang_base.specs.declared.script.Line.{Line}
use Rattle.tree_definitions.specs.declared.node.Node.{Node}
use Rattle.tree_definitions.specs.Live.{script_time, ticks_of, time_in}
use Rattle.tree_definitions.specs.Tree.{FileTree, node_at}
use Rattle.script_definitions.specs.Sayable.{IsSayableLine, IsSayableOp, IsSayableWhat}
use Rattle.script_definitions.specs.ScriptGrammar.{AreLines, IsScriptText}
use Rattle.script_definitions.specs.ScriptText.{script_of}
use Rattle.script_definitions.specs.Ticks.{all_ticks}
use Rattle.disk_definitions.proofs.Listed.{Among, among_map}
use Rattle.disk_definitions.proofs.ParamLaws.{param_read}
use Rattle.disk_definitions.specs.declared.param.Param.{Param}
use Rattle.disk_definitions.specs.Allowed.{IsAllowed}
use Rattle.disk_definitions.specs.Params.{param_fits}
use Rattle.line_histories.proofs.Lists.{has_member}
use Rattle.line_histories.proofs.MayBePlanned.{allowed}
use Rattle.core_commits.specs.Finished.{number_in}
use Rattle.core_definitions.specs.Lines.{operation_of}
use Rattle.core_laws.proofs.Membership.{contains_in, in_contains}
use Rattle.headline_definitions.specs.Beginning.{Beginning}
use Rattle.headline_definitions.specs.Laws.{Begins, setting_by}
use Rattle.headline_runs.specs.Asked.{MayBeAsked}

-- ---- the lines are few, and so are their numbers and ticks

few_lines : (number : ℕ) (halted : Bool) (texts : List (List ℕ)) (script : List Line) → number ≤ 65537 → AreLines number halted texts script → length script + number ≤ 65537
few_lines number halted [] script low are = subst (λ (l : List Line). length l + number ≤ 65537) (sym are) (omega (arith, low))
few_lines number halted (text ∷ texts) script low (within, inl skipped) = let rest = few_lines (number + 1) halted texts script (omega (arith, within)) skipped.1 in omega (arith, rest)
few_lines number halted (text ∷ texts) script low (within, inr line) =
    subst (λ (l : List Line). length l + number ≤ 65537) (sym line.2) (more (length line.1) number (few_lines (number + 1) _ texts line.1 (next number within) line.5))
  where
    next : (n : ℕ) → n ≤ 65536 → n + 1 ≤ 65537
    next n l = omega arith

    more : (l n : ℕ) → l + (n + 1) ≤ 65537 → suc l + n ≤ 65537
    more l n h = omega arith

low_numbers : (number : ℕ) (halted : Bool) (texts : List (List ℕ)) (script : List Line) → AreLines number halted texts script → (line : Line) → Among line script → line.number ≤ 65536
low_numbers number halted [] script are line i = absurd (subst (Among line) are i)
low_numbers number halted (text ∷ texts) script (within, inl skipped) line i = low_numbers (number + 1) halted texts script skipped.1 line i
low_numbers number halted (text ∷ texts) script (within, inr one) line i =
    ⊎_elim (λ e. subst (λ (l : Line). l.number ≤ 65536) (sym e) within) (λ j. low_numbers (number + 1) _ texts one.1 one.5 line j) (subst (Among line) one.2 i)

-- up to each line at most as many ticks pass as in all
some_ticks : (script : List Line) (number : ℕ) → script_time script number ≤ all_ticks script
some_ticks [] number = omega arith
some_ticks (line ∷ script) number = go (nat_lt line.number number) (some_ticks script number)
  where
    go : (b : Bool) → script_time script number ≤ all_ticks script →
        sum_by (λ (l : Line). ticks_of l.what) (if b then line ∷ filter (λ (l : Line). nat_lt l.number number) script else filter (λ (l : Line). nat_lt l.number number) script) ≤ all_ticks (line ∷ script)
    go true h =
        omega (arith, h, sum_by-cons (λ (l : Line). ticks_of l.what) line script, sum_by-cons (λ (l : Line). ticks_of l.what) line (filter (λ (l : Line). nat_lt l.number number) script))
    go false h = omega (arith, h, sum_by-cons (λ (l : Line). ticks_of l.what) line script)

-- ---- what they ask

sayable_allowed : (o : Op) → IsSayableOp o → IsAllowed o
sayable_allowed (op.Create path) h = (allowed (op.Create path) h).0
sayable_allowed (op.Mkdir path) h = (allowed (op.Create path) h).0
sayable_allowed (op.Symlink path target) h = (allowed (op.Symlink path target) (and_from (list_all is_name path) (is_target target) h.0 h.1)).0
sayable_allowed (op.Link path to) h = ((allowed (op.Create path) h.0).0, (allowed (op.Create to) h.1).0)
sayable_allowed (op.Unlink path) h = (allowed (op.Create path) h).0
sayable_allowed (op.Rmdir path) h = (allowed (op.Create path) h).0
sayable_allowed (op.Rename path to) h = ((allowed (op.Create path) h.0).0, (allowed (op.Create to) h.1).0)
sayable_allowed (op.Write path off bytes) h = ((allowed (op.Create path) h.0).0, recursion_from_All (λ (b : ℕ). b < 256) bytes h.1)
sayable_allowed (op.Fill path off len byte) h = ((allowed (op.Create path) h.0).0, h.1)
sayable_allowed (op.Truncate path len) h = (allowed (op.Create path) h).0
sayable_allowed (op.Read path off len) h = (allowed (op.Create path) h).0
sayable_allowed (op.Stat path) h = (allowed (op.Create path) h).0
sayable_allowed (op.List path) h = (allowed (op.Create path) h).0
sayable_allowed (op.Readlink path) h = (allowed (op.Create path) h).0
sayable_allowed (op.Time path) h = (allowed (op.Create path) h).0
sayable_allowed _ h = tt

asked_allowed : (what : What) (o : Op) → IsSayableWhat what → operation_of what ≡ Some o → IsAllowed o
asked_allowed (Server asked) o h e = subst IsAllowed (same_Some asked o e) (sayable_allowed asked h)
asked_allowed (Host asked) o h e = absurd (none-some o e)

-- ---- runs are numbered from one

some_run : (p : Param) → param_fits p ≡ true → 1 ≤ p.run
some_run p h = grind (arith, nat_tests)

few_runs : (p : Param) → param_fits p ≡ true → p.run < 4294967296
few_runs p h = grind (arith, nat_tests)

module _ (b : Beginning) (begins : Begins b) where
  abbrev p : Param
  p = begins.opening.stands.param

  fits : param_fits p ≡ true
  fits = (param_read (b.disk 0) p begins.opening.stands.parameters).1

  pub from_one : 1 ≤ b.opening.run
  from_one = subst (λ n. 1 ≤ n) begins.opening.run (some_run p fits)

  few_all : b.opening.run < 4294967296
  few_all = subst (λ n. n < 4294967296) begins.opening.run (few_runs p fits)

-- ---- the script may be asked

-- what behind a run's first number a number is
behind_first : (run number : ℕ) → run * 4294967296 + number - run * 4294967296 ≡ number
behind_first run number = omega arith

low_number : (run number : ℕ) → run < 4294967296 → number ≤ 65536 → run * 4294967296 + number < 2 ^ 64
low_number run number r n = omega (arith, r, n)

low_time : (run ticks all : ℕ) → run < 4294967296 → ticks ≤ all → all < 4294967296 → run * 4294967296 + ticks < 2 ^ 64
low_time run ticks all r t a = omega (arith, r, t, a)

few_numbers : (lines numbers : ℕ) → numbers ≡ lines → lines + 1 ≤ 65537 → 1 + numbers < 131072
few_numbers lines numbers e h = omega (arith, e, h)

-- a number of a run is behind all births
unborn : (tree : FileTree) (run number : ℕ) → 1 ≤ run → ((x : ℕ) → is_some (node_at tree x) ≡ true → x < 4294967296) → node_at tree (run * 4294967296 + number) ≡ None
unborn tree run number one births = go (node_at tree (run * 4294967296 + number)) refl
  where
    high : (run number : ℕ) → 1 ≤ run → run * 4294967296 + number < 4294967296 → ⊥
    high run number one low = absurd (omega (arith, one, low))

    go : (n : Option Node) → node_at tree (run * 4294967296 + number) ≡ n → node_at tree (run * 4294967296 + number) ≡ None
    go None e = e
    go (Some node) e = absurd (high run number one (births (run * 4294967296 + number) (ap is_some e)))

module _ (grammar : (bytes : List ℕ) (script : List Line) → script_of bytes ≡ Ok script → IsScriptText bytes script)
    (says : (bytes : List ℕ) (script : List Line) → script_of bytes ≡ Ok script → All IsSayableLine script)
    (ticks : (bytes : List ℕ) (script : List Line) → script_of bytes ≡ Ok script → all_ticks script < 4294967296) (b : Beginning) (begins : Begins b) where
  abbrev run : ℕ
  run = b.opening.run

  -- the time of the line that has this number
  abbrev when : ℕ → ℕ
  when n = time_in run (script_time b.script (n - run * 4294967296))

  abbrev number_of_line : Line → ℕ
  number_of_line line = number_in (setting_by b) line.number

  abbrev numbers : List ℕ
  numbers = map number_of_line b.script

  pub may_be_asked : MayBeAsked b
  may_be_asked = record {
    when = when;
    numbers = numbers;
    times = λ n. low_time run (script_time b.script (n - run * 4294967296)) (all_ticks b.script) (few_all b begins) (some_ticks b.script (n - run * 4294967296)) (ticks begins.bytes b.script begins.script);
    few = few_numbers (length b.script) (length numbers) (length-map b.script number_of_line) (few_lines 1 false _ b.script (omega arith) (grammar begins.bytes b.script begins.script).1);
    asked = record {
      allowed = λ line operation there e.
          asked_allowed line.what operation (All-contains IsSayableLine b.script line (says begins.bytes b.script begins.script) there) e;
      new = λ line there. record {
        listed = has_member (number_of_line line) numbers
            (in_contains numbers (number_of_line line) (among_map number_of_line b.script line (number_of_line line) (contains_in b.script line there) refl));
        new = unborn b.opening.tree run line.number (from_one b begins) begins.opening.births;
        small = low_number run line.number (few_all b begins) (low_numbers 1 false _ b.script (grammar begins.bytes b.script begins.script).1 line (contains_in b.script line there));
      };
      time = λ line there. ap (λ n. time_in run (script_time b.script n)) (behind_first run line.number);
    };
  }

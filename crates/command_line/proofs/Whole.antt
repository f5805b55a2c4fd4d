-- The whole line: the reader fails exactly where the words are no command, and else its matches hold what they ask.
use Rattle.std.proofs.Common.{◌≡◌, ◌∙◌, inl, inr, ℕ, true, false, List, [], ◌∷◌, codes, map, Option, Some, None, option_map, is_some, refl, sym, ap, ap₂, subst, true≢false, unwrap_or}
use Rattle.std.specs.Prelude.{◌==◌, fold, find, option_and_then, slice_get, string_bytes}
use Rattle.std.specs.declared.string.String.{String}
use Rattle.std.specs.Option.{option_map_or}
use Rattle.std.specs.Str.{IsUtf8, bytes_eq, chars}
use Rattle.std.specs.Box.{box_value}
use Rattle.std.proofs.lemmas.Str.{IsUtf8-string_bytes}
use Rattle.clap.specs.Walk.{Names, Row, Text, Walk, after_step, answers_to, finished, idle, nothing_held, rows_after, rows_of, settled, subcommand_met, subcommand_or_other, walk, walk_from, walked, word_met}
use Rattle.clap.specs.Simple.{App, Shape, built, entered, is_simple, label_of, names_of, rows_at, subcommand_of, subcommand_rows_of}
use Rattle.clap.specs.Kinds.{HasKind, Kinds, or_else}
use Rattle.clap.specs.Values.{kind_of}
use Rattle.clap.specs.Faults.{check_fault, defaults_fault, entered_fault, fault_of, is_simple_and_free, level_fault, other_fault, settle_fault, step_fault, turn_fault, walk_fault}
use Rattle.clap.specs.Matches.{found_of, subcommand_name_of}
use Rattle.clap.specs.declared.error.Error.{Error}
use Rattle.clap.specs.declared.error.kind.ErrorKind.TheVariants.{OutOfMemory}
use Rattle.clap.specs.declared.parser.matches.ArgMatches.{ArgMatches}
use Rattle.clap.specs.declared.parser.matches.ArgMatches.TheViews.{out-ArgMatches, out-SubCommand}
use Rattle.clap.proofs.WalkLemmas.{walk_stopped}
use Rattle.clap.proofs.FaultLemmas.{stopped_fault}
use Rattle.command_words.specs.Given.{Given, given_by}
use Rattle.command_words.specs.Commands.{Asked, asked_by, asked_with}
use Rattle.command_line.specs.Line.{asked_entered, line_app}
use Rattle.command_line.proofs.Looks.{IsPlain, Look, decide, ends, first_fails, has_fault, long, look, or_else_nothing, plain, short, short_fails}
use Rattle.command_line.proofs.Reading.{AreTexts, given_if, leaf, words_come}

pub is_fit : is_simple_and_free line_app ≡ true
is_fit = refl

pub is_plain_line : is_simple line_app ≡ true
is_plain_line = refl

abbrev whole : App
whole = built line_app

abbrev names : Names
names = names_of whole

abbrev start : Walk
start = walk_from nothing_held

-- what a command that was met asks, where nothing failed
abbrev asked_if : Kinds → Option (Text × List Row) → Option Asked
asked_if [] met = asked_entered met
asked_if (k ∷ ks) met = None

abbrev Asks : List Text → Type 0
Asks words = asked_if (fault_of line_app words) (subcommand_of line_app words) ≡ asked_by words

-- ---- a name of the line

-- a name of the line, or a word with which no command begins
data Named : Text → Type 0 where
  known : (name : Text) → subcommand_met names idle name ≡ Some name → find (λ s. answers_to name (label_of s)) whole.subs ≡ Some (leaf name) → bytes_eq name (codes "help") ≡ false → Named name
  other : (word : Text) → subcommand_met names idle word ≡ None → ((given : Given) → asked_with word given ≡ None) → Named word

named : (word : Text) → Named word
named word = elim (decide (codes "run") word) [
  | inl is ↦ subst Named is (known (codes "run") refl refl refl)
  | inr run ↦ elim (decide (codes "recover") word) [
    | inl is ↦ subst Named is (known (codes "recover") refl refl refl)
    | inr recover ↦ elim (decide (codes "tree") word) [
      | inl is ↦ subst Named is (known (codes "tree") refl refl refl)
      | inr tree ↦ elim (decide (codes "log") word) [
        | inl is ↦ subst Named is (known (codes "log") refl refl refl)
        | inr log ↦ elim (decide (codes "fsck") word) [
          | inl is ↦ subst Named is (known (codes "fsck") refl refl refl)
          | inr fsck ↦ elim (decide (codes "soak") word) [
            | inl is ↦ subst Named is (known (codes "soak") refl refl refl)
            | inr soak ↦ other word (rw (run.0, recover.0, tree.0, log.0, fsck.0, soak.0) refl) (λ given. rw (run.1, soak.1, recover.1, tree.1, log.1, fsck.1) refl)
          ]
        ]
      ]
    ]
  ]
]

module _ (name : Text) (rest : List Text) (met : subcommand_met names idle name ≡ Some name) (at : find (λ s. answers_to name (label_of s)) whole.subs ≡ Some (leaf name)) (help : bytes_eq name (codes "help") ≡ false) where
  abbrev stopped_with : List Text → Walk
  stopped_with words = record start { stopped = Some (name, words) }

  first_step : walked [] names start name ≡ stopped_with []
  unfolding walked
  first_step =
      ap (λ (o : Option Text). let x = subcommand_or_other [] o idle 1 name nothing_held in after_step [] name start x.0 x.1) met

  all_steps : walk [] names nothing_held (name ∷ rest) ≡ stopped_with rest
  all_steps = ap (λ (w : Walk). fold (walked [] names) w rest) first_step ∙ sym (walk_stopped [] names start name [] rest)

  first_turn : turn_fault whole.top names start name ≡ []
  first_turn = rw (met, help) refl

  own_words : walk_fault whole.top names start (name ∷ rest) ≡ []
  unfolding walk_fault
  own_words =
      ap₂ (λ (t : Kinds) (w : Walk). or_else t (walk_fault whole.top names w rest)) first_turn first_step
      ∙ stopped_fault whole.top names start (name, []) rest

  abbrev below : Option (Text × List Text) → Kinds
  below stop = entered_fault whole stop

  abbrev with_walk : Walk → Kinds
  with_walk w =
      or_else (walk_fault whole.top names start (name ∷ rest))
      (or_else (below w.stopped) (or_else (settle_fault [] false w.held) (or_else (defaults_fault (settled [] w.held).rows [])
      (check_fault whole.top (finished [] w.held) (is_some (entered whole w.stopped))))))

  below_is : below (Some (name, rest)) ≡ level_fault (leaf name) [] nothing_held rest false []
  below_is = ap (λ (o : Option Shape). option_map_or (λ s. level_fault s [] nothing_held rest false []) o []) at

  entered_is : entered whole (Some (name, rest)) ≡ Some (name, rows_after (leaf name).rules [] rest)
  entered_is = ap (λ (o : Option Shape). option_map (λ s. rows_at s rest) o) at

  fault_is : fault_of line_app (name ∷ rest) ≡ level_fault (leaf name) [] nothing_held rest false []
  unfolding defaults_fault
  fault_is =
      ap with_walk all_steps
      ∙ ap₂ (λ (own : Kinds) (e : Option (Text × List Row)). or_else own (or_else (below (Some (name, rest))) (check_fault whole.top [] (is_some e)))) own_words entered_is
      ∙ or_else_nothing (below (Some (name, rest))) ∙ below_is

  held_is : subcommand_of line_app (name ∷ rest) ≡ Some (name, rows_after (leaf name).rules [] rest)
  held_is = ap (λ (w : Walk). entered whole w.stopped) all_steps ∙ entered_is

  -- by what the words behind the name give
  known_asks : AreTexts rest → Asks (name ∷ rest)
  known_asks texts = ap₂ asked_if fault_is held_is ∙ go (level_fault (leaf name) [] nothing_held rest false []) ∙ ap (option_and_then (λ given. asked_with name given)) (words_come name rest texts)
    where
      go : (kinds : Kinds) → asked_if kinds (Some (name, rows_after (leaf name).rules [] rest)) ≡ option_and_then (λ given. asked_with name given) (given_if kinds (rows_after (leaf name).rules [] rest))
      go [] = refl
      go (k ∷ ks) = refl

-- ---- another word

fails : (words : List Text) → has_fault (fault_of line_app words) ≡ true → asked_by words ≡ None → Asks words
fails words bad none = go (fault_of line_app words) bad ∙ sym none
  where
    go : (kinds : Kinds) → has_fault kinds ≡ true → asked_if kinds (subcommand_of line_app words) ≡ None
    go [] e = absurd (true≢false (sym e))
    go (k ∷ ks) e = refl

no_words_fail : has_fault (fault_of line_app []) ≡ true
unfolding walk_fault defaults_fault
no_words_fail = refl

ends_fails : (rest : List Text) → has_fault (fault_of line_app ((45 ∷ 45 ∷ []) ∷ rest)) ≡ true
unfolding walk_fault walked defaults_fault
ends_fails [] = refl
ends_fails (word ∷ rest) = refl

turn_fails : (word : Text) (rest : List Text) → has_fault (turn_fault whole.top names start word) ≡ true → has_fault (fault_of line_app (word ∷ rest)) ≡ true
unfolding walk_fault
turn_fails word rest bad =
    let w = walk [] names nothing_held (word ∷ rest) in
    first_fails (walk_fault whole.top names start (word ∷ rest))
    (or_else (entered_fault whole w.stopped) (or_else (settle_fault [] false w.held) (or_else (defaults_fault (settled [] w.held).rows [])
    (check_fault whole.top (finished [] w.held) (is_some (entered whole w.stopped))))))
    (first_fails (turn_fault whole.top names start word) (walk_fault whole.top names (walked [] names start word) rest) bad)

plain_fails : (word : Text) → subcommand_met names idle word ≡ None → IsPlain word → has_fault (turn_fault whole.top names start word) ≡ true
plain_fails word met p = rw (met, p.not_end, p.not_long, p.not_short) refl

dash_fails : (b : ℕ) (text : Text) (x : ℕ) → (b == 45) ≡ false → slice_get (chars (b ∷ text)) 0 ≡ Some x → has_fault (turn_fault whole.top names start (45 ∷ b ∷ text)) ≡ true
dash_fails b text x no_dash first =
    let m = word_met [] names false idle 1 (45 ∷ b ∷ text) nothing_held in
    first_fails (other_fault whole.top None (45 ∷ b ∷ text) nothing_held) (step_fault whole.top 1 m.0 m.1) (short_fails whole.top b text x nothing_held no_dash first refl refl)

other_fails : {word : Text} (rest : List Text) → Look word → subcommand_met names idle word ≡ None → has_fault (fault_of line_app (word ∷ rest)) ≡ true
other_fails rest (plain {word = word} p) met = turn_fails word rest (plain_fails word met p)
other_fails rest ends met = ends_fails rest
other_fails rest (long b text) met = turn_fails (45 ∷ 45 ∷ b ∷ text) rest refl
other_fails rest (short b text x no_dash first) met = turn_fails (45 ∷ b ∷ text) rest (dash_fails b text x no_dash first)

none_asked : (o : Option Given) (word : Text) → ((given : Given) → asked_with word given ≡ None) → option_and_then (λ given. asked_with word given) o ≡ None
none_asked None word none = refl
none_asked (Some given) word none = none given

word_asks : {name : Text} (rest : List Text) → Named name → IsUtf8 name → AreTexts rest → Asks (name ∷ rest)
word_asks rest (known name met at help) text texts = known_asks name rest met at help texts
word_asks rest (other word met none) text texts = fails (word ∷ rest) (other_fails rest (look word text) met) (none_asked (given_by rest) word none)

-- what the reader finds in a line is what its words ask
line_asks : (words : List Text) → AreTexts words → Asks words
line_asks [] texts = fails [] no_words_fail refl
line_asks (name ∷ rest) texts = word_asks rest (named name) texts.0 texts.1

-- the words of a call are texts
pub are_texts : {Z : Type 0} (words : List (String Z)) → AreTexts (map string_bytes words)
are_texts [] = tt
are_texts (word ∷ words) = (IsUtf8-string_bytes word, are_texts words)

-- ---- what the reader answers

pub ok_asks : (words : List Text) (met : Option (Text × List Row)) → AreTexts words → fault_of line_app words ≡ [] → met ≡ subcommand_of line_app words → asked_entered met ≡ asked_by words
ok_asks words met texts fine is = ap asked_entered is ∙ ap (λ kinds. asked_if kinds (subcommand_of line_app words)) (sym fine) ∙ line_asks words texts

pub err_asks : (words : List Text) (e : Error) → AreTexts words → (kind_of e ≡ OutOfMemory → ⊥) → HasKind (fault_of line_app words) e → None ≡ asked_by words
err_asks words e texts no_want bad = go (fault_of line_app words) bad (line_asks words texts)
  where
    go : (kinds : Kinds) → HasKind kinds e → asked_if kinds (subcommand_of line_app words) ≡ asked_by words → None ≡ asked_by words
    go [] (inl want) is = absurd (no_want want)
    go [] (inr among) is = absurd among
    go (k ∷ ks) h is = is

abbrev Entered : Type 0
Entered = Text × List Row

some≢none : {X : Type 0} (x : X) → Some x ≡ None → ⊥
some≢none x e = true≢false (ap (λ o. is_some o) e)

pairs : {X : Type 0} (f : X → Text) (g : X → List Row) (o : Option X) (n : Text) (r : List Row) → Some n ≡ option_map f o → Some r ≡ option_map (λ (p : Entered). p.1) (option_map {U = Entered} (λ b. (f b, g b)) o)
    → option_map {U = Entered} (λ b. (f b, g b)) o ≡ Some (n, r)
pairs f g None n r a b = absurd (some≢none n a)
pairs f g (Some x) n r a b =
    let name : f x ≡ n = ap (λ o. unwrap_or o n) (sym a) in
    let rows : g x ≡ r = ap (λ o. unwrap_or o r) (sym b) in
    let same : ◌≡◌ {A = Entered} (f x, g x) (n, r) = λ i. (name i, rows i) in
    ap Some same

-- the command that was met, by its name and its rows
pub pair_entered : (m : ArgMatches) (n : Text) (r : List Row) → Some n ≡ subcommand_name_of m → Some r ≡ option_map (λ (p : Entered). p.1) (subcommand_rows_of m) → subcommand_rows_of m ≡ Some (n, r)
pair_entered m n r name rows =
    pairs (λ b. (out-SubCommand (box_value b)).name.now) (λ b. rows_of (found_of (out-SubCommand (box_value b)).matches)) (out-ArgMatches m).subcommand n r name rows

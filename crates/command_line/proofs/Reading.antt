-- The words after a command's name: the reader's walk fails exactly where they give nothing, and else its rows hold what they give.
use Rattle.std.proofs.Common.{◌≡◌, ◌∙◌, ℕ, ◌||◌, Bool, cond, true, false, List, [], ◌∷◌, Option, Some, None, refl, sym, ap, ap₂, true≢false}
use Rattle.std.specs.Prelude.{fold, option_and_then, option_map}
use Rattle.std.specs.Str.{IsUtf8}
use Rattle.clap.specs.Lexer.{name_and_value}
use Rattle.clap.specs.Walk.{Held, Row, Rule, Step, Text, Waiting, Walk, after_flag, after_step, arg_by_long, finished, has_row, idle, long_met, nothing_held, option, positional, rows_after, settled, walk_from, walked, with_default, word_met}
use Rattle.clap.specs.Simple.{Shape, new_shape}
use Rattle.clap.specs.Kinds.{Kinds, or_else}
use Rattle.clap.specs.Faults.{defaults_fault, given_default_fault, level_fault, long_fault, other_fault, settle_fault, step_fault, turn_fault, walk_fault}
use Rattle.command_words.specs.Given.{CommandOption, Segments, Image, Save, Order, Board, BoardTo, Given, Reading, given_after, given_by, option_read, value_in, with_place, word_read}
use Rattle.command_line.specs.Line.{given_in}
use Rattle.command_line.proofs.Rows.{id_of, more, more_place, more_value, place_id}
use Rattle.command_line.proofs.Looks.{IsPlain, Long, Look, ends, first_fails, has_fault, known, long, long_look, look, or_else_nothing, place_rule, plain, rules_of_words, short, short_fails, unknown, value_rule}

-- a command of the line, as it is built
abbrev pub leaf : Text → Shape
leaf name = record (new_shape name) {
  rules = rules_of_words;
  no_binary_name = true;
  disable_help_flag = true;
  disable_help_subcommand = true;
  is_built = true;
}

abbrev pub AreTexts : List Text → Type 0
AreTexts [] = Unit {0}
AreTexts (word ∷ words) = IsUtf8 word × AreTexts words

-- ---- where a walk stands

-- the value that was read last, and isn't in the rows yet
data Last : Type 0 where
  none : Last
  place : Text → Last
  value : CommandOption → Text → Last

abbrev pending_in : Last → Option (Text × List Text)
pending_in none = None
pending_in (place word) = Some (place_id, word ∷ [])
pending_in (value o word) = Some (id_of o, word ∷ [])

abbrev waiting_in : Last → Waiting
waiting_in none = idle
waiting_in (place word) = positional
waiting_in (value o word) = idle

abbrev rows_in : List Row → Last → List Row
rows_in rows none = rows
rows_in rows (place word) = more place_id word rows
rows_in rows (value o word) = more (id_of o) word rows

-- no option lacks its value, and options may have ended; or one does
data State : Type 0 where
  resting : List Row → Last → Bool → State
  awaiting : List Row → CommandOption → State

abbrev held : List Row → Option (Text × List Text) → Held
held rows pending = record { rows = rows; pending = pending; skip = 0 }

abbrev standing : Held → Waiting → Bool → Walk
standing h waiting ended = record { held = h; waiting = waiting; position = 1; is_trailing = ended; stopped = None }

abbrev walk_at : State → Walk
walk_at (resting rows last ended) = standing (held rows (pending_in last)) (waiting_in last) ended
walk_at (awaiting rows o) = standing (held rows (Some (id_of o, []))) (option (id_of o)) false

abbrev at_rest : Bool → Given → Reading
at_rest ended given = record { given = given; awaited = None; ended = ended }

abbrev reading_at : State → Reading
reading_at (resting rows last ended) = at_rest ended (given_in (rows_in rows last))
reading_at (awaiting rows o) = record { given = given_in rows; awaited = Some o; ended = false }

abbrev read : State → Text → Option Reading
read st word = word_read (reading_at st).awaited word (reading_at st)

-- what rows give, where nothing failed
abbrev pub given_if : Kinds → List Row → Option Given
given_if [] rows = Some (given_in rows)
given_if (k ∷ ks) rows = None

abbrev unless_fault : Kinds → Option Given → Option Given
unless_fault [] given = given
unless_fault (k ∷ ks) given = None

empty_or : (b : Bool) (x : Kinds) → cond (b || true) [] x ≡ []
empty_or true x = refl
empty_or false x = refl

either : {X : Type 0} (b : Bool) (x : X) → cond b x x ≡ x
either true x = refl
either false x = refl

module _ (name : Text) where
  abbrev s : Shape
  s = leaf name

  abbrev turn : Walk → Text → Kinds
  turn w word = turn_fault s [] w word

  abbrev step : Walk → Text → Walk
  step w word = walked rules_of_words [] w word

  -- what fails of words, and what they give
  abbrev faults : Walk → List Text → Kinds
  faults w words = or_else (walk_fault s [] w words) (settle_fault rules_of_words false (fold (walked rules_of_words []) w words).held)

  abbrev gives : Walk → List Text → Option Given
  gives w words = given_if (faults w words) (settled rules_of_words (fold (walked rules_of_words []) w words).held).rows

  -- ---- one word

  later : (w : Walk) (word : Text) (rest : List Text) → gives w (word ∷ rest) ≡ unless_fault (turn w word) (gives (step w word) rest)
  unfolding walk_fault
  later w word rest = go (turn w word)
    where
      go : (t : Kinds)
          → given_if (or_else (or_else t (walk_fault s [] (step w word) rest)) (settle_fault rules_of_words false (fold (walked rules_of_words []) (step w word) rest).held))
          (settled rules_of_words (fold (walked rules_of_words []) (step w word) rest).held).rows
          ≡ unless_fault t (gives (step w word) rest)
      go [] = refl
      go (k ∷ ks) = refl

  refused : (w : Walk) (word : Text) (rest : List Text) → has_fault (turn w word) ≡ true → gives w (word ∷ rest) ≡ None
  refused w word rest bad = later w word rest ∙ go (turn w word) bad
    where
      go : (t : Kinds) → has_fault t ≡ true → unless_fault t (gives (step w word) rest) ≡ None
      go [] e = absurd (true≢false (sym e))
      go (k ∷ ks) e = refl

  -- a word that fails by itself
  own_fails : (h : Held) (waiting : Waiting) (word : Text) → has_fault (other_fault s None word h) ≡ true → has_fault (turn (standing h waiting false) word) ≡ true
  own_fails h idle word bad = let m = word_met rules_of_words [] false idle 1 word h in first_fails (other_fault s None word h) (step_fault s 1 m.0 m.1) bad
  own_fails h positional word bad = let m = word_met rules_of_words [] false positional 1 word h in first_fails (other_fault s None word h) (step_fault s 1 m.0 m.1) bad
  own_fails h (option id) word bad = let m = word_met rules_of_words [] false (option id) 1 word h in first_fails (other_fault s None word h) (step_fault s 1 m.0 m.1) bad

  -- a word is passed by the reader, which then stands there; or it fails
  abbrev Passes : State → Text → State → Type 0
  Passes st word after = (turn (walk_at st) word ≡ []) × (step (walk_at st) word ≡ walk_at after)

  -- a positional word
  trailing_place : (rows : List Row) (last : Last) (word : Text) → Passes (resting rows last true) word (resting (rows_in rows last) (place word) true)
  unfolding walked
  trailing_place rows none word = (refl, refl)
  trailing_place rows (place before) word = (refl, refl)
  trailing_place rows (value Segments before) word = (refl, refl)
  trailing_place rows (value Image before) word = (refl, refl)
  trailing_place rows (value Save before) word = (refl, refl)
  trailing_place rows (value Order before) word = (refl, refl)
  trailing_place rows (value Board before) word = (refl, refl)
  trailing_place rows (value BoardTo before) word = (refl, refl)

  plain_place : (rows : List Row) (last : Last) (word : Text) → IsPlain word → Passes (resting rows last false) word (resting (rows_in rows last) (place word) false)
  unfolding walked
  plain_place rows none word p = (rw (p.not_end, p.not_long, p.not_short) refl, rw (p.not_end, p.not_long, p.not_short) refl)
  plain_place rows (place before) word p = (rw (p.not_end, p.not_long, p.not_short) refl, rw (p.not_end, p.not_long, p.not_short) refl)
  plain_place rows (value Segments before) word p = (rw (p.not_end, p.not_long, p.not_short) refl, rw (p.not_end, p.not_long, p.not_short) refl)
  plain_place rows (value Image before) word p = (rw (p.not_end, p.not_long, p.not_short) refl, rw (p.not_end, p.not_long, p.not_short) refl)
  plain_place rows (value Save before) word p = (rw (p.not_end, p.not_long, p.not_short) refl, rw (p.not_end, p.not_long, p.not_short) refl)
  plain_place rows (value Order before) word p = (rw (p.not_end, p.not_long, p.not_short) refl, rw (p.not_end, p.not_long, p.not_short) refl)
  plain_place rows (value Board before) word p = (rw (p.not_end, p.not_long, p.not_short) refl, rw (p.not_end, p.not_long, p.not_short) refl)
  plain_place rows (value BoardTo before) word p = (rw (p.not_end, p.not_long, p.not_short) refl, rw (p.not_end, p.not_long, p.not_short) refl)

  -- the value of an option that waits for it
  plain_value : (rows : List Row) (o : CommandOption) (word : Text) → IsPlain word → Passes (awaiting rows o) word (resting rows (value o word) false)
  unfolding walked
  plain_value rows Segments word p = (rw (p.not_end, p.not_long, p.not_short) refl, rw (p.not_end, p.not_long, p.not_short) refl)
  plain_value rows Image word p = (rw (p.not_end, p.not_long, p.not_short) refl, rw (p.not_end, p.not_long, p.not_short) refl)
  plain_value rows Save word p = (rw (p.not_end, p.not_long, p.not_short) refl, rw (p.not_end, p.not_long, p.not_short) refl)
  plain_value rows Order word p = (rw (p.not_end, p.not_long, p.not_short) refl, rw (p.not_end, p.not_long, p.not_short) refl)
  plain_value rows Board word p = (rw (p.not_end, p.not_long, p.not_short) refl, rw (p.not_end, p.not_long, p.not_short) refl)
  plain_value rows BoardTo word p = (rw (p.not_end, p.not_long, p.not_short) refl, rw (p.not_end, p.not_long, p.not_short) refl)

  -- the end of the options
  end_passes : (rows : List Row) (last : Last) → Passes (resting rows last false) (45 ∷ 45 ∷ []) (resting rows last true)
  unfolding walked
  end_passes rows none = (refl, refl)
  end_passes rows (place before) = (refl, refl)
  end_passes rows (value o before) = (refl, refl)

  end_fails : (rows : List Row) (o : CommandOption) (rest : List Text) → gives (walk_at (awaiting rows o)) ((45 ∷ 45 ∷ []) ∷ rest) ≡ None
  unfolding walk_fault walked
  end_fails rows Segments [] = refl
  end_fails rows Image [] = refl
  end_fails rows Save [] = refl
  end_fails rows Order [] = refl
  end_fails rows Board [] = refl
  end_fails rows BoardTo [] = refl
  end_fails rows Segments (word ∷ rest) = refl
  end_fails rows Image (word ∷ rest) = refl
  end_fails rows Save (word ∷ rest) = refl
  end_fails rows Order (word ∷ rest) = refl
  end_fails rows Board (word ∷ rest) = refl
  end_fails rows BoardTo (word ∷ rest) = refl

  -- an option, with its value or without
  abbrev after_option : List Row → CommandOption → Option Text → State
  after_option rows o (Some v) = resting (more (id_of o) v rows) none false
  after_option rows o None = awaiting rows o

  abbrev long_step : Held → Waiting → Text → Option Rule → Option Text → Held × Step
  long_step h waiting word a v = let m = long_met rules_of_words a v h in after_flag rules_of_words waiting word m.0 m.1

  abbrev long_turn : Held → Waiting → Text → Option Rule → Option Text → Kinds
  long_turn h waiting word a v = let m = long_step h waiting word a v in or_else (long_fault rules_of_words false a v h) (step_fault s 1 m.0 m.1)

  abbrev long_walk : Held → Waiting → Text → Option Rule → Option Text → Walk
  long_walk h waiting word a v = let m = long_step h waiting word a v in after_step rules_of_words word (standing h waiting false) m.0 m.1

  abbrev Turns : List Row → Last → Text → Kinds → Walk → Type 0
  Turns rows last word kinds after = (turn (walk_at (resting rows last false)) word ≡ kinds) × (step (walk_at (resting rows last false)) word ≡ after)

  long_turns : (rows : List Row) (last : Last) (b : ℕ) (text : Text)
      → let a = arg_by_long rules_of_words (name_and_value (b ∷ text)).0 in
      let v = (name_and_value (b ∷ text)).1 in
      let word : Text = 45 ∷ 45 ∷ b ∷ text in
      let h = held rows (pending_in last) in
      Turns rows last word (long_turn h (waiting_in last) word a v) (long_walk h (waiting_in last) word a v)
  unfolding walked
  long_turns rows none b text = (refl, refl)
  long_turns rows (place before) b text = (refl, refl)
  long_turns rows (value o before) b text = (refl, refl)

  known_turns : (rows : List Row) (last : Last) (word : Text) (o : CommandOption) (v : Option Text)
      → let h = held rows (pending_in last) in
      (long_turn h (waiting_in last) word (Some (value_rule o)) v ≡ []) × (long_walk h (waiting_in last) word (Some (value_rule o)) v ≡ walk_at (after_option (rows_in rows last) o v))
  known_turns rows none word o None = (refl, refl)
  known_turns rows none word o (Some v) = (refl, refl)
  known_turns rows (place before) word o None = (refl, refl)
  known_turns rows (place before) word o (Some v) = (refl, refl)
  known_turns rows (value Segments before) word o None = (refl, refl)
  known_turns rows (value Segments before) word o (Some v) = (refl, refl)
  known_turns rows (value Image before) word o None = (refl, refl)
  known_turns rows (value Save before) word o None = (refl, refl)
  known_turns rows (value Order before) word o None = (refl, refl)
  known_turns rows (value Board before) word o None = (refl, refl)
  known_turns rows (value BoardTo before) word o None = (refl, refl)
  known_turns rows (value Image before) word o (Some v) = (refl, refl)
  known_turns rows (value Save before) word o (Some v) = (refl, refl)
  known_turns rows (value Order before) word o (Some v) = (refl, refl)
  known_turns rows (value Board before) word o (Some v) = (refl, refl)
  known_turns rows (value BoardTo before) word o (Some v) = (refl, refl)

  option_passes : (rows : List Row) (last : Last) (b : ℕ) (text : Text) (o : CommandOption) → arg_by_long rules_of_words (name_and_value (b ∷ text)).0 ≡ Some (value_rule o)
      → Passes (resting rows last false) (45 ∷ 45 ∷ b ∷ text) (after_option (rows_in rows last) o (name_and_value (b ∷ text)).1)
  option_passes rows last b text o is =
      let v = (name_and_value (b ∷ text)).1 in
      let word : Text = 45 ∷ 45 ∷ b ∷ text in
      let h = held rows (pending_in last) in
      let turns = long_turns rows last b text in
      let fine = known_turns rows last word o v in
      (turns.0 ∙ ap (λ a. long_turn h (waiting_in last) word a v) is ∙ fine.0, turns.1 ∙ ap (λ a. long_walk h (waiting_in last) word a v) is ∙ fine.1)

  -- an option that nobody has, and one where another lacks its value
  unknown_fails : (b : ℕ) (text : Text) (h : Held) → arg_by_long rules_of_words (name_and_value (b ∷ text)).0 ≡ None → has_fault (other_fault s None (45 ∷ 45 ∷ b ∷ text) h) ≡ true
  unknown_fails b text h is = ap (λ a. has_fault (long_fault rules_of_words false a (name_and_value (b ∷ text)).1 h)) is

  unfilled_fails : (rows : List Row) (o next : CommandOption) (v : Option Text) → has_fault (long_fault rules_of_words false (Some (value_rule next)) v (held rows (Some (id_of o, [])))) ≡ true
  unfilled_fails rows Segments next None = refl
  unfilled_fails rows Segments next (Some v) = refl
  unfilled_fails rows Image next None = refl
  unfilled_fails rows Save next None = refl
  unfilled_fails rows Order next None = refl
  unfilled_fails rows Board next None = refl
  unfilled_fails rows BoardTo next None = refl
  unfilled_fails rows Image next (Some v) = refl
  unfilled_fails rows Save next (Some v) = refl
  unfilled_fails rows Order next (Some v) = refl
  unfilled_fails rows Board next (Some v) = refl
  unfilled_fails rows BoardTo next (Some v) = refl

  long_fails : (rows : List Row) (o : CommandOption) (b : ℕ) (text : Text) → has_fault (other_fault s None (45 ∷ 45 ∷ b ∷ text) (held rows (Some (id_of o, [])))) ≡ true
  long_fails rows o b text = go (long_look (b ∷ text))
    where
      go : Long (b ∷ text) → has_fault (other_fault s None (45 ∷ 45 ∷ b ∷ text) (held rows (Some (id_of o, [])))) ≡ true
      go (known next is named) =
          ap (λ a. has_fault (long_fault rules_of_words false a (name_and_value (b ∷ text)).1 (held rows (Some (id_of o, []))))) is
          ∙ unfilled_fails rows o next (name_and_value (b ∷ text)).1
      go (unknown is named) = unknown_fails b text (held rows (Some (id_of o, []))) is

  -- ---- a word either is taken by both, or fails on both sides

  data Turn (st : State) (word : Text) : Type 0 where
    goes : (after : State) → Passes st word after → read st word ≡ Some (reading_at after) → Turn st word
    stops : ((rest : List Text) → gives (walk_at st) (word ∷ rest) ≡ None) → read st word ≡ None → Turn st word

  own_stops : (rows : List Row) (last : Last) (word : Text) → has_fault (other_fault s None word (held rows (pending_in last))) ≡ true → read (resting rows last false) word ≡ None → Turn (resting rows last false) word
  own_stops rows last word bad unread = stops (λ rest. refused (walk_at (resting rows last false)) word rest (own_fails (held rows (pending_in last)) (waiting_in last) word bad)) unread

  unfilled_stops : (rows : List Row) (o : CommandOption) (word : Text) → has_fault (other_fault s None word (held rows (Some (id_of o, [])))) ≡ true → read (awaiting rows o) word ≡ None → Turn (awaiting rows o) word
  unfilled_stops rows o word bad unread = stops (λ rest. refused (walk_at (awaiting rows o)) word rest (own_fails (held rows (Some (id_of o, []))) (option (id_of o)) word bad)) unread

  option_is_read : (rows : List Row) (o : CommandOption) (v : Option Text) → option_read o v (at_rest false (given_in rows)) ≡ reading_at (after_option rows o v)
  option_is_read rows o None = refl
  option_is_read rows o (Some v) = ap (at_rest false) (sym (more_value o v rows))

  option_turn : (rows : List Row) (last : Last) (b : ℕ) (text : Text) → Long (b ∷ text) → Turn (resting rows last false) (45 ∷ 45 ∷ b ∷ text)
  option_turn rows last b text (known o is named) =
      goes (after_option (rows_in rows last) o (value_in (b ∷ text))) (option_passes rows last b text o is)
      (ap (option_map (λ x. option_read x (value_in (b ∷ text)) (reading_at (resting rows last false)))) named ∙ ap Some (option_is_read (rows_in rows last) o (value_in (b ∷ text))))
  option_turn rows last b text (unknown is named) =
      own_stops rows last (45 ∷ 45 ∷ b ∷ text) (unknown_fails b text (held rows (pending_in last)) is)
      (ap (option_map (λ x. option_read x (value_in (b ∷ text)) (reading_at (resting rows last false)))) named)

  place_is_read : (rows : List Row) (word : Text) (ended : Bool) → Some (at_rest ended (with_place word (given_in rows))) ≡ Some (at_rest ended (given_in (more place_id word rows)))
  place_is_read rows word ended = ap (λ g. Some (at_rest ended g)) (sym (more_place word rows))

  resting_turn : (rows : List Row) (last : Last) {word : Text} → Look word → Turn (resting rows last false) word
  resting_turn rows last (plain {word = word} p) =
      goes (resting (rows_in rows last) (place word) false) (plain_place rows last word p) (rw p.not_dashed (place_is_read (rows_in rows last) word false))
  resting_turn rows last ends = goes (resting rows last true) (end_passes rows last) refl
  resting_turn rows last (long b text) = option_turn rows last b text (long_look (b ∷ text))
  resting_turn rows last (short b text x no_dash first) =
      own_stops rows last (45 ∷ b ∷ text) (short_fails s b text x (held rows (pending_in last)) no_dash first refl refl) (rw no_dash refl)

  awaiting_turn : (rows : List Row) (o : CommandOption) {word : Text} → Look word → Turn (awaiting rows o) word
  awaiting_turn rows o (plain {word = word} p) =
      goes (resting rows (value o word) false) (plain_value rows o word p) (rw p.not_dashed (ap (λ g. Some (at_rest false g)) (sym (more_value o word rows))))
  awaiting_turn rows o ends = stops (end_fails rows o) refl
  awaiting_turn rows o (long b text) = unfilled_stops rows o (45 ∷ 45 ∷ b ∷ text) (long_fails rows o b text) refl
  awaiting_turn rows o (short b text x no_dash first) =
      unfilled_stops rows o (45 ∷ b ∷ text) (short_fails s b text x (held rows (Some (id_of o, []))) no_dash first refl refl) refl

  turned : (st : State) (word : Text) → IsUtf8 word → Turn st word
  turned (resting rows last true) word u = goes (resting (rows_in rows last) (place word) true) (trailing_place rows last word) (place_is_read (rows_in rows last) word true)
  turned (resting rows last false) word u = resting_turn rows last (look word u)
  turned (awaiting rows o) word u = awaiting_turn rows o (look word u)

  -- ---- all words

  abbrev Come : List Text → Type 0
  Come words = (st : State) → gives (walk_at st) words ≡ given_after (reading_at st) words

  one_more : (st : State) (word : Text) (rest : List Text) → Come rest → Turn st word → gives (walk_at st) (word ∷ rest) ≡ given_after (reading_at st) (word ∷ rest)
  one_more st word rest come (goes after passes is) =
      later (walk_at st) word rest ∙ ap₂ (λ (t : Kinds) (w : Walk). unless_fault t (gives w rest)) passes.0 passes.1 ∙ come after ∙ sym (ap (option_and_then (λ r. given_after r rest)) is)
  one_more st word rest come (stops fails is) = fails rest ∙ sym (ap (option_and_then (λ r. given_after r rest)) is)

  come : (words : List Text) → AreTexts words → Come words
  unfolding walk_fault
  come [] texts (resting rows none ended) = refl
  come [] texts (resting rows (place before) ended) = refl
  come [] texts (resting rows (value Segments before) ended) = refl
  come [] texts (resting rows (value Image before) ended) = refl
  come [] texts (resting rows (value Save before) ended) = refl
  come [] texts (resting rows (value Order before) ended) = refl
  come [] texts (resting rows (value Board before) ended) = refl
  come [] texts (resting rows (value BoardTo before) ended) = refl
  come [] texts (awaiting rows Segments) = refl
  come [] texts (awaiting rows Image) = refl
  come [] texts (awaiting rows Save) = refl
  come [] texts (awaiting rows Order) = refl
  come [] texts (awaiting rows Board) = refl
  come [] texts (awaiting rows BoardTo) = refl
  come (word ∷ rest) texts st = one_more st word rest (come rest texts.1) (turned st word texts.0)

  -- ---- nothing is added at the end

  no_defaults : (rows : List Row) → defaults_fault rows rules_of_words ≡ []
  unfolding defaults_fault
  no_defaults rows =
      let a = with_default rows place_rule in
      let b = with_default a (value_rule Segments) in
      let d = with_default b (value_rule Image) in
      let e = with_default d (value_rule Save) in
      let f = with_default e (value_rule Order) in
      let g = with_default f (value_rule Board) in
      (λ i. or_else (empty_or (has_row place_id rows) (given_default_fault place_rule []) i)
      (or_else (empty_or (has_row (id_of Segments) a) (given_default_fault (value_rule Segments) []) i)
      (or_else (empty_or (has_row (id_of Image) b) (given_default_fault (value_rule Image) []) i)
      (or_else (empty_or (has_row (id_of Save) d) (given_default_fault (value_rule Save) []) i)
      (or_else (empty_or (has_row (id_of Order) e) (given_default_fault (value_rule Order) []) i)
      (or_else (empty_or (has_row (id_of Board) f) (given_default_fault (value_rule Board) []) i)
      (or_else (empty_or (has_row (id_of BoardTo) g) (given_default_fault (value_rule BoardTo) []) i) [])))))))

  end_rows : (h : Held) → finished rules_of_words h ≡ (settled rules_of_words h).rows
  end_rows h =
      let rows = (settled rules_of_words h).rows in
      let a = with_default rows place_rule in
      let b = with_default a (value_rule Segments) in
      let d = with_default b (value_rule Image) in
      let e = with_default d (value_rule Save) in
      let f = with_default e (value_rule Order) in
      let g = with_default f (value_rule Board) in
      either (has_row (id_of BoardTo) g) g ∙ either (has_row (id_of Board) f) f ∙ either (has_row (id_of Order) e) e ∙ either (has_row (id_of Save) d) d ∙ either (has_row (id_of Image) b) b ∙ either (has_row (id_of Segments) a) a ∙ either (has_row place_id rows) rows

  level_is : (words : List Text) → level_fault s [] nothing_held words false [] ≡ faults (walk_from nothing_held) words
  level_is words =
      let w = fold (walked rules_of_words []) (walk_from nothing_held) words in
      let own = walk_fault s [] (walk_from nothing_held) words in
      let last = settle_fault rules_of_words false w.held in
      ap (λ (d : Kinds). or_else own (or_else last (or_else d []))) (no_defaults (settled rules_of_words w.held).rows) ∙ ap (or_else own) (or_else_nothing last)

  -- what the reader finds behind a command's name is what the words there give
  pub words_come : (words : List Text) → AreTexts words → given_if (level_fault s [] nothing_held words false []) (rows_after rules_of_words [] words) ≡ given_by words
  words_come words texts =
      ap₂ given_if (level_is words) (end_rows (fold (walked rules_of_words []) (walk_from nothing_held) words).held) ∙ come words texts (resting [] none false)

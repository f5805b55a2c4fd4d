-- What a word looks like: a plain word, the end of the options, an option by its name, or a dash before other text.
use Rattle.std.proofs.Common.{◌≡◌, ◌∙◌, ◌⊎◌, inl, inr, ℕ, Bool, true, false, List, [], ◌∷◌, ◌++◌, codes, length, drop, Option, Some, None, refl, sym, ap, ap₂, subst, arith, eqb-true, true≢false}
use Rattle.std.specs.Prelude.{◌==◌, slice_get, encode_utf8, encode_utf8_all}
use Rattle.std.specs.Str.{IsUtf8, bytes_eq, chars}
use Rattle.std.proofs.lemmas.Str.{IsUtf8-past_char, encode_ascii, encodes-chars}
use Rattle.std.proofs.lemmas.Slice.Eq.{bytes_eq-Decides}
use Rattle.clap.specs.Lexer.{long_of, name_and_value, short_of}
use Rattle.clap.specs.Walk.{Held, Rule, Text, arg_by_long, arg_by_short}
use Rattle.clap.specs.Simple.{Shape}
use Rattle.clap.specs.Kinds.{Kinds, or_else}
use Rattle.clap.specs.Faults.{bundle_fault, bundle_step_fault, flags_fault, other_fault, short_fault}
use Rattle.clap.specs.declared.builder.value_parser.ValueParser.TheVariants as parser
use Rattle.clap.specs.declared.error.kind.ErrorKind.TheVariants.{UnknownArgument}
use Rattle.command_words.specs.Given.{CommandOption, Segments, Image, Save, Order, Board, BoardTo, is_dashed, name_in, option_named}
use Rattle.command_line.specs.Line.{many_rule}
use Rattle.command_line.proofs.Rows.{id_of, place_id}

-- ---- faults

abbrev pub has_fault : Kinds → Bool
has_fault [] = false
has_fault (k ∷ ks) = true

pub first_fails : (a b : Kinds) → has_fault a ≡ true → has_fault (or_else a b) ≡ true
first_fails [] b h = absurd (true≢false (sym h))
first_fails (k ∷ ks) b h = refl

pub or_else_nothing : (a : Kinds) → or_else a [] ≡ a
or_else_nothing [] = refl
or_else_nothing (k ∷ ks) = refl

-- ---- a word by its first bytes

-- two texts are one, or the tests of both orders tell them apart
pub decide : (xs ys : Text) → (xs ≡ ys) ⊎ ((bytes_eq xs ys ≡ false) × (bytes_eq ys xs ≡ false))
decide xs ys = go (bytes_eq xs ys) (bytes_eq ys xs) refl refl
  where
    go : (a b : Bool) → bytes_eq xs ys ≡ a → bytes_eq ys xs ≡ b → (xs ≡ ys) ⊎ ((bytes_eq xs ys ≡ false) × (bytes_eq ys xs ≡ false))
    go true b p q = inl ((bytes_eq-Decides xs ys).0 p)
    go false true p q = inl (sym ((bytes_eq-Decides ys xs).0 q))
    go false false p q = inr (p, q)

pub record IsPlain (word : Text) : Type 0 where
  pub not_dashed : is_dashed word ≡ false
  pub not_long : long_of word ≡ None
  pub not_short : short_of word ≡ None
  pub not_end : bytes_eq word (45 ∷ 45 ∷ []) ≡ false

pub data Look : Text → Type 0 where
  plain : {word : Text} → IsPlain word → Look word
  ends : Look (45 ∷ 45 ∷ [])
  long : (b : ℕ) (rest : Text) → Look (45 ∷ 45 ∷ b ∷ rest)
  short : (b : ℕ) (rest : Text) (x : ℕ) → (b == 45) ≡ false → slice_get (chars (b ∷ rest)) 0 ≡ Some x → Look (45 ∷ b ∷ rest)

-- text that isn't empty has a first character
first_char : (b : ℕ) (rest : Text) → IsUtf8 (b ∷ rest) → (x : ℕ) × (slice_get (chars (b ∷ rest)) 0 ≡ Some x)
first_char b rest u = go (chars (b ∷ rest)) refl (encodes-chars (b ∷ rest) u)
  where
    go : (cs : List ℕ) → chars (b ∷ rest) ≡ cs → encode_utf8_all (chars (b ∷ rest)) ≡ b ∷ rest → (x : ℕ) × (slice_get (chars (b ∷ rest)) 0 ≡ Some x)
    go [] none spells =
        let nothing : [] ≡ b ∷ rest = sym (ap encode_utf8_all none) ∙ spells in
        let lengths : 0 ≡ length (b ∷ rest) = ap length nothing in
        absurd (omega arith)
    go (x ∷ xs) some spells = (x, ap (λ l. slice_get l 0) some)

past_dash : (rest : Text) → IsUtf8 (45 ∷ rest) → IsUtf8 rest
past_dash rest u = IsUtf8-past_char (45 ∷ rest) rest 45 u (sym (ap (λ t. t ++ rest) (encode_ascii 45 (omega arith))))

dashed : (y : ℕ) (rest : Text) → IsUtf8 (45 ∷ y ∷ rest) → (b : Bool) → (y == 45) ≡ b → Look (45 ∷ y ∷ rest)
dashed y [] u true e = subst (λ z. Look (45 ∷ z ∷ [])) (sym (eqb-true y 45 e)) ends
dashed y (z ∷ zs) u true e = subst (λ k. Look (45 ∷ k ∷ z ∷ zs)) (sym (eqb-true y 45 e)) (long z zs)
dashed y rest u false e = let first = first_char y rest (past_dash (y ∷ rest) u) in short y rest first.0 e first.1

pub look : (word : Text) → IsUtf8 word → Look word
look [] u = plain (record { not_dashed = refl; not_long = refl; not_short = refl; not_end = refl })
look (x ∷ []) u = go (x == 45) refl
  where
    go : (b : Bool) → (x == 45) ≡ b → Look (x ∷ [])
    go true e = plain (record { not_dashed = refl; not_long = rw e refl; not_short = rw e refl; not_end = rw e refl })
    go false e = plain (record { not_dashed = refl; not_long = rw e refl; not_short = rw e refl; not_end = rw e refl })
look (x ∷ y ∷ rest) u = go (x == 45) refl
  where
    go : (b : Bool) → (x == 45) ≡ b → Look (x ∷ y ∷ rest)
    go true e =
        let is : 45 ≡ x = sym (eqb-true x 45 e) in
        subst (λ k. Look (k ∷ y ∷ rest)) is (dashed y rest (subst (λ k. IsUtf8 (k ∷ y ∷ rest)) (sym is) u) (y == 45) refl)
    go false e = plain (record { not_dashed = e; not_long = rw e refl; not_short = rw e refl; not_end = rw e refl })

-- ---- the rules of a command, as it is built

abbrev built_rule : Text → Rule
built_rule id = record (many_rule id) {
  range = Some (record { start_inclusive = 1; end_inclusive = 1 });
  parser = Some parser.String;
}

abbrev pub place_rule : Rule
place_rule = record (built_rule place_id) { index = Some 1 }

abbrev pub value_rule : CommandOption → Rule
value_rule o = record (built_rule (id_of o)) { long = Some (id_of o) }

abbrev pub rules_of_words : List Rule
rules_of_words = place_rule ∷ value_rule Segments ∷ value_rule Image ∷ value_rule Save ∷ value_rule Order ∷ value_rule Board ∷ value_rule BoardTo ∷ []

-- text behind `--`: an option that is known, or none
pub data Long (text : Text) : Type 0 where
  known : (o : CommandOption) → arg_by_long rules_of_words (name_and_value text).0 ≡ Some (value_rule o) → option_named (name_in text) ≡ Some o → Long text
  unknown : arg_by_long rules_of_words (name_and_value text).0 ≡ None → option_named (name_in text) ≡ None → Long text

pub long_look : (text : Text) → Long text
long_look text = elim (decide (codes "segments") (name_in text)) [
  | inl is ↦ known Segments (ap (arg_by_long rules_of_words) (sym is)) (ap option_named (sym is))
  | inr segments ↦ elim (decide (codes "image") (name_in text)) [
    | inl is ↦ known Image (ap (arg_by_long rules_of_words) (sym is)) (ap option_named (sym is))
    | inr image ↦ elim (decide (codes "save") (name_in text)) [
      | inl is ↦ known Save (ap (arg_by_long rules_of_words) (sym is)) (ap option_named (sym is))
      | inr save ↦ elim (decide (codes "order") (name_in text)) [
        | inl is ↦ known Order (ap (arg_by_long rules_of_words) (sym is)) (ap option_named (sym is))
        | inr order ↦ elim (decide (codes "board") (name_in text)) [
          | inl is ↦ known Board (ap (arg_by_long rules_of_words) (sym is)) (ap option_named (sym is))
          | inr board ↦ elim (decide (codes "board-to") (name_in text)) [
            | inl is ↦ known BoardTo (ap (arg_by_long rules_of_words) (sym is)) (ap option_named (sym is))
            | inr board_to ↦
                unknown (rw (segments.0, image.0, save.0, order.0, board.0, board_to.0) refl) (rw (segments.1, image.1, save.1, order.1, board.1, board_to.1) refl)
          ]
        ]
      ]
    ]
  ]
]

-- ---- a dash before other text fails

dash_fault : (s : Shape) (word flags : Text) (h : Held) → bytes_eq word (45 ∷ 45 ∷ []) ≡ false → long_of word ≡ None → short_of word ≡ Some flags
    → other_fault s None word h ≡ bundle_fault s.rules s.args_override_self flags h
dash_fault s word flags h not_end not_long is_short = rw (not_end, not_long, is_short) refl

flag_fault : (c : List Rule) (again : Bool) (b : ℕ) (rest : Text) (x : ℕ) (h : Held) → slice_get (chars (b ∷ rest)) 0 ≡ Some x → h.skip ≡ 0 → arg_by_short c x ≡ None
    → bundle_fault c again (b ∷ rest) h ≡ UnknownArgument ∷ []
unfolding flags_fault
flag_fault c again b rest x h first at_start no_flag =
    let after = record h { skip = 0 } in
    ap₂ (λ (o : Option ℕ) (k : ℕ). bundle_step_fault c again o (b ∷ rest) k after (flags_fault c again (length rest))) first at_start
    ∙ ap (λ (a : Option Rule). short_fault c again a (drop (length (encode_utf8 x)) (b ∷ rest)) after (flags_fault c again (length rest) (drop (length (encode_utf8 x)) (b ∷ rest)) 0)) no_flag

pub short_fails : (s : Shape) (b : ℕ) (rest : Text) (x : ℕ) (h : Held) → (b == 45) ≡ false → slice_get (chars (b ∷ rest)) 0 ≡ Some x → h.skip ≡ 0 → arg_by_short s.rules x ≡ None
    → has_fault (other_fault s None (45 ∷ b ∷ rest) h) ≡ true
short_fails s b rest x h no_dash first at_start no_flag =
    ap has_fault (dash_fault s (45 ∷ b ∷ rest) (b ∷ rest) h (rw no_dash refl) (rw no_dash refl) (rw no_dash refl)
    ∙ flag_fault s.rules s.args_override_self b rest x h first at_start no_flag)

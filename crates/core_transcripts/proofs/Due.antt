-- What a server may still die of or answer `io` to, and what an event leaves of it: no more than before, but for a call of it that fails and for what is said.
use Rattle.std.proofs.Common.{ℕ, ◌≡◌, ◌≤◌, ◌+◌, Bool, true, false, ◌&&◌, if◌then◌else◌, List, [], ◌∷◌, ◌++◌, Option, Some, None, length, refl, sym, ap, ◌∙◌, subst, arith}
use Rattle.frang_base.specs.declared.reply.Reply.{Reply}
use Rattle.frang_base.specs.declared.said.Said.{Said}
use Rattle.frang_base.specs.declared.script.Line.{Line}
use Rattle.tree_definitions.specs.Transcript.{io_answers, is_io, is_io_of, is_unexplained, unexplained_from}
use Rattle.core_definitions.specs.Servers.{is_doomed, is_in_mount}
use Rattle.core_transcripts.proofs.Fits.{Asked, Key}
use Rattle.core_transcripts.proofs.Called.{CallFits, IsAside, aside_explained, aside_io, called, called_more, calls_more, undoomed}

abbrev pub one_if : Bool → ℕ
one_if b = if b then 1 else 0

-- a death of its mount, a call of which failed
abbrev pub death_due : Key → ℕ
death_due k = one_if (is_in_mount k.phase && k.failed)

-- an answer `io` that is fixed, or a get that failed under a mount
abbrev pub answer_due : Option Reply → Bool → ℕ
answer_due (Some r) got = one_if (is_io r)
answer_due None got = one_if got

abbrev pub asked_due : Option Asked → ℕ
asked_due None = 0
asked_due (Some asked) = answer_due asked.fixed asked.get_failed

-- the line under way at such a death answers `io`, too
abbrev pub io_due : Key → ℕ
io_due k = death_due k + asked_due k.asked

-- what is due of a server after these lines more, where so many calls of it failed
pub record Pays (script : List Line) (saids more : List Said) (i : ℕ) (k l : Key) (fails : ℕ) : Type 0 where
  pub answers : io_due l + io_answers i more ≤ io_due k + fails
  pub deaths : death_due l + unexplained_from script i saids more ≤ death_due k + fails
  pub calls : CallFits l.phase l.failed (called script i (saids ++ more))

-- ---- numbers

pub at_most_one : (b : Bool) → one_if b ≤ 1
at_most_one true = omega arith
at_most_one false = omega arith

none_more : (n fails : ℕ) → n + 0 ≤ n + fails
none_more n fails = omega arith

said_none : (n m fails : ℕ) → m ≡ 0 → n + m ≤ n + fails
said_none n m fails e = omega (arith, e)

no_more : (l k fails : ℕ) → l ≤ k + fails → l + 0 ≤ k + fails
no_more l k fails h = omega (arith, h)

no_more_said : (l k m fails : ℕ) → m ≡ 0 → l ≤ k + fails → l + m ≤ k + fails
no_more_said l k m fails e h = omega (arith, e, h)

pub nil_right : {X : Type 0} (xs : List X) → xs ++ [] ≡ xs
nil_right [] = refl
nil_right (x ∷ xs) = ap (λ l. x ∷ l) (nil_right xs)

-- ---- what is said of a server

-- one line's answers
pub io_one : (i : ℕ) (x : Said) → io_answers i (x ∷ []) ≡ one_if (is_io_of i x)
io_one i x = go (is_io_of i x)
  where
    go : (b : Bool) → length (if b then x ∷ [] else []) ≡ one_if b
    go true = refl
    go false = refl

unexplained_none : (script : List Line) (i : ℕ) (saids : List Said) (x : Said) → is_unexplained script i saids x ≡ false → unexplained_from script i saids (x ∷ []) ≡ 0
unexplained_none script i saids x e = ap (λ b. (if b then 1 else 0) + 0) e

module _ (script : List Line) (saids : List Said) (i : ℕ) (k : Key) (h : CallFits k.phase k.failed (called script i saids)) where
  -- nothing counts, and nothing is said
  pub same_pays : (l : Key) (fails : ℕ) → l ≡ k → Pays script saids [] i k l fails
  same_pays l fails e =
      subst (λ l. Pays script saids [] i k l fails) (sym e)
      (record {
        answers = none_more (io_due k) fails;
        deaths = none_more (death_due k) fails;
        calls = subst (λ ss. CallFits k.phase k.failed (called script i ss)) (sym (nil_right saids)) h;
      })

  -- nothing counts but whose log it recovers, and nothing is said of it
  pub aside_pays : (x : Said) (l : Key) (saves : Option ℕ) (fails : ℕ) → l ≡ record k { saves = saves } → IsAside i x → Pays script saids (x ∷ []) i k l fails
  aside_pays x l saves fails e aside =
      subst (λ l. Pays script saids (x ∷ []) i k l fails) (sym e)
      (record {
        answers = said_none (io_due k) (io_answers i (x ∷ [])) fails (io_one i x ∙ ap one_if (aside_io i x aside));
        deaths = said_none (death_due k) (unexplained_from script i saids (x ∷ [])) fails (unexplained_none script i saids x (aside_explained script i saids x aside));
        calls = calls_more k.phase k.failed (called script i saids) (called script i (saids ++ x ∷ [])) (called_more script i saids x aside) h;
      })

-- ---- a server that has changed and isn't doomed

pub quiet_pays : (script : List Line) (saids : List Said) (i : ℕ) (k l : Key) (fails : ℕ) → is_doomed l.phase ≡ false → io_due l ≤ io_due k + fails → death_due l ≤ death_due k + fails →
    Pays script saids [] i k l fails
quiet_pays script saids i k l fails awake answers deaths = record {
  answers = no_more (io_due l) (io_due k) fails answers;
  deaths = no_more (death_due l) (death_due k) fails deaths;
  calls = undoomed l.phase l.failed (called script i (saids ++ [])) awake;
}

pub said_pays : (script : List Line) (saids : List Said) (x : Said) (i : ℕ) (k l : Key) (fails : ℕ) → is_doomed l.phase ≡ false → io_due l + one_if (is_io_of i x) ≤ io_due k + fails →
    is_unexplained script i saids x ≡ false → death_due l ≤ death_due k + fails → Pays script saids (x ∷ []) i k l fails
said_pays script saids x i k l fails awake answers explained deaths = record {
  answers = subst (λ n. io_due l + n ≤ io_due k + fails) (sym (io_one i x)) answers;
  deaths = no_more_said (death_due l) (death_due k) (unexplained_from script i saids (x ∷ [])) fails (unexplained_none script i saids x explained) deaths;
  calls = undoomed l.phase l.failed (called script i (saids ++ x ∷ [])) awake;
}

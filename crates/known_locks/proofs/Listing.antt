-- What is listed of one element after the other is what is listed of all.
use Rattle.std.proofs.Common.{◌≡◌, ℕ, ◌+◌, ◌<◌, ◌≤◌, List, [], ◌∷◌, ◌++◌, length, drop, get_or, Option, Some, None, refl, sym, ap, ◌∙◌, append_assoc, add-one}
use Rattle.std.specs.List.{cons_option}
use Rattle.std.specs.Option.{option_map}
use Rattle.std.proofs.lemmas.List.{drop_more, drop_all, append-nil}
use Rattle.std.proofs.lemmas.List.Elements.{filter_map-append}
use Rattle.std.proofs.lemmas.List.Concat.{flat_map-cons}
use Rattle.std.proofs.lemmas.Grind.{flat_map-append}
use Rattle.ordered_map.specs.Chunks.{joined}
use Rattle.frang_base.specs.declared.lock.LockId.{LockId}
use Rattle.frang_base.specs.declared.lock.Mode.{Mode}
use Rattle.frang_base.specs.declared.sector.ServerId.{ServerId}
use Rattle.lock_definitions.specs.declared.claim.Claim.{Claim}
use Rattle.lock_definitions.specs.declared.claim.LogHold.{LogHold}
use Rattle.known_locks.specs.Listed.{held_in, wishes_of, wishes_in, log_by, logs_from}

-- what all list, and what one lists, where the first of all lists its own before that of the others
module _ {E A : Type 0} (all_of : List E → List A) (one_of : E → List A) (first : (e : E) (es : List E) → all_of (e ∷ es) ≡ one_of e ++ all_of es) where
  pub one_listed : (xs : List E) (i : ℕ) (entry : E) (before after all : List A) → i < length xs → entry ≡ get_or xs i entry → after ≡ before ++ one_of entry → before ++ all_of (drop i xs) ≡ all → after ++ all_of (drop (i + 1) xs) ≡ all
  one_listed xs i entry before after all inside at is so_far =
      let next : drop i xs ≡ entry ∷ drop (i + 1) xs = drop_more xs i entry inside ∙ ap (λ x. x ∷ drop (i + 1) xs) (sym at) in
      ap (λ list. list ++ all_of (drop (i + 1) xs)) is
      ∙ append_assoc before (one_of entry) (all_of (drop (i + 1) xs))
      ∙ ap (λ list. before ++ list) (sym (first entry (drop (i + 1) xs)))
      ∙ ap (λ rest. before ++ all_of rest) (sym next)
      ∙ so_far

pub all_listed : {E A : Type 0} (all_of : List E → List A) → all_of [] ≡ [] → (xs : List E) (i : ℕ) (list all : List A) → length xs ≤ i → list ++ all_of (drop i xs) ≡ all → list ≡ all
all_listed all_of none xs i list all past so_far =
    sym (append-nil list) ∙ ap (λ rest. list ++ rest) (sym none) ∙ ap (λ rest. list ++ all_of rest) (sym (drop_all i xs past)) ∙ so_far

-- ---- locks that are held

abbrev pub Entry : Type 0
Entry = LockId × Claim

pub held_first : (entry : Entry) (claims : List Entry) → held_in (entry ∷ claims) ≡ held_in (entry ∷ []) ++ held_in claims
held_first entry claims = filter_map-append (λ (e : Entry). option_map (λ mode. (e.0, mode)) e.1.held) (entry ∷ []) claims

-- the locks that are held in pieces that follow one another
abbrev pub held_pieces : List (List Entry) → List (LockId × Mode)
held_pieces pieces = held_in (joined pieces)

pub held_piece_first : (piece : List Entry) (pieces : List (List Entry)) → held_pieces (piece ∷ pieces) ≡ held_in piece ++ held_pieces pieces
held_piece_first piece pieces = filter_map-append (λ (e : Entry). option_map (λ mode. (e.0, mode)) e.1.held) piece (joined pieces)

-- ---- wishes

pub wishes_first : (entry : Entry) (claims : List Entry) → wishes_in (entry ∷ claims) ≡ wishes_of entry ++ wishes_in claims
wishes_first entry claims = flat_map-cons wishes_of entry claims

-- the wishes in pieces that follow one another
abbrev pub wishes_pieces : List (List Entry) → List (LockId × Mode)
wishes_pieces pieces = wishes_in (joined pieces)

pub wishes_piece_first : (piece : List Entry) (pieces : List (List Entry)) → wishes_pieces (piece ∷ pieces) ≡ wishes_in piece ++ wishes_pieces pieces
wishes_piece_first piece pieces = flat_map-append wishes_of piece (joined pieces)

-- ---- logs

pub log_listed : (party : ℕ) (holds : List (Option LogHold)) (dead : ℕ) (hold : Option LogHold) (before after all : List (ServerId × ℕ)) → dead < length holds → hold ≡ get_or holds dead hold → after ≡ before ++ cons_option (log_by party dead hold) []
    → before ++ logs_from party dead (drop dead holds) ≡ all → after ++ logs_from party (dead + 1) (drop (dead + 1) holds) ≡ all
log_listed party holds dead hold before after all inside at is so_far =
    let next : drop dead holds ≡ hold ∷ drop (dead + 1) holds = drop_more holds dead hold inside ∙ ap (λ x. x ∷ drop (dead + 1) holds) (sym at) in
    ap (λ list. list ++ logs_from party (dead + 1) (drop (dead + 1) holds)) is
    ∙ append_assoc before (cons_option (log_by party dead hold) []) (logs_from party (dead + 1) (drop (dead + 1) holds))
    ∙ ap (λ list. before ++ list) (one (log_by party dead hold) ∙ ap (λ n. cons_option (log_by party dead hold) (logs_from party n (drop (dead + 1) holds))) (add-one dead))
    ∙ ap (λ rest. before ++ logs_from party dead rest) (sym next)
    ∙ so_far
  where
    one : (o : Option (ServerId × ℕ)) → cons_option o [] ++ logs_from party (dead + 1) (drop (dead + 1) holds) ≡ cons_option o (logs_from party (dead + 1) (drop (dead + 1) holds))
    one None = refl
    one (Some log) = refl

pub logs_listed : (party : ℕ) (holds : List (Option LogHold)) (dead : ℕ) (list all : List (ServerId × ℕ)) → length holds ≤ dead → list ++ logs_from party dead (drop dead holds) ≡ all → list ≡ all
logs_listed party holds dead list all past so_far = sym (append-nil list) ∙ ap (λ rest. list ++ logs_from party dead rest) (sym (drop_all dead holds past)) ∙ so_far

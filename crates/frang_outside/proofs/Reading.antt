-- What a read to the end of at most so many bytes gave, and what is answered by it.
use Rattle.std.proofs.Common.{◌≡◌, ℕ, ◌<◌, ◌≤◌, List, length, take, Option, Some, None, sym, ◌∙◌, ap, arith}
use Rattle.std.specs.Prelude.{IfSome, OnOk, Result, Ok, Err, Vec}
use Rattle.std.specs.Option.{option_map}
use Rattle.std.specs.declared.alloc.Global.{Global}
use Rattle.std.specs.declared.io.Error.{Error}
use Rattle.std.proofs.lemmas.List.{take_all, length-take}
use Rattle.frang_outside.specs.declared.files.FileFault.{FileFault}
use Rattle.frang_outside.specs.declared.files.FileFault.TheVariants.{Failed, TooLong, NoMemory}
use Rattle.frang_outside.specs.DirFiles.{AnswersRead, ReadsWhole}

-- one that gave fewer has given all
all_given : (left : Option (List ℕ)) (most : ℕ) (bytes : List ℕ) → IfSome (option_map (take most) left) (λ xs. bytes ≡ xs) → length bytes < most → IfSome left (λ xs. xs ≡ bytes)
all_given None most bytes gave fewer = gave
all_given (Some xs) most bytes gave fewer =
    let all : length xs ≤ most = omega (arith, length-take most xs, ap length gave) in
    sym (take_all most xs all) ∙ sym gave

-- one that gave more than a limit had more
all_longer : (left : Option (List ℕ)) (most limit : ℕ) (bytes : List ℕ) → IfSome (option_map (take most) left) (λ xs. bytes ≡ xs) → limit < length bytes → IfSome left (λ xs. limit < length xs)
all_longer None most limit bytes gave long = gave
all_longer (Some xs) most limit bytes gave long = omega (arith, length-take most xs, ap length gave)

-- what is answered by how such a read went, with the bytes that it gave, is the whole, too long, or refused
pub reads_whole : (left : Option (List ℕ)) (most limit faults after : ℕ) (read : Result ℕ Error) (bytes : List ℕ) (answer : Result (Vec ℕ Global) FileFault)
    → OnOk read (IfSome (option_map (take most) left) (λ xs. bytes ≡ xs)) → (length bytes ≤ limit → length bytes < most) → AnswersRead read bytes limit faults after answer → ReadsWhole left limit faults after answer
reads_whole left most limit faults after (Ok n) bytes (Ok v) gave fewer is =
    (omega (arith, ap length is.0.0, is.0.1), held left (all_given left most bytes gave (fewer is.0.1)), is.1)
  where
    held : (o : Option (List ℕ)) → IfSome o (λ xs. xs ≡ bytes) → IfSome o (λ xs. xs ≡ v.items)
    held None h = h
    held (Some xs) h = h ∙ sym is.0.0
reads_whole left most limit faults after (Ok n) bytes (Err TooLong) gave fewer is = (all_longer left most limit bytes gave is.0, is.1)
reads_whole left most limit faults after (Ok n) bytes (Err Failed) gave fewer is = absurd is.0
reads_whole left most limit faults after (Ok n) bytes (Err NoMemory) gave fewer is = absurd is.0
reads_whole left most limit faults after (Err e) bytes (Ok v) gave fewer is = absurd is
reads_whole left most limit faults after (Err e) bytes (Err TooLong) gave fewer is = absurd is.0
reads_whole left most limit faults after (Err e) bytes (Err Failed) gave fewer is = is.1
reads_whole left most limit faults after (Err e) bytes (Err NoMemory) gave fewer is = is.1

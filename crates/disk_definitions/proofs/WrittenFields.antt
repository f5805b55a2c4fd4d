-- A block that is written field by field from its front: what stands before a place grows by what is written there.
use Rattle.std.proofs.Common.{◌≡◌, ℕ, zero, suc, ◌+◌, ◌≤◌, true, List, [], ◌++◌, length, take, drop, refl, sym, ap, ◌∙◌, append_assoc, arith, length-append, length-drop}
use Rattle.std.proofs.lemmas.List.{take_at, take_all, drop_all, append-nil, length-take-le, length-replicate}
use borrow.Rule.Slice.PartMut.{mid_of, post_of, put_mid, same_len_mid}
use Rattle.byteorder.specs.Endian.{little_number}
use Rattle.sector_bytes.specs.Bytes.{zeros, number_at, are_zero}

-- bytes that were put at a place behind what was done
pub wrote : (done xs ys bs : List ℕ) (a k n m : ℕ) → a ≤ length xs → take a xs ≡ done → ys ≡ bs ++ drop n (mid_of a k xs) → length bs ≡ n → m ≡ a + n → take m (put_mid a k xs ys) ≡ done ++ bs
wrote done xs ys bs a k n m h d e l i =
    let front : length (done ++ bs) ≡ m = length-append done bs ∙ omega (arith, ap length (sym d) ∙ length-take-le a xs h) in
    let whole : put_mid a k xs ys ≡ (done ++ bs) ++ (drop n (mid_of a k xs) ++ post_of a k xs) =
    rw (d, e, append_assoc bs (drop n (mid_of a k xs)) (post_of a k xs), append_assoc done bs (drop n (mid_of a k xs) ++ post_of a k xs)) refl in
    rw whole (take_at (done ++ bs) (drop n (mid_of a k xs) ++ post_of a k xs) m front)

-- the last bytes of a block
pub wrote_last : (done xs ys : List ℕ) (a k : ℕ) → take a xs ≡ done → length xs ≡ a + k → put_mid a k xs ys ≡ done ++ ys
wrote_last done xs ys a k d l =
    let rest : drop k (drop a xs) ≡ [] = drop_all k (drop a xs) (omega (arith, length-drop a xs)) in
    rw (d, rest, append-nil ys) refl

pub length_zeros : (n : ℕ) → length (zeros n) ≡ n
unfolding zeros
length_zeros n = length-replicate n 0

pub zeros_are_zero : (n : ℕ) → are_zero (zeros n) ≡ true
unfolding zeros
zeros_are_zero zero = refl
zeros_are_zero (suc n) = zeros_are_zero n

pub zero_version : number_at 8 0 (zeros 512) ≡ 0
unfolding zeros
zero_version = refl

-- so many bytes, which begin with what was done up to a place
pub record Front (len m : ℕ) (xs done : List ℕ) : Type 0 where
  pub whole : length xs ≡ len
  pub begins : take m xs ≡ done

-- the first bytes of a block
pub front_first : (len n k : ℕ) (xs ys bs : List ℕ) → length xs ≡ len → n + k ≡ len → ys ≡ bs → length bs ≡ n → Front len n (ys ++ post_of 0 n xs) bs
front_first len n k xs ys bs h s e l =
    record {
      whole = length-append ys (post_of 0 n xs) ∙ omega (arith, ap length e, length-drop n xs);
      begins = take_at ys (post_of 0 n xs) n (ap length e ∙ l) ∙ e;
    }

-- more bytes, behind what was done
pub front_more : (len a k n : ℕ) (xs ys bs done : List ℕ) → Front len a xs done → a + k ≡ len → length ys ≡ length (mid_of a k xs) → ys ≡ bs ++ drop n (mid_of a k xs) → length bs ≡ n → Front len (a + n) (put_mid a k xs ys) (done ++ bs)
front_more len a k n xs ys bs done f s m e l =
    record {
      whole = same_len_mid a k xs ys m ∙ f.whole;
      begins = wrote done xs ys bs a k n (a + n) (omega (arith, f.whole)) f.begins e l refl;
    }

-- the last bytes of a block
pub front_last : (len a k : ℕ) (xs ys bs done : List ℕ) → Front len a xs done → a + k ≡ len → ys ≡ bs → put_mid a k xs ys ≡ done ++ bs
front_last len a k xs ys bs done f s e = wrote_last done xs ys a k f.begins (f.whole ∙ sym s) ∙ ap (λ (z : List ℕ). done ++ z) e

-- zeros up to the end of a block
pub front_zeros : (len a k : ℕ) (xs ys done : List ℕ) → Front len a xs done → a + k ≡ len → ys ≡ zeros (length (mid_of a k xs)) → put_mid a k xs ys ≡ done ++ zeros k
front_zeros len a k xs ys done f s e =
    let l : length (mid_of a k xs) ≡ k = length-take-le k (drop a xs) (omega (arith, f.whole, length-drop a xs)) in
    front_last len a k xs ys (zeros k) done f s (e ∙ ap zeros l)

-- the rest of a block is what stands from a place on
pub rest_of : (a k : ℕ) (xs : List ℕ) → length xs ≡ a + k → mid_of a k xs ≡ drop a xs
rest_of a k xs h = take_all k (drop a xs) (omega (arith, length-drop a xs))

-- bytes that were put between two places, behind what was done
pub front_part : (len a k : ℕ) (xs ys bs done : List ℕ) → Front len a xs done → a + k ≤ len → length ys ≡ length (mid_of a k xs) → ys ≡ bs → Front len (a + k) (put_mid a k xs ys) (done ++ bs)
front_part len a k xs ys bs done f s m e =
    let l : length (mid_of a k xs) ≡ k = length-take-le k (drop a xs) (omega (arith, f.whole, length-drop a xs)) in
    let none : drop k (mid_of a k xs) ≡ [] = drop_all k (mid_of a k xs) (omega (arith, l)) in
    record {
      whole = same_len_mid a k xs ys m ∙ f.whole;
      begins = wrote done xs ys bs a k k (a + k) (omega (arith, f.whole)) f.begins (e ∙ sym (ap (λ (zs : List ℕ). bs ++ zs) none ∙ append-nil bs)) (sym (ap length e) ∙ m ∙ l) refl;
    }

-- zeros between two places, behind what was done
pub front_zero_part : (len a k : ℕ) (xs ys done : List ℕ) → Front len a xs done → a + k ≤ len → ys ≡ zeros (length (mid_of a k xs)) → Front len (a + k) (put_mid a k xs ys) (done ++ zeros k)
front_zero_part len a k xs ys done f s e =
    let l : length (mid_of a k xs) ≡ k = length-take-le k (drop a xs) (omega (arith, f.whole, length-drop a xs)) in
    front_part len a k xs ys (zeros k) done f s (ap length e ∙ length_zeros (length (mid_of a k xs))) (e ∙ ap zeros l)

-- a number at the beginning of a block
pub front_number : (len n : ℕ) (xs ys bs : List ℕ) → length xs ≡ len → n ≤ len → length ys ≡ length xs → ys ≡ bs ++ drop n xs → length bs ≡ n → Front len n ys bs
front_number len n xs ys bs h s m e l = record { whole = m ∙ h; begins = ap (take n) e ∙ take_at bs (drop n xs) n l }

-- what was done up to the end is all
pub front_all : (len : ℕ) (xs done : List ℕ) → Front len len xs done → xs ≡ done
front_all len xs done f = sym (take_all len xs (omega (arith, f.whole))) ∙ f.begins

-- a number that was read from the rest of a block stands at its place
pub read_at : (n a k x : ℕ) (xs : List ℕ) → length xs ≡ a + k → x ≡ little_number n (mid_of a k xs) → x ≡ number_at n a xs
read_at n a k x xs h e = e ∙ ap (little_number n) (rest_of a k xs h)

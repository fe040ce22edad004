-- The words of a line: the parts between blank bytes that have a byte are the words that are read one after the other.
use Rattle.std.proofs.Common.{◌≡◌, ℕ, zero, suc, ◌+◌, Bool, true, false, cond, eqb, ◌⊎◌, inl, inr, List, [], ◌∷◌, length, take, drop, refl, sym, ap, subst, ◌∙◌, arith}
use Rattle.std.specs.Prelude.{not, unwrap_or, filter, Option, None, Some}
use Rattle.std.specs.Option.{UnwrapsOrElse, option_map}
use Rattle.std.specs.Borrow.{Bor}
use Rattle.std.specs.List.{slice_split, onto_first, slice_get, prefix_len}
use Rattle.std.proofs.lemmas.Bool.Decides.{nat_tests}
use Rattle.std.proofs.lemmas.List.Splits.{slice_split-cons_yes, slice_split-cons_no}
use Rattle.arrivals.specs.Lines.{is_blank, skipped, word, after, nth_word}

abbrev pub has_byte : List ℕ → Bool
has_byte w = not (eqb (length w) 0)

-- the parts that have a byte
abbrev pub words : List ℕ → List (List ℕ)
words bs = filter has_byte (slice_split is_blank bs)

one_more : (n : ℕ) → 1 + n ≡ suc n
one_more n = omega arith

full : (b : ℕ) (bs : List ℕ) → has_byte (b ∷ bs) ≡ true
full b bs = grind (arith, nat_tests)

-- a blank byte in front adds no word, and is left out
blank_in_front : (b : ℕ) (bs : List ℕ) → is_blank b ≡ true → (words (b ∷ bs) ≡ words bs) × (skipped (b ∷ bs) ≡ skipped bs)
blank_in_front b bs e =
    let n : ℕ = prefix_len (λ x. not (not (is_blank x))) bs in
    (ap (filter has_byte) (slice_split-cons_yes is_blank b bs e), ap (λ x. drop (cond (not (not x)) (1 + n) 0) (b ∷ bs)) e ∙ ap (λ k. drop k (b ∷ bs)) (one_more n))

-- with any other byte in front a word begins
word_in_front : (b : ℕ) (bs : List ℕ) → is_blank b ≡ false → (skipped (b ∷ bs) ≡ b ∷ bs) × (word (b ∷ bs) ≡ b ∷ word bs) × (after (b ∷ bs) ≡ after bs)
word_in_front b bs e =
    let n : ℕ = prefix_len (λ x. not (not (is_blank x))) bs in
    let m : ℕ = prefix_len (λ x. not (is_blank x)) bs in (
      ap (λ x. drop (cond (not (not x)) (1 + n) 0) (b ∷ bs)) e,
      ap (λ x. take (cond (not x) (1 + m) 0) (b ∷ bs)) e ∙ ap (λ k. take k (b ∷ bs)) (one_more m),
      ap (λ x. drop (cond (not x) (1 + m) 0) (b ∷ bs)) e ∙ ap (λ k. drop k (b ∷ bs)) (one_more m),
    )

abbrev Parts : List ℕ → Type 0
Parts bs = (rest : List (List ℕ)) × (slice_split is_blank bs ≡ word bs ∷ rest) × (filter has_byte rest ≡ words (after bs))

part_more : (x : Bool) (b : ℕ) (bs : List ℕ) → is_blank b ≡ x → Parts bs → Parts (b ∷ bs)
part_more true b bs e h =
    let m : ℕ = prefix_len (λ x. not (is_blank x)) bs in
    let none : word (b ∷ bs) ≡ [] = ap (λ x. take (cond (not x) (1 + m) 0) (b ∷ bs)) e in
    let all : after (b ∷ bs) ≡ b ∷ bs = ap (λ x. drop (cond (not x) (1 + m) 0) (b ∷ bs)) e in
    (slice_split is_blank bs, slice_split-cons_yes is_blank b bs e ∙ ap (λ w. w ∷ slice_split is_blank bs) (sym none), sym (ap words all ∙ (blank_in_front b bs e).0))
part_more false b bs e h =
    let w = word_in_front b bs e in
    (h.0, slice_split-cons_no is_blank b bs e ∙ ap (onto_first b) h.1 ∙ ap (λ v. v ∷ h.0) (sym w.1), h.2 ∙ sym (ap words w.2))

-- the first part is the word in front, and the others are those of what follows it
parts : (bs : List ℕ) → Parts bs
parts [] = ([], refl, refl)
parts (b ∷ bs) = part_more (is_blank b) b bs refl (parts bs)

skip_more : (x : Bool) (b : ℕ) (bs : List ℕ) → is_blank b ≡ x → words bs ≡ words (skipped bs) → words (b ∷ bs) ≡ words (skipped (b ∷ bs))
skip_more true b bs e h = let s = blank_in_front b bs e in s.0 ∙ h ∙ ap words (sym s.1)
skip_more false b bs e h = ap words (sym (word_in_front b bs e).0)

-- the blank front has no word
same_words : (bs : List ℕ) → words bs ≡ words (skipped bs)
same_words [] = refl
same_words (b ∷ bs) = skip_more (is_blank b) b bs refl (same_words bs)

abbrev Begins : List ℕ → Type 0
Begins s = (s ≡ []) ⊎ (has_byte (word s) ≡ true)

begin_more : (x : Bool) (b : ℕ) (bs : List ℕ) → is_blank b ≡ x → Begins (skipped bs) → Begins (skipped (b ∷ bs))
begin_more true b bs e h = subst Begins (sym (blank_in_front b bs e).1) h
begin_more false b bs e h = let w = word_in_front b bs e in inr (ap (λ s. has_byte (word s)) w.0 ∙ ap has_byte w.1 ∙ full b (word bs))

-- behind the blank front nothing is left, or a word begins
begins : (bs : List ℕ) → Begins (skipped bs)
begins [] = inl refl
begins (b ∷ bs) = begin_more (is_blank b) b bs refl (begins bs)

first_word : (s : List ℕ) → has_byte (word s) ≡ true → words s ≡ word s ∷ words (after s)
first_word s t =
    let h = parts s in
    ap (filter has_byte) h.1 ∙ ap (λ x. cond x (word s ∷ filter has_byte h.0) (filter has_byte h.0)) t ∙ ap (λ ws. word s ∷ ws) h.2

nth_more : (bs : List ℕ) (i : ℕ) → Begins (skipped bs) → ((cs : List ℕ) → nth_word cs i ≡ unwrap_or (slice_get (words cs) i) []) → nth_word bs (suc i) ≡ unwrap_or (slice_get (words bs) (suc i)) []
unfolding nth_word
nth_more bs i (inl e) ih =
    ih (after (skipped bs)) ∙ ap (λ s. unwrap_or (slice_get (words (after s)) i) []) e ∙ sym (ap (λ ws. unwrap_or (slice_get ws (suc i)) []) (same_words bs ∙ ap words e))
nth_more bs i (inr t) ih =
    ih (after (skipped bs)) ∙ sym (ap (λ ws. unwrap_or (slice_get ws (suc i)) []) (same_words bs ∙ first_word (skipped bs) t))

nth_first : (bs : List ℕ) → Begins (skipped bs) → nth_word bs 0 ≡ unwrap_or (slice_get (words bs) 0) []
unfolding nth_word
nth_first bs (inl e) = ap word e ∙ sym (ap (λ ws. unwrap_or (slice_get ws 0) []) (same_words bs ∙ ap words e))
nth_first bs (inr t) = sym (ap (λ ws. unwrap_or (slice_get ws 0) []) (same_words bs ∙ first_word (skipped bs) t))

-- the word at a place is the part at that place
pub nth_is : (i : ℕ) (bs : List ℕ) → nth_word bs i ≡ unwrap_or (slice_get (words bs) i) []
nth_is zero bs = nth_first bs (begins bs)
nth_is (suc i) bs = nth_more bs i (begins bs) (nth_is i)

-- what `unwrap_or_default` gives at a text
pub text_or_empty : (r : Option (Bor (List ℕ))) (w : Option (List ℕ)) (d : Bor (List ℕ)) → UnwrapsOrElse r (λ x. x.now ≡ []) d → option_map (λ x. x.now) r ≡ w → d.now ≡ unwrap_or w []
text_or_empty None w d u e = u ∙ ap (λ o. unwrap_or o []) e
text_or_empty (Some x) w d u e = ap (λ y. y.now) u ∙ ap (λ o. unwrap_or o []) e

-- The words of a table, group by group: what a walk over its groups keeps.
use Rattle.std.proofs.Common.{◌≡◌, ℕ, ◌+◌, ◌-◌, ◌*◌, ◌/◌, ◌<◌, ◌≤◌, ◌==◌, nat_lt, Bool, true, false, cond, ◌&&◌, List, [], ◌∷◌, ◌++◌, length, take, drop, take_while, min, refl, sym, ◌∙◌, ap, ap₂, arith, add-zero, length-drop, length-append}
use Rattle.std.proofs.Math.Seq.{take-length}
use Rattle.std.proofs.lemmas.List.Folds.{length-prefix_len}
use Rattle.std.proofs.lemmas.List.Sums.{take_while-cons}
use Rattle.std.proofs.Math.Bool.{and_assoc}
use Rattle.std.proofs.Math.Nat.{mod-eq_of_lt, mul-add-mod_self_right}
use Rattle.std.proofs.lemmas.Nat.{div-mul-add}
use Rattle.std.proofs.lemmas.Bool.{ltb-true, lt-ltb, eqb-true}
use Rattle.std.specs.List.{list_all, enumerate_from}
use Rattle.expected.specs.Words.{part, word_at}
use Rattle.expected.specs.declared.layout.Entry.{Entry}

-- what is left after those at the front that pass
abbrev pub after : {X : Type 0} → (X → Bool) → List X → List X
after p xs = drop (length (take_while p xs)) xs

pub after_cons : {X : Type 0} (p : X → Bool) (x : X) (xs : List X) → after p (x ∷ xs) ≡ cond (p x) (after p xs) (x ∷ xs)
after_cons p x xs = rw take_while-cons (elim (p x) as (λ b. drop (length (cond b (x ∷ take_while p xs) [])) (x ∷ xs) ≡ cond b (after p xs) (x ∷ xs)) [ true ↦ refl | false ↦ refl ])

past_at : {X : Type 0} (p q : X → Bool) (x : X) (xs : List X) (b : Bool) → p x ≡ b → (p x ≡ true → q x ≡ true) → after q (after p xs) ≡ after q xs → after q (after p (x ∷ xs)) ≡ after q (x ∷ xs)
past_at p q x xs true e h ih =
    ap (after q) (after_cons p x xs ∙ ap (λ b. cond b (after p xs) (x ∷ xs)) e) ∙ ih ∙ sym (after_cons q x xs ∙ ap (λ b. cond b (after q xs) (x ∷ xs)) (h e))
past_at p q x xs false e h ih = ap (after q) (after_cons p x xs ∙ ap (λ b. cond b (after p xs) (x ∷ xs)) e)

-- where q passes all that p passes, it may begin after those that pass p
pub past : {X : Type 0} (p q : X → Bool) → ((x : X) → p x ≡ true → q x ≡ true) → (xs : List X) → after q (after p xs) ≡ after q xs
past p q h [] = refl
past p q h (x ∷ xs) = past_at p q x xs (p x) refl (h x) (past p q h xs)

-- as many elements as `take_while` gives are what it gives
pub take-take_while : {X : Type 0} (p : X → Bool) (xs : List X) → take (length (take_while p xs)) xs ≡ take_while p xs
take-take_while p xs = rw length-prefix_len refl

-- all that is left after n elements
pub take-drop_all : {X : Type 0} (n : ℕ) (xs : List X) → take (length xs - n) (drop n xs) ≡ drop n xs
take-drop_all n xs = ap (λ k. take k (drop n xs)) (sym (length-drop n xs)) ∙ take-length (drop n xs)

-- the entries that are cut off before group h's are of lower groups
pub lower_passes : (size g h : ℕ) → g < h → (e : Entry) → nat_lt (e.slot / size) g ≡ true → nat_lt (e.slot / size) h ≡ true
lower_passes size g h l e p = let q : e.slot / size < g = ltb-true _ _ p in lt-ltb _ _ (omega arith)

pub own_passes : (size g h : ℕ) → g < h → (e : Entry) → (e.slot / size == g) ≡ true → nat_lt (e.slot / size) h ≡ true
own_passes size g h l e p = let q : e.slot / size ≡ g = eqb-true _ _ p in lt-ltb _ _ (omega arith)

-- a test of each element with its place, of two lists in a row
pub list_all-enumerate_append : {X : Type 0} (P : ℕ × X → Bool) (n : ℕ) (xs ys : List X)
    → list_all P (enumerate_from n (xs ++ ys)) ≡ (list_all P (enumerate_from n xs) && list_all P (enumerate_from (n + length xs) ys))
list_all-enumerate_append P n [] ys = rw add-zero refl
list_all-enumerate_append P n (x ∷ xs) ys =
    let at : n + 1 + length xs ≡ n + length (x ∷ xs) = omega arith in
    ap (λ b. P (n, x) && b) (list_all-enumerate_append P (n + 1) xs ys)
    ∙ ap (λ k. P (n, x) && (list_all P (enumerate_from (n + 1) xs) && list_all P (enumerate_from k ys))) at
    ∙ sym (and_assoc (P (n, x)) (list_all P (enumerate_from (n + 1) xs)) (list_all P (enumerate_from (n + length (x ∷ xs)) ys)))

-- the word at a place of a block is that of its place in its group's block
pub word_in_block : (word : List Entry → ℕ → ℕ) (entries : List Entry) (size block g k : ℕ) → k < block → word_at word size block entries (g * block + k) ≡ word (part entries size g) k
word_in_block word entries size block g k h =
    ap₂ (λ a b. word (part entries size a) b) (div-mul-add g block k h) (mul-add-mod_self_right g block k ∙ mod-eq_of_lt h)

-- the words of one block, from a place on
pub block_words : (word : List Entry → ℕ → ℕ) (entries : List Entry) (size block g k : ℕ) (xs : List ℕ) → k + length xs ≤ block
    → list_all (λ p. word_at word size block entries p.0 == p.1) (enumerate_from (g * block + k) xs) ≡ list_all (λ p. word (part entries size g) p.0 == p.1) (enumerate_from k xs)
block_words word entries size block g k [] h = refl
block_words word entries size block g k (x ∷ xs) h =
    let at : g * block + (k + 1) ≡ g * block + k + 1 = omega arith in
    let here : k < block = omega arith in
    ap₂ (λ a b. (a == x) && b) (word_in_block word entries size block g k here)
    (ap (λ n. list_all (λ p. word_at word size block entries p.0 == p.1) (enumerate_from n xs)) (sym at) ∙ block_words word entries size block g (k + 1) xs (omega arith))

-- where words come after those of a block, the block is whole
next_block : (P : ℕ × ℕ → Bool) (block g : ℕ) (all here rest : List ℕ) → length all ≡ length here + length rest → length here ≡ min block (length all)
    → list_all P (enumerate_from (g * block + length here) rest) ≡ list_all P (enumerate_from ((g + 1) * block) rest)
next_block P block g all here [] t l = refl
next_block P block g all here (y ∷ ys) t l =
    let whole : length here ≡ block = omega arith in
    let at : g * block + length here ≡ (g + 1) * block = omega (arith, ap (λ n. g * block + n) whole) in
    ap (λ n. list_all P (enumerate_from n (y ∷ ys))) at

-- the words from a block on: those of the block, and those after it
pub block_step : (word : List Entry → ℕ → ℕ) (entries : List Entry) (size block g : ℕ) (all here rest : List ℕ) → all ≡ here ++ rest → length here ≡ min block (length all)
    → list_all (λ p. word_at word size block entries p.0 == p.1) (enumerate_from (g * block) all)
    ≡ (list_all (λ p. word (part entries size g) p.0 == p.1) (enumerate_from 0 here) && list_all (λ p. word_at word size block entries p.0 == p.1) (enumerate_from ((g + 1) * block) rest))
block_step word entries size block g all here rest e l =
    let t : length all ≡ length here + length rest = ap length e ∙ length-append here rest in
    let fits : 0 + length here ≤ block = omega arith in
    let begin : g * block ≡ g * block + 0 = omega arith in
    let P : ℕ × ℕ → Bool = λ p. word_at word size block entries p.0 == p.1 in
    ap (λ xs. list_all P (enumerate_from (g * block) xs)) e
    ∙ list_all-enumerate_append P (g * block) here rest
    ∙ ap₂ (λ a b. a && b)
    (ap (λ n. list_all P (enumerate_from n here)) begin ∙ block_words word entries size block g 0 here fits)
    (next_block P block g all here rest t l)

-- a walk over the groups: `others` are the entries from group n on, and are cut at group g, which is n
pub parts_left : (entries others left : List Entry) (size unit n m g : ℕ) → unit ≡ size → g ≡ n → m ≡ n + 1
    → ((h : ℕ) → n ≤ h → part others size h ≡ part entries size h) → ((h : ℕ) → g < h → part left unit h ≡ part others unit h)
    → (h : ℕ) → m ≤ h → part left size h ≡ part entries size h
parts_left entries others left size unit n m g e f k parts cut h l =
    ap (λ s. part left s h) (sym e) ∙ cut h (omega arith) ∙ ap (λ s. part others s h) e ∙ parts h (omega arith)

-- what the test of a group's block says of all words from it on
pub block_tells : (word : List Entry → ℕ → ℕ) (entries others own : List Entry) (size unit block piece n m g : ℕ) (all here rest : List ℕ) (r total : Bool)
    → unit ≡ size → piece ≡ block → g ≡ n → m ≡ n + 1 → ((h : ℕ) → n ≤ h → part others size h ≡ part entries size h) → own ≡ part others unit g
    → all ≡ here ++ rest → length here ≡ min piece (length all) → r ≡ list_all (λ p. word own p.0 == p.1) (enumerate_from 0 here)
    → list_all (λ p. word_at word size block entries p.0 == p.1) (enumerate_from (n * block) all) ≡ total
    → total ≡ (r && list_all (λ p. word_at word size block entries p.0 == p.1) (enumerate_from (m * block) rest))
block_tells word entries others own size unit block piece n m g all here rest r total e f k j parts o a l t w =
    let whose : own ≡ part entries size n = o ∙ ap₂ (λ s i. part others s i) e k ∙ parts n (omega arith) in
    let fits : length here ≡ min block (length all) = l ∙ ap (λ b. min b (length all)) f in
    sym w
    ∙ block_step word entries size block n all here rest a fits
    ∙ ap₂ (λ b i. b && list_all (λ p. word_at word size block entries p.0 == p.1) (enumerate_from (i * block) rest))
    (ap (λ es. list_all (λ p. word es p.0 == p.1) (enumerate_from 0 here)) (sym whose) ∙ sym t) (sym j)

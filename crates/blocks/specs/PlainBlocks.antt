-- A slot's entries and its block, one to one.
use Rattle.std.specs.Prelude.{◌≡◌, ℕ, suc, ◌+◌, ◌-◌, ◌^◌, ◌<◌, ◌≤◌, List, [], ◌∷◌, ◌++◌, map, length, get_or, take, drop, set, replicate, Ok, Err, slice_index, slice_index_or, slice_set, refl}
use Rattle.std.proofs.Common.{sym, ap₂, subst, ◌∙◌, add-one, pow_mono}
use Rattle.std.proofs.Math.Path.{ap}
use native.Mathlib.Omega.{arith}
use Rattle.std.proofs.lemmas.Nat.{mod-mul-add, div-mul-add, div-add-mod'}
use Rattle.std.proofs.lemmas.List.{length-append, length-map, length-replicate, length_push, length-take-le, take_at, set_at, map-append, append_assoc, take-append-drop, length-drop, get_or-take, get_or-drop, get_or-map}
use Rattle.std.proofs.lemmas.Bool.{lt-ltb, le-ltb}
use Rattle.table.specs.declared.refusal.TableRefusal.TheVariants.{OutOfRange}
use Rattle.table.specs.Meaning.{Good, picked, picked_at}
use Rattle.blocks.specs.PlainLayout.{word_of, entry_of, block_of, entries_of, Stored}

-- an entry that fits is what its word reads as
entry_word : (e : ℕ × ℕ) → e.0 < 2 ^ 32 → entry_of (word_of e) ≡ e
entry_word e h = ap₂ (λ x y. (x, y)) (mod-mul-add e.1 (2 ^ 32) e.0 h) (div-mul-add e.1 (2 ^ 32) e.0 h)

-- a word is the word of what it reads as
word_entry : (w : ℕ) → word_of (entry_of w) ≡ w
word_entry w = div-add-mod' w (2 ^ 32)

-- the same of many words
words_entries : (ws : List ℕ) → map word_of (map entry_of ws) ≡ ws
words_entries [] = refl
words_entries (w ∷ ws) = ap₂ (λ x y. x ∷ y) (word_entry w) (words_entries ws)

-- the same of many entries
entries_words : (es : List (ℕ × ℕ)) → ((i : ℕ) → i < length es → (get_or es i (0, 0)).0 < 2 ^ 32) → map entry_of (map word_of es) ≡ es
entries_words [] h = refl
entries_words (e ∷ es) h =
    let first : e.0 < 2 ^ 32 = h 0 (omega arith) in
    ap₂ (λ x y. x ∷ y) (entry_word e first) (entries_words es (λ i l. h (suc i) (omega arith)))

-- a block has 16 words
pub length_block : (es : List (ℕ × ℕ)) → length es ≤ 15 → length (block_of es) ≡ 16
unfolding block_of
length_block es h =
    omega (arith, length-append (map word_of es) (replicate {A = ℕ} (15 - length es) 0), length-map es word_of, length-replicate {A = ℕ} (15 - length es) 0)

-- a quotient fits half a word
narrow : (q v : ℕ) (es : List (ℕ × ℕ)) → q ≤ 32 → Good q v es → (i : ℕ) → i < length es → (get_or es i (0, 0)).0 < 2 ^ 32
narrow q v es w g i h = let p : 2 ^ q ≤ 2 ^ 32 = pow_mono w in omega (arith, g.quotients i h)

-- a well-formed list is what its block reads as
pub entries_block : (q v : ℕ) (es : List (ℕ × ℕ)) → q ≤ 32 → Good q v es → entries_of (block_of es) ≡ es
unfolding block_of entries_of
entries_block q v es w g =
    ap (map entry_of) (take_at (map word_of es) (replicate (15 - length es) 0) (length es) (length-map es word_of))
    ∙ entries_words es (narrow q v es w g)

-- one more entry, written after the last, and the count
pub block_push : (es : List (ℕ × ℕ)) (e : ℕ × ℕ) → length es < 15
    → slice_set (slice_set (block_of es) (length es + 1) (word_of e)) 0 (length es + 1) ≡ block_of (es ++ (e ∷ []))
unfolding block_of
block_push es e h =
    let n = length es in
    let ms = map word_of es in
    let r : 15 - n ≡ suc (15 - (n + 1)) = omega arith in
    let z : replicate {A = ℕ} (15 - n) 0 ≡ 0 ∷ replicate (15 - (n + 1)) 0 = ap (λ t. replicate {A = ℕ} t 0) r in
    let one : set (ms ++ replicate (15 - n) 0) n (word_of e) ≡ ms ++ (word_of e ∷ replicate (15 - (n + 1)) 0) =
    ap (λ t. set (ms ++ t) n (word_of e)) z ∙ set_at ms 0 (replicate (15 - (n + 1)) 0) (word_of e) n (length-map es word_of) in
    let long : length (es ++ (e ∷ [])) ≡ n + 1 = length_push es e in
    let two : map word_of (es ++ (e ∷ [])) ++ replicate (15 - (n + 1)) 0 ≡ ms ++ (word_of e ∷ replicate (15 - (n + 1)) 0) =
    ap (λ t. t ++ replicate (15 - (n + 1)) 0) (map-append word_of es (e ∷ [])) ∙ append_assoc ms (word_of e ∷ []) (replicate (15 - (n + 1)) 0) in
    let three : map word_of (es ++ (e ∷ [])) ++ replicate (15 - length (es ++ (e ∷ []))) 0 ≡ map word_of (es ++ (e ∷ [])) ++ replicate (15 - (n + 1)) 0 =
    ap (λ t. map word_of (es ++ (e ∷ [])) ++ replicate (15 - t) 0) long in
    ap (λ t. set (slice_set (n ∷ (ms ++ replicate (15 - n) 0)) t (word_of e)) 0 (n + 1)) (add-one n)
    ∙ ap₂ (λ u v. u ∷ v) (sym long) (one ∙ sym two ∙ sym three)

-- a block whose count is at most 15 and whose unused words are zero is the block of what it reads as
pub block_entries : (block : List ℕ) → length block ≡ 16 → slice_index block 0 ≤ 15
    → drop (slice_index block 0) (drop 1 block) ≡ replicate (15 - slice_index block 0) 0
    → block_of (entries_of block) ≡ block
unfolding block_of entries_of
block_entries [] l h z = absurd (omega arith)
block_entries (c ∷ ws) l h z =
    let le : c ≤ length ws = omega arith in
    let m : length (map entry_of (take c ws)) ≡ c = length-map (take c ws) entry_of ∙ length-take-le c ws le in
    ap₂ (λ u v. u ∷ v) m
    (ap₂ (λ u v. u ++ replicate (15 - v) 0) (words_entries (take c ws)) m
    ∙ ap (λ t. take c ws ++ t) (sym z) ∙ take-append-drop c ws)

-- the first word of a block is the count
pub block_count : (es : List (ℕ × ℕ)) → slice_index (block_of es) 0 ≡ length es
unfolding block_of
block_count es = refl

-- what a stored block's first word and length are
pub stored_count : (block : List ℕ) → Stored block → slice_index block 0 ≡ length (entries_of block)
stored_count block s = ap (λ t. slice_index t 0) s.exact ∙ block_count (entries_of block)

-- a stored block has 16 words
pub stored_length : (block : List ℕ) → Stored block → length block ≡ 16
stored_length block s = ap length s.exact ∙ length_block (entries_of block) s.few

-- the block of a good slot of at most 15 entries
pub stored_good : (q v : ℕ) (es : List (ℕ × ℕ)) → q ≤ 32 → Good q v es → length es ≤ 15 → Stored (block_of es)
stored_good q v es w g few =
    let e = entries_block q v es w g in
    record { few = subst (λ t. length t ≤ 15) (sym e) few; exact = ap block_of (sym e) }

-- the words of the entries that a stored block holds
pub stored_words : (block : List ℕ) → Stored block → length (take (slice_index block 0) (drop 1 block)) ≡ slice_index block 0
stored_words block st =
    let n = stored_count block st in
    let long = stored_length block st in
    let few = st.few in
    let le : get_or block 0 0 ≤ length (drop 1 block) = omega (arith, length-drop 1 block) in
    length-take-le (slice_index block 0) (drop 1 block) le

module _ (block : List ℕ) (st : Stored block) (i : ℕ) where
  -- a place past the entries
  pub pick_past : get_or block 0 0 ≤ i → Err OutOfRange ≡ picked (entries_of block) i
  pick_past h = ap (picked_at (entries_of block) i) (sym (le-ltb i (length (entries_of block)) (omega (arith, stored_count block st))))

  -- the entry at a place stands in the word after it
  pub entry_at : i < slice_index block 0 → slice_index_or (entries_of block) i (0, 0) ≡ entry_of (slice_index block (i + 1))
  unfolding entries_of
  entry_at h =
      let c = get_or block 0 0 in
      let il : i < length (take c (drop 1 block)) = omega (arith, stored_words block st) in
      let one : 1 + i ≡ i + 1 = omega arith in
      let w : get_or (take c (drop 1 block)) i 0 ≡ get_or block (i + 1) 0 = get_or-take c (drop 1 block) i 0 h ∙ get_or-drop 1 block i 0 ∙ ap (λ t. slice_index block t) one in
      get_or-map entry_of (take c (drop 1 block)) i 0 (0, 0) il ∙ ap entry_of w

  -- a place among the entries
  pub pick_at : i < slice_index block 0 → Ok (entry_of (slice_index block (i + 1))) ≡ picked (entries_of block) i
  pick_at h =
      ap Ok (sym (entry_at h)) ∙ ap (picked_at (entries_of block) i) (sym (lt-ltb i (length (entries_of block)) (omega (arith, stored_count block st))))

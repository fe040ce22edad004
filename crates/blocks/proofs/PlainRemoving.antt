-- Taking an entry out of a block.
use Rattle.std.proofs.Common.{◌≡◌, ℕ, suc, ◌+◌, ◌-◌, ◌/◌, ◌^◌, ◌<◌, ◌≤◌, List, [], ◌∷◌, ◌++◌, map, length, get_or, take, drop, set, replicate, sym, refl, ap, ◌∙◌, ap₂, add-one, arith}
use borrow.Rule.Slice.PartMut.{put_mid}
use Rattle.std.specs.List.{remove}
use Rattle.std.proofs.lemmas.List.Edits.{length-remove}
use Rattle.std.proofs.lemmas.List.{append_assoc, map-append, take-map, drop-map, length-map, length-append, length-take-le, length-drop, take-append-drop, drop_more, take_at, drop_at, set_at}
use Rattle.blocks.specs.PlainLayout.{block_of, entries_of, word_of, Stored}
use Rattle.blocks.specs.PlainBlocks.{stored_count, entry_at}

-- the words moved down by one over the first, the last made zero
pub closed : (p last : List ℕ) → 0 < length p → last ≡ drop 1 p ++ take 1 p → set last (length last - 1) 0 ≡ drop 1 p ++ (0 ∷ [])
closed [] last h e = absurd (omega arith)
closed (x ∷ p) last h e =
    let n : length last - 1 ≡ length p = let m = ap length e ∙ length-append p (x ∷ []) in omega arith in
    ap₂ (λ t u. set t u 0) e n ∙ set_at p x [] 0 (length p) refl

-- a middle part read, and replaced
module _ (P Q z : List ℕ) (j m : ℕ) (pj : length P ≡ j) (qm : length Q ≡ m) where
  mid : take m (drop j (P ++ (Q ++ z))) ≡ Q
  mid = ap (take m) (drop_at P (Q ++ z) j pj) ∙ take_at Q z m qm

  middle_put : (ys : List ℕ) → put_mid j m (P ++ (Q ++ z)) ys ≡ P ++ (ys ++ z)
  middle_put ys = ap₂ (λ u v. u ++ (ys ++ v)) (take_at P (Q ++ z) j pj) (ap (drop m) (drop_at P (Q ++ z) j pj) ∙ drop_at Q z m qm)

module _ (block : List ℕ) (st : Stored block) (i : ℕ) (h : i < get_or block 0 0) where
  es : List (ℕ × ℕ)
  es = entries_of block

  inside : i < length (entries_of block)
  inside = omega (arith, stored_count block st)

  -- the value that is taken out
  pub out_value : get_or block (i + 1) 0 / 2 ^ 32 ≡ (get_or (entries_of block) i (0, 0)).1
  out_value = sym (ap (λ t. t.1) (entry_at block st i h))

  -- the words behind moved down by one, and the count lowered
  pub out_block : (part : List ℕ) → part ≡ drop 1 (take ((get_or block 0 0 + 1) - (i + 1)) (drop (i + 1) block)) ++ (0 ∷ [])
      → set (put_mid (i + 1) ((get_or block 0 0 + 1) - (i + 1)) block part) 0 (get_or block 0 0 - 1) ≡ block_of (remove (entries_of block) i)
  unfolding block_of es
  out_block part made =
      let n = length es in
      let c = stored_count block st in
      let few = st.few in
      let ms = map word_of es in
      let A = take i ms in
      let x = get_or ms i 0 in
      let B = drop (i + 1) ms in
      let z = replicate {A = ℕ} (15 - n) 0 in
      let ml : length ms ≡ n = length-map es word_of in
      let im : i < length ms = omega (arith, inside) in
      let le : i ≤ length ms = omega arith in
      let split : ms ≡ A ++ (x ∷ B) = sym (take-append-drop i ms) ∙ ap (λ t. A ++ t) (drop_more ms i 0 im) in
      let P = n ∷ A in
      let Q = x ∷ B in
      let whole : block ≡ P ++ (Q ++ z) = st.exact ∙ ap (λ t. n ∷ (t ++ z)) split ∙ ap (λ t. n ∷ t) (append_assoc A Q z) in
      let m = (get_or block 0 0 + 1) - (i + 1) in
      let pj : length P ≡ i + 1 = let t = length-take-le i ms le in omega arith in
      let qm : length Q ≡ m = let t = length-drop (i + 1) ms in omega (arith, inside) in
      let p : part ≡ B ++ (0 ∷ []) = made ∙ ap (λ t. drop 1 (take m (drop (i + 1) t)) ++ (0 ∷ [])) whole ∙ ap (λ t. drop 1 t ++ (0 ∷ [])) (mid P Q z (i + 1) m pj qm) in
      let after : put_mid (i + 1) m block part ≡ P ++ ((B ++ (0 ∷ [])) ++ z) =
      ap₂ (λ u w. put_mid (i + 1) m u w) whole p ∙ middle_put P Q z (i + 1) m pj qm (B ++ (0 ∷ [])) in
      let r = remove es i in
      let rl : length r + 1 ≡ n = length-remove es i inside in
      let head : get_or block 0 0 - 1 ≡ length r = omega (arith, inside) in
      let zeros : 0 ∷ z ≡ replicate (15 - length r) 0 = let e : suc (15 - n) ≡ 15 - length r = omega arith in ap (λ t. replicate {A = ℕ} t 0) e in
      let words : map word_of r ≡ A ++ B =
      map-append word_of (take i es) (drop (suc i) es)
      ∙ ap₂ (λ u w. u ++ w) (sym (take-map word_of i es)) (sym (drop-map word_of (suc i) es) ∙ ap (λ t. drop t ms) (sym (add-one i))) in
      let tail : A ++ ((B ++ (0 ∷ [])) ++ z) ≡ map word_of r ++ replicate (15 - length r) 0 =
      ap (λ t. A ++ t) (append_assoc B (0 ∷ []) z) ∙ sym (append_assoc A B (0 ∷ z)) ∙ ap₂ (λ u w. u ++ w) (sym words) zeros in
      ap (λ t. set t 0 (get_or block 0 0 - 1)) after ∙ ap₂ (λ u w. u ∷ w) head tail

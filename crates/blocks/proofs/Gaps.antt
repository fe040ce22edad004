-- A block whose two areas were changed one after the other, each as a part of it.
use Rattle.std.proofs.Common.{◌≡◌, ℕ, ◌+◌, ◌-◌, ◌≤◌, List, [], ◌++◌, length, take, drop, sym, ap, ◌∙◌, ap₂, arith}
use borrow.Rule.Slice.PartMut.{put_mid}
use Rattle.std.proofs.lemmas.List.{append_assoc, append-nil, length-append, take_at, drop_at}
use Rattle.bits.specs.Area.{number, words_of, wide}
use Rattle.bits.proofs.Numbers.{length_words}
use Rattle.bits.proofs.Lists.{wide_is}
use Rattle.blocks.specs.PackedLayout.{room, width, quotient_area, value_area, with_areas}
use Rattle.blocks.specs.Areas.{Parts, parts_of, block_parts}

-- a middle part read, and replaced
module _ (P Q V : List ℕ) (j m : ℕ) (pj : length P ≡ j) (qm : length Q ≡ m) where
  mid : take m (drop j (P ++ (Q ++ V))) ≡ Q
  mid = ap (take m) (drop_at P (Q ++ V) j pj) ∙ take_at Q V m qm

  middle_put : (ys : List ℕ) → put_mid j m (P ++ (Q ++ V)) ys ≡ P ++ (ys ++ V)
  middle_put ys = ap₂ (λ u v. u ++ (ys ++ v)) (take_at P (Q ++ V) j pj) (ap (drop m) (drop_at P (Q ++ V) j pj) ∙ drop_at Q V m qm)

module _ (k v b : ℕ) (block : List ℕ) (long : length block ≡ width 1 k v b) (qw : k - b ≤ 32) (vw : v ≤ 32) (middle : ℕ) (at : middle ≡ 1 + room 1 (k - b)) where
  -- the quotients changed by F
  module _ (F : ℕ → ℕ → ℕ) (xs : List ℕ) (first : xs ≡ words_of (length (take (middle - 1) (drop 1 block))) (F (wide (k - b)) (number (take (middle - 1) (drop 1 block))))) where
    P : List ℕ
    P = take 1 block

    Q : List ℕ
    Q = quotient_area 1 k b block

    V : List ℕ
    V = value_area 1 k b block

    parts : Parts k v b block
    parts = parts_of k v b block long

    m_is : middle - 1 ≡ room 1 (k - b)
    m_is = omega (arith, at)

    q_part : take (middle - 1) (drop 1 block) ≡ Q
    unfolding Q
    q_part = ap (λ t. take t (drop 1 block)) m_is

    xs_is : xs ≡ words_of (room 1 (k - b)) (F (k - b) (number Q))
    unfolding Q
    xs_is =
        let w64 : k - b ≤ 64 = omega arith in
        first ∙ ap (λ t. words_of (length t) (F (wide (k - b)) (number t))) q_part ∙ ap (λ t. words_of t (F (wide (k - b)) (number Q))) parts.quotients
        ∙ ap (λ t. words_of (room 1 (k - b)) (F t (number Q))) (wide_is (k - b) w64)

    xs_long : length xs ≡ room 1 (k - b)
    xs_long = ap length xs_is ∙ length_words (room 1 (k - b)) (F (k - b) (number Q))

    -- the block after the first change
    once : put_mid 1 (middle - 1) block xs ≡ P ++ (xs ++ V)
    unfolding P Q V
    once = ap (λ t. put_mid 1 (middle - 1) t xs) (block_parts k v b block) ∙ middle_put P Q V 1 (middle - 1) parts.one (parts.quotients ∙ sym m_is) xs

    once_long : length (put_mid 1 (middle - 1) block xs) - middle ≡ length V
    unfolding P
    once_long = ap (λ t. length t - middle) once ∙ omega (arith, length-append P (xs ++ V), length-append xs V, xs_long, parts.one, at)

    front_long : length (P ++ xs) ≡ middle
    unfolding P
    front_long = omega (arith, length-append P xs, xs_long, parts.one, at)

    -- the values, still as they were, changed by H
    module _ (H : ℕ → ℕ → ℕ) (ys : List ℕ)
        (second : ys ≡ words_of (length (take (length (put_mid 1 (middle - 1) block xs) - middle) (drop middle (put_mid 1 (middle - 1) block xs))))
        (H (wide v) (number (take (length (put_mid 1 (middle - 1) block xs) - middle) (drop middle (put_mid 1 (middle - 1) block xs)))))) where
      n : ℕ
      n = length (put_mid 1 (middle - 1) block xs) - middle

      once_split : put_mid 1 (middle - 1) block xs ≡ (P ++ xs) ++ (V ++ [])
      once_split = once ∙ sym (ap (λ t. (P ++ xs) ++ t) (append-nil V) ∙ append_assoc P xs V)

      v_part : take n (drop middle (put_mid 1 (middle - 1) block xs)) ≡ V
      unfolding n
      v_part = ap (λ t. take n (drop middle t)) once_split ∙ mid (P ++ xs) V [] middle n front_long (sym once_long)

      ys_is : ys ≡ words_of (room 1 v) (H v (number V))
      unfolding n V
      ys_is =
          let v64 : v ≤ 64 = omega arith in
          second ∙ ap (λ t. words_of (length t) (H (wide v) (number t))) v_part ∙ ap (λ t. words_of t (H (wide v) (number V))) parts.values
          ∙ ap (λ t. words_of (room 1 v) (H t (number V))) (wide_is v v64)

      -- the block after both
      pub both_areas : put_mid middle (length (put_mid 1 (middle - 1) block xs) - middle) (put_mid 1 (middle - 1) block xs) ys
          ≡ with_areas k v b block (F (k - b) (number (quotient_area 1 k b block))) (H v (number (value_area 1 k b block)))
      unfolding n P Q V
      both_areas =
          ap (λ t. put_mid middle n t ys) once_split ∙ middle_put (P ++ xs) V [] middle n front_long (sym once_long) ys
          ∙ ap (λ t. (P ++ xs) ++ t) (append-nil ys) ∙ append_assoc P xs ys
          ∙ ap₂ (λ t u. take 1 block ++ (t ++ u)) xs_is ys_is

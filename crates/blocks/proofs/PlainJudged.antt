-- What the tests of entries and blocks decide.
use Rattle.std.proofs.Common.{◌≡◌, ℕ, zero, suc, add-one, ◌+◌, ◌-◌, ◌/◌, ◌%◌, ◌^◌, ◌<◌, ◌≤◌, Bool, true, false, List, [], ◌∷◌, ◌++◌, map, length, get_or, take, drop, replicate, Some, None, Option, not, Decides, sym, ap, ◌∙◌, subst, ap₂, arith}
use Rattle.std.specs.Bool.{MatchBool}
use Rattle.std.specs.Option.{is_some}
use Rattle.table.specs.Places.{Placed}
use Rattle.std.specs.List.{enumerate_from, AllWithin, HoldsAt}
use Rattle.std.proofs.lemmas.List.FromFn.{get_or-enumerate_from, length-enumerate_from}
use Rattle.std.proofs.lemmas.Bool.{le-leb}
use Rattle.std.proofs.lemmas.List.{get_or-map, map_more, length-map, length-take-le, take_all, get_or-take, take-map, drop_at, drop-drop, length-drop}
use Rattle.table.specs.Meaning.{Good, value_in}
use Rattle.table.specs.Checking.{Given}
use Rattle.table.proofs.Slots.{good_empty, good_push, first_value, none_from}
use Rattle.table.proofs.Decided.{refuted, shown}
use Rattle.blocks.specs.PlainLayout.{block_of, entries_of, entry_of, word_of, plain}
use Rattle.blocks.specs.PlainBlocks.{block_entries, block_count, entries_block}
use Rattle.blocks.specs.PlainLaws.{slot_good, slot_few, group_from}

-- a search that comes to nothing, where the numbers are in range
pub none_decides : (P Q : Type 0) → P → Q → (es : List (ℕ × ℕ)) (q : ℕ) (o : Option ℕ) (r : Bool) → is_some o ≡ not r → Placed es q o → Decides r (P × Q × (value_in es q ≡ None))
none_decides P Q a b es q None true e p = shown _ (a, b, p)
none_decides P Q a b es q None false e p = let z : ◌≡◌ {A = ℕ} 0 1 = cc (e) in absurd (omega arith)
none_decides P Q a b es q (Some i) true e p = let z : ◌≡◌ {A = ℕ} 0 1 = cc (e) in absurd (omega arith)
none_decides P Q a b es q (Some i) false e p = refuted _ (λ t. let s = first_value es q i p in let n = t.2 in let z : ◌≡◌ {A = ℕ} 0 1 = cc (s, n) in omega arith)

-- the entries of words, one by one
module _ (xs : List ℕ) (q v : ℕ) where
  at_is : (i : ℕ) → i < length xs → get_or (map entry_of xs) i (0, 0) ≡ entry_of (get_or xs i 0)
  at_is i h = get_or-map entry_of xs i 0 (0, 0) h

  long_is : length (map entry_of xs) ≡ length xs
  long_is = length-map xs entry_of

  -- none yet
  pub good_none : Good q v (map entry_of (take 0 xs))
  good_none = good_empty q v

  -- one more
  pub good_more : (i : ℕ) → i < length xs → Good q v (map entry_of (take i xs)) → get_or xs i 0 % 2 ^ 32 < 2 ^ q → get_or xs i 0 / 2 ^ 32 < 2 ^ v
      → value_in (map entry_of (take i xs)) (get_or xs i 0 % 2 ^ 32) ≡ None → Good q v (map entry_of (take (i + 1) xs))
  good_more i h g a b e =
      subst (Good q v) (sym (map_more entry_of xs i 0 h))
      (good_push q v (map entry_of (take i xs)) g (get_or xs i 0 % 2 ^ 32) (get_or xs i 0 / 2 ^ 32) a b e)

  -- a place whose entry is in range and apart from those before it
  abbrev pub Fine : (i w : ℕ) → Type 0
  Fine i w = (w % 2 ^ 32 < 2 ^ q) × (w / 2 ^ 32 < 2 ^ v) × (value_in (map entry_of (take i xs)) (w % 2 ^ 32) ≡ None)

  good_up : ((i : ℕ) → i < length xs → Fine i (get_or xs i 0)) → (n : ℕ) → n ≤ length xs → Good q v (map entry_of (take n xs))
  good_up f zero h = good_none
  good_up f (suc n) h =
      let l : n < length xs = omega arith in
      let p = f n l in
      subst (λ t. Good q v (map entry_of (take t xs))) (add-one n) (good_more n l (good_up f n (omega arith)) p.0 p.1 p.2)

  -- what a good list says of a place
  fine_at : Good q v (map entry_of xs) → (i : ℕ) → i < length xs → Fine i (get_or xs i 0)
  fine_at g i h =
      let at = at_is i h in
      let m : i < length (map entry_of xs) = omega (arith, long_is) in
      let le : i ≤ length xs = omega arith in
      let n : length (map entry_of (take i xs)) ≡ i = length-map (take i xs) entry_of ∙ length-take-le i xs le in (
        subst (λ t. t.0 < 2 ^ q) at (g.quotients i m),
        subst (λ t. t.1 < 2 ^ v) at (g.values i m),
        none_from (map entry_of (take i xs)) (get_or xs i 0 % 2 ^ 32) (λ j l e.
            let jl : j < i = omega (arith, n) in
            let same : get_or (map entry_of (take i xs)) j (0, 0) ≡ get_or (map entry_of xs) j (0, 0) =
            ap (λ t. get_or t j (0, 0)) (sym (take-map entry_of i xs)) ∙ get_or-take i (map entry_of xs) j (0, 0) jl in
            g.apart j i jl m (ap (λ t. t.0) (sym same) ∙ e ∙ sym (ap (λ t. t.0) at))),
      )

  -- what a test of every place decides
  pub good_decided : (r : Bool)
      → MatchBool r (AllWithin (λ x. Fine x.0 x.1) (enumerate_from 0 xs) 0 (length (enumerate_from 0 xs))) ((i : ℕ) × (i < length (enumerate_from 0 xs)) × HoldsAt (λ x. Fine x.0 x.1 → ⊥) (enumerate_from 0 xs) i)
      → Decides r (Good q v (map entry_of xs))
  good_decided true m =
      let f : (i : ℕ) → i < length xs → Fine i (get_or xs i 0) = λ i h.
      let at : get_or (enumerate_from 0 xs) i (0, 0) ≡ (i, get_or xs i 0) = get_or-enumerate_from 0 xs i (0, 0) h ∙ ap (λ t. (t, get_or xs i 0)) (omega arith) in
      subst (λ x. Fine x.0 x.1) at (m i (0, 0) (omega arith) (omega (arith, length-enumerate_from 0 xs))) in
      shown _ (subst (λ t. Good q v (map entry_of t)) (take_all (length xs) xs (omega arith)) (good_up f (length xs) (omega arith)))
  good_decided false m =
      let i = m.0 in
      let h : i < length xs = omega (arith, length-enumerate_from 0 xs, m.1) in
      let at : get_or (enumerate_from 0 xs) i (0, 0) ≡ (i, get_or xs i 0) = get_or-enumerate_from 0 xs i (0, 0) h ∙ ap (λ t. (t, get_or xs i 0)) (omega arith) in
      refuted _ (λ g. m.2 (0, 0) (subst (λ x. Fine x.0 x.1) (sym at) (fine_at g i h)))

-- the words past the entries of a made block
unused_block : (es : List (ℕ × ℕ)) → drop (1 + length es) (block_of es) ≡ replicate (15 - length es) 0
unfolding block_of
unused_block es =
    sym (drop-drop (length es) 1 (length es ∷ (map word_of es ++ replicate (15 - length es) 0)))
    ∙ drop_at (map word_of es) (replicate (15 - length es) 0) (length es) (length-map es word_of)

module _ (block : List ℕ) (long : length block ≡ 16) (k v b : ℕ) (narrow : k - b ≤ 32) where
  count_given : (g : Given plain k v b block) → get_or block 0 0 ≡ length (get_or g.slots 0 [])
  count_given g = ap (λ t. get_or t 0 0) g.made ∙ block_count (get_or g.slots 0 [])

  -- a count above 15
  pub many : 15 < get_or block 0 0 → Decides false (Given plain k v b block)
  many h = refuted _ (λ g. let c = count_given g in let f = slot_few (k - b) v g.slots g.good in omega arith)

  module _ (few : get_or block 0 0 ≤ 15) (rest : List ℕ) (is : rest ≡ drop (1 + get_or block 0 0) block) where
    rest_long : length rest ≡ 15 - get_or block 0 0
    rest_long = ap length is ∙ length-drop (1 + get_or block 0 0) block ∙ omega arith

    -- an unused word that is not zero
    pub dirty : (r : Bool) → r ≡ false → Decides r (rest ≡ replicate (length rest) 0) → Decides false (Given plain k v b block)
    dirty r off d = refuted _ (λ g.
        let c = count_given g in
        let es = get_or g.slots 0 [] in
        let z : rest ≡ replicate (length rest) 0 =
        is ∙ ap₂ (λ t u. drop (1 + t) u) c g.made ∙ unused_block es
        ∙ ap (λ t. replicate (15 - t) 0) (sym c) ∙ ap (λ t. replicate t 0) (sym rest_long) in
        let t : r ≡ true = d.1 z in
        let w : ◌≡◌ {A = ℕ} 0 1 = cc (t, off) in omega arith)

    -- a count of at most 15 and zeros after the entries: the entries decide
    pub clean : (s : Bool) → s ≡ true → Decides s (rest ≡ replicate (length rest) 0)
        → (part : List ℕ) → part ≡ take (get_or block 0 0) (drop 1 block)
        → (r : Bool) → Decides r (Good (k - b) v (map entry_of part)) → Decides r (Given plain k v b block)
    unfolding entries_of
    clean s on ds part p r d =
        let n = get_or block 0 0 in
        let z : drop n (drop 1 block) ≡ replicate (15 - n) 0 =
        drop-drop n 1 block ∙ sym is ∙ ds.0 on ∙ ap (λ t. replicate t 0) rest_long in
        let le : n ≤ length (drop 1 block) = omega (arith, length-drop 1 block) in
        let el : length (entries_of block) ≡ n = length-map (take n (drop 1 block)) entry_of ∙ length-take-le n (drop 1 block) le in
        let pe : map entry_of part ≡ entries_of block = ap (map entry_of) p in (
          (λ e. record {
            slots = entries_of block ∷ [];
            good = group_from (k - b) v (entries_of block) (subst (Good (k - b) v) pe (d.0 e)) (le-leb (length (entries_of block)) 15 (omega arith));
            made = sym (block_entries block long few z);
          }),
          (λ g.
              let es = get_or g.slots 0 [] in
              let good = slot_good (k - b) v g.slots g.good in
              let back : entries_of block ≡ es = ap entries_of g.made ∙ entries_block (k - b) v es narrow good in
              d.1 (subst (Good (k - b) v) (sym (pe ∙ back)) good)),
        )

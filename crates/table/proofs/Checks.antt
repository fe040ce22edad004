-- Words that are those of a content, from their blocks and back; what the scan for the first wrong block comes to.
use Rattle.std.proofs.Common.{◌≡◌, ℕ, ◌-◌, ◌*◌, ◌<◌, Bool, true, false, List, [], ◌++◌, map, length, get_or, drop, replicate, Ok, Err, Decides, Result, sym, refl, ap, ◌∙◌, subst, inr, ⊎_elim, arith}
use Rattle.std.specs.List.{range_with_len, flat_map}
use Rattle.std.proofs.lemmas.List.{length-drop}
use Rattle.std.proofs.lemmas.List.FromFn.{get_or-map-range_with_len, length-map-range_with_len}
use Rattle.std.proofs.lemmas.Bool.Decides.{not_from_Decides}
use Rattle.table.specs.declared.check_refusal.CheckRefusal.{CheckRefusal}
use Rattle.table.specs.declared.check_refusal.CheckRefusal.TheVariants.{DoesNotFit, WrongBlock}
use Rattle.table.specs.Meaning.{formed, WellFormed}
use Rattle.table.specs.Layout.{Layout, group_at, GoodGroup, part, words_of, content}
use Rattle.table.specs.Lawful.{Lawful}
use Rattle.table.specs.Checking.{Given, Holds, Wrong, Checked}
use Rattle.table.proofs.Blocks.{words_read}
use Rattle.table.proofs.Groups.{getD_groups, groups_well, groups_joined, even_groups}
use Rattle.table.proofs.Standing.{fine, block_words, tail_words, content_words}

module _ (L : Layout) (law : Lawful L) (ws : List ℕ) (k v b : ℕ) where
  -- every block of a content's words is given
  pub holds_given : Holds L ws k v b → (i : ℕ) → i < L.count b → Given L k v b (part (L.width k v b) i ws)
  holds_given h i l = record {
    slots = group_at L.S h.slots i;
    good = subst (GoodGroup L.S L.C (k - b) v) (getD_groups [] L.S (L.count b) law.pos h.slots i l) (fine L law (length ws) k v b h.slots h.well i l);
    made = ap (part (L.width k v b) i) h.made ∙ block_words L law (length ws) k v b h.slots h.well i l;
  }

  -- and every later word is zero
  pub holds_tail : Holds L ws k v b → drop (L.count b * L.width k v b) ws ≡ replicate (length ws - L.count b * L.width k v b) 0
  holds_tail h = ap (drop (L.count b * L.width k v b)) h.made ∙ tail_words L law (length ws) k v b h.slots h.well

  -- words with a wrong block are no content's
  pub not_wrong : (g : ℕ) → Wrong L ws k v b g → Holds L ws k v b → ⊥
  not_wrong g w h = ⊎_elim (λ p. p.1 (holds_given h g p.0)) (λ p. p.1 (holds_tail h)) w.here

  -- a check that answers rightly passes what holds
  pub passes : (r : Result (Unit {0}) CheckRefusal) → Checked L ws k v b r → Holds L ws k v b → r ≡ Ok tt
  passes (Ok u) c h = refl
  passes (Err DoesNotFit) c h = let z : ◌≡◌ {A = ℕ} 0 1 = cc (c, h.well.fit) in absurd (omega arith)
  passes (Err (WrongBlock g)) c h = absurd (not_wrong g c h)

  -- words have one content
  pub one_content : (xs ys : List (List (ℕ × ℕ))) → WellFormed L.S L.C (L.fits (length ws)) k v b xs → WellFormed L.S L.C (L.fits (length ws)) k v b ys
      → ws ≡ words_of L (length ws) (formed k v b xs) → ws ≡ words_of L (length ws) (formed k v b ys) → xs ≡ ys
  one_content xs ys wx wy ex ey =
      sym (content_words L law (length ws) k v b xs wx) ∙ ap (content L k v b) (sym ex ∙ ey) ∙ content_words L law (length ws) k v b ys wy

  -- every block given, and zeros after them: the words are a content's
  pub holds_from : L.fits (length ws) k v b ≡ true → ((i : ℕ) → i < L.count b → Given L k v b (part (L.width k v b) i ws))
      → drop (L.count b * L.width k v b) ws ≡ replicate (length ws - L.count b * L.width k v b) 0 → Holds L ws k v b
  unfolding words_of
  holds_from fit each zeros =
      let S = L.S in let m = L.count b in let w = L.width k v b in let n = length ws in
      let F : ℕ → List (List (ℕ × ℕ)) = λ g. L.read k v b (part w g ws) in
      let gs = map F (range_with_len 0 m) in
      let count : length gs ≡ m = length-map-range_with_len F 0 m in
      let read : (i : ℕ) → (l : i < m) → get_or gs i [] ≡ (each i l).slots =
      λ i l. get_or-map-range_with_len F 0 m i i [] l (omega arith) ∙ ap (L.read k v b) (each i l).made ∙ law.back n k v b fit (each i l).slots (each i l).good in
      let good : (i : ℕ) → i < m → GoodGroup S L.C (k - b) v (get_or gs i []) = λ i l. subst (GoodGroup S L.C (k - b) v) (sym (read i l)) (each i l).good in
      let whole = law.whole n k v b fit in
      let even = even_groups S L.C (L.fits n) k v b m law.pos whole gs count good in
      record {
        slots = flat_map (λ G. G) gs;
        well = groups_well S L.C (L.fits n) k v b m law.pos whole gs count good fit;
        made =
            words_read [] w (L.block k v b) (L.read k v b) (GoodGroup S L.C (k - b) v) (law.long n k v b fit) (law.back n k v b fit) n m (law.room n k v b fit) ws
            (λ g l. ((each g l).slots, ((each g l).good, (each g l).made))) zeros
            ∙ ap (λ t. flat_map (L.block k v b) t ++ replicate (n - m * w) 0) (sym (groups_joined [] S m law.pos gs count even));
      }

  -- the answers, as the scan comes to them
  pub record Answer (r : Result (Unit {0}) CheckRefusal) : Type 0 where
    pub value : Checked L ws k v b r
    pub passes : Holds L ws k v b → r ≡ Ok tt

  pub answered : (r : Result (Unit {0}) CheckRefusal) → Checked L ws k v b r → Answer r
  answered r c = record { value = c; passes = passes r c }

  -- the widths do not fit
  pub wrong_fit : L.fits (length ws) k v b ≡ false → Answer (Err DoesNotFit)
  wrong_fit e = answered (Err DoesNotFit) e

  -- every block given: the words past them decide
  module _ (fit : L.fits (length ws) k v b ≡ true) (n : ℕ) (e : n ≡ L.count b) (inv : (i : ℕ) → i < n → Given L k v b (part (L.width k v b) i ws))
      (rest : List ℕ) (is : rest ≡ drop (L.count b * L.width k v b) ws) (r : Bool) (d : Decides r (rest ≡ replicate (length rest) 0)) where
    rest_long : replicate {A = ℕ} (length rest) 0 ≡ replicate (length ws - L.count b * L.width k v b) 0
    rest_long = ap (λ t. replicate {A = ℕ} t 0) (ap length is ∙ length-drop (L.count b * L.width k v b) ws)

    pub wrong_tail : r ≡ false → Answer (Err (WrongBlock n))
    wrong_tail off = answered (Err (WrongBlock n)) (record {
      fit = fit;
      before = inv;
      here = inr (e, λ z. not_from_Decides r d off (is ∙ z ∙ sym rest_long));
    })

    pub all_right : r ≡ true → Answer (Ok tt)
    all_right on = answered (Ok tt) (holds_from fit (λ i l. inv i (omega arith)) (sym is ∙ d.0 on ∙ rest_long))

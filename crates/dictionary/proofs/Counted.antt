-- How many places of a list pass a test, counted place by place.
use Rattle.std.proofs.Common.{◌≡◌, ℕ, zero, suc, ◌+◌, ◌/◌, ◌<◌, Bool, true, false, cond, eqb, [], ◌∷◌, length, filter, get_or, Some, None, Option, sym, refl, ap, ◌∙◌, arith}
use Rattle.std.specs.List.{range_with_len, slice_get}
use Rattle.std.specs.Option.{MatchOption, option_map, unwrap_or}
use Rattle.std.proofs.lemmas.Option.{slice_get-get_or}
use Rattle.model.specs.Entries.{Entries, count_if, group_load, run_of}

-- the numbers from a on that pass p are as many as the entries that pass q
pub count_places : (p : ℕ → Bool) (q : ℕ × ℕ → Bool) (a : ℕ) (xs : Entries) → ((i : ℕ) → i < length xs → p (a + i) ≡ q (get_or xs i (0, 0))) → length (filter p (range_with_len a (length xs))) ≡ count_if q xs
count_places p q a [] h = refl
count_places p q a (x ∷ xs) h =
    let first : p a ≡ q x = ap p (omega arith) ∙ h 0 (omega arith) in
    let rest : (i : ℕ) → i < length xs → p (a + 1 + i) ≡ q (get_or xs i (0, 0)) = λ i less. let e : a + 1 + i ≡ a + suc i = omega arith in ap p e ∙ h (suc i) (omega arith) in
    by (q x) first (count_places p q (a + 1) xs rest)
  where
    by : (t : Bool) → p a ≡ t → length (filter p (range_with_len (a + 1) (length xs))) ≡ count_if q xs
        → length (filter p (range_with_len a (length (x ∷ xs)))) ≡ cond t (suc (count_if q xs)) (count_if q xs)
    by true t ih = rw t (ap suc ih)
    by false t ih = rw t ih

-- the test of the entry at a place
pub test_at : (q : ℕ × ℕ → Bool) (xs : Entries) (i : ℕ) → i < length xs → unwrap_or (option_map q (slice_get xs i)) false ≡ q (get_or xs i (0, 0))
test_at q xs i h = ap (λ o. unwrap_or (option_map q o) false) (slice_get-get_or xs i (0, 0) h)

-- a test of what there is, by what the closure says of it
pub test_says : {A : Type 0} {Q : A → Type 0} (q : A → Bool) (o : Option A) (r : Bool) → MatchOption o (r ≡ false) Q → ((x : A) → Q x → r ≡ q x) → r ≡ unwrap_or (option_map q o) false
test_says q None r is says = is
test_says q (Some x) r is says = says x is

-- what is told of the entries is told of what they are taken to
pub test_map : (f : ℕ × ℕ → ℕ × ℕ) (q : ℕ × ℕ → Bool) (o : Option (ℕ × ℕ)) → unwrap_or (option_map q (option_map f o)) false ≡ unwrap_or (option_map (λ e. q (f e)) o) false
test_map f q None = refl
test_map f q (Some e) = refl

-- a run has as many keys as it says, and each is its first number and its place
run_length : (m w n : ℕ) → length (run_of m w n) ≡ n
run_length m w zero = refl
run_length m w (suc n) = ap suc (run_length (suc m) w n)

run_key : (m w n i : ℕ) → i < n → (get_or (run_of m w n) i (0, 0)).0 ≡ m + i
run_key m w (suc n) zero h = omega arith
run_key m w (suc n) (suc i) h = let e : suc m + i ≡ m + suc i = omega arith in run_key (suc m) w n i (omega arith) ∙ e
run_key m w zero i h = absurd (omega arith)

-- the keys of a run in a group, counted place by place
pub count_run : (slot : ℕ → ℕ) (S m w n g : ℕ) → length (filter (λ j. eqb (slot (m + j) / S) g) (range_with_len 0 n)) ≡ group_load slot S (run_of m w n) g
count_run slot S m w n g =
    ap (λ x. length (filter (λ j. eqb (slot (m + j) / S) g) (range_with_len 0 x))) (sym (run_length m w n))
    ∙ count_places (λ j. eqb (slot (m + j) / S) g) (λ e. eqb (slot e.0 / S) g) 0 (run_of m w n)
    (λ i h. let less : i < length (run_of m w n) = h in let all = run_length m w n in let e : 0 + i ≡ i = omega arith in ap (λ x. eqb (slot (m + x) / S) g) e ∙ ap (λ x. eqb (slot x / S) g) (sym (run_key m w n i (omega arith))))

use Rattle.std.proofs.Common.{◌≡◌, ℕ, ◌+◌, ◌-◌, ◌*◌, ◌/◌, ◌%◌, ◌^◌, ◌<◌, ◌≤◌, Bool, true, false, if◌then◌else◌, List, length, Option, Some, None, slice_get, inl, inr, sym, ◌∙◌, ap, ap₂, add-zero, arith, pow_mono}
use Rattle.std.specs.Option.{option_map}
use mir.Val.{bool_byte}
use Rattle.std.proofs.Math.Nat.{zero-mul}
use Rattle.std.proofs.lemmas.Nat.{one_shl}
use Rattle.std.proofs.lemmas.Option.{slice_get_cases}
use Rattle.expected.specs.Blocks.{field_bit, has_bit, number}
use Rattle.expected.specs.Fields.{field_of}
use Rattle.expected.specs.declared.layout.Entry.{Entry}
use Rattle.expected.proofs.Bits.{number-zero, number-more, number-below, number-stops, next_field, same_field, no_field}
use Rattle.expected.proofs.packed_words.field_bits.Goals as goal
use Rattle.expected.proofs.packed_words.field_bits.Goals.{then-bit-width, else-bit-width}

begun : (first width place bit : ℕ) → place ≡ first / width → bit ≡ first % width → (place ≡ (first + 0) / width) × (bit ≡ (first + 0) % width)
begun first width place bit e f = rw add-zero (e, f)

stopped : (f : Entry → ℕ) (group : List Entry) (first width place word i : ℕ) → place ≡ (first + i) / width → length group ≤ place → i ≤ 64
    → word ≡ number (λ k. field_bit f (slice_get group ((first + k) / width)) ((first + k) % width)) i
    → word ≡ number (λ k. field_bit f (slice_get group ((first + k) / width)) ((first + k) % width)) 64
stopped f group first width place word i e l h w =
    let past : length group ≤ (first + i) / width = omega arith in
    let all : i + (64 - i) ≡ 64 = omega arith in
    w
    ∙ sym (number-stops (λ k. field_bit f (slice_get group ((first + k) / width)) ((first + k) % width)) i (64 - i) (no_field f group first i width past))
    ∙ ap (number (λ k. field_bit f (slice_get group ((first + k) / width)) ((first + k) % width))) all

pub loop-i-init : goal.loop-i-init
loop-i-init c =
    let b = begun c.args.first c.args.width c.times-place.result c.rest-bit.result c.times-place.ensures.value c.rest-bit.ensures.value in
    record { field = b.0; within = b.1; there = c.at-number.ensures; ones = sym (number-zero _) }

-- where there is a number, its bits are the field's
field_is : (f : Entry → ℕ) (o : Option Entry) (held : Option ℕ) (n k : ℕ) → held ≡ option_map f o → held ≡ Some n → field_bit f o k ≡ has_bit n k
field_is f (Some e) held n k a h = let same : Some (f e) ≡ Some n = sym a ∙ h in let v : f e ≡ n = cc in ap (λ m. has_bit m k) v
field_is f None held n k a h = let z : ◌≡◌ {A = Option ℕ} None (Some n) = sym a ∙ h in cc

-- where there is none, its entry is not there
field_none : (f : Entry → ℕ) (group : List Entry) (place : ℕ) (held : Option ℕ) → held ≡ option_map f (slice_get group place) → held ≡ None → length group ≤ place
field_none f group place held a h =
    elim (slice_get_cases group place).1 [
      | inl w ↦ let z : ◌≡◌ {A = Option ℕ} None (Some (f w.0)) = sym h ∙ a ∙ ap (option_map f) w.2 in absurd (cc)
      | inr w ↦ w.0
    ]

field_there : (f : Entry → ℕ) (group : List Entry) (place n : ℕ) (held : Option ℕ) → held ≡ option_map f (slice_get group place) → held ≡ Some n → place < length group
field_there f group place n held a h =
    elim (slice_get_cases group place).1 [
      | inl w ↦ w.1
      | inr w ↦ let z : ◌≡◌ {A = Option ℕ} None (Some n) = sym (a ∙ ap (option_map f) w.1) ∙ h in absurd (cc)
    ]

-- the bit that comes next, of the field that comes next
bit_is : (f : Entry → ℕ) (group : List Entry) (first width place bit i n : ℕ) (held : Option ℕ) (r : Bool) → place ≡ (first + i) / width → bit ≡ (first + i) % width
    → held ≡ option_map f (slice_get group place) → held ≡ Some n → r ≡ has_bit n bit → r ≡ field_bit f (slice_get group ((first + i) / width)) ((first + i) % width)
bit_is f group first width place bit i n held r p q a s h =
    h ∙ sym (field_is f (slice_get group place) held n bit a s) ∙ ap₂ (λ k j. field_bit f (slice_get group k) j) p q

shifted : (r : Bool) (n i : ℕ) → n ≡ bool_byte r → i < 64 → n * 2 ^ i % 2 ^ 64 ≡ (if r then 2 ^ i else 0)
shifted true n i e l = ap (λ m. m * 2 ^ i % 2 ^ 64) e ∙ one_shl i 64 l
shifted false n i e l = ap (λ m. m * 2 ^ i % 2 ^ 64) e ∙ ap (λ m. m % 2 ^ 64) (zero-mul (2 ^ i))

one_more : (b : ℕ → Bool) (i n word : ℕ) (r : Bool) → r ≡ b i → n ≡ bool_byte r → i < 64 → word ≡ number b i → word + n * 2 ^ i % 2 ^ 64 ≡ number b (i + 1)
one_more b i n word r h e l w = ap₂ (λ x y. x + y) w (shifted r n i e l ∙ ap (λ c. if c then 2 ^ i else 0) h) ∙ sym (number-more b i)

fits_more : (b : ℕ → Bool) (i word : ℕ) → i < 64 → word ≡ number b (i + 1) → word < 2 ^ 64
fits_more b i word l w =
    let below : number b (i + 1) < 2 ^ (i + 1) = number-below b (i + 1) in
    let most : 2 ^ (i + 1) ≤ 2 ^ 64 = let h : i + 1 ≤ 64 = omega arith in pow_mono h in
    omega (arith, w, below, most)

wrapped : (first width place bit i new wrap : ℕ) → place ≡ (first + i) / width → bit ≡ (first + i) % width → bit + 1 ≡ width → new ≡ place + 1 → wrap ≡ 0
    → (new ≡ (first + (i + 1)) / width) × (wrap ≡ (first + (i + 1)) % width)
wrapped first width place bit i new wrap p q e n z =
    let at : first + (i + 1) ≡ first + i + 1 = omega arith in
    let next = next_field (first + i) width (ap (λ k. k + 1) (sym q) ∙ e) in
    rw at (n ∙ ap (λ k. k + 1) p ∙ sym next.0, z ∙ sym next.1)

stayed : (first width place bit i new more : ℕ) → place ≡ (first + i) / width → bit ≡ (first + i) % width → (bit + 1 ≡ width → ⊥) → new ≡ place → more ≡ bit + 1
    → (new ≡ (first + (i + 1)) / width) × (more ≡ (first + (i + 1)) % width)
stayed first width place bit i new more p q d n m =
    let at : first + (i + 1) ≡ first + i + 1 = omega arith in
    let next = same_field (first + i) width (λ e. d (ap (λ k. k + 1) q ∙ e)) in
    rw at (n ∙ p ∙ sym next.0, m ∙ ap (λ k. k + 1) q ∙ sym next.1)

pub overflow_add-word : goal.overflow_add-word
overflow_add-word c =
    let v = c.loop-i.invariant in
    let fits = fits_more (λ k. field_bit (λ e. field_of c.args.field e) (slice_get c.args.group.now ((c.args.first + k) / c.args.width)) ((c.args.first + k) % c.args.width)) c.loop-i.i _ c.loop-i-test.true
    (one_more _ c.loop-i.i c.from.result c.loop-i.word c.has_bit.result
    (bit_is (λ e. field_of c.args.field e) c.args.group.now c.args.first c.args.width c.loop-i.place c.loop-i.bit c.loop-i.i c.in-Some.n c.loop-i.number c.has_bit.result v.field v.within v.there c.in-Some.is c.has_bit.ensures)
    c.from.ensures c.loop-i-test.true v.ones) in
    omega (arith, fits)

pub overflow_add-place : goal.overflow_add-place
overflow_add-place c =
    let there = field_there (λ e. field_of c.args.field e) c.args.group.now c.loop-i.place c.in-Some.n c.loop-i.number c.loop-i.invariant.there c.in-Some.is in
    omega (arith, there)

pub loop-i-preserved : goal.loop-i-preserved
loop-i-preserved c =
    let v = c.loop-i.invariant in
    let next : (c.if-bit-width.place ≡ (c.args.first + (c.loop-i.i + 1)) / c.args.width) × (c.if-bit-width.bit ≡ (c.args.first + (c.loop-i.i + 1)) % c.args.width) = elim c.if-bit-width.branch [
      | then-bit-width w ↦ wrapped c.args.first c.args.width c.loop-i.place c.loop-i.bit c.loop-i.i c.if-bit-width.place c.if-bit-width.bit v.field v.within w.if-bit-width.true w.place-is w.bit-is
      | else-bit-width w ↦ stayed c.args.first c.args.width c.loop-i.place c.loop-i.bit c.loop-i.i c.if-bit-width.place c.if-bit-width.bit v.field v.within w.if-bit-width.false w.place-is w.bit-is
    ] in
    let there : c.if-bit-width.number ≡ option_map (λ e. field_of c.args.field e) (slice_get c.args.group.now c.if-bit-width.place) = elim c.if-bit-width.branch [
      | then-bit-width w ↦ w.number-is ∙ w.at-number-then-bit-width.ensures ∙ ap (λ k. option_map (λ e. field_of c.args.field e) (slice_get c.args.group.now k)) (sym w.place-is)
      | else-bit-width w ↦ w.number-is ∙ sym c.in-Some.is ∙ v.there ∙ ap (λ k. option_map (λ e. field_of c.args.field e) (slice_get c.args.group.now k)) (sym w.place-is)
    ] in
    record {
      field = next.0;
      within = next.1;
      there = there;
      ones = one_more _ c.loop-i.i c.from.result c.loop-i.word c.has_bit.result
          (bit_is (λ e. field_of c.args.field e) c.args.group.now c.args.first c.args.width c.loop-i.place c.loop-i.bit c.loop-i.i c.in-Some.n c.loop-i.number c.has_bit.result v.field v.within v.there c.in-Some.is c.has_bit.ensures)
          c.from.ensures c.loop-i-test.true v.ones;
    }

pub returns-in_default : goal.returns-in_default
returns-in_default c =
    let v = c.loop-i.invariant in
    stopped (λ e. field_of c.args.field e) c.args.group.now c.args.first c.args.width c.loop-i.place c.loop-i.word c.loop-i.i v.field
    (field_none (λ e. field_of c.args.field e) c.args.group.now c.loop-i.place c.loop-i.number v.there c.in_default.is) (omega arith) v.ones

use Rattle.std.proofs.Common.{◌≡◌, ℕ, ◌<◌, ◌/◌, ◌-◌, ◌==◌, nat_lt, Bool, List, length, take, drop, take_while, refl, ◌∙◌, ap}
use Rattle.expected.specs.Words.{part}
use Rattle.expected.specs.declared.layout.Entry.{Entry}
use Rattle.expected.proofs.Groups.{after, past, take-take_while, take-drop_all, lower_passes, own_passes}
use Rattle.expected.proofs.words.cut.Goals as goal

own_cut : {X : Type 0} (q p : X → Bool) (xs : List X) (n m : ℕ) → n ≡ length (take_while q xs) → m ≡ length (take_while p (take (length xs - n) (drop n xs)))
    → take m (take (length xs - n) (drop n xs)) ≡ take_while p (drop (length (take_while q xs)) xs)
own_cut q p xs n m e f = rw (f, take-drop_all n xs, e) (take-take_while p (drop (length (take_while q xs)) xs))

after_cut : {X : Type 0} (q p : X → Bool) (xs : List X) (n m : ℕ) → n ≡ length (take_while q xs) → m ≡ length (take_while p (take (length xs - n) (drop n xs)))
    → drop m (take (length xs - n) (drop n xs)) ≡ after p (after q xs)
after_cut q p xs n m e f = rw (f, take-drop_all n xs, e) refl

later : (xs ys : List Entry) (size g h : ℕ) → g < h → ys ≡ after (λ e. e.slot / size == g) (after (λ e. nat_lt (e.slot / size) g) xs) → part ys size h ≡ part xs size h
later xs ys size g h l e =
    ap (λ zs. part zs size h) e
    ∙ ap (take_while (λ e. e.slot / size == h))
    (past (λ e. e.slot / size == g) (λ e. nat_lt (e.slot / size) h) (own_passes size g h l) (after (λ e. nat_lt (e.slot / size) g) xs)
    ∙ past (λ e. nat_lt (e.slot / size) g) (λ e. nat_lt (e.slot / size) h) (lower_passes size g h l) xs)

pub returns-clause-own : goal.returns-clause-own
returns-clause-own c = c.split_at.ensures.front ∙ own_cut _ _ c.args.entries.now c.lower.result c.own.result c.lower.ensures.value c.own.ensures.value

pub returns-clause-after : goal.returns-clause-after
returns-clause-after c =
    let e = c.split_at.ensures.back ∙ after_cut _ _ c.args.entries.now c.lower.result c.own.result c.lower.ensures.value c.own.ensures.value in
    λ h l. later c.args.entries.now c.split_at.result.1.now c.args.size c.args.g h l e

-- The loops that move bits up and down, step by step.
use Rattle.std.proofs.Common.{◌≡◌, ℕ, ◌+◌, ◌-◌, ◌*◌, ◌/◌, ◌%◌, ◌^◌, ◌<◌, ◌≤◌, ◌⊎◌, sym, ap, ◌∙◌, ap₂, inl, inr, lt_of_lt_of_le, mod-eq_of_lt, add-mul, zero-mul, arith, pow_mono, shr_lt}
use Rattle.bits.specs.Area.{bits, splice}
use Rattle.bits.proofs.Splices.{pow_parts, bits_lt, bits_add, splice_none, bits_splice_below, bits_splice_above, splice_join, splice_then, splice_agree, mod_over}

-- the bits of a from m to e stand by bits higher
abbrev pub Raised : ℕ → ℕ → ℕ → ℕ → ℕ → Type 0
Raised n a m e by = n ≡ splice a (m + by) (e - m) (bits a m (e - m))

-- none moved up yet
pub raised_none : (a e by : ℕ) → Raised a a e e by
raised_none a e by =
    let z : e - e ≡ 0 = omega arith in
    splice_none a (e + by) (e - e) (bits a e (e - e)) z (bits_lt a e (e - e))

-- c more moved up, below those before
pub raised_more : (n n' a m e by c r : ℕ) → m + c ≤ e → Raised n a (m + c) e by → r ≡ bits n m c → n' ≡ splice n (m + by) c r → Raised n' a m e by
raised_more n n' a m e by c r h i q w =
    let k = e - (m + c) in
    let x = bits a (m + c) k in
    let i1 : m + c + by ≡ m + by + c = omega arith in
    let i2 : k + c ≡ e - m = omega arith in
    let n_is : n ≡ splice a (m + by + c) k x = i ∙ ap (λ (u : ℕ). splice a u k x) i1 in
    let r_is : r ≡ bits a m c = q ∙ ap (λ (u : ℕ). bits u m c) n_is ∙ bits_splice_below a (m + by + c) k x m c (omega arith) in
    w ∙ ap₂ (λ (u v : ℕ). splice u (m + by) c v) n_is r_is
    ∙ splice_join a (m + by) c k (bits a m c) x
    ∙ ap (splice a (m + by) (k + c)) (sym (bits_add a m k c))
    ∙ ap (λ (u : ℕ). splice a (m + by) u (bits a m u)) i2

-- the bits of a from f + by to m + by stand by bits lower
abbrev pub Lowered : ℕ → ℕ → ℕ → ℕ → ℕ → Type 0
Lowered n a f m by = n ≡ splice a f (m - f) (bits a (f + by) (m - f))

-- none moved down yet
pub lowered_none : (a f by : ℕ) → Lowered a a f f by
lowered_none a f by =
    let z : f - f ≡ 0 = omega arith in
    splice_none a f (f - f) (bits a (f + by) (f - f)) z (bits_lt a (f + by) (f - f))

-- c more moved down, above those before
pub lowered_more : (n n' a f m by c r : ℕ) → f ≤ m → Lowered n a f m by → r ≡ bits n (m + by) c → n' ≡ splice n m c r → Lowered n' a f (m + c) by
lowered_more n n' a f m by c r h i q w =
    let k = m - f in
    let x = bits a (f + by) k in
    let g = bits_lt a (f + by) k in
    let i1 : f + k ≡ m = omega arith in
    let i2 : c + k ≡ (m + c) - f = omega arith in
    let i3 : m + by ≡ f + by + k = omega arith in
    let r_is : r ≡ bits a (f + by + k) c =
    q ∙ ap (λ (u : ℕ). bits u (m + by) c) i ∙ bits_splice_above a f k x (m + by) c g (omega arith) ∙ ap (λ (u : ℕ). bits a u c) i3 in
    w ∙ ap₂ (λ (u v : ℕ). splice u m c v) i r_is
    ∙ ap (λ (u : ℕ). splice (splice a f k x) u c (bits a (f + by + k) c)) (sym i1)
    ∙ splice_then a f k c x (bits a (f + by + k) c) g
    ∙ ap (splice a f (c + k)) (sym (bits_add a (f + by) c k))
    ∙ ap (λ (u : ℕ). splice a f u (bits a (f + by) u)) i2

-- bits p to p + k of a moved up by w, and v in their place
abbrev pub bits_inserted : ℕ → ℕ → ℕ → ℕ → ℕ → ℕ
bits_inserted a p k w v = splice a p (k + w) (bits a p k * 2 ^ w + v)

-- the w bits from p up taken out, the k bits above them moved down, and zeros after these
abbrev pub bits_removed : ℕ → ℕ → ℕ → ℕ → ℕ
bits_removed a p k w = splice a p (w + k) (bits a (p + w) k)

-- what the code leaves when it puts a field in
pub raised_put : (a n p e w v : ℕ) → Raised n a p e w → splice n p w v ≡ bits_inserted a p (e - p) w v
raised_put a n p e w v i = ap (λ (u : ℕ). splice u p w v) i ∙ splice_join a p w (e - p) v (bits a p (e - p))

-- and when it takes one out
pub lowered_put : (a n p e w : ℕ) → p ≤ e → Lowered n a p e w → splice n e w 0 ≡ bits_removed a p (e - p) w
lowered_put a n p e w h i =
    let k = e - p in
    let x = bits a (p + w) k in
    let i1 : e ≡ p + k = omega arith in
    let z : 0 * 2 ^ k + x ≡ x = omega (arith, zero-mul (2 ^ k)) in
    ap₂ (λ (u v : ℕ). splice u v w 0) i i1
    ∙ splice_then a p k w x 0 (bits_lt a (p + w) k)
    ∙ ap (splice a p (w + k)) z

-- fields past the area's end need not be moved: below bit l it makes no difference
pub inserted_agree : (a p k m w v l : ℕ) → m ≤ k → (m ≡ k) ⊎ (l ≤ p + (m + w)) → bits_inserted a p m w v % 2 ^ l ≡ bits_inserted a p k w v % 2 ^ l
inserted_agree a p k m w v l h (inl e) = ap (λ (u : ℕ). bits_inserted a p u w v % 2 ^ l) e
inserted_agree a p k m w v l h (inr g) =
    let y = bits a p m * 2 ^ w + v in
    let b = bits a (p + m) (k - m) in
    let e : (k - m) + m ≡ k = omega arith in
    let e1 : bits a p k ≡ b * 2 ^ m + bits a p m = ap (bits a p) (sym e) ∙ bits_add a p (k - m) m in
    let e2 : b * 2 ^ m * 2 ^ w ≡ b * 2 ^ (m + w) = sym (pow_parts b m w) in
    let e3 : bits a p k * 2 ^ w + v ≡ b * 2 ^ (m + w) + y = ap (λ (u : ℕ). u * 2 ^ w + v) e1 ∙ omega (arith, e2, add-mul (b * 2 ^ m) (bits a p m) (2 ^ w)) in
    splice_agree a p (m + w) (k + w) y (bits a p k * 2 ^ w + v) l (omega arith) (omega arith)
    (sym (ap (λ (u : ℕ). u % 2 ^ (l - p)) e3 ∙ mod_over b y (l - p) (m + w) (omega arith)))

-- the same for a field taken out
pub removed_agree : (a p k m w l : ℕ) → a < 2 ^ l → m ≤ k → (m ≡ k) ⊎ (l ≤ p + (w + m)) → bits_removed a p m w % 2 ^ l ≡ bits_removed a p k w % 2 ^ l
unfolding bits
removed_agree a p k m w l f h (inl e) = ap (λ (u : ℕ). bits_removed a p u w % 2 ^ l) e
removed_agree a p k m w l f h (inr g) =
    let q : l ≤ m + (p + w) = omega arith in
    let d : a / 2 ^ (p + w) < 2 ^ m = shr_lt m (p + w) (lt_of_lt_of_le f (pow_mono q)) in
    let same : bits a (p + w) m ≡ bits a (p + w) k = mod-eq_of_lt d ∙ sym (mod-eq_of_lt (lt_of_lt_of_le d (pow_mono h))) in
    splice_agree a p (w + m) (w + k) (bits a (p + w) m) (bits a (p + w) k) l (omega arith) (omega arith) (ap (λ (u : ℕ). u % 2 ^ (l - p)) same)

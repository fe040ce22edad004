-- Forming a table anew and keeping words that are found, in any lawful layout.
use Rattle.std.proofs.Common.{◌≡◌, ℕ, ◌^◌, Bool, true, false, List, [], length, replicate, Some, None, Ok, vec_items, Option, Result, Vec, sym, ap, ◌∙◌, subst, arith, rules}
use Rattle.std.specs.Vec.{with_items}
use Rattle.table.specs.declared.refusal.TableRefusal.{TableRefusal}
use Rattle.table.specs.declared.shape.Shape.{Shape}
use Rattle.table.specs.Meaning.{Meaning, formed, formed_anew, formed_at}
use Rattle.table.specs.Widths.{shape_where, widths}
use Rattle.table.specs.Layout.{Layout}
use Rattle.table.specs.Lawful.{Lawful}
use Rattle.table.specs.Checking.{Holds}
use Rattle.table.proofs.Shapes.{shaped, unshaped}
use Rattle.table.proofs.Standing.{Stands, refilled_stands, stands_empty}
use Rattle.table.proofs.Steps.{Step}

-- how many words a Vec holds
pub len_items : {Z : Type 0} (t : Vec ℕ Z) → t.len ≡ length (vec_items t)
len_items t = search rules

-- a test of as many words
pub count_moved : (fits : ℕ → ℕ → ℕ → ℕ → Bool) (m n k v b : ℕ) (o : Option Shape) → m ≡ n → widths o ≡ shape_where (fits m k v b) k v b → widths o ≡ shape_where (fits n k v b) k v b
count_moved fits m n k v b o e h = subst (λ t. widths o ≡ shape_where (fits t k v b) k v b) e h

-- a shape made of widths that fit, fits
pub shape_fits : (fits : ℕ → ℕ → ℕ → Bool) (k v b : ℕ) (shape : Shape) → widths (Some shape) ≡ shape_where (fits k v b) k v b → fits shape.k shape.v shape.b ≡ true
shape_fits fits k v b shape e =
    let s = shaped (fits k v b) k v b shape e in
    let p : fits shape.k shape.v shape.b ≡ fits k v b = cc (s.ks, s.vs, s.bs) in
    p ∙ s.holds

module _ (L : Layout) (law : Lawful L) (k v b : ℕ) where
  -- form, the words made zero
  pub form_step : {Z : Type 0} (t : Vec ℕ Z) (m : Meaning) (shape : Shape) (n : ℕ) → n ≡ t.len → widths (Some shape) ≡ shape_where (L.fits n k v b) k v b
      → (ys : List ℕ) → ys ≡ vec_items t → (zs : List ℕ) → zs ≡ replicate (length ys) 0
      → Step L law (length (vec_items t)) (vec_items (with_items t zs)) (Some shape) (Result (Unit {0}) TableRefusal) (formed_anew (L.fits (length (vec_items t))) m k v b) (Ok tt)
  form_step t m shape n ns made ys same zs zero =
      let s = shaped (L.fits n k v b) k v b shape made in
      let size = length (vec_items t) in
      let fit : L.fits size k v b ≡ true = ap (λ x. L.fits x k v b) (sym (ns ∙ len_items t)) ∙ s.holds in
      let p = ap (formed_at m k v b) (sym fit) in
      let st = stands_empty L law size zs shape k v b s.ks s.vs s.bs fit (zero ∙ ap (λ x. replicate x 0) (ap length same)) in
      record {
        stands = subst (Stands L law size (vec_items (with_items t zs)) (Some shape)) (ap (λ x. x.0) p)
            (refilled_stands L law t (Some shape) (formed k v b (replicate (2 ^ b) [])) zs (sym (len_items t)) st);
        value = ap (λ x. x.1) p;
      }

  -- form, refused
  pub form_refused : {Z : Type 0} (t : Vec ℕ Z) (m : Meaning) (n : ℕ) → n ≡ t.len → widths None ≡ shape_where (L.fits n k v b) k v b → formed_at m k v b false ≡ formed_anew (L.fits (length (vec_items t))) m k v b
  form_refused t m n ns none = ap (formed_at m k v b) (sym (ap (λ x. L.fits x k v b) (sym (ns ∙ len_items t)) ∙ unshaped (L.fits n k v b) k v b none))

  -- no shape, no content
  pub unfit : (ws : List ℕ) (n : ℕ) → n ≡ length ws → widths None ≡ shape_where (L.fits n k v b) k v b → Holds L ws k v b → ⊥
  unfit ws n e h x =
      let f = ap (λ t. L.fits t k v b) (sym e) ∙ unshaped (L.fits n k v b) k v b h in
      let z : ◌≡◌ {A = ℕ} 0 1 = cc (f, x.well.fit) in omega arith

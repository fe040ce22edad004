-- A plain table's words: a group is one slot, so a slot's block is its own, and its group's load is its size.
use Rattle.std.specs.Prelude.{◌≡◌, ℕ, ◌+◌, ◌-◌, ◌*◌, ◌/◌, ◌^◌, ◌<◌, ◌≤◌, Bool, true, false, ◌&&◌, List, [], length, get_or, take, drop, Some, Option, Ok, vec_items, nat_lt, slice_index_or, refl}
use Rattle.std.proofs.Math.Path.{sym, ap}
use Rattle.std.proofs.Common.{subst, ◌∙◌, add-zero, mul-one, div-one, arith}
use Rattle.std.proofs.Math.Nat.{mod-one}
use Rattle.std.proofs.lemmas.Bool.{ltb-true}
use Rattle.std.proofs.lemmas.List.{drop_more}
use Rattle.table.specs.declared.shape.Shape.{Shape}
use Rattle.table.specs.Meaning.{Meaning, unformed, formed, value_in, total, load, has_slot, in_range, sized, sized_at, loaded, loaded_at, weigh_held, admitted}
use Rattle.table.specs.Layout.{Layout, words_of, content, meaning, Well}
use Rattle.table.proofs.Standing.{bare}
use Rattle.table.proofs.Steps.{well_here, good_here, block_here}
use Rattle.blocks.specs.declared.kind.Blocks as kind
use Rattle.blocks.specs.declared.state.BlockTable.{BlockTable}
use Rattle.blocks.specs.Means.{means}
use Rattle.blocks.specs.PlainLayout.{entries_of, plain, Stored}
use Rattle.blocks.specs.PlainLaws.{plain_laws, group_stored, narrow_fit}
use Rattle.blocks.proofs.Tables as tables

-- a slot's block starts where its group's does
pub start_is : (s : ℕ) → s * 16 ≡ s / 1 * 16
start_is s = ap (λ u. u * 16) (sym (div-one s))

module _ (ws : List ℕ) (o : Option Shape) (wl : ∥ Well plain (length ws) (meaning plain ws o) ∥₁) (exact : ws ≡ words_of plain (length ws) (meaning plain ws o))
    (shape : Shape) (is : o ≡ Some shape) (s : ℕ) (ok : has_slot shape.b s ≡ true) where
  low : s < 2 ^ shape.b
  low = ltb-true s (2 ^ shape.b) ok

  -- the slot's block is inside the words
  pub inside_table : s * 16 + 16 ≤ length ws
  inside_table = omega (arith, start_is s, tables.inside_table plain plain_laws ws o wl exact shape is s ok)

  module _ (ys : List ℕ) (same : ys ≡ ws) (n : ℕ) (wide : n ≡ 16) where
    -- the part is a stored block
    pub stored_table : Stored (take n (drop (s * 16) ys))
    stored_table =
        let w = well_here plain plain_laws ws o shape wl exact is in
        let g = good_here plain plain_laws ws o shape wl exact is s low in
        subst Stored (sym (block_here plain plain_laws ws o shape wl exact is s low ys same (s * 16) (start_is s) n wide))
        (group_stored (shape.k - shape.b) shape.v _ g (narrow_fit (length ws) shape.k shape.v shape.b w.fit))

    -- and reads as the slot's entries
    pub entries_table : entries_of (take n (drop (s * 16) ys)) ≡ slice_index_or (content plain shape.k shape.v shape.b ws) s []
    entries_table = tables.slot_table plain plain_laws ws o wl exact shape is s ok ys same (s * 16) (start_is s) n wide 0 (sym (mod-one s))

    -- what stands against one more entry
    pub admitted_table : (q w earlier : ℕ) → (in_range shape.k shape.b s q && nat_lt w (2 ^ shape.v)) ≡ true
        → weigh_held 15 (length (entries_of (take n (drop (s * 16) ys))) + earlier) (value_in (entries_of (take n (drop (s * 16) ys))) q) ≡ admitted 1 15 (meaning plain ws o) s q w earlier
    admitted_table q w earlier in-it =
        let es = entries_of (take n (drop (s * 16) ys)) in
        ap (λ l. weigh_held 15 (l + earlier) (value_in es q)) (sym (add-zero (length es)))
        ∙ tables.admitted_table plain plain_laws ws o wl exact shape is s ok ys same (s * 16) (start_is s) n wide 0 (sym (mod-one s)) q w earlier in-it

-- in groups of one slot the load is the slot's length
pub load_one : (slots : List (List (ℕ × ℕ))) (s : ℕ) → s < length slots → load 1 slots s ≡ length (get_or slots s [])
unfolding load
load_one slots s h =
    let e : s / 1 * 1 ≡ s = mul-one (s / 1) ∙ div-one s in
    ap (λ t. total (take 1 (drop t slots))) e ∙ ap (λ t. total (take 1 t)) (drop_more slots s [] h) ∙ omega arith

pub one_load : (slots : List (List (ℕ × ℕ))) (s n : ℕ) → length slots ≡ n → (t : Bool) → nat_lt s n ≡ t → sized_at slots s t ≡ loaded_at 1 slots s t
one_load slots s n e false l = refl
one_load slots s n e true l = let h : s < length slots = omega (arith, ltb-true s n l) in ap Ok (sym (load_one slots s h))

pub load_size : (L : Layout) (n : ℕ) (m : Meaning) → Well L n m → (s : ℕ) → sized m s ≡ loaded 1 m s
load_size L n unformed w s = refl
load_size L n (formed k v b slots) w s = one_load slots s (2 ^ b) w.long (has_slot b s) refl

-- the load of a group of one slot is the slot's size
pub size_loads : {K : Type 0} {bl : kind.Ghosts K} (t : BlockTable K bl) (s : ℕ) → sized (means t) s ≡ loaded 1 (means t) s
size_loads {K} {bl} t s = load_size bl.layout (length (vec_items t.words)) (means t) (bare bl.layout (length (vec_items t.words)) (means t) t.well) s

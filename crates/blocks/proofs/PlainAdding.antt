-- What stands against one more entry of a block, and what adding it leaves.
use Rattle.std.proofs.Common.{◌≡◌, ℕ, ◌+◌, ◌*◌, ◌^◌, ◌<◌, List, [], ◌∷◌, length, get_or, set, Ok, Result, sym, ap, ◌∙◌, arith}
use Rattle.table.specs.declared.refusal.TableRefusal.{TableRefusal}
use Rattle.table.specs.Meaning.{value_in, weigh_held}
use Rattle.table.specs.Layout.{group_added, group_reply}
use Rattle.table.proofs.Calls.{room_below}
use Rattle.blocks.specs.PlainLayout.{block_of_group, entries_of, Stored}
use Rattle.blocks.specs.PlainBlocks.{block_push, stored_count}

-- what adding leaves and answers
pub record Appended (block last : List ℕ) (q w : ℕ) (r : Result (Unit {0}) TableRefusal) : Type 0 where
  pub after : last ≡ block_of_group (group_added 15 (entries_of block ∷ []) 0 q w).0
  pub value : r ≡ (group_added 15 (entries_of block ∷ []) 0 q w).1

module _ (block : List ℕ) (st : Stored block) (q w : ℕ) (r : Result (Unit {0}) TableRefusal) (weighs : r ≡ weigh_held 15 (length (entries_of block) + 0) (value_in (entries_of block) q)) where
  whole : group_reply (entries_of block ∷ []) 0 q w r ≡ group_added 15 (entries_of block ∷ []) 0 q w
  whole = ap (group_reply (entries_of block ∷ []) 0 q w) weighs

  -- nothing does, so there is room
  pub room_left : (u : Unit {0}) → r ≡ Ok u → get_or block 0 0 < 15
  room_left u is =
      omega (arith, stored_count block st, room_below 15 (length (entries_of block) + 0) (value_in (entries_of block) q) u (sym weighs ∙ is))

  -- and it is put in
  pub push_case : (u : Unit {0}) → r ≡ Ok u → (last : List ℕ) → last ≡ set (set block (get_or block 0 0 + 1) (w * 2 ^ 32 + q)) 0 (get_or block 0 0 + 1) → Appended block last q w (Ok tt)
  push_case u is last a =
      let es = entries_of block in
      let n = stored_count block st in
      let l : length es < 15 = omega (arith, n, room_left u is) in
      let p = ap (group_reply (es ∷ []) 0 q w) (sym is) ∙ whole in
      record {
        after = a ∙ ap (λ t. set (set block (t + 1) (w * 2 ^ 32 + q)) 0 (t + 1)) n
            ∙ ap (λ t. set (set t (length es + 1) (w * 2 ^ 32 + q)) 0 (length es + 1)) st.exact
            ∙ block_push es (q, w) l ∙ ap (λ t. block_of_group t.0) p;
        value = ap (λ t. t.1) p;
      }

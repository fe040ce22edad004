-- The content of the machine's list is a well-formed meaning.
use Rattle.std.proofs.Common.{◌≡◌, ℕ, ◌-◌, ◌/◌, ◌^◌, ◌<◌, Bool, true, false, cond, eqb, leb, List, [], ◌∷◌, length, get_or, sym, subst, arith, pow_pos}
use Rattle.std.proofs.lemmas.Nat.{div-add-mod', mod_below}
use Rattle.std.proofs.ByRecursion.{all-has, All-weaker, has_get_or}
use Rattle.std.proofs.lemmas.Bool.{le-leb}
use Rattle.std.specs.List.{AllByRecursion as All}
use Rattle.table.specs.Meaning.{Good, load}
use Rattle.table.specs.Slots.{within}
use Rattle.model.specs.declared.call.Call.{Call}
use Rattle.model.specs.Entries.{Entries, group_load, slot_list}
use Rattle.model.specs.Model.{Fixed, Model, State, closed, entries, kind, opened, quotient_of, slot_of, slots_of}
use Rattle.model.specs.Step.{run}
use Rattle.model.specs.Laws.{Apart, Fair, InUse, Lawful, WellUsed}
use Rattle.model.proofs.Again.{step_again}
use Rattle.model.proofs.Content.{apart_slot, getD_content, length_content}
use Rattle.model.proofs.Leaves.{step_leaves}
use Rattle.model.proofs.Loads.{WithinC, run_within}
use Rattle.model.proofs.SlotLoads.{load_content}
use Rattle.model.proofs.Standing.{grouped, key_from, mixed_returns, slots_below}
use Rattle.model.proofs.Tells.{Sound, Well, list_tells, run_well, well_apart, well_below}
use Rattle.model.proofs.Walks.{places_apart}

module _ (slot quotient : ℕ → ℕ) where
  -- quotients and values in a slot are in range
  ranges_slot : (Q W : ℕ) → ((m : ℕ) → quotient m < Q) → (l : Entries) (s : ℕ) → All (λ e. e.1 < W) l → All (λ e. (e.0 < Q) × (e.1 < W)) (slot_list slot quotient s l)
  ranges_slot Q W q [] s h = tt
  ranges_slot Q W q (e ∷ l) s h = by (eqb (slot e.0) s) (ranges_slot Q W q l s h.1)
    where
      by : (t : Bool) → All (λ e. (e.0 < Q) × (e.1 < W)) (slot_list slot quotient s l) → All (λ e. (e.0 < Q) × (e.1 < W)) (cond t ((quotient e.0, e.1) ∷ slot_list slot quotient s l) (slot_list slot quotient s l))
      by true ih = ((q e.0, h.0), ih)
      by false ih = ih

  -- the same by places, as a table asks for it
  good_slot : (q v : ℕ) → ((m : ℕ) → quotient m < 2 ^ q) → (l : Entries) (s : ℕ) → All (λ e. e.1 < 2 ^ v) l → Apart (slot_list slot quotient s l) → Good q v (slot_list slot quotient s l)
  good_slot q v below l s small apart =
      let es = slot_list slot quotient s l in
      let P : ℕ × ℕ → Type 0 = λ e. (e.0 < 2 ^ q) × (e.1 < 2 ^ v) in
      let all : All P es = ranges_slot (2 ^ q) (2 ^ v) below l s small in
      record {
        quotients = λ i h. (all-has P es (get_or es i (0, 0)) all (has_get_or es i (0, 0) h)).0;
        values = λ i h. (all-has P es (get_or es i (0, 0)) all (has_get_or es i (0, 0) h)).1;
        apart = λ i j lt h e. let less : i < length es = omega arith in let same = places_apart es apart i j less h e in omega arith;
      }

module _ {K V : Type 0} (f : Fixed K V) (law : Lawful f) where
  -- the table in use
  used_at : (t : State) → Sound f t → WithinC f (opened t) → WellUsed f t (kind f t.side)
  used_at t ok within =
      let k = f.keys.width in
      let slot = slot_of f t.b in
      let quotient = quotient_of f t.b in
      let d = kind f t.side in
      let loads : (s : ℕ) → load d.group (slots_of f t) s ≡ group_load slot d.group t.list (s / d.group) =
      λ s. load_content slot quotient d.group (2 ^ t.b) t.list s (grouped f law t.side) (slots_below f law t ok) in
      record {
        well = record {
          fit = ok.fit;
          long = length_content slot quotient (2 ^ t.b) t.list;
          good = λ s h. subst (Good (k - t.b) f.values.width) (sym (getD_content slot quotient (2 ^ t.b) t.list s h))
              (good_slot slot quotient (k - t.b) f.values.width (λ m. mod_below (f.mix.forth m) (2 ^ (k - t.b)) (pow_pos (k - t.b))) t.list s ok.small
              (apart_slot slot quotient (2 ^ k) (key_from f law ok.widths t.b) t.list s ok.below ok.apart));
          limited = λ s h. subst (λ n. leb n d.limit ≡ true) (sym (loads s)) (le-leb (group_load slot d.group t.list (s / d.group)) d.limit (within (s / d.group)));
        };
        loads = loads;
        limited = λ g. le-leb (group_load slot d.group t.list g) d.limit (within g);
      }

  -- the same of any machine
  in_use_at : (s : Model) → Well f s → WithinC f s → InUse f s
  in_use_at closed ok within = tt
  in_use_at (opened t) ok within = used_at t ok within

  -- every key of the list comes back from its permuted number
  returns_at : (s : Model) → Well f s → All (λ e. f.mix.back (f.mix.forth e.0) ≡ e.0) (entries s)
  returns_at closed ok = tt
  returns_at (opened t) ok =
      All-weaker (λ e. e.0 < 2 ^ f.keys.width) (λ e. f.mix.back (f.mix.forth e.0) ≡ e.0) (λ e h. mixed_returns f law ok.widths e.0 h) t.list ok.below

  -- what makes the machine a fair judge
  pub fair : (calls : List (Call K V)) → Fair f calls
  fair calls =
      let s = (run f closed calls).0 in
      let ok : Well f s = run_well f law closed calls tt in
      let within : WithinC f s = run_within f closed calls tt in
      record {
        apart = well_apart f law s ok;
        below = well_below f law s ok;
        tells = list_tells f law calls;
        joined = λ b m. div-add-mod' (f.mix.forth m) (2 ^ (f.keys.width - b));
        returns = returns_at s ok;
        used = in_use_at s ok within;
        leaves = step_leaves f s;
        again = step_again f s ok within;
      }

-- A key put into the table is put to the end of the list.
use Rattle.std.proofs.Common.{◌≡◌, ℕ, ◌^◌, ◌<◌, ◌≤◌, List, ◌++◌, None, Ok, Result, sym, ap, ◌∙◌}
use Rattle.std.proofs.ByRecursion.{All-push}
use Rattle.table.specs.declared.table.Table as table
use Rattle.table.specs.declared.refusal.TableRefusal.{TableRefusal}
use Rattle.table.specs.Meaning.{Meaning, add_reply, added, formed, load, value_in, weigh_held, weighed}
use Rattle.model.specs.Entries.{Entries, content, run_of, take_one}
use Rattle.model.specs.Model.{Mixing}
use Rattle.model.proofs.Content.{content_push}
use Rattle.model.proofs.Runs.{apart_push, one_none}
use Rattle.dictionary.specs.Stored.{Stores, quotient_of, slot_of, stored}
use Rattle.dictionary.proofs.Cut.{Mixes, Placed, slot_below}
use Rattle.dictionary.proofs.Found.{load_here, weighed_here}
use Rattle.dictionary.proofs.Judged.{told_held, told_none}

module _ {T : Type 0} {ta : table.Ghosts T} (pos : 0 < ta.group) {mi : Mixing} {t : T} {k v b : ℕ} {l : Entries} (mix : Mixes mi.forth mi.back k) (st : Stores ta mi t k v b l) (narrow : b ≤ k)
    {m s q : ℕ} (w : ℕ) (at : Placed mi.forth k b m s q) (inside : m < 2 ^ k) (small : w < 2 ^ v)
    (free : take_one (slot_of mi.forth k b) ta.group ta.limit l m (value_in l m) ≡ None) where
  add_goes : added ta.group ta.limit (ta.means t) s q w ≡ (stored mi.forth k v b (l ++ run_of m w 1), Ok tt)
  add_goes =
      let forth = mi.forth in
      let slot = slot_of forth k b in
      let quotient = quotient_of forth k b in
      let S = ta.group in
      let C = ta.limit in
      let slots = content slot quotient (2 ^ b) l in
      let n = load S slots (slot m) in
      let made : List Entries → (Meaning × Result (Unit {0}) TableRefusal) = λ x. (formed k v b x, Ok tt) in
      let ok : weighed C k v b slots (slot m) (quotient m) w n ≡ Ok tt =
      weighed_here mix b narrow l st.below C v m w n inside small
      ∙ told_none (weigh_held C n (value_in l m)) (told_held slot S C l m n (value_in l m) (load_here mix b narrow l st.below S m pos) ∙ free) in
      ap (λ x. added S C x s q w) st.means
      ∙ ap (λ x. added S C (stored forth k v b l) x q w) at.slot
      ∙ ap (λ x. added S C (stored forth k v b l) (slot m) x w) at.quotient
      ∙ ap (add_reply k v b slots (slot m) (quotient m) w) ok
      ∙ ap made (sym (content_push slot quotient (2 ^ b) l m w (slot_below mix b narrow m inside)))

  -- nothing is said against it
  pub added_ok : (r : Result (Unit {0}) TableRefusal) → (ta.sound t → r ≡ (added ta.group ta.limit (ta.means t) s q w).1) → r ≡ Ok tt
  added_ok r value = value st.sound ∙ ap (λ (x : Meaning × Result (Unit {0}) TableRefusal). x.1) add_goes

  -- and the table then holds it
  pub added_stores : (t' : T) → (ta.sound t → ta.sound t') → (ta.sound t → ta.means t' ≡ (added ta.group ta.limit (ta.means t) s q w).0) → Stores ta mi t' k v b (l ++ run_of m w 1)
  added_stores t' sound after = record {
    sound = sound st.sound;
    means = after st.sound ∙ ap (λ (x : Meaning × Result (Unit {0}) TableRefusal). x.0) add_goes;
    below = All-push (λ e. e.0 < 2 ^ k) l (m, w) st.below inside;
    apart = apart_push l m w st.apart (one_none (slot_of mi.forth k b) ta.group ta.limit l m (value_in l m) free);
    widths = st.widths;
  }

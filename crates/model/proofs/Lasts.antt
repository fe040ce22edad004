-- What is held is what the last accepted take or cancel says.
use Rattle.std.proofs.Common.{◌≡◌, ℕ, Bool, true, false, cond, ◌&&◌, ◌⊎◌, [], ◌∷◌, ◌++◌, Some, None, Option, refl, ap, ◌∙◌, inl, inr, ⊎_elim, arith}
use Rattle.std.proofs.lemmas.Bool.{and_parts}
use Rattle.std.specs.List.{AllByRecursion as All}
use Rattle.model.specs.declared.call.Call.{Call}
use Rattle.model.specs.declared.call.Call.TheVariants.{At, Cancel, Count, Enlarge, Find, Open, Take}
use Rattle.model.specs.Model.{Fixed, Reply}
use Rattle.model.specs.History.{History, LastTake, accepted, covers, deed, from_key, held, held_from, held_next, is, leaves, touches}
use Rattle.model.specs.Laws.{Held}

module _ {K V : Type 0} (f : Fixed K V) where
  -- calls that do not touch a key number leave what it is held under
  untouched : (h : History K V) (x : ℕ) (before : Option ℕ) → All (λ e. touches f e x ≡ false) h → held_from f h x before ≡ before
  untouched [] x before all = refl
  untouched (e ∷ h) x before all =
      let off = all.0 in
      untouched h x (held_next f e x before) all.1 ∙ ap (λ t. cond t (leaves f (deed e.0)) before) off

  -- the later calls see what the earlier ones left
  pub held_append : (h g : History K V) (x : ℕ) (before : Option ℕ) → held_from f (h ++ g) x before ≡ held_from f g x (held_from f h x before)
  held_append [] g x before = refl
  held_append (e ∷ h) g x before = held_append h g x (held_next f e x before)

  -- the last take says what is held
  last_held : (h : History K V) (x w : ℕ) → LastTake f h x w → held f h x ≡ Some w
  last_held h x w l =
      let e : Call K V × Reply = (Take l.key l.n l.value, l.reply) in
      let hit : touches f e x ≡ true = both (accepted l.reply) (from_key (f.keys.number l.key) l.n x) l.done l.covered in
      ap (λ d. held f d x) l.cut
      ∙ held_append l.before (e ∷ l.after) x None
      ∙ untouched l.after x (held_next f e x (held f l.before x)) l.last
      ∙ ap (λ t. cond t (f.values.number l.value) (held f l.before x)) hit
      ∙ l.valued
    where
      both : (t u : Bool) → t ≡ true → u ≡ true → (t && u) ≡ true
      both t u p q = rw (p, q)

  -- what one call leaves at a key number that it touches
  one_touch : (c : Call K V) (r : Reply) (x w : ℕ) → (accepted r && covers f (deed c) x) ≡ true → leaves f (deed c) ≡ Some w → (h : History K V) → All (λ e. touches f e x ≡ false) h → LastTake f ((c, r) ∷ h) x w
  one_touch (Take key n value) r x w hit is h off =
      let both = and_parts (accepted r) (from_key (f.keys.number key) n x) hit in
      record { before = []; key = key; n = n; value = value; reply = r; after = h; cut = refl; done = both.0; covered = both.1; valued = is; last = off }
  one_touch (Cancel key n value) r x w hit is h off = let z : ◌≡◌ {A = ℕ} 0 1 = cc in absurd (omega arith)
  one_touch (Open b) r x w hit is h off = let z : ◌≡◌ {A = ℕ} 0 1 = cc in absurd (omega arith)
  one_touch (Find key) r x w hit is h off = let z : ◌≡◌ {A = ℕ} 0 1 = cc in absurd (omega arith)
  one_touch Count r x w hit is h off = let z : ◌≡◌ {A = ℕ} 0 1 = cc in absurd (omega arith)
  one_touch (At i) r x w hit is h off = let z : ◌≡◌ {A = ℕ} 0 1 = cc in absurd (omega arith)
  one_touch Enlarge r x w hit is h off = let z : ◌≡◌ {A = ℕ} 0 1 = cc in absurd (omega arith)

  -- one more call in front
  earlier : (e : Call K V × Reply) (h : History K V) (x w : ℕ) → LastTake f h x w → LastTake f (e ∷ h) x w
  earlier e h x w l = record {
    before = e ∷ l.before;
    key = l.key;
    n = l.n;
    value = l.value;
    reply = l.reply;
    after = l.after;
    cut = ap (λ d. e ∷ d) l.cut;
    done = l.done;
    covered = l.covered;
    valued = l.valued;
    last = l.last;
  }

  -- either a last take says so, or nothing touches it and it was so before
  traced : (h : History K V) (x w : ℕ) (before : Option ℕ) → held_from f h x before ≡ Some w → LastTake f h x w ⊎ (All (λ e. touches f e x ≡ false) h × (before ≡ Some w))
  traced [] x w before is = inr (tt, is)
  traced (e ∷ h) x w before is =
      ⊎_elim
      (λ later. inl (earlier e h x w later))
      (λ none. by (touches f e x) refl none.0 none.1)
      (traced h x w (held_next f e x before) is)
    where
      by : (t : Bool) → touches f e x ≡ t → All (λ e. touches f e x ≡ false) h → cond (touches f e x) (leaves f (deed e.0)) before ≡ Some w
          → LastTake f (e ∷ h) x w ⊎ (All (λ e. touches f e x ≡ false) (e ∷ h) × (before ≡ Some w))
      by true hit off left = inl (one_touch e.0 e.1 x w hit (rw hit at left) h off)
      by false miss off left = inr ((miss, off), rw miss at left)

  -- held says what the last take says, and only that
  pub held_last : (h : History K V) (m w : ℕ) → Held f h m w
  held_last h m w = record {
    last = λ is. ⊎_elim (λ l. l) (λ none. let no_start : ◌≡◌ {A = Option ℕ} None (Some w) = none.1 in let z : ◌≡◌ {A = ℕ} 0 1 = cc in absurd (omega arith)) (traced h m w None is);
    back = last_held h m w;
  }

use Rattle.std.proofs.Common.{length, Some, vec_items, refl, ◌∙◌, subst, ◌≡◌, ℕ, true, Ok, Err, Result, rules, arith}
use Rattle.std.specs.Result.{is_ok}
use Rattle.table.specs.Checking.{Checked, Holds}
use Rattle.table.proofs.Shapes.{Shaped, shaped, moved}
use Rattle.table.proofs.Standing.{stands_found}
use Rattle.table.proofs.Setting.{len_items, count_moved}
use Rattle.blocks.proofs.state.BlockTable.keep.Goals as goal

-- what is no refusal passes
passed : {E : Type 0} (r : Result (Unit {0}) E) → is_ok r ≡ true → r ≡ Ok tt
passed (Ok u) e = refl
passed (Err x) e = let z : ◌≡◌ {A = ℕ} 0 1 = cc (e) in absurd (omega arith)

pub invariant_of-result : goal.invariant_of-result
invariant_of-result g c =
    let ws = vec_items c.args.words in let s = c.in-Some.shape in
    let is : c.scan.result ≡ Ok tt = passed c.scan.result (search rules) in
    let h : Holds g.L.Blocks.layout ws s.k s.v s.b = subst (λ t. Holds g.L.Blocks.layout t s.k s.v s.b) c.deref.ensures.value
    (subst (Checked g.L.Blocks.layout c.deref.result.now s.k s.v s.b) is c.scan.ensures.value) in
    let st = stands_found g.L.Blocks.layout g.met.L.Blocks.lawful (length ws) ws s s.k s.v s.b refl refl refl h.slots h.well h.made in
    record { well = ∣ st.well ∣₁; exact = st.exact }

pub returns : goal.returns
returns g c =
    let ws = vec_items c.args.words in let s = c.in-Some.shape in
    let k = c.args.k in let v = c.args.v in let b = c.args.b in
    let sh : Shaped (g.L.Blocks.layout.fits (length ws) k v b) k v b s =
    shaped (g.L.Blocks.layout.fits (length ws) k v b) k v b s (count_moved g.L.Blocks.layout.fits c.len.result (length ws) k v b (Some s) (c.len.ensures ∙ len_items c.args.words) c.in-Some.ensures.value) in
    let is : c.scan.result ≡ Ok tt = passed c.scan.result (search rules) in
    let h : Holds g.L.Blocks.layout ws s.k s.v s.b = subst (λ t. Holds g.L.Blocks.layout t s.k s.v s.b) c.deref.ensures.value
    (subst (Checked g.L.Blocks.layout c.deref.result.now s.k s.v s.b) is c.scan.ensures.value) in
    record {
      after = λ slots f e. (stands_found g.L.Blocks.layout g.met.L.Blocks.lawful (length ws) ws s k v b sh.ks sh.vs sh.bs slots f e).means;
      other = λ off. absurd (off (moved (g.L.Blocks.layout.fits (length ws) k v b) k v b s sh (λ x y z. Holds g.L.Blocks.layout ws x y z) h));
      len = refl;
    }

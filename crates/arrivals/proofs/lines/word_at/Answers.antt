use Rattle.std.proofs.Common.{◌≡◌, ℕ, suc, ◌+◌, ◌-◌, ◌<◌, ◌≤◌, List, sym, ◌∙◌, arith}
use Rattle.arrivals.specs.Lines.{skipped, word, after, nth_word}
use Rattle.arrivals.proofs.lines.word_at.Goals as goal

-- a word more is left behind
word_more : (rest next : List ℕ) (place i : ℕ) → i < place → next ≡ after (skipped rest) → nth_word rest (place - i) ≡ nth_word next (place - (i + 1))
unfolding nth_word
word_more rest next place i h e =
    let s : place - i ≡ suc (place - (i + 1)) = omega arith in rw (s, nth_word, e)

-- the place is reached
word_here : (rest : List ℕ) (place i : ℕ) → place ≤ i → nth_word rest (place - i) ≡ word (skipped rest)
unfolding nth_word
word_here rest place i h = let s : place - i ≡ 0 = omega arith in rw (s, nth_word)

pub loop-i-preserved : goal.loop-i-preserved
loop-i-preserved c = c.loop-i.invariant ∙ word_more _ _ _ _ c.loop-i-test.true c.past_word-rest.ensures.value

pub returns : goal.returns
returns c = record { value = c.first_word.ensures.value ∙ sym (word_here _ _ _ c.loop-i-test.false) ∙ sym c.loop-i.invariant }

-- What is promised of a call, and of every history.
--   Steps            a call does what the plain machine does
--   replies          answers as replies
--   BeginsOpen      a history that begins with an open that was accepted
--   Agree            two lists of replies to the same calls agree until a take finds no room
--   Counted          counts
--   Promise          the whole promise about a register, a list of calls and the answers given
--   Continues        the promise with one more call
use Rattle.std.specs.Prelude.{◌≡◌, ℕ, suc, ◌+◌, Bool, true, false, List, [], ◌∷◌, ◌++◌, map, Some}
use Rattle.std.specs.List.{slice_get}
use Rattle.coding.specs.declared.Coding as coding
use Rattle.permutation.specs.declared.Permutation as permutation
use Rattle.table.specs.declared.table.Table as table
use Rattle.model.specs.declared.call.Call.{Call}
use Rattle.model.specs.declared.call.Call.TheVariants.{Open, Take, Cancel, Find, Count, At, Enlarge}
use Rattle.model.specs.declared.answer.Answer.{Answer}
use Rattle.model.specs.Model.{Fixed, Model, closed, Reply}
use Rattle.model.specs.Step.{step, run}
use Rattle.model.specs.Replies.{reply_of}
use Rattle.model.specs.History.{History, paired, accepted, held_under, taken, cancelled, quiet, full_take, any_before}
use Rattle.model.specs.Laws.{entries_with, Listing, plain, SameCodings}
use Rattle.register.specs.declared.state.Register.{Register}
use Rattle.register.specs.Fixed.{fixed}
use Rattle.register.specs.Stands.{Stands}

-- an open
abbrev pub opens : {K V : Type 0} → Call K V → Bool
opens (Open b) = true
opens (Take key n value) = false
opens (Cancel key n value) = false
opens (Find key) = false
opens Count = false
opens (At i) = false
opens Enlarge = false

-- the first call is an open, and it was accepted
abbrev pub BeginsOpen : {K V : Type 0} → History K V → Type 0
BeginsOpen [] = ⊥
BeginsOpen (e ∷ h) = (opens e.0 ≡ true) × (accepted e.1 ≡ true)

-- the same calls with two lists of replies, both of which accept the open that comes first:
-- at a place up to which neither has answered a take with 4, every take, cancel, find and count has the same reply in both
abbrev pub Agree : {K V : Type 0} → List (Call K V) → (xs ys : List Reply) → Type 0
Agree {K} {V} calls xs ys = BeginsOpen (paired calls xs) → BeginsOpen (paired calls ys)
    → (i : ℕ) (c : Call K V) → slice_get calls i ≡ Some c → plain c ≡ true
    → any_before full_take (suc i) (paired calls xs) ≡ false
    → any_before full_take (suc i) (paired calls ys) ≡ false
    → slice_get xs i ≡ slice_get ys i

module _ {K T V U P A B : Type 0} (kc : coding.Ghosts K T) (vc : coding.Ghosts V U) (pm : permutation.Ghosts P) (ta : table.Ghosts A) (tb : table.Ghosts B) where
  -- an answer as a reply, by the value coding of a register
  abbrev pub reply : Register K V P A B T U → Answer U → Reply
  reply r x = reply_of (fixed kc vc pm ta tb r).values.number x

  -- the answers of a history as replies
  abbrev pub replies : Register K V P A B T U → List (Answer U) → List Reply
  replies r xs = map (reply r) xs

  -- each call with the reply that its answer says
  abbrev pub told : Register K V P A B T U → List (Call T U) → List (Answer U) → History T U
  told r calls answers = paired calls (replies r answers)

  -- the machine after the calls
  abbrev pub machine : Register K V P A B T U → List (Call T U) → Model
  machine r calls = (run (fixed kc vc pm ta tb r) closed calls).0

  -- a call takes a register to another and is answered, as the machine does and replies, of every machine that it stands for; a refusal leaves all words
  pub record Steps (r s : Register K V P A B T U) (call : Call T U) (answer : Answer U) : Type 0 where
    pub says : (m : Model) → Stands kc vc pm ta tb r m → reply r answer ≡ (step (fixed kc vc pm ta tb r) m call).1
    pub then : (m : Model) → Stands kc vc pm ta tb r m → Stands kc vc pm ta tb s (step (fixed kc vc pm ta tb r) m call).0
    pub kept : (m : Model) → Stands kc vc pm ta tb r m → accepted (reply r answer) ≡ false
        → (ta.words s.first ≡ ta.words r.first) × (tb.words s.second ≡ tb.words r.second)

  -- of a value number: the key numbers held under it, and the entries of both tables that have it;
  -- with the sum of n over its accepted cancels, they are the sum over its accepted takes
  pub record Counted (r : Register K V P A B T U) (calls : List (Call T U)) (answers : List (Answer U)) (w : ℕ) : Type 0 where
    pub balance : held_under (fixed kc vc pm ta tb r) w (told r calls answers) + cancelled (fixed kc vc pm ta tb r) w (told r calls answers)
        ≡ taken (fixed kc vc pm ta tb r) w (told r calls answers)
    pub stored : entries_with w (ta.means r.first) + entries_with w (tb.means r.second) ≡ held_under (fixed kc vc pm ta tb r) w (told r calls answers)

  -- the promise about a register, the calls put to it since it was assembled, and the answers that it gave
  pub record Promise (r : Register K V P A B T U) (calls : List (Call T U)) (answers : List (Answer U)) : Type 0 where
    -- every answer is the machine's
    pub answers_alike : replies r answers ≡ (run (fixed kc vc pm ta tb r) closed calls).1
    -- the table in use means the machine's entries, and a table not in use is unformed
    pub tables : Stands kc vc pm ta tb r (machine r calls)
    -- wherever the history is cut in three, with no accepted take, cancel or enlarge in the middle
    pub listing : (before middle after : History T U) → told r calls answers ≡ before ++ (middle ++ after) → quiet middle ≡ true → Listing (fixed kc vc pm ta tb r) before middle
    -- of every value number
    pub counts : (w : ℕ) → Counted r calls answers w
    -- against every other permutation and tables, with equal codings
    pub alike : (g : Fixed T U) → SameCodings (fixed kc vc pm ta tb r) g → Agree calls (replies r answers) (run g closed calls).1

  -- every history that a register keeps the promise of, with one more call and its answer, is one that it then keeps the promise of
  abbrev pub Continues : (r s : Register K V P A B T U) → Call T U → Answer U → Type 0
  Continues r s call answer = (calls : List (Call T U)) (answers : List (Answer U)) → Promise r calls answers → Promise s (calls ++ (call ∷ [])) (answers ++ (answer ∷ []))

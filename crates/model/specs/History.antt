-- What a history, a list of calls with their replies, tells by itself: nothing here knows the machine but `history`.
--   History, paired, calls_of      the histories; calls and replies put together; the calls alone
--   accepted                       a reply that is no refusal
--   Deed, deed                     a call as what it would do to keys
--   covers, touches                the key numbers that a take or cancel is about; that of an accepted one
--   held, LastTake                 what a key number is held under; the take that says so
--   held_if, held_under, held_count   how many key numbers are held, under values that pass a test; under w; in all
--   taken, cancelled               the sums of n over the accepted takes, and cancels, under w
--   quiet                          no accepted take, cancel or enlarge
--   answers_four, full_take        a take that was answered with 4
--   history                        the history of a list of calls put to a closed machine
use Rattle.std.specs.Prelude.{◌≡◌, ℕ, zero, suc, ◌+◌, ◌^◌, Bool, true, false, cond, not, ◌&&◌, ◌||◌, List, [], ◌∷◌, ◌++◌, Some, None, Option, ◌==◌, nat_eq}
use Rattle.std.specs.List.{AllByRecursion}
use Rattle.model.specs.declared.call.Call.{Call}
use Rattle.model.specs.declared.call.Call.TheVariants.{Open, Take, Cancel, Find, Count, At, Enlarge}
use Rattle.model.specs.Entries.{within_run}
use Rattle.model.specs.Model.{Fixed, closed, Reply, refused, refused_at, answered, found, listed}
use Rattle.model.specs.Step.{run}

-- calls with their replies, the first call first
abbrev pub History : (K V : Type 0) → Type 0
History K V = List (Call K V × Reply)

-- each call with its reply
abbrev pub paired : {K V : Type 0} → List (Call K V) → List Reply → History K V
paired [] rs = []
paired (c ∷ cs) [] = []
paired (c ∷ cs) (r ∷ rs) = (c, r) ∷ paired cs rs

-- the calls of a history
abbrev pub calls_of : {K V : Type 0} → History K V → List (Call K V)
calls_of [] = []
calls_of (e ∷ h) = e.0 ∷ calls_of h

-- no refusal
abbrev pub accepted : Reply → Bool
accepted (refused number inside) = false
accepted (refused_at place number inside) = false
accepted (answered n) = true
accepted (found w) = true
accepted (listed m w) = true

-- a call as what it would do to keys
pub data Deed (K V : Type 0) : Type 0 where
  takes : K → ℕ → V → Deed K V
  cancels : K → ℕ → V → Deed K V
  neither : Deed K V

-- which it is
abbrev pub deed : {K V : Type 0} → Call K V → Deed K V
deed (Take key n value) = takes key n value
deed (Cancel key n value) = cancels key n value
deed (Open b) = neither
deed (Find key) = neither
deed Count = neither
deed (At i) = neither
deed Enlarge = neither

-- whether x is one of the n key numbers from the key's own on
abbrev pub from_key : Option ℕ → (n x : ℕ) → Bool
from_key None n x = false
from_key (Some m) n x = within_run m n x

-- whether there is a number, and it passes a test
abbrev pub having : (ℕ → Bool) → Option ℕ → Bool
having p None = false
having p (Some w) = p w

-- whether it is w
abbrev pub is : (w : ℕ) → Option ℕ → Bool
is w o = having (λ u. nat_eq u w) o

-- how many of the numbers below n pass a test
unfoldable pub count_below : (ℕ → Bool) → ℕ → ℕ
count_below p zero = 0
count_below p (suc n) = count_below p n + cond (p n) 1 0

module _ {K V : Type 0} (f : Fixed K V) where
  -- whether a key number is among those that a take or a cancel is about
  abbrev pub covers : Deed K V → ℕ → Bool
  covers (takes key n value) x = from_key (f.keys.number key) n x
  covers (cancels key n value) x = from_key (f.keys.number key) n x
  covers neither x = false

  -- what a take leaves at the key numbers that it covers; a cancel leaves nothing
  abbrev pub leaves : Deed K V → Option ℕ
  leaves (takes key n value) = f.values.number value
  leaves (cancels key n value) = None
  leaves neither = None

  -- whether it is an accepted take or cancel that covers x
  abbrev pub touches : (Call K V × Reply) → ℕ → Bool
  touches e x = accepted e.1 && covers (deed e.0) x

  -- what x is held under after one more call
  abbrev pub held_next : (Call K V × Reply) → ℕ → Option ℕ → Option ℕ
  held_next e x before = cond (touches e x) (leaves (deed e.0)) before

  -- what x is held under after more calls
  abbrev pub held_from : History K V → ℕ → Option ℕ → Option ℕ
  held_from [] x before = before
  held_from (e ∷ h) x before = held_from h x (held_next e x before)

  -- under which value number a key number is held: as the last accepted take or cancel that covers it says
  abbrev pub held : History K V → ℕ → Option ℕ
  held h x = held_from h x None

  -- the last accepted take or cancel that covers x is a take with the value of number w
  pub record LastTake (h : History K V) (x w : ℕ) : Type 0 where
    pub before : History K V
    pub key : K
    pub n : ℕ
    pub value : V
    pub reply : Reply
    pub after : History K V
    pub cut : h ≡ before ++ ((Take key n value, reply) ∷ after)
    pub done : accepted reply ≡ true
    pub covered : from_key (f.keys.number key) n x ≡ true
    pub valued : f.values.number value ≡ Some w
    pub last : AllByRecursion (λ e. touches e x ≡ false) after

  -- how many key numbers are held under a value number that passes a test
  abbrev pub held_if : (ℕ → Bool) → History K V → ℕ
  held_if p h = count_below (λ m. having p (held h m)) (2 ^ f.keys.width)

  -- how many key numbers are held under w
  abbrev pub held_under : (w : ℕ) → History K V → ℕ
  held_under w h = held_if (λ u. nat_eq u w) h

  -- how many key numbers are held
  abbrev pub held_count : History K V → ℕ
  held_count h = held_if (λ u. true) h

  -- how many keys a call takes under w, if it is accepted
  abbrev pub taken_by : (w : ℕ) → Deed K V → ℕ
  taken_by w (takes key n value) = cond (is w (f.values.number value)) n 0
  taken_by w (cancels key n value) = 0
  taken_by w neither = 0

  -- how many keys a call cancels under w, if it is accepted
  abbrev pub cancelled_by : (w : ℕ) → Deed K V → ℕ
  cancelled_by w (takes key n value) = 0
  cancelled_by w (cancels key n value) = cond (is w (f.values.number value)) n 0
  cancelled_by w neither = 0

  -- the sum of n over the accepted takes under w
  abbrev pub taken : (w : ℕ) → History K V → ℕ
  taken w [] = 0
  taken w (e ∷ h) = cond (accepted e.1) (taken_by w (deed e.0)) 0 + taken w h

  -- the sum of n over the accepted cancels under w
  abbrev pub cancelled : (w : ℕ) → History K V → ℕ
  cancelled w [] = 0
  cancelled w (e ∷ h) = cond (accepted e.1) (cancelled_by w (deed e.0)) 0 + cancelled w h

  -- a list of calls put to a closed machine, with its replies
  abbrev pub history : List (Call K V) → History K V
  history cs = paired cs (run f closed cs).1

-- a call that, accepted, changes what is held or where it stands
abbrev pub changes : {K V : Type 0} → Call K V → Bool
changes (Open b) = false
changes (Take key n value) = true
changes (Cancel key n value) = true
changes (Find key) = false
changes Count = false
changes (At i) = false
changes Enlarge = true

-- no accepted take, cancel or enlarge
abbrev pub quiet : {K V : Type 0} → History K V → Bool
quiet [] = true
quiet (e ∷ h) = not (accepted e.1 && changes e.0) && quiet h

-- a reply that is the refusal 4
abbrev pub answers_four : Reply → Bool
answers_four (refused number inside) = number == 4
answers_four (refused_at place number inside) = number == 4
answers_four (answered n) = false
answers_four (found w) = false
answers_four (listed m w) = false

-- a take that was answered with 4
abbrev pub full_deed : {K V : Type 0} → Deed K V → Reply → Bool
full_deed (takes key n value) r = answers_four r
full_deed (cancels key n value) r = false
full_deed neither r = false

-- the same of a call with its reply
abbrev pub full_take : {K V : Type 0} → (Call K V × Reply) → Bool
full_take e = full_deed (deed e.0) e.1

-- whether one of the first n passes a test
abbrev pub any_before : {X : Type 0} → (X → Bool) → (n : ℕ) → List X → Bool
any_before p zero h = false
any_before p (suc n) [] = false
any_before p (suc n) (e ∷ h) = p e || any_before p n h

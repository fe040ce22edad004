-- How a line of text is read: its words, the numbers that they write, and the stay that four of them make.
--
-- is_blank      a byte that parts words: a space, a tab or a carriage return
-- skipped       a text without its blank front
-- word          a text up to its first blank
-- after         a text from its first blank on
-- nth_word      the word at a place, the first being 0; none where there are too few
-- digit_after   the number that the digits of another and one more digit write
-- decimal       the number that a word writes in base ten, if all of it is digits and it is below 2^64
-- passed_over   a line with no word, or whose first byte that is not blank is a #
-- field_of      one number of a line, or what is wrong with it
-- stay_of       the stay that a line writes, or what is wrong with it first
use Rattle.std.specs.Prelude.{ℕ, zero, suc, ◌+◌, ◌-◌, ◌*◌, ◌^◌, Bool, true, cond, not, ◌&&◌, ◌||◌, List, [], ◌∷◌, drop, Some, None, Ok, Err, Option, Result, ◌==◌, nat_le, nat_lt}
use Rattle.std.specs.List.{position_or_len, before_first}
use Rattle.arrivals.specs.declared.stay.Stay.{Stay}
use Rattle.arrivals.specs.declared.stay.Field.{Field}
use Rattle.arrivals.specs.declared.stay.Field.TheVariants.{Pitch, First, Nights, Booking}
use Rattle.arrivals.specs.declared.stay.LineFault.{LineFault}
use Rattle.arrivals.specs.declared.stay.LineFault.TheVariants.{Missing, NotANumber, TooMany}

-- space, tab, carriage return
abbrev pub is_blank : ℕ → Bool
is_blank b = b == 32 || b == 9 || b == 13

abbrev pub skipped : List ℕ → List ℕ
skipped bs = drop (position_or_len (λ b. not (is_blank b)) bs) bs

abbrev pub word : List ℕ → List ℕ
word bs = before_first is_blank bs

abbrev pub after : List ℕ → List ℕ
after bs = drop (position_or_len is_blank bs) bs

unfoldable pub nth_word : List ℕ → ℕ → List ℕ
nth_word bs zero = word (skipped bs)
nth_word bs (suc i) = nth_word (after (skipped bs)) i

-- '0' to '9' are the bytes 48 to 57
abbrev pub is_digit : ℕ → Bool
is_digit b = nat_le 48 b && nat_le b 57

-- the number that the digits of n and one more write, if it is a digit and the number is below 2^64
abbrev pub digit_after : (n b : ℕ) → Option ℕ
digit_after n b = cond (is_digit b && nat_lt (n * 10 + (b - 48)) (2 ^ 64)) (Some (n * 10 + (b - 48))) None

-- the number of some digits behind those that wrote n
unfoldable pub decimal_from : (n : ℕ) → List ℕ → Option ℕ
decimal_from n [] = Some n
decimal_from n (b ∷ bs) = elim (digit_after n b) [ None ↦ None | Some m ↦ decimal_from m bs ]

abbrev pub decimal : List ℕ → Option ℕ
decimal w = decimal_from 0 w

abbrev pub opens_comment : List ℕ → Bool
opens_comment [] = true
opens_comment (b ∷ bs) = b == 35

abbrev pub passed_over : List ℕ → Bool
passed_over bs = opens_comment (nth_word bs 0)

abbrev pub number_or : Field → Option ℕ → Result ℕ LineFault
number_or f None = Err (NotANumber f)
number_or f (Some n) = Ok n

abbrev pub field_in : Field → List ℕ → Result ℕ LineFault
field_in f [] = Err (Missing f)
field_in f (b ∷ bs) = number_or f (decimal (b ∷ bs))

abbrev pub field_of : List ℕ → ℕ → Field → Result ℕ LineFault
field_of bs i f = field_in f (nth_word bs i)

-- a fifth word is one too many
abbrev pub stay_end : Stay → List ℕ → Result (Option Stay) LineFault
stay_end s [] = Ok (Some s)
stay_end s (b ∷ bs) = Err TooMany

abbrev pub stay_booking : List ℕ → (p f n : ℕ) → Result ℕ LineFault → Result (Option Stay) LineFault
stay_booking bs p f n (Err e) = Err e
stay_booking bs p f n (Ok w) = stay_end (record { pitch = p; first = f; nights = n; booking = w }) (nth_word bs 4)

abbrev pub stay_nights : List ℕ → (p f : ℕ) → Result ℕ LineFault → Result (Option Stay) LineFault
stay_nights bs p f (Err e) = Err e
stay_nights bs p f (Ok n) = stay_booking bs p f n (field_of bs 3 Booking)

abbrev pub stay_first : List ℕ → (p : ℕ) → Result ℕ LineFault → Result (Option Stay) LineFault
stay_first bs p (Err e) = Err e
stay_first bs p (Ok f) = stay_nights bs p f (field_of bs 2 Nights)

abbrev pub stay_pitch : List ℕ → Result ℕ LineFault → Result (Option Stay) LineFault
stay_pitch bs (Err e) = Err e
stay_pitch bs (Ok p) = stay_first bs p (field_of bs 1 First)

-- the four numbers in their order; nothing where the line is passed over
abbrev pub stay_of : List ℕ → Result (Option Stay) LineFault
stay_of bs = cond (passed_over bs) (Ok None) (stay_pitch bs (field_of bs 0 Pitch))

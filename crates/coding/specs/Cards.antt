-- Which barrier cards exist, and their numbers.
--
-- first_card, last_card   the cards are those from the one to the other
-- card_exists             whether there is such a card
-- card_number             the number of a card that exists
-- card_item               the card that has a number
use Rattle.std.specs.Prelude.{ℕ, Bool, Option}
use Rattle.coding.specs.Ranged.{in_range, own_number, own_item}
use Rattle.coding.specs.declared.items.Card.{Card}

-- cards are 1 to 4,294,967,295
abbrev pub first_card : ℕ
first_card = 1

abbrev pub last_card : ℕ
last_card = 4294967295

abbrev pub card_exists : ℕ → Bool
card_exists = in_range first_card last_card

-- a card's number is the one printed on it
abbrev pub card_number : Card → Option ℕ
card_number = own_number card_exists (λ x. x.number)

-- the card on which the number is printed
abbrev pub card_item : ℕ → Option Card
card_item = own_item card_exists (λ n. record { number = n })

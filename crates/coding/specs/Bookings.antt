-- Which bookings exist, and their numbers.
--
-- first_booking, last_booking   the bookings are those from the one to the other
-- booking_exists                whether there can be such a booking
-- booking_number                the number of a booking that can be
-- booking_item                  the booking that has a number
use Rattle.std.specs.Prelude.{ℕ, Bool, Option}
use Rattle.coding.specs.Ranged.{in_range, own_number, own_item}
use Rattle.coding.specs.declared.items.Booking.{Booking}

-- bookings are 1 to 9,999,999
abbrev pub first_booking : ℕ
first_booking = 1

abbrev pub last_booking : ℕ
last_booking = 9999999

abbrev pub booking_exists : ℕ → Bool
booking_exists = in_range first_booking last_booking

-- a booking's number is its own
abbrev pub booking_number : Booking → Option ℕ
booking_number = own_number booking_exists (λ x. x.number)

-- the booking of that number
abbrev pub booking_item : ℕ → Option Booking
booking_item = own_item booking_exists (λ n. record { number = n })

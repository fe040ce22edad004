-- What a stay, and what is wrong with a line or a stay, is called.
--
-- field_name         what a number of a stay is called
-- line_fault_text    what is wrong with a line that cannot be read
-- night_fault_text   why the nights of a stay are not all listed
-- no_booking_text    that a stay's booking does not exist
-- stay_text          a stay
use Rattle.std.specs.Prelude.{ℕ, List, ◌++◌, codes, cond, ◌==◌}
use Rattle.std.specs.Fmt.{decimal}
use Rattle.arrivals.specs.declared.stay.Stay.{Stay}
use Rattle.arrivals.specs.declared.stay.Field.{Field}
use Rattle.arrivals.specs.declared.stay.Field.TheVariants.{Pitch, First, Nights, Booking}
use Rattle.arrivals.specs.declared.stay.LineFault.{LineFault}
use Rattle.arrivals.specs.declared.stay.LineFault.TheVariants.{Missing, NotANumber, TooMany}
use Rattle.arrivals.specs.declared.findings.NightFault.{NightFault}
use Rattle.arrivals.specs.declared.findings.NoBooking.{NoBooking}
use Rattle.arrivals.specs.declared.findings.NightFault.TheVariants.{Length, NoPitch, NoNight}

abbrev pub field_name : Field → List ℕ
field_name Pitch = codes "pitch"
field_name First = codes "first night"
field_name Nights = codes "number of nights"
field_name Booking = codes "booking"

abbrev pub line_fault_text : LineFault → List ℕ
line_fault_text (Missing field) = codes "the " ++ (field_name field ++ codes " is missing")
line_fault_text (NotANumber field) = codes "the " ++ (field_name field ++ codes " is not a number below 2^64")
line_fault_text TooMany = codes "there is something after the booking"

abbrev pub night_fault_text : NightFault → List ℕ
night_fault_text Length = codes "a stay has 1 to 64 nights"
night_fault_text (NoPitch pitch) = codes "there is no pitch " ++ (decimal pitch ++ codes ": pitches are 0 to 999")
night_fault_text (NoNight night) = codes "there is no night " ++ (decimal night ++ codes ": nights are 0 to 731")

abbrev pub no_booking_text : NoBooking → List ℕ
no_booking_text fault = codes "there is no booking " ++ (decimal fault.booking ++ codes ": bookings are 1 to 9999999")

abbrev pub night_word : ℕ → List ℕ
night_word n = cond (n == 1) (codes "night") (codes "nights")

abbrev pub stay_text : Stay → List ℕ
stay_text s = codes "booking " ++ (decimal s.booking ++ (codes ": pitch " ++ (decimal s.pitch ++ (codes ", " ++ (decimal s.nights ++ (codes " " ++ (night_word s.nights ++ (codes " from night " ++ decimal s.first))))))))

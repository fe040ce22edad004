-- A register of nights as the model knows it, for the worked examples.
--
-- night_coding, booking_coding   the codings of its keys and values
-- plain_kind                     a plain table of 16,384 words
-- night_register                 the two, with every number left as it is, and two such tables
use Rattle.coding.specs.Bookings.{booking_item, booking_number}
use Rattle.coding.specs.Nights.{night_item, night_number}
use Rattle.coding.specs.declared.items.Booking.{Booking}
use Rattle.coding.specs.declared.items.Night.{Night}
use Rattle.model.specs.Model.{Coding, Fixed, Kind}
use Rattle.blocks.specs.PlainLayout.{fits}

abbrev pub night_coding : Coding Night
night_coding = record { width = 20; number = night_number; item = night_item }

abbrev pub booking_coding : Coding Booking
booking_coding = record { width = 24; number = booking_number; item = booking_item }

abbrev pub plain_kind : Kind
plain_kind = record { group = 1; limit = 15; fits = fits 16384 }

abbrev pub night_register : Fixed Night Booking
night_register = record {
  keys = night_coding;
  values = booking_coding;
  mix = record { width = 20; forth = λ m. m; back = λ m. m };
  first = plain_kind;
  second = plain_kind;
}

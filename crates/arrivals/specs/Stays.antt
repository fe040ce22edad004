-- What the check of an arrival list finds of a stay, and what it counts.
--
-- existing      how many nights of a pitch, from one on, exist before the first that does not
-- key_number    the key number of a night of a stay, the first being 0
-- found         what is found of a stay
-- fault_count   how many faults that is
-- sound_stay    a stay without a fault, which may be entered
-- counted       the totals with one stay more
-- unread        the totals with one line more that cannot be read
-- with_outcome  the totals with what came of entering one night
use Rattle.std.specs.Prelude.{ℕ, zero, suc, ◌+◌, ◌-◌, ◌^◌, min, max, Bool, true, false, cond, ◌&&◌, Some, None, Option, Ok, Err, Result, ◌==◌, nat_le}
use Rattle.coding.specs.Nights.{night_exists, night_number}
use Rattle.coding.specs.Bookings.{booking_exists}
use Rattle.table.specs.declared.refusal.TableRefusal.{TableRefusal}
use Rattle.arrivals.specs.declared.stay.Stay.{Stay}
use Rattle.arrivals.specs.declared.findings.NightFault.{NightFault}
use Rattle.arrivals.specs.declared.findings.NightFault.TheVariants.{Length, NoPitch, NoNight}
use Rattle.arrivals.specs.declared.findings.Findings.{Findings}
use Rattle.arrivals.specs.declared.findings.Totals.{Totals}

unfoldable pub existing : (pitch night n : ℕ) → ℕ
existing pitch night zero = 0
existing pitch night (suc n) = cond (night_exists pitch night) (suc (existing pitch (suc night) n)) 0

abbrev pub key_number : Stay → ℕ → Option ℕ
key_number s i = night_number (record { pitch = s.pitch; night = s.first + i })

-- a stay has 1 to 64 nights
abbrev pub few_nights : ℕ → Bool
few_nights n = nat_le 1 n && nat_le n 64

-- all nights exist, or the pitch does not, or the first night that does not is named
abbrev pub fault_after : Stay → (listed : ℕ) → Option NightFault
fault_after s listed =
    cond (listed == s.nights) None (cond (night_exists s.pitch 0) (Some (NoNight (s.first + listed))) (Some (NoPitch s.pitch)))

abbrev pub found_nights : Stay → (few : Bool) → Findings
found_nights s false = record { listed = 0; fault = Some Length; booked = booking_exists s.booking }
found_nights s true = record {
  listed = existing s.pitch s.first s.nights;
  fault = fault_after s (existing s.pitch s.first s.nights);
  booked = booking_exists s.booking;
}

abbrev pub found : Stay → Findings
found s = found_nights s (few_nights s.nights)

-- one for the nights, one for the booking
abbrev pub fault_count : Findings → ℕ
fault_count f = elim f.fault [ None ↦ 0 | Some e ↦ 1 ] + cond f.booked 0 1

-- nothing is wrong with it
abbrev pub sound_stay : Findings → Bool
sound_stay f = fault_count f == 0

-- a count stays at 2^64 - 1 once it is there
abbrev pub capped : ℕ → ℕ
capped n = min n (2 ^ 64 - 1)

abbrev pub counted : Totals → Findings → Totals
counted t f = record {
  stays = capped (t.stays + 1);
  nights = capped (t.nights + f.listed);
  faults = capped (t.faults + fault_count f);
  entered = t.entered;
  fullest = t.fullest;
}

abbrev pub unread : Totals → Totals
unread t = record {
  stays = t.stays;
  nights = t.nights;
  faults = capped (t.faults + 1);
  entered = t.entered;
  fullest = t.fullest;
}

-- a night that is entered is counted, and the load of its group if it is the largest yet; one that is refused is a fault
abbrev pub with_outcome : Totals → Result ℕ TableRefusal → Totals
with_outcome t (Ok load) = record {
  stays = t.stays;
  nights = t.nights;
  faults = t.faults;
  entered = capped (t.entered + 1);
  fullest = max t.fullest load;
}
with_outcome t (Err e) = unread t

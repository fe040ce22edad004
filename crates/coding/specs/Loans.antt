-- Which loans of a barrier card exist, and their numbers.
--
-- paid_bit      1 where the deposit is paid, else 0
-- loan_number   the number of a loan that exists
-- loan_item     the loan that has a number
use Rattle.std.specs.Prelude.{ℕ, ◌+◌, ◌*◌, ◌/◌, ◌%◌, Bool, cond, Some, None, Option, ◌==◌}
use Rattle.coding.specs.Nights.{night_exists}
use Rattle.coding.specs.declared.items.Loan.{Loan}

abbrev pub paid_bit : Bool → ℕ
paid_bit paid = cond paid 1 0

-- twice the number of the pitch on its last night, plus 1 if paid
abbrev pub loan_number : Loan → Option ℕ
loan_number x =
    cond (night_exists x.pitch x.last) (Some (2 * (x.pitch * 1024 + x.last) + paid_bit x.paid)) None

-- half the number is that of the pitch on its last night; an odd number is paid
abbrev pub loan_item : ℕ → Option Loan
loan_item n =
    cond (night_exists (n / 2 / 1024) (n / 2 % 1024))
    (Some (record { pitch = n / 2 / 1024; last = n / 2 % 1024; paid = (n % 2 == 1) })) None

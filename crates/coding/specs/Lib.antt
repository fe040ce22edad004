pub mod Bookings
pub mod Cards
pub mod Loans
pub mod Nights
pub mod Ranged

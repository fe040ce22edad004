pub mod Formulas
pub mod Refusals
pub mod Below
pub mod Modulo
pub mod Widening
pub mod Shifts

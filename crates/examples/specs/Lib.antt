pub mod NightRegister
pub mod Worked

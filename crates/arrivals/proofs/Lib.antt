mod Digits
mod Fronts
mod Nights
mod Words

pub mod WordLemmas
mod WorkedExceptions
mod WorkedPlaces

mod TallFormed
mod WorkedBindable
mod WorkedFormed

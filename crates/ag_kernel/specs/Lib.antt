-- What lines say, and what each rule makes.
pub mod State
pub mod Sets
pub mod Faults
pub mod Marks
pub mod Marking
pub mod Keeping
pub mod Rules
pub mod Units
pub mod Sums
pub mod Steps
pub mod Theories

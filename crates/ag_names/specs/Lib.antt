-- What declarations, subcomponents and connections mean across packages, and which rules they break.
pub mod Broken
pub mod Categories
pub mod Containing
pub mod Declaring
pub mod Ends
pub mod Found
pub mod Graph
pub mod Keys
pub mod Links
pub mod Names
pub mod Order
pub mod Passes
pub mod Placed
pub mod Ports
pub mod Tables
pub mod Twice

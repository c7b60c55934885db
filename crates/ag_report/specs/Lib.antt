-- The texts of replies.
pub mod Tables
pub mod Texts

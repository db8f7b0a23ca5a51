pub mod Spent

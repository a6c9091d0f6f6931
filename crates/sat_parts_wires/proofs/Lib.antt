mod Grown
mod Found

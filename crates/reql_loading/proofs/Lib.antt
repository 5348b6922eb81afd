mod Halls
mod Ones

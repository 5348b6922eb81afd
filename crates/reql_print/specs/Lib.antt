pub mod Printed
pub mod Laws
pub mod Indexed

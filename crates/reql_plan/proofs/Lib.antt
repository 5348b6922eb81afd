mod Arms
mod Chosen
mod Closed
mod Held
mod Moments
mod Moving
mod Showing

mod Back
mod Texts

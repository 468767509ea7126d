mod Saturation
mod Cutting
mod Parting
mod Back
mod Again

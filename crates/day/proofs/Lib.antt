mod Cutting
mod Turning
mod Staying

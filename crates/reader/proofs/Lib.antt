mod Bits
mod Carries

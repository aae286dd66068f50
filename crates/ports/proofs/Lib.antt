mod Climbing
mod Naming

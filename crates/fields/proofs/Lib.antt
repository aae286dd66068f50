mod NamesRead
mod Begun

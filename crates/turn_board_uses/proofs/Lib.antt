mod Adding
mod Callers

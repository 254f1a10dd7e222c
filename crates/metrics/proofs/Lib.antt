mod Escapes
mod Lines
mod Numbers

pub mod Lengthen

pub mod Fitting
pub mod Numbers

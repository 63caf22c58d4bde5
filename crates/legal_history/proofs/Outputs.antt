-- What a base says hangs on the bytes of objects only where it is asked for them.
pub mod Alike
pub mod Deeds
pub mod Emptied
pub mod Fitting
pub mod Reruns
pub mod States

-- What reading a journal on adds.
mod Reading

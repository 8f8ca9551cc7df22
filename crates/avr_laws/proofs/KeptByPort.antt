-- the chip file of a run over the emulator; each port of the program
pub mod InFile
pub mod EachPort

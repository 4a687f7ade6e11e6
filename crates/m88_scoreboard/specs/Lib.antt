-- What contracts cite: the register file and its scoreboard.
pub mod Registers

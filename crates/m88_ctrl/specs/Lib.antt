-- What contracts cite: the control registers.
pub mod ControlRegisters

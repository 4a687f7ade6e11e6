-- What contracts cite: the service of the transactions that a fault left.
pub mod Serving
pub mod Inside

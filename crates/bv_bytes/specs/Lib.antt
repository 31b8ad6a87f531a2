-- CRC-32 in whole bytes, and what a write of a field leaves.
pub mod Crc
pub mod Rows

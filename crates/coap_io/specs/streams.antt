-- Defined by this project: the bytes that devices and connections pass on, and the calls that they record.
pub mod Device
pub mod Wires
pub mod DeviceTraces

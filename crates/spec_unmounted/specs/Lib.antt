-- What an unmount leaves on the device.
pub mod Unmounted

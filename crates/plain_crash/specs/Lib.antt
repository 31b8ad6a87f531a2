-- What the plain programs of a stop find, as values of the definitions, and the parts that they test.
pub mod Holding
pub mod Placed
pub mod Volumes

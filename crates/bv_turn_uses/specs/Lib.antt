-- Sessions on threads: what each adds, and how their shares come back.
pub mod Ends
pub mod Events

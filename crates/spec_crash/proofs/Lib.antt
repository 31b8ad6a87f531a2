pub mod CarryLemmas
pub mod CrashLemmas
pub mod FormatLemmas
pub mod TimingLemmas

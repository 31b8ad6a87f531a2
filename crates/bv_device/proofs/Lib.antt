pub mod CrashLemmas
pub mod MemoryLemmas
pub mod PlanLemmas
pub mod ReadsLemmas
pub mod ScheduleLemmas
pub mod SeenLemmas
pub mod StopLemmas
pub mod TracedLemmas

-- What stops leave of a device that is being formatted.
mod WriteLemmas
mod SuperLemmas
mod RunLemmas
mod PlanLemmas
mod StopLemmas
mod FormatsLemmas
mod PhaseLemmas

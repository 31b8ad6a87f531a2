mod Nexts
mod ChanceLemmas
mod VolumeLemmas

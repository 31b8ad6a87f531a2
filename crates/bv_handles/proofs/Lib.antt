pub mod HoldersLemmas

pub mod FrontsLemmas

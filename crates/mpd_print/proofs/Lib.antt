pub mod PrintLemmas

pub mod AnnouncedLemmas

pub mod NumberLemmas
pub mod WindowLemmas
pub mod LineLemmas
pub mod DecodeLemmas

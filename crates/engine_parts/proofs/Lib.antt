pub mod ListProofs
pub mod CacheLemmas
pub mod CountLemmas
pub mod KeyLemmas
pub mod ItemLemmas
pub mod NoticeLemmas
pub mod WriteSetLemmas

pub mod Lists
pub mod Caches
pub mod KeysRead
pub mod WriteSets
pub mod WaitingNotices

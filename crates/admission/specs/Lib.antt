-- The statistics as they are counted over the node store.
pub mod Count
pub mod Entry

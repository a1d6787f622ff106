-- A hole in the heap that is moved and filled, and entries whose ranks are mapped.
pub mod Heap
-- A list that is copied key by key.
pub mod Adaptive

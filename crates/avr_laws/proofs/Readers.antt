-- Any reader: what status 0 means if only reading can be believed.
pub mod ReadRows
pub mod LastActions
pub mod LastImages

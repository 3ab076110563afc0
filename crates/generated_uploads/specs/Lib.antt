pub mod GeneratedMedia
pub mod GeneratedUploads

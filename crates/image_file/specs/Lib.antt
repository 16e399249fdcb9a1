pub mod Numbers
pub mod Images
pub mod Puts
pub mod PutBy

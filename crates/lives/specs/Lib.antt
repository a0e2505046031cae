pub mod Report
pub mod Life
pub mod Style
pub mod Test

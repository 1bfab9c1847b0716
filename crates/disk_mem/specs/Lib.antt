pub mod Pages
pub mod Events
pub mod Medium
pub mod Strikes
pub mod Obeys
pub mod Laws
pub mod Tears

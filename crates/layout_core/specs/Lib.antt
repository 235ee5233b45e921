pub mod Cut
pub mod Objects
pub mod Inside
pub mod Laws

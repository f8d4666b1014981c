pub mod Module
pub mod Grammar

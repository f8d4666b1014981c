pub mod ItemLaws
pub mod ItemParts
pub mod ItemBreaks

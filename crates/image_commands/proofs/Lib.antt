pub mod SayLaws
pub mod LineLaws
pub mod EndLaws
pub mod AskedLaws
pub mod Parameters

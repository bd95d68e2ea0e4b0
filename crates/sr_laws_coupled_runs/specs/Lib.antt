pub mod CoupledLaws
pub mod NoneBack

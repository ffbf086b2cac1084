pub mod GroupLaws
pub mod LayoutLaws
pub mod MaskLaws
pub mod PieceLaws
pub mod ScalingLaws
pub mod Settled

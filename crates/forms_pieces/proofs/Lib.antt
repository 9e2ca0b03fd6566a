pub mod FoldLaws
pub mod PanelLaws
pub mod LeftLaws
pub mod PieceLaws

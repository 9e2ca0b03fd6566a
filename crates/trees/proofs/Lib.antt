pub mod PlaneLaws
pub mod PartialLaws
pub mod SixteenLaws
pub mod FourLaws

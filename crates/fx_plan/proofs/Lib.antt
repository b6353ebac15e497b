pub mod ArrangedLaws
pub mod PlanLaws
pub mod SaidLaws
pub mod SlotLaws
pub mod StreamLimits

pub mod PlanePairs

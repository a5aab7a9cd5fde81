pub mod ChainPlanLaws

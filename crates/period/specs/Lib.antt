pub mod PeriodLaws

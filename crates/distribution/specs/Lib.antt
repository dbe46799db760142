pub mod ByStatistic

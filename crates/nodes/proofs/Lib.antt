pub mod NodeAt
pub mod ExistsAt

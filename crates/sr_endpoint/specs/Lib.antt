pub mod AlarmLogs
pub mod AnyRoles
pub mod Counting
pub mod Endpoints
pub mod Snapshots
pub mod Telling

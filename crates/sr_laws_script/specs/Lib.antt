pub mod NodeScripts
pub mod StatusScripts
pub mod PlantScripts

pub mod KnownWorlds
pub mod MadeWorlds
pub mod LineWorlds
pub mod RulesAside
pub mod Plain

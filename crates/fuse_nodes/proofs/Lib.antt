pub mod TableLaws
pub mod ChangeLaws
pub mod SoundLaws
pub mod Losing
pub mod FileKinds
pub mod Removals
pub mod Staying

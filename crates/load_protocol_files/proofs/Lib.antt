pub mod FileSpellings

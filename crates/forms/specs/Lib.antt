pub mod FormNames

-- Equal nodes, the order of terms, what is bootstrapped already, and forms.
pub mod Store
pub mod Order
pub mod Reuse
pub mod Forms
pub mod First
pub mod Equal
